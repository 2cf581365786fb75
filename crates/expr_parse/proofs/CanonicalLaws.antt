-- What a text is parsed as is parsed from its canonical text too.
use Rattle.std.proofs.Common.{◌≡◌, ◌∙◌, ◌≤◌, ◌+◌, ◌-◌, ℕ, ℤ, zero, suc, Bool, true, false, List, [], ◌∷◌, length, map, Option, Some, None, Result, Ok, Err, refl, ap, subst, arith}
use Rattle.std.specs.Prelude.{if◌then◌else◌, nat_lt, codes}
use Rattle.std.specs.Str.{bytes_eq}
use Rattle.std.proofs.lemmas.Bool.{ltb-false}
use Rattle.std.proofs.lemmas.List.{length-map}
use Rattle.expr_parse.specs.Canonical.{canonical_text}
use Rattle.expr_parse.specs.Lexemes.{lexeme_of, lexeme_of_bytes, reserved_lexeme, sign_lexeme, word_lexeme}
use Rattle.expr_parse.specs.Nesting.{is_nested}
use Rattle.expr_parse.specs.Parsed.{IsTextOf, by_grammar, by_lexemes, by_tokens, limited, parsed}
use Rattle.expr_parse.specs.Pending.{query, sticks}
use Rattle.expr_parse.specs.Printed.{IsNamedQuery, IsNamedSeries}
use Rattle.expr_parse.specs.QueryGrammar as q
use Rattle.expr_parse.specs.Reading.{tree_of}
use Rattle.expr_parse.specs.SeriesGrammar as s
use Rattle.expr_parse.specs.SeriesGrammar.{IsRange, IsWhole, negative, positive, range}
use Rattle.expr_parse.specs.Tokens.{at_front, at_place, before, front, tokenized, tokens_from, tokens_of}
use Rattle.expr_parse.specs.declared.error.ParseErr.{ParseErr}
use Rattle.expr_parse.specs.declared.error.ParseErr.TheVariants as refusal
use Rattle.expr_parse.specs.declared.lexeme.Lexeme.{Lexeme}
use Rattle.expr_parse.specs.declared.lexeme.Lexeme.TheVariants.{Named, Sum, VarNum, CovNum, Const, Shift, Open, Close, Comma, Plus, Minus, Times}
use Rattle.expr_parse.specs.declared.token.Kind.{Kind}
use Rattle.expr_parse.specs.declared.token.Kind.TheVariants as kind
use Rattle.expr_parse.specs.declared.token.Token.{Token}
use Rattle.expr_parse.proofs.Bounds.{small_said}
use Rattle.expr_parse.proofs.CanonicalParsed.{canonical_is_parsed, parsed_is_text}
use Rattle.expr_parse.proofs.CanonicalShort.{canonical_is_shortest}
use Rattle.expr_parse.proofs.Whole.{within_limits}
use Rattle.num_text.specs.Cells.{is_blank}
use Rattle.semantics.specs.Limits.{most_names_in, query_depth, sums_in}
use Rattle.semantics.specs.Names.{is_name}
use Rattle.semantics.specs.Term.{QueryTerm, Range, Term}

-- ---- names

abbrev AreNamed : List Lexeme → Type 0
AreNamed [] = Unit {0}
AreNamed (Named n ∷ ls) = (is_name n ≡ true) × AreNamed ls
AreNamed (_ ∷ ls) = AreNamed ls

whole_named : {ts rest : List Lexeme} {v : ℤ} → IsWhole ts rest v → AreNamed ts → AreNamed rest
whole_named positive h = h
whole_named negative h = h

range_named : {ts rest : List Lexeme} {b : Range} → IsRange ts rest b → AreNamed ts → AreNamed rest
range_named (range l r) h = whole_named r.0 (whole_named l.0 h)

mutual
  series_named : {ts rest : List Lexeme} {t : Term} → s.IsSeries ts rest t → AreNamed ts → IsNamedSeries t × AreNamed rest
  series_named (s.product p) h = product_named p h
  series_named (s.plus_product a p) h =
      let left = series_named a h in let right = product_named p left.1 in ((left.0, right.0), right.1)
  series_named (s.minus_product a p) h =
      let left = series_named a h in let right = product_named p left.1 in ((left.0, right.0), right.1)

  product_named : {ts rest : List Lexeme} {t : Term} → s.IsProduct ts rest t → AreNamed ts → IsNamedSeries t × AreNamed rest
  product_named (s.factor f) h = factor_named f h
  product_named (s.times_factor p f) h =
      let left = product_named p h in let right = factor_named f left.1 in ((left.0, right.0), right.1)

  factor_named : {ts rest : List Lexeme} {t : Term} → s.IsFactor ts rest t → AreNamed ts → IsNamedSeries t × AreNamed rest
  factor_named s.name h = h
  factor_named (s.whole w) h = (tt, whole_named w h)
  factor_named (s.grouped a) h = series_named a h
  factor_named (s.const w b) h = (tt, range_named b (whole_named w h))
  factor_named (s.shifted a k) h = let u = series_named a h in (u.0, whole_named k.0 u.1)

mutual
  query_named : {ts rest : List Lexeme} {t : QueryTerm} → q.IsQuery ts rest t → AreNamed ts → IsNamedQuery t × AreNamed rest
  query_named (q.product p) h = term_named p h
  query_named (q.plus_product a p) h =
      let left = query_named a h in let right = term_named p left.1 in ((left.0, right.0), right.1)
  query_named (q.minus_product a p) h =
      let left = query_named a h in let right = term_named p left.1 in ((left.0, right.0), right.1)

  term_named : {ts rest : List Lexeme} {t : QueryTerm} → q.IsProduct ts rest t → AreNamed ts → IsNamedQuery t × AreNamed rest
  term_named (q.factor f) h = operand_named f h
  term_named (q.times_factor p f) h =
      let left = term_named p h in let right = operand_named f left.1 in ((left.0, right.0), right.1)

  operand_named : {ts rest : List Lexeme} {t : QueryTerm} → q.IsFactor ts rest t → AreNamed ts → IsNamedQuery t × AreNamed rest
  operand_named (q.whole w) h = (tt, whole_named w h)
  operand_named (q.grouped a) h = query_named a h
  operand_named (q.sum_of a) h = series_named a h
  operand_named (q.sum_over a b) h = let u = series_named a h in (u.0, range_named b u.1)
  operand_named (q.varnum a b) h = let u = series_named a h in (u.0, range_named b u.1)
  operand_named (q.covnum a c b) h =
      let u = series_named a h in let v = series_named c u.1 in ((u.0, v.0), range_named b v.1)

abbrev IsNamedLexeme : Lexeme → Type 0
IsNamedLexeme l = AreNamed (l ∷ [])

reserved_named : (bytes : List ℕ) → IsNamedLexeme (reserved_lexeme bytes)
reserved_named bytes =
    by (bytes_eq bytes (codes "sum")) (bytes_eq bytes (codes "varnum")) (bytes_eq bytes (codes "covnum"))
    (bytes_eq bytes (codes "const"))
  where
    by : (a b c d : Bool)
        → IsNamedLexeme (if a then Sum else (if b then VarNum else (if c then CovNum else (if d then Const else Shift))))
    by true b c d = tt
    by false true c d = tt
    by false false true d = tt
    by false false false true = tt
    by false false false false = tt

word_named : (bytes : List ℕ) → IsNamedLexeme (word_lexeme bytes)
word_named bytes = by (is_name bytes) refl
  where
    by : (b : Bool) → is_name bytes ≡ b → IsNamedLexeme (if b then Named bytes else reserved_lexeme bytes)
    by true e = (e, tt)
    by false e = reserved_named bytes

sign_named : (bytes : List ℕ) → IsNamedLexeme (sign_lexeme bytes)
sign_named bytes =
    by (bytes_eq bytes (codes "(")) (bytes_eq bytes (codes ")")) (bytes_eq bytes (codes ","))
    (bytes_eq bytes (codes "+")) (bytes_eq bytes (codes "-"))
  where
    by : (a b c d e : Bool)
        → IsNamedLexeme (if a then Open else (if b then Close else (if c then Comma else (if d then Plus
        else (if e then Minus else Times)))))
    by true b c d e = tt
    by false true c d e = tt
    by false false true d e = tt
    by false false false true e = tt
    by false false false false true = tt
    by false false false false false = tt

lexeme_named : (k : Kind) (bytes : List ℕ) → IsNamedLexeme (lexeme_of_bytes k bytes)
lexeme_named kind.Word bytes = word_named bytes
lexeme_named kind.Number bytes = tt
lexeme_named kind.Sign bytes = sign_named bytes

named_front : (l : Lexeme) (ls : List Lexeme) → IsNamedLexeme l → AreNamed ls → AreNamed (l ∷ ls)
named_front (Named n) ls h k = (h.0, k)
named_front _ ls h k = k

named_lexemes : (text : List ℕ) (ts : List Token) → AreNamed (map (lexeme_of text) ts)
named_lexemes text [] = tt
named_lexemes text (t ∷ ts) =
    named_front (lexeme_of text t) (map (lexeme_of text) ts) (lexeme_named t.kind _) (named_lexemes text ts)

-- ---- tokens

few_before : (t : Token) (r : Result (List Token) ℕ) (n : ℕ) (ts : List Token)
    → ((us : List Token) → r ≡ Ok us → length us ≤ n) → before t r ≡ Ok ts → length ts ≤ suc n
few_before t (Ok us) n ts further h = let same : t ∷ us ≡ ts = cc in omega (arith, ap length same, further us refl)
few_before t (Err place) n ts further h = cc

few_front : (place c : ℕ) (cs : List ℕ) (ts : List Token)
    → ((left at : ℕ) (us : List Token) → tokens_from left at cs ≡ Ok us → length us ≤ length cs)
    → (o : Option (Kind × ℕ)) → at_front place o (λ left. tokens_from left (suc place) cs) ≡ Ok ts
    → length ts ≤ length (c ∷ cs)
few_front place c cs ts further None e = cc
few_front place c cs ts further (Some found) e =
    few_before (record { kind = found.0; from = place; to = place + found.1 }) (tokens_from (found.1 - 1) (suc place) cs)
    (length cs) ts (λ us is. further (found.1 - 1) (suc place) us is) e

few_at : (place c : ℕ) (cs : List ℕ) (ts : List Token)
    → ((left at : ℕ) (us : List Token) → tokens_from left at cs ≡ Ok us → length us ≤ length cs)
    → (b : Bool) → (if b then tokens_from zero (suc place) cs
    else at_front place (front (c ∷ cs)) (λ left. tokens_from left (suc place) cs)) ≡ Ok ts
    → length ts ≤ length (c ∷ cs)
few_at place c cs ts further true e = omega (arith, further zero (suc place) ts e)
few_at place c cs ts further false e = few_front place c cs ts further (front (c ∷ cs)) e

-- a text has no more tokens than bytes
few_from : (left place : ℕ) (text : List ℕ) (ts : List Token) → tokens_from left place text ≡ Ok ts → length ts ≤ length text
few_from left place [] ts h = let none : ts ≡ [] = cc in omega (arith, ap length none)
few_from (suc left) place (c ∷ cs) ts h = omega (arith, few_from left (suc place) cs ts h)
few_from zero place (c ∷ cs) ts h = few_at place c cs ts (λ left at us is. few_from left at cs us is) (is_blank c) h

record IsShort (text : List ℕ) (ts : List Token) : Type 0 where
  pub whole : length text ≤ 4096
  pub tokens : length ts ≤ 4096

short : (text : List ℕ) (ts : List Token) → tokenized text ≡ Ok ts → IsShort text ts
unfolding tokens_of
short text ts h = by (nat_lt 4096 (length text)) refl (tokens_from 0 0 text) refl h
  where
    by : (b : Bool) → nat_lt 4096 (length text) ≡ b → (r : Result (List Token) ℕ) → tokens_from 0 0 text ≡ r
        → ◌≡◌ {A = Result (List Token) ParseErr} (if b then Err refusal.TooLong else at_place r) (Ok ts) → IsShort text ts
    by true x r is e = cc
    by false x (Err place) is e = cc
    by false x (Ok us) is e =
        let same : us ≡ ts = cc in
        let few : length ts ≤ length text = few_from 0 0 text ts (is ∙ ap Ok same) in
        let whole : length text ≤ 4096 = ltb-false 4096 (length text) x in
        record { whole = whole; tokens = omega (arith, few, whole) }

-- ---- limits

record IsLimited (t : QueryTerm) : Type 0 where
  pub depth : query_depth t ≤ 64
  pub sums : sums_in t ≤ 16
  pub names : most_names_in t ≤ 32

limited_in : (p t : QueryTerm) → limited p ≡ Ok t → IsLimited t
limited_in p t h =
    by (nat_lt 64 (query_depth p)) (nat_lt 16 (sums_in p)) (nat_lt 32 (most_names_in p)) refl refl refl h
  where
    by : (a b c : Bool) → nat_lt 64 (query_depth p) ≡ a → nat_lt 16 (sums_in p) ≡ b → nat_lt 32 (most_names_in p) ≡ c
        → ◌≡◌ {A = Result QueryTerm ParseErr} (if a then Err refusal.TooDeep else (if b then Err refusal.TooManySums
        else (if c then Err refusal.TooManyNames else Ok p))) (Ok t) → IsLimited t
    by true b c x y z e = cc
    by false true c x y z e = cc
    by false false true x y z e = cc
    by false false false x y z e =
        let same : p ≡ t = cc in
        subst IsLimited same (record {
          depth = ltb-false 64 (query_depth p) x;
          sums = ltb-false 16 (sums_in p) y;
          names = ltb-false 32 (most_names_in p) z;
        })

limited_by : (text : List ℕ) (ts : List Token) (stuck : Option ℕ) (tree : Option QueryTerm) (t : QueryTerm)
    → by_grammar text ts stuck tree ≡ Ok t → IsLimited t
limited_by text ts (Some left) tree t h = cc
limited_by text ts None (Some p) t h = limited_in p t h
limited_by text ts None None t h = cc

limited_lexemes : (text : List ℕ) (ts : List Token) (said : List Lexeme) (t : QueryTerm)
    → by_lexemes text ts said ≡ Ok t → IsLimited t
limited_lexemes text ts said t h = by (is_nested 0 0 said) h
  where
    by : (b : Bool) → ◌≡◌ {A = Result QueryTerm ParseErr} (if b then Err refusal.TooDeep
        else by_grammar text ts (sticks (query ∷ []) said) (tree_of said)) (Ok t) → IsLimited t
    by true e = cc
    by false e = limited_by text ts (sticks (query ∷ []) said) (tree_of said) t e

limited_text : (text : List ℕ) (t : QueryTerm) → parsed text ≡ Ok t → IsLimited t
unfolding parsed
limited_text text t h = by (tokenized text) h
  where
    by : (r : Result (List Token) ParseErr) → by_tokens text r ≡ Ok t → IsLimited t
    by (Err e) f = cc
    by (Ok ts) f = limited_lexemes text ts (map (lexeme_of text) ts) t f

-- ---- the canonical text

pub canonical-parsed : (text : List ℕ) (t : QueryTerm) → parsed text ≡ Ok t → parsed (canonical_text t) ≡ Ok t
canonical-parsed text t h =
    let is : IsTextOf text t = parsed_is_text text t h in
    let said : List Lexeme = map (lexeme_of text) is.tokens in
    let few = short text is.tokens is.are in
    let limits = limited_text text t h in
    let named = query_named is.grammar (named_lexemes text is.tokens) in
    let within = within_limits said t is.grammar (omega (arith, few.tokens, length-map is.tokens (lexeme_of text)))
    (small_said text is.tokens said refl) limits.depth limits.sums limits.names in
    canonical_is_parsed t named.0 within (omega (arith, canonical_is_shortest text t is, few.whole))
