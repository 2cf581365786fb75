-- What the grammar reads is within limits: places are near, numbers are small, and nodes are no more than tokens.
use Rattle.std.proofs.Common.{◌≡◌, ◌≤◌, ◌<◌, ◌+◌, ◌^◌, ℕ, suc, ℤ, Bool, true, false, cond, List, [], ◌∷◌, length, map, refl, ap, arith}
use Rattle.std.specs.Prelude.{Option, Some, None, codes, unsigned_abs}
use Rattle.std.specs.Str.{bytes_eq}
use Rattle.semantics.specs.Limits.{nodes_in, HasSmallConstants, HasSmallNumbers, IsNearQuery, IsNearRange, IsNearSeries, IsSmall}
use Rattle.semantics.specs.Names.{is_name}
use Rattle.semantics.specs.Numbers.{number_in}
use Rattle.semantics.specs.Term.{Term, Range, QueryTerm}
use Rattle.expr_parse.specs.declared.lexeme.Lexeme.{Lexeme}
use Rattle.expr_parse.specs.declared.lexeme.Lexeme.TheVariants.{Number, Named, Sum, VarNum, CovNum, Const, Shift, Open, Close, Comma, Plus, Minus, Times}
use Rattle.expr_parse.specs.declared.token.Kind.{Kind}
use Rattle.expr_parse.specs.declared.token.Kind.TheVariants as kind
use Rattle.expr_parse.specs.declared.token.Token.{Token}
use Rattle.expr_parse.specs.Lexemes.{lexeme_of, lexeme_of_bytes, magnitude_in, reserved_lexeme, sign_lexeme, word_lexeme}
use Rattle.expr_parse.specs.QueryGrammar as q
use Rattle.expr_parse.specs.SeriesGrammar as s
use Rattle.expr_parse.specs.SeriesGrammar.{IsWhole, IsPlace, IsRange, positive, negative, range}
use Rattle.expr_parse.specs.Small.{AreSmall}
use Rattle.expr_parse.specs.Tokens.{AreInOrder}
use Rattle.expr_parse.proofs.Passes.{abs_of_negative}
use Rattle.expr_parse.proofs.Scanned.{number_in_small}

-- ---- places

range_near : {ts rest : List Lexeme} {b : Range} → IsRange ts rest b → IsNearRange (Some b)
range_near (range l r) = (l.1, r.1)

mutual
  series_near : {ts rest : List Lexeme} {t : Term} → s.IsSeries ts rest t → IsNearSeries t
  series_near (s.product p) = product_near p
  series_near (s.plus_product a p) = (series_near a, product_near p)
  series_near (s.minus_product a p) = (series_near a, product_near p)

  product_near : {ts rest : List Lexeme} {t : Term} → s.IsProduct ts rest t → IsNearSeries t
  product_near (s.factor f) = factor_near f
  product_near (s.times_factor p f) = (product_near p, factor_near f)

  factor_near : {ts rest : List Lexeme} {t : Term} → s.IsFactor ts rest t → IsNearSeries t
  factor_near s.name = tt
  factor_near (s.whole w) = tt
  factor_near (s.grouped a) = series_near a
  factor_near (s.const w b) = range_near b
  factor_near (s.shifted a k) = (series_near a, k.1)

mutual
  pub query_near : {ts rest : List Lexeme} {t : QueryTerm} → q.IsQuery ts rest t → IsNearQuery t
  query_near (q.product p) = term_near p
  query_near (q.plus_product a p) = (query_near a, term_near p)
  query_near (q.minus_product a p) = (query_near a, term_near p)

  term_near : {ts rest : List Lexeme} {t : QueryTerm} → q.IsProduct ts rest t → IsNearQuery t
  term_near (q.factor f) = operand_near f
  term_near (q.times_factor p f) = (term_near p, operand_near f)

  operand_near : {ts rest : List Lexeme} {t : QueryTerm} → q.IsFactor ts rest t → IsNearQuery t
  operand_near (q.whole w) = tt
  operand_near (q.grouped a) = query_near a
  operand_near (q.sum_of a) = (series_near a, tt)
  operand_near (q.sum_over a b) = (series_near a, range_near b)
  operand_near (q.varnum a b) = (series_near a, range_near b)
  operand_near (q.covnum a c b) = (series_near a, series_near c, range_near b)

-- ---- numbers

whole_small : {ts rest : List Lexeme} {v : ℤ} → IsWhole ts rest v → AreSmall ts → IsSmall v × AreSmall rest
whole_small positive h = (h.0, h.1)
whole_small (negative {n = n}) h = (rw abs_of_negative h.0, h.1)

range_small : {ts rest : List Lexeme} {b : Range} → IsRange ts rest b → AreSmall ts → AreSmall rest
range_small (range l r) h = (whole_small r.0 (whole_small l.0 h).1).1

mutual
  series_small : {ts rest : List Lexeme} {t : Term} → s.IsSeries ts rest t → AreSmall ts → HasSmallConstants t × AreSmall rest
  series_small (s.product p) h = product_small p h
  series_small (s.plus_product a p) h = let left = series_small a h in let right = product_small p left.1 in ((left.0, right.0), right.1)
  series_small (s.minus_product a p) h = let left = series_small a h in let right = product_small p left.1 in ((left.0, right.0), right.1)

  product_small : {ts rest : List Lexeme} {t : Term} → s.IsProduct ts rest t → AreSmall ts → HasSmallConstants t × AreSmall rest
  product_small (s.factor f) h = factor_small f h
  product_small (s.times_factor p f) h = let left = product_small p h in let right = factor_small f left.1 in ((left.0, right.0), right.1)

  factor_small : {ts rest : List Lexeme} {t : Term} → s.IsFactor ts rest t → AreSmall ts → HasSmallConstants t × AreSmall rest
  factor_small s.name h = (tt, h)
  factor_small (s.whole w) h = whole_small w h
  factor_small (s.grouped a) h = series_small a h
  factor_small (s.const w b) h = let v = whole_small w h in (v.0, range_small b v.1)
  factor_small (s.shifted a k) h = let u = series_small a h in (u.0, (whole_small k.0 u.1).1)

mutual
  query_small : {ts rest : List Lexeme} {t : QueryTerm} → q.IsQuery ts rest t → AreSmall ts → HasSmallNumbers t × AreSmall rest
  query_small (q.product p) h = term_small p h
  query_small (q.plus_product a p) h = let left = query_small a h in let right = term_small p left.1 in ((left.0, right.0), right.1)
  query_small (q.minus_product a p) h = let left = query_small a h in let right = term_small p left.1 in ((left.0, right.0), right.1)

  term_small : {ts rest : List Lexeme} {t : QueryTerm} → q.IsProduct ts rest t → AreSmall ts → HasSmallNumbers t × AreSmall rest
  term_small (q.factor f) h = operand_small f h
  term_small (q.times_factor p f) h = let left = term_small p h in let right = operand_small f left.1 in ((left.0, right.0), right.1)

  operand_small : {ts rest : List Lexeme} {t : QueryTerm} → q.IsFactor ts rest t → AreSmall ts → HasSmallNumbers t × AreSmall rest
  operand_small (q.whole w) h = whole_small w h
  operand_small (q.grouped a) h = query_small a h
  operand_small (q.sum_of a) h = series_small a h
  operand_small (q.sum_over a b) h = let u = series_small a h in (u.0, range_small b u.1)
  operand_small (q.varnum a b) h = let u = series_small a h in (u.0, range_small b u.1)
  operand_small (q.covnum a c b) h = let u = series_small a h in let v = series_small c u.1 in ((u.0, v.0), range_small b v.1)

pub query_has_small : (ts : List Lexeme) (t : QueryTerm) → q.IsQuery ts [] t → AreSmall ts → HasSmallNumbers t
query_has_small ts t a h = (query_small a h).0

-- ---- nodes

whole_shorter : {ts rest : List Lexeme} {v : ℤ} → IsWhole ts rest v → length rest < length ts
whole_shorter positive = omega arith
whole_shorter negative = omega arith

range_shorter : {ts rest : List Lexeme} {b : Range} → IsRange ts rest b → 5 + length rest ≤ length ts
range_shorter (range l r) = omega (arith, whole_shorter l.0, whole_shorter r.0)

mutual
  series_shorter : {ts rest : List Lexeme} {t : Term} → s.IsSeries ts rest t → length rest < length ts
  series_shorter (s.product p) = product_shorter p
  series_shorter (s.plus_product a p) = omega (arith, series_shorter a, product_shorter p)
  series_shorter (s.minus_product a p) = omega (arith, series_shorter a, product_shorter p)

  product_shorter : {ts rest : List Lexeme} {t : Term} → s.IsProduct ts rest t → length rest < length ts
  product_shorter (s.factor f) = factor_shorter f
  product_shorter (s.times_factor p f) = omega (arith, product_shorter p, factor_shorter f)

  factor_shorter : {ts rest : List Lexeme} {t : Term} → s.IsFactor ts rest t → length rest < length ts
  factor_shorter s.name = omega arith
  factor_shorter (s.whole w) = whole_shorter w
  factor_shorter (s.grouped a) = omega (arith, series_shorter a)
  factor_shorter (s.const w b) = omega (arith, whole_shorter w, range_shorter b)
  factor_shorter (s.shifted a k) = omega (arith, series_shorter a, whole_shorter k.0)

mutual
  query_nodes : {ts rest : List Lexeme} {t : QueryTerm} → q.IsQuery ts rest t → nodes_in t + length rest ≤ length ts
  query_nodes (q.product p) = term_nodes p
  query_nodes (q.plus_product a p) = omega (arith, query_nodes a, term_nodes p)
  query_nodes (q.minus_product a p) = omega (arith, query_nodes a, term_nodes p)

  term_nodes : {ts rest : List Lexeme} {t : QueryTerm} → q.IsProduct ts rest t → nodes_in t + length rest ≤ length ts
  term_nodes (q.factor f) = operand_nodes f
  term_nodes (q.times_factor p f) = omega (arith, term_nodes p, operand_nodes f)

  operand_nodes : {ts rest : List Lexeme} {t : QueryTerm} → q.IsFactor ts rest t → nodes_in t + length rest ≤ length ts
  operand_nodes (q.whole w) = omega (arith, whole_shorter w)
  operand_nodes (q.grouped a) = omega (arith, query_nodes a)
  operand_nodes (q.sum_of a) = omega (arith, series_shorter a)
  operand_nodes (q.sum_over a b) = omega (arith, series_shorter a, range_shorter b)
  operand_nodes (q.varnum a b) = omega (arith, series_shorter a, range_shorter b)
  operand_nodes (q.covnum a c b) = omega (arith, series_shorter a, series_shorter c, range_shorter b)

pub query_has_few : (ts : List Lexeme) (t : QueryTerm) (most : ℕ) → q.IsQuery ts [] t → length ts ≤ most → nodes_in t ≤ most
query_has_few ts t most a h = omega (arith, query_nodes a)

-- ---- tokens

in_order-length : (from to : ℕ) (ts : List Token) → AreInOrder from ts to → from + length ts ≤ to
in_order-length from to [] h = omega arith
in_order-length from to (t ∷ ts) h = omega (arith, h.0, h.1, in_order-length t.to to ts h.2)

map-length : (f : Token → Lexeme) (ts : List Token) → length (map f ts) ≡ length ts
map-length f [] = refl
map-length f (t ∷ ts) = ap suc (map-length f ts)

-- a text has no more tokens than bytes
pub few_said : (text : List ℕ) (ts : List Token) (said : List Lexeme) → said ≡ map (lexeme_of text) ts → AreInOrder 0 ts (length text) → length text ≤ 4096 → length said ≤ 4096
few_said text ts said e h short = rw e (omega (arith, in_order-length 0 (length text) ts h, map-length (lexeme_of text) ts))

abbrev IsSmallLexeme : Lexeme → Type 0
IsSmallLexeme l = AreSmall (l ∷ [])

magnitude_small : (bytes : List ℕ) → magnitude_in bytes < 2 ^ 127
magnitude_small bytes = by (number_in bytes) refl
  where
    by : (number : Option ℤ) → number_in bytes ≡ number → (elim number [ None ↦ 0 | Some v ↦ unsigned_abs v ]) < 2 ^ 127
    by None e = omega arith
    by (Some v) e = number_in_small bytes v e

reserved_small : (bytes : List ℕ) → IsSmallLexeme (reserved_lexeme bytes)
reserved_small bytes = by (bytes_eq bytes (codes "sum")) (bytes_eq bytes (codes "varnum")) (bytes_eq bytes (codes "covnum")) (bytes_eq bytes (codes "const"))
  where
    by : (a b c d : Bool) → IsSmallLexeme (cond a Sum (cond b VarNum (cond c CovNum (cond d Const Shift))))
    by true b c d = tt
    by false true c d = tt
    by false false true d = tt
    by false false false true = tt
    by false false false false = tt

word_small : (bytes : List ℕ) → IsSmallLexeme (word_lexeme bytes)
word_small bytes = by (is_name bytes)
  where
    by : (b : Bool) → IsSmallLexeme (cond b (Named bytes) (reserved_lexeme bytes))
    by true = tt
    by false = reserved_small bytes

sign_small : (bytes : List ℕ) → IsSmallLexeme (sign_lexeme bytes)
sign_small bytes = by (bytes_eq bytes (codes "(")) (bytes_eq bytes (codes ")")) (bytes_eq bytes (codes ",")) (bytes_eq bytes (codes "+")) (bytes_eq bytes (codes "-"))
  where
    by : (a b c d e : Bool) → IsSmallLexeme (cond a Open (cond b Close (cond c Comma (cond d Plus (cond e Minus Times)))))
    by true b c d e = tt
    by false true c d e = tt
    by false false true d e = tt
    by false false false true e = tt
    by false false false false true = tt
    by false false false false false = tt

lexeme_small : (k : Kind) (bytes : List ℕ) → IsSmallLexeme (lexeme_of_bytes k bytes)
lexeme_small kind.Word bytes = word_small bytes
lexeme_small kind.Number bytes = (omega (arith, magnitude_small bytes), tt)
lexeme_small kind.Sign bytes = sign_small bytes

small_front : (l : Lexeme) (ls : List Lexeme) → IsSmallLexeme l → AreSmall ls → AreSmall (l ∷ ls)
small_front (Number n) ls h k = (h.0, k)
small_front _ ls h k = k

small_lexemes : (text : List ℕ) (ts : List Token) → AreSmall (map (lexeme_of text) ts)
small_lexemes text [] = tt
small_lexemes text (t ∷ ts) = small_front (lexeme_of text t) (map (lexeme_of text) ts) (lexeme_small t.kind _) (small_lexemes text ts)

pub small_said : (text : List ℕ) (ts : List Token) (said : List Lexeme) → said ≡ map (lexeme_of text) ts → AreSmall said
small_said text ts said e = rw e (small_lexemes text ts)
