-- Each text comes to one thing by the grammar, which is no want of memory.
use Rattle.std.proofs.Common.{◌≡◌, ◌≢◌, ℕ, length, Bool, true, false, cond, List, [], ◌∷◌, inl, inr, map, Option, Some, None, refl, sym, ap, subst, ◌∙◌}
use Rattle.std.specs.Prelude.{Result, Ok, Err, option_map}
use Rattle.semantics.specs.Term.{QueryTerm}
use Rattle.semantics.specs.Limits.{most_names_in, query_depth, sums_in}
use Rattle.semantics.specs.Most.{most_depth, most_names, most_sums}
use Rattle.std.proofs.Common.{ltb}
use Rattle.expr_parse.specs.declared.error.ParseErr.{ParseErr}
use Rattle.expr_parse.specs.declared.error.ParseErr.TheVariants as refusal
use Rattle.expr_parse.specs.declared.lexeme.Lexeme.{Lexeme}
use Rattle.expr_parse.specs.declared.token.Token.{Token}
use Rattle.expr_parse.specs.Lexemes.{lexeme_of}
use Rattle.expr_parse.specs.Nesting.{is_nested}
use Rattle.expr_parse.specs.Parsed.{by_grammar, by_lexemes, by_tokens, limited, parsed, place_of, IsTextOf}
use Rattle.expr_parse.specs.Parses.{IsRead, Parses, ParsedIsParser, ParsesAlone, ParsesWithoutMemory, lexemes_refusal, text_refusal, tokens_refusal}
use Rattle.expr_parse.specs.Pending.{query, sticks}
use Rattle.expr_parse.specs.Reading.{tree_of}
use Rattle.expr_parse.specs.Tokens.{at_place, tokenized, tokens_of}
use Rattle.expr_parse.proofs.Spelled.{in_grammar}
use Rattle.expr_parse.proofs.Unique.{tree_read}
use Rattle.expr_parse.proofs.Whole.{text_alone}

-- ---- each text comes to something

grammar_parses : (text : List ℕ) (ts : List Token) → tokenized text ≡ Ok ts → text_refusal text ≡ None
    → sticks (query ∷ []) (map (lexeme_of text) ts) ≡ None
    → IsRead text (by_grammar text ts None (tree_of (map (lexeme_of text) ts)))
grammar_parses text ts are free ends =
    let a = in_grammar (map (lexeme_of text) ts) ends in
    record {
      query = a.0;
      free = free;
      grammar = record { tokens = ts; are = are; grammar = a.1 };
      told = ap (by_grammar text ts None) (tree_read (map (lexeme_of text) ts) a.0 a.1);
    }

lexemes_parse : (text : List ℕ) (ts : List Token) (nested : Bool) (stuck : Option ℕ) → tokenized text ≡ Ok ts
    → is_nested 0 0 (map (lexeme_of text) ts) ≡ nested → sticks (query ∷ []) (map (lexeme_of text) ts) ≡ stuck
    → Parses text (by_lexemes text ts (map (lexeme_of text) ts))
lexemes_parse text ts true stuck are nesting ends =
    let called : text_refusal text ≡ Some refusal.TooDeep = rw (are, nesting) refl in
    let told : by_lexemes text ts (map (lexeme_of text) ts) ≡ Err refusal.TooDeep = rw nesting refl in
    inl (record { refusal = refusal.TooDeep; called = called; told = told })
lexemes_parse text ts false (Some left) are nesting ends =
    let at : ParseErr = refusal.At (place_of text ts left) in
    let called : text_refusal text ≡ Some at = rw (are, nesting, ends) refl in
    let told : by_lexemes text ts (map (lexeme_of text) ts) ≡ Err at = rw (nesting, ends) refl in
    inl (record { refusal = at; called = called; told = told })
lexemes_parse text ts false None are nesting ends =
    let free : text_refusal text ≡ None = rw (are, nesting, ends) refl in
    let is = grammar_parses text ts are free ends in
    let told : by_lexemes text ts (map (lexeme_of text) ts) ≡ by_grammar text ts None (tree_of (map (lexeme_of text) ts)) =
    rw (nesting, ends) refl in
    inr (record { query = is.query; free = is.free; grammar = is.grammar; told = told ∙ is.told })

pub parsed_is_parser : ParsedIsParser
unfolding parsed
parsed_is_parser text = by (tokenized text) refl
  where
    by : (r : Result (List Token) ParseErr) → tokenized text ≡ r → Parses text (by_tokens text (tokenized text))
    by (Err e) are =
        let called : text_refusal text ≡ Some e = rw are refl in
        let told : by_tokens text (tokenized text) ≡ Err e = rw are refl in
        inl (record { refusal = e; called = called; told = told })
    by (Ok ts) are =
        let told : by_tokens text (tokenized text) ≡ by_lexemes text ts (map (lexeme_of text) ts) = rw are refl in
        subst (Parses text) (sym told) (lexemes_parse text ts _ _ are refl refl)

-- ---- and to one thing alone

text_of_one : (text : List ℕ) (q other : QueryTerm) → IsTextOf text q → IsTextOf text other → other ≡ q
text_of_one text q other a b = text_alone text a.tokens (map (lexeme_of text) a.tokens) q a.are refl a.grammar other b

pub parses_alone : ParsesAlone
parses_alone text r other (inl a) (inl b) =
    let same : Some a.refusal ≡ Some b.refusal = sym a.called ∙ b.called in
    let e : a.refusal ≡ b.refusal = cc same in
    b.told ∙ ap Err (sym e) ∙ sym a.told
parses_alone text r other (inl a) (inr b) = let f : Some a.refusal ≡ None = sym a.called ∙ b.free in cc f
parses_alone text r other (inr a) (inl b) = let f : Some b.refusal ≡ None = sym b.called ∙ a.free in cc f
parses_alone text r other (inr a) (inr b) =
    b.told ∙ ap limited (text_of_one text a.query b.query a.grammar b.grammar) ∙ sym a.told

-- what parses a text is what is parsed
pub parsed-parses : (text : List ℕ) (r : Result QueryTerm ParseErr) → Parses text r → parsed text ≡ r
parsed-parses text r h = parses_alone text r (parsed text) h (parsed_is_parser text)

-- ---- want of memory

limited-no_memory : (q : QueryTerm) → limited q ≢ Err refusal.Memory
limited-no_memory q h = by (ltb most_depth (query_depth q)) (ltb most_sums (sums_in q)) (ltb most_names (most_names_in q)) h
  where
    by : (a b c : Bool) → cond a (Err refusal.TooDeep) (cond b (Err refusal.TooManySums) (cond c (Err refusal.TooManyNames) (Ok q))) ≡ Err refusal.Memory → ⊥
    by true b c e = cc e
    by false true c e = cc e
    by false false true e = cc e
    by false false false e = cc e

lexemes-no_memory : (text : List ℕ) (ts : List Token) (said : List Lexeme) → lexemes_refusal text ts said ≢ Some refusal.Memory
lexemes-no_memory text ts said h = by (is_nested 0 0 said) (sticks (query ∷ []) said) h
  where
    by : (b : Bool) (o : Option ℕ) → cond b (Some refusal.TooDeep) (option_map (λ left. refusal.At (place_of text ts left)) o) ≡ Some refusal.Memory → ⊥
    by true o e = cc e
    by false None e = cc e
    by false (Some left) e = cc e

tokenized-no_memory : (text : List ℕ) → tokenized text ≢ Err refusal.Memory
tokenized-no_memory text h = by (ltb 4096 (length text)) (tokens_of text) h
  where
    by : (b : Bool) (r : Result (List Token) ℕ) → cond b (Err refusal.TooLong) (at_place r) ≡ Err refusal.Memory → ⊥
    by true r e = cc e
    by false (Ok ts) e = cc e
    by false (Err place) e = cc e

text-no_memory : (text : List ℕ) → text_refusal text ≢ Some refusal.Memory
text-no_memory text h = by (tokenized text) refl h
  where
    by : (r : Result (List Token) ParseErr) → tokenized text ≡ r → tokens_refusal text r ≡ Some refusal.Memory → ⊥
    by (Err e) are f =
        let same : e ≡ refusal.Memory = cc f in
        tokenized-no_memory text (are ∙ ap Err same)
    by (Ok ts) are f = lexemes-no_memory text ts (map (lexeme_of text) ts) f

pub parses_without_memory : ParsesWithoutMemory
parses_without_memory text r (inl a) h =
    let same : Err a.refusal ≡ Err refusal.Memory = sym a.told ∙ h in
    let e : a.refusal ≡ refusal.Memory = cc same in
    text-no_memory text (a.called ∙ ap Some e)
parses_without_memory text r (inr a) h = limited-no_memory a.query (sym a.told ∙ h)
