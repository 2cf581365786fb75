-- The canonical text of a query is parsed as that query.
use Rattle.std.proofs.Common.{◌≡◌, ◌≤◌, ℕ, Bool, true, false, cond, ltb, List, [], ◌∷◌, length, map, ◌∙◌, refl, sym, ap, subst, arith}
use Rattle.std.specs.Prelude.{Option, Some, None, Result, Ok, Err}
use Rattle.std.proofs.lemmas.Bool.Decides.{nat_tests}
use Rattle.semantics.specs.Limits.{IsWithinLimits, most_names_in, query_depth, sums_in}
use Rattle.semantics.specs.Term.{QueryTerm}
use Rattle.expr_parse.specs.declared.canonical.Level.TheVariants.{OfSum}
use Rattle.expr_parse.specs.declared.error.ParseErr.{ParseErr}
use Rattle.expr_parse.specs.declared.error.ParseErr.TheVariants as refusal
use Rattle.expr_parse.specs.declared.lexeme.Lexeme.{Lexeme}
use Rattle.expr_parse.specs.declared.token.Token.{Token}
use Rattle.expr_parse.specs.Canonical.{canonical_text}
use Rattle.expr_parse.specs.Lexemes.{lexeme_of}
use Rattle.expr_parse.specs.Nesting.{is_nested}
use Rattle.expr_parse.specs.Parsed.{by_grammar, by_lexemes, by_tokens, limited, parsed, IsTextOf}
use Rattle.expr_parse.specs.Pending.{query, sticks}
use Rattle.expr_parse.specs.Printed.{CanonicalIsParsed, CanonicalIsText, IsNamedQuery, ParsedIsText}
use Rattle.expr_parse.specs.QueryGrammar.{IsQuery}
use Rattle.expr_parse.specs.Reading.{tree_of}
use Rattle.expr_parse.specs.Tokens.{at_place, tokenized, tokens_from, tokens_of}
use Rattle.expr_parse.proofs.CanonicalNesting.{canonical_nesting}
use Rattle.expr_parse.proofs.CanonicalSaid.{canonical_said}
use Rattle.expr_parse.proofs.CanonicalTokens.{canonical_derived, query_tokens}
use Rattle.expr_parse.proofs.Spelled.{in_grammar}
use Rattle.expr_parse.proofs.Stuck.{query_closed}
use Rattle.expr_parse.proofs.Unique.{tree_read}

tokenized_at : (text : List ℕ) (ts : List Token) → length text ≤ 4096 → tokens_from 0 0 text ≡ Ok ts → tokenized text ≡ Ok ts
unfolding tokens_of
tokenized_at text ts short e =
    let within : ltb 4096 (length text) ≡ false = grind (arith, nat_tests) in
    rw within (ap at_place e)

pub canonical_is_text : CanonicalIsText
canonical_is_text q named near small short =
    let s = canonical_said q named near small in
    record { tokens = s.tokens; are = tokenized_at (canonical_text q) s.tokens short s.are; grammar = rw s.say (canonical_derived q near) }

limited_at : (q : QueryTerm) → IsWithinLimits q → limited q ≡ Ok q
limited_at q h =
    let depth : ltb 64 (query_depth q) ≡ false = grind (arith, nat_tests, h.depth) in
    let sums : ltb 16 (sums_in q) ≡ false = grind (arith, nat_tests, h.sums) in
    let names : ltb 32 (most_names_in q) ≡ false = grind (arith, nat_tests, h.names) in
    rw (depth, sums, names) refl

by_lexemes_at : (text : List ℕ) (ts : List Token) (said : List Lexeme) (q : QueryTerm) → is_nested 0 0 said ≡ false → IsQuery said [] q → limited q ≡ Ok q → by_lexemes text ts said ≡ Ok q
by_lexemes_at text ts said q nesting a within = (λ i. cond (nesting i) (Err refusal.TooDeep) (by_grammar text ts (query_closed a refl [] i) (tree_read said q a i))) ∙ within

parsed_at : (text : List ℕ) (ts : List Token) (said : List Lexeme) (q : QueryTerm) → tokenized text ≡ Ok ts → map (lexeme_of text) ts ≡ said → by_lexemes text ts said ≡ Ok q → parsed text ≡ Ok q
unfolding parsed
parsed_at text ts said q are say e = ap (by_tokens text) are ∙ ap (by_lexemes text ts) say ∙ e

pub canonical_is_parsed : CanonicalIsParsed
canonical_is_parsed q named h short =
    let s = canonical_said q named h.near h.small in
    let said : List Lexeme = query_tokens OfSum q [] in
    parsed_at (canonical_text q) s.tokens said q (tokenized_at (canonical_text q) s.tokens short s.are) s.say
    (by_lexemes_at (canonical_text q) s.tokens said q (canonical_nesting q h.depth) (canonical_derived q h.near) (limited_at q h))

-- ---- what is parsed has a derivation

limited_same : (p q : QueryTerm) → limited p ≡ Ok q → p ≡ q
limited_same p q h = by (ltb 64 (query_depth p)) (ltb 16 (sums_in p)) (ltb 32 (most_names_in p)) h
  where
    by : (a b c : Bool) → cond a (Err refusal.TooDeep) (cond b (Err refusal.TooManySums) (cond c (Err refusal.TooManyNames) (Ok p))) ≡ Ok q → p ≡ q
    by true b c e = cc e
    by false true c e = cc e
    by false false true e = cc e
    by false false false e = cc e

grammar_of : (text : List ℕ) (ts : List Token) (said : List Lexeme) (q : QueryTerm) → by_grammar text ts (sticks (query ∷ []) said) (tree_of said) ≡ Ok q → IsQuery said [] q
grammar_of text ts said q h = by (sticks (query ∷ []) said) refl h
  where
    by : (o : Option ℕ) → sticks (query ∷ []) said ≡ o → by_grammar text ts o (tree_of said) ≡ Ok q → IsQuery said [] q
    by (Some left) at e = let f : Err (refusal.At _) ≡ Ok q = e in cc f
    by None at e =
        let a = in_grammar said at in
        let same : limited a.0 ≡ Ok q = ap (by_grammar text ts None) (sym (tree_read said a.0 a.1)) ∙ e in
        subst (λ p. IsQuery said [] p) (limited_same a.0 q same) a.1

lexemes_of : (text : List ℕ) (ts : List Token) (said : List Lexeme) (q : QueryTerm) → by_lexemes text ts said ≡ Ok q → IsQuery said [] q
lexemes_of text ts said q h = by (is_nested 0 0 said) h
  where
    by : (b : Bool) → cond b (Err refusal.TooDeep) (by_grammar text ts (sticks (query ∷ []) said) (tree_of said)) ≡ Ok q → IsQuery said [] q
    by true e = cc e
    by false e = grammar_of text ts said q e

pub parsed_is_text : ParsedIsText
unfolding parsed
parsed_is_text text q h = by (tokenized text) refl h
  where
    by : (r : Result (List Token) ParseErr) → tokenized text ≡ r → by_tokens text r ≡ Ok q → IsTextOf text q
    by (Err e) are f = cc f
    by (Ok ts) are f = record { tokens = ts; are = are; grammar = lexemes_of text ts (map (lexeme_of text) ts) q f }

pub parsed_again : (q : QueryTerm) (text : List ℕ) → text ≡ canonical_text q → IsNamedQuery q → IsWithinLimits q → length text ≤ 4096 → parsed text ≡ Ok q
parsed_again q text e named h short = rw e (canonical_is_parsed q named h (rw e at short))
