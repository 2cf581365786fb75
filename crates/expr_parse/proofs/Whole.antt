-- All tokens, or not all; and what that means for a text.
use Rattle.std.proofs.Common.{arith, ◌≡◌, ◌↔◌, ℕ, ◌≤◌, false, List, [], ◌∷◌, ◌∙◌, ◌⊎◌, inl, inr, length, map, sym, subst, refl}
use Rattle.std.specs.Prelude.{None, Some, Ok, Err}
use Rattle.semantics.specs.Limits.{most_names_in, query_depth, sums_in, IsWithinLimits}
use Rattle.semantics.specs.Term.{QueryTerm}
use Rattle.expr_parse.specs.declared.error.ParseErr.{ParseErr}
use Rattle.expr_parse.specs.declared.error.ParseErr.TheVariants as refusal
use Rattle.expr_parse.specs.declared.lexeme.Lexeme.{Lexeme}
use Rattle.expr_parse.specs.declared.token.Token.{Token}
use Rattle.expr_parse.specs.Lexemes.{lexeme_of}
use Rattle.expr_parse.specs.Parsed.{IsTextOf}
use Rattle.expr_parse.specs.Pending.{query, sticks, continues}
use Rattle.expr_parse.specs.QueryGrammar.{IsQuery}
use Rattle.expr_parse.specs.Reading.{tree_of}
use Rattle.expr_parse.specs.Small.{AreSmall}
use Rattle.expr_parse.specs.Stuck.{IsOutside}
use Rattle.expr_parse.specs.Tokens.{tokenized}
use Rattle.expr_parse.proofs.Bounds.{query_has_few, query_has_small, query_near}
use Rattle.expr_parse.proofs.Spelled.{in_grammar}
use Rattle.expr_parse.proofs.Stuck.{query_closed}
use Rattle.expr_parse.proofs.Unique.{one_tree, tree_read}

-- a token that is left over is where the list sticks
pub left_over_at : (ts rest : List Lexeme) (t : Lexeme) (more : List Lexeme) (q : QueryTerm) → IsQuery ts rest q → continues rest ≡ false → rest ≡ t ∷ more → sticks (query ∷ []) ts ≡ Some (length rest)
left_over_at ts rest t more q a h e = query_closed a h [] ∙ rw e refl

pub tree_at : (ts rest : List Lexeme) (q : QueryTerm) → IsQuery ts rest q → rest ≡ [] → tree_of ts ≡ Some q
tree_at ts rest q a e = tree_read ts q (rw e at a)

pub passed_at : (ts rest : List Lexeme) (q : QueryTerm) → IsQuery ts rest q → rest ≡ [] → sticks (query ∷ []) ts ≡ None
passed_at ts rest q a e = query_closed (rw e at a) refl []

pub sticks_outside_alone : (ts : List Lexeme) → (sticks (query ∷ []) ts ≡ None) ↔ ((q : QueryTerm) × IsQuery ts [] q)
sticks_outside_alone ts = (λ h. in_grammar ts h, λ a. query_closed a.1 refl [])

-- ---- texts

-- where the list sticks, the grammar gives no tree
pub none_where_stuck : (ts : List Lexeme) (left : ℕ) → sticks (query ∷ []) ts ≡ Some left → (q : QueryTerm) → IsQuery ts [] q → ⊥
none_where_stuck ts left e q a = let f : Some left ≡ None = sym e ∙ query_closed a refl [] in cc f

pub is_text_of : (text : List ℕ) (tokens : List Token) (said : List Lexeme) (q : QueryTerm) → tokenized text ≡ Ok tokens → said ≡ map (lexeme_of text) tokens → IsQuery said [] q → IsTextOf text q
is_text_of text tokens said q are e a = record { tokens = tokens; are = are; grammar = rw e at a }

-- the query of a text, over its tokens
query_of_tokens : (text : List ℕ) (tokens others : List Token) (q : QueryTerm) → tokenized text ≡ Ok tokens → tokenized text ≡ Ok others → IsQuery (map (lexeme_of text) others) [] q → IsQuery (map (lexeme_of text) tokens) [] q
query_of_tokens text tokens others q are be a =
    let same : Ok others ≡ Ok tokens = sym be ∙ are in
    let e : others ≡ tokens = cc same in
    subst (λ ts. IsQuery (map (lexeme_of text) ts) [] q) e a

pub text_alone : (text : List ℕ) (tokens : List Token) (said : List Lexeme) (q : QueryTerm) → tokenized text ≡ Ok tokens → said ≡ map (lexeme_of text) tokens → IsQuery said [] q → (other : QueryTerm) → IsTextOf text other → other ≡ q
text_alone text tokens said q are e a other is = one_tree _ other q (query_of_tokens text tokens is.tokens other are is.are is.grammar) (rw e at a)

pub text_outside : (text : List ℕ) (tokens : List Token) (said : List Lexeme) (e : ParseErr) → tokenized text ≡ Ok tokens → said ≡ map (lexeme_of text) tokens → IsOutside e said → (place : ℕ) → e ≡ refusal.At place → (q : QueryTerm) → IsTextOf text q → ⊥
text_outside text tokens said e are is out place at q a =
    let none : IsOutside (refusal.At place) said = rw at at out in
    none q (rw (← is) at (query_of_tokens text tokens a.tokens q are a.are a.grammar))

-- a text without tokens
pub text_refused : (text : List ℕ) (e : ParseErr) → (e ≡ refusal.Memory) ⊎ (tokenized text ≡ Err e) → (place : ℕ) → e ≡ refusal.At place → (q : QueryTerm) → IsTextOf text q → ⊥
text_refused text e (inl memory) place at q a = let f : refusal.Memory ≡ refusal.At place = sym memory ∙ at in cc f
text_refused text e (inr err) place at q a = let f : Err e ≡ Ok a.tokens = sym err ∙ a.are in cc f

-- a parsed query is within the limits
pub within_limits : (ts : List Lexeme) (q : QueryTerm) → IsQuery ts [] q → length ts ≤ 4096 → AreSmall ts → query_depth q ≤ 64 → sums_in q ≤ 16 → most_names_in q ≤ 32 → IsWithinLimits q
within_limits ts q a few small depth sums names = record {
  depth = depth;
  sums = sums;
  names = names;
  nodes = omega (arith, query_has_few ts q 4096 a few);
  near = query_near a;
  small = query_has_small ts q a small;
}
