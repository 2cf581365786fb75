-- Canonical tokens open as many parentheses as they close, and at one time no more than the depth.
use Rattle.std.proofs.Common.{◌≡◌, ◌≤◌, ◌+◌, ℕ, ℤ, pos, negsuc, Bool, true, false, cond, ltb, List, [], ◌∷◌, ◌∙◌, refl, arith}
use Rattle.std.specs.Prelude.{max, Option, Some, None}
use Rattle.std.proofs.lemmas.Bool.Decides.{nat_tests}
use Rattle.semantics.specs.Limits.{query_depth, series_depth}
use Rattle.semantics.specs.Term as t
use Rattle.semantics.specs.Term.{Term, Range, QueryTerm}
use Rattle.expr_parse.specs.declared.canonical.Level.{Level}
use Rattle.expr_parse.specs.declared.canonical.Level.TheVariants.{OfSum, OfProduct, OfFactor}
use Rattle.expr_parse.specs.declared.lexeme.Lexeme.{Lexeme}
use Rattle.expr_parse.specs.declared.lexeme.Lexeme.TheVariants.{Open, Close, Comma, Plus, Minus, Times}
use Rattle.expr_parse.specs.Canonical.{groups_product, groups_sum}
use Rattle.expr_parse.specs.Nesting.{is_nested}
use Rattle.expr_parse.proofs.CanonicalTokens.{ends_tokens, grouped_tokens, number_tokens, query_tokens, range_tokens, series_tokens}

-- only the difference counts
even : (ts : List Lexeme) (o c : ℕ) → is_nested (o + 1) (c + 1) ts ≡ is_nested o c ts
even [] o c = refl
even (Open ∷ ts) o c =
    let test : ltb (c + 1 + 64) (o + 1 + 1) ≡ ltb (c + 64) (o + 1) = grind (arith, nat_tests) in
    λ i. cond (test i) true (even ts (o + 1) c i)
even (Close ∷ ts) o c = even ts o (c + 1)
even (_ ∷ ts) o c = even ts o c

opened : (ts : List Lexeme) (o c : ℕ) → o + 1 ≤ c + 64 → is_nested o c (Open ∷ ts) ≡ is_nested (o + 1) c ts
opened ts o c h =
    let within : ltb (c + 64) (o + 1) ≡ false = grind (arith, nat_tests) in
    rw within refl

number_even : (v : ℤ) (rest : List Lexeme) (o c : ℕ) → is_nested o c (number_tokens v rest) ≡ is_nested o c rest
number_even (pos n) rest o c = refl
number_even (negsuc n) rest o c = refl

range_closes : (b : Range) (rest : List Lexeme) (o c : ℕ) → is_nested o c (range_tokens b rest) ≡ is_nested o (c + 1) rest
range_closes b rest o c = number_even b.left (Comma ∷ number_tokens b.right (Close ∷ rest)) o c ∙ number_even b.right (Close ∷ rest) o c

ends_close : (b : Option Range) (rest : List Lexeme) (o c : ℕ) → is_nested o c (ends_tokens b rest) ≡ is_nested o (c + 1) rest
ends_close (Some b) rest o c = range_closes b rest o c
ends_close None rest o c = refl

grouped_even : (b : Bool) (f : List Lexeme → List Lexeme) (rest : List Lexeme) (o c d : ℕ) → o + (1 + d) ≤ c + 64 → ((r : List Lexeme) (p : ℕ) → p + d ≤ c + 64 → is_nested p c (f r) ≡ is_nested p c r) → is_nested o c (grouped_tokens b f rest) ≡ is_nested o c rest
grouped_even true f rest o c d h inner = opened (f (Close ∷ rest)) o c (omega arith) ∙ inner (Close ∷ rest) (o + 1) (omega arith) ∙ even rest o c
grouped_even false f rest o c d h inner = inner rest o (omega arith)

series_even : (level : Level) (u : Term) (rest : List Lexeme) (o c : ℕ) → o + series_depth u ≤ c + 64 → is_nested o c (series_tokens level u rest) ≡ is_nested o c rest
series_even level (t.base n) rest o c h = refl
series_even level (t.bare v) rest o c h = number_even v rest o c
series_even level (t.constant v a b) rest o c h =
    let ends : Range = record { left = a; right = b } in
    opened (number_tokens v (range_tokens ends rest)) o c h ∙ number_even v (range_tokens ends rest) (o + 1) c ∙ range_closes ends rest (o + 1) c ∙ even rest o c
series_even level (t.shift u k) rest o c h =
    opened (series_tokens OfSum u (Comma ∷ number_tokens k (Close ∷ rest))) o c (omega arith) ∙ series_even OfSum u (Comma ∷ number_tokens k (Close ∷ rest)) (o + 1) c (omega arith) ∙ number_even k (Close ∷ rest) (o + 1) c ∙ even rest o c
series_even level (t.plus u v) rest o c h =
    grouped_even (groups_sum level) (λ r. series_tokens OfSum u (Plus ∷ series_tokens OfProduct v r)) rest o c (max (series_depth u) (series_depth v)) h
    (λ r p k. series_even OfSum u (Plus ∷ series_tokens OfProduct v r) p c (omega arith) ∙ series_even OfProduct v r p c (omega arith))
series_even level (t.minus u v) rest o c h =
    grouped_even (groups_sum level) (λ r. series_tokens OfSum u (Minus ∷ series_tokens OfProduct v r)) rest o c (max (series_depth u) (series_depth v)) h
    (λ r p k. series_even OfSum u (Minus ∷ series_tokens OfProduct v r) p c (omega arith) ∙ series_even OfProduct v r p c (omega arith))
series_even level (t.times u v) rest o c h =
    grouped_even (groups_product level) (λ r. series_tokens OfProduct u (Times ∷ series_tokens OfFactor v r)) rest o c (max (series_depth u) (series_depth v)) h
    (λ r p k. series_even OfProduct u (Times ∷ series_tokens OfFactor v r) p c (omega arith) ∙ series_even OfFactor v r p c (omega arith))

query_even : (level : Level) (q : QueryTerm) (rest : List Lexeme) (o c : ℕ) → o + query_depth q ≤ c + 64 → is_nested o c (query_tokens level q rest) ≡ is_nested o c rest
query_even level (t.number v) rest o c h = number_even v rest o c
query_even level (t.sum u b) rest o c h =
    opened (series_tokens OfSum u (ends_tokens b rest)) o c (omega arith) ∙ series_even OfSum u (ends_tokens b rest) (o + 1) c (omega arith) ∙ ends_close b rest (o + 1) c ∙ even rest o c
query_even level (t.variance u b) rest o c h =
    opened (series_tokens OfSum u (range_tokens b rest)) o c (omega arith) ∙ series_even OfSum u (range_tokens b rest) (o + 1) c (omega arith) ∙ range_closes b rest (o + 1) c ∙ even rest o c
query_even level (t.covariance u v b) rest o c h =
    opened (series_tokens OfSum u (Comma ∷ series_tokens OfSum v (range_tokens b rest))) o c (omega arith) ∙ series_even OfSum u (Comma ∷ series_tokens OfSum v (range_tokens b rest)) (o + 1) c (omega arith) ∙ series_even OfSum v (range_tokens b rest) (o + 1) c (omega arith)
    ∙ range_closes b rest (o + 1) c ∙ even rest o c
query_even level (t.add p q) rest o c h =
    grouped_even (groups_sum level) (λ r. query_tokens OfSum p (Plus ∷ query_tokens OfProduct q r)) rest o c (max (query_depth p) (query_depth q)) h
    (λ r n k. query_even OfSum p (Plus ∷ query_tokens OfProduct q r) n c (omega arith) ∙ query_even OfProduct q r n c (omega arith))
query_even level (t.sub p q) rest o c h =
    grouped_even (groups_sum level) (λ r. query_tokens OfSum p (Minus ∷ query_tokens OfProduct q r)) rest o c (max (query_depth p) (query_depth q)) h
    (λ r n k. query_even OfSum p (Minus ∷ query_tokens OfProduct q r) n c (omega arith) ∙ query_even OfProduct q r n c (omega arith))
query_even level (t.mul p q) rest o c h =
    grouped_even (groups_product level) (λ r. query_tokens OfProduct p (Times ∷ query_tokens OfFactor q r)) rest o c (max (query_depth p) (query_depth q)) h
    (λ r n k. query_even OfProduct p (Times ∷ query_tokens OfFactor q r) n c (omega arith) ∙ query_even OfFactor q r n c (omega arith))

-- the canonical tokens of a query that is not too deep are not nested too deep
pub canonical_nesting : (q : QueryTerm) → query_depth q ≤ 64 → is_nested 0 0 (query_tokens OfSum q []) ≡ false
canonical_nesting q h = query_even OfSum q [] 0 0 (omega arith)
