-- The canonical tokens of a query, and that the grammar gives it for them.
use Rattle.std.proofs.Common.{suc, ℤ, pos, negsuc, Bool, true, false, List, [], ◌∷◌}
use Rattle.std.specs.Prelude.{Option, Some, None}
use Rattle.semantics.specs.Limits.{IsNearQuery, IsNearRange, IsNearSeries}
use Rattle.semantics.specs.Term as t
use Rattle.semantics.specs.Term.{Term, Range, QueryTerm}
use Rattle.expr_parse.specs.declared.canonical.Level.{Level}
use Rattle.expr_parse.specs.declared.canonical.Level.TheVariants.{OfSum, OfProduct, OfFactor}
use Rattle.expr_parse.specs.declared.lexeme.Lexeme.{Lexeme}
use Rattle.expr_parse.specs.declared.lexeme.Lexeme.TheVariants.{Number, Named, Sum, VarNum, CovNum, Const, Shift, Open, Close, Comma, Plus, Minus, Times}
use Rattle.expr_parse.specs.Canonical.{groups_product, groups_sum}
use Rattle.expr_parse.specs.QueryGrammar as q
use Rattle.expr_parse.specs.SeriesGrammar as s
use Rattle.expr_parse.specs.SeriesGrammar.{IsWhole, IsRange, positive, negative, range}

-- ---- the tokens, before others

abbrev pub number_tokens : ℤ → List Lexeme → List Lexeme
number_tokens (pos n) rest = Number n ∷ rest
number_tokens (negsuc n) rest = Minus ∷ Number (suc n) ∷ rest

abbrev pub grouped_tokens : Bool → (List Lexeme → List Lexeme) → List Lexeme → List Lexeme
grouped_tokens true ts rest = Open ∷ ts (Close ∷ rest)
grouped_tokens false ts rest = ts rest

abbrev pub range_tokens : Range → List Lexeme → List Lexeme
range_tokens b rest = Comma ∷ number_tokens b.left (Comma ∷ number_tokens b.right (Close ∷ rest))

abbrev pub series_tokens : Level → Term → List Lexeme → List Lexeme
series_tokens level (t.base n) rest = Named n ∷ rest
series_tokens level (t.bare v) rest = number_tokens v rest
series_tokens level (t.constant v a b) rest = Const ∷ Open ∷ number_tokens v (range_tokens (record { left = a; right = b }) rest)
series_tokens level (t.shift u k) rest = Shift ∷ Open ∷ series_tokens OfSum u (Comma ∷ number_tokens k (Close ∷ rest))
series_tokens level (t.plus u v) rest = grouped_tokens (groups_sum level) (λ r. series_tokens OfSum u (Plus ∷ series_tokens OfProduct v r)) rest
series_tokens level (t.minus u v) rest = grouped_tokens (groups_sum level) (λ r. series_tokens OfSum u (Minus ∷ series_tokens OfProduct v r)) rest
series_tokens level (t.times u v) rest = grouped_tokens (groups_product level) (λ r. series_tokens OfProduct u (Times ∷ series_tokens OfFactor v r)) rest

abbrev pub ends_tokens : Option Range → List Lexeme → List Lexeme
ends_tokens (Some b) rest = range_tokens b rest
ends_tokens None rest = Close ∷ rest

abbrev pub query_tokens : Level → QueryTerm → List Lexeme → List Lexeme
query_tokens level (t.number v) rest = number_tokens v rest
query_tokens level (t.sum u b) rest = Sum ∷ Open ∷ series_tokens OfSum u (ends_tokens b rest)
query_tokens level (t.variance u b) rest = VarNum ∷ Open ∷ series_tokens OfSum u (range_tokens b rest)
query_tokens level (t.covariance u v b) rest = CovNum ∷ Open ∷ series_tokens OfSum u (Comma ∷ series_tokens OfSum v (range_tokens b rest))
query_tokens level (t.add p o) rest = grouped_tokens (groups_sum level) (λ r. query_tokens OfSum p (Plus ∷ query_tokens OfProduct o r)) rest
query_tokens level (t.sub p o) rest = grouped_tokens (groups_sum level) (λ r. query_tokens OfSum p (Minus ∷ query_tokens OfProduct o r)) rest
query_tokens level (t.mul p o) rest = grouped_tokens (groups_product level) (λ r. query_tokens OfProduct p (Times ∷ query_tokens OfFactor o r)) rest

-- ---- the grammar has them

number_derived : (v : ℤ) (rest : List Lexeme) → IsWhole (number_tokens v rest) rest v
number_derived (pos n) rest = positive
number_derived (negsuc n) rest = negative

range_derived : (b : Range) (rest : List Lexeme) → IsNearRange (Some b) → IsRange (range_tokens b rest) rest b
range_derived b rest h = range (number_derived b.left _, h.0) (number_derived b.right _, h.1)

record SeriesDerived (u : Term) : Type 0 where
  pub as_sum : (rest : List Lexeme) → s.IsSeries (series_tokens OfSum u rest) rest u
  pub as_product : (rest : List Lexeme) → s.IsProduct (series_tokens OfProduct u rest) rest u
  pub as_factor : (rest : List Lexeme) → s.IsFactor (series_tokens OfFactor u rest) rest u

series_derived : (u : Term) → IsNearSeries u → SeriesDerived u
series_derived (t.base n) h = record { as_sum = λ r. s.product (s.factor s.name); as_product = λ r. s.factor s.name; as_factor = λ r. s.name }
series_derived (t.bare v) h =
    let f = λ (r : List Lexeme). s.whole (number_derived v r) in
    record { as_sum = λ r. s.product (s.factor (f r)); as_product = λ r. s.factor (f r); as_factor = f }
series_derived (t.constant v a b) h =
    let ends : Range = record { left = a; right = b } in
    let f = λ (r : List Lexeme). s.const (number_derived v (range_tokens ends r)) (range_derived ends r h) in
    record { as_sum = λ r. s.product (s.factor (f r)); as_product = λ r. s.factor (f r); as_factor = f }
series_derived (t.shift u k) h =
    let p = series_derived u h.0 in
    let f = λ (r : List Lexeme). s.shifted (p.as_sum (Comma ∷ number_tokens k (Close ∷ r))) (number_derived k (Close ∷ r), h.1) in
    record { as_sum = λ r. s.product (s.factor (f r)); as_product = λ r. s.factor (f r); as_factor = f }
series_derived (t.plus u v) h =
    let p = series_derived u h.0 in
    let o = series_derived v h.1 in
    let f = λ (r : List Lexeme). s.plus_product (p.as_sum (Plus ∷ series_tokens OfProduct v r)) (o.as_product r) in
    record { as_sum = f; as_product = λ r. s.factor (s.grouped (f (Close ∷ r))); as_factor = λ r. s.grouped (f (Close ∷ r)) }
series_derived (t.minus u v) h =
    let p = series_derived u h.0 in
    let o = series_derived v h.1 in
    let f = λ (r : List Lexeme). s.minus_product (p.as_sum (Minus ∷ series_tokens OfProduct v r)) (o.as_product r) in
    record { as_sum = f; as_product = λ r. s.factor (s.grouped (f (Close ∷ r))); as_factor = λ r. s.grouped (f (Close ∷ r)) }
series_derived (t.times u v) h =
    let p = series_derived u h.0 in
    let o = series_derived v h.1 in
    let f = λ (r : List Lexeme). s.times_factor (p.as_product (Times ∷ series_tokens OfFactor v r)) (o.as_factor r) in
    record { as_sum = λ r. s.product (f r); as_product = f; as_factor = λ r. s.grouped (s.product (f (Close ∷ r))) }

record QueryDerived (u : QueryTerm) : Type 0 where
  pub as_sum : (rest : List Lexeme) → q.IsQuery (query_tokens OfSum u rest) rest u
  pub as_product : (rest : List Lexeme) → q.IsProduct (query_tokens OfProduct u rest) rest u
  pub as_factor : (rest : List Lexeme) → q.IsFactor (query_tokens OfFactor u rest) rest u

query_derived : (u : QueryTerm) → IsNearQuery u → QueryDerived u
query_derived (t.number v) h =
    let f = λ (r : List Lexeme). q.whole (number_derived v r) in
    record { as_sum = λ r. q.product (q.factor (f r)); as_product = λ r. q.factor (f r); as_factor = f }
query_derived (t.sum u None) h =
    let f = λ (r : List Lexeme). q.sum_of ((series_derived u h.0).as_sum (Close ∷ r)) in
    record { as_sum = λ r. q.product (q.factor (f r)); as_product = λ r. q.factor (f r); as_factor = f }
query_derived (t.sum u (Some b)) h =
    let f = λ (r : List Lexeme). q.sum_over ((series_derived u h.0).as_sum (range_tokens b r)) (range_derived b r h.1) in
    record { as_sum = λ r. q.product (q.factor (f r)); as_product = λ r. q.factor (f r); as_factor = f }
query_derived (t.variance u b) h =
    let f = λ (r : List Lexeme). q.varnum ((series_derived u h.0).as_sum (range_tokens b r)) (range_derived b r h.1) in
    record { as_sum = λ r. q.product (q.factor (f r)); as_product = λ r. q.factor (f r); as_factor = f }
query_derived (t.covariance u v b) h =
    let f = λ (r : List Lexeme). q.covnum ((series_derived u h.0).as_sum (Comma ∷ series_tokens OfSum v (range_tokens b r))) ((series_derived v h.1).as_sum (range_tokens b r)) (range_derived b r h.2) in
    record { as_sum = λ r. q.product (q.factor (f r)); as_product = λ r. q.factor (f r); as_factor = f }
query_derived (t.add u v) h =
    let p = query_derived u h.0 in
    let o = query_derived v h.1 in
    let f = λ (r : List Lexeme). q.plus_product (p.as_sum (Plus ∷ query_tokens OfProduct v r)) (o.as_product r) in
    record { as_sum = f; as_product = λ r. q.factor (q.grouped (f (Close ∷ r))); as_factor = λ r. q.grouped (f (Close ∷ r)) }
query_derived (t.sub u v) h =
    let p = query_derived u h.0 in
    let o = query_derived v h.1 in
    let f = λ (r : List Lexeme). q.minus_product (p.as_sum (Minus ∷ query_tokens OfProduct v r)) (o.as_product r) in
    record { as_sum = f; as_product = λ r. q.factor (q.grouped (f (Close ∷ r))); as_factor = λ r. q.grouped (f (Close ∷ r)) }
query_derived (t.mul u v) h =
    let p = query_derived u h.0 in
    let o = query_derived v h.1 in
    let f = λ (r : List Lexeme). q.times_factor (p.as_product (Times ∷ query_tokens OfFactor v r)) (o.as_factor r) in
    record { as_sum = λ r. q.product (f r); as_product = f; as_factor = λ r. q.grouped (q.product (f (Close ∷ r))) }

pub canonical_derived : (u : QueryTerm) → IsNearQuery u → q.IsQuery (query_tokens OfSum u []) [] u
canonical_derived u h = (query_derived u h).as_sum []
