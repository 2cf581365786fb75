-- What the grammar reads is what the pending list takes for the same entry.
use Rattle.std.proofs.Common.{◌≡◌, ℕ, ◌≤◌, ◌^◌, ℤ, pos, List, ◌∷◌, ◌∙◌, refl, le-leb}
use Rattle.std.specs.Prelude.{suc, zero, neg_ℤ, unsigned_abs}
use Rattle.semantics.specs.Term.{Term, Range, QueryTerm}
use Rattle.expr_parse.specs.declared.lexeme.Lexeme.{Lexeme}
use Rattle.expr_parse.specs.declared.lexeme.Lexeme.TheVariants.{Number}
use Rattle.expr_parse.specs.SeriesGrammar as s
use Rattle.expr_parse.specs.SeriesGrammar.{IsWhole, IsPlace, IsRange, positive, negative, range}
use Rattle.expr_parse.specs.QueryGrammar as q
use Rattle.expr_parse.specs.Pending.{Pending, sticks, query, more_query, series, more_series, ends, whole, place, near, comma_sign, close_sign}

pub whole_passes : {ts rest : List Lexeme} {v : ℤ} → IsWhole ts rest v → (es : List Pending) → sticks (whole ∷ es) ts ≡ sticks es rest
whole_passes positive es = refl
whole_passes negative es = refl

-- a near number is taken
near_taken : (n : ℕ) (es : List Pending) (rest : List Lexeme) → n ≤ 2 ^ 40 → sticks (near ∷ es) (Number n ∷ rest) ≡ sticks es rest
near_taken n es rest h = rw (le-leb n (2 ^ 40) h, sticks) refl

pub abs_of_negative : (n : ℕ) → unsigned_abs (neg_ℤ (pos n)) ≡ n
abs_of_negative zero = refl
abs_of_negative (suc n) = refl

pub place_passes : {ts rest : List Lexeme} {v : ℤ} → IsWhole ts rest v → unsigned_abs v ≤ 2 ^ 40 → (es : List Pending) → sticks (place ∷ es) ts ≡ sticks es rest
place_passes (positive {n = n} {rest = rest}) h es = near_taken n es rest h
place_passes (negative {n = n} {rest = rest}) h es = near_taken n es rest (rw abs_of_negative at h)

pub range_passes : {ts rest : List Lexeme} {b : Range} → IsRange ts rest b → (es : List Pending) → sticks (comma_sign ∷ place ∷ comma_sign ∷ place ∷ close_sign ∷ es) ts ≡ sticks es rest
range_passes (range l r) es = place_passes l.0 l.1 (comma_sign ∷ place ∷ close_sign ∷ es) ∙ place_passes r.0 r.1 (close_sign ∷ es)

whole_series : {ts rest : List Lexeme} {v : ℤ} → IsWhole ts rest v → (es : List Pending) → sticks (series ∷ es) ts ≡ sticks (more_series ∷ es) rest
whole_series positive es = refl
whole_series negative es = refl

whole_query : {ts rest : List Lexeme} {v : ℤ} → IsWhole ts rest v → (es : List Pending) → sticks (query ∷ es) ts ≡ sticks (more_query ∷ es) rest
whole_query positive es = refl
whole_query negative es = refl

mutual
  pub series_passes : {ts rest : List Lexeme} {t : Term} → s.IsSeries ts rest t → (es : List Pending) → sticks (series ∷ es) ts ≡ sticks (more_series ∷ es) rest
  series_passes (s.product p) es = product_passes p es
  series_passes (s.plus_product a p) es = series_passes a es ∙ product_passes p es
  series_passes (s.minus_product a p) es = series_passes a es ∙ product_passes p es

  pub product_passes : {ts rest : List Lexeme} {t : Term} → s.IsProduct ts rest t → (es : List Pending) → sticks (series ∷ es) ts ≡ sticks (more_series ∷ es) rest
  product_passes (s.factor f) es = factor_passes f es
  product_passes (s.times_factor p f) es = product_passes p es ∙ factor_passes f es

  pub factor_passes : {ts rest : List Lexeme} {t : Term} → s.IsFactor ts rest t → (es : List Pending) → sticks (series ∷ es) ts ≡ sticks (more_series ∷ es) rest
  factor_passes s.name es = refl
  factor_passes (s.whole w) es = whole_series w es
  factor_passes (s.grouped a) es = series_passes a (close_sign ∷ more_series ∷ es)
  factor_passes (s.const w b) es = whole_passes w (comma_sign ∷ place ∷ comma_sign ∷ place ∷ close_sign ∷ more_series ∷ es) ∙ range_passes b (more_series ∷ es)
  factor_passes (s.shifted a k) es = series_passes a (comma_sign ∷ place ∷ close_sign ∷ more_series ∷ es) ∙ place_passes k.0 k.1 (close_sign ∷ more_series ∷ es)

-- at a range the list goes on as if none might follow
range_continues : {ts rest : List Lexeme} {b : Range} → IsRange ts rest b → (es : List Pending) → sticks (ends ∷ es) ts ≡ sticks es rest
range_continues (range l r) es = range_passes (range l r) es

more_series_range : {ts rest : List Lexeme} {b : Range} → IsRange ts rest b → (es : List Pending) → sticks (more_series ∷ es) ts ≡ sticks es ts
more_series_range (range l r) es = refl

mutual
  pub query_passes : {ts rest : List Lexeme} {t : QueryTerm} → q.IsQuery ts rest t → (es : List Pending) → sticks (query ∷ es) ts ≡ sticks (more_query ∷ es) rest
  query_passes (q.product p) es = term_passes p es
  query_passes (q.plus_product a p) es = query_passes a es ∙ term_passes p es
  query_passes (q.minus_product a p) es = query_passes a es ∙ term_passes p es

  pub term_passes : {ts rest : List Lexeme} {t : QueryTerm} → q.IsProduct ts rest t → (es : List Pending) → sticks (query ∷ es) ts ≡ sticks (more_query ∷ es) rest
  term_passes (q.factor f) es = query_factor_passes f es
  term_passes (q.times_factor p f) es = term_passes p es ∙ query_factor_passes f es

  pub query_factor_passes : {ts rest : List Lexeme} {t : QueryTerm} → q.IsFactor ts rest t → (es : List Pending) → sticks (query ∷ es) ts ≡ sticks (more_query ∷ es) rest
  query_factor_passes (q.whole w) es = whole_query w es
  query_factor_passes (q.grouped a) es = query_passes a (close_sign ∷ more_query ∷ es)
  query_factor_passes (q.sum_of t) es = series_passes t (ends ∷ more_query ∷ es)
  query_factor_passes (q.sum_over t b) es = series_passes t (ends ∷ more_query ∷ es) ∙ more_series_range b (ends ∷ more_query ∷ es) ∙ range_continues b (more_query ∷ es)
  query_factor_passes (q.varnum t b) es = series_passes t (comma_sign ∷ place ∷ comma_sign ∷ place ∷ close_sign ∷ more_query ∷ es) ∙ more_series_range b (comma_sign ∷ place ∷ comma_sign ∷ place ∷ close_sign ∷ more_query ∷ es) ∙ range_passes b (more_query ∷ es)
  query_factor_passes (q.covnum t u b) es =
      series_passes t (comma_sign ∷ series ∷ comma_sign ∷ place ∷ comma_sign ∷ place ∷ close_sign ∷ more_query ∷ es)
      ∙ series_passes u (comma_sign ∷ place ∷ comma_sign ∷ place ∷ close_sign ∷ more_query ∷ es)
      ∙ more_series_range b (comma_sign ∷ place ∷ comma_sign ∷ place ∷ close_sign ∷ more_query ∷ es)
      ∙ range_passes b (more_query ∷ es)
