-- Where a part sticks, the whole sticks.
use Rattle.std.proofs.Common.{◌≡◌, ℤ, true, false, List, [], ◌∷◌, ◌++◌, ◌∙◌, refl}
use Rattle.expr_parse.specs.declared.lexeme.Lexeme.{Lexeme}
use Rattle.expr_parse.specs.declared.lexeme.Lexeme.TheVariants.{Open, Close, Comma, Plus, Minus, Times}
use Rattle.expr_parse.specs.declared.series.Stuck.{Stuck}
use Rattle.expr_parse.specs.declared.series.Stuck.TheVariants.{At, Memory}
use Rattle.expr_parse.specs.Pending.{Pending, sticks, continues, has_comma, ends, query, more_query, series, more_series, whole, place, open_sign, comma_sign, close_sign}
use Rattle.expr_parse.specs.Stuck.{IsStuck}
use Rattle.semantics.specs.Term.{Term, Range, QueryTerm}
use Rattle.expr_parse.specs.SeriesGrammar.{IsPlace, IsRange, IsSeries, IsProduct, range}
use Rattle.expr_parse.specs.QueryGrammar as q
use Rattle.expr_parse.proofs.Passes.{query_passes, term_passes, place_passes, series_passes, product_passes}

-- Where the entries come to others at some tokens left, and reading stops there, it stops so from the start.
pub stuck_behind : (entries others behind : List Pending) (ts rest : List Lexeme) → ((es : List Pending) → sticks (entries ++ es) ts ≡ sticks (others ++ (behind ++ es)) rest) → (e : Stuck) → IsStuck others rest e → IsStuck entries ts e
stuck_behind entries others behind ts rest come (At left) stuck = λ es. come es ∙ stuck (behind ++ es)
stuck_behind entries others behind ts rest come Memory stuck = tt

pub range_opened : (ts first mid second last : List Lexeme) (l r : ℤ) → ts ≡ Comma ∷ first → IsPlace first mid l → mid ≡ Comma ∷ second → IsPlace second last r → (es : List Pending) → sticks (comma_sign ∷ place ∷ comma_sign ∷ place ∷ close_sign ∷ es) ts ≡ sticks (close_sign ∷ es) last
range_opened ts first mid second last l r e p f q es =
    rw e (place_passes p.0 p.1 (comma_sign ∷ place ∷ close_sign ∷ es) ∙ rw f (place_passes q.0 q.1 (close_sign ∷ es)))

pub range_at : (ts first mid second last rest : List Lexeme) (l r : ℤ) (b : Range) → ts ≡ Comma ∷ first → IsPlace first mid l → mid ≡ Comma ∷ second → IsPlace second last r → last ≡ Close ∷ rest → b ≡ record { left = l; right = r } → IsRange ts rest b
range_at ts first mid second last rest l r b e p f q g h = rw (e, h) (range (rw f at p) (rw g at q))

-- at a token that is no operator a series ends
pub series_ends : (ts : List Lexeme) → continues ts ≡ false → (es : List Pending) → sticks (more_series ∷ es) ts ≡ sticks es ts
series_ends [] h es = refl
series_ends (Plus ∷ ts) h es = cc
series_ends (Minus ∷ ts) h es = cc
series_ends (Times ∷ ts) h es = cc
series_ends (_ ∷ ts) h es = refl

-- a whole series, with no operator behind it
pub series_closed : {ts rest : List Lexeme} {t : Term} → IsSeries ts rest t → continues rest ≡ false → (es : List Pending) → sticks (series ∷ es) ts ≡ sticks es rest
series_closed a h es = series_passes a es ∙ series_ends _ h es

pub plus_opened : (ts rest more : List Lexeme) (t : Term) → IsSeries ts rest t → rest ≡ Plus ∷ more → (es : List Pending) → sticks (series ∷ es) ts ≡ sticks (series ∷ es) more
plus_opened ts rest more t a e es = series_passes (rw e at a) es

pub minus_opened : (ts rest more : List Lexeme) (t : Term) → IsSeries ts rest t → rest ≡ Minus ∷ more → (es : List Pending) → sticks (series ∷ es) ts ≡ sticks (series ∷ es) more
minus_opened ts rest more t a e es = series_passes (rw e at a) es

pub times_opened : (ts rest more : List Lexeme) (t : Term) → IsProduct ts rest t → rest ≡ Times ∷ more → (es : List Pending) → sticks (series ∷ es) ts ≡ sticks (series ∷ es) more
times_opened ts rest more t a e es = product_passes (rw e at a) es

pub group_opened : (ts first mid : List Lexeme) (t : Term) → ts ≡ Open ∷ first → IsSeries first mid t → continues mid ≡ false → (es : List Pending) → sticks (series ∷ es) ts ≡ sticks (close_sign ∷ more_series ∷ es) mid
group_opened ts first mid t e a h es = rw e (series_closed a h (close_sign ∷ more_series ∷ es))

pub shift_opened : (ts first mid : List Lexeme) (t : Term) → ts ≡ Open ∷ first → IsSeries first mid t → continues mid ≡ false → (es : List Pending) → sticks (open_sign ∷ series ∷ comma_sign ∷ place ∷ close_sign ∷ es) ts ≡ sticks (comma_sign ∷ place ∷ close_sign ∷ es) mid
shift_opened ts first mid t e a h es = rw e (series_closed a h (comma_sign ∷ place ∷ close_sign ∷ es))

pub place_opened : (ts first last : List Lexeme) (k : ℤ) → ts ≡ Comma ∷ first → IsPlace first last k → (es : List Pending) → sticks (comma_sign ∷ place ∷ close_sign ∷ es) ts ≡ sticks (close_sign ∷ es) last
place_opened ts first last k e p es = rw e (place_passes p.0 p.1 (close_sign ∷ es))

pub negative_opened : (ts rest : List Lexeme) → ts ≡ Minus ∷ rest → (es : List Pending) → sticks (series ∷ es) ts ≡ sticks (whole ∷ more_series ∷ es) ts
negative_opened ts rest e es = rw e refl

pub comma_opened : (ts rest : List Lexeme) → ts ≡ Comma ∷ rest → (es : List Pending) → sticks (comma_sign ∷ es) ts ≡ sticks es rest
comma_opened ts rest e es = rw e refl

-- a series behind the opening sign
pub series_opened : (ts first mid : List Lexeme) (t : Term) → ts ≡ Open ∷ first → IsSeries first mid t → continues mid ≡ false → (es : List Pending) → sticks (open_sign ∷ series ∷ es) ts ≡ sticks es mid
series_opened ts first mid t e a h es = rw e (series_closed a h es)

-- and one behind a comma
pub next_series : (ts first mid : List Lexeme) (t : Term) → ts ≡ Comma ∷ first → IsSeries first mid t → continues mid ≡ false → (es : List Pending) → sticks (comma_sign ∷ series ∷ es) ts ≡ sticks es mid
next_series ts first mid t e a h es = rw e (series_closed a h es)

-- how a sum ends
pub ends_with_range : (ts : List Lexeme) → has_comma ts ≡ true → (es : List Pending) → sticks (ends ∷ es) ts ≡ sticks (comma_sign ∷ place ∷ comma_sign ∷ place ∷ close_sign ∷ es) ts
ends_with_range [] h es = cc
ends_with_range (Comma ∷ ts) h es = refl
ends_with_range (_ ∷ ts) h es = cc

pub ends_without : (ts : List Lexeme) → has_comma ts ≡ false → (es : List Pending) → sticks (ends ∷ es) ts ≡ sticks (close_sign ∷ es) ts
ends_without [] h es = refl
ends_without (Comma ∷ ts) h es = cc
ends_without (_ ∷ ts) h es = refl

-- at a token that is no operator a query ends
pub query_ends : (ts : List Lexeme) → continues ts ≡ false → (es : List Pending) → sticks (more_query ∷ es) ts ≡ sticks es ts
query_ends [] h es = refl
query_ends (Plus ∷ ts) h es = cc
query_ends (Minus ∷ ts) h es = cc
query_ends (Times ∷ ts) h es = cc
query_ends (_ ∷ ts) h es = refl

pub query_closed : {ts rest : List Lexeme} {t : QueryTerm} → q.IsQuery ts rest t → continues rest ≡ false → (es : List Pending) → sticks (query ∷ es) ts ≡ sticks es rest
query_closed a h es = query_passes a es ∙ query_ends _ h es

pub plus_query : (ts rest more : List Lexeme) (t : QueryTerm) → q.IsQuery ts rest t → rest ≡ Plus ∷ more → (es : List Pending) → sticks (query ∷ es) ts ≡ sticks (query ∷ es) more
plus_query ts rest more t a e es = query_passes (rw e at a) es

pub minus_query : (ts rest more : List Lexeme) (t : QueryTerm) → q.IsQuery ts rest t → rest ≡ Minus ∷ more → (es : List Pending) → sticks (query ∷ es) ts ≡ sticks (query ∷ es) more
minus_query ts rest more t a e es = query_passes (rw e at a) es

pub times_query : (ts rest more : List Lexeme) (t : QueryTerm) → q.IsProduct ts rest t → rest ≡ Times ∷ more → (es : List Pending) → sticks (query ∷ es) ts ≡ sticks (query ∷ es) more
times_query ts rest more t a e es = term_passes (rw e at a) es

pub group_query : (ts first mid : List Lexeme) (t : QueryTerm) → ts ≡ Open ∷ first → q.IsQuery first mid t → continues mid ≡ false → (es : List Pending) → sticks (query ∷ es) ts ≡ sticks (close_sign ∷ more_query ∷ es) mid
group_query ts first mid t e a h es = rw e (query_closed a h (close_sign ∷ more_query ∷ es))

pub negative_query : (ts rest : List Lexeme) → ts ≡ Minus ∷ rest → (es : List Pending) → sticks (query ∷ es) ts ≡ sticks (whole ∷ more_query ∷ es) ts
negative_query ts rest e es = rw e refl
