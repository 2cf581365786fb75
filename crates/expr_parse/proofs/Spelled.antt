-- Where the pending list doesn't stick, the tokens are in the grammar.
use Rattle.std.proofs.Common.{◌≡◌, ℕ, ◌≤◌, ◌^◌, ◌⊎◌, inl, inr, ℤ, pos, Bool, true, false, cond, List, [], ◌∷◌, ◌∙◌, ap, sym, refl, length, nat_le, subst, arith}
use Rattle.std.proofs.lemmas.Grind.{common_steps}
use Rattle.std.specs.Prelude.{Option, Some, None, suc, neg_ℤ}
use Rattle.semantics.specs.Term.{Term, Range, QueryTerm}
use Rattle.semantics.specs.Term as t
use Rattle.expr_parse.specs.declared.lexeme.Lexeme.{Lexeme}
use Rattle.expr_parse.specs.declared.lexeme.Lexeme.TheVariants.{Number, Named, Sum, VarNum, CovNum, Const, Shift, Open, Close, Comma, Plus, Minus, Times}
use Rattle.expr_parse.specs.SeriesGrammar as s
use Rattle.expr_parse.specs.SeriesGrammar.{IsWhole, IsPlace, IsRange, positive, negative, range}
use Rattle.expr_parse.specs.QueryGrammar as q
use Rattle.expr_parse.specs.Pending.{Pending, after, sticks, query, more_query, series, more_series, ends, whole, place, number, near, name, sum, varnum, covnum, const, shift, open_sign, close_sign, comma_sign, plus_sign, minus_sign, times_sign}
use Rattle.expr_parse.proofs.Passes.{abs_of_negative}

-- what is read of one kind of chain up to some tokens: a product, or a sum, a sign and a product

data SeriesLeft : List Lexeme → List Lexeme → Type 0 where
  series_alone : {first ts : List Lexeme} {u : Term} → s.IsProduct first ts u → SeriesLeft first ts
  series_added : {first mid ts : List Lexeme} {u v : Term} → s.IsSeries first (Plus ∷ mid) u → s.IsProduct mid ts v → SeriesLeft first ts
  series_taken : {first mid ts : List Lexeme} {u v : Term} → s.IsSeries first (Minus ∷ mid) u → s.IsProduct mid ts v → SeriesLeft first ts

series_closed : {first ts : List Lexeme} → SeriesLeft first ts → (u : Term) × s.IsSeries first ts u
series_closed (series_alone p) = (_, s.product p)
series_closed (series_added a p) = (_, s.plus_product a p)
series_closed (series_taken a p) = (_, s.minus_product a p)

series_times : (first mid before ts : List Lexeme) (v : Term) → before ≡ Times ∷ mid → SeriesLeft first before → s.IsFactor mid ts v → SeriesLeft first ts
series_times first mid before ts v e (series_alone p) f = series_alone (s.times_factor (rw e at p) f)
series_times first mid before ts v e (series_added a p) f = series_added a (s.times_factor (rw e at p) f)
series_times first mid before ts v e (series_taken a p) f = series_taken a (s.times_factor (rw e at p) f)

-- whatever is read up to some tokens goes on to a whole up to others
abbrev SeriesExtends : List Lexeme → List Lexeme → Type 0
SeriesExtends ts rest = (first : List Lexeme) → SeriesLeft first ts → (u : Term) × s.IsSeries first rest u

record SeriesSpelled (ts : List Lexeme) (Behind : List Lexeme → Type 0) : Type 0 where
  mid : List Lexeme
  rest : List Lexeme
  term : Term
  factor : s.IsFactor ts mid term
  extends : SeriesExtends mid rest
  behind : Behind rest

record MoreSeriesSpelled (ts : List Lexeme) (Behind : List Lexeme → Type 0) : Type 0 where
  rest : List Lexeme
  extends : SeriesExtends ts rest
  behind : Behind rest

series_whole : (ts : List Lexeme) (B : List Lexeme → Type 0) (h : SeriesSpelled ts B) → (u : Term) × s.IsSeries ts h.rest u
series_whole ts B h = h.extends ts (series_alone (s.factor h.factor))

series_before : (ts rest other : List Lexeme) → rest ≡ other → ((u : Term) × s.IsSeries ts rest u) → (u : Term) × s.IsSeries ts other u
series_before ts rest other e a = subst (λ r. (u : Term) × s.IsSeries ts r u) e a

data QueryLeft : List Lexeme → List Lexeme → Type 0 where
  query_alone : {first ts : List Lexeme} {u : QueryTerm} → q.IsProduct first ts u → QueryLeft first ts
  query_added : {first mid ts : List Lexeme} {u v : QueryTerm} → q.IsQuery first (Plus ∷ mid) u → q.IsProduct mid ts v → QueryLeft first ts
  query_taken : {first mid ts : List Lexeme} {u v : QueryTerm} → q.IsQuery first (Minus ∷ mid) u → q.IsProduct mid ts v → QueryLeft first ts

query_closed : {first ts : List Lexeme} → QueryLeft first ts → (u : QueryTerm) × q.IsQuery first ts u
query_closed (query_alone p) = (_, q.product p)
query_closed (query_added a p) = (_, q.plus_product a p)
query_closed (query_taken a p) = (_, q.minus_product a p)

query_times : (first mid before ts : List Lexeme) (v : QueryTerm) → before ≡ Times ∷ mid → QueryLeft first before → q.IsFactor mid ts v → QueryLeft first ts
query_times first mid before ts v e (query_alone p) f = query_alone (q.times_factor (rw e at p) f)
query_times first mid before ts v e (query_added a p) f = query_added a (q.times_factor (rw e at p) f)
query_times first mid before ts v e (query_taken a p) f = query_taken a (q.times_factor (rw e at p) f)

-- whatever is read up to some tokens goes on to a whole up to others
abbrev QueryExtends : List Lexeme → List Lexeme → Type 0
QueryExtends ts rest = (first : List Lexeme) → QueryLeft first ts → (u : QueryTerm) × q.IsQuery first rest u

record QuerySpelled (ts : List Lexeme) (Behind : List Lexeme → Type 0) : Type 0 where
  mid : List Lexeme
  rest : List Lexeme
  term : QueryTerm
  factor : q.IsFactor ts mid term
  extends : QueryExtends mid rest
  behind : Behind rest

record MoreQuerySpelled (ts : List Lexeme) (Behind : List Lexeme → Type 0) : Type 0 where
  rest : List Lexeme
  extends : QueryExtends ts rest
  behind : Behind rest

query_whole : (ts : List Lexeme) (B : List Lexeme → Type 0) (h : QuerySpelled ts B) → (u : QueryTerm) × q.IsQuery ts h.rest u
query_whole ts B h = h.extends ts (query_alone (q.factor h.factor))

query_before : (ts rest other : List Lexeme) → rest ≡ other → ((u : QueryTerm) × q.IsQuery ts rest u) → (u : QueryTerm) × q.IsQuery ts other u
query_before ts rest other e a = subst (λ r. (u : QueryTerm) × q.IsQuery ts r u) e a

record SignSpelled (w : Lexeme) (ts : List Lexeme) (Behind : List Lexeme → Type 0) : Type 0 where
  rest : List Lexeme
  is : ts ≡ w ∷ rest
  behind : Behind rest

record NumberSpelled (ts : List Lexeme) (Behind : List Lexeme → Type 0) : Type 0 where
  n : ℕ
  rest : List Lexeme
  is : ts ≡ Number n ∷ rest
  behind : Behind rest

record NearSpelled (ts : List Lexeme) (Behind : List Lexeme → Type 0) : Type 0 where
  n : ℕ
  rest : List Lexeme
  is : ts ≡ Number n ∷ rest
  small : n ≤ 2 ^ 40
  behind : Behind rest

record NameSpelled (ts : List Lexeme) (Behind : List Lexeme → Type 0) : Type 0 where
  n : List ℕ
  rest : List Lexeme
  is : ts ≡ Named n ∷ rest
  behind : Behind rest

record WholeSpelled (ts : List Lexeme) (Behind : List Lexeme → Type 0) : Type 0 where
  v : ℤ
  rest : List Lexeme
  is : IsWhole ts rest v
  behind : Behind rest

record PlaceSpelled (ts : List Lexeme) (Behind : List Lexeme → Type 0) : Type 0 where
  v : ℤ
  rest : List Lexeme
  is : IsPlace ts rest v
  behind : Behind rest

record EndsSpelled (ts : List Lexeme) (Behind : List Lexeme → Type 0) : Type 0 where
  rest : List Lexeme
  is : (ts ≡ Close ∷ rest) ⊎ ((b : Range) × IsRange ts rest b)
  behind : Behind rest

-- the tokens are what the entries ask for
abbrev Spelled : List Pending → List Lexeme → Type 0
Spelled [] ts = ts ≡ []
Spelled (query ∷ es) ts = QuerySpelled ts (Spelled es)
Spelled (more_query ∷ es) ts = MoreQuerySpelled ts (Spelled es)
Spelled (series ∷ es) ts = SeriesSpelled ts (Spelled es)
Spelled (more_series ∷ es) ts = MoreSeriesSpelled ts (Spelled es)
Spelled (ends ∷ es) ts = EndsSpelled ts (Spelled es)
Spelled (whole ∷ es) ts = WholeSpelled ts (Spelled es)
Spelled (place ∷ es) ts = PlaceSpelled ts (Spelled es)
Spelled (number ∷ es) ts = NumberSpelled ts (Spelled es)
Spelled (near ∷ es) ts = NearSpelled ts (Spelled es)
Spelled (name ∷ es) ts = NameSpelled ts (Spelled es)
Spelled (sum ∷ es) ts = SignSpelled Sum ts (Spelled es)
Spelled (varnum ∷ es) ts = SignSpelled VarNum ts (Spelled es)
Spelled (covnum ∷ es) ts = SignSpelled CovNum ts (Spelled es)
Spelled (const ∷ es) ts = SignSpelled Const ts (Spelled es)
Spelled (shift ∷ es) ts = SignSpelled Shift ts (Spelled es)
Spelled (open_sign ∷ es) ts = SignSpelled Open ts (Spelled es)
Spelled (close_sign ∷ es) ts = SignSpelled Close ts (Spelled es)
Spelled (comma_sign ∷ es) ts = SignSpelled Comma ts (Spelled es)
Spelled (plus_sign ∷ es) ts = SignSpelled Plus ts (Spelled es)
Spelled (minus_sign ∷ es) ts = SignSpelled Minus ts (Spelled es)
Spelled (times_sign ∷ es) ts = SignSpelled Times ts (Spelled es)

-- two places behind commas, and the closing sign
spelled_range : (ts : List Lexeme) (es : List Pending) → Spelled (comma_sign ∷ place ∷ comma_sign ∷ place ∷ close_sign ∷ es) ts → (b : Range) × (rest : List Lexeme) × IsRange ts rest b × Spelled es rest
spelled_range ts es h =
    let l = h.behind in
    let c = l.behind in
    let r = c.behind in
    let d = r.behind in
    (record { left = l.v; right = r.v }, d.rest, rw h.is (range (subst (λ x. IsPlace h.rest x l.v) c.is l.is) (subst (λ x. IsPlace c.rest x r.v) d.is r.is)), d.behind)

small_of : (m : ℕ) → nat_le m (2 ^ 40) ≡ true → m ≤ 2 ^ 40
small_of m e = grind (arith, common_steps)

near_taken : (b : Bool) (m : ℕ) (es : List Pending) (ts : List Lexeme) → nat_le m (2 ^ 40) ≡ b → ((fs : List Pending) → cond b (Some es) None ≡ Some fs → Spelled fs ts) → (cond b (Some es) None ≡ None → ⊥) → (m ≤ 2 ^ 40) × Spelled es ts
near_taken true m es ts e k n = (small_of m e, k es refl)
near_taken false m es ts e k n = absurd (n refl)

-- a sum, with or without a range
sum_spelled : (ts first mid last : List Lexeme) (u : Term) (B : List Lexeme → Type 0) → ts ≡ Open ∷ first → s.IsSeries first mid u → (mid ≡ Close ∷ last) ⊎ ((b : Range) × IsRange mid last b) → MoreQuerySpelled last B → QuerySpelled (Sum ∷ ts) B
sum_spelled ts first mid last u B e a (inl f) m = record { mid = last; rest = m.rest; term = t.sum u None; factor = rw e (q.sum_of (rw f at a)); extends = m.extends; behind = m.behind }
sum_spelled ts first mid last u B e a (inr r) m = record { mid = last; rest = m.rest; term = t.sum u (Some r.0); factor = rw e (q.sum_over a r.1); extends = m.extends; behind = m.behind }

go : (es : List Pending) (t : Lexeme) (ts : List Lexeme) → ((fs : List Pending) → after es t ≡ Some fs → Spelled fs ts) → (after es t ≡ None → ⊥) → Spelled es (t ∷ ts)
go [] t ts k n = absurd (n refl)
go (query ∷ es) (Number m) ts k n =
    let h = k (more_query ∷ es) refl in
    record { mid = ts; rest = h.rest; term = t.number (pos m); factor = q.whole positive; extends = h.extends; behind = h.behind }
go (query ∷ es) Minus ts k n =
    let h = k (number ∷ more_query ∷ es) refl in
    let m = h.behind in
    record { mid = h.rest; rest = m.rest; term = t.number (neg_ℤ (pos h.n)); factor = rw h.is (q.whole negative); extends = m.extends; behind = m.behind }
go (query ∷ es) Open ts k n =
    let h = k (query ∷ close_sign ∷ more_query ∷ es) refl in
    let d = h.behind in
    let a = query_before ts h.rest (Close ∷ d.rest) d.is (query_whole ts _ h) in
    let m = d.behind in
    record { mid = d.rest; rest = m.rest; term = a.0; factor = q.grouped a.1; extends = m.extends; behind = m.behind }
go (query ∷ es) Sum ts k n =
    let o = k (open_sign ∷ series ∷ ends ∷ more_query ∷ es) refl in
    let h = o.behind in
    let a = series_whole o.rest _ h in
    let d = h.behind in
    let m = d.behind in
    sum_spelled ts o.rest h.rest d.rest a.0 (Spelled es) o.is a.1 d.is m
go (query ∷ es) VarNum ts k n =
    let o = k (open_sign ∷ series ∷ comma_sign ∷ place ∷ comma_sign ∷ place ∷ close_sign ∷ more_query ∷ es) refl in
    let h = o.behind in
    let a = series_whole o.rest _ h in
    let r = spelled_range h.rest (more_query ∷ es) h.behind in
    let m = r.3 in
    record { mid = r.1; rest = m.rest; term = t.variance a.0 r.0; factor = rw o.is (q.varnum a.1 r.2); extends = m.extends; behind = m.behind }
go (query ∷ es) CovNum ts k n =
    let o = k (open_sign ∷ series ∷ comma_sign ∷ series ∷ comma_sign ∷ place ∷ comma_sign ∷ place ∷ close_sign ∷ more_query ∷ es) refl in
    let h = o.behind in
    let d = h.behind in
    let a = series_before o.rest h.rest (Comma ∷ d.rest) d.is (series_whole o.rest _ h) in
    let i = d.behind in
    let b = series_whole d.rest _ i in
    let r = spelled_range i.rest (more_query ∷ es) i.behind in
    let m = r.3 in
    record { mid = r.1; rest = m.rest; term = t.covariance a.0 b.0 r.0; factor = rw o.is (q.covnum a.1 b.1 r.2); extends = m.extends; behind = m.behind }
go (more_query ∷ es) Plus ts k n =
    let h = k (query ∷ es) refl in
    record { rest = h.rest; extends = λ first p. h.extends first (query_added (query_closed p).1 (q.factor h.factor)); behind = h.behind }
go (more_query ∷ es) Minus ts k n =
    let h = k (query ∷ es) refl in
    record { rest = h.rest; extends = λ first p. h.extends first (query_taken (query_closed p).1 (q.factor h.factor)); behind = h.behind }
go (more_query ∷ es) Times ts k n =
    let h = k (query ∷ es) refl in
    record { rest = h.rest; extends = λ first p. h.extends first (query_times first ts (Times ∷ ts) h.mid h.term refl p h.factor); behind = h.behind }
go (more_query ∷ es) t ts k n = record { rest = t ∷ ts; extends = λ first p. query_closed p; behind = go es t ts k n }
go (series ∷ es) (Number m) ts k n =
    let h = k (more_series ∷ es) refl in
    record { mid = ts; rest = h.rest; term = t.bare (pos m); factor = s.whole positive; extends = h.extends; behind = h.behind }
go (series ∷ es) Minus ts k n =
    let h = k (number ∷ more_series ∷ es) refl in
    let m = h.behind in
    record { mid = h.rest; rest = m.rest; term = t.bare (neg_ℤ (pos h.n)); factor = rw h.is (s.whole negative); extends = m.extends; behind = m.behind }
go (series ∷ es) Open ts k n =
    let h = k (series ∷ close_sign ∷ more_series ∷ es) refl in
    let d = h.behind in
    let a = series_before ts h.rest (Close ∷ d.rest) d.is (series_whole ts _ h) in
    let m = d.behind in
    record { mid = d.rest; rest = m.rest; term = a.0; factor = s.grouped a.1; extends = m.extends; behind = m.behind }
go (series ∷ es) (Named w) ts k n =
    let h = k (more_series ∷ es) refl in
    record { mid = ts; rest = h.rest; term = t.base w; factor = s.name; extends = h.extends; behind = h.behind }
go (series ∷ es) Const ts k n =
    let o = k (open_sign ∷ whole ∷ comma_sign ∷ place ∷ comma_sign ∷ place ∷ close_sign ∷ more_series ∷ es) refl in
    let w = o.behind in
    let r = spelled_range w.rest (more_series ∷ es) w.behind in
    let m = r.3 in
    record { mid = r.1; rest = m.rest; term = t.constant w.v r.0.left r.0.right; factor = rw o.is (s.const w.is r.2); extends = m.extends; behind = m.behind }
go (series ∷ es) Shift ts k n =
    let o = k (open_sign ∷ series ∷ comma_sign ∷ place ∷ close_sign ∷ more_series ∷ es) refl in
    let h = o.behind in
    let c = h.behind in
    let a = series_before o.rest h.rest (Comma ∷ c.rest) c.is (series_whole o.rest _ h) in
    let p = c.behind in
    let d = p.behind in
    let m = d.behind in
    record { mid = d.rest; rest = m.rest; term = t.shift a.0 p.v; factor = rw o.is (s.shifted a.1 (subst (λ r. IsPlace c.rest r p.v) d.is p.is)); extends = m.extends; behind = m.behind }
go (more_series ∷ es) Plus ts k n =
    let h = k (series ∷ es) refl in
    record { rest = h.rest; extends = λ first p. h.extends first (series_added (series_closed p).1 (s.factor h.factor)); behind = h.behind }
go (more_series ∷ es) Minus ts k n =
    let h = k (series ∷ es) refl in
    record { rest = h.rest; extends = λ first p. h.extends first (series_taken (series_closed p).1 (s.factor h.factor)); behind = h.behind }
go (more_series ∷ es) Times ts k n =
    let h = k (series ∷ es) refl in
    record { rest = h.rest; extends = λ first p. h.extends first (series_times first ts (Times ∷ ts) h.mid h.term refl p h.factor); behind = h.behind }
go (more_series ∷ es) t ts k n = record { rest = t ∷ ts; extends = λ first p. series_closed p; behind = go es t ts k n }
go (ends ∷ es) Comma ts k n =
    let h = k (place ∷ comma_sign ∷ place ∷ close_sign ∷ es) refl in
    let r = spelled_range (Comma ∷ ts) es (record { rest = ts; is = refl; behind = h }) in
    record { rest = r.1; is = inr (r.0, r.2); behind = r.3 }
go (ends ∷ es) Close ts k n = record { rest = ts; is = inl refl; behind = k es refl }
go (whole ∷ es) (Number m) ts k n = record { v = pos m; rest = ts; is = positive; behind = k es refl }
go (whole ∷ es) Minus ts k n =
    let h = k (number ∷ es) refl in
    record { v = neg_ℤ (pos h.n); rest = h.rest; is = rw h.is negative; behind = h.behind }
go (place ∷ es) (Number m) ts k n =
    let h = near_taken (nat_le m (2 ^ 40)) m es ts refl k n in
    record { v = pos m; rest = ts; is = (positive, h.0); behind = h.1 }
go (place ∷ es) Minus ts k n =
    let h = k (near ∷ es) refl in
    record { v = neg_ℤ (pos h.n); rest = h.rest; is = (rw h.is negative, rw abs_of_negative h.small); behind = h.behind }
go (number ∷ es) (Number m) ts k n = record { n = m; rest = ts; is = refl; behind = k es refl }
go (near ∷ es) (Number m) ts k n =
    let h = near_taken (nat_le m (2 ^ 40)) m es ts refl k n in
    record { n = m; rest = ts; is = refl; small = h.0; behind = h.1 }
go (name ∷ es) (Named w) ts k n = record { n = w; rest = ts; is = refl; behind = k es refl }
go (sum ∷ es) Sum ts k n = record { rest = ts; is = refl; behind = k es refl }
go (varnum ∷ es) VarNum ts k n = record { rest = ts; is = refl; behind = k es refl }
go (covnum ∷ es) CovNum ts k n = record { rest = ts; is = refl; behind = k es refl }
go (const ∷ es) Const ts k n = record { rest = ts; is = refl; behind = k es refl }
go (shift ∷ es) Shift ts k n = record { rest = ts; is = refl; behind = k es refl }
go (open_sign ∷ es) Open ts k n = record { rest = ts; is = refl; behind = k es refl }
go (close_sign ∷ es) Close ts k n = record { rest = ts; is = refl; behind = k es refl }
go (comma_sign ∷ es) Comma ts k n = record { rest = ts; is = refl; behind = k es refl }
go (plus_sign ∷ es) Plus ts k n = record { rest = ts; is = refl; behind = k es refl }
go (minus_sign ∷ es) Minus ts k n = record { rest = ts; is = refl; behind = k es refl }
go (times_sign ∷ es) Times ts k n = record { rest = ts; is = refl; behind = k es refl }
go (_ ∷ es) t ts k n = absurd (n refl)

at_end : (es : List Pending) → sticks es [] ≡ None → Spelled es []
at_end [] h = refl
at_end (more_query ∷ es) h = record { rest = []; extends = λ first p. query_closed p; behind = at_end es h }
at_end (more_series ∷ es) h = record { rest = []; extends = λ first p. series_closed p; behind = at_end es h }
at_end (_ ∷ es) h = cc h

spelled : (ts : List Lexeme) (es : List Pending) → sticks es ts ≡ None → Spelled es ts
spelled [] es h = at_end es h
spelled (t ∷ ts) es h =
    let onward : Option (List Pending) → Option ℕ = elim [ None ↦ Some (suc (length ts)) | Some fs ↦ sticks fs ts ] in
    go es t ts
    (λ fs e. spelled ts fs (sym (ap onward e) ∙ h))
    (λ e. let f : Some (suc (length ts)) ≡ None = sym (ap onward e) ∙ h in cc f)

pub in_grammar : (ts : List Lexeme) → sticks (query ∷ []) ts ≡ None → (u : QueryTerm) × q.IsQuery ts [] u
in_grammar ts h =
    let a = spelled ts (query ∷ []) h in
    query_before ts a.rest [] a.behind (query_whole ts _ a)
