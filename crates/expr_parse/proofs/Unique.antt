-- The grammar gives the tree that is read, and so one tree alone.
use Rattle.std.proofs.Common.{◌≡◌, ℕ, ◌≤◌, ◌^◌, ℤ, pos, List, [], ◌∷◌, ◌∙◌, ap, sym, refl, le-leb}
use Rattle.std.specs.Prelude.{Option, Some, None, option_map, neg_ℤ, unsigned_abs}
use Rattle.semantics.specs.Term as t
use Rattle.semantics.specs.Term.{Term, Range, QueryTerm}
use Rattle.expr_parse.specs.declared.lexeme.Lexeme.{Lexeme}
use Rattle.expr_parse.specs.declared.lexeme.Lexeme.TheVariants.{Number, Sum, VarNum, CovNum, Const, Shift, Open, Close, Comma, Plus, Minus, Times}
use Rattle.expr_parse.specs.SeriesGrammar as s
use Rattle.expr_parse.specs.SeriesGrammar.{IsWhole, IsPlace, IsRange, positive, negative, range}
use Rattle.expr_parse.specs.QueryGrammar as q
use Rattle.expr_parse.specs.Pending.{Pending, query, more_query, series, more_series, ends, whole, place, near, close_sign, comma_sign}
use Rattle.expr_parse.proofs.Passes.{abs_of_negative}
use Rattle.expr_parse.specs.Reading.{More, end, plus, minus, times, query_chain, series_chain, query_tree, series_tree, read, range_from, tree_of}

-- operators behind others
abbrev pub join : {T : Type 0} → More T → More T → More T
join end ns = ns
join (plus f ms) ns = plus f (join ms ns)
join (minus f ms) ns = minus f (join ms ns)
join (times f ms) ns = times f (join ms ns)

pub map_map : {A B C : Type 0} (f : B → C) (g : A → B) (o : Option A) → option_map f (option_map g o) ≡ option_map (λ a. f (g a)) o
map_map f g None = refl
map_map f g (Some a) = refl

pub join_join : {T : Type 0} (ls ms ns : More T) → join (join ls ms) ns ≡ join ls (join ms ns)
join_join end ms ns = refl
join_join (plus f ls) ms ns = ap (plus f) (join_join ls ms ns)
join_join (minus f ls) ms ns = ap (minus f) (join_join ls ms ns)
join_join (times f ls) ms ns = ap (times f) (join_join ls ms ns)

pub map_same : {A B : Type 0} (f g : A → B) → ((a : A) → f a ≡ g a) → (o : Option A) → option_map f o ≡ option_map g o
map_same f g h None = refl
map_same f g h (Some a) = ap Some (h a)

-- a whole number, a place, a range
whole_read : {ts rest : List Lexeme} {v : ℤ} → IsWhole ts rest v → (es : List Pending) → read ts (whole ∷ es) ≡ option_map (λ p. (v, p)) (read rest es)
whole_read positive es = refl
whole_read negative es = map_map _ _ _

near_read : (n : ℕ) (es : List Pending) (rest : List Lexeme) → n ≤ 2 ^ 40 → read (Number n ∷ rest) (near ∷ es) ≡ option_map (λ p. (n, p)) (read rest es)
near_read n es rest h = rw (le-leb n (2 ^ 40) h, read) refl

place_read : {ts rest : List Lexeme} {v : ℤ} → IsWhole ts rest v → unsigned_abs v ≤ 2 ^ 40 → (es : List Pending) → read ts (place ∷ es) ≡ option_map (λ p. (v, p)) (read rest es)
place_read (positive {n = n} {rest = rest}) h es = rw (le-leb n (2 ^ 40) h, read) refl
place_read (negative {n = n} {rest = rest}) h es = ap (option_map (λ p. (neg_ℤ (pos p.0), p.1))) (near_read n es rest (rw abs_of_negative at h)) ∙ map_map _ _ _

range_read : {ts rest : List Lexeme} {b : Range} → IsRange ts rest b → (es : List Pending) → read ts (comma_sign ∷ place ∷ comma_sign ∷ place ∷ close_sign ∷ es) ≡ option_map (λ p. (b.left, (b.right, p))) (read rest es)
range_read (range l r) es = place_read l.0 l.1 (comma_sign ∷ place ∷ close_sign ∷ es) ∙ ap (option_map (λ p. (_, p))) (place_read r.0 r.1 (close_sign ∷ es)) ∙ map_map _ _ _

range_ends : {ts rest : List Lexeme} {b : Range} → IsRange ts rest b → (es : List Pending) → read ts (ends ∷ es) ≡ option_map (λ p. (Some b, p)) (read rest es)
range_ends (range l r) es = ap (option_map (λ p. (Some (range_from p.0 p.1.0), p.1.1))) (range_read (range l r) es) ∙ map_map _ _ _

range_more_series : {ts rest : List Lexeme} {b : Range} → IsRange ts rest b → (es : List Pending) → read ts (more_series ∷ es) ≡ option_map (λ p. (end, p)) (read ts es)
range_more_series (range l r) es = refl

-- a product is a factor and operators that are all `*`
pub record SeriesProductRead (ts rest : List Lexeme) (u : Term) : Type 0 where
  pub first : Term
  pub more : More Term
  pub joined : (sum : Term → Term) (ns : More Term) → series_chain sum first (join more ns) ≡ series_chain sum u ns
  pub reads : (es : List Pending) → read ts (series ∷ es) ≡ option_map (λ p. ((first, join more p.0), p.1)) (read rest (more_series ∷ es))

-- a sum is a factor and operators, of which those behind the last `+` or `-` are all `*`
pub record SeriesRead (ts rest : List Lexeme) (u : Term) : Type 0 where
  pub first : Term
  pub more : More Term
  pub sum : Term → Term
  pub last : Term
  pub whole_is : u ≡ sum last
  pub joined : (ns : More Term) → series_chain (λ v. v) first (join more ns) ≡ series_chain sum last ns
  pub reads : (es : List Pending) → read ts (series ∷ es) ≡ option_map (λ p. ((first, join more p.0), p.1)) (read rest (more_series ∷ es))

abbrev pub SeriesFactorRead : List Lexeme → List Lexeme → Term → Type 0
SeriesFactorRead ts rest u = (es : List Pending) → read ts (series ∷ es) ≡ option_map (λ p. ((u, p.0), p.1)) (read rest (more_series ∷ es))

Series_times : {ts mid rest : List Lexeme} {u v : Term} → SeriesProductRead ts (Times ∷ mid) u → SeriesFactorRead mid rest v → SeriesProductRead ts rest (t.times u v)
Series_times {v = v} p f = record {
  first = p.first;
  more = join p.more (times v end);
  joined = λ sum ns. ap (series_chain sum p.first) (join_join p.more (times v end) ns) ∙ p.joined sum (times v ns);
  reads = λ es. p.reads es ∙ ap (option_map (λ x. ((p.first, join p.more x.0), x.1))) (ap (option_map (λ x. (times x.0.0 x.0.1, x.1))) (f es) ∙ map_map _ _ _) ∙ map_map _ _ _ ∙ map_same _ _ (λ x i. ((p.first, sym (join_join p.more (times v end) x.0) i), x.1)) _;
}

Series_plus : {ts mid rest : List Lexeme} {u v : Term} → SeriesRead ts (Plus ∷ mid) u → SeriesProductRead mid rest v → SeriesRead ts rest (t.plus u v)
Series_plus {v = v} a p = record {
  first = a.first;
  more = join a.more (plus p.first p.more);
  sum = t.plus (a.sum a.last);
  last = v;
  whole_is = ap (λ w. t.plus w v) a.whole_is;
  joined = λ ns. ap (series_chain (λ w. w) a.first) (join_join a.more (plus p.first p.more) ns) ∙ a.joined (plus p.first (join p.more ns)) ∙ p.joined (t.plus (a.sum a.last)) ns;
  reads = λ es. a.reads es ∙ ap (option_map (λ x. ((a.first, join a.more x.0), x.1))) (ap (option_map (λ x. (plus x.0.0 x.0.1, x.1))) (p.reads es) ∙ map_map _ _ _) ∙ map_map _ _ _ ∙ map_same _ _ (λ x i. ((a.first, sym (join_join a.more (plus p.first p.more) x.0) i), x.1)) _;
}

Series_minus : {ts mid rest : List Lexeme} {u v : Term} → SeriesRead ts (Minus ∷ mid) u → SeriesProductRead mid rest v → SeriesRead ts rest (t.minus u v)
Series_minus {v = v} a p = record {
  first = a.first;
  more = join a.more (minus p.first p.more);
  sum = t.minus (a.sum a.last);
  last = v;
  whole_is = ap (λ w. t.minus w v) a.whole_is;
  joined = λ ns. ap (series_chain (λ w. w) a.first) (join_join a.more (minus p.first p.more) ns) ∙ a.joined (minus p.first (join p.more ns)) ∙ p.joined (t.minus (a.sum a.last)) ns;
  reads = λ es. a.reads es ∙ ap (option_map (λ x. ((a.first, join a.more x.0), x.1))) (ap (option_map (λ x. (minus x.0.0 x.0.1, x.1))) (p.reads es) ∙ map_map _ _ _) ∙ map_map _ _ _ ∙ map_same _ _ (λ x i. ((a.first, sym (join_join a.more (minus p.first p.more) x.0) i), x.1)) _;
}

Series_product : {ts rest : List Lexeme} {u : Term} → SeriesProductRead ts rest u → SeriesRead ts rest u
Series_product {u = u} p = record { first = p.first; more = p.more; sum = λ w. w; last = u; whole_is = refl; joined = p.joined (λ w. w); reads = p.reads }

Series_factor : {ts rest : List Lexeme} {u : Term} → SeriesFactorRead ts rest u → SeriesProductRead ts rest u
Series_factor {u = u} f = record { first = u; more = end; joined = λ sum ns. refl; reads = f }

-- a whole one, with no operator behind it
pub record SeriesClosed (ts rest : List Lexeme) (u : Term) : Type 0 where
  pub chain : Term × More Term
  pub tree : series_tree chain ≡ u
  pub reads : (es : List Pending) → read ts (series ∷ es) ≡ option_map (λ p. (chain, p)) (read rest es)

Series_closed : {ts rest : List Lexeme} {u : Term} → SeriesRead ts rest u → ((es : List Pending) → read rest (more_series ∷ es) ≡ option_map (λ p. (end, p)) (read rest es)) → SeriesClosed ts rest u
Series_closed a h = record {
  chain = (a.first, join a.more end);
  tree = a.joined end ∙ sym a.whole_is;
  reads = λ es. a.reads es ∙ ap (option_map (λ x. ((a.first, join a.more x.0), x.1))) (h es) ∙ map_map _ _ _;
}

bare_read : {ts rest : List Lexeme} {v : ℤ} → IsWhole ts rest v → SeriesFactorRead ts rest (t.bare v)
bare_read positive es = refl
bare_read negative es = map_map _ _ _

group_read : {ts rest : List Lexeme} {u : Term} → SeriesClosed ts (Close ∷ rest) u → SeriesFactorRead (Open ∷ ts) rest u
group_read c es = ap (option_map (λ p. ((series_tree p.0, p.1.0), p.1.1))) (c.reads (close_sign ∷ more_series ∷ es)) ∙ map_map _ _ _ ∙ map_same _ _ (λ x i. ((c.tree i, x.0), x.1)) _

const_read : {ts mid rest : List Lexeme} {v : ℤ} {b : Range} → IsWhole ts mid v → IsRange mid rest b → SeriesFactorRead (Const ∷ Open ∷ ts) rest (t.constant v b.left b.right)
const_read {v = v} w b es =
    ap (option_map (λ p. ((t.constant p.0 p.1.0 p.1.1.0, p.1.1.1.0), p.1.1.1.1)))
    (whole_read w (comma_sign ∷ place ∷ comma_sign ∷ place ∷ close_sign ∷ more_series ∷ es) ∙ ap (option_map (λ p. (v, p))) (range_read b (more_series ∷ es)) ∙ map_map _ _ _)
    ∙ map_map _ _ _

shift_read : {ts mid rest : List Lexeme} {u : Term} {k : ℤ} → SeriesClosed ts (Comma ∷ mid) u → IsWhole mid (Close ∷ rest) k → unsigned_abs k ≤ 2 ^ 40 → SeriesFactorRead (Shift ∷ Open ∷ ts) rest (t.shift u k)
shift_read {k = k} c w h es =
    ap (option_map (λ p. ((t.shift (series_tree p.0) p.1.0, p.1.1.0), p.1.1.1)))
    (c.reads (comma_sign ∷ place ∷ close_sign ∷ more_series ∷ es) ∙ ap (option_map (λ p. (c.chain, p))) (place_read w h (close_sign ∷ more_series ∷ es)) ∙ map_map _ _ _)
    ∙ map_map _ _ _ ∙ map_same _ _ (λ x i. ((t.shift (c.tree i) k, x.0), x.1)) _

mutual
  series_reads : {ts rest : List Lexeme} {u : Term} → s.IsSeries ts rest u → SeriesRead ts rest u
  series_reads (s.product p) = Series_product (product_reads p)
  series_reads (s.plus_product a p) = Series_plus (series_reads a) (product_reads p)
  series_reads (s.minus_product a p) = Series_minus (series_reads a) (product_reads p)

  product_reads : {ts rest : List Lexeme} {u : Term} → s.IsProduct ts rest u → SeriesProductRead ts rest u
  product_reads (s.factor f) = Series_factor (factor_reads f)
  product_reads (s.times_factor p f) = Series_times (product_reads p) (factor_reads f)

  factor_reads : {ts rest : List Lexeme} {u : Term} → s.IsFactor ts rest u → SeriesFactorRead ts rest u
  factor_reads s.name = λ es. refl
  factor_reads (s.whole w) = bare_read w
  factor_reads (s.grouped a) = group_read (Series_closed (series_reads a) (λ es. refl))
  factor_reads (s.const w b) = const_read w b
  factor_reads (s.shifted a k) = shift_read (Series_closed (series_reads a) (λ es. refl)) k.0 k.1

-- a product is a factor and operators that are all `*`
pub record QueryProductRead (ts rest : List Lexeme) (u : QueryTerm) : Type 0 where
  pub first : QueryTerm
  pub more : More QueryTerm
  pub joined : (sum : QueryTerm → QueryTerm) (ns : More QueryTerm) → query_chain sum first (join more ns) ≡ query_chain sum u ns
  pub reads : (es : List Pending) → read ts (query ∷ es) ≡ option_map (λ p. ((first, join more p.0), p.1)) (read rest (more_query ∷ es))

-- a sum is a factor and operators, of which those behind the last `+` or `-` are all `*`
pub record QueryRead (ts rest : List Lexeme) (u : QueryTerm) : Type 0 where
  pub first : QueryTerm
  pub more : More QueryTerm
  pub sum : QueryTerm → QueryTerm
  pub last : QueryTerm
  pub whole_is : u ≡ sum last
  pub joined : (ns : More QueryTerm) → query_chain (λ v. v) first (join more ns) ≡ query_chain sum last ns
  pub reads : (es : List Pending) → read ts (query ∷ es) ≡ option_map (λ p. ((first, join more p.0), p.1)) (read rest (more_query ∷ es))

abbrev pub QueryFactorRead : List Lexeme → List Lexeme → QueryTerm → Type 0
QueryFactorRead ts rest u = (es : List Pending) → read ts (query ∷ es) ≡ option_map (λ p. ((u, p.0), p.1)) (read rest (more_query ∷ es))

Query_times : {ts mid rest : List Lexeme} {u v : QueryTerm} → QueryProductRead ts (Times ∷ mid) u → QueryFactorRead mid rest v → QueryProductRead ts rest (t.mul u v)
Query_times {v = v} p f = record {
  first = p.first;
  more = join p.more (times v end);
  joined = λ sum ns. ap (query_chain sum p.first) (join_join p.more (times v end) ns) ∙ p.joined sum (times v ns);
  reads = λ es. p.reads es ∙ ap (option_map (λ x. ((p.first, join p.more x.0), x.1))) (ap (option_map (λ x. (times x.0.0 x.0.1, x.1))) (f es) ∙ map_map _ _ _) ∙ map_map _ _ _ ∙ map_same _ _ (λ x i. ((p.first, sym (join_join p.more (times v end) x.0) i), x.1)) _;
}

Query_plus : {ts mid rest : List Lexeme} {u v : QueryTerm} → QueryRead ts (Plus ∷ mid) u → QueryProductRead mid rest v → QueryRead ts rest (t.add u v)
Query_plus {v = v} a p = record {
  first = a.first;
  more = join a.more (plus p.first p.more);
  sum = t.add (a.sum a.last);
  last = v;
  whole_is = ap (λ w. t.add w v) a.whole_is;
  joined = λ ns. ap (query_chain (λ w. w) a.first) (join_join a.more (plus p.first p.more) ns) ∙ a.joined (plus p.first (join p.more ns)) ∙ p.joined (t.add (a.sum a.last)) ns;
  reads = λ es. a.reads es ∙ ap (option_map (λ x. ((a.first, join a.more x.0), x.1))) (ap (option_map (λ x. (plus x.0.0 x.0.1, x.1))) (p.reads es) ∙ map_map _ _ _) ∙ map_map _ _ _ ∙ map_same _ _ (λ x i. ((a.first, sym (join_join a.more (plus p.first p.more) x.0) i), x.1)) _;
}

Query_minus : {ts mid rest : List Lexeme} {u v : QueryTerm} → QueryRead ts (Minus ∷ mid) u → QueryProductRead mid rest v → QueryRead ts rest (t.sub u v)
Query_minus {v = v} a p = record {
  first = a.first;
  more = join a.more (minus p.first p.more);
  sum = t.sub (a.sum a.last);
  last = v;
  whole_is = ap (λ w. t.sub w v) a.whole_is;
  joined = λ ns. ap (query_chain (λ w. w) a.first) (join_join a.more (minus p.first p.more) ns) ∙ a.joined (minus p.first (join p.more ns)) ∙ p.joined (t.sub (a.sum a.last)) ns;
  reads = λ es. a.reads es ∙ ap (option_map (λ x. ((a.first, join a.more x.0), x.1))) (ap (option_map (λ x. (minus x.0.0 x.0.1, x.1))) (p.reads es) ∙ map_map _ _ _) ∙ map_map _ _ _ ∙ map_same _ _ (λ x i. ((a.first, sym (join_join a.more (minus p.first p.more) x.0) i), x.1)) _;
}

Query_product : {ts rest : List Lexeme} {u : QueryTerm} → QueryProductRead ts rest u → QueryRead ts rest u
Query_product {u = u} p = record { first = p.first; more = p.more; sum = λ w. w; last = u; whole_is = refl; joined = p.joined (λ w. w); reads = p.reads }

Query_factor : {ts rest : List Lexeme} {u : QueryTerm} → QueryFactorRead ts rest u → QueryProductRead ts rest u
Query_factor {u = u} f = record { first = u; more = end; joined = λ sum ns. refl; reads = f }

-- a whole one, with no operator behind it
pub record QueryClosed (ts rest : List Lexeme) (u : QueryTerm) : Type 0 where
  pub chain : QueryTerm × More QueryTerm
  pub tree : query_tree chain ≡ u
  pub reads : (es : List Pending) → read ts (query ∷ es) ≡ option_map (λ p. (chain, p)) (read rest es)

Query_closed : {ts rest : List Lexeme} {u : QueryTerm} → QueryRead ts rest u → ((es : List Pending) → read rest (more_query ∷ es) ≡ option_map (λ p. (end, p)) (read rest es)) → QueryClosed ts rest u
Query_closed a h = record {
  chain = (a.first, join a.more end);
  tree = a.joined end ∙ sym a.whole_is;
  reads = λ es. a.reads es ∙ ap (option_map (λ x. ((a.first, join a.more x.0), x.1))) (h es) ∙ map_map _ _ _;
}

number_read : {ts rest : List Lexeme} {v : ℤ} → IsWhole ts rest v → QueryFactorRead ts rest (t.number v)
number_read positive es = refl
number_read negative es = map_map _ _ _

group_query : {ts rest : List Lexeme} {u : QueryTerm} → QueryClosed ts (Close ∷ rest) u → QueryFactorRead (Open ∷ ts) rest u
group_query c es = ap (option_map (λ p. ((query_tree p.0, p.1.0), p.1.1))) (c.reads (close_sign ∷ more_query ∷ es)) ∙ map_map _ _ _ ∙ map_same _ _ (λ x i. ((c.tree i, x.0), x.1)) _

sum_read : {ts rest : List Lexeme} {u : Term} → SeriesClosed ts (Close ∷ rest) u → QueryFactorRead (Sum ∷ Open ∷ ts) rest (t.sum u None)
sum_read c es =
    ap (option_map (λ p. ((t.sum (series_tree p.0) p.1.0, p.1.1.0), p.1.1.1))) (c.reads (ends ∷ more_query ∷ es) ∙ map_map _ _ _)
    ∙ map_map _ _ _ ∙ map_same _ _ (λ x i. ((t.sum (c.tree i) None, x.0), x.1)) _

sum_over_read : {ts mid rest : List Lexeme} {u : Term} {b : Range} → SeriesClosed ts mid u → IsRange mid rest b → QueryFactorRead (Sum ∷ Open ∷ ts) rest (t.sum u (Some b))
sum_over_read {b = b} c r es =
    ap (option_map (λ p. ((t.sum (series_tree p.0) p.1.0, p.1.1.0), p.1.1.1))) (c.reads (ends ∷ more_query ∷ es) ∙ ap (option_map (λ p. (c.chain, p))) (range_ends r (more_query ∷ es)) ∙ map_map _ _ _)
    ∙ map_map _ _ _ ∙ map_same _ _ (λ x i. ((t.sum (c.tree i) (Some b), x.0), x.1)) _

variance_read : {ts mid rest : List Lexeme} {u : Term} {b : Range} → SeriesClosed ts mid u → IsRange mid rest b → QueryFactorRead (VarNum ∷ Open ∷ ts) rest (t.variance u b)
variance_read {b = b} c r es =
    ap (option_map (λ p. ((t.variance (series_tree p.0) (range_from p.1.0 p.1.1.0), p.1.1.1.0), p.1.1.1.1)))
    (c.reads (comma_sign ∷ place ∷ comma_sign ∷ place ∷ close_sign ∷ more_query ∷ es) ∙ ap (option_map (λ p. (c.chain, p))) (range_read r (more_query ∷ es)) ∙ map_map _ _ _)
    ∙ map_map _ _ _ ∙ map_same _ _ (λ x i. ((t.variance (c.tree i) b, x.0), x.1)) _

covariance_read : {ts mid last rest : List Lexeme} {u v : Term} {b : Range} → SeriesClosed ts (Comma ∷ mid) u → SeriesClosed mid last v → IsRange last rest b → QueryFactorRead (CovNum ∷ Open ∷ ts) rest (t.covariance u v b)
covariance_read {b = b} c d r es =
    ap (option_map (λ p. ((t.covariance (series_tree p.0) (series_tree p.1.0) (range_from p.1.1.0 p.1.1.1.0), p.1.1.1.1.0), p.1.1.1.1.1)))
    (c.reads (comma_sign ∷ series ∷ comma_sign ∷ place ∷ comma_sign ∷ place ∷ close_sign ∷ more_query ∷ es)
    ∙ ap (option_map (λ p. (c.chain, p))) (d.reads (comma_sign ∷ place ∷ comma_sign ∷ place ∷ close_sign ∷ more_query ∷ es) ∙ ap (option_map (λ p. (d.chain, p))) (range_read r (more_query ∷ es)) ∙ map_map _ _ _) ∙ map_map _ _ _)
    ∙ map_map _ _ _ ∙ map_same _ _ (λ x i. ((t.covariance (c.tree i) (d.tree i) b, x.0), x.1)) _

mutual
  query_reads : {ts rest : List Lexeme} {u : QueryTerm} → q.IsQuery ts rest u → QueryRead ts rest u
  query_reads (q.product p) = Query_product (term_reads p)
  query_reads (q.plus_product a p) = Query_plus (query_reads a) (term_reads p)
  query_reads (q.minus_product a p) = Query_minus (query_reads a) (term_reads p)

  term_reads : {ts rest : List Lexeme} {u : QueryTerm} → q.IsProduct ts rest u → QueryProductRead ts rest u
  term_reads (q.factor f) = Query_factor (operand_reads f)
  term_reads (q.times_factor p f) = Query_times (term_reads p) (operand_reads f)

  operand_reads : {ts rest : List Lexeme} {u : QueryTerm} → q.IsFactor ts rest u → QueryFactorRead ts rest u
  operand_reads (q.whole w) = number_read w
  operand_reads (q.grouped a) = group_query (Query_closed (query_reads a) (λ es. refl))
  operand_reads (q.sum_of a) = sum_read (Series_closed (series_reads a) (λ es. refl))
  operand_reads (q.sum_over a r) = sum_over_read (Series_closed (series_reads a) (range_more_series r)) r
  operand_reads (q.varnum a r) = variance_read (Series_closed (series_reads a) (range_more_series r)) r
  operand_reads (q.covnum a b r) = covariance_read (Series_closed (series_reads a) (λ es. refl)) (Series_closed (series_reads b) (range_more_series r)) r

-- the tree that is read is the one that the grammar gives
pub tree_read : (ts : List Lexeme) (u : QueryTerm) → q.IsQuery ts [] u → tree_of ts ≡ Some u
unfolding tree_of
tree_read ts u a =
    let c = Query_closed (query_reads a) (λ es. refl) in
    ap (option_map (λ p. query_tree p.0)) (c.reads []) ∙ ap Some c.tree

pub one_tree : (ts : List Lexeme) (u v : QueryTerm) → q.IsQuery ts [] u → q.IsQuery ts [] v → u ≡ v
one_tree ts u v a b =
    let e : Some u ≡ Some v = sym (tree_read ts u a) ∙ tree_read ts v b in
    cc e
