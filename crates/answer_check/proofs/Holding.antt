-- A certificate that holds proves what it states.
use Rattle.std.proofs.Common.{◌≡◌, ℕ, ◌+◌, Bool, true, false, inl, inr, cond, ℤ, ◌≤ℤ◌, ◌&&◌, List, [], ◌∷◌, length, map, drop, Option, Some, None, Result, Ok, Err, refl, sym, ap, subst, ◌∙◌, arith}
use Rattle.std.specs.Prelude.{IsSomeAnd, int_le, nat_lt, unwrap_or}
use Rattle.std.specs.List.{list_any}
use Rattle.std.proofs.lemmas.Bool.{cases_Bool, ltb-false}
use Rattle.std.proofs.lemmas.Int.{ints}
use Rattle.semantics.specs.Admission.{NotAdmitted, query_names, refusal_of}
use Rattle.semantics.specs.Names.{same_name}
use Rattle.semantics.specs.Plain.{IsPlain, plain}
use Rattle.semantics.specs.Term.{QueryTerm}
use Rattle.semantics.specs.Value.{query_value}
use Rattle.semantics.proofs.PlainLaws.{IsPlain-plain, query_value-plain}
use Rattle.interval.specs.Interval.{Interval, Has as HasValue}
use Rattle.segment.specs.Nodes.{Forest, IsSeriesTree, tree_in}
use Rattle.segment.specs.Tree.{SegTree, all_readings, readings_of}
use Rattle.bounds.specs.Cut.{segs_of}
use Rattle.bounds.specs.Segments.{AreTrueOf, HasTrueSegs, TouchFrom}
use Rattle.error_prop.specs.QueryOver.{sums_over, IsTrueFor}
use Rattle.error_prop.proofs.QueryLaws.{queries_hold}
use Rattle.error_prop.proofs.QueryOverLaws.{hold_over}
use Rattle.expr_parse.specs.Parsed.{parsed}
use Rattle.store_file.specs.Added.{names_in}
use Rattle.store_file.specs.Facts.{facts_in}
use Rattle.store_file.specs.StoreValue.{IsStoreValue, StoreValue}
use Rattle.descent.specs.Below.{readings_in}
use Rattle.descent.specs.Choice.{Has}
use Rattle.descent.specs.Descents.{Node, Nodes, cut_of, row_of}
use Rattle.descent.specs.Laws.{stored_from}
use Rattle.descent.specs.Rows.{Track, entries, segs_of_rows}
use Rattle.descent.specs.Sums.{interval_in, width_of}
use Rattle.descent.proofs.Admits.{each-sum, named-any}
use Rattle.descent.proofs.Truth.{rows_right}
use Rattle.answer_check.specs.declared.certificate.Cert.{Cert}
use Rattle.answer_check.specs.declared.certificate.CertList.{CertList}
use Rattle.answer_check.specs.declared.verdict.Verdict.TheVariants.{Holds, Escapes, Wide}
use Rattle.answer_check.specs.Certificate.{Triple}
use Rattle.answer_check.specs.Laws.{HoldingProves, readings_under}
use Rattle.answer_check.specs.Verdict.{answer_of, cut_by, cut_from, forest_of, interval_of, is_inside, judged, judged_over, no_interval, nodes_of, plain_by, plain_in, stated, unless_refused, verdict_for, verdict_of}
use Rattle.answer_check.proofs.Cuts.{nodes-cut}
use Rattle.answer_check.proofs.SoundCuts.{AreTrees, IsTrackFor, cut-next, none-last, none-of, track-true, trees-each}

-- ---- the segments of a name

with-reads : (t : Option SegTree) (rows : List Triple) (ns : List Node) → IsSeriesTree (length (all_readings t)) t → nodes_of t rows ≡ Some ns → readings_in ns ≡ all_readings t
with-reads None rows ns is e = let none = none-of rows ns e in rw none refl
with-reads (Some t) rows ns is e = (nodes-cut (length (readings_of t)) t 0 rows ns is e).readings

track-reads : (k : ℕ) (name : List ℕ) (t : Option SegTree) (lists : List CertList) (track : Track Node) → IsSeriesTree (length (all_readings t)) t → IsTrackFor k name t lists track → readings_in track.rows ≡ all_readings t
track-reads k name t lists track is h = ap (λ (x : Track Node). readings_in x.rows) h.is ∙ with-reads t h.list.rows h.nodes is h.cut

track-right : (k : ℕ) (name : List ℕ) (t : Option SegTree) (lists : List CertList) (track : Track Node) → IsSeriesTree (length (all_readings t)) t → IsTrackFor k name t lists track → AreTrueOf (all_readings t) (segs_of_rows (map row_of track.rows))
track-right k name t lists track is h =
    let xs = readings_in track.rows in
    let r = rows_right [] track.rows (track-true k name t lists track is h) in
    let e : 0 + length xs ≡ length xs = omega arith in
    let own : AreTrueOf xs (segs_of_rows (map row_of track.rows)) = record { each = r.each; touch = subst (λ n. TouchFrom 0 (segs_of_rows (map row_of track.rows)) n) e r.touch } in
    subst (λ ys. AreTrueOf ys (segs_of_rows (map row_of track.rows))) (track-reads k name t lists track is h) own

name-true : (q : QueryTerm) (forest : Forest) (k place : ℕ) (names : List (List ℕ)) (lists : List CertList) (nodes : Nodes) (name : List ℕ) → Has name (query_names q) → AreTrees forest → cut_from q forest k place names lists ≡ Ok nodes
    → AreTrueOf (stored_from forest k names name) (segs_of (entries (cut_of nodes)) name)
name-true q forest k place [] lists nodes name has trees e = let none = none-last q forest k place lists nodes e in rw none (record { each = tt; touch = refl })
name-true q forest k place (m ∷ names) lists nodes name has trees e = elim (cut-next q forest k place m names lists nodes e) [
  | inl n ↦
      let called : n.track.name ≡ m = ap (λ (x : Track Node). x.name) n.found.is in
      let own = track-right k m (tree_in forest k) lists n.track (trees k) n.found in
      let rest = name-true q forest (k + 1) (place + 1) names (drop 1 lists) n.rest name has trees n.later in
      rw (n.are, called) (named (same_name m name) own rest)
  | inr p ↦ passed (same_name m name) refl p.passed (name-true q forest (k + 1) place names lists nodes name has trees p.later)
]
  where
    named : (b : Bool) {xs ys : List ℤ} {gs hs : List Rattle.segment.specs.declared.segments.Seg.Seg} → AreTrueOf xs gs → AreTrueOf ys hs → AreTrueOf (cond b xs ys) (cond b gs hs)
    named true x y = x
    named false x y = y

    passed : (b : Bool) → same_name m name ≡ b → list_any (same_name m) (query_names q) ≡ false → AreTrueOf (stored_from forest (k + 1) names name) (segs_of (entries (cut_of nodes)) name)
        → AreTrueOf (stored_from forest k (m ∷ names) name) (segs_of (entries (cut_of nodes)) name)
    passed true eb other i = let t = named-any m name (query_names q) has eb in let bad : false ≡ true = sym other ∙ t in cc
    passed false eb other i = rw eb i

-- the interval of a cut holds the value
pub cut-holds : (m : StoreValue) (q : QueryTerm) (lists : List CertList) (nodes : Nodes) → IsStoreValue m → IsPlain q → cut_from q (forest_of m) 0 0 (names_in m) lists ≡ Ok nodes
    → IsSomeAnd (interval_in (cut_of nodes) q) (λ iv. HasValue iv (query_value (readings_under m) q))
cut-holds m q lists nodes is plain e =
    let X = readings_under m in
    let es = entries (cut_of nodes) in
    let trees = trees-each m.series is.trees in
    let are_true : IsTrueFor X es q = each-sum (HasTrueSegs X (segs_of es)) q (λ name has. name-true q (forest_of m) 0 0 (names_in m) lists nodes name has trees e) in
    queries_hold X q (sums_over es q) plain (hold_over X es q plain are_true)

-- ---- the verdict

-- what it takes to hold
pub record IsJudgedWell (c : Cert) (proved : Interval) : Type 0 where
  pub inside : is_inside proved (stated c) ≡ true
  pub narrow : nat_lt c.budget (width_of (stated c)) ≡ false

judged-well : (c : Cert) (proved : Interval) → judged c proved ≡ Holds → IsJudgedWell c proved
judged-well c proved e = elim (cases_Bool (is_inside proved (stated c))) [
  | inr f ↦ let bad : Escapes proved ≡ Holds = rw f at e in cc
  | inl t ↦ elim (cases_Bool (nat_lt c.budget (width_of (stated c)))) [
    | inl w ↦ let bad : Wide (width_of (stated c)) ≡ Holds = rw (t, w) at e in cc
    | inr n ↦ record { inside = t; narrow = n }
  ]
]

pub record HasHeld (m : StoreValue) (c : Cert) (q : QueryTerm) : Type 0 where
  pub nodes : Nodes
  pub cut : cut_from q (forest_of m) 0 0 (names_in m) c.cut ≡ Ok nodes
  pub well : IsJudgedWell c (interval_of q nodes)

held-over : (m : StoreValue) (c : Cert) (q : QueryTerm) (r : Result Nodes ℕ) → cut_from q (forest_of m) 0 0 (names_in m) c.cut ≡ r → judged_over c q r ≡ Holds → HasHeld m c q
held-over m c q (Err place) e h = cc
held-over m c q (Ok nodes) e h = record { nodes = nodes; cut = e; well = judged-well c (interval_of q nodes) h }

held-by : (m : StoreValue) (c : Cert) (q : QueryTerm) → verdict_of m q c ≡ Holds → HasHeld m c q
unfolding cut_by
held-by m c q h = held-over m c q (cut_from q (forest_of m) 0 0 (names_in m) c.cut) refl h

-- the query of a certificate that holds is admitted
held-plain : (m : StoreValue) (c : Cert) (q : QueryTerm) → parsed c.query ≡ Ok q → answer_of m c ≡ Ok Holds → verdict_of m (plain q) c ≡ Holds
unfolding answer_of plain_in
held-plain m c q e h = by (refusal_of (facts_in m) (plain q)) (ap (λ r. verdict_for m c (plain_by m r)) (sym e) ∙ h)
  where
    by : (o : Option NotAdmitted) → verdict_for m c (unless_refused (plain q) o) ≡ Ok Holds → verdict_of m (plain q) c ≡ Holds
    by None k = cc
    by (Some r) k = cc

inside-has : (a b : Interval) (v : ℤ) → is_inside a b ≡ true → HasValue a v → HasValue b v
inside-has a b v h has = let t = both (int_le b.lo a.lo) (int_le a.hi b.hi) h in
    record { low = le-trans b.lo a.lo v (le-of b.lo a.lo t.0) has.low; high = le-trans v a.hi b.hi has.high (le-of a.hi b.hi t.1) }
  where
    both : (x y : Bool) → (x && y) ≡ true → (x ≡ true) × (y ≡ true)
    both true y e = (refl, e)
    both false y e = cc

    le-of : (x y : ℤ) → int_le x y ≡ true → x ≤ℤ y
    le-of x y e = grind (arith, ints)

    le-trans : (x y z : ℤ) → x ≤ℤ y → y ≤ℤ z → x ≤ℤ z
    le-trans x y z p r = omega (arith, ints)

some-has : (o : Option Interval) (v : ℤ) → IsSomeAnd o (λ iv. HasValue iv v) → HasValue (unwrap_or o no_interval) v
some-has None v h = absurd h
some-has (Some iv) v h = h

cut-value : (m : StoreValue) (q : QueryTerm) (nodes : Nodes) → IsSomeAnd (interval_in (cut_of nodes) q) (λ iv. HasValue iv (query_value (readings_under m) q)) → HasValue (interval_of q nodes) (query_value (readings_under m) q)
unfolding interval_of
cut-value m q nodes h = some-has (interval_in (cut_of nodes) q) (query_value (readings_under m) q) h

pub holding_proves : HoldingProves
holding_proves = λ m c q is e h.
    let held = held-by m c (plain q) (held-plain m c q e h) in
    let has = cut-holds m (plain q) c.cut held.nodes is (IsPlain-plain q) held.cut in
    let value = inside-has (interval_of (plain q) held.nodes) (stated c) (query_value (readings_under m) (plain q)) held.well.inside (cut-value m (plain q) held.nodes has) in
    record {
      value = subst (HasValue (stated c)) (query_value-plain (readings_under m) q) value;
      within = ltb-false c.budget (width_of (stated c)) held.well.narrow;
    }
