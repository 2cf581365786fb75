-- The cut that a descent has reached.
use Rattle.std.proofs.Common.{◌≡◌, ℕ, zero, suc, ◌+◌, ◌-◌, ◌<◌, ◌≤◌, cond, Bool, true, false, ◌⊎◌, inl, inr, ℤ, pos, ◌-ℤ◌, Option, Some, None, List, [], ◌∷◌, ◌++◌, map, arith, refl, sym, ap, subst, ◌∙◌, below_more}
use Rattle.std.specs.Prelude.{◌==◌, IfSome}
use Rattle.std.specs.List.{All, list_any, sum_by, count_by}
use Rattle.std.proofs.lemmas.Bool.{cases_lt, cases_Bool}
use Rattle.std.proofs.lemmas.List.Elements.{All-nil, All-cons, All-head, All-tail, All-append}
use Rattle.semantics.specs.Admission.{SumTerm, query_names}
use Rattle.semantics.specs.Names.{same_name}
use Rattle.semantics.specs.Plain.{IsPlain}
use Rattle.semantics.specs.Readings.{from_zero}
use Rattle.semantics.specs.Term.{QueryTerm}
use Rattle.interval.specs.Interval.{Interval}
use Rattle.segment.specs.declared.segments.Seg.{Seg}
use Rattle.segment.specs.Nodes.{Forest, IsForest, tree_in}
use Rattle.segment.specs.Shape.{plan}
use Rattle.segment.specs.Tree.{SegTree, tip, node, root_of, plan_of, IsPartOf}
use Rattle.segment.proofs.PartLaws.{part_self, part_left, part_right, start-plan, span-plan}
use Rattle.segment.proofs.ShapeLaws.{plan-leaf, split_exists}
use Rattle.bounds.specs.Cut.{charge_by, greatest_weight, segs_of}
use Rattle.descent.specs.declared.Pick.{Pick}
use Rattle.descent.specs.declared.descents.Answer.{Answer}
use Rattle.descent.specs.Rows.{Row, Track, Cut, with_rows, segs_given, entries}
use Rattle.descent.specs.Sums.{first_of, count_of, charge_of, interval_in, width_of, IsWithin}
use Rattle.descent.specs.Choice.{Charged}
use Rattle.descent.specs.Choice.{Has, Line, lines_in, weight_of, heaviest, charged_row, charged_in, charged_rows, charge, choice, pick_of, pick_if}
use Rattle.descent.specs.Choice.{row_of as charged_by}
use Rattle.descent.specs.Descents.{Node, Nodes, closed, opened, below, cut_of, root_nodes, root_track, roots_from, roots, is_at, expanded_row, expanded_track, expanded, expanded_if, next, after, Meets}
use Rattle.descent.specs.Held.{Held, row_in, shown, IsNodeOf, AreNodesOf, IsClosedAt}
use Rattle.descent.specs.Told.{told, Tells}
use Rattle.descent.proofs.Heaviest.{heaviest-found}
use Rattle.descent.proofs.Steps.{fork-is}
use Rattle.descent.proofs.Truth.{is-there}
use Rattle.descent.proofs.Ends.{after_true, roots_true, none-wide, meets, meets-back}
use Rattle.descent.proofs.Works.{units-free}

-- ---- the nodes of a descent are those of the forest

below_nodes : (forest : Forest) (k : ℕ) (n : Node) → IsNodeOf forest k n → All (IsNodeOf forest k) (below n.tree)
below_nodes forest k n is = by n.tree is.part is.shaped
  where
    by : (t : SegTree) → IsPartOf t is.whole → plan_of t ≡ plan (root_of t).start (root_of t).len → All (IsNodeOf forest k) (below t)
    by (tip g xs) part shaped =
        All-cons (IsNodeOf forest k) (opened (tip g xs)) [] (record { whole = is.whole; found = is.found; part = part; shaped = shaped }) (All-nil (IsNodeOf forest k))
    by (node g l r) part shaped = elim (cases_lt 16 g.len) [
      | inr few ↦ let p = shaped ∙ plan-leaf g.start g.len few in cc
      | inl many ↦
          let s = split_exists g.len many in
          let f = fork-is (node g l r) s.0 s.1 shaped in
          let e : node g f.0 f.1 ≡ node g l r = sym f.2 in
          let pl : plan_of l ≡ plan g.start s.0 = let q : f.0 ≡ l = cc in subst (λ u. plan_of u ≡ plan g.start s.0) q f.3 in
          let pr : plan_of r ≡ plan (g.start + s.0) (g.len - s.0) = let q : f.1 ≡ r = cc in subst (λ u. plan_of u ≡ plan (g.start + s.0) (g.len - s.0)) q f.4 in
          let a : IsNodeOf forest k (closed l) = record { whole = is.whole; found = is.found; part = part_left is.whole g l r part; shaped = rw (start-plan g.start s.0 l pl, span-plan g.start s.0 l pl) pl } in
          let b : IsNodeOf forest k (closed r) = record { whole = is.whole; found = is.found; part = part_right is.whole g l r part; shaped = rw (start-plan (g.start + s.0) (g.len - s.0) r pr, span-plan (g.start + s.0) (g.len - s.0) r pr) pr } in
          All-cons (IsNodeOf forest k) (closed l) (closed r ∷ []) a (All-cons (IsNodeOf forest k) (closed r) [] b (All-nil (IsNodeOf forest k)))
    ]

row_nodes : (forest : Forest) (k start : ℕ) (ns : List Node) → All (IsNodeOf forest k) ns → All (IsNodeOf forest k) (expanded_row start ns)
row_nodes forest k start [] all = all
row_nodes forest k start (n ∷ ns) all =
    let here = All-head (IsNodeOf forest k) n ns all in
    let rest = All-tail (IsNodeOf forest k) n ns all in
    elim (cases_Bool (is_at start n)) [
      | inl t ↦ rw t (All-append (IsNodeOf forest k) (below n.tree) ns (below_nodes forest k n here) rest)
      | inr f ↦ rw f (All-cons (IsNodeOf forest k) n (expanded_row start ns) here (row_nodes forest k start ns rest))
    ]

abbrev IsTrackIn : Forest → Track Node → Type 0
IsTrackIn forest track = All (IsNodeOf forest track.series) track.rows

track_nodes : (forest : Forest) (at : Pick) (track : Track Node) → IsTrackIn forest track → IsTrackIn forest (expanded_track at track)
track_nodes forest at track all = elim (cases_Bool (track.series == at.series)) [
  | inl t ↦ rw t (row_nodes forest track.series at.start track.rows all)
  | inr f ↦ rw f all
]

expanded_nodes : (forest : Forest) (at : Pick) (ns : Nodes) → AreNodesOf forest ns → AreNodesOf forest (expanded at ns)
expanded_nodes forest at [] all = all
expanded_nodes forest at (n ∷ ns) all =
    All-cons (IsTrackIn forest) (expanded_track at n) (expanded at ns) (track_nodes forest at n (All-head (IsTrackIn forest) n ns all)) (expanded_nodes forest at ns (All-tail (IsTrackIn forest) n ns all))

next_nodes : (forest : Forest) (q : QueryTerm) (ns : Nodes) → AreNodesOf forest ns → AreNodesOf forest (next q ns)
next_nodes forest q ns all = by (choice q (cut_of ns))
  where
    by : (o : Option Pick) → AreNodesOf forest (expanded_if o ns)
    by None = all
    by (Some at) = expanded_nodes forest at ns all

pub after_nodes : (forest : Forest) (q : QueryTerm) (first : Nodes) (k : ℕ) → AreNodesOf forest first → AreNodesOf forest (after q first k)
after_nodes forest q first zero all = all
after_nodes forest q first (suc k) all = next_nodes forest q (after q first k) (after_nodes forest q first k all)

tree-shaped : (lengths : List ℕ) (forest : Forest) (k : ℕ) (t : SegTree) → IsForest lengths forest → tree_in forest k ≡ Some t → plan_of t ≡ plan (root_of t).start (root_of t).len
tree-shaped [] [] k t h e = cc
tree-shaped [] (t ∷ ts) k u h e = absurd h
tree-shaped (n ∷ ns) [] k t h e = cc
tree-shaped (n ∷ ns) (None ∷ ts) zero u h e = cc
tree-shaped (n ∷ ns) (Some t ∷ ts) zero u h e =
    let same : t ≡ u = cc in
    let p : plan_of u ≡ plan 0 n = subst (λ v. plan_of v ≡ plan 0 n) same h.0.shaped in
    rw (start-plan 0 n u p, span-plan 0 n u p) p
tree-shaped (n ∷ ns) (t ∷ ts) (suc k) u h e = tree-shaped ns ts k u h.1 e

root_nodes_of : (lengths : List ℕ) (forest : Forest) (k : ℕ) → IsForest lengths forest → All (IsNodeOf forest k) (root_nodes (tree_in forest k))
root_nodes_of lengths forest k h = by (tree_in forest k) refl
  where
    by : (o : Option SegTree) → tree_in forest k ≡ o → All (IsNodeOf forest k) (root_nodes o)
    by None e = All-nil (IsNodeOf forest k)
    by (Some t) e = All-cons (IsNodeOf forest k) (closed t) [] (record { whole = t; found = e; part = part_self t; shaped = tree-shaped lengths forest k t h e }) (All-nil (IsNodeOf forest k))

pub roots_nodes : (q : QueryTerm) (lengths : List ℕ) (forest : Forest) (k : ℕ) (names : List (List ℕ)) → IsForest lengths forest → AreNodesOf forest (roots_from q forest k names)
roots_nodes q lengths forest k [] h = All-nil (IsTrackIn forest)
roots_nodes q lengths forest k (name ∷ names) h = by (list_any (same_name name) (query_names q)) (roots_nodes q lengths forest (k + 1) names h)
  where
    by : (b : Bool) → AreNodesOf forest (roots_from q forest (k + 1) names) → AreNodesOf forest (cond b (root_track k name (tree_in forest k) ∷ roots_from q forest (k + 1) names) (roots_from q forest (k + 1) names))
    by true rest = All-cons (IsTrackIn forest) (root_track k name (tree_in forest k)) (roots_from q forest (k + 1) names) (root_nodes_of lengths forest k h) rest
    by false rest = rest

-- ---- the chosen row is closed

charged-closed : (cut : Cut) (s : SumTerm) (name : List ℕ) (row : Row) → 0 < charge_of cut s name row → row.readings ≡ None
charged-closed cut s name row some = by row.readings some
  where
    w : ℕ → ℤ → Seg → ℕ
    w = greatest_weight (segs_of (entries cut)) s.series (first_of cut s) (count_of cut s)

    by : (o : Option (List ℤ)) → 0 < sum_by (charge_by w s.series (first_of cut s) name) (segs_given row.seg o) → o ≡ None
    by None h = refl
    by (Some xs) h = absurd (omega (arith, h, units-free w s.series (first_of cut s) name row.seg.start xs))

found-held : {I : Type 0} → (cut : Cut) (s : SumTerm) (all : List (Track (Held I))) (track : Track (Held I)) (hs : List (Held I)) (rest : List Charged) (c : Charged) → Has track all → ((h : Held I) → Has h hs → Has h track.rows) → 0 < c.charge
    → Has c (map (charged_row cut s (with_rows row_in track)) (map row_in hs) ++ rest) → IsClosedAt all (pick_of c) ⊎ Has c rest
found-held cut s all track [] rest c there among some h = inr h
found-held cut s all track (k ∷ hs) rest c there among some (inl e) =
    let same : c.charge ≡ charge_of cut s track.name (row_in k) = ap (λ (q : Charged). q.charge) e in
    inl (record {
      track = track;
      there = there;
      series = ap (λ (q : Charged). q.series) (sym e);
      held = k;
      among = among k (inl refl);
      closed = charged-closed cut s track.name (row_in k) (rw (← same) some);
      starts = ap (λ (q : Charged). q.start) (sym e);
    })
found-held cut s all track (k ∷ hs) rest c there among some (inr h) = found-held cut s all track hs rest c there (λ q m. among q (inr m)) some h

found-in : {I : Type 0} → (cut : Cut) (s : SumTerm) (all tracks : List (Track (Held I))) (c : Charged) → ((t : Track (Held I)) → Has t tracks → Has t all) → 0 < c.charge → Has c (charged_in cut s (shown tracks)) → IsClosedAt all (pick_of c)
found-in cut s all [] c there some h = absurd h
found-in cut s all (track ∷ tracks) c there some h = elim (found-held cut s all track track.rows (charged_in cut s (shown tracks)) c (there track (inl refl)) (λ q m. m) some h) [
  | inl here ↦ here
  | inr rest ↦ found-in cut s all tracks c (λ t m. there t (inr m)) some rest
]

pub chosen-closed : {I : Type 0} → (q : QueryTerm) (tracks : List (Track (Held I))) (at : Pick) → choice q (shown tracks) ≡ Some at → IsClosedAt tracks at
chosen-closed q tracks at h = by (heaviest weight_of (lines_in cut q)) h
  where
    cut : Cut
    cut = shown tracks

    by : (o : Option Line) → pick_if (charged_by cut o) ≡ Some at → IsClosedAt tracks at
    by None p = cc
    by (Some line) p = row (heaviest charge (charged_rows cut line.sum)) refl p
      where
        row : (o : Option Charged) → heaviest charge (charged_rows cut line.sum) ≡ o → pick_if o ≡ Some at → IsClosedAt tracks at
        row None e p = cc
        row (Some c) e p =
            let found = heaviest-found charge (charged_rows cut line.sum) c e in
            let same : pick_of c ≡ at = cc in
            subst (IsClosedAt tracks) same (found-in cut line.sum tracks tracks c (λ t m. m) found.some found.there)

pub closed-if : {I : Type 0} → (q : QueryTerm) (tracks : List (Track (Held I))) (o : Option Pick) → o ≡ choice q (shown tracks) → IfSome o (IsClosedAt tracks)
closed-if q tracks None e = tt
closed-if q tracks (Some at) e = chosen-closed q tracks at (sym e)

-- ---- the loop

-- after so many steps, none of whose cuts was narrow enough, the descent has come to this cut
pub record Reached {I : Type 0} (q : QueryTerm) (first : Forest → Nodes) (means : Forest → Type 0) (budget : ℕ) (tracks : List (Track (Held I))) : Type 0 where
  pub steps : ℕ
  pub is : (forest : Forest) → means forest → shown tracks ≡ cut_of (after q (first forest) steps)
  pub before : (forest : Forest) → means forest → (k : ℕ) → k < steps → Meets budget q (after q (first forest) k) → ⊥

pub reached-first : {I : Type 0} → (q : QueryTerm) (first : Forest → Nodes) (means : Forest → Type 0) (budget : ℕ) (tracks : List (Track (Held I)))
    → ((forest : Forest) → means forest → shown tracks ≡ cut_of (first forest)) → Reached q first means budget tracks
reached-first q first means budget tracks is = record { steps = 0; is = is; before = λ forest m k lt. absurd (omega arith) }

-- what is known of the forest's cut that was reached
pub record IsSeen (q : QueryTerm) (nodes : Nodes) (cut : Cut) : Type 0 where
  pub same : cut ≡ cut_of nodes
  pub iv : Interval
  pub is : interval_in cut q ≡ Some iv

pub seen : {I : Type 0} → (q : QueryTerm) (names : List (List ℕ)) (means : Forest → Type 0) (budget : ℕ) (tracks : List (Track (Held I))) (lengths : List ℕ) (forest : Forest) → IsPlain q
    → (r : Reached q (λ f. roots q f names) means budget tracks) → IsForest lengths forest → means forest → IsSeen q (after q (roots q forest names) r.steps) (shown tracks)
seen q names means budget tracks lengths forest p r fits m =
    let ns = after q (roots q forest names) r.steps in
    let same = r.is forest m in
    let true_ = after_true q (roots q forest names) r.steps (roots_true q lengths forest 0 names fits) in
    let there = is-there ns q true_ p in
    record { same = same; iv = there.0; is = ap (λ c. interval_in c q) same ∙ there.1 }

-- a crossed interval, or none to choose though it is wide: the nodes are true of no readings
pub crossed-bad : {I : Type 0} → (q : QueryTerm) (names : List (List ℕ)) (means : Forest → Type 0) (budget : ℕ) (tracks : List (Track (Held I))) (lengths : List ℕ) (forest : Forest) → IsPlain q
    → Reached q (λ f. roots q f names) means budget tracks → IsForest lengths forest → means forest → None ≡ interval_in (shown tracks) q → ⊥
crossed-bad q names means budget tracks lengths forest p r fits m e =
    let s = seen q names means budget tracks lengths forest p r fits m in
    let g : None ≡ Some s.iv = e ∙ s.is in
    cc

pub none-bad : {I : Type 0} → (q : QueryTerm) (budget : ℕ) (tracks : List (Track (Held I))) (iv : Interval) (w : ℕ) → IsPlain q
    → Some iv ≡ interval_in (shown tracks) q → w ≡ width_of iv → budget < w → None ≡ choice q (shown tracks) → ⊥
none-bad q budget tracks iv w p e wide lt none =
    let z = none-wide q (shown tracks) iv p (sym e) (sym none) in
    omega (arith, wide, z)

-- a step further
pub reached-next : {I : Type 0} → (q : QueryTerm) (names : List (List ℕ)) (means : Forest → Type 0) (budget : ℕ) (old new : List (Track (Held I))) (lengths : List ℕ) (iv : Interval) (w : ℕ) (at : Pick)
    → Reached q (λ f. roots q f names) means budget old → ((forest : Forest) → means forest → IsForest lengths forest) → Some iv ≡ interval_in (shown old) q → w ≡ width_of iv → budget < w
    → Some at ≡ choice q (shown old)
    → ((forest : Forest) (ns : Nodes) → means forest → AreNodesOf forest ns → shown old ≡ cut_of ns → shown new ≡ cut_of (expanded at ns))
    → Reached q (λ f. roots q f names) means budget new
reached-next q names means budget old new lengths iv w at r fits e wide lt pick step = record {
  steps = suc r.steps;
  is = λ forest m.
      let first = roots q forest names in
      let ns = after q first r.steps in
      let same = r.is forest m in
      let c : choice q (cut_of ns) ≡ Some at = subst (λ x. choice q x ≡ Some at) same (sym pick) in
      step forest ns m (after_nodes forest q first r.steps (roots_nodes q lengths forest 0 names (fits forest m))) same ∙ ap (λ o. cut_of (expanded_if o ns)) (sym c);
  before = λ forest m k lk.
      let same = r.is forest m in
      let there : Meets budget q (after q (roots q forest names) r.steps) → ⊥ =
      λ h. let le = meets-back budget q (shown old) iv (sym e) (subst (λ c. IsWithin budget (interval_in c q)) (sym same) h) in omega (arith, wide, le) in
      below_more (λ k. Meets budget q (after q (roots q forest names) k) → ⊥) r.steps (r.before forest m) there k (omega arith);
}

pub reached-last : {I : Type 0} → (q : QueryTerm) (names : List (List ℕ)) (means : Forest → Type 0) (budget : ℕ) (tracks : List (Track (Held I))) (forest : Forest) (iv : Interval) (w : ℕ) (a : Answer)
    → Reached q (λ f. roots q f names) means budget tracks → means forest → Some iv ≡ interval_in (shown tracks) q → w ≡ width_of iv → w ≤ budget
    → a.iv ≡ iv → a.cut ≡ told (shown tracks) → a.opened ≡ count_by (λ r. r.opened) (told (shown tracks)) → Tells q (roots q forest names) budget a
reached-last q names means budget tracks forest iv w a r m e wide le is rows opened =
    let same = r.is forest m in
    let within : IsWithin budget (interval_in (shown tracks) q) = meets budget q (shown tracks) iv (sym e) (omega (arith, wide)) in
    record {
      last = after q (roots q forest names) r.steps;
      is_last = record { steps = r.steps; reached = refl; within = subst (λ c. IsWithin budget (interval_in c q)) same within; before = r.before forest m };
      interval = ap Some is ∙ e ∙ ap (λ c. interval_in c q) same;
      rows = rows ∙ ap told same;
      opened = opened ∙ ap (λ c. count_by (λ r. r.opened) (told c)) same;
    }

pub width-from : (iv : Interval) (w : ℕ) → pos w ≡ (iv.hi -ℤ iv.lo) → w ≡ width_of iv
width-from iv w e = ap from_zero e
