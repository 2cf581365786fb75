-- What a descent answers over a store is certified.
use Rattle.std.proofs.Common.{◌≡◌, ℕ, zero, suc, ◌+◌, ◌-◌, ◌<◌, ◌≤◌, Bool, true, false, inl, inr, cond, ℤ, ◌&&◌, List, [], ◌∷◌, ◌++◌, length, map, drop, Option, Some, None, Result, Ok, refl, sym, ap, ap₂, subst, ◌∙◌, arith, append-nil}
use Rattle.std.specs.Prelude.{◌==◌, ◌||◌, int_le, is_some, nat_lt, not, unwrap_or}
use Rattle.std.specs.List.{list_any}
use Rattle.std.specs.Option.{option_and_then, option_map}
use Rattle.std.proofs.Math.Dec.{ltb}
use Rattle.std.proofs.lemmas.Bool.{cases_Bool, eq-eqb, ne_eqb, lt-ltb, le-ltb}
use Rattle.std.proofs.lemmas.Int.{ints}
use Rattle.std.proofs.lemmas.List.Folds.{list_any-append}
use Rattle.std.proofs.lemmas.Slice.Eq.{bytes_eq-Decides}
use Rattle.semantics.specs.Admission.{query_names, refusal_of, series_names}
use Rattle.semantics.specs.Names.{same_name}
use Rattle.semantics.specs.Plain.{plain}
use Rattle.semantics.specs.Term.{QueryTerm, Term, number, sum, variance, covariance, add, sub, mul}
use Rattle.interval.specs.Interval.{Interval}
use Rattle.segment.specs.Nodes.{Forest, IsSeriesTree, tree_in}
use Rattle.segment.specs.Shape.{plan}
use Rattle.segment.specs.Tree.{SegTree, tip, node, all_readings, plan_of, readings_of, root_of, IsPartOf, IsTreeOver}
use Rattle.segment.proofs.PartLaws.{part_left, part_right, part_self, span-plan, start-plan}
use Rattle.expr_parse.specs.Canonical.{canonical_text}
use Rattle.expr_parse.specs.Parsed.{parsed}
use Rattle.store_file.specs.Added.{names_in}
use Rattle.store_file.specs.Facts.{facts_in}
use Rattle.store_file.specs.StoreValue.{StoreValue}
use Rattle.descent.specs.declared.Pick.{Pick}
use Rattle.descent.specs.declared.rows.CutRow.{CutRow}
use Rattle.descent.specs.Choice.{choice}
use Rattle.descent.specs.Descents.{Node, Nodes, after, below, cut_of, expanded, expanded_if, expanded_row, expanded_track, is_at, next, root_nodes, root_track, roots, roots_from, row_of}
use Rattle.descent.specs.Rows.{Row, Track}
use Rattle.descent.specs.Sums.{IsWithin, interval_in, width_of}
use Rattle.descent.specs.Told.{told, told_row}
use Rattle.answer_check.specs.declared.certificate.Cert.{Cert}
use Rattle.answer_check.specs.declared.certificate.CertList.{CertList}
use Rattle.answer_check.specs.declared.verdict.Verdict.TheVariants.{Holds, Escapes, Wide}
use Rattle.answer_check.specs.Certificate.{Triple, certificate_for, lists_for, rows_for}
use Rattle.answer_check.specs.Laws.{AnswersHold}
use Rattle.answer_check.specs.Verdict.{and_then, answer_of, as_node, before, cut_by, cut_from, forest_of, has_range, interval_of, is_inside, judged, judged_over, no_interval, node_for, nodes_from, nodes_of, part_with, plain_by, plain_in, stated, track_by, unless_refused, verdict_for, with_nodes}
use Rattle.answer_check.proofs.SoundCuts.{AreTrees, trees-each}
use Rattle.answer_check.proofs.Walks.{part-here, part-node, plans-below}

-- ---- the walk finds each part

-- where a part lies in a tree over len positions from start
record LiesIn (start len : ℕ) (part : SegTree) : Type 0 where
  from : start ≤ (root_of part).start
  to : (root_of part).start + (root_of part).len ≤ start + len
  some : 0 < (root_of part).len

lies_itself : (start len : ℕ) (t part : SegTree) → 0 < len → plan_of t ≡ plan start len → part ≡ t → LiesIn start len part
lies_itself start len t part some shaped e =
    let s = start-plan start len t shaped in
    let l = span-plan start len t shaped in
    rw e (record { from = omega arith; to = omega arith; some = omega arith })

part-lies : (start len : ℕ) (t part : SegTree) → 0 < len → plan_of t ≡ plan start len → IsPartOf part t → LiesIn start len part
part-lies start len (tip g xs) part some shaped e = lies_itself start len (tip g xs) part some shaped e
part-lies start len (node g l r) part some shaped (inl e) = lies_itself start len (node g l r) part some shaped e
part-lies start len (node g l r) part some shaped (inr (inl p)) =
    let h = plans-below start len g l r shaped in
    let lies = part-lies start h.s l part (omega (arith, h.split.below, h.split.greatest)) h.left p in
    record { from = lies.from; to = omega (arith, lies.to, h.split.below); some = lies.some }
part-lies start len (node g l r) part some shaped (inr (inr p)) =
    let h = plans-below start len g l r shaped in
    let lies = part-lies (start + h.s) (len - h.s) r part (omega (arith, h.split.below)) h.right p in
    record { from = omega (arith, lies.from); to = omega (arith, lies.to, h.split.below); some = lies.some }

no-and : (b : Bool) → (b && false) ≡ false
no-and true = refl
no-and false = refl

-- the row of a part
abbrev pub row_at : SegTree → Bool → Triple
row_at part b = ((root_of part).start, (root_of part).len, b)

found-itself : (t part : SegTree) (b : Bool) → part ≡ t → part_with (row_at part b) t ≡ Some part
found-itself t part b e =
    rw e (part-here (row_at t b) t (rw (eq-eqb (root_of t).start (root_of t).start refl, eq-eqb (root_of t).len (root_of t).len refl) refl))

part-found : (start len : ℕ) (t part : SegTree) (b : Bool) → 0 < len → plan_of t ≡ plan start len → IsPartOf part t → part_with (row_at part b) t ≡ Some part
part-found start len (tip g xs) part b some shaped e = found-itself (tip g xs) part b e
part-found start len (node g l r) part b some shaped (inl e) = found-itself (node g l r) part b e
part-found start len (node g l r) part b some shaped (inr (inl p)) =
    let h = plans-below start len g l r shaped in
    let here : 0 < h.s = omega (arith, h.split.below, h.split.greatest) in
    let lies = part-lies start h.s l part here h.left p in
    let spans : g.len ≡ len = span-plan start len (node g l r) shaped in
    let other : g.len ≡ (root_of part).len → ⊥ = λ e. omega (arith, e, spans, lies.to, lies.from, h.split.below) in
    let miss : has_range g (row_at part b) ≡ false = rw (ne_eqb g.len (root_of part).len other) (no-and (g.start == (root_of part).start)) in
    let starts : (root_of r).start ≡ start + h.s = start-plan (start + h.s) (len - h.s) r h.right in
    let before : (root_of part).start < (root_of r).start = omega (arith, lies.to, lies.some, starts) in
    part-node (row_at part b) g l r miss ∙ rw (lt-ltb (root_of part).start (root_of r).start before) (part-found start h.s l part b here h.left p)
part-found start len (node g l r) part b some shaped (inr (inr p)) =
    let h = plans-below start len g l r shaped in
    let more : 0 < len - h.s = omega (arith, h.split.below) in
    let lies = part-lies (start + h.s) (len - h.s) r part more h.right p in
    let starts : g.start ≡ start = start-plan start len (node g l r) shaped in
    let other : g.start ≡ (root_of part).start → ⊥ = λ e. omega (arith, e, starts, lies.from, h.split.below, h.split.greatest) in
    let miss : has_range g (row_at part b) ≡ false = rw (ne_eqb g.start (root_of part).start other) refl in
    let right : (root_of r).start ≡ start + h.s = start-plan (start + h.s) (len - h.s) r h.right in
    let behind : (root_of r).start ≤ (root_of part).start = omega (arith, lies.from, right) in
    part-node (row_at part b) g l r miss ∙ rw (le-ltb (root_of part).start (root_of r).start behind) (part-found (start + h.s) (len - h.s) r part b more h.right p)

-- ---- nodes of a cut

abbrev IsTip : SegTree → Type 0
IsTip (tip g xs) = Unit {0}
IsTip (node g l r) = ⊥

-- a node is a part of the tree, and a leaf where it is opened
record IsOwn (t : SegTree) (n : Node) : Type 0 where
  part : IsPartOf n.tree t
  shaped : plan_of n.tree ≡ plan (root_of n.tree).start (root_of n.tree).len
  ends : n.opened ≡ true → IsTip n.tree

-- nodes that lie one behind the other, from a position on to the end
abbrev AreOwn : SegTree → ℕ → List Node → Type 0
AreOwn t at [] = at ≡ (root_of t).len
AreOwn t at (n ∷ ns) = IsOwn t n × ((root_of n.tree).start ≡ at) × AreOwn t (at + (root_of n.tree).len) ns

abbrev triple_of : Node → Triple
triple_of n = row_at n.tree n.opened

own-node : (b : Bool) (part : SegTree) → (b ≡ true → IsTip part) → as_node b part ≡ Some (record { tree = part; opened = b })
own-node false part h = refl
own-node true (tip g xs) h = refl
own-node true (node g l r) h = absurd (h refl)

own-found : (k : ℕ) (t : SegTree) (n : Node) → IsTreeOver k t → IsOwn t n → node_for t (triple_of n) ≡ Some n
own-found k t n over own =
    ap (option_and_then (as_node n.opened)) (part-found 0 k t n.tree n.opened over.some over.shaped own.part) ∙ own-node n.opened n.tree own.ends

own-cut : (k : ℕ) (t : SegTree) (at : ℕ) (ns : List Node) → IsTreeOver k t → AreOwn t at ns → nodes_from t at (map triple_of ns) ≡ Some ns
own-cut k t at [] over own = rw (eq-eqb at (root_of t).len own) refl
own-cut k t at (n ∷ ns) over own =
    rw (eq-eqb (root_of n.tree).start at own.1)
    (ap₂ before (own-found k t n over own.0) (own-cut k t (at + (root_of n.tree).len) ns over own.2))

-- ---- a step keeps them

own-shaped : (start len : ℕ) (t : SegTree) → plan_of t ≡ plan start len → plan_of t ≡ plan (root_of t).start (root_of t).len
own-shaped start len t e = rw (start-plan start len t e, span-plan start len t e) e

own-below : (t : SegTree) (part : SegTree) (at : ℕ) (ns : List Node) → IsPartOf part t → plan_of part ≡ plan (root_of part).start (root_of part).len → (root_of part).start ≡ at
    → AreOwn t (at + (root_of part).len) ns → AreOwn t at (below part ++ ns)
own-below t (tip g xs) at ns is shaped starts rest = (record { part = is; shaped = shaped; ends = λ o. tt }, starts, rest)
own-below t (node g l r) at ns is shaped starts rest =
    let h = plans-below g.start g.len g l r shaped in
    let right : (root_of r).start ≡ g.start + h.s = start-plan (g.start + h.s) (g.len - h.s) r h.right in
    let left_len : (root_of l).len ≡ h.s = span-plan g.start h.s l h.left in
    let right_len : (root_of r).len ≡ g.len - h.s = span-plan (g.start + h.s) (g.len - h.s) r h.right in
    let lies : (root_of r).start ≡ at + (root_of l).len = omega (arith, right, left_len, starts) in
    let all : at + g.len ≡ at + (root_of l).len + (root_of r).len = omega (arith, left_len, right_len, h.split.below) in (
      record { part = part_left t g l r is; shaped = own-shaped g.start h.s l h.left; ends = λ o. cc },
      start-plan g.start h.s l h.left ∙ starts,
      (record { part = part_right t g l r is; shaped = own-shaped (g.start + h.s) (g.len - h.s) r h.right; ends = λ o. cc }, lies, subst (λ n. AreOwn t n ns) all rest),
    )

not-true : (a b : Bool) → (not a && b) ≡ true → a ≡ false
not-true true b h = cc
not-true false b h = refl

own-expanded : (t : SegTree) (start at : ℕ) (ns : List Node) → AreOwn t at ns → AreOwn t at (expanded_row start ns)
own-expanded t start at [] own = own
own-expanded t start at (n ∷ ns) own = elim (cases_Bool (is_at start n)) [
  | inl h ↦ rw h (own-below t n.tree at ns own.0.part own.0.shaped own.1 own.2)
  | inr f ↦ rw f (own.0, own.1, own-expanded t start (at + (root_of n.tree).len) ns own.2)
]

-- ---- tracks

abbrev OwnRows : Option SegTree → List Node → Type 0
OwnRows None ns = ns ≡ []
OwnRows (Some t) ns = AreOwn t 0 ns

-- the track of a series, whatever its rows are
record IsTrackAt (forest : Forest) (k : ℕ) (name : List ℕ) (track : Track Node) : Type 0 where
  head : track ≡ with_nodes (root_track k name (tree_in forest k)) track.rows
  own : OwnRows (tree_in forest k) track.rows

-- the tracks of the series from the k-th on that a query names
abbrev PlacedIf : Bool → Forest → ℕ → List ℕ → Nodes → (Nodes → Type 0) → Type 0
PlacedIf true forest k name [] later = ⊥
PlacedIf true forest k name (track ∷ tracks) later = IsTrackAt forest k name track × later tracks
PlacedIf false forest k name tracks later = later tracks

abbrev ArePlaced : QueryTerm → Forest → ℕ → List (List ℕ) → Nodes → Type 0
ArePlaced q forest k [] tracks = tracks ≡ []
ArePlaced q forest k (name ∷ names) tracks = PlacedIf (list_any (same_name name) (query_names q)) forest k name tracks (ArePlaced q forest (k + 1) names)

own-rows : (t : Option SegTree) (start : ℕ) (ns : List Node) → OwnRows t ns → OwnRows t (expanded_row start ns)
own-rows None start ns own = rw own refl
own-rows (Some t) start ns own = own-expanded t start 0 ns own

track-expanded : (forest : Forest) (k : ℕ) (name : List ℕ) (at : Pick) (track : Track Node) → IsTrackAt forest k name track → IsTrackAt forest k name (expanded_track at track)
track-expanded forest k name at track is = elim (cases_Bool (track.series == at.series)) [
  | inl t ↦ rw t (record { head = ap (λ (x : Track Node). record x { rows = expanded_row at.start track.rows }) is.head; own = own-rows (tree_in forest k) at.start track.rows is.own })
  | inr f ↦ rw f is
]

placed-expanded : (q : QueryTerm) (forest : Forest) (k : ℕ) (names : List (List ℕ)) (at : Pick) (tracks : Nodes) → ArePlaced q forest k names tracks → ArePlaced q forest k names (expanded at tracks)
placed-expanded q forest k [] at tracks placed = rw placed refl
placed-expanded q forest k (name ∷ names) at tracks placed = by (list_any (same_name name) (query_names q)) tracks (λ ts p. placed-expanded q forest (k + 1) names at ts p) placed
  where
    by : (b : Bool) (ts : Nodes) → ((us : Nodes) → ArePlaced q forest (k + 1) names us → ArePlaced q forest (k + 1) names (expanded at us)) → PlacedIf b forest k name ts (ArePlaced q forest (k + 1) names)
        → PlacedIf b forest k name (expanded at ts) (ArePlaced q forest (k + 1) names)
    by true [] later p = p
    by true (t ∷ ts) later p = (track-expanded forest k name at t p.0, later ts p.1)
    by false ts later p = later ts p

placed-after : (q r : QueryTerm) (forest : Forest) (names : List (List ℕ)) (first : Nodes) (steps : ℕ) → ArePlaced q forest 0 names first → ArePlaced q forest 0 names (after r first steps)
placed-after q r forest names first zero placed = placed
placed-after q r forest names first (suc steps) placed = by (choice r (cut_of (after r first steps))) (placed-after q r forest names first steps placed)
  where
    by : (o : Option Pick) → ArePlaced q forest 0 names (after r first steps) → ArePlaced q forest 0 names (expanded_if o (after r first steps))
    by None p = p
    by (Some at) p = placed-expanded q forest 0 names at (after r first steps) p

root-own : (t : Option SegTree) → IsSeriesTree (length (all_readings t)) t → OwnRows t (root_nodes t)
root-own None is = refl
root-own (Some t) is =
    let n = length (readings_of t) in
    let starts : (root_of t).start ≡ 0 = start-plan 0 n t is.shaped in
    (record { part = part_self t; shaped = own-shaped 0 n t is.shaped; ends = λ o. cc }, starts, omega arith)

placed-roots : (q : QueryTerm) (forest : Forest) (k : ℕ) (names : List (List ℕ)) → AreTrees forest → ArePlaced q forest k names (roots_from q forest k names)
placed-roots q forest k [] trees = refl
placed-roots q forest k (name ∷ names) trees = by (list_any (same_name name) (query_names q)) (placed-roots q forest (k + 1) names trees)
  where
    by : (b : Bool) → ArePlaced q forest (k + 1) names (roots_from q forest (k + 1) names) → PlacedIf b forest k name (cond b (root_track k name (tree_in forest k) ∷ roots_from q forest (k + 1) names) (roots_from q forest (k + 1) names)) (ArePlaced q forest (k + 1) names)
    by true later = (record { head = refl; own = root-own (tree_in forest k) (trees k) }, later)
    by false later = later

-- ---- what is told

rows-both : (k : ℕ) (xs ys : List CutRow) → rows_for k (xs ++ ys) ≡ rows_for k xs ++ rows_for k ys
rows-both k [] ys = refl
rows-both k (x ∷ xs) ys = by (x.series == k) (rows-both k xs ys)
  where
    by : (b : Bool) → rows_for k (xs ++ ys) ≡ rows_for k xs ++ rows_for k ys
        → cond b ((x.start, x.len, x.opened) ∷ rows_for k (xs ++ ys)) (rows_for k (xs ++ ys)) ≡ cond b ((x.start, x.len, x.opened) ∷ rows_for k xs) (rows_for k xs) ++ rows_for k ys
    by true e = ap (λ rs. (x.start, x.len, x.opened) ∷ rs) e
    by false e = e

told-opened : (b : Bool) (xs : List ℤ) → is_some (cond b (Some xs) None) ≡ b
told-opened true xs = refl
told-opened false xs = refl

rows-own : (k : ℕ) (ns : List Node) → rows_for k (map (told_row k) (map row_of ns)) ≡ map triple_of ns
rows-own k [] = refl
rows-own k (n ∷ ns) =
    rw (eq-eqb k k refl)
    (ap₂ (λ (b : Bool) (rs : List Triple). ((root_of n.tree).start, (root_of n.tree).len, b) ∷ rs) (told-opened n.opened (readings_of n.tree)) (rows-own k ns))

rows-other : (j k : ℕ) (rows : List Row) → (k ≡ j → ⊥) → rows_for j (map (told_row k) rows) ≡ []
rows-other j k [] other = refl
rows-other j k (row ∷ rows) other = rw (ne_eqb k j other) (rows-other j k rows other)

-- the rows that are told of a track, and of those behind it
track-series : (forest : Forest) (k : ℕ) (name : List ℕ) (track : Track Node) → IsTrackAt forest k name track → track.series ≡ k
track-series forest k name track is = ap (λ (x : Track Node). x.series) is.head

rows-first : (j : ℕ) (track : Track Node) (tracks : Nodes) → rows_for j (told (cut_of (track ∷ tracks))) ≡ rows_for j (map (told_row track.series) (map row_of track.rows)) ++ rows_for j (told (cut_of tracks))
rows-first j track tracks = rows-both j (map (told_row track.series) (map row_of track.rows)) (told (cut_of tracks))

rows-before : (q : QueryTerm) (forest : Forest) (j k : ℕ) (names : List (List ℕ)) (tracks : Nodes) → j < k → ArePlaced q forest k names tracks → rows_for j (told (cut_of tracks)) ≡ []
rows-before q forest j k [] tracks lt placed = rw placed refl
rows-before q forest j k (name ∷ names) tracks lt placed = by (list_any (same_name name) (query_names q)) tracks (λ ts p. rows-before q forest j (k + 1) names ts (omega arith) p) placed
  where
    by : (b : Bool) (ts : Nodes) → ((us : Nodes) → ArePlaced q forest (k + 1) names us → rows_for j (told (cut_of us)) ≡ []) → PlacedIf b forest k name ts (ArePlaced q forest (k + 1) names) → rows_for j (told (cut_of ts)) ≡ []
    by true [] later p = absurd p
    by true (t ∷ ts) later p =
        let series = track-series forest k name t p.0 in
        let other : t.series ≡ j → ⊥ = λ e. omega (arith, e, series) in
        rows-first j t ts ∙ ap₂ (λ (xs ys : List Triple). xs ++ ys) (rows-other j t.series (map row_of t.rows) other) (later ts p.1)
    by false ts later p = later ts p

-- ---- the lists are the cut

same-self : (name : List ℕ) → same_name name name ≡ true
same-self name = (bytes_eq-Decides name name).1 refl

own-nodes : (t : Option SegTree) (ns : List Node) → IsSeriesTree (length (all_readings t)) t → OwnRows t ns → nodes_of t (map triple_of ns) ≡ Some ns
own-nodes None ns is own = rw own refl
own-nodes (Some t) ns is own = own-cut (length (readings_of t)) t 0 ns is own

-- so it is for the series behind the k-th
abbrev AreCutLater : QueryTerm → Forest → ℕ → List (List ℕ) → List CutRow → Type 0
AreCutLater q forest k names rows = (p : ℕ) (us : Nodes) → ArePlaced q forest (k + 1) names us → ((j : ℕ) → k + 1 ≤ j → rows_for j rows ≡ rows_for j (told (cut_of us)))
    → cut_from q forest (k + 1) p names (lists_for q (k + 1) names rows) ≡ Ok us

lists-cut : (q : QueryTerm) (forest : Forest) (k place : ℕ) (names : List (List ℕ)) (tracks : Nodes) (rows : List CutRow) → AreTrees forest → ArePlaced q forest k names tracks
    → ((j : ℕ) → k ≤ j → rows_for j rows ≡ rows_for j (told (cut_of tracks))) → cut_from q forest k place names (lists_for q k names rows) ≡ Ok tracks
lists-cut q forest k place [] tracks rows trees placed same = ap Ok (sym placed)
lists-cut q forest k place (name ∷ names) tracks rows trees placed same =
    by (list_any (same_name name) (query_names q)) tracks (λ p ts placed same. lists-cut q forest (k + 1) p names ts rows trees placed same) placed same
  where
    first : CertList
    first = record { name = name; rows = rows_for k rows }

    by : (b : Bool) (ts : Nodes) → AreCutLater q forest k names rows → PlacedIf b forest k name ts (ArePlaced q forest (k + 1) names) → ((j : ℕ) → k ≤ j → rows_for j rows ≡ rows_for j (told (cut_of ts)))
        → cond b (and_then (track_by k name (tree_in forest k) (cond b (first ∷ lists_for q (k + 1) names rows) (lists_for q (k + 1) names rows))) place
        (cut_from q forest (k + 1) (place + 1) names (drop 1 (cond b (first ∷ lists_for q (k + 1) names rows) (lists_for q (k + 1) names rows)))))
        (cut_from q forest (k + 1) place names (cond b (first ∷ lists_for q (k + 1) names rows) (lists_for q (k + 1) names rows))) ≡ Ok ts
    by true [] next p e = absurd p
    by true (t ∷ ts) next p e =
        let series = track-series forest k name t p.0 in
        let own : rows_for k rows ≡ map triple_of t.rows =
        e k (omega arith) ∙ rows-first k t ts
        ∙ ap₂ (λ (xs ys : List Triple). xs ++ ys) (ap (λ s. rows_for k (map (told_row s) (map row_of t.rows))) series ∙ rows-own k t.rows) (rows-before q forest k (k + 1) names ts (omega arith) p.1)
        ∙ append-nil (map triple_of t.rows) in
        let nodes : nodes_of (tree_in forest k) (rows_for k rows) ≡ Some t.rows = ap (nodes_of (tree_in forest k)) own ∙ own-nodes (tree_in forest k) t.rows (trees k) p.0.own in
        let track : track_by k name (tree_in forest k) (first ∷ lists_for q (k + 1) names rows) ≡ Some t =
        rw (same-self name) (ap (option_map (with_nodes (root_track k name (tree_in forest k)))) nodes ∙ ap Some (sym p.0.head)) in
        let later : (j : ℕ) → k + 1 ≤ j → rows_for j rows ≡ rows_for j (told (cut_of ts)) = λ j le.
        let other : t.series ≡ j → ⊥ = λ x. omega (arith, x, series, le) in
        e j (omega (arith, le)) ∙ rows-first j t ts ∙ ap (λ xs. xs ++ rows_for j (told (cut_of ts))) (rows-other j t.series (map row_of t.rows) other) in
        ap₂ (λ (o : Option (Track Node)) (r : Result Nodes ℕ). and_then o place r) track (next (place + 1) ts p.1 later)
    by false ts next p e = next place ts p (λ j le. e j (omega (arith, le)))

-- ---- a query and its plain one name the same

or-self : (a : Bool) → ((a || a) || (a || a)) ≡ a
or-self true = refl
or-self false = refl

or-twice : (a b : Bool) → ((a || b) || (a || b)) ≡ (a || b)
or-twice true b = refl
or-twice false true = refl
or-twice false false = refl

statistic-names : (f : List ℕ → Bool) (t u : Term) → list_any f (([] ++ (series_names t ++ series_names u)) ++ (series_names t ++ series_names u)) ≡ ((list_any f (series_names t) || list_any f (series_names u)) || (list_any f (series_names t) || list_any f (series_names u)))
statistic-names f t u =
    let xs = series_names t ++ series_names u in
    list_any-append f xs xs ∙ ap₂ (λ a b. a || b) (list_any-append f (series_names t) (series_names u)) (list_any-append f (series_names t) (series_names u))

plain-names : (f : List ℕ → Bool) (q : QueryTerm) → list_any f (query_names (plain q)) ≡ list_any f (query_names q)
plain-names f (number v) = refl
plain-names f (sum t range) = refl
plain-names f (variance t range) = statistic-names f t t ∙ or-self (list_any f (series_names t))
plain-names f (covariance t u range) = statistic-names f t u ∙ or-twice (list_any f (series_names t)) (list_any f (series_names u)) ∙ sym (list_any-append f (series_names t) (series_names u))
plain-names f (add p q) = list_any-append f (query_names (plain p)) (query_names (plain q)) ∙ ap₂ (λ a b. a || b) (plain-names f p) (plain-names f q) ∙ sym (list_any-append f (query_names p) (query_names q))
plain-names f (sub p q) = list_any-append f (query_names (plain p)) (query_names (plain q)) ∙ ap₂ (λ a b. a || b) (plain-names f p) (plain-names f q) ∙ sym (list_any-append f (query_names p) (query_names q))
plain-names f (mul p q) = list_any-append f (query_names (plain p)) (query_names (plain q)) ∙ ap₂ (λ a b. a || b) (plain-names f p) (plain-names f q) ∙ sym (list_any-append f (query_names p) (query_names q))

plain-lists : (q : QueryTerm) (k : ℕ) (names : List (List ℕ)) (rows : List CutRow) → lists_for q k names rows ≡ lists_for (plain q) k names rows
plain-lists q k [] rows = refl
plain-lists q k (name ∷ names) rows =
    let l : CertList = record { name = name; rows = rows_for k rows } in
    ap₂ (λ (b : Bool) (ls : List CertList). cond b (l ∷ ls) ls) (sym (plain-names (same_name name) q)) (plain-lists q (k + 1) names rows)

-- ---- the verdict

self-inside : (iv : Interval) → is_inside iv iv ≡ true
self-inside iv = rw (le-self iv.lo, le-self iv.hi) refl
  where
    le-self : (x : ℤ) → int_le x x ≡ true
    le-self x = grind (arith, ints)

judged-self : (c : Cert) (iv : Interval) → stated c ≡ iv → width_of iv ≤ c.budget → judged c iv ≡ Holds
judged-self c iv e within =
    subst (λ (s : Interval). cond (is_inside iv s) (cond (nat_lt c.budget (width_of s)) (Wide (width_of s)) Holds) (Escapes iv) ≡ Holds) (sym e)
    (by (is_inside iv iv) (nat_lt c.budget (width_of iv)) (self-inside iv) (le-ltb c.budget (width_of iv) within))
  where
    by : (b w : Bool) → b ≡ true → w ≡ false → cond b (cond w (Wide (width_of iv)) Holds) (Escapes iv) ≡ Holds
    by b w e f = rw (e, f) refl

answer-interval : (q : QueryTerm) (nodes : Nodes) (iv : Interval) → Some iv ≡ interval_in (cut_of nodes) q → interval_of q nodes ≡ iv
unfolding interval_of
answer-interval q nodes iv e = ap (λ o. unwrap_or o no_interval) (sym e)

answer-plain : (m : StoreValue) (q : QueryTerm) → parsed (canonical_text q) ≡ Ok q → refusal_of (facts_in m) (plain q) ≡ None → plain_in m (canonical_text q) ≡ Ok (plain q)
unfolding plain_in
answer-plain m q e none = ap (plain_by m) e ∙ ap (unless_refused (plain q)) none

answer-verdict : (m : StoreValue) (c : Cert) (q : QueryTerm) (nodes : Nodes) → plain_in m c.query ≡ Ok q → cut_from q (forest_of m) 0 0 (names_in m) c.cut ≡ Ok nodes → judged c (interval_of q nodes) ≡ Holds → answer_of m c ≡ Ok Holds
unfolding answer_of cut_by
answer-verdict m c q nodes p e h = ap (verdict_for m c) p ∙ ap (λ r. Ok (judged_over c q r)) e ∙ ap Ok h

pub answers_hold : AnswersHold
answers_hold = λ m q budget a is e none tells.
    let r = plain q in
    let forest = forest_of m in
    let names = names_in m in
    let trees = trees-each m.series is.trees in
    let last = tells.last in
    let placed : ArePlaced r forest 0 names last = subst (ArePlaced r forest 0 names) (sym tells.is_last.reached) (placed-after r r forest names (roots r forest names) tells.is_last.steps (placed-roots r forest 0 names trees)) in
    let cut : cut_from r forest 0 0 names (lists_for q 0 names a.cut) ≡ Ok last =
    ap (cut_from r forest 0 0 names) (plain-lists q 0 names a.cut) ∙ lists-cut r forest 0 0 names last a.cut trees placed (λ j le. ap (rows_for j) tells.rows) in
    let c = certificate_for names q budget a in
    let within : width_of a.iv ≤ budget = subst (IsWithin budget) (sym tells.interval) tells.is_last.within in
    answer-verdict m c r last (answer-plain m q e none) cut (ap (judged c) (answer-interval r last a.iv tells.interval) ∙ judged-self c a.iv refl within)
