-- Each step makes the work that is left less, and where there is no step no row is charged.
use Rattle.std.proofs.Common.{◌≡◌, ℕ, zero, suc, ◌+◌, ◌-◌, ◌*◌, ◌/◌, ◌^◌, ◌<◌, ◌≤◌, ◌⊎◌, inl, inr, cond, Bool, true, false, ◌&&◌, not, ℤ, Option, Some, None, List, [], ◌∷◌, ◌++◌, map, refl, sym, ap, subst, ◌∙◌, arith}
use Rattle.std.specs.Prelude.{◌==◌, if◌then◌else◌, is_some}
use Rattle.std.specs.List.{All, sum_by}
use Rattle.std.proofs.lemmas.Bool.{cases_Bool, eq-eqb}
use Rattle.std.proofs.lemmas.List.Sums.{sum_by-cons, sum_by-append}
use Rattle.std.proofs.lemmas.List.Elements.{All-head, All-tail}
use Rattle.semantics.specs.Admission.{SumTerm, sums_of}
use Rattle.semantics.specs.Plain.{IsPlain}
use Rattle.semantics.specs.Measures.{names_in}
use Rattle.semantics.specs.Names.{same_name}
use Rattle.semantics.specs.Sums.{sum_below}
use Rattle.semantics.specs.Term.{Term, QueryTerm}
use Rattle.segment.specs.declared.segments.Seg.{Seg}
use Rattle.segment.specs.Measure.{unit, unit_seg}
use Rattle.segment.specs.Tree.{SegTree, tip, node, readings_of, root_of}
use Rattle.bounds.specs.Cut.{occurrence_at, charge_part, charge_by, entry_error, error_by, greatest_weight, segs_of}
use Rattle.error_prop.specs.Queries.{lines_of}
use Rattle.error_prop.specs.QueryOver.{sums_over}
use Rattle.descent.specs.declared.Pick.{Pick}
use Rattle.descent.specs.Rows.{with_rows, Row, Track, Cut, units, segs_given, segs_of_row, segs_of_rows, entry_of, entries}
use Rattle.descent.specs.Sums.{sum_in, first_of, count_of, charge_of, interval_in}
use Rattle.descent.specs.Choice.{Charged}
use Rattle.descent.specs.Choice.{Has, Line, lines_in, whole_error, weight_of, heaviest, charged_row, charged_in, charged_rows, charge, choice, pick_of, pick_if}
use Rattle.descent.specs.Choice.{row_of as charged_by}
use Rattle.descent.specs.Descents.{Node, Nodes, below, row_of, cut_of, is_at, expanded_row, expanded_track, expanded}
use Rattle.std.proofs.Math.Nat.{div-lt_iff_lt-mul}
use Rattle.descent.proofs.Exact.{All-left, All-right, units-some, IsNothing}
use Rattle.descent.proofs.Lines.{AreOf, lines_are, line-of-sum, all-nothing}
use Rattle.descent.proofs.Heaviest.{heaviest-none, heaviest-found}

-- ---- how many steps are left below a node

abbrev pub size : SegTree → ℕ
size (tip g xs) = 1
size (node g left right) = 1 + size left + size right

abbrev pub work : Node → ℕ
work n = cond n.opened 0 (size n.tree)

abbrev pub work_in : List Node → ℕ
work_in [] = 0
work_in (n ∷ ns) = work n + work_in ns

abbrev pub works : Nodes → ℕ
works [] = 0
works (track ∷ tracks) = work_in track.rows + works tracks

work_in-append : (xs ys : List Node) → work_in (xs ++ ys) ≡ work_in xs + work_in ys
work_in-append [] ys = omega arith
work_in-append (x ∷ xs) ys = omega (arith, work_in-append xs ys)

below-less : (t : SegTree) → work_in (below t) < size t
below-less (tip g xs) = omega arith
below-less (node g left right) = omega arith

closed-work : (start : ℕ) (n : Node) → is_at start n ≡ true → work n ≡ size n.tree
closed-work start n h = by n.opened h
  where
    by : (b : Bool) → (not b && ((root_of n.tree).start == start)) ≡ true → cond b 0 (size n.tree) ≡ size n.tree
    by true e = cc
    by false e = refl

-- rows are replaced by ones with less work, or stay
row-less : (start : ℕ) (ns : List Node) → work_in (expanded_row start ns) ≤ work_in ns
row-less start [] = omega arith
row-less start (n ∷ ns) = elim (cases_Bool (is_at start n)) [
  | inl t ↦ rw t (omega (arith, work_in-append (below n.tree) ns, below-less n.tree, closed-work start n t))
  | inr f ↦ rw f (omega (arith, row-less start ns))
]

-- some row is closed and starts there
abbrev pub HasAt : ℕ → List Node → Type 0
HasAt start [] = ⊥
HasAt start (n ∷ ns) = (is_at start n ≡ true) ⊎ HasAt start ns

row-fewer : (start : ℕ) (ns : List Node) → HasAt start ns → work_in (expanded_row start ns) < work_in ns
row-fewer start [] h = absurd h
row-fewer start (n ∷ ns) (inl t) = rw t (omega (arith, work_in-append (below n.tree) ns, below-less n.tree, closed-work start n t))
row-fewer start (n ∷ ns) (inr h) = elim (cases_Bool (is_at start n)) [
  | inl t ↦ rw t (omega (arith, work_in-append (below n.tree) ns, below-less n.tree, closed-work start n t))
  | inr f ↦ rw f (omega (arith, row-fewer start ns h))
]

abbrev pub HasPick : Pick → Nodes → Type 0
HasPick at [] = ⊥
HasPick at (track ∷ tracks) = ((track.series ≡ at.series) × HasAt at.start track.rows) ⊎ HasPick at tracks

track-less : (at : Pick) (track : Track Node) → work_in (expanded_track at track).rows ≤ work_in track.rows
track-less at track = elim (cases_Bool (track.series == at.series)) [
  | inl t ↦ rw t (row-less at.start track.rows)
  | inr f ↦ rw f (omega arith)
]

all-less : (at : Pick) (nodes : Nodes) → works (expanded at nodes) ≤ works nodes
all-less at [] = omega arith
all-less at (track ∷ tracks) = omega (arith, track-less at track, all-less at tracks)

pub expanded-less : (at : Pick) (nodes : Nodes) → HasPick at nodes → works (expanded at nodes) < works nodes
expanded-less at [] h = absurd h
expanded-less at (track ∷ tracks) (inl (s, h)) =
    let here : work_in (expanded_track at track).rows < work_in track.rows = rw (eq-eqb track.series at.series s) (row-fewer at.start track.rows h) in
    omega (arith, here, all-less at tracks)
expanded-less at (track ∷ tracks) (inr h) = omega (arith, track-less at track, expanded-less at tracks h)

-- ---- a row that is charged is closed

none-charged : (weight : ℕ → ℤ → Seg → ℕ) (t : Term) (l : ℤ) (name : List ℕ) (g : Seg) (n : ℕ) → g.l ≡ 0 → sum_below (charge_part weight t l name g) n ≡ 0
none-charged weight t l name g zero z = refl
none-charged weight t l name g (suc n) z = omega (arith, none-charged weight t l name g n z, part (same_name name (occurrence_at t l n).name))
  where
    part : (b : Bool) → cond b (g.l * weight n (occurrence_at t l n).at g) 0 ≡ 0
    part true = rw z (omega arith)
    part false = refl

pub units-free : (weight : ℕ → ℤ → Seg → ℕ) (t : Term) (l : ℤ) (name : List ℕ) (start : ℕ) (xs : List ℤ) → sum_by (charge_by weight t l name) (units start xs) ≡ 0
units-free weight t l name start [] = refl
units-free weight t l name start (x ∷ xs) =
    sum_by-cons (charge_by weight t l name) (unit_seg start x) (units (start + 1) xs)
    ∙ omega (arith, none-charged weight t l name (unit_seg start x) (names_in t) refl, units-free weight t l name (start + 1) xs)

charged-closed : (cut : Cut) (s : SumTerm) (name : List ℕ) (n : Node) → 0 < charge_of cut s name (row_of n) → is_at (root_of n.tree).start n ≡ true
charged-closed cut s name n some = by n.opened some
  where
    w : ℕ → ℤ → Seg → ℕ
    w = greatest_weight (segs_of (entries cut)) s.series (first_of cut s) (count_of cut s)

    by : (b : Bool) → 0 < sum_by (charge_by w s.series (first_of cut s) name) (segs_given (root_of n.tree) (cond b (Some (readings_of n.tree)) None)) → (not b && ((root_of n.tree).start == (root_of n.tree).start)) ≡ true
    by true h = absurd (omega (arith, h, units-free w s.series (first_of cut s) name (root_of n.tree).start (readings_of n.tree)))
    by false h = eq-eqb (root_of n.tree).start (root_of n.tree).start refl

-- a charged row that was found is one that can be replaced
found-rows : (cut : Cut) (s : SumTerm) (track : Track Node) (ns : List Node) (rest : List Charged) (c : Charged) → 0 < c.charge
    → Has c (map (charged_row cut s (with_rows row_of track)) (map row_of ns) ++ rest)
    → ((track.series ≡ c.series) × HasAt c.start ns) ⊎ Has c rest
found-rows cut s track [] rest c some h = inr h
found-rows cut s track (n ∷ ns) rest c some (inl e) =
    let same : c.charge ≡ charge_of cut s track.name (row_of n) = ap (λ (k : Charged). k.charge) e in
    let start : (root_of n.tree).start ≡ c.start = ap (λ (k : Charged). k.start) (sym e) in
    inl (ap (λ (k : Charged). k.series) (sym e), inl (subst (λ k. is_at k n ≡ true) start (charged-closed cut s track.name n (rw (← same) some))))
found-rows cut s track (n ∷ ns) rest c some (inr h) = elim (found-rows cut s track ns rest c some h) [
  | inl (e, at) ↦ inl (e, inr at)
  | inr r ↦ inr r
]

found-tracks : (cut : Cut) (s : SumTerm) (nodes : Nodes) (c : Charged) → 0 < c.charge → Has c (charged_in cut s (cut_of nodes)) → HasPick (pick_of c) nodes
found-tracks cut s [] c some h = absurd h
found-tracks cut s (track ∷ tracks) c some h = elim (found-rows cut s track track.rows (charged_in cut s (cut_of tracks)) c some h) [
  | inl here ↦ inl here
  | inr rest ↦ inr (found-tracks cut s tracks c some rest)
]

-- ---- no charge, no error

abbrev IsFree : Charged → Type 0
IsFree c = c.charge ≡ 0

free-rows : (cut : Cut) (s : SumTerm) (track : Track Row) (rows : List Row) → All IsFree (map (charged_row cut s track) rows)
    → sum_by (charge_by (greatest_weight (segs_of (entries cut)) s.series (first_of cut s) (count_of cut s)) s.series (first_of cut s) track.name) (segs_of_rows rows) ≡ 0
free-rows cut s track [] h = refl
free-rows cut s track (row ∷ rows) h =
    let f = charge_by (greatest_weight (segs_of (entries cut)) s.series (first_of cut s) (count_of cut s)) s.series (first_of cut s) track.name in
    let here : sum_by f (segs_of_row row) ≡ 0 = All-head IsFree (charged_row cut s track row) (map (charged_row cut s track) rows) h in
    let rest = free-rows cut s track rows (All-tail IsFree (charged_row cut s track row) (map (charged_row cut s track) rows) h) in
    sum_by-append f (segs_of_row row) (segs_of_rows rows) ∙ omega (arith, here, rest)

free-tracks : (cut : Cut) (s : SumTerm) (tracks : Cut) → All IsFree (charged_in cut s tracks)
    → error_by (greatest_weight (segs_of (entries cut)) s.series (first_of cut s) (count_of cut s)) (entries tracks) s.series (first_of cut s) ≡ 0
free-tracks cut s [] h = refl
free-tracks cut s (track ∷ tracks) h =
    let w = greatest_weight (segs_of (entries cut)) s.series (first_of cut s) (count_of cut s) in
    let here = free-rows cut s track track.rows (All-left IsFree (map (charged_row cut s track) track.rows) (charged_in cut s tracks) h) in
    let rest = free-tracks cut s tracks (All-right IsFree (map (charged_row cut s track) track.rows) (charged_in cut s tracks) h) in
    sum_by-cons (entry_error w s.series (first_of cut s)) (entry_of track) (entries tracks) ∙ omega (arith, here, rest)

no-error : (e u : ℕ) → 0 < u → e ≡ 0 → (e + (u - 1)) / u ≡ 0
no-error e u some z = let lt : (e + (u - 1)) / u < 1 = (div-lt_iff_lt-mul some).1 (omega arith) in omega arith

-- ---- the choice

abbrev pub counts : Cut → QueryTerm → ℕ
counts cut q = if is_some (interval_in cut q) then 1 else 0

pub counts-one : (cut : Cut) (q : QueryTerm) → counts cut q ≤ 1
counts-one cut q = by (is_some (interval_in cut q))
  where
    by : (b : Bool) → (if b then 1 else 0) ≤ 1
    by true = omega arith
    by false = omega arith

-- where there is no choice no sum matters
pub no-choice : (q : QueryTerm) (cut : Cut) → IsPlain q → choice q cut ≡ None → All IsNothing (lines_of q (sums_over (entries cut) q) (counts cut q))
no-choice q cut plain h = by (heaviest weight_of (lines_in cut q)) refl h
  where
    of : AreOf (sum_in cut) (sums_of q) (lines_of q (sums_over (entries cut) q) (counts cut q))
    of = lines_are cut q (counts cut q) plain

    by : (o : Option Line) → heaviest weight_of (lines_in cut q) ≡ o → pick_if (charged_by cut o) ≡ None → All IsNothing (lines_of q (sums_over (entries cut) q) (counts cut q))
    by None e p = all-nothing (sum_in cut) (sums_of q) (lines_of q (sums_over (entries cut) q) (counts cut q)) of (heaviest-none weight_of (lines_in cut q) e)
    by (Some line) e p =
        let found = heaviest-found weight_of (lines_in cut q) line e in
        let none = no-row (heaviest charge (charged_rows cut line.sum)) p in
        let free : (sum_in cut line.sum).err ≡ 0 = free-tracks cut line.sum cut (heaviest-none charge (charged_rows cut line.sum) none) in
        let err : line.says.err ≡ 0 = line-of-sum (sum_in cut) (sums_of q) (lines_of q (sums_over (entries cut) q) (counts cut q)) line of found.there ∙ free in
        let w : whole_error line.says ≡ 0 = no-error line.says.err (unit ^ line.says.rank) (units-some line.says.rank) err in
        let z : weight_of line ≡ 0 = rw w (omega arith) in
        let some = found.some in
        absurd (omega arith)
      where
        no-row : (o : Option Charged) → pick_if o ≡ None → o ≡ None
        no-row None e = refl
        no-row (Some c) e = cc

-- what is chosen can be replaced
pub chosen-there : (q : QueryTerm) (nodes : Nodes) (at : Pick) → choice q (cut_of nodes) ≡ Some at → HasPick at nodes
chosen-there q nodes at h = by (heaviest weight_of (lines_in cut q)) h
  where
    cut : Cut
    cut = cut_of nodes

    by : (o : Option Line) → pick_if (charged_by cut o) ≡ Some at → HasPick at nodes
    by None p = cc
    by (Some line) p = row (heaviest charge (charged_rows cut line.sum)) refl p
      where
        row : (o : Option Charged) → heaviest charge (charged_rows cut line.sum) ≡ o → pick_if o ≡ Some at → HasPick at nodes
        row None e p = cc
        row (Some c) e p =
            let found = heaviest-found charge (charged_rows cut line.sum) c e in
            let same : pick_of c ≡ at = cc in
            subst (λ k. HasPick k nodes) same (found-tracks cut line.sum nodes c found.some found.there)
