-- The segments of a cut of true trees are true, so each sum of a query holds its value.
use Rattle.std.proofs.Common.{◌≡◌, ℕ, zero, suc, ◌+◌, ◌-◌, inl, inr, cond, Bool, true, false, ℤ, Option, Some, None, List, [], ◌∷◌, ◌++◌, length, take, drop, map, refl, sym, ap, subst, ◌∙◌, arith, append_assoc, length-append, take_all}
use Rattle.std.specs.List.{AllByRecursion}
use Rattle.std.specs.Prelude.{IsSomeAnd}
use Rattle.std.proofs.lemmas.Bool.{cases_lt}
use Rattle.std.proofs.lemmas.List.{take-append-le}
use Rattle.std.proofs.Math.Seq.{drop-append-add}
use Rattle.semantics.specs.Plain.{IsPlain}
use Rattle.semantics.specs.Names.{same_name}
use Rattle.semantics.specs.Term.{Term, base, constant, bare, plus, minus, times, shift, QueryTerm, number, sum, variance, covariance, add, sub, mul}
use Rattle.semantics.specs.Value.{query_value}
use Rattle.segment.specs.declared.segments.Seg.{Seg}
use Rattle.segment.specs.Measure.{IsTrueOf, unit_seg}
use Rattle.segment.specs.Shape.{room, plan, plan_below}
use Rattle.segment.specs.Tree.{SegTree, tip, node, readings_of, root_of, plan_of, width, AllTrue, IsTreeOver}
use Rattle.segment.proofs.PartLaws.{root-true}
use Rattle.segment.proofs.ShapeLaws.{plan_below_low, plan_below_high}
use Rattle.segment.proofs.TreeLaws.{width-below}
use Rattle.segment.proofs.UnitLaws.{unit-true}
use Rattle.bounds.specs.Cut.{segs_of}
use Rattle.bounds.specs.Segments.{TouchFrom, AreTrueOf, IsTrueIn, HasTrueSegs, OfEachName}
use Rattle.descent.specs.Rows.{units, segs_given, segs_of_row, segs_of_rows, entries}
use Rattle.interval.specs.Interval.{Interval, Has}
use Rattle.error_prop.specs.QueryOver.{sums_over, IsTrueFor}
use Rattle.error_prop.proofs.QueryLaws.{queries_hold}
use Rattle.error_prop.proofs.QueryOverLaws.{hold_over}
use Rattle.descent.specs.Sums.{interval_in}
use Rattle.descent.specs.Descents.{Node, Nodes, row_of, cut_of}
use Rattle.descent.specs.Below.{readings_in, readings_by}

-- a tree that lies over its readings from a position on, each of its segments true
abbrev pub IsTrueFrom : ℕ → SegTree → Type 0
IsTrueFrom at (tip g xs) = (g.start ≡ at) × IsTrueOf xs g
IsTrueFrom at (node g left right) =
    (g.start ≡ at) × IsTrueOf (readings_of left ++ readings_of right) g × IsTrueFrom at left × IsTrueFrom (at + length (readings_of left)) right

abbrev pub AreTrueFrom : ℕ → List Node → Type 0
AreTrueFrom at [] = Unit {0}
AreTrueFrom at (n ∷ ns) = IsTrueFrom at n.tree × AreTrueFrom (at + length (readings_of n.tree)) ns

abbrev pub AreTrueTracks : Nodes → Type 0
AreTrueTracks [] = Unit {0}
AreTrueTracks (track ∷ tracks) = AreTrueFrom 0 track.rows × AreTrueTracks tracks

-- ---- trees

width-plan_of : (t : SegTree) → width (plan_of t) ≡ (root_of t).len
width-plan_of (tip g xs) = refl
width-plan_of (node g left right) = refl

root-long : (t : SegTree) → AllTrue t → (root_of t).len ≡ length (readings_of t)
root-long t h = ap (λ (g : Seg). g.len) (root-true t h).measured

long-below : (h start len : ℕ) (t : SegTree) → plan_of t ≡ plan_below h start len → AllTrue t → length (readings_of t) ≡ len
long-below h start len t e all_true = sym (root-long t all_true) ∙ sym (width-plan_of t) ∙ ap width e ∙ width-below h start len

true-below : (h start len : ℕ) (t : SegTree) → plan_of t ≡ plan_below h start len → AllTrue t → IsTrueFrom start t
unfolding plan_below
true-below zero start len (tip g xs) e all_true = let starts : g.start ≡ start = cc in (starts, all_true)
true-below zero start len (node g left right) e all_true = cc
true-below (suc h) start len (tip g xs) e all_true = elim (cases_lt (room h) len) [
  | inr low ↦ true-below h start len (tip g xs) (e ∙ plan_below_low h start len low) all_true
  | inl high ↦ let split = e ∙ plan_below_high h start len high in cc
]
true-below (suc h) start len (node g left right) e all_true = elim (cases_lt (room h) len) [
  | inr low ↦ true-below h start len (node g left right) (e ∙ plan_below_low h start len low) all_true
  | inl high ↦
      let split = e ∙ plan_below_high h start len high in
      let starts : g.start ≡ start = cc in
      let l : plan_of left ≡ plan_below h start (room h) = cc in
      let r : plan_of right ≡ plan_below h (start + room h) (len - room h) = cc in
      let long = long-below h start (room h) left l all_true.1 in
      (starts, all_true.0, true-below h start (room h) left l all_true.1, subst (λ n. IsTrueFrom (start + n) right) (sym long) (true-below h (start + room h) (len - room h) right r all_true.2))
]

pub tree_true : (n : ℕ) (t : SegTree) → IsTreeOver n t → IsTrueFrom 0 t
unfolding plan
tree_true n t over = true-below n 0 n t over.shaped over.all_true

pub true-root : (at : ℕ) (t : SegTree) → IsTrueFrom at t → ((root_of t).start ≡ at) × IsTrueOf (readings_of t) (root_of t)
true-root at (tip g xs) h = (h.0, h.1)
true-root at (node g left right) h = (h.0, h.1)

-- ---- rows

part : (pre xs rest : List ℤ) → take (length xs) (drop (length pre) (pre ++ (xs ++ rest))) ≡ xs
part pre xs rest =
    let e : length pre + 0 ≡ length pre = omega arith in
    ap (λ k. take (length xs) (drop k (pre ++ (xs ++ rest)))) (sym e)
    ∙ ap (take (length xs)) (drop-append-add pre (xs ++ rest) 0)
    ∙ take-append-le (length xs) xs rest (omega arith) ∙ take_all (length xs) xs (omega arith)

-- the segments are true of these readings, and touch from one position to another
pub record AreRight (xs : List ℤ) (gs : List Seg) (from to : ℕ) : Type 0 where
  pub each : AllByRecursion (IsTrueIn xs) gs
  pub touch : TouchFrom from gs to

joined : (xs : List ℤ) (gs hs : List Seg) (a b c : ℕ) → AreRight xs gs a b → AreRight xs hs b c → AreRight xs (gs ++ hs) a c
joined xs [] hs a b c g h = let e : a ≡ b = g.touch in rw e h
joined xs (x ∷ gs) hs a b c g h =
    let t = g.touch in
    let e = g.each in
    let rest = joined xs gs hs (a + x.len) b c (record { each = e.1; touch = t.1 }) h in
    record { each = (e.0, rest.each); touch = (t.0, rest.touch) }

closed_right : (pre rest : List ℤ) (t : SegTree) → IsTrueFrom (length pre) t
    → AreRight (pre ++ (readings_of t ++ rest)) (root_of t ∷ []) (length pre) (length pre + length (readings_of t))
closed_right pre rest t h =
    let r = true-root (length pre) t h in
    let len : (root_of t).len ≡ length (readings_of t) = ap (λ (g : Seg). g.len) r.1.measured in
    let same : take (root_of t).len (drop (root_of t).start (pre ++ (readings_of t ++ rest))) ≡ readings_of t = rw (len, r.0) (part pre (readings_of t) rest) in
    record { each = (subst (λ ys. IsTrueOf ys (root_of t)) (sym same) r.1, tt); touch = (r.0, omega arith) }

units_right : (pre xs rest : List ℤ) → AreRight (pre ++ (xs ++ rest)) (units (length pre) xs) (length pre) (length pre + length xs)
units_right pre [] rest = record { each = tt; touch = omega arith }
units_right pre (x ∷ xs) rest =
    let here = part pre (x ∷ []) (xs ++ rest) in
    let next = units_right (pre ++ x ∷ []) xs rest in
    let long : length (pre ++ x ∷ []) ≡ length pre + 1 = length-append pre (x ∷ []) in
    let all : (pre ++ x ∷ []) ++ (xs ++ rest) ≡ pre ++ (x ∷ xs ++ rest) = append_assoc pre (x ∷ []) (xs ++ rest) in
    let moved : AreRight (pre ++ (x ∷ xs ++ rest)) (units (length pre + 1) xs) (length pre + 1) (length pre + 1 + length xs) = rw (← all, ← long) next in
    let end : length pre + 1 + length xs ≡ length pre + suc (length xs) = omega arith in
    record { each = (subst (λ ys. IsTrueOf ys (unit_seg (length pre) x)) (sym here) (unit-true (length pre) x), moved.each); touch = (refl, subst (λ k. TouchFrom (length pre + 1) (units (length pre + 1) xs) k) end moved.touch) }

row_right : (pre rest : List ℤ) (n : Node) (b : Bool) → n.opened ≡ b → IsTrueFrom (length pre) n.tree
    → AreRight (pre ++ (readings_of n.tree ++ rest)) (segs_given (root_of n.tree) (cond b (Some (readings_of n.tree)) None)) (length pre) (length pre + length (readings_of n.tree))
row_right pre rest n false e h = closed_right pre rest n.tree h
row_right pre rest n true e h = let r = true-root (length pre) n.tree h in rw r.0 (units_right pre (readings_of n.tree) rest)

pub rows_right : (pre : List ℤ) (ns : List Node) → AreTrueFrom (length pre) ns → AreRight (pre ++ readings_in ns) (segs_of_rows (map row_of ns)) (length pre) (length pre + length (readings_in ns))
rows_right pre [] h = record { each = tt; touch = omega arith }
rows_right pre (n ∷ ns) h =
    let xs = readings_of n.tree in
    let here = row_right pre (readings_in ns) n n.opened refl h.0 in
    let long : length (pre ++ xs) ≡ length pre + length xs = length-append pre xs in
    let all : (pre ++ xs) ++ readings_in ns ≡ pre ++ (xs ++ readings_in ns) = append_assoc pre xs (readings_in ns) in
    let next = rows_right (pre ++ xs) ns (rw long h.1) in
    let both : length (xs ++ readings_in ns) ≡ length xs + length (readings_in ns) = length-append xs (readings_in ns) in
    let end : length pre + length xs + length (readings_in ns) ≡ length pre + length (xs ++ readings_in ns) = omega arith in
    let moved : AreRight (pre ++ (xs ++ readings_in ns)) (segs_of_rows (map row_of ns)) (length pre + length xs) (length pre + length xs + length (readings_in ns)) = rw (← all, ← long) next in
    let done : AreRight (pre ++ (xs ++ readings_in ns)) (segs_of_rows (map row_of ns)) (length pre + length xs) (length pre + length (xs ++ readings_in ns)) = rw (← end) moved in
    joined (pre ++ (xs ++ readings_in ns)) (segs_of_row (row_of n)) (segs_of_rows (map row_of ns)) (length pre) (length pre + length xs) (length pre + length (xs ++ readings_in ns)) here done

-- ---- names

true_by : (nodes : Nodes) (name : List ℕ) → AreTrueTracks nodes → HasTrueSegs (readings_by nodes) (segs_of (entries (cut_of nodes))) name
true_by [] name h = record { each = tt; touch = refl }
true_by (track ∷ tracks) name h = by (same_name track.name name) here (true_by tracks name h.1)
  where
    here : AreTrueOf (readings_in track.rows) (segs_of_rows (map row_of track.rows))
    here = let r = rows_right [] track.rows h.0 in let e : 0 + length (readings_in track.rows) ≡ length (readings_in track.rows) = omega arith in record { each = r.each; touch = subst (λ k. TouchFrom 0 (segs_of_rows (map row_of track.rows)) k) e r.touch }

    by : (b : Bool) → AreTrueOf (readings_in track.rows) (segs_of_rows (map row_of track.rows)) → HasTrueSegs (readings_by tracks) (segs_of (entries (cut_of tracks))) name
        → AreTrueOf (cond b (readings_in track.rows) (readings_by tracks name)) (cond b (segs_of_rows (map row_of track.rows)) (segs_of (entries (cut_of tracks)) name))
    by true x y = x
    by false x y = y

of_each : (P : List ℕ → Type 0) (t : Term) → ((name : List ℕ) → P name) → OfEachName P t
of_each P (base name) h = h name
of_each P (constant v a b) h = tt
of_each P (bare v) h = tt
of_each P (plus u v) h = (of_each P u h, of_each P v h)
of_each P (minus u v) h = (of_each P u h, of_each P v h)
of_each P (times u v) h = (of_each P u h, of_each P v h)
of_each P (shift u k) h = of_each P u h

-- the segments of all names are true of the readings below the nodes
pub true_for : (nodes : Nodes) (q : QueryTerm) → AreTrueTracks nodes → IsPlain q → IsTrueFor (readings_by nodes) (entries (cut_of nodes)) q
true_for nodes (number v) h p = tt
true_for nodes (sum t range) h p = of_each (HasTrueSegs (readings_by nodes) (segs_of (entries (cut_of nodes)))) t (λ name. true_by nodes name h)
true_for nodes (variance t range) h p = absurd p
true_for nodes (covariance t u range) h p = absurd p
true_for nodes (add p q) h pl = (true_for nodes p h pl.0, true_for nodes q h pl.1)
true_for nodes (sub p q) h pl = (true_for nodes p h pl.0, true_for nodes q h pl.1)
true_for nodes (mul p q) h pl = (true_for nodes p h pl.0, true_for nodes q h pl.1)

-- the interval is there, and holds the value
pub holds_value : (nodes : Nodes) (q : QueryTerm) → AreTrueTracks nodes → IsPlain q → IsSomeAnd (interval_in (cut_of nodes) q) (λ iv. Has iv (query_value (readings_by nodes) q))
holds_value nodes q h p =
    let X = readings_by nodes in
    let es = entries (cut_of nodes) in
    queries_hold X q (sums_over es q) p (hold_over X es q p (true_for nodes q h p))

pub is-there : (nodes : Nodes) (q : QueryTerm) → AreTrueTracks nodes → IsPlain q → (iv : Interval) × (interval_in (cut_of nodes) q ≡ Some iv)
is-there nodes q h p = by (interval_in (cut_of nodes) q) refl (holds_value nodes q h p)
  where
    by : (o : Option Interval) → interval_in (cut_of nodes) q ≡ o → IsSomeAnd o (λ iv. Has iv (query_value (readings_by nodes) q)) → (iv : Interval) × (interval_in (cut_of nodes) q ≡ Some iv)
    by None e v = absurd v
    by (Some iv) e v = (iv, e)
