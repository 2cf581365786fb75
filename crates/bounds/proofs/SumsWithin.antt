-- The interval of a cut contains the plain sum.
use Rattle.std.proofs.Common.{◌≡◌, ℕ, zero, suc, ◌^◌, ◌≤◌, ℤ, pos, ◌+ℤ◌, ◌-ℤ◌, ◌*ℤ◌, unsigned_abs, List, subst, arith}
use Rattle.std.specs.List.{sum_by}
use Rattle.std.proofs.Math.Nat.{one-le-pow}
use Rattle.std.proofs.lemmas.Int.{ints}
use Rattle.semantics.specs.Measures.{rank_of}
use Rattle.semantics.specs.Sums.{sum_below, total_below}
use Rattle.semantics.specs.Term.{Term}
use Rattle.semantics.specs.Value.{series_value, value_from}
use Rattle.semantics.proofs.QuotientLaws.{contains_near}
use Rattle.semantics.proofs.Ring.{diff-of, diff-same, differences, abs-+ℤ}
use Rattle.segment.specs.declared.segments.Seg.{Seg}
use Rattle.segment.specs.Measure.{unit}
use Rattle.bounds.specs.Cut.{segs_of, estimate_from, greatest_weight, sum_error, sum_estimate, SumsAreWithin}
use Rattle.bounds.specs.Form.{form, weighted_miss, FormsBoundValues}
use Rattle.bounds.specs.Segments.{OfEachName, HasTrueSegs}
use Rattle.bounds.proofs.ChargeLaws.{found_within}
use Rattle.bounds.proofs.FormBounds.{SegsHold, form_bounds}
use Rattle.bounds.proofs.MissLaws.{AreMeasured, occurrence_error, misses_within}
use Rattle.bounds.proofs.OccurrenceLaws.{OfEachName-map, rank-form}
use Rattle.bounds.proofs.SegmentLaws.{are_measured, segs_hold}
use Rattle.bounds.proofs.Sums.{sum_below-mono}

step_ring : (q a b c d : ℤ) → (q *ℤ (a +ℤ b)) -ℤ (c +ℤ d) ≡ ((q *ℤ a) -ℤ c) +ℤ ((q *ℤ b) -ℤ d)
step_ring q a b c d = rw (← diff-of q, ← diff-of a, ← diff-of b, ← diff-of c, ← diff-of d) (simp differences (diff-same _ _ _ _ (omega arith)))

zero_ring : (q : ℤ) → unsigned_abs ((q *ℤ pos 0) -ℤ pos 0) ≤ 0
zero_ring q = omega (arith, ints)

-- sums that are near at each place are near
total_near : (q : ℤ) (f g : ℕ → ℤ) (n : ℕ) → unsigned_abs ((q *ℤ total_below f n) -ℤ total_below g n) ≤ sum_below (λ j. unsigned_abs ((q *ℤ f j) -ℤ g j)) n
total_near q f g zero = zero_ring q
total_near q f g (suc n) =
    rw (step_ring q (total_below f n) (f n) (total_below g n) (g n))
    (omega (arith, abs-+ℤ ((q *ℤ total_below f n) -ℤ total_below g n) ((q *ℤ f n) -ℤ g n), total_near q f g n))

-- the miss of a position is at most what the form's uses miss
near_at : (X : List ℕ → List ℤ) (C : List ℕ → List Seg) (t : Term) (i : ℤ) → OfEachName (SegsHold X C) t
    → unsigned_abs ((pos (unit ^ rank_of t) *ℤ series_value X t i) -ℤ (form C t i).estimate) ≤ sum_by (weighted_miss X C) (form C t i).uses
near_at X C t i h =
    subst (λ r. unsigned_abs ((pos (unit ^ r) *ℤ series_value X t i) -ℤ (form C t i).estimate) ≤ sum_by (weighted_miss X C) (form C t i).uses) (rank-form C t i) (form_bounds X C t i h).near

sum_near : (X : List ℕ → List ℤ) (C : List ℕ → List Seg) (t : Term) (l : ℤ) (n : ℕ) → OfEachName (HasTrueSegs X C) t
    → unsigned_abs ((pos (unit ^ rank_of t) *ℤ total_below (value_from X t l) n) -ℤ total_below (estimate_from C t l) n) ≤ occurrence_error C t l n
sum_near X C t l n h =
    let hold : OfEachName (SegsHold X C) t = OfEachName-map (HasTrueSegs X C) (SegsHold X C) t (segs_hold X C) h in
    let measured : OfEachName (AreMeasured X C) t = OfEachName-map (HasTrueSegs X C) (AreMeasured X C) t (are_measured X C) h in
    let each = sum_below-mono (λ j. unsigned_abs ((pos (unit ^ rank_of t) *ℤ value_from X t l j) -ℤ estimate_from C t l j)) (λ j. sum_by (weighted_miss X C) (form C t (l +ℤ pos j)).uses) n
    (λ j _. near_at X C t (l +ℤ pos j) hold) in
    omega (arith, total_near (pos (unit ^ rank_of t)) (value_from X t l) (estimate_from C t l) n, each, misses_within X C t l measured n)

pub sums_within : SumsAreWithin
sums_within X es t l n h =
    let within : occurrence_error (segs_of es) t l n ≤ sum_error es t l n = found_within (greatest_weight (segs_of es) t l n) es t l in
    let near = sum_near X (segs_of es) t l n h in
    let ends = contains_near (total_below (value_from X t l) n) (sum_estimate es t l n) (sum_error es t l n) (unit ^ rank_of t) (one-le-pow _ _ (omega arith)) (omega (arith, near, within)) in
    record { low = ends.0; high = ends.1 }

pub forms_bound : FormsBoundValues
forms_bound X C t i h = form_bounds X C t i (OfEachName-map (HasTrueSegs X C) (SegsHold X C) t (segs_hold X C) h)
