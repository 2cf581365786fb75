-- What true segments say of the readings, position by position.
use Rattle.std.proofs.Common.{◌≡◌, ℕ, ◌+◌, ◌-◌, ◌<◌, ◌≤◌, ℤ, pos, negsuc, ◌+ℤ◌, ◌-ℤ◌, ◌*ℤ◌, unsigned_abs, List, [], ◌∷◌, length, take, drop, Bool, true, false, cond, ◌&&◌, ◌||◌, nat_le, nat_lt, refl, sym, ap, ◌∙◌, arith}
use Rattle.std.specs.List.{AllByRecursion}
use Rattle.std.proofs.lemmas.Int.{ints}
use Rattle.std.proofs.lemmas.Bool.{cond_both, false≢true}
use Rattle.std.proofs.lemmas.Bool.Decides.{nat_tests}
use Rattle.std.proofs.lemmas.List.{get_or-drop, get_or-take, get_or_past}
use lib.IntN.{zero-*ℤ}
use Rattle.semantics.specs.Readings.{reading, reading_at}
use Rattle.semantics.specs.Sums.{sum_below, most_below}
use Rattle.semantics.proofs.SumLaws.{most_below-at}
use Rattle.segment.specs.declared.segments.Seg.{Seg}
use Rattle.segment.specs.Measure.{unit, estimate_at, curve_of, magnitude_at, miss, miss_at, greatest_estimate, estimate_magnitude_at, greatest_reading}
use Rattle.bounds.specs.Segments.{covers, estimate_of, no_seg, seg_at, HasTrueSegs, IsTrueIn, TouchFrom}
use Rattle.bounds.proofs.FormBounds.{SegsHold}
use Rattle.bounds.proofs.MissLaws.{AreMeasured, gap}
use Rattle.bounds.proofs.Regroup.{AllMeasured, missed}
use Rattle.bounds.proofs.Sums.{sum_below-same}

-- ---- one segment

-- what a segment says of a series
pub record SegSays (xs : List ℤ) (g : Seg) : Type 0 where
  pub l : g.l ≡ sum_below (λ k. gap xs g (pos (g.start + k))) g.len
  pub d : (i : ℤ) → covers g i ≡ true → unsigned_abs (reading_at xs i) ≤ g.d
  pub f : (i : ℤ) → covers g i ≡ true → unsigned_abs (estimate_of g i) ≤ g.f

part_reading : (xs : List ℤ) (start len k : ℕ) → k < len → reading (take len (drop start xs)) k ≡ reading xs (start + k)
part_reading xs start len k lt = get_or-take len (drop start xs) k (pos 0) lt ∙ get_or-drop start xs k (pos 0)

pub estimate_there : (g : Seg) (k : ℕ) → estimate_of g (pos (g.start + k)) ≡ estimate_at (curve_of g) k
estimate_there g k =
    let e : pos (g.start + k) -ℤ pos g.start ≡ pos k = omega (arith, ints) in
    ap (λ z. g.a +ℤ (g.b *ℤ z) +ℤ (g.c *ℤ (z *ℤ z))) e

covered_low : (start len p : ℕ) → (nat_le start p && nat_lt p (start + len)) ≡ true → start ≤ p
covered_low start len p h = grind (arith, nat_tests)

covered_high : (start len p : ℕ) → (nat_le start p && nat_lt p (start + len)) ≡ true → p < start + len
covered_high start len p h = grind (arith, nat_tests)

-- a position that a segment covers is one of its places
pub place_in : (g : Seg) (i : ℤ) → covers g i ≡ true → (k : ℕ) × (k < g.len) × (i ≡ pos (g.start + k))
place_in g (pos p) h =
    let low : g.start ≤ p = covered_low g.start g.len p h in
    let high : p < g.start + g.len = covered_high g.start g.len p h in
    let e : p ≡ g.start + (p - g.start) = omega arith in
    (p - g.start, omega arith, ap pos e)
place_in g (negsuc p) h = absurd (false≢true h)

seg_says : (xs : List ℤ) (g : Seg) → IsTrueIn xs g → SegSays xs g
unfolding miss greatest_reading greatest_estimate
seg_says xs g h =
    let same : g.len ≡ length (take g.len (drop g.start xs)) = ap (λ (s : Seg). s.len) h.measured in
    record {
      l =
          ap (λ (s : Seg). s.l) h.measured
          ∙ ap (sum_below (miss_at (curve_of g) (take g.len (drop g.start xs)))) (sym same)
          ∙ sum_below-same _ _ g.len
          (λ k lt.
          ap (λ x. unsigned_abs ((pos unit *ℤ x) -ℤ estimate_at (curve_of g) k)) (part_reading xs g.start g.len k lt)
          ∙ ap (λ z. unsigned_abs ((pos unit *ℤ reading xs (g.start + k)) -ℤ z)) (sym (estimate_there g k)));
      d = λ i c.
          let p = place_in g i c in
          let greatest : g.d ≡ most_below (magnitude_at (take g.len (drop g.start xs))) (length (take g.len (drop g.start xs))) = ap (λ (s : Seg). s.d) h.measured in
          let e : unsigned_abs (reading_at xs i) ≡ magnitude_at (take g.len (drop g.start xs)) p.0 =
          ap (λ z. unsigned_abs (reading_at xs z)) p.2 ∙ ap unsigned_abs (sym (part_reading xs g.start g.len p.0 p.1)) in
          let m = most_below-at (magnitude_at (take g.len (drop g.start xs))) (length (take g.len (drop g.start xs))) p.0 (omega (arith, same, p.1)) in
          omega (arith, greatest, e, m);
      f = λ i c.
          let p = place_in g i c in
          let greatest : g.f ≡ most_below (estimate_magnitude_at (curve_of g)) (length (take g.len (drop g.start xs))) = ap (λ (s : Seg). s.f) h.measured in
          let e : unsigned_abs (estimate_of g i) ≡ estimate_magnitude_at (curve_of g) p.0 =
          ap (λ z. unsigned_abs (estimate_of g z)) p.2 ∙ ap unsigned_abs (estimate_there g p.0) in
          let m = most_below-at (estimate_magnitude_at (curve_of g)) (length (take g.len (drop g.start xs))) p.0 (omega (arith, same, p.1)) in
          omega (arith, greatest, e, m);
    }

segs_say : (xs : List ℤ) (gs : List Seg) → AllByRecursion (IsTrueIn xs) gs → AllByRecursion (SegSays xs) gs
segs_say xs [] h = tt
segs_say xs (g ∷ gs) h = (seg_says xs g h.0, segs_say xs gs h.1)

measured_by : (xs : List ℤ) (gs : List Seg) → AllByRecursion (SegSays xs) gs → AllMeasured (gap xs) gs
measured_by xs [] h = tt
measured_by xs (g ∷ gs) h = (omega (arith, h.0.l), measured_by xs gs h.1)

-- ---- the segments of a series

abbrev covered : List Seg → ℤ → Bool
covered [] i = false
covered (g ∷ gs) i = covers g i || covered gs i

-- what holds where nothing covers and where a segment covers holds of the segment that is found
found_holds : (P : Seg → Type 0) (gs : List Seg) (i : ℤ) (xs : List ℤ) → AllByRecursion (SegSays xs) gs → (covered gs i ≡ false → P no_seg) → ((g : Seg) → SegSays xs g → covers g i ≡ true → P g) → P (seg_at gs i)
found_holds P [] i xs h none one = none refl
found_holds P (g ∷ gs) i xs h none one = cond_both (covers g i) g (seg_at gs i) P (λ t. one g h.0 t) (λ c. found_holds P gs i xs h.1 (λ d. none (ap (λ b. b || covered gs i) c ∙ d)) one)

past_pos : (k from : ℕ) (g : Seg) → g.start ≡ from → from ≤ k → (nat_le g.start k && nat_lt k (g.start + g.len)) ≡ false → from + g.len ≤ k
past_pos k from g e h c = grind (arith, nat_tests)

or_left_false : (a b : Bool) → (a || b) ≡ false → a ≡ false
or_left_false true b h = h
or_left_false false b h = refl

or_right_false : (a b : Bool) → (a || b) ≡ false → b ≡ false
or_right_false true b h = absurd (false≢true (sym h))
or_right_false false b h = h

-- what nothing covers lies behind the end
past_end : (gs : List Seg) (from to k : ℕ) → TouchFrom from gs to → from ≤ k → covered gs (pos k) ≡ false → to ≤ k
past_end [] from to k t h c = omega arith
past_end (g ∷ gs) from to k t h c =
    past_end gs (from + g.len) to k t.1 (past_pos k from g t.0 h (or_left_false _ _ c)) (or_right_false _ _ c)

zero_outside : (xs : List ℤ) (gs : List Seg) → TouchFrom 0 gs (length xs) → (i : ℤ) → covered gs i ≡ false → reading_at xs i ≡ pos 0
zero_outside xs gs t (pos k) c = get_or_past xs k (pos 0) (past_end gs 0 (length xs) k t (omega arith) c)
zero_outside xs gs t (negsuc k) c = refl

none_zero : (k : ℤ) → pos 0 +ℤ (pos 0 *ℤ k) +ℤ (pos 0 *ℤ (k *ℤ k)) ≡ pos 0
none_zero k = rw (zero-*ℤ k, zero-*ℤ (k *ℤ k)) refl

estimate_none : (i : ℤ) → estimate_of no_seg i ≡ pos 0
estimate_none i = none_zero (i -ℤ pos 0)

gap_zero : (i : ℤ) → unsigned_abs ((pos unit *ℤ pos 0) -ℤ estimate_of no_seg i) ≡ 0
gap_zero i = ap (λ x. unsigned_abs ((pos unit *ℤ pos 0) -ℤ x)) (estimate_none i)

pub estimate_zero : (i : ℤ) → unsigned_abs (estimate_of no_seg i) ≤ 0
estimate_zero i = let e = ap unsigned_abs (estimate_none i) in omega arith

agrees : (xs : List ℤ) (gs : List Seg) (i : ℤ) → (covered gs i ≡ false → reading_at xs i ≡ pos 0) → unsigned_abs ((pos unit *ℤ reading_at xs i) -ℤ estimate_of (seg_at gs i) i) ≡ missed (gap xs) gs i
agrees xs [] i h = ap (λ x. unsigned_abs ((pos unit *ℤ x) -ℤ estimate_of no_seg i)) (h refl) ∙ gap_zero i
agrees xs (g ∷ gs) i h = at_head (covers g i) (λ c. agrees xs gs i (λ d. h (ap (λ b. b || covered gs i) c ∙ d)))
  where
    at_head : (b : Bool) → (b ≡ false → unsigned_abs ((pos unit *ℤ reading_at xs i) -ℤ estimate_of (seg_at gs i) i) ≡ missed (gap xs) gs i)
        → unsigned_abs ((pos unit *ℤ reading_at xs i) -ℤ estimate_of (cond b g (seg_at gs i)) i) ≡ cond b (gap xs g i) (missed (gap xs) gs i)
    at_head true r = refl
    at_head false r = r refl

-- ---- the segments of a name

pub segs_hold : (X : List ℕ → List ℤ) (C : List ℕ → List Seg) (n : List ℕ) → HasTrueSegs X C n → SegsHold X C n
segs_hold X C n h i =
    let say = segs_say (X n) (C n) h.each in
    record {
      small = found_holds (λ g. unsigned_abs (reading_at (X n) i) ≤ g.d) (C n) i (X n) say (λ c. let z = zero_outside (X n) (C n) h.touch i c in rw z (omega arith)) (λ g s c. s.d i c);
      small_estimate = found_holds (λ g. unsigned_abs (estimate_of g i) ≤ g.f) (C n) i (X n) say (λ c. estimate_zero i) (λ g s c. s.f i c);
    }

pub are_measured : (X : List ℕ → List ℤ) (C : List ℕ → List Seg) (n : List ℕ) → HasTrueSegs X C n → AreMeasured X C n
are_measured X C n h = record {
  measured = measured_by (X n) (C n) (segs_say (X n) (C n) h.each);
  agree = λ i. agrees (X n) (C n) i (zero_outside (X n) (C n) h.touch i);
}
