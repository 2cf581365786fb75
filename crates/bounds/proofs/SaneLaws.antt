-- What sanity says of the segments that are read.
use Rattle.std.proofs.Common.{◌≡◌, ℕ, ◌*◌, ◌<◌, ◌≤◌, max, ℤ, pos, ◌+ℤ◌, ◌-ℤ◌, ◌*ℤ◌, unsigned_abs, List, [], ◌∷◌, true, ap, ◌∙◌, arith}
use Rattle.std.specs.List.{sum_by, AllByRecursion}
use Rattle.std.proofs.Math.Nat.{mul-le-mul}
use Rattle.std.proofs.lemmas.Bool.{cond_both}
use Rattle.std.proofs.lemmas.Int.{unsigned_abs-mul}
use Rattle.std.proofs.lemmas.List.Sums.{sum_by-cons}
use Rattle.semantics.specs.Term.{Term, base, constant, bare, plus, minus, times, shift}
use Rattle.semantics.proofs.Ring.{abs-+ℤ}
use Rattle.segment.specs.declared.segments.Seg.{Seg}
use Rattle.segment.specs.Measure.{unit, estimate_at, curve_of, IsSane}
use Rattle.bounds.specs.Segments.{covers, estimate_of, len_of, no_seg, seg_at, HasSaneSegs, IsSaneFor, OfEachName}
use Rattle.bounds.specs.Shape.{first_of, left_of, reads, right_of}
use Rattle.bounds.proofs.SegmentLaws.{estimate_there, estimate_zero, place_in}
use Rattle.bounds.proofs.ShapeLaws.{left_reads, right_reads}

-- the bounds of a segment that is sane, by the greatest magnitude of the readings
pub record KeepsBounds (most : ℕ) (g : Seg) : Type 0 where
  pub d : g.d ≤ most
  pub f : g.f ≤ 24 * unit * max 1 most
  pub l : g.l ≤ 25 * unit * max 1 most * g.len
  pub a : unsigned_abs g.a ≤ 8 * unit * max 1 most
  pub b : unsigned_abs g.b * g.len ≤ 8 * unit * max 1 most
  pub c : unsigned_abs g.c * (g.len * g.len) ≤ 8 * unit * max 1 most

pub keeps_bounds : (most : ℕ) (g : Seg) → IsSane g most → KeepsBounds most g
keeps_bounds most g h = record {
  d = h.below_root;
  f = omega (arith, h.estimates, h.below_root);
  l = let m : (25 * unit * max 1 g.d) * g.len ≤ (25 * unit * max 1 most) * g.len = mul-le-mul (omega (arith, h.below_root)) (omega arith) in omega (arith, h.misses, m);
  a = omega (arith, h.bounded.constant, h.below_root);
  b = omega (arith, h.bounded.linear, h.below_root);
  c = omega (arith, h.bounded.square, h.below_root);
}

keeps_none : (most : ℕ) → KeepsBounds most no_seg
keeps_none most = record { d = omega arith; f = omega arith; l = omega arith; a = omega arith; b = omega arith; c = omega arith }

-- ---- estimates

estimate_small : (most : ℕ) (g : Seg) (k : ℕ) → KeepsBounds most g → k < g.len → unsigned_abs (estimate_at (curve_of g) k) ≤ 24 * unit * max 1 most
estimate_small most g k h lt =
    let b : unsigned_abs g.b * k ≤ unsigned_abs g.b * g.len = mul-le-mul (omega arith) (omega arith) in
    let q : k * k ≤ g.len * g.len = mul-le-mul (omega arith) (omega arith) in
    let c : unsigned_abs g.c * (k * k) ≤ unsigned_abs g.c * (g.len * g.len) = mul-le-mul (omega arith) q in
    omega (
      arith,
      abs-+ℤ (g.a +ℤ g.b *ℤ pos k) (g.c *ℤ pos (k * k)),
      abs-+ℤ g.a (g.b *ℤ pos k),
      unsigned_abs-mul g.b (pos k),
      unsigned_abs-mul g.c (pos (k * k)),
      b,
      c,
      h.a,
      h.b,
      h.c,
    )

covered_estimate : (most : ℕ) (g : Seg) (i : ℤ) → KeepsBounds most g → covers g i ≡ true → unsigned_abs (estimate_of g i) ≤ 24 * unit * max 1 most
covered_estimate most g i h c =
    let p = place_in g i c in
    let e : unsigned_abs (estimate_of g i) ≡ unsigned_abs (estimate_at (curve_of g) p.0) = ap (λ z. unsigned_abs (estimate_of g z)) p.2 ∙ ap unsigned_abs (estimate_there g p.0) in
    omega (arith, e, estimate_small most g p.0 h p.1)

-- the estimate of the segment that is read is small
pub found_estimate : (most : ℕ) (gs : List Seg) (i : ℤ) → AllByRecursion (IsSaneFor most) gs → unsigned_abs (estimate_of (seg_at gs i) i) ≤ 24 * unit * max 1 most
found_estimate most [] i h = omega (arith, estimate_zero i)
found_estimate most (g ∷ gs) i h =
    cond_both (covers g i) g (seg_at gs i) (λ g. unsigned_abs (estimate_of g i) ≤ 24 * unit * max 1 most)
    (λ c. covered_estimate most g i (keeps_bounds most g h.0) c) (λ _. found_estimate most gs i h.1)

-- ---- the segments that a series reads

-- they keep the bounds of their names, and are no longer than n
abbrev pub AreKept : (List ℕ → ℕ) → ℕ → Term → List Seg → Type 0
AreKept D n (base m) gs = KeepsBounds (D m) (first_of gs) × ((first_of gs).len ≤ n)
AreKept D n (constant v a b) gs = Unit {0}
AreKept D n (bare v) gs = Unit {0}
AreKept D n (plus u v) gs = AreKept D n u (left_of u gs) × AreKept D n v (right_of u gs)
AreKept D n (minus u v) gs = AreKept D n u (left_of u gs) × AreKept D n v (right_of u gs)
AreKept D n (times u v) gs = AreKept D n u (left_of u gs) × AreKept D n v (right_of u gs)
AreKept D n (shift u k) gs = AreKept D n u gs

found_kept : (most n : ℕ) (gs : List Seg) (i : ℤ) → AllByRecursion (IsSaneFor most) gs → sum_by len_of gs ≤ n → KeepsBounds most (seg_at gs i) × ((seg_at gs i).len ≤ n)
found_kept most n [] i h few = (keeps_none most, omega arith)
found_kept most n (g ∷ gs) i h few =
    let e = sum_by-cons len_of g gs in
    cond_both (covers g i) g (seg_at gs i) (λ g. KeepsBounds most g × (g.len ≤ n))
    (λ _. (keeps_bounds most g h.0, omega (arith, e))) (λ _. found_kept most n gs i h.1 (omega (arith, e)))

pub reads_kept : (D : List ℕ → ℕ) (n : ℕ) (C : List ℕ → List Seg) (t : Term) (i : ℤ) → OfEachName (HasSaneSegs D n C) t → AreKept D n t (reads C t i)
reads_kept D n C (base m) i h = found_kept (D m) n (C m) i h.each h.few
reads_kept D n C (constant v a b) i h = tt
reads_kept D n C (bare v) i h = tt
reads_kept D n C (plus u v) i h = rw (left_reads C u v i, right_reads C u v i) (reads_kept D n C u i h.0, reads_kept D n C v i h.1)
reads_kept D n C (minus u v) i h = rw (left_reads C u v i, right_reads C u v i) (reads_kept D n C u i h.0, reads_kept D n C v i h.1)
reads_kept D n C (times u v) i h = rw (left_reads C u v i, right_reads C u v i) (reads_kept D n C u i h.0, reads_kept D n C v i h.1)
reads_kept D n C (shift u k) i h = reads_kept D n C u (i -ℤ k) h
