-- What a series reads on a piece: a fact of each segment, of its name and of the position at which it is read.
use Rattle.std.specs.Prelude.{ℕ, ◌+◌, ◌≤◌, ℤ, pos, ◌+ℤ◌, ◌-ℤ◌, ◌≤ℤ◌, List}
use Rattle.semantics.specs.Term.{Term, base, constant, bare, plus, minus, times, shift}
use Rattle.segment.specs.declared.segments.Seg.{Seg}
use Rattle.segment.specs.Measure.{IsSane}
use Rattle.bounds.specs.Shape.{first_of, left_of, right_of}

-- a fact of each name that a series has, of the position at which it is read and of the segment that it reads there
abbrev pub EachRead : (List ℕ → ℤ → Seg → Type 0) → Term → List Seg → ℤ → Type 0
EachRead P (base name) gs i = P name i (first_of gs)
EachRead P (constant v a b) gs i = Unit {0}
EachRead P (bare v) gs i = Unit {0}
EachRead P (plus u v) gs i = EachRead P u (left_of u gs) i × EachRead P v (right_of u gs) i
EachRead P (minus u v) gs i = EachRead P u (left_of u gs) i × EachRead P v (right_of u gs) i
EachRead P (times u v) gs i = EachRead P u (left_of u gs) i × EachRead P v (right_of u gs) i
EachRead P (shift u k) gs i = EachRead P u gs (i -ℤ k)

-- a segment covers so many positions from one on
abbrev pub Spans : ℕ → List ℕ → ℤ → Seg → Type 0
Spans len name i g = (pos g.start ≤ℤ i) × ((i +ℤ pos len) ≤ℤ pos (g.start + g.len))

-- each segment that a series reads covers a piece, moved back by the shifts above it
abbrev pub AreCovered : Term → List Seg → ℤ → ℕ → Type 0
AreCovered t gs from len = EachRead (Spans len) t gs from

-- a segment is sane for the greatest magnitude of its name's readings, and has at most n positions
abbrev pub IsSaneRead : (List ℕ → ℕ) → ℕ → List ℕ → ℤ → Seg → Type 0
IsSaneRead D n name i g = IsSane g (D name) × (g.len ≤ n)

abbrev pub AreSane : (List ℕ → ℕ) → ℕ → Term → List Seg → ℤ → Type 0
AreSane D n t gs i = EachRead (IsSaneRead D n) t gs i
