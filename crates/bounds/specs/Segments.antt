-- The segments that stand for the readings of a series.
use Rattle.std.specs.Prelude.{◌≡◌, ℕ, ◌+◌, ◌≤◌, ◌&&◌, nat_le, nat_lt, if◌then◌else◌, Bool, false, ℤ, pos, negsuc, ◌+ℤ◌, ◌-ℤ◌, ◌*ℤ◌, List, [], ◌∷◌, length, take, drop, ◌≢◌, ◌<◌, true, slice_index_or}
use Rattle.std.specs.List.{sum_by, AllByRecursion}
use Rattle.semantics.specs.Term.{Term, base, constant, bare, plus, minus, times, shift}
use Rattle.segment.specs.declared.segments.Seg.{Seg}
use Rattle.segment.specs.Measure.{IsTrueOf, IsSane}

-- ---- one segment

-- a segment covers a position
abbrev pub covers : Seg → ℤ → Bool
covers g (pos n) = nat_le g.start n && nat_lt n (g.start + g.len)
covers g (negsuc n) = false

-- what a segment estimates at a position
abbrev pub estimate_of : Seg → ℤ → ℤ
estimate_of g i = let k = i -ℤ pos g.start in g.a +ℤ (g.b *ℤ k) +ℤ (g.c *ℤ (k *ℤ k))

abbrev pub no_seg : Seg
no_seg = record { start = 0; len = 0; a = pos 0; b = pos 0; c = pos 0; l = 0; d = 0; f = 0 }

-- ---- the segments of a series

-- the first segment that covers a position
abbrev pub seg_at : List Seg → ℤ → Seg
seg_at [] i = no_seg
seg_at (g ∷ gs) i = if covers g i then g else seg_at gs i

-- the segments lie one behind the other, from a place to another
abbrev pub TouchFrom : ℕ → List Seg → ℕ → Type 0
TouchFrom from [] to = from ≡ to
TouchFrom from (g ∷ gs) to = (g.start ≡ from) × TouchFrom (from + g.len) gs to

abbrev pub seg_in : List Seg → ℕ → Seg
seg_in gs k = slice_index_or gs k no_seg

-- the k-th segment, and no other one, covers a position, and is found there
pub record IsFoundAt (gs : List Seg) (k : ℕ) (i : ℤ) : Type 0 where
  pub found : seg_at gs i ≡ seg_in gs k
  pub alone : (j : ℕ) → j < length gs → j ≢ k → covers (seg_in gs j) i ≡ false

-- so is every segment at the positions that it covers, of those that lie one behind the other
abbrev pub SegsAreFound : Type 0
SegsAreFound = (gs : List Seg) (from to k : ℕ) (i : ℤ) → TouchFrom from gs to → k < length gs
    → covers (seg_in gs k) i ≡ true → IsFoundAt gs k i

-- a segment is true of those readings that it covers
abbrev pub IsTrueIn : List ℤ → Seg → Type 0
IsTrueIn xs g = IsTrueOf (take g.len (drop g.start xs)) g

-- true segments that lie one behind the other over all readings
pub record AreTrueOf (xs : List ℤ) (gs : List Seg) : Type 0 where
  pub each : AllByRecursion (IsTrueIn xs) gs
  pub touch : TouchFrom 0 gs (length xs)

abbrev pub IsSaneFor : ℕ → Seg → Type 0
IsSaneFor d g = IsSane g d

abbrev pub len_of : Seg → ℕ
len_of g = g.len

-- segments that are sane for a greatest magnitude of the readings, and have at most n positions together
pub record AreSaneFor (d n : ℕ) (gs : List Seg) : Type 0 where
  pub each : AllByRecursion (IsSaneFor d) gs
  pub few : sum_by len_of gs ≤ n

-- ---- the names of a series

-- a fact of each name of a series
abbrev pub OfEachName : (List ℕ → Type 0) → Term → Type 0
OfEachName P (base name) = P name
OfEachName P (constant v a b) = Unit {0}
OfEachName P (bare v) = Unit {0}
OfEachName P (plus u v) = OfEachName P u × OfEachName P v
OfEachName P (minus u v) = OfEachName P u × OfEachName P v
OfEachName P (times u v) = OfEachName P u × OfEachName P v
OfEachName P (shift u k) = OfEachName P u

-- the segments of a name are true of its readings
abbrev pub HasTrueSegs : (List ℕ → List ℤ) → (List ℕ → List Seg) → List ℕ → Type 0
HasTrueSegs X C name = AreTrueOf (X name) (C name)

-- the segments of a name are sane for its greatest reading, and have at most n positions
abbrev pub HasSaneSegs : (List ℕ → ℕ) → ℕ → (List ℕ → List Seg) → List ℕ → Type 0
HasSaneSegs D n C name = AreSaneFor (D name) n (C name)
