-- A cut: segments for each name; what they charge for a sum, and the interval of the sum.
use Rattle.std.specs.Prelude.{◌≡◌, ℕ, ◌*◌, ◌^◌, if◌then◌else◌, ℤ, pos, ◌+ℤ◌, ◌-ℤ◌, ◌≤ℤ◌, List, [], ◌∷◌, ◌++◌, false, slice_index_or}
use Rattle.std.specs.List.{sum_by}
use Rattle.semantics.specs.Measures.{rank_of, names_in}
use Rattle.semantics.specs.Names.{same_name}
use Rattle.semantics.specs.Quotients.{ceil_of, floor_of}
use Rattle.semantics.specs.Sums.{sum_below, most_below, total_below}
use Rattle.semantics.specs.Term.{Term, base, constant, bare, plus, minus, times, shift}
use Rattle.semantics.specs.Value.{value_from}
use Rattle.segment.specs.declared.segments.Seg.{Seg}
use Rattle.segment.specs.Measure.{unit}
use Rattle.bounds.specs.Form.{Form, Use, form}
use Rattle.bounds.specs.Segments.{covers, OfEachName, HasTrueSegs}

-- a name and its segments
pub record Entry : Type 0 where
  pub name : List ℕ
  pub segs : List Seg

-- the segments of a name, none where it has no entry
abbrev pub segs_of : List Entry → List ℕ → List Seg
segs_of [] name = []
segs_of (e ∷ es) name = if same_name e.name name then e.segs else segs_of es name

-- no entry has this name
abbrev pub IsNew : List ℕ → List Entry → Type 0
IsNew name [] = Unit {0}
IsNew name (e ∷ es) = (same_name e.name name ≡ false) × IsNew name es

-- no two entries have the same name
abbrev pub AreDistinct : List Entry → Type 0
AreDistinct [] = Unit {0}
AreDistinct (e ∷ es) = IsNew e.name es × AreDistinct es

-- ---- occurrences

-- a name, and the position at which it is read
pub record Occurrence : Type 0 where
  pub name : List ℕ
  pub at : ℤ

-- what a series reads at a position, from left to right
abbrev pub occurrences : Term → ℤ → List Occurrence
occurrences (base name) i = record { name = name; at = i } ∷ []
occurrences (constant v a b) i = []
occurrences (bare v) i = []
occurrences (plus u v) i = occurrences u i ++ occurrences v i
occurrences (minus u v) i = occurrences u i ++ occurrences v i
occurrences (times u v) i = occurrences u i ++ occurrences v i
occurrences (shift u k) i = occurrences u (i -ℤ k)

abbrev pub no_occurrence : Occurrence
no_occurrence = record { name = []; at = pos 0 }

abbrev pub occurrence_at : Term → ℤ → ℕ → Occurrence
occurrence_at t i o = slice_index_or (occurrences t i) o no_occurrence

abbrev pub no_use : Use
no_use = record { name = []; at = pos 0; weight = 0 }

-- the weight of the o-th occurrence
abbrev pub weight_of : Form → ℕ → ℕ
weight_of m o = (slice_index_or m.uses o no_use).weight

-- ---- the weight of an occurrence in a segment, over n positions from l on

abbrev pub weight_at : (List ℕ → List Seg) → Term → ℤ → ℕ → ℕ → ℕ
weight_at C t l o j = weight_of (form C t (l +ℤ pos j)) o

-- the weight at the j-th position where it reads the segment, 0 where it does not; `at` is where it reads at the first
-- one
abbrev pub weight_in : (ℕ → ℕ) → ℤ → Seg → ℕ → ℕ
weight_in w at g j = if covers g (at +ℤ pos j) then w j else 0

abbrev pub most_weight : (ℕ → ℕ) → ℕ → ℤ → Seg → ℕ
most_weight w n at g = most_below (weight_in w at g) n

-- the greatest weight with which an occurrence reads a segment
abbrev pub greatest_weight : (List ℕ → List Seg) → Term → ℤ → ℕ → ℕ → ℤ → Seg → ℕ
greatest_weight C t l n o at g = most_weight (weight_at C t l o) n at g

-- ---- charges, by the weight of each occurrence in each segment

abbrev pub charge_part : (ℕ → ℤ → Seg → ℕ) → Term → ℤ → List ℕ → Seg → ℕ → ℕ
charge_part weight t l name g o =
    if same_name name (occurrence_at t l o).name then g.l * weight o (occurrence_at t l o).at g else 0

-- the charge of a segment of a name: its l times the weights of the occurrences that read it
abbrev pub charge_by : (ℕ → ℤ → Seg → ℕ) → Term → ℤ → List ℕ → Seg → ℕ
charge_by weight t l name g = sum_below (charge_part weight t l name g) (names_in t)

abbrev pub entry_error : (ℕ → ℤ → Seg → ℕ) → Term → ℤ → Entry → ℕ
entry_error weight t l e = sum_by (charge_by weight t l e.name) e.segs

-- the sum of all charges
abbrev pub error_by : (ℕ → ℤ → Seg → ℕ) → List Entry → Term → ℤ → ℕ
error_by weight es t l = sum_by (entry_error weight t l) es

-- ---- the interval of a sum over n positions from l on

abbrev pub estimate_from : (List ℕ → List Seg) → Term → ℤ → ℕ → ℤ
estimate_from C t l j = (form C t (l +ℤ pos j)).estimate

abbrev pub sum_estimate : List Entry → Term → ℤ → ℕ → ℤ
sum_estimate es t l n = total_below (estimate_from (segs_of es) t l) n

abbrev pub sum_error : List Entry → Term → ℤ → ℕ → ℕ
sum_error es t l n = error_by (greatest_weight (segs_of es) t l n) es t l

-- the ends of the whole numbers that are, in units, no further from an estimate than an error
abbrev pub low_end : ℤ → ℕ → ℕ → ℤ
low_end estimate error rank = ceil_of (estimate -ℤ pos error) (unit ^ rank)

abbrev pub high_end : ℤ → ℕ → ℕ → ℤ
high_end estimate error rank = floor_of (estimate +ℤ pos error) (unit ^ rank)

-- a number is, in units, no further from an estimate than an error
pub record IsAround (estimate : ℤ) (error rank : ℕ) (v : ℤ) : Type 0 where
  pub low : low_end estimate error rank ≤ℤ v
  pub high : v ≤ℤ high_end estimate error rank

-- a rule for the weights: over true segments the interval of every sum contains the plain sum
abbrev pub ContainsSums : ((List ℕ → List Seg) → Term → ℤ → ℕ → ℕ → ℤ → Seg → ℕ) → Type 0
ContainsSums rule = (X : List ℕ → List ℤ) (es : List Entry) (t : Term) (l : ℤ) (n : ℕ)
    → OfEachName (HasTrueSegs X (segs_of es)) t
    → IsAround (sum_estimate es t l n) (error_by (rule (segs_of es) t l n) es t l) (rank_of t)
    (total_below (value_from X t l) n)

-- so is that of the greatest weights
abbrev pub SumsAreWithin : Type 0
SumsAreWithin = ContainsSums greatest_weight
