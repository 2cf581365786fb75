-- What forms miss in all is at most what their occurrences are charged.
use Rattle.std.proofs.Common.{◌≡◌, ℕ, ◌*◌, ◌≤◌, ◌<◌, ℤ, pos, ◌+ℤ◌, ◌-ℤ◌, ◌*ℤ◌, unsigned_abs, List, get_or, ap, ◌∙◌, arith}
use Rattle.std.specs.List.{sum_by}
use Rattle.semantics.specs.Measures.{names_in}
use Rattle.semantics.specs.Readings.{reading_at}
use Rattle.semantics.specs.Sums.{sum_below}
use Rattle.semantics.specs.Term.{Term}
use Rattle.segment.specs.declared.segments.Seg.{Seg}
use Rattle.segment.specs.Measure.{unit}
use Rattle.bounds.specs.Cut.{Occurrence, occurrence_at, no_use, weight_at, greatest_weight}
use Rattle.bounds.specs.Form.{Use, form, miss_of, weighted_miss}
use Rattle.bounds.specs.Segments.{estimate_of, OfEachName}
use Rattle.bounds.proofs.OccurrenceLaws.{at_occurrence, length-uses, sum_by-places, use_at}
use Rattle.bounds.proofs.Regroup.{AllMeasured, missed, one_occurrence}
use Rattle.bounds.proofs.Sums.{sum_below-mono, sum_below-same, sum_below-swap}

-- how far a segment's estimate is from a reading, in units
abbrev pub gap : List ℤ → Seg → ℤ → ℕ
gap xs g i = unsigned_abs ((pos unit *ℤ reading_at xs i) -ℤ estimate_of g i)

-- the l of each segment of a name is what it misses, and at each position the segment that covers it misses what the name misses
pub record AreMeasured (X : List ℕ → List ℤ) (C : List ℕ → List Seg) (name : List ℕ) : Type 0 where
  pub measured : AllMeasured (gap (X name)) (C name)
  pub agree : (i : ℤ) → miss_of X C name i ≡ missed (gap (X name)) (C name) i

-- the charges of an occurrence
abbrev pub occurrence_charge : (List ℕ → List Seg) → Term → ℤ → ℕ → ℕ → ℕ
occurrence_charge C t l n o = let k = occurrence_at t l o in sum_by (λ g. g.l * greatest_weight C t l n o k.at g) (C k.name)

abbrev pub occurrence_error : (List ℕ → List Seg) → Term → ℤ → ℕ → ℕ
occurrence_error C t l n = sum_below (occurrence_charge C t l n) (names_in t)

-- over segments that are measured, what the forms' uses miss at n positions is at most what the occurrences are charged
module _ (X : List ℕ → List ℤ) (C : List ℕ → List Seg) (t : Term) (l : ℤ) (h : OfEachName (AreMeasured X C) t) where
  miss_is : (o j : ℕ) → o < names_in t → let u = get_or (form C t (l +ℤ pos j)).uses o no_use in let k = occurrence_at t l o in
      weighted_miss X C u ≡ weight_at C t l o j * missed (gap (X k.name)) (C k.name) (k.at +ℤ pos j)
  miss_is o j lt =
      ap (λ (c : Occurrence). weight_at C t l o j * miss_of X C c.name c.at) (use_at C t l o j lt)
      ∙ ap (λ m. weight_at C t l o j * m) ((at_occurrence (AreMeasured X C) t l o h lt).agree ((occurrence_at t l o).at +ℤ pos j))

  occurrence_within : (n o : ℕ) → o < names_in t → sum_below (λ j. weighted_miss X C (get_or (form C t (l +ℤ pos j)).uses o no_use)) n ≤ occurrence_charge C t l n o
  occurrence_within n o lt =
      let same : sum_below (λ j. weighted_miss X C (get_or (form C t (l +ℤ pos j)).uses o no_use)) n
      ≡ sum_below (λ j. weight_at C t l o j * missed (gap (X (occurrence_at t l o).name)) (C (occurrence_at t l o).name) ((occurrence_at t l o).at +ℤ pos j)) n =
      sum_below-same _ _ n (λ j _. miss_is o j lt) in
      omega (
        arith,
        same,
        one_occurrence n (occurrence_at t l o).at (weight_at C t l o) (gap (X (occurrence_at t l o).name)) (C (occurrence_at t l o).name) (at_occurrence (AreMeasured X C) t l o h lt).measured,
      )

  pub misses_within : (n : ℕ) → sum_below (λ j. sum_by (weighted_miss X C) (form C t (l +ℤ pos j)).uses) n ≤ occurrence_error C t l n
  misses_within n =
      let f : Use → ℕ = weighted_miss X C in
      let places : sum_below (λ j. sum_by f (form C t (l +ℤ pos j)).uses) n ≡ sum_below (λ j. sum_below (λ o. f (get_or (form C t (l +ℤ pos j)).uses o no_use)) (names_in t)) n =
      sum_below-same _ _ n (λ j _. sum_by-places f (form C t (l +ℤ pos j)).uses no_use (names_in t) (length-uses C t (l +ℤ pos j))) in
      let order = sum_below-swap (λ j o. f (get_or (form C t (l +ℤ pos j)).uses o no_use)) n (names_in t) in
      let each = sum_below-mono (λ o. sum_below (λ j. f (get_or (form C t (l +ℤ pos j)).uses o no_use)) n) (occurrence_charge C t l n) (names_in t) (λ o lt. occurrence_within n o lt) in
      omega (arith, places, order, each)
