-- Cuts of which one row gave way to those below it.
use Rattle.std.specs.Prelude.{◌≡◌, ℕ, ◌+◌, ◌*◌, ◌^◌, ◌<◌, ◌≤◌, Some, None, ℤ, unsigned_abs, List, [], ◌∷◌, ◌++◌, length}
use Rattle.std.specs.List.{All}
use Rattle.semantics.specs.Admission.{series_names, SumTerm}
use Rattle.semantics.specs.Admitted.{IsKnown}
use Rattle.descent.specs.Held.{head_of}
use Rattle.descent.specs.Known.{facts_in}
use Rattle.descent.specs.Readers.{track_at}
use Rattle.descent.specs.Rows.{Row, Cut, entries}
use Rattle.descent.specs.Sound.{IsSound}
use Rattle.descent.specs.Sums.{count_of, first_of}
use Rattle.error_prop.specs.Limits.{IsSeriesWithinLimits}
use Rattle.error_prop.specs.QueryOver.{range_over}
use Rattle.error_prop.specs.Sums.{AdmitsSum}

-- a leaf's row, and the same one opened
pub record IsOpening (old new : Row) : Type 0 where
  pub seg : new.seg ≡ old.seg
  pub readings : List ℤ
  pub opened : new.readings ≡ Some readings

-- two closed rows that share the positions of one, at a border of blocks
pub record AreHalvesOfRow (old left right : Row) : Type 0 where
  pub left_closed : left.readings ≡ None
  pub right_closed : right.readings ≡ None
  pub starts : left.seg.start ≡ old.seg.start
  pub half : ℕ
  pub some : 0 < half
  pub full : left.seg.len ≡ 16 * half
  pub next : right.seg.start ≡ left.seg.start + left.seg.len
  pub rest : 0 < right.seg.len
  pub whole : left.seg.len + right.seg.len ≡ old.seg.len

-- what a row gave way to
abbrev pub GaveWay : Row → List Row → Type 0
GaveWay old [] = ⊥
GaveWay old (new ∷ []) = IsOpening old new
GaveWay old (left ∷ right ∷ []) = AreHalvesOfRow old left right
GaveWay old (a ∷ b ∷ c ∷ rows) = ⊥

-- a closed row of the k-th track gave way, and all else is as it was
pub record HasChanged (k : ℕ) (old : Row) (before now : Cut) : Type 0 where
  pub within : k < length now
  pub count : length before ≡ length now
  pub others : (i : ℕ) → (i ≡ k → ⊥) → track_at now i ≡ track_at before i
  pub head : head_of (track_at now k) ≡ head_of (track_at before k)
  pub closed : old.readings ≡ None
  pub front : List Row
  pub new : List Row
  pub back : List Row
  pub was : (track_at before k).rows ≡ front ++ old ∷ back
  pub is : (track_at now k).rows ≡ front ++ new ++ back
  pub gave : GaveWay old new

-- a sum of which something can be kept: it is within the limits, its names are those of tracks, it is admitted over the
-- cut's segments on its range, or on its domain, which may be empty, and that is not too far away
pub record CanKeep (cut : Cut) (s : SumTerm) : Type 0 where
  pub sound : IsSound cut
  pub limits : IsSeriesWithinLimits s.series
  pub admitted : AdmitsSum (entries cut) s.series (range_over (entries cut) s.series s.range).left
      (range_over (entries cut) s.series s.range).right
  pub known : All (IsKnown (facts_in cut)) (series_names s.series)
  pub near : unsigned_abs (first_of cut s) ≤ 2 ^ 46
  pub end : unsigned_abs (range_over (entries cut) s.series s.range).right ≤ 2 ^ 46
  pub room : count_of cut s ≤ 2 ^ 41
