-- What holds of the rows of a cut, whatever readings its nodes are true of.
use Rattle.std.specs.Prelude.{◌≡◌, ℕ, ◌^◌, ◌<◌, ◌≤◌, ℤ, unsigned_abs, Some, List, length, map}
use Rattle.std.specs.List.{All}
use Rattle.semantics.specs.Admitted.{IsAdmitted}
use Rattle.semantics.specs.Readings.{reading}
use Rattle.semantics.specs.Term.{QueryTerm}
use Rattle.segment.specs.declared.segments.Seg.{Seg}
use Rattle.segment.specs.Measure.{IsSane}
use Rattle.bounds.specs.Segments.{TouchFrom}
use Rattle.error_prop.specs.Entries.{IsFrame}
use Rattle.error_prop.specs.Places.{IsShort}
use Rattle.error_prop.specs.QueryOver.{AdmitsQuery}
use Rattle.descent.specs.Rows.{Row, Track, Cut, entries}
use Rattle.descent.specs.Known.{facts_in, AreApart}

-- so many readings, those of a leaf, and none of them greater
pub record AreSmall (d n : ℕ) (xs : List ℤ) : Type 0 where
  pub few : n ≤ 16
  pub long : length xs ≡ n
  pub small : (i : ℕ) → unsigned_abs (reading xs i) ≤ d

-- a row of a series whose greatest reading is d: its segment is sane, and its readings, where it is opened, are no
-- greater
pub record IsSoundRow (d : ℕ) (row : Row) : Type 0 where
  pub some : 0 < row.seg.len
  pub sane : IsSane row.seg d
  pub read : (xs : List ℤ) → row.readings ≡ Some xs → AreSmall d row.seg.len xs

abbrev pub seg_of : Row → Seg
seg_of row = row.seg

-- the rows lie one behind the other over the whole series
pub record IsSoundTrack (track : Track Row) : Type 0 where
  pub few : track.len ≤ 2 ^ 20
  pub rows : All (IsSoundRow track.greatest) track.rows
  pub touch : TouchFrom 0 (map seg_of track.rows) track.len

abbrev pub name_of : {R : Type 0} → Track R → List ℕ
name_of track = track.name

pub record IsSound (cut : Cut) : Type 0 where
  pub few : length cut ≤ 16
  pub tracks : All IsSoundTrack cut
  pub apart : AreApart (map name_of cut)

-- what a query needs of a frame
pub record IsFrameFor (cut : Cut) (q : QueryTerm) : Type 0 where
  pub frame : IsFrame (entries cut)
  pub short : IsShort (entries cut)
  pub admitted : AdmitsQuery (entries cut) q

-- the segments of a sound cut make a frame, over which each query is admitted that is admitted for what the cut knows
abbrev pub CutsAreFrames : Type 0
CutsAreFrames = (cut : Cut) (q : QueryTerm) → IsSound cut → IsAdmitted (facts_in cut) q → IsFrameFor cut q
