-- The fields of a cut, and what contracts see of them.
use Rattle.std.specs.Prelude.{ℕ, zero, suc, ◌≤◌, length, map, List, [], ◌∷◌, Option, Some, None}
use Rattle.expr.specs.Terms.{query_term_of}
use Rattle.semantics.specs.Admission.{SumTerm, sums_of}
use Rattle.descent.specs.declared.cuts.Change.{Change}
use Rattle.descent.specs.declared.cuts.State.{State}
use Rattle.descent.specs.declared.cuts.State.TheVariants.{Old, Noted, Current}
use Rattle.descent.specs.declared.cuts.Cut.TheInside.{Inside}
use Rattle.descent.specs.declared.kept.KeptSum.{KeptSum}
use Rattle.descent.specs.declared.tables.Row.{Row}
use Rattle.descent.specs.Rows.{Track, with_rows}
use Rattle.descent.specs.Held.{Held, CutView, row_in, shown, AreRising}
use Rattle.descent.specs.KeptSums.{AreKeptSums}
use Rattle.descent.specs.Known.{AreApart}
use Rattle.descent.specs.Laid.{held, restored, CanGoBack}
use Rattle.descent.specs.Sound.{IsSoundTrack, name_of}
use Rattle.descent.specs.Spelled.{spelled}

-- the tracks, where the rows of the k-th are as before
abbrev pub restored_at : {I : Type 0} → ℕ → Held I → List (Track (Held I)) → List (Track (Held I))
restored_at k old [] = []
restored_at zero old (track ∷ tracks) = record track { rows = restored old track.rows } ∷ tracks
restored_at (suc k) old (track ∷ tracks) = track ∷ restored_at k old tracks

abbrev pub before_of : {I : Type 0} → List (Track (Held I)) → Option (Change I) → Option (List (Track (Held I)))
before_of tracks None = None
before_of tracks (Some change) = Some (restored_at change.table (held change.row) tracks)

abbrev pub view_of : {I : Type 0} → Inside I → CutView I
view_of c = record {
  query = spelled (query_term_of c.query);
  tracks = c.tables.items;
  before = before_of c.tables.items c.last;
}

abbrev pub CanGoBackAt : {I : Type 0} → ℕ → Row I → List (Track (Held I)) → Type 0
CanGoBackAt k old [] = ⊥
CanGoBackAt zero old (track ∷ tracks) =
    CanGoBack old track.rows × IsSoundTrack (with_rows row_in (record track { rows = restored (held old) track.rows }))
CanGoBackAt (suc k) old (track ∷ tracks) = CanGoBackAt k old tracks

abbrev pub CanBeTakenBack : {I : Type 0} → List (Track (Held I)) → Option (Change I) → Type 0
CanBeTakenBack tracks None = Unit {0}
CanBeTakenBack tracks (Some change) = CanGoBackAt change.table change.row tracks

-- ---- of which rows the sums are kept

-- the sums are kept of the rows as they are, or as they were before the last step; where they are old nothing is known
abbrev pub IsKeptAs : {I : Type 0} → State → List (Track (Held I)) → Option (Change I) → List SumTerm → List KeptSum
    → Type 0
IsKeptAs Old tracks last ss ks = Unit {0}
IsKeptAs Noted tracks None ss ks = ⊥
IsKeptAs Noted tracks (Some change) ss ks =
    AreKeptSums (shown (restored_at change.table (held change.row) tracks)) ss ks
IsKeptAs Current tracks last ss ks = AreKeptSums (shown tracks) ss ks

pub record IsCut {I : Type 0} (c : Inside I) : Type 0 where
  pub few : length c.tables.items ≤ 16
  pub rising : AreRising 0 c.tables.items
  pub apart : AreApart (map name_of c.tables.items)
  pub back : CanBeTakenBack c.tables.items c.last
  pub kept : IsKeptAs c.state c.tables.items c.last (sums_of (query_term_of c.query)) c.kept.items
