-- Rows that stand at the places of their first blocks.
use Rattle.std.specs.Prelude.{◌≡◌, ℕ, zero, suc, ◌+◌, ◌-◌, ◌*◌, ◌/◌, ◌^◌, ◌<◌, ◌≤◌, if◌then◌else◌, List, [], ◌∷◌, ◌++◌, length, map, take, drop, ◌==◌, ◌⊎◌, Option, None, Some, get_or, slice_index, ℤ}
use Rattle.std.specs.Option.{option_map}
use Rattle.descent.specs.declared.tables.Row.{Row}
use Rattle.descent.specs.declared.tables.Table.TheInside.{Inside}
use Rattle.descent.specs.Rows.{Track, with_rows}
use Rattle.segment.specs.declared.segments.Seg.{Seg}
use Rattle.segment.specs.Measure.{IsSane}
use Rattle.descent.specs.Choice.{Has}
use Rattle.descent.specs.Held.{Held, row_in, is_closed_at}
use Rattle.descent.specs.Sound.{IsSoundTrack}

-- how many blocks a range has
abbrev pub blocks : ℕ → ℕ
blocks len = (len + 15) / 16

-- the rows, in order
abbrev pub present : {I : Type 0} → List (Option (Row I)) → List (Row I)
present [] = []
present (None ∷ xs) = present xs
present (Some r ∷ xs) = r ∷ present xs

-- from a block on, each row stands at its first block and its other blocks are empty; the first `left` blocks belong
-- to a row before
abbrev pub IsLaid : {I : Type 0} → ℕ → ℕ → List (Option (Row I)) → Type 0
IsLaid at zero [] = Unit {0}
IsLaid at (suc left) [] = ⊥
IsLaid at zero (None ∷ xs) = ⊥
IsLaid at (suc left) (None ∷ xs) = IsLaid (at + 1) left xs
IsLaid at zero (Some r ∷ xs) =
    (r.seg.start ≡ 16 * at) × (0 < r.seg.len) × IsLaid (at + 1) (blocks r.seg.len - 1) xs
IsLaid at (suc left) (Some r ∷ xs) = ⊥

-- a row with its readings, where it is opened
abbrev pub held : {I : Type 0} → Row I → Held I
held r = record { id = r.id; row = record { seg = r.seg; readings = option_map (take r.seg.len) r.readings } }

abbrev pub view_of : {I : Type 0} → Inside I → Track (Held I)
view_of t = record {
  series = t.series;
  name = t.name;
  len = t.len;
  greatest = t.greatest;
  rows = map held (present t.places);
}

-- the row that covers a block, by the place where it stands
pub record IsOwnedBy {I : Type 0} (places : List (Option (Row I))) (block owner : ℕ) : Type 0 where
  pub row : Row I
  pub there : get_or places owner None ≡ Some row
  pub from : owner ≤ block
  pub until : block < owner + blocks row.seg.len

pub record AreOwned {I : Type 0} (places : List (Option (Row I))) (owners : List ℕ) : Type 0 where
  pub count : length owners ≡ length places
  pub each : (block : ℕ) → block < length places → IsOwnedBy places block (slice_index owners block)

pub record IsTable {I : Type 0} (t : Inside I) : Type 0 where
  pub laid : IsLaid 0 0 t.places
  pub few : length t.places ≤ 2 ^ 16
  pub owned : AreOwned t.places t.owners.items
  pub sound : IsSoundTrack (with_rows row_in (view_of t))

-- the rows, where the closed one from a position gives way to others
abbrev pub replaced : {I : Type 0} → ℕ → List (Held I) → List (Held I) → List (Held I)
replaced start new [] = []
replaced start new (h ∷ hs) = if is_closed_at start h then new ++ hs else h ∷ replaced start new hs

-- the rows, where those that a row gave way to give way to it again
abbrev pub restored : {I : Type 0} → Held I → List (Held I) → List (Held I)
restored old [] = []
restored old (h ∷ hs) =
    if h.row.seg.start == old.row.seg.start
    then old ∷ drop (if h.row.seg.len == old.row.seg.len then 0 else 1) hs
    else h ∷ restored old hs

-- the one row from a position
pub record IsRowFrom {I : Type 0} (rows : List (Held I)) (start : ℕ) (r : Row I) : Type 0 where
  pub there : Has (held r) rows
  pub starts : r.seg.start ≡ start
  pub some : 0 < r.seg.len
  pub alone : (h : Held I) → Has h rows → h.row.seg.start ≡ start → h ≡ held r

-- a row opened: it is the closed one from its position, with readings
pub record IsOpened {I : Type 0} (rows : List (Held I)) (row : Row I) : Type 0 where
  pub before : Row I
  pub there : Has (held before) rows
  pub closed : before.readings ≡ None
  pub same : row.seg ≡ before.seg

-- two rows that share the positions of a closed one, at a border of blocks
pub record AreHalves {I : Type 0} (rows : List (Held I)) (left right : Seg) : Type 0 where
  pub before : Row I
  pub there : Has (held before) rows
  pub closed : before.readings ≡ None
  pub starts : left.start ≡ before.seg.start
  pub half : ℕ
  pub some : 0 < half
  pub full : left.len ≡ 16 * half
  pub next : right.start ≡ left.start + left.len
  pub rest : 0 < right.len
  pub whole : left.len + right.len ≡ before.seg.len

-- two closed rows that a closed one gave way to
pub record AreHalvesOf {I : Type 0} (old : Row I) (rows : List (Held I)) : Type 0 where
  pub left : Held I
  pub right : Held I
  pub left_there : Has left rows
  pub right_there : Has right rows
  pub left_closed : left.row.readings ≡ None
  pub right_closed : right.row.readings ≡ None
  pub starts : left.row.seg.start ≡ old.seg.start
  pub half : ℕ
  pub some : 0 < half
  pub full : left.row.seg.len ≡ 16 * half
  pub next : right.row.seg.start ≡ left.row.seg.start + left.row.seg.len
  pub rest : 0 < right.row.seg.len
  pub whole : left.row.seg.len + right.row.seg.len ≡ old.seg.len

-- the row that a closed one gave way to: itself, opened
pub record IsOpeningOf {I : Type 0} (old : Row I) (rows : List (Held I)) : Type 0 where
  pub new : Held I
  pub there : Has new rows
  pub same : new.row.seg ≡ old.seg
  pub readings : List ℤ
  pub opened : new.row.readings ≡ Some readings

-- a closed row that gave way to what stands in its place
pub record CanGoBack {I : Type 0} (old : Row I) (rows : List (Held I)) : Type 0 where
  pub closed : old.readings ≡ None
  pub by : IsOpeningOf old rows ⊎ AreHalvesOf old rows

-- ---- roots

-- a root over all readings of a series
pub record IsWholeRoot {I : Type 0} (len : ℕ) (r : I × Seg) : Type 0 where
  pub sane : IsSane r.1 r.1.d
  pub some : 0 < len
  pub starts : r.1.start ≡ 0
  pub spans : r.1.len ≡ len

-- the root of a series of so many readings, none where it has none
abbrev pub IsRootOf : {I : Type 0} → ℕ → Option (I × Seg) → Type 0
IsRootOf len None = len ≡ 0
IsRootOf len (Some r) = IsWholeRoot len r

abbrev pub root_table : {I : Type 0} → ℕ → List ℕ → ℕ → Option (I × Seg) → Track (Held I)
root_table series name len None = record { series = series; name = name; len = len; greatest = 0; rows = [] }
root_table series name len (Some r) =
    record {
      series = series;
      name = name;
      len = len;
      greatest = r.1.d;
      rows = record {
        id = r.0;
        row = record { seg = r.1; readings = None };
      } ∷ [];
    }
