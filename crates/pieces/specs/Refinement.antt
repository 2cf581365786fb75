-- The pieces of a range, over spans and the occurrences that read them.
use Rattle.std.specs.Prelude.{◌≡◌, ◌≢◌, ℕ, ◌≤◌, ◌<◌, ◌+◌, ℤ, pos, ◌+ℤ◌, ◌-ℤ◌, ◌≤ℤ◌, ◌<ℤ◌, List, [], ◌∷◌, length, slice_index, slice_index_or}
use Rattle.semantics.specs.Most.{most_readings}
use Rattle.pieces.specs.declared.spans.Span.{Span}
use Rattle.pieces.specs.declared.spans.Occ.{Occ}
use Rattle.pieces.specs.View.{PieceView}

-- ---- by place, with something where there is none

abbrev pub no_span : Span
no_span = record { start = 0; len = 0 }

abbrev pub span_at : List Span → ℕ → Span
span_at spans s = slice_index_or spans s no_span

abbrev pub no_occ : Occ
no_occ = record { from = 0; to = 0; shift = pos 0 }

abbrev pub occ_at : List Occ → ℕ → Occ
occ_at occs o = slice_index_or occs o no_occ

abbrev pub no_piece : PieceView
no_piece = record { start = pos 0; len = 0; segs = [] }

abbrev pub piece_at : List PieceView → ℕ → PieceView
piece_at pieces k = slice_index_or pieces k no_piece

-- ---- what is read

-- the place behind a span
abbrev pub end_of : Span → ℕ
end_of span = span.start + span.len

abbrev pub first_of : Occ → ℕ
first_of occ = occ.from

-- the segments of an occurrence are spans that touch one another, and end early enough
pub record IsWithinSpans (spans : List Span) (occ : Occ) : Type 0 where
  pub ordered : occ.from ≤ occ.to
  pub within : occ.to ≤ length spans
  pub touch : (s : ℕ) → occ.from ≤ s → s + 1 < occ.to
      → end_of (span_at spans s) ≡ (span_at spans (s + 1)).start
  pub small : (s : ℕ) → occ.from ≤ s → s < occ.to → end_of (span_at spans s) ≤ most_readings

-- so are those of all occurrences
abbrev pub AllWithin : List Span → List Occ → Type 0
AllWithin spans occs = (o : ℕ) → o < length occs → IsWithinSpans spans (occ_at occs o)

-- the occurrence reads this segment at a position: one of its spans has the position less the shift
pub record IsReadAt (spans : List Span) (occ : Occ) (i : ℤ) (s : ℕ) : Type 0 where
  pub from : occ.from ≤ s
  pub to : s < occ.to
  pub start : pos (span_at spans s).start ≤ℤ (i -ℤ occ.shift)
  pub behind : (i -ℤ occ.shift) <ℤ pos (end_of (span_at spans s))

-- each occurrence reads some segment at a position
abbrev pub AllRead : List Span → List Occ → ℤ → Type 0
AllRead spans occs i = (o : ℕ) → o < length occs → (s : ℕ) × IsReadAt spans (occ_at occs o) i s

-- these are the segments that the occurrences read at a position
pub record AreReadAt (spans : List Span) (occs : List Occ) (i : ℤ) (segs : List ℕ) : Type 0 where
  pub count : length segs ≡ length occs
  pub each : (o : ℕ) → o < length occs → IsReadAt spans (occ_at occs o) i (slice_index segs o)

-- ---- pieces

-- pieces of at least one position each follow one another from a position to another
abbrev pub RunFrom : ℤ → List PieceView → ℤ → Type 0
RunFrom from [] to = from ≡ to
RunFrom from (p ∷ pieces) to = (p.start ≡ from) × (1 ≤ p.len) × RunFrom (from +ℤ pos p.len) pieces to

-- a position lies in a piece
abbrev pub IsIn : PieceView → ℤ → Type 0
IsIn p i = (p.start ≤ℤ i) × (i <ℤ (p.start +ℤ pos p.len))

-- a position lies in exactly one piece
pub record IsInOne (pieces : List PieceView) (i : ℤ) : Type 0 where
  pub place : ℕ
  pub below : place < length pieces
  pub inside : IsIn (piece_at pieces place) i
  pub alone : (k : ℕ) → k < length pieces → IsIn (piece_at pieces k) i → k ≡ place

-- the pieces of a range: each position of it lies in exactly one, at each position of a piece the occurrences read the
-- segments of the piece, and neighbours differ in some segment
pub record IsRefinement (spans : List Span) (occs : List Occ) (l r : ℤ) (pieces : List PieceView) : Type 0 where
  pub runs : RunFrom l pieces r
  pub reads : (k : ℕ) → k < length pieces → (j : ℕ) → j < (piece_at pieces k).len →
      AreReadAt spans occs ((piece_at pieces k).start +ℤ pos j) (piece_at pieces k).segs
  pub differ : (k : ℕ) → k + 1 < length pieces → (piece_at pieces k).segs ≢ (piece_at pieces (k + 1)).segs
