-- Cursors: for each occurrence the segment that it has come to.
use Rattle.std.specs.Prelude.{◌≡◌, ℕ, ◌≤◌, ◌<◌, ℤ, pos, ◌+ℤ◌, ◌-ℤ◌, ◌≤ℤ◌, List, length, slice_index, ◌⊎◌}
use Rattle.pieces.specs.declared.spans.Span.{Span}
use Rattle.pieces.specs.declared.spans.Occ.{Occ}
use Rattle.pieces.specs.Refinement.{occ_at, span_at, end_of, IsReadAt}

-- an occurrence reads the same segment on so many positions from one on
pub record StaysIn (spans : List Span) (occ : Occ) (at : ℤ) (len s : ℕ) : Type 0 where
  pub read : IsReadAt spans occ at s
  pub room : pos len ≤ℤ (pos (end_of (span_at spans s)) -ℤ (at -ℤ occ.shift))

-- a segment ends for an occurrence just behind so many positions
abbrev pub EndsBehind : List Span → Occ → ℤ → ℕ → ℕ → Type 0
EndsBehind spans occ at len s = pos (end_of (span_at spans s)) ≡ ((at +ℤ pos len) -ℤ occ.shift)

-- the first k occurrences stay in the segments of their cursors, on as many positions as all of them can, and `most` at
-- most
pub record IsStepped (spans : List Span) (occs : List Occ) (at : ℤ) (most : ℕ) (before cursors : List ℕ)
    (len k : ℕ) : Type 0 where
  pub count : length cursors ≡ length occs
  pub some : 1 ≤ len
  pub within : len ≤ most
  pub stay : (o : ℕ) → o < k → StaysIn spans (occ_at occs o) at len (slice_index cursors o)
  pub rest : (o : ℕ) → k ≤ o → slice_index cursors o ≡ slice_index before o
  pub ends : (len ≡ most)
      ⊎ ((o : ℕ) × (o < k) × EndsBehind spans (occ_at occs o) at len (slice_index cursors o))

-- each cursor is at the segment that its occurrence reads, or before it
pub record AreBehind (spans : List Span) (occs : List Occ) (at : ℤ) (cursors : List ℕ) : Type 0 where
  pub count : length cursors ≡ length occs
  pub from : (o : ℕ) → o < length occs → (occ_at occs o).from ≤ slice_index cursors o
  pub behind : (o : ℕ) → o < length occs → (s : ℕ) → IsReadAt spans (occ_at occs o) at s
      → slice_index cursors o ≤ s
