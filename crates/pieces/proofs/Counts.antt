-- How many pieces a range has, and how many segments a piece.
use Rattle.std.proofs.Common.{◌≡◌, ℕ, zero, suc, ◌<◌, ◌^◌, ℤ, pos, ◌+ℤ◌, ◌-ℤ◌, List, [], ◌∷◌, length, refl, sym, ◌∙◌, arith}
use Rattle.std.specs.Prelude.{◌≤ℤ◌, ◌<ℤ◌}
use Rattle.std.proofs.lemmas.Int.{ints}
use Rattle.pieces.specs.declared.spans.Span.{Span}
use Rattle.pieces.specs.declared.spans.Occ.{Occ}
use Rattle.pieces.specs.View.{PieceView}
use Rattle.pieces.specs.Refinement.{piece_at, AllRead, AllWithin, RunFrom, IsRefinement}

nothing_in : (xs : List ℕ) → length xs ≡ 0 → xs ≡ []
nothing_in [] h = refl
nothing_in (x ∷ xs) h = absurd (omega arith)

-- without occurrences a range of some positions is one piece
pub one_piece : (spans : List Span) (l r : ℤ) (pieces : List PieceView) → IsRefinement spans [] l r pieces → l <ℤ r → length pieces ≡ 1
one_piece spans l r [] h lt = let e : l ≡ r = h.runs in absurd (omega (arith, ints, e))
one_piece spans l r (p ∷ []) h lt = refl
one_piece spans l r (p ∷ q ∷ pieces) h lt =
    let a : p.segs ≡ [] = nothing_in p.segs (h.reads 0 (omega arith) 0 (omega (arith, h.runs.1))).count in
    let b : q.segs ≡ [] = nothing_in q.segs (h.reads 1 (omega arith) 0 (omega (arith, h.runs.2.1))).count in
    absurd (h.differ 0 (omega arith) (a ∙ sym b))

pub one_piece_of : (spans : List Span) (occs : List Occ) (l r : ℤ) (pieces : List PieceView) → IsRefinement spans occs l r pieces → occs ≡ [] → l <ℤ r → length pieces ≡ 1
one_piece_of spans occs l r pieces h e lt = one_piece spans l r pieces (rw e at h) lt

-- there are no more pieces than positions
count_below : (from to : ℤ) (pieces : List PieceView) → RunFrom from pieces to → (from +ℤ pos (length pieces)) ≤ℤ to
count_below from to [] h = omega (arith, ints, h)
count_below from to (p ∷ pieces) h = omega (arith, ints, h.1, count_below (from +ℤ pos p.len) to pieces h.2)

-- the range of an occurrence's spans is short
short_range : (spans : List Span) (o : Occ) (occs : List Occ) (l r : ℤ) → AllWithin spans (o ∷ occs)
    → ((i : ℤ) → l ≤ℤ i → i <ℤ r → AllRead spans (o ∷ occs) i) → l <ℤ r → r ≤ℤ (l +ℤ pos (2 ^ 20))
short_range spans o occs l r within read lt =
    let first = read l (omega (arith, ints)) lt 0 (omega arith) in
    let last = read (r -ℤ pos 1) (omega (arith, ints, lt)) (omega (arith, ints)) 0 (omega arith) in
    let small = (within 0 (omega arith)).small last.0 last.1.from last.1.to in
    omega (arith, ints, first.1.start, last.1.behind, small)

-- there are few pieces
pub few_pieces : (spans : List Span) (occs : List Occ) (l r : ℤ) (pieces : List PieceView) → AllWithin spans occs
    → ((i : ℤ) → l ≤ℤ i → i <ℤ r → AllRead spans occs i) → IsRefinement spans occs l r pieces → length pieces < 2 ^ 32
few_pieces spans occs l r [] within read h = omega arith
few_pieces spans [] l r (p ∷ pieces) within read h =
    let n = one_piece spans l r (p ∷ pieces) h (omega (arith, ints, count_below l r (p ∷ pieces) h.runs)) in
    omega (arith, n)
few_pieces spans (o ∷ occs) l r (p ∷ pieces) within read h =
    let most = count_below l r (p ∷ pieces) h.runs in
    let short = short_range spans o occs l r within read (omega (arith, ints, most)) in
    omega (arith, ints, most, short)

-- each piece has positions
some_positions : (from to : ℤ) (pieces : List PieceView) → RunFrom from pieces to → (k : ℕ) → k < length pieces → 0 < (piece_at pieces k).len
some_positions from to [] h k lt = absurd (omega arith)
some_positions from to (p ∷ pieces) h zero lt = omega (arith, h.1)
some_positions from to (p ∷ pieces) h (suc k) lt = some_positions (from +ℤ pos p.len) to pieces h.2 k (omega arith)

-- each piece has a segment for each occurrence
pub length-segs : (spans : List Span) (occs : List Occ) (l r : ℤ) (pieces : List PieceView) → IsRefinement spans occs l r pieces
    → (k : ℕ) → k < length pieces → length (piece_at pieces k).segs ≡ length occs
length-segs spans occs l r pieces h k lt = (h.reads k lt 0 (some_positions l r pieces h.runs k lt)).count
