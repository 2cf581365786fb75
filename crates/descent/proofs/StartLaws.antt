-- One piece over all cells, of which nothing is said yet.
use Rattle.std.proofs.Common.{◌≡◌, ℕ, zero, suc, ◌+◌, ◌*◌, ◌%◌, ◌^◌, ◌<◌, ◌≤◌, cond, Bool, true, false, inl, inr, ℤ, pos, ◌+ℤ◌, List, [], length, get_or, set, get_or-set_same, get_or-set_other, length-set, refl, sym, ap, subst, ◌∙◌, arith}
use Rattle.std.specs.Prelude.{◌==◌, is_some, replicate}
use Rattle.std.proofs.lemmas.Bool.{cases_lt, cases_eq}
use Rattle.semantics.specs.Readings.{reading}
use Rattle.semantics.specs.Sums.{most_below, sum_below}
use Rattle.semantics.specs.Term.{Term}
use Rattle.segment.specs.declared.segments.Seg.{Seg}
use Rattle.bounds.specs.Segments.{covers}
use Rattle.tops.specs.Tops.{number}
use Rattle.descent.specs.declared.kept.KeptSum.{KeptSum}
use Rattle.descent.specs.Cells.{cells_in, offset_of, AreCells}
use Rattle.descent.specs.Kept.{kept_in, AreTiled}
use Rattle.descent.specs.KeptSums.{band_of, charge_in, numbers_at, part_of, place_of, row_charge, AreCharged}
use Rattle.descent.specs.Readers.{reader_at, AreAligned, AreReadersOf}
use Rattle.descent.specs.Rows.{Row, Cut}
use Rattle.descent.specs.Settled.{IsShaped}
use Rattle.descent.specs.Sound.{IsSound}
use Rattle.descent.proofs.ReadRuns.{most-none}
use Rattle.descent.proofs.RowLaws.{AtBorders}
use Rattle.descent.proofs.Taking.{readers-inside, readers-near}

zeros-at : {A : Type 0} → (z : A) (n i : ℕ) → get_or (replicate n z) i z ≡ z
zeros-at z zero i = refl
zeros-at z (suc n) zero = refl
zeros-at z (suc n) (suc i) = zeros-at z n i

zeros-length : {A : Type 0} → (z : A) (n : ℕ) → length (replicate n z) ≡ n
zeros-length z zero = refl
zeros-length z (suc n) = ap suc (zeros-length z n)

-- ---- one piece

one-tiled : (lens : ℕ → ℕ) (cells : ℕ) → (0 < cells → lens 0 ≡ cells) → ((c : ℕ) → (c ≡ 0 → ⊥) → lens c ≡ 0) → (0 < lens 0 → 0 < cells) → AreTiled lens cells
one-tiled lens cells first others some = record {
  first = λ lt. let f = first lt in omega arith;
  each = λ c is. elim (cases_eq c 0) [
    | inr ne ↦ let z = others c ne in absurd (omega arith)
    | inl e ↦
        let z : 0 < lens 0 = subst (λ k. 0 < lens k) e is in
        let f = first (some z) in
        let own : lens c ≡ lens 0 = ap lens e in
        let all : c + lens c ≡ cells = omega arith in
        record {
          within = omega arith;
          next = inl all;
          inside = λ i low high. others (c + i) (λ q. omega arith);
        }
  ];
}

pub one-piece-tiled : (lens : List ℕ) (cells : ℕ) → lens ≡ set (replicate cells 0) 0 cells → AreTiled (λ c. get_or lens c 0) cells
one-piece-tiled lens cells e = one-tiled (λ c. get_or lens c 0) cells
    (λ lt. ap (λ xs. get_or xs 0 0) e ∙ get_or-set_same (replicate cells 0) 0 cells 0 (omega (arith, zeros-length {A = ℕ} 0 cells)))
    (λ c ne. ap (λ xs. get_or xs c 0) e ∙ get_or-set_other (replicate cells 0) 0 c cells 0 ne ∙ zeros-at 0 cells c)
    (λ some. elim (cases_lt 0 cells) [
      | inl lt ↦ lt
      | inr ge ↦
          let z : cells ≡ 0 = omega arith in
          let n : lens ≡ [] = e ∙ ap (λ k. set (replicate k 0) 0 k) z in
          let o : get_or lens 0 0 ≡ 0 = ap (λ xs. get_or xs 0 0) n in
          absurd (omega arith)
    ])

-- ---- no charges

sum-none : (f : ℕ → ℕ) (n : ℕ) → ((j : ℕ) → f j ≡ 0) → sum_below f n ≡ 0
sum-none f zero h = refl
sum-none f (suc n) h = omega (arith, h n, sum-none f n h)

abbrev pub NoWeights : KeptSum → Type 0
NoWeights k = (o c : ℕ) → number (numbers_at k.weights.items o) c ≡ 0

none-in : (b : Bool) (w : ℕ) → w ≡ 0 → cond b w 0 ≡ 0
none-in true w e = e
none-in false w e = refl

times-none : (b : Bool) (l m : ℕ) → m ≡ 0 → cond b (l * m) 0 ≡ 0
times-none true l m e = rw e (omega arith)
times-none false l m e = refl

charge-none : (k : KeptSum) (i : ℕ) (g : Seg) → NoWeights k → charge_in k i g ≡ 0
charge-none k i g none = ap (λ s. s % 2 ^ 128) (sum-none (part_of k i g) (length k.readers.items) (λ o.
    times-none ((reader_at k.readers.items o).track == i) g.l (most_below (kept_in (offset_of k.cells) (number (numbers_at k.weights.items o)) (reader_at k.readers.items o).at g) (cells_in k.cells))
    (most-none (kept_in (offset_of k.cells) (number (numbers_at k.weights.items o)) (reader_at k.readers.items o).at g) (cells_in k.cells)
    (λ c lt. none-in (covers g ((reader_at k.readers.items o).at +ℤ pos (offset_of k.cells c))) (number (numbers_at k.weights.items o) c) (none o c)))))

row-none : (k : KeptSum) (i : ℕ) (row : Row) → NoWeights k → row_charge k i row ≡ 0
row-none k i row none = by (is_some row.readings)
  where
    by : (b : Bool) → cond b 0 (charge_in k i row.seg) ≡ 0
    by true = refl
    by false = charge-none k i row.seg none

charged-none : (cut : Cut) (k : KeptSum) → AtBorders cut → band_of cut (length cut) ≤ length k.charges → k.charges ≡ replicate (length k.charges) 0 → NoWeights k → AreCharged cut k
charged-none cut k borders room zeros none = record {
  room = room;
  borders = borders;
  each = λ i row lt there. at (place_of cut i row) ∙ sym (row-none k i row none);
  others = λ p some. let z = at p in absurd (omega arith);
}
  where
    at : (p : ℕ) → number k.charges p ≡ 0
    at p = ap (λ (cs : List ℕ). number cs p) zeros ∙ zeros-at 0 (length k.charges) p

-- ---- all of it

pub shaped-start : (cut : Cut) (t : Term) (k : KeptSum) → IsSound cut → AtBorders cut → AreCells k.cells → AreAligned k.cells k.readers.items → AreReadersOf cut t k.first k.cells.count k.readers.items
    → k.lens ≡ set (replicate (cells_in k.cells) 0) 0 (cells_in k.cells) → k.estimates ≡ replicate (cells_in k.cells) (pos 0) → length k.weights.items ≡ length k.readers.items
    → ((o : ℕ) → o < length k.readers.items → cells_in k.cells ≤ length (numbers_at k.weights.items o)) → NoWeights k → band_of cut (length cut) ≤ length k.charges
    → k.charges ≡ replicate (length k.charges) 0 → IsShaped cut t k
shaped-start cut t k sound borders cells aligned readers lens estimates count room none band zeros =
    let inside = readers-inside cut t k.first k.cells.count k.readers.items readers in
    record {
      can = record {
        sound = sound;
        read = record { cells = cells; count = count; room = λ o lt. room o (omega arith); near = readers-near cut k.cells.count k.readers.items sound inside };
        inside = inside;
        charged = charged-none cut k borders band zeros none;
      };
      readers = readers;
      aligned = aligned;
      lens = ap length lens ∙ length-set (replicate (cells_in k.cells) 0) 0 (cells_in k.cells) ∙ zeros-length 0 (cells_in k.cells);
      estimates = ap length estimates ∙ zeros-length (pos 0) (cells_in k.cells);
      tiled = one-piece-tiled k.lens (cells_in k.cells) lens;
      blank = λ c z. record { estimate = ap (λ (es : List ℤ). reading es c) estimates ∙ zeros-at (pos 0) (cells_in k.cells) c; weights = λ o. none o c };
    }
