-- What is built of a sum.
use Rattle.std.proofs.Common.{◌≡◌, ℕ, ◌^◌, ◌<◌, ◌≤◌, inl, inr, ℤ, pos, ◌+ℤ◌, List, length, ap, ◌∙◌, arith}
use Rattle.std.specs.Prelude.{◌≤ℤ◌}
use Rattle.std.proofs.lemmas.Bool.{cases_lt}
use Rattle.std.proofs.lemmas.Int.{ints}
use Rattle.semantics.specs.Admission.{SumTerm}
use Rattle.semantics.specs.Term.{Term}
use Rattle.descent.specs.declared.cells.Cells.{Cells}
use Rattle.descent.specs.declared.kept.KeptSum.{KeptSum}
use Rattle.descent.specs.declared.readers.Reader.{Reader}
use Rattle.descent.specs.Cells.{cells_in}
use Rattle.descent.specs.KeptSums.{IsKeptSum}
use Rattle.descent.specs.Readers.{reader_at, track_at, AreReadersOf}
use Rattle.descent.specs.Rows.{Cut}
use Rattle.descent.specs.Settled.{IsOfSum, IsSettled}
use Rattle.descent.specs.Sound.{IsSound}
use Rattle.descent.proofs.RowLaws.{sound-track}
use Rattle.descent.proofs.Taking.{kept-of-shape, readers-inside}

at-most : (at : ℤ) (n len : ℕ) → pos 0 ≤ℤ at → (at +ℤ pos n) ≤ℤ pos len → len ≤ 2 ^ 20 → n ≤ 2 ^ 20
at-most at n len low high few = omega (arith, ints)

-- a sum with readers has few positions
pub few-positions : (cut : Cut) (t : Term) (l : ℤ) (n : ℕ) (rs : List Reader) → IsSound cut → AreReadersOf cut t l n rs → 0 < length rs → n ≤ 2 ^ 20
few-positions cut t l n rs sound are some = elim (cases_lt 0 n) [
  | inl lt ↦
      let r = readers-inside cut t l n rs are 0 some in
      at-most (reader_at rs 0).at n (track_at cut (reader_at rs 0).track).len (r.from lt) (r.until lt) (sound-track cut (reader_at rs 0).track sound r.track).few
  | inr ge ↦ omega arith
]

pub built : (cut : Cut) (s : SumTerm) (kept new : KeptSum) (cells : ℕ) → IsSettled cut s.series 0 cells kept new → IsOfSum cut s kept → cells ≡ cells_in kept.cells → IsKeptSum cut s new
built cut s kept new cells is of all = kept-of-shape cut s new is.shaped (record { first = is.same.first ∙ of.first; count = ap (λ (g : Cells). g.count) is.same.cells ∙ of.count }) (λ c some.
    let w = (is.shaped.tiled.each c some).within in
    let e : cells_in new.cells ≡ cells_in kept.cells = ap cells_in is.same.cells in
    is.right c (omega arith) (omega arith) some)
