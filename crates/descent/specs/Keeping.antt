-- What is kept of all sums of a query, from step to step.
use Rattle.std.specs.Prelude.{ℕ, zero, suc, List, [], ◌∷◌}
use Rattle.semantics.specs.Admission.{SumTerm}
use Rattle.descent.specs.declared.cuts.State.{State}
use Rattle.descent.specs.declared.cuts.State.TheVariants.{Old, Noted, Current}
use Rattle.descent.specs.declared.kept.KeptSum.{KeptSum}
use Rattle.descent.specs.Changed.{CanKeep}
use Rattle.descent.specs.KeptSums.{IsKeptSum, AreKeptSums}
use Rattle.descent.specs.Rows.{Cut}

-- of which rows the sums are kept after one more step
abbrev pub state_after : State → State
state_after Old = Old
state_after Noted = Old
state_after Current = Noted

-- and after the last step is taken back
abbrev pub state_back : State → State
state_back Old = Old
state_back Noted = Current
state_back Current = Old

-- something can be kept of each of some sums
abbrev pub CanKeepAll : Cut → List SumTerm → Type 0
CanKeepAll cut [] = Unit {0}
CanKeepAll cut (s ∷ ss) = CanKeep cut s × CanKeepAll cut ss

-- the first i of the sums have taken over a change, and the others are kept as before
abbrev pub AreTakenOver : ℕ → Cut → Cut → List SumTerm → List KeptSum → Type 0
AreTakenOver zero before now ss ks = AreKeptSums before ss ks
AreTakenOver (suc i) before now [] [] = ⊥ → ⊥
AreTakenOver (suc i) before now [] (k ∷ ks) = ⊥
AreTakenOver (suc i) before now (s ∷ ss) [] = ⊥
AreTakenOver (suc i) before now (s ∷ ss) (k ∷ ks) = IsKeptSum now s k × AreTakenOver i before now ss ks
