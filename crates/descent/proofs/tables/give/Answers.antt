use Rattle.std.proofs.Common.{inl, inr, arith}
use Rattle.std.proofs.lemmas.Bool.{cases_lt}
use Rattle.descent.proofs.tables.give.Goals as goal

pub returns-clause-others : goal.returns-clause-others
returns-clause-others c = λ b h. elim h [
  | inl below ↦ c.loop-b.invariant.others b (inl below)
  | inr behind ↦ elim (cases_lt b c.args.from) [
    | inl below ↦ c.loop-b.invariant.others b (inl below)
    | inr from ↦ let end = c.loop-b.invariant.end in c.loop-b.invariant.others b (inr (omega arith))
  ]
]
