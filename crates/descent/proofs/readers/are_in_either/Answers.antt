use Rattle.std.proofs.Common.{ℕ, below_more, rules}
use Rattle.descent.specs.Readers.{reader_at, IsInEither}
use Rattle.descent.proofs.readers.are_in_either.Goals as goal

pub loop-o-preserved : goal.loop-o-preserved
loop-o-preserved c =
    below_more (λ (k : ℕ). IsInEither c.args.first c.args.other (reader_at c.args.readers.now k)) c.loop-o.o
    c.loop-o.invariant (c.is_in_either.ensures (search rules))
