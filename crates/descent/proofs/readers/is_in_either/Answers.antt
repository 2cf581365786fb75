use Rattle.std.proofs.Common.{inl, inr, subst}
use Rattle.descent.specs.Readers.{IsInBlock}
use Rattle.descent.proofs.readers.is_in_either.Goals as goal

pub returns-then-place-first : goal.returns-then-place-first
returns-then-place-first c =
    λ _. inl (subst (IsInBlock c.args.reader.now) c.if-place-first.true c.place_in_block-place.ensures.place)

pub returns-then-place-other : goal.returns-then-place-other
returns-then-place-other c =
    λ _. inr (subst (IsInBlock c.args.reader.now) c.if-place-other.true c.place_in_block-place.ensures.place)
