use Rattle.std.proofs.Common.{arith, ◌+◌, ◌≤◌, refl}
use Rattle.std.specs.Prelude.{◌≡◌}
use Rattle.pieces.proofs.Order.{read_later, read_here}
use Rattle.pieces.proofs.cursors.advance.Goals as goal

pub loop-s-init : goal.loop-s-init
loop-s-init c = record { some = c.requires.some; later = omega arith }

pub end-requires-clause-place : goal.end-requires-clause-place
end-requires-clause-place c = omega (arith, c.loop-s.invariant.some.2.to, c.requires.within.within)

pub end-requires-clause-small : goal.end-requires-clause-small
end-requires-clause-small c = c.requires.within.small c.loop-s.s (omega arith) (omega (arith, c.loop-s.invariant.some.2.to))

pub loop-s-preserved : goal.loop-s-preserved
loop-s-preserved c =
    let k : c.loop-s.s + 1 ≤ c.loop-s.invariant.some.0 = read_later c.args.spans.now c.args.occ _ c.args.place c.loop-s.s c.loop-s.invariant.some.0 refl c.loop-s.invariant.some.2 c.loop-s.invariant.some.1 (omega arith) in
    record { some = (c.loop-s.invariant.some.0, k, c.loop-s.invariant.some.2); later = omega arith }

pub loop-s-smaller : goal.loop-s-smaller
loop-s-smaller c = omega (arith, c.loop-s.invariant.some.2.to)

pub returns-clause-read : goal.returns-clause-read
returns-clause-read c =
    let e : c.loop-s.s ≡ c.loop-s.invariant.some.0 = read_here c.args.spans.now c.args.occ _ c.args.place c.loop-s.s c.loop-s.invariant.some.0 c.requires.within refl c.loop-s.invariant.some.2 (omega arith) c.loop-s.invariant.some.1 (omega arith) in
    rw e c.loop-s.invariant.some.2
