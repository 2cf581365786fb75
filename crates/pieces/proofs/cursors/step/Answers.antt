use Rattle.std.proofs.Common.{arith}
use Rattle.std.proofs.lemmas.Int.{to_z-of_z}
use mir.Val.{SFits}
use mir.Syntax.{w64}
use Rattle.pieces.proofs.Steps.{step_more, step_none}
use Rattle.pieces.proofs.cursors.step.Goals as goal

pub loop-o-init : goal.loop-o-init
loop-o-init c = step_none c.args.spans.now c.args.occs.now _ c.args.most c.args.cursors.now c.requires.behind.count c.requires.some

pub loop-o-preserved : goal.loop-o-preserved
loop-o-preserved c =
    rw c.min-len.ensures
    (step_more c.args.spans.now c.args.occs.now _ c.args.most c.args.cursors.now c.loop-o.cursors c.loop-o.len c.loop-o.o c.stay_at-stay.result.seg c.stay_at-stay.result.len
    c.loop-o.invariant c.loop-o-test.true c.stay_at-stay.ensures.read c.stay_at-stay.ensures.some c.stay_at-stay.ensures.len)

pub stay_at-stay-requires : goal.stay_at-stay-requires
stay_at-stay-requires c =
    let f : SFits w64 c.args.at = c.ranges.at in
    let r = c.requires.read c.loop-o.o c.loop-o-test.true in
    let a = c.loop-o.invariant.rest c.loop-o.o (omega arith) in
    let b = c.requires.behind.behind c.loop-o.o c.loop-o-test.true r.0 r.1 in
    simp to_z-of_z (record {
      within = c.requires.within c.loop-o.o c.loop-o-test.true;
      some = (r.0, omega (arith, a, b), r.1);
      from = omega (arith, a, c.requires.behind.from c.loop-o.o c.loop-o-test.true);
    })
