use Rattle.std.proofs.Common.{◌∙◌, ap, get_or, sym, take, take_all}
use Rattle.std.proofs.lemmas.List.{get_or_default}
use Rattle.bounds.specs.Segments.{no_seg}
use Rattle.error_prop.specs.Entries.{last_end, pushed}
use Rattle.answer_check.proofs.FrameSteps.{segs-more, some-last, starts-next, with_segs}
use Rattle.answer_check.proofs.framing.put_series.Goals as goal

pub loop-i-init : goal.loop-i-init
loop-i-init c = c.in_ok-begin_series.ensures.ok

pub push-requires-clause-begun : goal.push-requires-clause-begun
push-requires-clause-begun c = some-last c.args.frame.now c.args.name (take c.loop-i.i c.args.segs.now) c.loop-i.frame c.loop-i.invariant

pub push-requires-clause-start : goal.push-requires-clause-start
push-requires-clause-start c =
    let gs = c.args.segs.now in
    let g = get_or gs c.loop-i.i no_seg in
    starts-next c.args.frame.now c.args.name gs c.loop-i.i g c.requires.touch c.loop-i-test.true (get_or_default gs c.loop-i.i no_seg g c.loop-i-test.true) ∙ sym (ap last_end c.loop-i.invariant)

pub loop-i-preserved : goal.loop-i-preserved
loop-i-preserved c =
    let gs = c.args.segs.now in
    let g = get_or gs c.loop-i.i no_seg in
    segs-more c.args.frame.now c.push.new.self c.args.name gs c.loop-i.i g c.loop-i-test.true (get_or_default gs c.loop-i.i no_seg g c.loop-i-test.true)
    (c.in_ok-push.ensures.ok ∙ ap (λ f. pushed f g) c.loop-i.invariant)

pub returns : goal.returns
returns c = c.loop-i.invariant ∙ ap (with_segs c.args.frame.now c.args.name) (take_all c.loop-i.i c.args.segs.now c.loop-i-test.false)
