use Rattle.std.proofs.Common.{length, ap, ◌∙◌}
use Rattle.segment.specs.declared.curves.Curve.{Curve}
use Rattle.segment.specs.Measure.{miss, greatest_estimate}
use Rattle.segment.proofs.Bounds.{bounded-wide}
use Rattle.store_file.proofs.GoodLaws.{measured-told}
use Rattle.store_file.proofs.truth.is_measured.Goals as goal

pub greatest_estimate-f-requires-clause-bounded : goal.greatest_estimate-f-requires-clause-bounded
greatest_estimate-f-requires-clause-bounded c = bounded-wide c.args.curve.now _ c.args.xs.now c.requires.small c.requires.bounded

pub returns : goal.returns
returns c =
    measured-told c.args.xs.now c.args.seg.now c.miss-l.result c.args.d c.greatest_estimate-f.result c.eq.result c.eq.ensures c.requires.len
    (c.miss-l.ensures.value ∙ ap (λ (p : Curve). miss p c.args.xs.now) c.requires.curve) c.requires.most
    (c.greatest_estimate-f.ensures ∙ ap (λ (p : Curve). greatest_estimate p (length c.args.xs.now)) c.requires.curve)
