use Rattle.std.proofs.Common.{◌≡◌, ◌∙◌, ◌-◌, ◌*◌, ◌^◌, ap, min, arith, length}
use Rattle.num_text.proofs.ScaleLaws.{scaled_by_digits}
use Rattle.num_text.proofs.cells.scaled.Goals as goal

pub returns : goal.returns
returns c =
    let kept : c.min-kept.result ≡ min (length c.args.fraction.now) c.args.scale = cc in
    let floor : c.filled-floor.result ≡ min (c.number_on-number.result * 10 ^ (c.args.scale - min (length c.args.fraction.now) c.args.scale)) 1000000001 =
    c.filled-floor.ensures ∙ ap (λ k. min (c.number_on-number.result * 10 ^ k) 1000000001) (omega (arith, kept, c.from-places.ensures, c.requires.scale)) in
    let read = scaled_by_digits c.args.scale c.args.whole.now c.args.fraction.now 1000000001 c.number_on-number.result c.requires.digits (cc) in
    cc
