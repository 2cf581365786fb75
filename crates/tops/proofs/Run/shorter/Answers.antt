use Rattle.std.proofs.Common.{◌≡◌, ◌*◌, ◌/◌, ap, arith}
use Rattle.tops.specs.Tops.{most_in}
use Rattle.tops.proofs.Joins.{most_in-above}
use Rattle.tops.proofs.Run.shorter.Goals as goal

pub returns : goal.returns
returns c =
    let xs = c.args.nodes.now in
    let run = c.args.self in
    let above = c.above.result in
    let f : above.from ≡ run.from / 4 = ap (λ r. r.from) c.above.ensures in
    let u : above.until ≡ run.until / 4 = ap (λ r. r.until) c.above.ensures in
    let m : above.most ≡ run.most = ap (λ r. r.most) c.above.ensures in
    let from : run.from ≡ 4 * above.from = omega arith in
    let until : run.until ≡ 4 * above.until = omega arith in
    let up : most_in xs run.from run.until ≡ most_in xs above.from above.until =
    rw (from, until) (most_in-above xs c.args.size above.from above.until c.requires.joined (omega arith) (omega arith)) in
    record { most = omega (arith, m, up); some = omega arith; order = omega arith; within = omega arith; less = omega arith }
