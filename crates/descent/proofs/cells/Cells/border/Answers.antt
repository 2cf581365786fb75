use Rattle.std.proofs.Common.{◌≡◌, ◌<◌, ◌+◌, min, pos, ◌+ℤ◌, ◌-ℤ◌, arith, subst, sym}
use Rattle.std.specs.Prelude.{unsigned_abs}
use Rattle.std.proofs.lemmas.Int.{ints}
use Rattle.descent.specs.Cells.{first_from, IsBorder}
use Rattle.descent.proofs.CellLaws.{border-at}
use Rattle.descent.proofs.cells.Cells.border.Goals as goal

pub returns : goal.returns
returns c =
    let g = c.args.self.now in
    let at = c.args.reader.now.at in
    let p = c.args.position in
    let d = unsigned_abs (pos p -ℤ at) in
    let from = c.from.ensures in
    let positive = c.if-distance-le0.false in
    let near = c.requires.near in
    let far : (at +ℤ pos d) ≡ pos p = grind (arith, ints) in
    let some : 0 < d = grind (arith, ints) in
    let e : c.min-offset.result ≡ min g.count d = grind (arith, ints, c.min-offset.ensures) in
    subst (IsBorder g at p) (sym c.first_from.ensures)
    (subst (λ n. IsBorder g at p (first_from g (n + g.pad))) (sym e) (border-at g at p d c.requires.cells far some))
