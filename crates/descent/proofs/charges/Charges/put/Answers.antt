use Rattle.std.proofs.Common.{◌≡◌, ◌+◌, ◌%◌, ◌^◌, ◌<◌, length, arith, length-set}
use Rattle.semantics.specs.Sums.{sum_below}
use Rattle.tops.specs.Tops.{number}
use Rattle.descent.proofs.SumLaws.{sum-set, wrapped-step}
use Rattle.descent.proofs.charges.Charges.put.Goals as goal

pub invariant_of-self : goal.invariant_of-self
invariant_of-self c =
    let xs = c.self.inside.tops in
    let ys = c.put.new.self in
    let old = sum_below (number xs) (length xs) in
    let new = sum_below (number ys) (length ys) in
    let lt : c.args.at < length xs = rw c.self.view_is c.requires in
    let s = sum-set xs c.args.at c.args.charge (length xs) lt lt in
    let e : new + c.get.result ≡ old + c.args.charge = rw (c.put.ensures, length-set, c.get.ensures) s in
    let is : c.self.inside.sum ≡ old % 2 ^ 128 = c.self.invariant in
    rw is (wrapped-step old new c.get.result c.args.charge (2 ^ 128) (omega arith) e)
