use Rattle.std.proofs.Common.{◌≡◌, ◌∙◌, refl, arith, length-set}
use Rattle.std.proofs.lemmas.List.{drop-set-lt}
use Rattle.tops.specs.Heap.{most_under}
use Rattle.tops.proofs.Joins.{four-within, join-next, size-some}
use Rattle.tops.proofs.join_above.Goals as goal

pub loop-i-init : goal.loop-i-init
loop-i-init c =
    let some = size-some c.args.size c.requires.power in
    record {
      below = omega arith;
      four = λ low. four-within c.args.size c.args.at c.requires.power c.requires.at low;
      long = c.requires.long;
      same = refl;
      joined = c.requires.joined;
    }

pub loop-i-preserved : goal.loop-i-preserved
loop-i-preserved c =
    let xs = c.loop-i.nodes in
    let i = c.loop-i.i in
    let most = c.greatest_under-most.result in
    let inv = c.loop-i.invariant in
    let below = inv.below in
    let next = join-next xs c.args.size i inv.joined (omega arith) (omega (arith, inv.long)) in
    let four = inv.four (omega arith) in
    let is : most ≡ most_under xs i = c.greatest_under-most.ensures in
    record {
      below = omega arith;
      four = λ low. four-within c.args.size i c.requires.power (omega arith) low;
      long = rw c.put.ensures (length-set xs i most ∙ inv.long);
      same = rw c.put.ensures (drop-set-lt c.args.size xs i most below ∙ inv.same);
      joined = rw (c.put.ensures, is) next;
    }
