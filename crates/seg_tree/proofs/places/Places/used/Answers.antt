use Rattle.std.proofs.Common.{ap, arith}
use Rattle.seg_tree.specs.Held.{Room}
use Rattle.seg_tree.specs.Linked.{used}
use Rattle.seg_tree.proofs.SlotLaws.{used-and_vacant}
use Rattle.seg_tree.proofs.places.Places.used.Goals as goal

pub overflow_sub-result : goal.overflow_sub-result
overflow_sub-result c = omega (arith, used-and_vacant c.self.inside.slots.items, c.self.invariant.counted, c.len.ensures, c.self.inside.slots.ok)

pub returns-clause-value : goal.returns-clause-value
returns-clause-value c =
    let nodes = ap (λ (r : Room). used r.nodes) c.self.view_is in
    omega (arith, used-and_vacant c.self.inside.slots.items, c.self.invariant.counted, c.len.ensures, c.self.inside.slots.ok, nodes)
