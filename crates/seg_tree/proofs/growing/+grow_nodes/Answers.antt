use Rattle.std.proofs.Common.{◌≡◌, ◌+◌, ◌-◌, ◌<◌, take, arith, subst, sym, ap, ◌∙◌, refl}
use Rattle.segment.specs.Shape.{plan, IsSplit}
use Rattle.segment.specs.Growth.{kept_or_fit}
use Rattle.segment.specs.Tree.{segs_of}
use Rattle.segment.proofs.GrowthLaws.{behind_none, behind_all, behind_leaf, behind_parts}
use Rattle.seg_tree.specs.declared.nodes.Node.{Node}
use Rattle.seg_tree.specs.Linked.{IsLinked, left_child, right_child, node_at}
use Rattle.seg_tree.proofs.Extended.{Extends_refl, IsLinked-within, fork_at}
use Rattle.seg_tree.proofs.GrownTrees.{whole_holds, grown_leaf, grown_fork, new_holds, old_left, old_right, old_holds, old_split, slice_is, slice_long, seg_is, count_slice}
use Rattle.seg_tree.proofs.growing.+grow_nodes.Goals as goal

pub returns-then-start-len-clause-count : goal.returns-then-start-len-clause-count
returns-then-start-len-clause-count t c =
    let none = behind_none c.args.old c.args.start c.args.len (omega (arith, c.if-start-len.true)) in
    omega (arith, none)

pub returns-then-start-len-clause-spare : goal.returns-then-start-len-clause-spare
returns-then-start-len-clause-spare t c =
    let none = behind_none c.args.old c.args.start c.args.len (omega (arith, c.if-start-len.true)) in
    omega (arith, none)

pub returns-then-start-len-clause-holds : goal.returns-then-start-len-clause-holds
returns-then-start-len-clause-holds t c =
    λ whole h. whole_holds c.args.degree c.args.nodes.now.nodes c.args.place c.args.start c.args.len c.args.old c.args.xs.now whole c.requires.from c.if-start-len.true h

pub put-leaf-requires-clause-few : goal.put-leaf-requires-clause-few
put-leaf-requires-clause-few t c =
    let past : c.args.old < c.args.start + c.args.len = omega (arith, c.requires.to, c.if-start-len.false) in
    let one = behind_leaf c.args.old c.args.start c.args.len past c.in-None.ensures in
    omega (arith, one, c.requires.room)

pub put-leaf-requires-clause-spare : goal.put-leaf-requires-clause-spare
put-leaf-requires-clause-spare t c =
    let past : c.args.old < c.args.start + c.args.len = omega (arith, c.requires.to, c.if-start-len.false) in
    let one = behind_leaf c.args.old c.args.start c.args.len past c.in-None.ensures in
    omega (arith, one, c.requires.spare)

pub returns-in-None-clause-count : goal.returns-in-None-clause-count
returns-in-None-clause-count t c =
    let past : c.args.old < c.args.start + c.args.len = omega (arith, c.requires.to, c.if-start-len.false) in
    let one = behind_leaf c.args.old c.args.start c.args.len past c.in-None.ensures in
    omega (arith, one, c.put-leaf.ensures.put.one_more)

pub returns-in-None-clause-spare : goal.returns-in-None-clause-spare
returns-in-None-clause-spare t c =
    let past : c.args.old < c.args.start + c.args.len = omega (arith, c.requires.to, c.if-start-len.false) in
    let one = behind_leaf c.args.old c.args.start c.args.len past c.in-None.ensures in
    omega (arith, one, c.put-leaf.ensures.spare)

pub returns-in-None-clause-holds : goal.returns-in-None-clause-holds
returns-in-None-clause-holds t c =
    let past : c.args.old < c.args.start + c.args.len = omega (arith, c.requires.to, c.if-start-len.false) in
    let one = behind_leaf c.args.old c.args.start c.args.len past c.in-None.ensures in
    let long = slice_long c.args.xs.now c.args.start c.args.len (c.args.start + c.args.len) refl c.requires.inside in
    λ whole h. grown_leaf (kept_or_fit c.args.degree c.args.xs.now (segs_of whole)) c.args.nodes.now.nodes c.put-leaf.new.self.nodes c.put-leaf.result c.args.start c.args.len c.args.xs.now _ c.in-None.ensures c.put-leaf.ensures.put
    (seg_is c.args.degree c.args.start c.args.len (c.args.start + c.args.len) c.args.old c.args.xs.now whole c.fit-seg.result h.over past refl c.fit-seg.ensures.fit)
    (omega (arith, c.block.ensures.len, long))
    (ap (λ n. take n c.block.result) (sym long) ∙ c.block.ensures.front ∙ slice_is c.args.xs.now c.args.start c.args.len (c.args.start + c.args.len) refl)

pub grow_nodes-left-requires : goal.grow_nodes-left-requires
grow_nodes-left-requires t c =
    let split : IsSplit c.args.len c.in-Some.s = c.in-Some.ensures.1 in
    let past : c.args.old < c.args.start + c.args.len = omega (arith, c.requires.to, c.if-start-len.false) in
    let n = behind_parts c.args.old c.args.start c.args.len c.in-Some.s past split in
    let all = behind_all c.args.old (c.args.start + c.in-Some.s) (c.args.len - c.in-Some.s) (omega (arith, c.if-old-start.true)) (omega (arith, split.below)) in
    let own = count_slice c.args.xs.now (c.args.start + c.in-Some.s) (c.args.len - c.in-Some.s) (c.args.start + c.args.len) (omega (arith, split.below)) c.requires.inside in
    (omega (arith, c.decreases, split.below), (c.requires.from, (c.if-old-start.true, (omega (arith, split.below, c.requires.inside), (c.requires.few, (c.requires.small, (c.requires.degree, (c.requires.linked, (omega (arith, n, c.requires.room), omega (arith, n, c.requires.spare))))))))))

pub add_nodes-right-requires-clause-room : goal.add_nodes-right-requires-clause-room
add_nodes-right-requires-clause-room t c =
    let split : IsSplit c.args.len c.in-Some.s = c.in-Some.ensures.1 in
    let past : c.args.old < c.args.start + c.args.len = omega (arith, c.requires.to, c.if-start-len.false) in
    let n = behind_parts c.args.old c.args.start c.args.len c.in-Some.s past split in
    let all = behind_all c.args.old (c.args.start + c.in-Some.s) (c.args.len - c.in-Some.s) (omega (arith, c.if-old-start.true)) (omega (arith, split.below)) in
    let own = count_slice c.args.xs.now (c.args.start + c.in-Some.s) (c.args.len - c.in-Some.s) (c.args.start + c.args.len) (omega (arith, split.below)) c.requires.inside in
    omega (arith, n, all, own, c.grow_nodes-left.ensures.count, c.requires.room)

pub add_nodes-right-requires-clause-spare : goal.add_nodes-right-requires-clause-spare
add_nodes-right-requires-clause-spare t c =
    let split : IsSplit c.args.len c.in-Some.s = c.in-Some.ensures.1 in
    let past : c.args.old < c.args.start + c.args.len = omega (arith, c.requires.to, c.if-start-len.false) in
    let n = behind_parts c.args.old c.args.start c.args.len c.in-Some.s past split in
    let all = behind_all c.args.old (c.args.start + c.in-Some.s) (c.args.len - c.in-Some.s) (omega (arith, c.if-old-start.true)) (omega (arith, split.below)) in
    let own = count_slice c.args.xs.now (c.args.start + c.in-Some.s) (c.args.len - c.in-Some.s) (c.args.start + c.args.len) (omega (arith, split.below)) c.requires.inside in
    omega (arith, n, all, own, c.grow_nodes-left.ensures.spare, c.requires.spare)

pub put-fork-requires-clause-few : goal.put-fork-requires-clause-few
put-fork-requires-clause-few t c =
    let split : IsSplit c.args.len c.in-Some.s = c.in-Some.ensures.1 in
    let past : c.args.old < c.args.start + c.args.len = omega (arith, c.requires.to, c.if-start-len.false) in
    let n = behind_parts c.args.old c.args.start c.args.len c.in-Some.s past split in
    let all = behind_all c.args.old (c.args.start + c.in-Some.s) (c.args.len - c.in-Some.s) (omega (arith, c.if-old-start.true)) (omega (arith, split.below)) in
    let own = count_slice c.args.xs.now (c.args.start + c.in-Some.s) (c.args.len - c.in-Some.s) (c.args.start + c.args.len) (omega (arith, split.below)) c.requires.inside in
    omega (arith, n, all, own, c.grow_nodes-left.ensures.count, c.add_nodes-right.ensures.count, c.requires.room)

pub put-fork-requires-clause-spare : goal.put-fork-requires-clause-spare
put-fork-requires-clause-spare t c =
    let split : IsSplit c.args.len c.in-Some.s = c.in-Some.ensures.1 in
    let past : c.args.old < c.args.start + c.args.len = omega (arith, c.requires.to, c.if-start-len.false) in
    let n = behind_parts c.args.old c.args.start c.args.len c.in-Some.s past split in
    let all = behind_all c.args.old (c.args.start + c.in-Some.s) (c.args.len - c.in-Some.s) (omega (arith, c.if-old-start.true)) (omega (arith, split.below)) in
    let own = count_slice c.args.xs.now (c.args.start + c.in-Some.s) (c.args.len - c.in-Some.s) (c.args.start + c.args.len) (omega (arith, split.below)) c.requires.inside in
    omega (arith, n, all, own, c.grow_nodes-left.ensures.spare, c.add_nodes-right.ensures.spare, c.requires.spare)

pub returns-then-old-start-clause-count : goal.returns-then-old-start-clause-count
returns-then-old-start-clause-count t c =
    let split : IsSplit c.args.len c.in-Some.s = c.in-Some.ensures.1 in
    let past : c.args.old < c.args.start + c.args.len = omega (arith, c.requires.to, c.if-start-len.false) in
    let n = behind_parts c.args.old c.args.start c.args.len c.in-Some.s past split in
    let all = behind_all c.args.old (c.args.start + c.in-Some.s) (c.args.len - c.in-Some.s) (omega (arith, c.if-old-start.true)) (omega (arith, split.below)) in
    let own = count_slice c.args.xs.now (c.args.start + c.in-Some.s) (c.args.len - c.in-Some.s) (c.args.start + c.args.len) (omega (arith, split.below)) c.requires.inside in
    omega (arith, n, all, own, c.grow_nodes-left.ensures.count, c.add_nodes-right.ensures.count, c.put-fork.ensures.put.one_more)

pub returns-then-old-start-clause-spare : goal.returns-then-old-start-clause-spare
returns-then-old-start-clause-spare t c =
    let split : IsSplit c.args.len c.in-Some.s = c.in-Some.ensures.1 in
    let past : c.args.old < c.args.start + c.args.len = omega (arith, c.requires.to, c.if-start-len.false) in
    let n = behind_parts c.args.old c.args.start c.args.len c.in-Some.s past split in
    let all = behind_all c.args.old (c.args.start + c.in-Some.s) (c.args.len - c.in-Some.s) (omega (arith, c.if-old-start.true)) (omega (arith, split.below)) in
    let own = count_slice c.args.xs.now (c.args.start + c.in-Some.s) (c.args.len - c.in-Some.s) (c.args.start + c.args.len) (omega (arith, split.below)) c.requires.inside in
    omega (arith, n, all, own, c.grow_nodes-left.ensures.spare, c.add_nodes-right.ensures.spare, c.put-fork.ensures.spare)

pub returns-then-old-start-clause-holds : goal.returns-then-old-start-clause-holds
returns-then-old-start-clause-holds t c =
    let split : IsSplit c.args.len c.in-Some.s = c.in-Some.ensures.1 in
    let past : c.args.old < c.args.start + c.args.len = omega (arith, c.requires.to, c.if-start-len.false) in
    let n = behind_parts c.args.old c.args.start c.args.len c.in-Some.s past split in
    let all = behind_all c.args.old (c.args.start + c.in-Some.s) (c.args.len - c.in-Some.s) (omega (arith, c.if-old-start.true)) (omega (arith, split.below)) in
    let own = count_slice c.args.xs.now (c.args.start + c.in-Some.s) (c.args.len - c.in-Some.s) (c.args.start + c.args.len) (omega (arith, split.below)) c.requires.inside in
    let at = slice_is c.args.xs.now (c.args.start + c.in-Some.s) (c.args.len - c.in-Some.s) (c.args.start + c.args.len) (omega (arith, split.below)) in
    let long = slice_long c.args.xs.now (c.args.start + c.in-Some.s) (c.args.len - c.in-Some.s) (c.args.start + c.args.len) (omega (arith, split.below)) c.requires.inside in
    λ whole h. grown_fork (kept_or_fit c.args.degree c.args.xs.now (segs_of whole)) c.grow_nodes-left.new.nodes.nodes c.add_nodes-right.new.nodes.nodes c.add_nodes-right.new.nodes.nodes c.put-fork.new.self.nodes c.put-fork.result c.args.start c.args.len c.in-Some.s c.args.xs.now _ split
    (c.grow_nodes-left.ensures.holds whole h)
    (new_holds c.args.degree _ _ (c.args.start + c.in-Some.s) (c.args.len - c.in-Some.s) c.args.old c.args.xs.now _ whole h.over (omega (arith, c.if-old-start.true)) (omega (arith, split.below)) at long c.add_nodes-right.ensures.holds)
    c.add_nodes-right.ensures.extends (Extends_refl _) c.put-fork.ensures.put
    (seg_is c.args.degree c.args.start c.args.len (c.args.start + c.args.len) c.args.old c.args.xs.now whole c.fit-seg.result h.over past refl c.fit-seg.ensures.fit) tt

pub node-requires : goal.node-requires
node-requires t c =
    IsLinked-within _ _ _ c.requires.linked

pub children-left-requires : goal.children-left-requires
children-left-requires t c =
    let split : IsSplit c.args.len c.in-Some.s = c.in-Some.ensures.1 in
    let at = fork_at c.args.nodes.now.nodes c.args.place c.args.start (c.args.old - c.args.start) c.in-Some.s (old_split c.args.len (c.args.old - c.args.start) c.in-Some.s split (omega (arith, c.if-old-start.false)) (omega (arith, c.requires.to))) c.requires.linked in
    rw c.node.ensures at.forks

pub grow_nodes-right-requires : goal.grow_nodes-right-requires
grow_nodes-right-requires t c =
    let split : IsSplit c.args.len c.in-Some.s = c.in-Some.ensures.1 in
    let past : c.args.old < c.args.start + c.args.len = omega (arith, c.requires.to, c.if-start-len.false) in
    let n = behind_parts c.args.old c.args.start c.args.len c.in-Some.s past split in
    let none = behind_none c.args.old c.args.start c.in-Some.s (omega (arith, c.if-old-start.false)) in
    let at = fork_at c.args.nodes.now.nodes c.args.place c.args.start (c.args.old - c.args.start) c.in-Some.s (old_split c.args.len (c.args.old - c.args.start) c.in-Some.s split (omega (arith, c.if-old-start.false)) (omega (arith, c.requires.to))) c.requires.linked in
    let rest : c.args.old - c.args.start - c.in-Some.s ≡ c.args.old - (c.args.start + c.in-Some.s) = omega arith in
    let linked = subst (λ k. IsLinked c.args.nodes.now.nodes (right_child (node_at c.args.nodes.now.nodes c.args.place).below) (plan (c.args.start + c.in-Some.s) k)) rest at.right in
    (omega (arith, c.decreases, split.below, split.greatest), (omega (arith, c.if-old-start.false), (omega (arith, split.below, c.requires.to), (omega (arith, split.below, c.requires.inside), (c.requires.few, (c.requires.small, (c.requires.degree, (rw (c.children-left.ensures.right, c.node.ensures) linked, (omega (arith, n, none, c.requires.room), omega (arith, n, none, c.requires.spare))))))))))

pub put-fork-requires-else-old-start-clause-few : goal.put-fork-requires-else-old-start-clause-few
put-fork-requires-else-old-start-clause-few t c =
    let split : IsSplit c.args.len c.in-Some.s = c.in-Some.ensures.1 in
    let past : c.args.old < c.args.start + c.args.len = omega (arith, c.requires.to, c.if-start-len.false) in
    let n = behind_parts c.args.old c.args.start c.args.len c.in-Some.s past split in
    let none = behind_none c.args.old c.args.start c.in-Some.s (omega (arith, c.if-old-start.false)) in
    omega (arith, n, none, c.grow_nodes-right.ensures.count, c.requires.room)

pub put-fork-requires-else-old-start-clause-spare : goal.put-fork-requires-else-old-start-clause-spare
put-fork-requires-else-old-start-clause-spare t c =
    let split : IsSplit c.args.len c.in-Some.s = c.in-Some.ensures.1 in
    let past : c.args.old < c.args.start + c.args.len = omega (arith, c.requires.to, c.if-start-len.false) in
    let n = behind_parts c.args.old c.args.start c.args.len c.in-Some.s past split in
    let none = behind_none c.args.old c.args.start c.in-Some.s (omega (arith, c.if-old-start.false)) in
    omega (arith, n, none, c.grow_nodes-right.ensures.spare, c.requires.spare)

pub returns-else-old-start-clause-count : goal.returns-else-old-start-clause-count
returns-else-old-start-clause-count t c =
    let split : IsSplit c.args.len c.in-Some.s = c.in-Some.ensures.1 in
    let past : c.args.old < c.args.start + c.args.len = omega (arith, c.requires.to, c.if-start-len.false) in
    let n = behind_parts c.args.old c.args.start c.args.len c.in-Some.s past split in
    let none = behind_none c.args.old c.args.start c.in-Some.s (omega (arith, c.if-old-start.false)) in
    omega (arith, n, none, c.grow_nodes-right.ensures.count, c.put-fork-else-old-start.ensures.put.one_more)

pub returns-else-old-start-clause-spare : goal.returns-else-old-start-clause-spare
returns-else-old-start-clause-spare t c =
    let split : IsSplit c.args.len c.in-Some.s = c.in-Some.ensures.1 in
    let past : c.args.old < c.args.start + c.args.len = omega (arith, c.requires.to, c.if-start-len.false) in
    let n = behind_parts c.args.old c.args.start c.args.len c.in-Some.s past split in
    let none = behind_none c.args.old c.args.start c.in-Some.s (omega (arith, c.if-old-start.false)) in
    omega (arith, n, none, c.grow_nodes-right.ensures.spare, c.put-fork-else-old-start.ensures.spare)

pub returns-else-old-start-clause-holds : goal.returns-else-old-start-clause-holds
returns-else-old-start-clause-holds t c =
    let split : IsSplit c.args.len c.in-Some.s = c.in-Some.ensures.1 in
    let past : c.args.old < c.args.start + c.args.len = omega (arith, c.requires.to, c.if-start-len.false) in
    let n = behind_parts c.args.old c.args.start c.args.len c.in-Some.s past split in
    let none = behind_none c.args.old c.args.start c.in-Some.s (omega (arith, c.if-old-start.false)) in
    let l : c.children-left.result.0 ≡ left_child (node_at c.args.nodes.now.nodes c.args.place).below = c.children-left.ensures.left ∙ ap (λ (x : Node). left_child x.below) c.node.ensures in
    let r : c.children-left.result.1 ≡ right_child (node_at c.args.nodes.now.nodes c.args.place).below = c.children-left.ensures.right ∙ ap (λ (x : Node). right_child x.below) c.node.ensures in
    λ whole h. grown_fork (kept_or_fit c.args.degree c.args.xs.now (segs_of whole)) c.args.nodes.now.nodes c.grow_nodes-right.new.nodes.nodes c.grow_nodes-right.new.nodes.nodes c.put-fork-else-old-start.new.self.nodes c.put-fork-else-old-start.result c.args.start c.args.len c.in-Some.s c.args.xs.now _ split
    (rw l (old_holds c.args.degree c.args.nodes.now.nodes _ c.args.start c.in-Some.s c.args.old c.args.xs.now whole h.over h.front (omega (arith, c.if-old-start.false)) (old_left c.args.nodes.now.nodes c.args.place c.args.start c.args.old c.args.len c.in-Some.s c.args.xs.now whole h split (omega (arith, c.if-old-start.false)) c.requires.to)))
    (c.grow_nodes-right.ensures.holds whole (rw r (old_right c.args.nodes.now.nodes c.args.place c.args.start c.args.old c.args.len c.in-Some.s c.args.xs.now whole h split (omega (arith, c.if-old-start.false)) c.requires.to)))
    c.grow_nodes-right.ensures.extends (Extends_refl _) c.put-fork-else-old-start.ensures.put
    (seg_is c.args.degree c.args.start c.args.len (c.args.start + c.args.len) c.args.old c.args.xs.now whole c.fit-seg.result h.over past refl c.fit-seg.ensures.fit) tt
