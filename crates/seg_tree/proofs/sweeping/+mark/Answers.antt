use Rattle.std.proofs.Common.{◌+◌, ◌-◌, map, subst, sym, ◌∙◌, arith}
use Rattle.segment.specs.Shape.{plan, IsSplit}
use Rattle.segment.proofs.ShapeLaws.{plan-leaf, plan-fork}
use Rattle.seg_tree.specs.Linked.{IsLinked}
use Rattle.seg_tree.specs.Slots.{held}
use Rattle.seg_tree.proofs.Extended.{IsLinked-within, fork_at}
use Rattle.seg_tree.proofs.SweepLaws.{AreMarked, used-within, marked-before, marked-leaf, marked-fork}
use Rattle.seg_tree.proofs.sweeping.+mark.Goals as goal

pub is_marked-requires : goal.is_marked-requires
is_marked-requires t c =
    let ns = map held c.args.slots.now in
    let used = IsLinked-within ns c.args.place (plan c.args.start c.args.len) c.requires.linked in
    used-within c.args.slots.now c.args.place used

pub set_mark-requires : goal.set_mark-requires
set_mark-requires t c =
    let ns = map held c.args.slots.now in
    let used = IsLinked-within ns c.args.place (plan c.args.start c.args.len) c.requires.linked in
    used-within c.args.slots.now c.args.place used

pub returns-then-is_marked-clause-marked : goal.returns-then-is_marked-clause-marked
returns-then-is_marked-clause-marked t c =
    (marked-before c.args.slots.now c.args.place (plan c.args.start c.args.len) c.requires.closed (sym c.is_marked.ensures ∙ c.if-is_marked.true) c.requires.linked).marks

pub returns-in-None-clause-nodes : goal.returns-in-None-clause-nodes
returns-in-None-clause-nodes t c =
    let is = plan-leaf c.args.start c.args.len c.in-None.ensures in
    let done = subst (AreMarked c.args.slots.now c.set_mark.new.slots c.args.place) (sym is) (marked-leaf c.args.slots.now c.set_mark.new.slots c.args.place c.args.start c.args.len c.requires.closed (subst (IsLinked (map held c.args.slots.now) c.args.place) is c.requires.linked) c.set_mark.ensures) in
    done.nodes

pub returns-in-None-clause-marked : goal.returns-in-None-clause-marked
returns-in-None-clause-marked t c =
    let is = plan-leaf c.args.start c.args.len c.in-None.ensures in
    let done = subst (AreMarked c.args.slots.now c.set_mark.new.slots c.args.place) (sym is) (marked-leaf c.args.slots.now c.set_mark.new.slots c.args.place c.args.start c.args.len c.requires.closed (subst (IsLinked (map held c.args.slots.now) c.args.place) is c.requires.linked) c.set_mark.ensures) in
    done.marks

pub returns-in-None-clause-closed : goal.returns-in-None-clause-closed
returns-in-None-clause-closed t c =
    let is = plan-leaf c.args.start c.args.len c.in-None.ensures in
    let done = subst (AreMarked c.args.slots.now c.set_mark.new.slots c.args.place) (sym is) (marked-leaf c.args.slots.now c.set_mark.new.slots c.args.place c.args.start c.args.len c.requires.closed (subst (IsLinked (map held c.args.slots.now) c.args.place) is c.requires.linked) c.set_mark.ensures) in
    done.closed

pub children-left-requires-clause-used : goal.children-left-requires-clause-used
children-left-requires-clause-used t c =
    let ns = map held c.args.slots.now in
    let split : IsSplit c.args.len c.in-Some.s = c.in-Some.ensures.1 in
    let at = fork_at ns c.args.place c.args.start c.args.len c.in-Some.s split c.requires.linked in
    at.within

pub children-left-requires-clause-fork : goal.children-left-requires-clause-fork
children-left-requires-clause-fork t c =
    let ns = map held c.args.slots.now in
    let split : IsSplit c.args.len c.in-Some.s = c.in-Some.ensures.1 in
    let at = fork_at ns c.args.place c.args.start c.args.len c.in-Some.s split c.requires.linked in
    at.forks

pub mark-requires : goal.mark-requires
mark-requires t c =
    let ns = map held c.args.slots.now in
    let split : IsSplit c.args.len c.in-Some.s = c.in-Some.ensures.1 in
    let at = fork_at ns c.args.place c.args.start c.args.len c.in-Some.s split c.requires.linked in
    (omega (arith, c.decreases, split.below), (omega (arith, split.below), (omega (arith, split.below, split.greatest), (rw c.children-left.ensures.left at.left, c.requires.closed))))

pub mark-requires-in-Some : goal.mark-requires-in-Some
mark-requires-in-Some t c =
    let ns = map held c.args.slots.now in
    let split : IsSplit c.args.len c.in-Some.s = c.in-Some.ensures.1 in
    let at = fork_at ns c.args.place c.args.start c.args.len c.in-Some.s split c.requires.linked in
    (omega (arith, c.decreases, split.below, split.greatest), (omega (arith, split.below), (omega (arith, split.below), (rw (c.mark.ensures.nodes, c.children-left.ensures.right) at.right, c.mark.ensures.closed))))

pub set_mark-requires-in-Some : goal.set_mark-requires-in-Some
set_mark-requires-in-Some t c =
    let ns = map held c.args.slots.now in
    let split : IsSplit c.args.len c.in-Some.s = c.in-Some.ensures.1 in
    let at = fork_at ns c.args.place c.args.start c.args.len c.in-Some.s split c.requires.linked in
    let same = c.mark-in-Some.ensures.nodes ∙ c.mark.ensures.nodes in
    used-within c.mark-in-Some.new.slots c.args.place (rw same at.within)

pub returns-in-Some-clause-nodes : goal.returns-in-Some-clause-nodes
returns-in-Some-clause-nodes t c =
    let ns = map held c.args.slots.now in
    let split : IsSplit c.args.len c.in-Some.s = c.in-Some.ensures.1 in
    let at = fork_at ns c.args.place c.args.start c.args.len c.in-Some.s split c.requires.linked in
    let is = plan-fork c.args.start c.args.len c.in-Some.s split in
    let l = plan c.args.start c.in-Some.s in
    let r = plan (c.args.start + c.in-Some.s) (c.args.len - c.in-Some.s) in
    let one : AreMarked c.args.slots.now c.mark.new.slots c.children-left.result.0 l = record { nodes = c.mark.ensures.nodes; marks = c.mark.ensures.marked; closed = c.mark.ensures.closed } in
    let two : AreMarked c.mark.new.slots c.mark-in-Some.new.slots c.children-left.result.1 r = record { nodes = c.mark-in-Some.ensures.nodes; marks = c.mark-in-Some.ensures.marked; closed = c.mark-in-Some.ensures.closed } in
    let done = subst (AreMarked c.args.slots.now c.set_mark-in-Some.new.slots c.args.place) (sym is)
    (marked-fork c.args.slots.now c.mark.new.slots c.mark-in-Some.new.slots c.set_mark-in-Some.new.slots c.args.place c.args.start c.args.len l r (subst (IsLinked ns c.args.place) is c.requires.linked)
    (subst (λ p. AreMarked c.args.slots.now c.mark.new.slots p l) c.children-left.ensures.left one)
    (subst (λ p. AreMarked c.mark.new.slots c.mark-in-Some.new.slots p r) c.children-left.ensures.right two) c.set_mark-in-Some.ensures) in
    done.nodes

pub returns-in-Some-clause-marked : goal.returns-in-Some-clause-marked
returns-in-Some-clause-marked t c =
    let ns = map held c.args.slots.now in
    let split : IsSplit c.args.len c.in-Some.s = c.in-Some.ensures.1 in
    let at = fork_at ns c.args.place c.args.start c.args.len c.in-Some.s split c.requires.linked in
    let is = plan-fork c.args.start c.args.len c.in-Some.s split in
    let l = plan c.args.start c.in-Some.s in
    let r = plan (c.args.start + c.in-Some.s) (c.args.len - c.in-Some.s) in
    let one : AreMarked c.args.slots.now c.mark.new.slots c.children-left.result.0 l = record { nodes = c.mark.ensures.nodes; marks = c.mark.ensures.marked; closed = c.mark.ensures.closed } in
    let two : AreMarked c.mark.new.slots c.mark-in-Some.new.slots c.children-left.result.1 r = record { nodes = c.mark-in-Some.ensures.nodes; marks = c.mark-in-Some.ensures.marked; closed = c.mark-in-Some.ensures.closed } in
    let done = subst (AreMarked c.args.slots.now c.set_mark-in-Some.new.slots c.args.place) (sym is)
    (marked-fork c.args.slots.now c.mark.new.slots c.mark-in-Some.new.slots c.set_mark-in-Some.new.slots c.args.place c.args.start c.args.len l r (subst (IsLinked ns c.args.place) is c.requires.linked)
    (subst (λ p. AreMarked c.args.slots.now c.mark.new.slots p l) c.children-left.ensures.left one)
    (subst (λ p. AreMarked c.mark.new.slots c.mark-in-Some.new.slots p r) c.children-left.ensures.right two) c.set_mark-in-Some.ensures) in
    done.marks

pub returns-in-Some-clause-closed : goal.returns-in-Some-clause-closed
returns-in-Some-clause-closed t c =
    let ns = map held c.args.slots.now in
    let split : IsSplit c.args.len c.in-Some.s = c.in-Some.ensures.1 in
    let at = fork_at ns c.args.place c.args.start c.args.len c.in-Some.s split c.requires.linked in
    let is = plan-fork c.args.start c.args.len c.in-Some.s split in
    let l = plan c.args.start c.in-Some.s in
    let r = plan (c.args.start + c.in-Some.s) (c.args.len - c.in-Some.s) in
    let one : AreMarked c.args.slots.now c.mark.new.slots c.children-left.result.0 l = record { nodes = c.mark.ensures.nodes; marks = c.mark.ensures.marked; closed = c.mark.ensures.closed } in
    let two : AreMarked c.mark.new.slots c.mark-in-Some.new.slots c.children-left.result.1 r = record { nodes = c.mark-in-Some.ensures.nodes; marks = c.mark-in-Some.ensures.marked; closed = c.mark-in-Some.ensures.closed } in
    let done = subst (AreMarked c.args.slots.now c.set_mark-in-Some.new.slots c.args.place) (sym is)
    (marked-fork c.args.slots.now c.mark.new.slots c.mark-in-Some.new.slots c.set_mark-in-Some.new.slots c.args.place c.args.start c.args.len l r (subst (IsLinked ns c.args.place) is c.requires.linked)
    (subst (λ p. AreMarked c.args.slots.now c.mark.new.slots p l) c.children-left.ensures.left one)
    (subst (λ p. AreMarked c.mark.new.slots c.mark-in-Some.new.slots p r) c.children-left.ensures.right two) c.set_mark-in-Some.ensures) in
    done.closed
