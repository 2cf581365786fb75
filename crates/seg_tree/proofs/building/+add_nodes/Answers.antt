use Rattle.std.proofs.Common.{◌≡◌, ◌+◌, ◌-◌, length, arith, subst, sym, ap}
use Rattle.segment.specs.Shape.{plan, count, IsSplit}
use Rattle.segment.specs.Measure.{AreReadings}
use Rattle.segment.specs.declared.segments.Seg.{Seg}
use Rattle.segment.proofs.ShapeLaws.{count-leaf, count-fork}
use Rattle.segment.proofs.ReadingLaws.{AreReadings-take, AreReadings-drop}
use Rattle.seg_tree.proofs.Extended.{Extends_refl}
use Rattle.seg_tree.proofs.Added.{added_leaf, added_fork, added_part}
use Rattle.seg_tree.proofs.building.+add_nodes.Goals as goal

pub put-leaf-requires-clause-few : goal.put-leaf-requires-clause-few
put-leaf-requires-clause-few t c =
    let len : c.fit-seg.result.len ≡ length c.args.xs.now = ap (λ (g : Seg). g.len) c.fit-seg.ensures.fit in
    let one = count-leaf c.args.start (length c.args.xs.now) (omega (arith, c.in-None.ensures)) in
    omega (arith, one, c.requires.room)

pub put-leaf-requires-clause-spare : goal.put-leaf-requires-clause-spare
put-leaf-requires-clause-spare t c =
    let len : c.fit-seg.result.len ≡ length c.args.xs.now = ap (λ (g : Seg). g.len) c.fit-seg.ensures.fit in
    let one = count-leaf c.args.start (length c.args.xs.now) (omega (arith, c.in-None.ensures)) in
    omega (arith, one, c.requires.spare)

pub add_nodes-left-requires : goal.add_nodes-left-requires
add_nodes-left-requires t c =
    let len : c.fit-seg.result.len ≡ length c.args.xs.now = ap (λ (g : Seg). g.len) c.fit-seg.ensures.fit in
    let parts : IsSplit (length c.args.xs.now) c.in-Some.s = subst (λ n. IsSplit n c.in-Some.s) len c.in-Some.ensures.1 in
    let n = count-fork c.args.start (length c.args.xs.now) c.in-Some.s parts in
    let s : length c.split_at.result.0.now ≡ c.in-Some.s = c.split_at.ensures.front_len in
    let same_l : count (plan c.args.start (length c.split_at.result.0.now)) ≡ count (plan c.args.start c.in-Some.s) = ap (λ k. count (plan c.args.start k)) s in
    let r : length c.split_at.result.1.now ≡ length c.args.xs.now - c.in-Some.s = omega (arith, c.split_at.ensures.back_len) in
    let same_r : count (plan (c.args.start + c.in-Some.s) (length c.split_at.result.1.now)) ≡ count (plan (c.args.start + c.in-Some.s) (length c.args.xs.now - c.in-Some.s)) = ap (λ k. count (plan (c.args.start + c.in-Some.s) k)) r in
    (omega (arith, c.decreases, parts.below), (omega (arith, parts.below, parts.greatest), (omega (arith, parts.below), (subst AreReadings (sym c.split_at.ensures.front) (AreReadings-take c.args.xs.now c.in-Some.s c.requires.small), (c.requires.degree, (omega (arith, n, same_l), omega (arith, n, same_l, c.requires.spare)))))))

pub add_nodes-right-requires : goal.add_nodes-right-requires
add_nodes-right-requires t c =
    let len : c.fit-seg.result.len ≡ length c.args.xs.now = ap (λ (g : Seg). g.len) c.fit-seg.ensures.fit in
    let parts : IsSplit (length c.args.xs.now) c.in-Some.s = subst (λ n. IsSplit n c.in-Some.s) len c.in-Some.ensures.1 in
    let n = count-fork c.args.start (length c.args.xs.now) c.in-Some.s parts in
    let s : length c.split_at.result.0.now ≡ c.in-Some.s = c.split_at.ensures.front_len in
    let same_l : count (plan c.args.start (length c.split_at.result.0.now)) ≡ count (plan c.args.start c.in-Some.s) = ap (λ k. count (plan c.args.start k)) s in
    let r : length c.split_at.result.1.now ≡ length c.args.xs.now - c.in-Some.s = omega (arith, c.split_at.ensures.back_len) in
    let same_r : count (plan (c.args.start + c.in-Some.s) (length c.split_at.result.1.now)) ≡ count (plan (c.args.start + c.in-Some.s) (length c.args.xs.now - c.in-Some.s)) = ap (λ k. count (plan (c.args.start + c.in-Some.s) k)) r in
    (omega (arith, c.decreases, parts.below, parts.power), (omega (arith, parts.below, parts.greatest), (omega (arith, parts.below, r), (subst AreReadings (sym c.split_at.ensures.back) (AreReadings-drop c.args.xs.now c.in-Some.s c.requires.small), (c.requires.degree, (omega (arith, n, same_l, same_r, c.add_nodes-left.ensures.count), omega (arith, n, same_l, same_r, c.add_nodes-left.ensures.spare, c.requires.spare)))))))

pub put-fork-requires-clause-few : goal.put-fork-requires-clause-few
put-fork-requires-clause-few t c =
    let len : c.fit-seg.result.len ≡ length c.args.xs.now = ap (λ (g : Seg). g.len) c.fit-seg.ensures.fit in
    let parts : IsSplit (length c.args.xs.now) c.in-Some.s = subst (λ n. IsSplit n c.in-Some.s) len c.in-Some.ensures.1 in
    let n = count-fork c.args.start (length c.args.xs.now) c.in-Some.s parts in
    let s : length c.split_at.result.0.now ≡ c.in-Some.s = c.split_at.ensures.front_len in
    let same_l : count (plan c.args.start (length c.split_at.result.0.now)) ≡ count (plan c.args.start c.in-Some.s) = ap (λ k. count (plan c.args.start k)) s in
    let r : length c.split_at.result.1.now ≡ length c.args.xs.now - c.in-Some.s = omega (arith, c.split_at.ensures.back_len) in
    let same_r : count (plan (c.args.start + c.in-Some.s) (length c.split_at.result.1.now)) ≡ count (plan (c.args.start + c.in-Some.s) (length c.args.xs.now - c.in-Some.s)) = ap (λ k. count (plan (c.args.start + c.in-Some.s) k)) r in
    omega (arith, n, same_l, same_r, c.add_nodes-left.ensures.count, c.add_nodes-right.ensures.count, c.requires.room)

pub put-fork-requires-clause-spare : goal.put-fork-requires-clause-spare
put-fork-requires-clause-spare t c =
    let len : c.fit-seg.result.len ≡ length c.args.xs.now = ap (λ (g : Seg). g.len) c.fit-seg.ensures.fit in
    let parts : IsSplit (length c.args.xs.now) c.in-Some.s = subst (λ n. IsSplit n c.in-Some.s) len c.in-Some.ensures.1 in
    let n = count-fork c.args.start (length c.args.xs.now) c.in-Some.s parts in
    let s : length c.split_at.result.0.now ≡ c.in-Some.s = c.split_at.ensures.front_len in
    let same_l : count (plan c.args.start (length c.split_at.result.0.now)) ≡ count (plan c.args.start c.in-Some.s) = ap (λ k. count (plan c.args.start k)) s in
    let r : length c.split_at.result.1.now ≡ length c.args.xs.now - c.in-Some.s = omega (arith, c.split_at.ensures.back_len) in
    let same_r : count (plan (c.args.start + c.in-Some.s) (length c.split_at.result.1.now)) ≡ count (plan (c.args.start + c.in-Some.s) (length c.args.xs.now - c.in-Some.s)) = ap (λ k. count (plan (c.args.start + c.in-Some.s) k)) r in
    omega (arith, n, same_l, same_r, c.add_nodes-left.ensures.spare, c.add_nodes-right.ensures.spare, c.requires.spare)

pub returns-in-None-clause-count : goal.returns-in-None-clause-count
returns-in-None-clause-count t c =
    let len : c.fit-seg.result.len ≡ length c.args.xs.now = ap (λ (g : Seg). g.len) c.fit-seg.ensures.fit in
    let one = count-leaf c.args.start (length c.args.xs.now) (omega (arith, c.in-None.ensures)) in
    omega (arith, one, c.put-leaf.ensures.put.one_more)

pub returns-in-None-clause-spare : goal.returns-in-None-clause-spare
returns-in-None-clause-spare t c =
    let len : c.fit-seg.result.len ≡ length c.args.xs.now = ap (λ (g : Seg). g.len) c.fit-seg.ensures.fit in
    let one = count-leaf c.args.start (length c.args.xs.now) (omega (arith, c.in-None.ensures)) in
    omega (arith, one, c.put-leaf.ensures.spare)

pub returns-in-None-clause-holds : goal.returns-in-None-clause-holds
returns-in-None-clause-holds t c =
    let len : c.fit-seg.result.len ≡ length c.args.xs.now = ap (λ (g : Seg). g.len) c.fit-seg.ensures.fit in
    let one = count-leaf c.args.start (length c.args.xs.now) (omega (arith, c.in-None.ensures)) in
    added_leaf c.args.degree c.args.nodes.now.nodes c.put-leaf.new.self.nodes c.put-leaf.result c.args.start c.args.xs.now _ (omega (arith, c.in-None.ensures)) c.put-leaf.ensures.put c.fit-seg.ensures.fit (omega (arith, c.block.ensures.len)) c.block.ensures.front

pub returns-in-Some-clause-count : goal.returns-in-Some-clause-count
returns-in-Some-clause-count t c =
    let len : c.fit-seg.result.len ≡ length c.args.xs.now = ap (λ (g : Seg). g.len) c.fit-seg.ensures.fit in
    let parts : IsSplit (length c.args.xs.now) c.in-Some.s = subst (λ n. IsSplit n c.in-Some.s) len c.in-Some.ensures.1 in
    let n = count-fork c.args.start (length c.args.xs.now) c.in-Some.s parts in
    let s : length c.split_at.result.0.now ≡ c.in-Some.s = c.split_at.ensures.front_len in
    let same_l : count (plan c.args.start (length c.split_at.result.0.now)) ≡ count (plan c.args.start c.in-Some.s) = ap (λ k. count (plan c.args.start k)) s in
    let r : length c.split_at.result.1.now ≡ length c.args.xs.now - c.in-Some.s = omega (arith, c.split_at.ensures.back_len) in
    let same_r : count (plan (c.args.start + c.in-Some.s) (length c.split_at.result.1.now)) ≡ count (plan (c.args.start + c.in-Some.s) (length c.args.xs.now - c.in-Some.s)) = ap (λ k. count (plan (c.args.start + c.in-Some.s) k)) r in
    omega (arith, n, same_l, same_r, c.add_nodes-left.ensures.count, c.add_nodes-right.ensures.count, c.put-fork.ensures.put.one_more)

pub returns-in-Some-clause-spare : goal.returns-in-Some-clause-spare
returns-in-Some-clause-spare t c =
    let len : c.fit-seg.result.len ≡ length c.args.xs.now = ap (λ (g : Seg). g.len) c.fit-seg.ensures.fit in
    let parts : IsSplit (length c.args.xs.now) c.in-Some.s = subst (λ n. IsSplit n c.in-Some.s) len c.in-Some.ensures.1 in
    let n = count-fork c.args.start (length c.args.xs.now) c.in-Some.s parts in
    let s : length c.split_at.result.0.now ≡ c.in-Some.s = c.split_at.ensures.front_len in
    let same_l : count (plan c.args.start (length c.split_at.result.0.now)) ≡ count (plan c.args.start c.in-Some.s) = ap (λ k. count (plan c.args.start k)) s in
    let r : length c.split_at.result.1.now ≡ length c.args.xs.now - c.in-Some.s = omega (arith, c.split_at.ensures.back_len) in
    let same_r : count (plan (c.args.start + c.in-Some.s) (length c.split_at.result.1.now)) ≡ count (plan (c.args.start + c.in-Some.s) (length c.args.xs.now - c.in-Some.s)) = ap (λ k. count (plan (c.args.start + c.in-Some.s) k)) r in
    omega (arith, n, same_l, same_r, c.add_nodes-left.ensures.spare, c.add_nodes-right.ensures.spare, c.put-fork.ensures.spare)

pub returns-in-Some-clause-holds : goal.returns-in-Some-clause-holds
returns-in-Some-clause-holds t c =
    let len : c.fit-seg.result.len ≡ length c.args.xs.now = ap (λ (g : Seg). g.len) c.fit-seg.ensures.fit in
    let parts : IsSplit (length c.args.xs.now) c.in-Some.s = subst (λ n. IsSplit n c.in-Some.s) len c.in-Some.ensures.1 in
    let n = count-fork c.args.start (length c.args.xs.now) c.in-Some.s parts in
    let s : length c.split_at.result.0.now ≡ c.in-Some.s = c.split_at.ensures.front_len in
    let same_l : count (plan c.args.start (length c.split_at.result.0.now)) ≡ count (plan c.args.start c.in-Some.s) = ap (λ k. count (plan c.args.start k)) s in
    let r : length c.split_at.result.1.now ≡ length c.args.xs.now - c.in-Some.s = omega (arith, c.split_at.ensures.back_len) in
    let same_r : count (plan (c.args.start + c.in-Some.s) (length c.split_at.result.1.now)) ≡ count (plan (c.args.start + c.in-Some.s) (length c.args.xs.now - c.in-Some.s)) = ap (λ k. count (plan (c.args.start + c.in-Some.s) k)) r in
    added_fork c.args.degree c.add_nodes-left.new.nodes.nodes c.add_nodes-right.new.nodes.nodes c.add_nodes-right.new.nodes.nodes c.put-fork.new.self.nodes c.put-fork.result c.args.start c.in-Some.s c.args.xs.now _ parts
    (added_part c.args.degree _ _ _ _ _ _ c.split_at.ensures.front c.split_at.ensures.front_len c.add_nodes-left.ensures.holds)
    (added_part c.args.degree _ _ _ _ _ _ c.split_at.ensures.back r c.add_nodes-right.ensures.holds)
    c.add_nodes-right.ensures.extends (Extends_refl _) c.put-fork.ensures.put c.fit-seg.ensures.fit tt
