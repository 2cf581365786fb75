use Rattle.std.proofs.Common.{rules, ◌≡◌, ◌+◌, length, arith, ap, ◌∙◌, subst}
use Rattle.segment.specs.Growth.{made}
use Rattle.segment.specs.Shape.{node_count}
use Rattle.segment.proofs.GrowthLaws.{made-whole, few-made, made-self}
use Rattle.seg_tree.specs.Linked.{used}
use Rattle.seg_tree.proofs.GrownSeries.{grown_tree-none}
use Rattle.seg_tree.proofs.GrownTrees.{tree-few}
use Rattle.seg_tree.specs.Trees.{IsTreeAt}
use Rattle.seg_tree.proofs.arena.Arena.append.Goals as goal

pub returns-in_default-clause-count : goal.returns-in_default-clause-count
returns-in_default-clause-count c =
    let empty : c.args.tree.n ≡ 0 = subst (λ o. IsTreeAt c.args.self.now.nodes o c.args.tree.n) c.in_default.is c.requires.of_arena in
    let long : c.args.tree.n + length c.args.xs.now ≡ length c.args.xs.now = omega arith in
    let m : made c.args.tree.n (c.args.tree.n + length c.args.xs.now) ≡ node_count (length c.args.xs.now) = ap (made c.args.tree.n) long ∙ ap (λ k. made k (length c.args.xs.now)) empty ∙ made-whole (length c.args.xs.now) in
    rw m c.build.ensures.count

pub returns-in_default-clause-full : goal.returns-in_default-clause-full
returns-in_default-clause-full c =
    let empty : c.args.tree.n ≡ 0 = subst (λ o. IsTreeAt c.args.self.now.nodes o c.args.tree.n) c.in_default.is c.requires.of_arena in
    let long : c.args.tree.n + length c.args.xs.now ≡ length c.args.xs.now = omega arith in
    let m : made c.args.tree.n (c.args.tree.n + length c.args.xs.now) ≡ node_count (length c.args.xs.now) = ap (made c.args.tree.n) long ∙ ap (λ k. made k (length c.args.xs.now)) empty ∙ made-whole (length c.args.xs.now) in
    rw (m, long) c.build.ensures.full

pub returns-clause-few : goal.returns-clause-few
returns-clause-few c =
    let count : used c.grow_tree.new.nodes.nodes ≡ used c.args.self.now.nodes + made c.args.tree.n (c.args.tree.n + length c.args.xs.now) = search rules in
    omega (arith, count, few-made c.args.tree.n (length c.args.xs.now) (omega (arith, c.if-xs-tree.false, tree-few c.args.self.now.nodes c.args.tree c.requires.of_arena)))

pub returns-clause-none : goal.returns-clause-none
returns-clause-none c = λ e.
    let count : used c.grow_tree.new.nodes.nodes ≡ used c.args.self.now.nodes + made c.args.tree.n (c.args.tree.n + length c.args.xs.now) = search rules in
    let same : c.args.tree.n + length c.args.xs.now ≡ c.args.tree.n = omega (arith, e) in
    omega (arith, count, ap (made c.args.tree.n) same, made-self c.args.tree.n)

pub returns-in_default-clause-grown : goal.returns-in_default-clause-grown
returns-in_default-clause-grown c = rw (c.in_default.is, grown_tree-none c.args.self.now.degree c.args.xs.now) c.build.ensures.fitted
