use Rattle.std.proofs.Common.{Some, ◌<◌, length, map, arith, ap, ◌∙◌, sym, subst}
use Rattle.segment.specs.Growth.{kept_or_fit, behind}
use Rattle.segment.specs.Shape.{Range, plan}
use Rattle.segment.specs.declared.segments.Seg.{Seg}
use Rattle.segment.specs.Tree.{IsTreeOver, readings_of, segs_of}
use Rattle.segment.proofs.ShapeLaws.{shape-plan}
use Rattle.segment.proofs.GrowthLaws.{made-behind, readings-tree_by, segs-tree_by, grown-over}
use Rattle.seg_tree.specs.Linked.{tree_at}
use Rattle.seg_tree.proofs.GrownSeries.{told_series-some}
use Rattle.seg_tree.proofs.GrownTrees.{old_whole, whole_grown}
use Rattle.seg_tree.proofs.growing.grow_tree.Goals as goal

pub grow_nodes-grown-requires-clause-room : goal.grow_nodes-grown-requires-clause-room
grow_nodes-grown-requires-clause-room c =
    let some : 0 < length c.args.xs.now = omega (arith, c.requires.tree.1.some, c.requires.more) in
    omega (arith, made-behind c.args.old (length c.args.xs.now) c.requires.more, ap (behind c.args.old) (shape-plan (length c.args.xs.now) some), c.requires.room)

pub grow_nodes-grown-requires-clause-spare : goal.grow_nodes-grown-requires-clause-spare
grow_nodes-grown-requires-clause-spare c =
    let some : 0 < length c.args.xs.now = omega (arith, c.requires.tree.1.some, c.requires.more) in
    omega (arith, made-behind c.args.old (length c.args.xs.now) c.requires.more, ap (behind c.args.old) (shape-plan (length c.args.xs.now) some), c.requires.spare)

pub returns-clause-count : goal.returns-clause-count
returns-clause-count c =
    let some : 0 < length c.args.xs.now = omega (arith, c.requires.tree.1.some, c.requires.more) in
    omega (arith, made-behind c.args.old (length c.args.xs.now) c.requires.more, ap (behind c.args.old) (shape-plan (length c.args.xs.now) some), c.grow_nodes-grown.ensures.count)

pub returns-clause-tree : goal.returns-clause-tree
returns-clause-tree c =
    let t = tree_at c.args.nodes.now.nodes c.args.root (plan 0 c.args.old) in
    let old = old_whole c.args.nodes.now.nodes c.args.root c.args.old c.args.xs.now c.requires.tree c.requires.front in
    let grown = whole_grown c.args.degree c.grow_nodes-grown.new.nodes.nodes c.grow_nodes-grown.result c.args.xs.now t (c.grow_nodes-grown.ensures.holds t old) in
    (grown.linked, subst (IsTreeOver (length c.args.xs.now)) (sym grown.content) (grown-over c.args.degree c.args.old t c.args.xs.now c.requires.tree.1 c.requires.front c.requires.more c.requires.few c.requires.small))

pub returns-clause-readings : goal.returns-clause-readings
returns-clause-readings c =
    let t = tree_at c.args.nodes.now.nodes c.args.root (plan 0 c.args.old) in
    let old = old_whole c.args.nodes.now.nodes c.args.root c.args.old c.args.xs.now c.requires.tree c.requires.front in
    let grown = whole_grown c.args.degree c.grow_nodes-grown.new.nodes.nodes c.grow_nodes-grown.result c.args.xs.now t (c.grow_nodes-grown.ensures.holds t old) in
    ap readings_of grown.content ∙ readings-tree_by (kept_or_fit c.args.degree c.args.xs.now (segs_of t)) (plan 0 (length c.args.xs.now)) c.args.xs.now

pub returns-clause-segs : goal.returns-clause-segs
returns-clause-segs c =
    let t = tree_at c.args.nodes.now.nodes c.args.root (plan 0 c.args.old) in
    let some : 0 < length c.args.xs.now = omega (arith, c.requires.tree.1.some, c.requires.more) in
    let f : Range → Seg = kept_or_fit c.args.degree c.args.xs.now (segs_of t) in
    let old = old_whole c.args.nodes.now.nodes c.args.root c.args.old c.args.xs.now c.requires.tree c.requires.front in
    let grown = whole_grown c.args.degree c.grow_nodes-grown.new.nodes.nodes c.grow_nodes-grown.result c.args.xs.now t (c.grow_nodes-grown.ensures.holds t old) in
    ap segs_of grown.content ∙ segs-tree_by f (plan 0 (length c.args.xs.now)) c.args.xs.now ∙ ap (map f) (sym (shape-plan (length c.args.xs.now) some))

pub returns-clause-told : goal.returns-clause-told
returns-clause-told c =
    let t = tree_at c.args.nodes.now.nodes c.args.root (plan 0 c.args.old) in
    let some : 0 < length c.args.xs.now = omega (arith, c.requires.tree.1.some, c.requires.more) in
    let old = old_whole c.args.nodes.now.nodes c.args.root c.args.old c.args.xs.now c.requires.tree c.requires.front in
    let grown = whole_grown c.args.degree c.grow_nodes-grown.new.nodes.nodes c.grow_nodes-grown.result c.args.xs.now t (c.grow_nodes-grown.ensures.holds t old) in
    ap Some grown.content ∙ sym (told_series-some (kept_or_fit c.args.degree c.args.xs.now (segs_of t)) c.args.xs.now some)
