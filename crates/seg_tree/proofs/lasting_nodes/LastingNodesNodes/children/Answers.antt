use Rattle.std.proofs.Common.{ap, ◌∙◌, sym, subst, arith}
use Rattle.segment.proofs.ShapeLaws.{split_exists}
use Rattle.seg_tree.specs.Held.{Held}
use Rattle.seg_tree.specs.Reached.{Reached}
use Rattle.seg_tree.proofs.ReachedNodes.{IsForkNode, fork_node, left_is, right_is, one_length}
use Rattle.seg_tree.proofs.lasting_nodes.LastingNodesNodes.children.Goals as goal

pub children_of-requires-clause-within : goal.children_of-requires-clause-within
children_of-requires-clause-within c =
    let same = ap (λ (h : Held). h.nodes) c.arena.view_is ∙ ap (λ (s : Reached). s.nodes) c.self.view_is in
    (subst (λ ns. IsForkNode ns c.args.id) (sym same) (fork_node c.args.self.now c.args.id c.requires.0 c.requires.1 c.requires.2)).within

pub children_of-requires-clause-fork : goal.children_of-requires-clause-fork
children_of-requires-clause-fork c =
    let same = ap (λ (h : Held). h.nodes) c.arena.view_is ∙ ap (λ (s : Reached). s.nodes) c.self.view_is in
    (subst (λ ns. IsForkNode ns c.args.id) (sym same) (fork_node c.args.self.now c.args.id c.requires.0 c.requires.1 c.requires.2)).forks

pub children_of-requires-clause-left_within : goal.children_of-requires-clause-left_within
children_of-requires-clause-left_within c =
    let same = ap (λ (h : Held). h.nodes) c.arena.view_is ∙ ap (λ (s : Reached). s.nodes) c.self.view_is in
    (subst (λ ns. IsForkNode ns c.args.id) (sym same) (fork_node c.args.self.now c.args.id c.requires.0 c.requires.1 c.requires.2)).left

pub children_of-requires-clause-right_within : goal.children_of-requires-clause-right_within
children_of-requires-clause-right_within c =
    let same = ap (λ (h : Held). h.nodes) c.arena.view_is ∙ ap (λ (s : Reached). s.nodes) c.self.view_is in
    (subst (λ ns. IsForkNode ns c.args.id) (sym same) (fork_node c.args.self.now c.args.id c.requires.0 c.requires.1 c.requires.2)).right

pub returns-clause-left : goal.returns-clause-left
returns-clause-left c = λ p s h split.
    let same = ap (λ (h : Held). h.nodes) c.arena.view_is ∙ ap (λ (s : Reached). s.nodes) c.self.view_is in
    (left_is c.args.self.now c.arena.inside.nodes.nodes c.args.id c.children_of.result.left c.children_of.result.left_seg p s same c.children_of.ensures.left c.children_of.ensures.left_seg h split).stands

pub returns-clause-left_starts : goal.returns-clause-left_starts
returns-clause-left_starts c = λ p s h split.
    let same = ap (λ (h : Held). h.nodes) c.arena.view_is ∙ ap (λ (s : Reached). s.nodes) c.self.view_is in
    (left_is c.args.self.now c.arena.inside.nodes.nodes c.args.id c.children_of.result.left c.children_of.result.left_seg p s same c.children_of.ensures.left c.children_of.ensures.left_seg h split).starts

pub returns-clause-left_spans : goal.returns-clause-left_spans
returns-clause-left_spans c = λ p s h split.
    let same = ap (λ (h : Held). h.nodes) c.arena.view_is ∙ ap (λ (s : Reached). s.nodes) c.self.view_is in
    (left_is c.args.self.now c.arena.inside.nodes.nodes c.args.id c.children_of.result.left c.children_of.result.left_seg p s same c.children_of.ensures.left c.children_of.ensures.left_seg h split).spans

pub returns-clause-left_seg : goal.returns-clause-left_seg
returns-clause-left_seg c = λ p s forest h split means.
    let same = ap (λ (h : Held). h.nodes) c.arena.view_is ∙ ap (λ (s : Reached). s.nodes) c.self.view_is in
    (left_is c.args.self.now c.arena.inside.nodes.nodes c.args.id c.children_of.result.left c.children_of.result.left_seg p s same c.children_of.ensures.left c.children_of.ensures.left_seg h split).found forest means.1

pub returns-clause-left_sane : goal.returns-clause-left_sane
returns-clause-left_sane c = λ p root h known.
    let same = ap (λ (h : Held). h.nodes) c.arena.view_is ∙ ap (λ (s : Reached). s.nodes) c.self.view_is in
    let one = one_length c.args.self.now c.args.id p c.requires.0 h c.requires.1 in
    let k = split_exists p.range.len (omega (arith, c.requires.2)) in
    (left_is c.args.self.now c.arena.inside.nodes.nodes c.args.id c.children_of.result.left c.children_of.result.left_seg p k.0 same c.children_of.ensures.left c.children_of.ensures.left_seg h k.1).sane root known

pub returns-clause-right : goal.returns-clause-right
returns-clause-right c = λ p s h split.
    let same = ap (λ (h : Held). h.nodes) c.arena.view_is ∙ ap (λ (s : Reached). s.nodes) c.self.view_is in
    (right_is c.args.self.now c.arena.inside.nodes.nodes c.args.id c.children_of.result.right c.children_of.result.right_seg p s same c.children_of.ensures.right c.children_of.ensures.right_seg h split).stands

pub returns-clause-right_starts : goal.returns-clause-right_starts
returns-clause-right_starts c = λ p s h split.
    let same = ap (λ (h : Held). h.nodes) c.arena.view_is ∙ ap (λ (s : Reached). s.nodes) c.self.view_is in
    (right_is c.args.self.now c.arena.inside.nodes.nodes c.args.id c.children_of.result.right c.children_of.result.right_seg p s same c.children_of.ensures.right c.children_of.ensures.right_seg h split).starts

pub returns-clause-right_spans : goal.returns-clause-right_spans
returns-clause-right_spans c = λ p s h split.
    let same = ap (λ (h : Held). h.nodes) c.arena.view_is ∙ ap (λ (s : Reached). s.nodes) c.self.view_is in
    (right_is c.args.self.now c.arena.inside.nodes.nodes c.args.id c.children_of.result.right c.children_of.result.right_seg p s same c.children_of.ensures.right c.children_of.ensures.right_seg h split).spans

pub returns-clause-right_seg : goal.returns-clause-right_seg
returns-clause-right_seg c = λ p s forest h split means.
    let same = ap (λ (h : Held). h.nodes) c.arena.view_is ∙ ap (λ (s : Reached). s.nodes) c.self.view_is in
    (right_is c.args.self.now c.arena.inside.nodes.nodes c.args.id c.children_of.result.right c.children_of.result.right_seg p s same c.children_of.ensures.right c.children_of.ensures.right_seg h split).found forest means.1

pub returns-clause-right_sane : goal.returns-clause-right_sane
returns-clause-right_sane c = λ p root h known.
    let same = ap (λ (h : Held). h.nodes) c.arena.view_is ∙ ap (λ (s : Reached). s.nodes) c.self.view_is in
    let one = one_length c.args.self.now c.args.id p c.requires.0 h c.requires.1 in
    let k = split_exists p.range.len (omega (arith, c.requires.2)) in
    (right_is c.args.self.now c.arena.inside.nodes.nodes c.args.id c.children_of.result.right c.children_of.result.right_seg p k.0 same c.children_of.ensures.right c.children_of.ensures.right_seg h k.1).sane root known
