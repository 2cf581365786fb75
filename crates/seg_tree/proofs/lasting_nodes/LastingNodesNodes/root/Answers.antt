use Rattle.std.proofs.Common.{◌<◌, ap, ◌∙◌, subst, arith, length}
use Rattle.std.specs.List.{All}
use Rattle.std.proofs.lemmas.List.{length-map}
use Rattle.std.proofs.lemmas.List.Elements.{All-get_or}
use Rattle.seg_tree.specs.Held.{Held}
use Rattle.seg_tree.specs.Reached.{Reached, len_of}
use Rattle.seg_tree.specs.Trees.{IsTreeOf}
use Rattle.seg_tree.proofs.ReachedNodes.{IsRootAt, root_is, root_none, for_some, no_tree}
use Rattle.seg_tree.proofs.lasting_nodes.LastingNodesNodes.root.Goals as goal

pub root_of-requires : goal.root_of-requires
root_of-requires c =
    let nodes = ap (λ (h : Held). h.nodes) c.arena.view_is in
    let trees = ap (λ (s : Reached). s.trees) c.self.view_is in
    let within : c.args.series < length c.self.inside.trees.now = omega (arith, c.requires, length-map c.args.self.now.trees len_of, ap length trees) in
    rw nodes (All-get_or (IsTreeOf c.self.inside.arena.now.nodes) c.self.inside.trees.now c.args.series no_tree within c.self.invariant.1)

pub returns-clause-none : goal.returns-clause-none
returns-clause-none c =
    let trees = ap (λ (s : Reached). s.trees) c.self.view_is in
    let all = subst (λ (s : Reached). All (IsTreeOf s.nodes) s.trees) c.self.view_is c.self.invariant.1 in
    let within : c.args.series < length c.args.self.now.trees = omega (arith, c.requires, length-map c.args.self.now.trees len_of) in
    let iff = root_none c.args.self.now c.self.inside.trees.now c.args.series trees all within in
    (λ none. iff.0 (c.root_of.ensures.none.0 none), λ empty. c.root_of.ensures.none.1 (iff.1 empty))

pub returns-clause-stands : goal.returns-clause-stands
returns-clause-stands c =
    let nodes = ap (λ (h : Held). h.nodes) c.arena.view_is ∙ ap (λ (s : Reached). s.nodes) c.self.view_is in
    let trees = ap (λ (s : Reached). s.trees) c.self.view_is in
    let all = subst (λ (s : Reached). All (IsTreeOf s.nodes) s.trees) c.self.view_is c.self.invariant.1 in
    let within : c.args.series < length c.args.self.now.trees = omega (arith, c.requires, length-map c.args.self.now.trees len_of) in
    let is = root_is c.args.self.now c.arena.inside.nodes.nodes c.self.inside.trees.now c.args.series c.root_of.result nodes trees all within c.root_of.ensures.place c.root_of.ensures.seg in
    for_some (IsRootAt c.args.self.now c.args.series) _ c.root_of.result (λ r h. h.at.stands) is

pub returns-clause-starts : goal.returns-clause-starts
returns-clause-starts c =
    let nodes = ap (λ (h : Held). h.nodes) c.arena.view_is ∙ ap (λ (s : Reached). s.nodes) c.self.view_is in
    let trees = ap (λ (s : Reached). s.trees) c.self.view_is in
    let all = subst (λ (s : Reached). All (IsTreeOf s.nodes) s.trees) c.self.view_is c.self.invariant.1 in
    let within : c.args.series < length c.args.self.now.trees = omega (arith, c.requires, length-map c.args.self.now.trees len_of) in
    let is = root_is c.args.self.now c.arena.inside.nodes.nodes c.self.inside.trees.now c.args.series c.root_of.result nodes trees all within c.root_of.ensures.place c.root_of.ensures.seg in
    for_some (IsRootAt c.args.self.now c.args.series) _ c.root_of.result (λ r h. h.at.starts) is

pub returns-clause-spans : goal.returns-clause-spans
returns-clause-spans c =
    let nodes = ap (λ (h : Held). h.nodes) c.arena.view_is ∙ ap (λ (s : Reached). s.nodes) c.self.view_is in
    let trees = ap (λ (s : Reached). s.trees) c.self.view_is in
    let all = subst (λ (s : Reached). All (IsTreeOf s.nodes) s.trees) c.self.view_is c.self.invariant.1 in
    let within : c.args.series < length c.args.self.now.trees = omega (arith, c.requires, length-map c.args.self.now.trees len_of) in
    let is = root_is c.args.self.now c.arena.inside.nodes.nodes c.self.inside.trees.now c.args.series c.root_of.result nodes trees all within c.root_of.ensures.place c.root_of.ensures.seg in
    for_some (IsRootAt c.args.self.now c.args.series) _ c.root_of.result (λ r h. h.at.spans) is

pub returns-clause-sane : goal.returns-clause-sane
returns-clause-sane c =
    let nodes = ap (λ (h : Held). h.nodes) c.arena.view_is ∙ ap (λ (s : Reached). s.nodes) c.self.view_is in
    let trees = ap (λ (s : Reached). s.trees) c.self.view_is in
    let all = subst (λ (s : Reached). All (IsTreeOf s.nodes) s.trees) c.self.view_is c.self.invariant.1 in
    let within : c.args.series < length c.args.self.now.trees = omega (arith, c.requires, length-map c.args.self.now.trees len_of) in
    let is = root_is c.args.self.now c.arena.inside.nodes.nodes c.self.inside.trees.now c.args.series c.root_of.result nodes trees all within c.root_of.ensures.place c.root_of.ensures.seg in
    for_some (IsRootAt c.args.self.now c.args.series) _ c.root_of.result (λ r h. h.at.sane r.1 h.known) is

pub returns-clause-seg : goal.returns-clause-seg
returns-clause-seg c =
    let nodes = ap (λ (h : Held). h.nodes) c.arena.view_is ∙ ap (λ (s : Reached). s.nodes) c.self.view_is in
    let trees = ap (λ (s : Reached). s.trees) c.self.view_is in
    let all = subst (λ (s : Reached). All (IsTreeOf s.nodes) s.trees) c.self.view_is c.self.invariant.1 in
    let within : c.args.series < length c.args.self.now.trees = omega (arith, c.requires, length-map c.args.self.now.trees len_of) in
    let is = root_is c.args.self.now c.arena.inside.nodes.nodes c.self.inside.trees.now c.args.series c.root_of.result nodes trees all within c.root_of.ensures.place c.root_of.ensures.seg in
    for_some (IsRootAt c.args.self.now c.args.series) _ c.root_of.result (λ r h. λ forest means. h.at.found forest means.1) is

pub returns-clause-known : goal.returns-clause-known
returns-clause-known c =
    let nodes = ap (λ (h : Held). h.nodes) c.arena.view_is ∙ ap (λ (s : Reached). s.nodes) c.self.view_is in
    let trees = ap (λ (s : Reached). s.trees) c.self.view_is in
    let all = subst (λ (s : Reached). All (IsTreeOf s.nodes) s.trees) c.self.view_is c.self.invariant.1 in
    let within : c.args.series < length c.args.self.now.trees = omega (arith, c.requires, length-map c.args.self.now.trees len_of) in
    let is = root_is c.args.self.now c.arena.inside.nodes.nodes c.self.inside.trees.now c.args.series c.root_of.result nodes trees all within c.root_of.ensures.place c.root_of.ensures.seg in
    for_some (IsRootAt c.args.self.now c.args.series) _ c.root_of.result (λ r h. h.known) is
