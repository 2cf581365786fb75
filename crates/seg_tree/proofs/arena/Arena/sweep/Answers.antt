use Rattle.std.proofs.Common.{map, ap, ◌∙◌, sym, subst}
use Rattle.std.specs.List.{All}
use Rattle.seg_tree.specs.Held.{Held}
use Rattle.seg_tree.specs.Trees.{IsTreeOf, value_of}
use Rattle.seg_tree.proofs.SweepLaws.{trees-left}
use Rattle.seg_tree.proofs.arena.Arena.sweep.Goals as goal

pub returns-clause-trees : goal.returns-clause-trees
returns-clause-trees c =
    let nodes = ap (λ (h : Held). h.nodes) c.self.view_is in
    (trees-left c.self.inside.nodes.nodes c.sweep.new.self.nodes c.args.live.now (λ q h. c.sweep.ensures.kept q ((c.sweep.ensures.reached q).1 h)) (subst (λ ns. All (IsTreeOf ns) c.args.live.now) (sym nodes) c.requires)).trees

pub returns-clause-values : goal.returns-clause-values
returns-clause-values c =
    let nodes = ap (λ (h : Held). h.nodes) c.self.view_is in
    (trees-left c.self.inside.nodes.nodes c.sweep.new.self.nodes c.args.live.now (λ q h. c.sweep.ensures.kept q ((c.sweep.ensures.reached q).1 h)) (subst (λ ns. All (IsTreeOf ns) c.args.live.now) (sym nodes) c.requires)).values
    ∙ ap (λ ns. map (value_of ns) c.args.live.now) nodes
