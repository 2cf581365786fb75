use Rattle.std.proofs.Common.{rules, subst, sym}
use Rattle.std.proofs.lemmas.Int.{to_z-of_z}
use Rattle.seg_tree.specs.Held.{Held}
use Rattle.seg_tree.specs.Trees.{IsTreeAt}
use Rattle.seg_tree.proofs.LastLaws.{last-small}
use Rattle.seg_tree.proofs.arena.Arena.last_reading.Goals as goal
use mir.Syntax.{w32}
use mir.Val.{SFits}

pub returns-in-Some-clause-small : goal.returns-in-Some-clause-small
returns-in-Some-clause-small c =
    let fits : SFits w32 c.last_below.result = search rules in
    let there = subst (λ (h : Held). IsTreeAt h.nodes c.args.tree.root c.args.tree.n) (sym c.self.view_is) c.requires in
    let tree = rw c.in-Some.is at there in
    rw (to_z-of_z w32 c.last_below.result fits) (last-small c.self.inside.nodes.nodes c.in-Some.root c.args.tree.n c.last_below.result tree c.last_below.ensures)
