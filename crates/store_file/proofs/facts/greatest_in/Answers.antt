use Rattle.std.proofs.Common.{sym, refl, ◌∙◌}
use Rattle.store_file.proofs.FactLaws.{greatest-some, greatest-none, one-length}
use Rattle.store_file.proofs.facts.greatest_in.Goals as goal

pub returns-in-Ok-Some : goal.returns-in-Ok-Some
returns-in-Ok-Some c =
    let told = rw c.in-Ok-Some.field-0-is at c.in-Ok-Some.ensures.seg in
    let here = rw (one-length c.new-nodes.result c.args.tree c.new-nodes.ensures.trees) at (told _ c.new-nodes.ensures.means) in
    greatest-some c.args.arena.now.nodes c.args.tree c.in-Ok-Some.root c.requires here

pub returns-in-Ok-None : goal.returns-in-Ok-None
returns-in-Ok-None c =
    let told = rw c.in-Ok-None.field-0-is at c.in-Ok-None.ensures.none in
    greatest-none c.args.arena.now.nodes c.args.tree c.requires (sym (one-length c.new-nodes.result c.args.tree c.new-nodes.ensures.trees) ∙ told.0 refl)
