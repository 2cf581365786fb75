use Rattle.std.proofs.Common.{SFits, w64, rules, ap, sym, ◌∙◌, to_z}
use Rattle.std.proofs.lemmas.Int.{to_z-of_z}
use Rattle.segment.proofs.measures.miss_between.Goals as goal

pub miss_of_line-requires-clause-straight : goal.miss_of_line-requires-clause-straight
miss_of_line-requires-clause-straight c =
    let f : SFits w64 c.args.curve.now.c = search rules in
    sym (to_z-of_z w64 c.args.curve.now.c f) ∙ ap (to_z w64) c.if-curve-ne0.false

pub miss_of_level-requires-clause-straight : goal.miss_of_level-requires-clause-straight
miss_of_level-requires-clause-straight c =
    let f : SFits w64 c.args.curve.now.c = search rules in
    sym (to_z-of_z w64 c.args.curve.now.c f) ∙ ap (to_z w64) c.if-curve-ne0.false

pub miss_of_level-requires-clause-level : goal.miss_of_level-requires-clause-level
miss_of_level-requires-clause-level c =
    let f : SFits w64 c.args.curve.now.b = search rules in
    sym (to_z-of_z w64 c.args.curve.now.b f) ∙ ap (to_z w64) c.if-curve-ne0-2.false
