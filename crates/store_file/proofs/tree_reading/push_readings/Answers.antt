use Rattle.std.proofs.Common.{◌++◌, ◌∷◌, [], ap, ◌∙◌, SFits, w32, rules}
use Rattle.std.proofs.lemmas.Int.{to_z-of_z}
use Rattle.store_file.proofs.TreeReading.{words-step}
use Rattle.store_file.proofs.tree_reading.push_readings.Goals as goal

pub loop-i-preserved : goal.loop-i-preserved
loop-i-preserved c =
    let fits : SFits w32 c.reading_at.result = search rules in
    let pushed = c.in_ok-push.ensures.items ∙ ap (λ x. c.loop-i.xs.items ++ x ∷ []) (to_z-of_z w32 c.reading_at.result fits) in
    words-step c.args.n c.loop-i.i c.args.bytes.now c.loop-i.xs.items _ _ c.reading_at.result c.loop-i-test.true c.loop-i.invariant c.reading_at.ensures pushed
