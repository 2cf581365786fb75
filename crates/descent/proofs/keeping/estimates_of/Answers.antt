use Rattle.std.proofs.Common.{◌≡◌, ◌<◌, ◌+◌, ◌++◌, ◌∷◌, [], suc, length, ap, ◌∙◌, arith}
use Rattle.descent.proofs.KeepingLaws.{says-all, says-more}
use Rattle.descent.proofs.keeping.estimates_of.Goals as goal

pub loop-k-preserved : goal.loop-k-preserved
loop-k-preserved c = λ cut ss can kept.
    let k = c.loop-k.k in
    let lt : k < length c.args.kept.now = omega arith in
    let next : k + 1 ≡ suc k = omega arith in
    rw next (c.in-Ok.ensures.items ∙ ap (λ xs. xs ++ c.sum-sum.result ∷ []) (c.loop-k.invariant cut ss can kept)
    ∙ says-more cut k ss c.args.kept.now c.index-kept-k.result c.sum-sum.result can kept lt c.index-kept-k.is (λ s keep is. c.sum-sum.ensures cut s keep is))

pub returns : goal.returns
returns c = λ cut ss can kept. c.loop-k.invariant cut ss can kept ∙ says-all cut c.loop-k.k ss c.args.kept.now kept c.loop-k-test.false
