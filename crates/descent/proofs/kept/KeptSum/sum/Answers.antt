use Rattle.std.proofs.Common.{◌≡◌, ℕ, ℤ, ap₂, ◌∙◌, rules}
use Rattle.std.proofs.lemmas.Int.{to_z-of_z}
use mir.Val.{SFits, to_z, of_z}
use mir.Syntax.{w128}
use Rattle.error_prop.specs.declared.query.SumIn.{SumIn}
use Rattle.descent.proofs.KeptEnds.{kept-sum}
use Rattle.descent.proofs.kept.KeptSum.sum.Goals as goal

pub returns : goal.returns
returns c = λ cut s can is.
    let fits : SFits w128 c.sum.result = search rules in
    let est : to_z w128 (of_z w128 c.sum.result) ≡ c.sum.result = to_z-of_z w128 c.sum.result fits in
    ap₂ (λ (e : ℤ) (n : ℕ). let x : SumIn = record { est = e; err = n } in x) (est ∙ c.sum.ensures) c.sum-2.ensures ∙ kept-sum cut s c.args.self.now is can
