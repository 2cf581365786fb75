use Rattle.std.proofs.Common.{◌≡◌, pos, ℤ, ◌+ℤ◌, arith, SFits, w32, w64, get_or, rules, ap, sym, ◌∙◌, to_z}
use Rattle.std.proofs.lemmas.Int.{ints, to_z-of_z}
use Rattle.semantics.specs.Sums.{total_below}
use Rattle.semantics.proofs.SumLaws.{total_below-more}
use Rattle.semantics.specs.Readings.{reading}
use Rattle.segment.specs.Fit.{moment_at}
use Rattle.segment.proofs.fitting.moment_between.Goals as goal

later : (a b c : ℤ) → a +ℤ (b +ℤ c) ≡ (a +ℤ b) +ℤ c
later a b c = omega (arith, ints)

pub loop-i-preserved : goal.loop-i-preserved
loop-i-preserved c =
    let i = c.loop-i.i in
    let x : SFits w32 (get_or c.args.xs.now i (pos 0)) = search rules in
    let g : SFits w64 c.moment_of.result = search rules in
    let f : SFits w64 c.plus-sum.result = search rules in
    let m = rw (to_z-of_z w32 (get_or c.args.xs.now i (pos 0)) x) at c.moment_of.ensures.value in
    let v = rw (to_z-of_z w64 c.moment_of.result g) at c.plus-sum.ensures.value in
    let b = rw (to_z-of_z w64 c.moment_of.result g) at c.plus-sum.ensures.bound in
    let e = to_z-of_z w64 c.plus-sum.result f in
    let each = moment_at (reading c.args.xs.now) in
    let before = total_below each c.args.from in
    let sum = to_z w64 c.loop-i.sum-bits in
    record {
      sum = sym (total_below-more each i (before +ℤ sum) (before +ℤ c.plus-sum.result) c.moment_of.result (sym c.loop-i.invariant.sum) m (ap (λ z. before +ℤ z) v ∙ later before sum c.moment_of.result))
          ∙ ap (λ z. before +ℤ z) (sym e);
      small = rw e (omega (arith, b, c.moment_of.ensures.bound, c.loop-i.invariant.small));
    }
