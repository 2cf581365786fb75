use Rattle.std.proofs.Common.{◌≡◌, ◌+ℤ◌, arith, length, SFits, w64, rules, ap, sym, ◌∙◌}
use Rattle.std.specs.Int.{w128}
use Rattle.std.proofs.lemmas.Int.{to_z-of_z}
use Rattle.semantics.specs.Sums.{total_below}
use Rattle.semantics.specs.Readings.{reading}
use Rattle.segment.specs.Fit.{moment_at}
use Rattle.segment.proofs.fitting.moment.Goals as goal

pub loop-from-preserved : goal.loop-from-preserved
loop-from-preserved c =
    let p : SFits w64 c.moment_between-part.result = search rules in
    let f : SFits w128 c.plus-sum.result = search rules in
    let q : SFits w128 c.from.result = search rules in
    let same : c.from.result ≡ c.moment_between-part.result = c.from.ensures ∙ to_z-of_z w64 c.moment_between-part.result p in
    let v = rw (to_z-of_z w128 c.from.result q, same) at c.plus-sum.ensures.value in
    let b = rw (to_z-of_z w128 c.from.result q, same) at c.plus-sum.ensures.bound in
    let e = to_z-of_z w128 c.plus-sum.result f in
    record {
      within = omega arith;
      sum = e ∙ v ∙ ap (λ z. z +ℤ c.moment_between-part.result) c.loop-from.invariant.sum ∙ sym c.moment_between-part.ensures.value;
      small = rw e (omega (arith, b, c.moment_between-part.ensures.bound, c.loop-from.invariant.small));
    }

pub returns : goal.returns
returns c =
    let e : c.loop-from.from ≡ length c.args.xs.now = omega (arith, c.loop-from.invariant.within, c.loop-from-test.false) in
    record {
      value = c.loop-from.invariant.sum ∙ ap (total_below (moment_at (reading c.args.xs.now))) e;
      bound = omega (arith, e, c.loop-from.invariant.small);
    }
