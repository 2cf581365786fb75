use Rattle.std.proofs.Common.{◌≡◌, ◌-◌, ◌<◌, ◌≢◌, pos, length, length-set, get_or, arith, SFits, rules, refl, sym, ◌∙◌, below_more, get_or-set_other, get_or-set_same}
use Rattle.std.specs.Int.{w128}
use Rattle.std.proofs.lemmas.Int.{to_z-of_z}
use Rattle.poly.proofs.Products.{get_or-behind, raised_is, raised}
use Rattle.poly.specs.declared.TheConstants.{N_TERMS}
use Rattle.poly.proofs.Poly.raised.Goals as goal

pub loop-k-init : goal.loop-k-init
loop-k-init c = record { long = refl; below = λ j lt. let e : j ≡ 0 = omega arith in rw e refl }

pub loop-k-preserved : goal.loop-k-preserved
loop-k-preserved c =
    let f : SFits w128 (get_or c.args.self.now.c (c.loop-k.k - 1) (pos 0)) = search rules in
    let e = to_z-of_z w128 (get_or c.args.self.now.c (c.loop-k.k - 1) (pos 0)) f in
    record {
      long = length-set _ _ _ ∙ c.loop-k.invariant.long;
      below = below_more _ _
          (λ j h. let ne : j ≢ c.loop-k.k = omega arith in rw get_or-set_other (c.loop-k.invariant.below j h))
          (let lt : c.loop-k.k < length c.loop-k.c = omega arith in rw get_or-set_same (e ∙ sym (get_or-behind (pos 0) c.args.self.now.c c.loop-k.k (omega arith))));
    }

pub returns : goal.returns
returns c =
    let e = raised_is c.args.self.now.c c.loop-k.c (N_TERMS - 1) c.loop-k.invariant.long (omega arith) (λ j lt. c.loop-k.invariant.below j (omega arith)) in
    rw e (raised c.args.self.now.c (N_TERMS - 1) (omega arith))
