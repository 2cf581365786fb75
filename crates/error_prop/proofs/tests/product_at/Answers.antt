use Rattle.std.proofs.Common.{◌≡◌, ℕ, ◌≤◌, pos, List, [], ◌∷◌, sym, subst, arith}
use Rattle.std.proofs.lemmas.Int.{ints}
use Rattle.semantics.specs.Term.{base, times}
use Rattle.segment.specs.declared.segments.Seg.{Seg}
use Rattle.segment.specs.Measure.{IsSane}
use Rattle.bounds.specs.Reads.{AreCovered}
use Rattle.error_prop.specs.Locals.{IsInRangeOver}
use Rattle.error_prop.proofs.tests.product_at.Goals as goal

abbrev turns : Seg
turns = record { start = 0; len = 32; a = pos 81920; b = pos 0; c = pos 0; l = 2621440; d = 10; f = 81920 }

abbrev steps : Seg
steps = record { start = 0; len = 3; a = pos 32768; b = pos 0; c = pos 0; l = 32768; d = 3; f = 32768 }

turns_sane : IsSane turns 10
turns_sane = record {
  bounded = record { constant = omega arith; linear = omega arith; square = omega arith };
  below_root = omega arith;
  root = omega arith;
  estimates = omega arith;
  misses = omega arith;
}

steps_sane : IsSane steps 10
steps_sane = record {
  bounded = record { constant = omega arith; linear = omega arith; square = omega arith };
  below_root = omega arith;
  root = omega arith;
  estimates = omega arith;
  misses = omega arith;
}

covered : (x y : List ℕ) → AreCovered (times (base x) (base y)) (turns ∷ steps ∷ []) (pos 2) 1
covered x y = ((omega (arith, ints), omega (arith, ints)), (omega (arith, ints), omega (arith, ints)))

in_range : (x y : List ℕ) → IsInRangeOver (times (base x) (base y)) (turns ∷ steps ∷ []) (pos 2)
in_range x y = record {
  greatest = λ name. 10;
  n = 32;
  some = omega arith;
  in_range = (omega arith, omega arith, omega arith);
  sane = ((turns_sane, omega arith), (steps_sane, omega arith));
}

pub estimate_at-estimate-requires-clause-covered : goal.estimate_at-estimate-requires-clause-covered
estimate_at-estimate-requires-clause-covered c =
    subst (λ t. AreCovered t (turns ∷ steps ∷ []) (pos 2) 1) (sym c.in_ok-product.ensures) (covered c.args.x c.args.y)

pub estimate_at-estimate-requires-clause-in_range : goal.estimate_at-estimate-requires-clause-in_range
estimate_at-estimate-requires-clause-in_range c =
    subst (λ t. IsInRangeOver t (turns ∷ steps ∷ []) (pos 2)) (sym c.in_ok-product.ensures) (in_range c.args.x c.args.y)
