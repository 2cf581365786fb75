use Rattle.std.proofs.Common.{◌≡◌, ℕ, ◌+◌, ◌*◌, ◌^◌, ◌≤◌, max, pos, unsigned_abs, List, [], ◌∷◌, Some, sym, subst, arith}
use Rattle.std.proofs.Math.Nat.{mul-le-mul}
use Rattle.semantics.specs.Admission.{Fact, extent_of, greatest_at, longest}
use Rattle.semantics.specs.Admitted.{IsAdmitted}
use Rattle.semantics.specs.Measures.{units_of}
use Rattle.semantics.specs.Term.{Range, QueryTerm, base, sum, mul}
use Rattle.error_prop.specs.declared.query.SumIn.{SumIn}
use Rattle.error_prop.specs.Queries.{AreWithinFacts, IsAdmittedWith}
use Rattle.error_prop.proofs.tests.combined.Goals as goal

abbrev all : Range
all = record { left = pos 0; right = pos 1048576 }

abbrev square : List ℕ → QueryTerm
square x = mul (sum (base x) (Some all)) (sum (base x) (Some all))

grow : (a b c u e w v : ℕ) → a ≤ u → b ≤ e → c ≤ w → v ≤ a * b * c → v ≤ u * e * w
grow a b c u e w v p q r h =
    let m : a * b ≤ u * e = mul-le-mul p q in
    let n : a * b * c ≤ u * e * w = mul-le-mul m r in
    omega (arith, n, h)

wide : (c : ℕ) → 1048576 ≤ max c 1048576
wide c = omega arith

some : (d : ℕ) → 128 ≤ 128 * max 1 d
some d = omega arith

within : (facts : List Fact) (x : List ℕ) (v : ℕ) → v ≤ 2 ^ 41 → v ≤ 16384 ^ 1 * extent_of facts (base x) (Some all) * units_of (greatest_at facts) (base x)
within facts x v h = grow (16384 ^ 1) 1048576 128 (16384 ^ 1) (extent_of facts (base x) (Some all)) (units_of (greatest_at facts) (base x)) v (omega arith) (wide (longest facts (base x))) (some (greatest_at facts x)) h

admitted : (facts : List Fact) (q : QueryTerm) (x : List ℕ) (a b : SumIn) → q ≡ square x → IsAdmitted facts q → unsigned_abs a.est + a.err ≤ 2 ^ 41 → unsigned_abs b.est + b.err ≤ 2 ^ 41 → IsAdmittedWith q (a ∷ b ∷ [])
admitted facts q x a b is h f g =
    let w : AreWithinFacts facts (square x) (a ∷ b ∷ []) = (within facts x _ f, within facts x _ g) in
    record { facts = facts; admitted = h; within = subst (λ p. AreWithinFacts facts p (a ∷ b ∷ [])) (sym is) w }

pub combine-requires-clause-admitted : goal.combine-requires-clause-admitted
combine-requires-clause-admitted c = admitted _ _ c.args.x _ _ c.in_ok-q.ensures c.in_ok-admit.ensures.admitted c.sum_in.ensures c.sum_in-2.ensures
