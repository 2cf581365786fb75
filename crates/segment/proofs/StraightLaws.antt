-- Estimates of lines and constants, place by place.
use Rattle.std.proofs.Common.{◌≡◌, ℕ, ◌+◌, ◌*◌, ℤ, pos, ◌+ℤ◌, ◌*ℤ◌, sym, ap, ◌∙◌, arith}
use Rattle.std.proofs.lemmas.Int.{ints}
use Rattle.segment.specs.declared.curves.Curve.{Curve}
use Rattle.segment.specs.Measure.{estimate_at}
use Rattle.segment.specs.Steps.{step_at}
use Rattle.segment.proofs.StepLaws.{estimate-next}

no-times : (k : ℕ) → pos 0 *ℤ pos k ≡ pos 0
no-times k = omega (arith, ints)

no-more : (b : ℤ) → b +ℤ pos 0 ≡ b
no-more b = omega (arith, ints)

-- a line goes up by its slope
line-step : (p : Curve) (i : ℕ) → p.c ≡ pos 0 → step_at p i ≡ p.b
line-step p i straight = ap (λ c. p.b +ℤ c *ℤ pos (2 * i + 1)) straight ∙ ap (λ z. p.b +ℤ z) (no-times (2 * i + 1)) ∙ no-more p.b

pub line-next : (p : Curve) (i : ℕ) → p.c ≡ pos 0 → estimate_at p (i + 1) ≡ estimate_at p i +ℤ p.b
line-next p i straight = estimate-next p i ∙ ap (λ z. estimate_at p i +ℤ z) (line-step p i straight)

-- a constant is each estimate
level-at : (p : Curve) (i : ℕ) → p.c ≡ pos 0 → p.b ≡ pos 0 → estimate_at p i ≡ p.a
level-at p i straight level =
    ap (λ c. p.a +ℤ p.b *ℤ pos i +ℤ c *ℤ pos (i * i)) straight ∙ ap (λ b. p.a +ℤ b *ℤ pos i +ℤ pos 0 *ℤ pos (i * i)) level
    ∙ ap (λ z. p.a +ℤ z +ℤ pos 0 *ℤ pos (i * i)) (no-times i) ∙ ap (λ z. p.a +ℤ pos 0 +ℤ z) (no-times (i * i)) ∙ no-more (p.a +ℤ pos 0) ∙ no-more p.a

pub level-same : (p : Curve) (i j : ℕ) → p.c ≡ pos 0 → p.b ≡ pos 0 → estimate_at p i ≡ estimate_at p j
level-same p i j straight level = level-at p i straight level ∙ sym (level-at p j straight level)
