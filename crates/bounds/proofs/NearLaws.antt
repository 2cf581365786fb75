-- Estimates of products, sums and differences, from estimates of their parts.
use Rattle.std.proofs.Common.{◌≡◌, ℕ, ◌+◌, ◌*◌, ◌≤◌, ℤ, pos, ◌+ℤ◌, ◌-ℤ◌, ◌*ℤ◌, unsigned_abs, ap, ◌∙◌, arith}
use Rattle.std.proofs.Math.Nat.{mul-le-mul}
use Rattle.std.proofs.lemmas.Int.{unsigned_abs-mul}
use Rattle.semantics.proofs.Ring.{diff-of, diff-same, differences, *ℤ-+ℤ, abs-+ℤ, abs--ℤ}

product_a : (s t a b p q : ℤ) → (s *ℤ t) *ℤ (a *ℤ b) -ℤ (p *ℤ q) ≡ ((s *ℤ a) *ℤ ((t *ℤ b) -ℤ q)) +ℤ (q *ℤ ((s *ℤ a) -ℤ p))
product_a s t a b p q = rw (← diff-of s, ← diff-of t, ← diff-of a, ← diff-of b, ← diff-of p, ← diff-of q) (simp differences (diff-same _ _ _ _ (omega arith)))

-- form A of a product
pub near_product : (s t a b p q : ℤ) (k xa fq ea eb : ℕ) → unsigned_abs s ≡ k → unsigned_abs ((s *ℤ a) -ℤ p) ≤ ea → unsigned_abs ((t *ℤ b) -ℤ q) ≤ eb → unsigned_abs a ≤ xa → unsigned_abs q ≤ fq → unsigned_abs ((s *ℤ t) *ℤ (a *ℤ b) -ℤ (p *ℤ q)) ≤ fq * ea + (xa * k) * eb
near_product s t a b p q k xa fq ea eb hk h1 h2 ha hq =
    let e : (s *ℤ t) *ℤ (a *ℤ b) -ℤ (p *ℤ q) ≡ ((s *ℤ a) *ℤ ((t *ℤ b) -ℤ q)) +ℤ (q *ℤ ((s *ℤ a) -ℤ p)) = product_a s t a b p q in
    let m1 : unsigned_abs a * unsigned_abs ((t *ℤ b) -ℤ q) ≤ xa * eb = mul-le-mul ha h2 in
    let m2 : unsigned_abs q * unsigned_abs ((s *ℤ a) -ℤ p) ≤ fq * ea = mul-le-mul hq h1 in
    let m3 : k * (unsigned_abs a * unsigned_abs ((t *ℤ b) -ℤ q)) ≤ k * (xa * eb) = mul-le-mul (omega arith) m1 in
    rw e (omega (
      arith,
      abs-+ℤ ((s *ℤ a) *ℤ ((t *ℤ b) -ℤ q)) (q *ℤ ((s *ℤ a) -ℤ p)),
      unsigned_abs-mul (s *ℤ a) ((t *ℤ b) -ℤ q),
      unsigned_abs-mul q ((s *ℤ a) -ℤ p),
      ap (λ n. n * unsigned_abs ((t *ℤ b) -ℤ q)) (unsigned_abs-mul s a),
      ap (λ n. n * (unsigned_abs a * unsigned_abs ((t *ℤ b) -ℤ q))) hk,
    ))

product_b : (s t a b p q : ℤ) → (s *ℤ t) *ℤ (a *ℤ b) -ℤ (p *ℤ q) ≡ ((t *ℤ b) *ℤ ((s *ℤ a) -ℤ p)) +ℤ (p *ℤ ((t *ℤ b) -ℤ q))
product_b s t a b p q = rw (← diff-of s, ← diff-of t, ← diff-of a, ← diff-of b, ← diff-of p, ← diff-of q) (simp differences (diff-same _ _ _ _ (omega arith)))

-- form B of a product
pub near_product_b : (s t a b p q : ℤ) (k xb fp ea eb : ℕ) → unsigned_abs t ≡ k → unsigned_abs ((s *ℤ a) -ℤ p) ≤ ea → unsigned_abs ((t *ℤ b) -ℤ q) ≤ eb → unsigned_abs b ≤ xb → unsigned_abs p ≤ fp → unsigned_abs ((s *ℤ t) *ℤ (a *ℤ b) -ℤ (p *ℤ q)) ≤ (xb * k) * ea + fp * eb
near_product_b s t a b p q k xb fp ea eb hk h1 h2 hb hp =
    let e : (s *ℤ t) *ℤ (a *ℤ b) -ℤ (p *ℤ q) ≡ ((t *ℤ b) *ℤ ((s *ℤ a) -ℤ p)) +ℤ (p *ℤ ((t *ℤ b) -ℤ q)) = product_b s t a b p q in
    let m1 : unsigned_abs b * unsigned_abs ((s *ℤ a) -ℤ p) ≤ xb * ea = mul-le-mul hb h1 in
    let m2 : unsigned_abs p * unsigned_abs ((t *ℤ b) -ℤ q) ≤ fp * eb = mul-le-mul hp h2 in
    let m3 : k * (unsigned_abs b * unsigned_abs ((s *ℤ a) -ℤ p)) ≤ k * (xb * ea) = mul-le-mul (omega arith) m1 in
    rw e (omega (
      arith,
      abs-+ℤ ((t *ℤ b) *ℤ ((s *ℤ a) -ℤ p)) (p *ℤ ((t *ℤ b) -ℤ q)),
      unsigned_abs-mul (t *ℤ b) ((s *ℤ a) -ℤ p),
      unsigned_abs-mul p ((t *ℤ b) -ℤ q),
      ap (λ n. n * unsigned_abs ((s *ℤ a) -ℤ p)) (unsigned_abs-mul t b),
      ap (λ n. n * (unsigned_abs b * unsigned_abs ((s *ℤ a) -ℤ p))) hk,
    ))

sum_split : (j k s t a b p q : ℤ) → ((j *ℤ s) *ℤ a) +ℤ ((k *ℤ t) *ℤ b) -ℤ ((j *ℤ p) +ℤ (k *ℤ q)) ≡ (j *ℤ ((s *ℤ a) -ℤ p)) +ℤ (k *ℤ ((t *ℤ b) -ℤ q))
sum_split j k s t a b p q = rw (← diff-of j, ← diff-of k, ← diff-of s, ← diff-of t, ← diff-of a, ← diff-of b, ← diff-of p, ← diff-of q) (simp differences (diff-same _ _ _ _ (omega arith)))

difference_split : (j k s t a b p q : ℤ) → ((j *ℤ s) *ℤ a) -ℤ ((k *ℤ t) *ℤ b) -ℤ ((j *ℤ p) -ℤ (k *ℤ q)) ≡ (j *ℤ ((s *ℤ a) -ℤ p)) -ℤ (k *ℤ ((t *ℤ b) -ℤ q))
difference_split j k s t a b p q = rw (← diff-of j, ← diff-of k, ← diff-of s, ← diff-of t, ← diff-of a, ← diff-of b, ← diff-of p, ← diff-of q) (simp differences (diff-same _ _ _ _ (omega arith)))

-- two parts, brought to one rank
pub near_sum : (s t a b p q : ℤ) (m j k ea eb : ℕ) → pos m ≡ pos j *ℤ s → pos m ≡ pos k *ℤ t → unsigned_abs ((s *ℤ a) -ℤ p) ≤ ea → unsigned_abs ((t *ℤ b) -ℤ q) ≤ eb → unsigned_abs ((pos m *ℤ (a +ℤ b)) -ℤ ((pos j *ℤ p) +ℤ (pos k *ℤ q))) ≤ j * ea + k * eb
near_sum s t a b p q m j k ea eb e1 e2 h1 h2 =
    let e : ((pos m *ℤ (a +ℤ b)) -ℤ ((pos j *ℤ p) +ℤ (pos k *ℤ q))) ≡ (pos j *ℤ ((s *ℤ a) -ℤ p)) +ℤ (pos k *ℤ ((t *ℤ b) -ℤ q)) =
    ap (λ n. n -ℤ ((pos j *ℤ p) +ℤ (pos k *ℤ q))) (*ℤ-+ℤ (pos m) a b)
    ∙ ap (λ n. (n *ℤ a) +ℤ (pos m *ℤ b) -ℤ ((pos j *ℤ p) +ℤ (pos k *ℤ q))) e1
    ∙ ap (λ n. ((pos j *ℤ s) *ℤ a) +ℤ (n *ℤ b) -ℤ ((pos j *ℤ p) +ℤ (pos k *ℤ q))) e2
    ∙ sum_split (pos j) (pos k) s t a b p q in
    let m1 : j * unsigned_abs ((s *ℤ a) -ℤ p) ≤ j * ea = mul-le-mul (omega arith) h1 in
    let m2 : k * unsigned_abs ((t *ℤ b) -ℤ q) ≤ k * eb = mul-le-mul (omega arith) h2 in
    rw e (omega (arith, abs-+ℤ (pos j *ℤ ((s *ℤ a) -ℤ p)) (pos k *ℤ ((t *ℤ b) -ℤ q)), unsigned_abs-mul (pos j) ((s *ℤ a) -ℤ p), unsigned_abs-mul (pos k) ((t *ℤ b) -ℤ q)))

distribute_minus : (m a b : ℤ) → m *ℤ (a -ℤ b) ≡ (m *ℤ a) -ℤ (m *ℤ b)
distribute_minus m a b = rw (← diff-of m, ← diff-of a, ← diff-of b) (simp differences (diff-same _ _ _ _ (omega arith)))

-- two parts, brought to one rank and subtracted
pub near_difference : (s t a b p q : ℤ) (m j k ea eb : ℕ) → pos m ≡ pos j *ℤ s → pos m ≡ pos k *ℤ t → unsigned_abs ((s *ℤ a) -ℤ p) ≤ ea → unsigned_abs ((t *ℤ b) -ℤ q) ≤ eb → unsigned_abs ((pos m *ℤ (a -ℤ b)) -ℤ ((pos j *ℤ p) -ℤ (pos k *ℤ q))) ≤ j * ea + k * eb
near_difference s t a b p q m j k ea eb e1 e2 h1 h2 =
    let e : ((pos m *ℤ (a -ℤ b)) -ℤ ((pos j *ℤ p) -ℤ (pos k *ℤ q))) ≡ (pos j *ℤ ((s *ℤ a) -ℤ p)) -ℤ (pos k *ℤ ((t *ℤ b) -ℤ q)) =
    ap (λ n. n -ℤ ((pos j *ℤ p) -ℤ (pos k *ℤ q))) (distribute_minus (pos m) a b)
    ∙ ap (λ n. (n *ℤ a) -ℤ (pos m *ℤ b) -ℤ ((pos j *ℤ p) -ℤ (pos k *ℤ q))) e1
    ∙ ap (λ n. ((pos j *ℤ s) *ℤ a) -ℤ (n *ℤ b) -ℤ ((pos j *ℤ p) -ℤ (pos k *ℤ q))) e2
    ∙ difference_split (pos j) (pos k) s t a b p q in
    let m1 : j * unsigned_abs ((s *ℤ a) -ℤ p) ≤ j * ea = mul-le-mul (omega arith) h1 in
    let m2 : k * unsigned_abs ((t *ℤ b) -ℤ q) ≤ k * eb = mul-le-mul (omega arith) h2 in
    rw e (omega (arith, abs--ℤ (pos j *ℤ ((s *ℤ a) -ℤ p)) (pos k *ℤ ((t *ℤ b) -ℤ q)), unsigned_abs-mul (pos j) ((s *ℤ a) -ℤ p), unsigned_abs-mul (pos k) ((t *ℤ b) -ℤ q)))
