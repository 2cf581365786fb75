-- The ranges of a tree cover its readings, and so tell how many bytes it has.
use Rattle.std.proofs.Common.{◌≡◌, ℕ, zero, suc, ◌+◌, ◌-◌, ◌*◌, ◌<◌, ◌≤◌, refl, sym, ap, subst, ◌∙◌, arith, pow_pos, inl, inr}
use Rattle.std.proofs.lemmas.Bool.{cases_lt}
use Rattle.segment.specs.Shape.{Plan, leaf, fork, room, plan_below, plan, count, node_count, IsSplit}
use Rattle.segment.specs.Tree.{width}
use Rattle.segment.proofs.ShapeLaws.{room-suc, enough, plan_below_low, plan_below_high, count-plan}
use Rattle.segment.proofs.TreeLaws.{width-below}
use Rattle.tree_file.specs.Image.{size, tree_size}

-- n positions from s on: no leaf is empty, and the two parts of a range make it up
abbrev pub Covers : ℕ → ℕ → Plan → Type 0
Covers s n (leaf start len) = (start ≡ s) × (len ≡ n) × (0 < n)
Covers s n (fork start len left right) = (start ≡ s) × (len ≡ n) × (width left < n) × Covers s (width left) left × Covers (s + width left) (n - width left) right

covers-below : (h s n : ℕ) → 0 < n → n ≤ room h → Covers s n (plan_below h s n)
unfolding plan_below
covers-below zero s n some fits_in = (refl, refl, some)
covers-below (suc h) s n some fits_in = elim (cases_lt (room h) n) [
  | inr low ↦ subst (Covers s n) (sym (plan_below_low h s n low)) (covers-below h s n some low)
  | inl high ↦
      let left = plan_below h s (room h) in
      let right = plan_below h (s + room h) (n - room h) in
      let wide : width left ≡ room h = width-below h s (room h) in
      subst (Covers s n) (sym (plan_below_high h s n high)) (
        refl,
        refl,
        omega (arith, wide),
        subst (λ k. Covers s k left) (sym wide) (covers-below h s (room h) (omega (arith, pow_pos h)) (omega arith)),
        subst (λ k. Covers (s + k) (n - k) right) (sym wide) (covers-below h (s + room h) (n - room h) (omega arith) (omega (arith, room-suc h))),
      )
]

pub covers-plan : (s n : ℕ) → 0 < n → Covers s n (plan s n)
unfolding plan
covers-plan s n some = covers-below n s n some (omega (arith, enough n))

size-covers : (p : Plan) (s n : ℕ) → Covers s n p → size p ≡ 56 * count p + 4 * n
size-covers (leaf start len) s n h = omega (arith, h.1)
size-covers (fork start len l r) s n h = omega (arith, size-covers l s (width l) h.3, size-covers r (s + width l) (n - width l) h.4, h.2)

pub size-plan : (s n : ℕ) → 0 < n → size (plan s n) ≡ 56 * node_count n + 4 * n
size-plan s n some = size-covers (plan s n) s n (covers-plan s n some) ∙ ap (λ c. 56 * c + 4 * n) (count-plan s n some)

pub tree_size-plan : (n : ℕ) → 0 < n → tree_size n ≡ size (plan 0 n)
tree_size-plan zero some = absurd (omega arith)
tree_size-plan (suc n) some = refl

pub tree_size-is : (n : ℕ) → 0 < n → tree_size n ≡ 56 * node_count n + 4 * n
tree_size-is n some = tree_size-plan n some ∙ size-plan 0 n some

-- how many bytes a tree has doesn't hang on where it starts
pub size-tree_size : (s n : ℕ) → 0 < n → size (plan s n) ≡ tree_size n
size-tree_size s n some = size-plan s n some ∙ sym (tree_size-is n some)

pub split_some : (n s : ℕ) → IsSplit n s → 0 < s
split_some n s split = omega (arith, split.below, split.greatest)
