-- Laws of the operations on intervals.
use Rattle.std.proofs.Common.{refl, rules, ◌≡◌, ℕ, suc, ◌*◌, ◌≤◌, ℤ, pos, negsuc, ◌*ℤ◌, ◌+ℤ◌, ◌-ℤ◌, ◌≤ℤ◌, ◌<ℤ◌, unsigned_abs, arith, mul-le-mul_left, mul-le-mul}
use Rattle.std.specs.Prelude.{◌↔◌, Option, Some, None, IsNone, IfSome}
use Rattle.std.specs.Int.{int_max, int_min}
use Rattle.std.proofs.lemmas.Int.{ints, clamps}
use borrow.Author.Differences.{le_out}
use Rattle.semantics.proofs.Ring.{*ℤ_comm}
use Rattle.interval.specs.Interval.{Interval, Has, IsOrdered, IsWithin, ShareNone, sum_of, difference_of, least_of, greatest_of, around_of, product_of, meet_of}

pub sum_holds : (a b : Interval) (x y : ℤ) → Has a x → Has b y → Has (sum_of a b) (x +ℤ y)
sum_holds a b x y hx hy = record { low = omega (arith, ints, hx.low, hy.low); high = omega (arith, ints, hx.high, hy.high) }

pub difference_holds : (a b : Interval) (x y : ℤ) → Has a x → Has b y → Has (difference_of a b) (x -ℤ y)
difference_holds a b x y hx hy = record { low = omega (arith, ints, hx.low, hy.high); high = omega (arith, ints, hx.high, hy.low) }

pub meet_holds : (a b : Interval) (v : ℤ) → Has (meet_of a b) v ↔ (Has a v × Has b v)
meet_holds a b v = (
  (λ h. (record { low = omega (arith, ints, clamps, h.low); high = omega (arith, ints, clamps, h.high) }, record { low = omega (arith, ints, clamps, h.low); high = omega (arith, ints, clamps, h.high) })),
  (λ (g, h). record { low = omega (arith, ints, clamps, g.low, h.low); high = omega (arith, ints, clamps, g.high, h.high) }),
)

-- where the ends of what both have are crossed, they share no number
pub crossed : (a b : Interval) → (meet_of a b).hi <ℤ (meet_of a b).lo → ShareNone a b
crossed a b h v g k = omega (arith, ints, clamps, g.low, g.high, k.low, k.high)

pub shared : (a b : Interval) → IsOrdered (meet_of a b) → ShareNone a b → ⊥
shared a b h none =
    let both = (meet_holds a b (meet_of a b).lo).0 (record { low = omega (arith, ints); high = h }) in
    none (meet_of a b).lo both.0 both.1

not_crossed : (x y : ℤ) → (y <ℤ x → ⊥) → x ≤ℤ y
not_crossed x y h = grind (arith, ints)

-- what is known of a meet that is made of its ends
pub record IsMeet (a b : Interval) (r : Option Interval) : Type 0 where
  pub none : IsNone r ↔ ShareNone a b
  pub ends : IfSome r (λ iv. iv ≡ meet_of a b)
  pub ordered : IfSome r IsOrdered
  pub shared : IfSome r (λ iv. (v : ℤ) → Has iv v ↔ (Has a v × Has b v))

pub meet_from : (a b : Interval) (r : Option Interval) → (IsNone r ↔ ((meet_of a b).hi <ℤ (meet_of a b).lo)) → IfSome r (λ iv. iv ≡ meet_of a b) → IsMeet a b r
meet_from a b None none ends = record { none = ((λ h. crossed a b (none.0 h)), (λ h. refl)); ends = search rules; ordered = search rules; shared = search rules }
meet_from a b (Some r) none ends =
    let ordered : IsOrdered (meet_of a b) = not_crossed (meet_of a b).lo (meet_of a b).hi (λ h. let some = none.1 h in cc) in
    record { none = ((λ h. cc), (λ share. absurd (shared a b ordered share))); ends = ends; ordered = rw ends ordered; shared = λ v. rw ends (meet_holds a b v) }

-- ---- products

-- a product with a number from 0 up grows with the other factor, and one with a number below 0 falls
rises : (m : ℕ) (c y : ℤ) → c ≤ℤ y → (pos m *ℤ c) ≤ℤ (pos m *ℤ y)
rises m c y h = omega (arith, ints, mul-le-mul_left m (le_out c y h))

falls : (m : ℕ) (c y : ℤ) → c ≤ℤ y → (negsuc m *ℤ y) ≤ℤ (negsuc m *ℤ c)
falls m c y h = omega (arith, ints, mul-le-mul_left (suc m) (le_out c y h))

-- so it lies between the products with the ends
record IsBetween (v p q : ℤ) : Type 0 where
  pub low : int_min p q ≤ℤ v
  pub high : v ≤ℤ int_max p q

between : (t y c d : ℤ) → c ≤ℤ y → y ≤ℤ d → IsBetween (t *ℤ y) (t *ℤ c) (t *ℤ d)
between (pos m) y c d h k = let p = rises m c y h in let q = rises m y d k in record { low = omega (arith, ints, clamps, p, q); high = omega (arith, ints, clamps, p, q) }
between (negsuc m) y c d h k = let p = falls m c y h in let q = falls m y d k in record { low = omega (arith, ints, clamps, p, q); high = omega (arith, ints, clamps, p, q) }

between_left : (t y c d : ℤ) → c ≤ℤ y → y ≤ℤ d → IsBetween (y *ℤ t) (c *ℤ t) (d *ℤ t)
between_left t y c d h k = rw (*ℤ_comm c t, *ℤ_comm d t, *ℤ_comm y t) (between t y c d h k)

pub product_holds : (a b : Interval) (x y : ℤ) → Has a x → Has b y → Has (product_of a b) (x *ℤ y)
product_holds a b x y hx hy =
    let p = between a.lo y b.lo b.hi hy.low hy.high in
    let q = between a.hi y b.lo b.hi hy.low hy.high in
    let r = between_left y x a.lo a.hi hx.low hx.high in
    record { low = omega (arith, ints, clamps, p.low, q.low, r.low); high = omega (arith, ints, clamps, p.high, q.high, r.high) }

pub product_from : (a b : Interval) (p q r s : ℤ) → p ≡ a.lo *ℤ b.lo → q ≡ a.lo *ℤ b.hi → r ≡ a.hi *ℤ b.lo → s ≡ a.hi *ℤ b.hi → around_of p q r s ≡ product_of a b
product_from a b p q r s e f g h = rw (e, f, g, h) refl

below_all : (z p q r s : ℤ) → z ≤ℤ p → z ≤ℤ q → z ≤ℤ r → z ≤ℤ s → z ≤ℤ least_of p q r s
below_all z p q r s h1 h2 h3 h4 = omega (arith, ints, clamps)

above_all : (z p q r s : ℤ) → p ≤ℤ z → q ≤ℤ z → r ≤ℤ z → s ≤ℤ z → greatest_of p q r s ≤ℤ z
above_all z p q r s h1 h2 h3 h4 = omega (arith, ints, clamps)

-- each interval that holds all products holds that of the ends
pub product_least : (a b : Interval) → IsOrdered a → IsOrdered b → (z : Interval) → ((x y : ℤ) → Has a x → Has b y → Has z (x *ℤ y)) → IsWithin (product_of a b) z
product_least a b ha hb z h =
    let al : Has a a.lo = record { low = omega (arith, ints); high = ha } in
    let ah : Has a a.hi = record { low = ha; high = omega (arith, ints) } in
    let bl : Has b b.lo = record { low = omega (arith, ints); high = hb } in
    let bh : Has b b.hi = record { low = hb; high = omega (arith, ints) } in
    record {
      low = below_all z.lo _ _ _ _ (h a.lo b.lo al bl).low (h a.lo b.hi al bh).low (h a.hi b.lo ah bl).low (h a.hi b.hi ah bh).low;
      high = above_all z.hi _ _ _ _ (h a.lo b.lo al bl).high (h a.lo b.hi al bh).high (h a.hi b.lo ah bl).high (h a.hi b.hi ah bh).high;
    }

-- ---- bounds

pub product_within : (a b m n k : ℕ) → m * n ≤ k → a ≤ m → b ≤ n → a * b ≤ k
product_within a b m n k h p q = let r : a * b ≤ m * n = mul-le-mul p q in omega arith

-- the ends of what lies around four numbers
pub record AreEnds (a b c d : ℤ) (n : ℕ) : Type 0 where
  pub ordered : least_of a b c d ≤ℤ greatest_of a b c d
  pub low : unsigned_abs (least_of a b c d) ≤ n
  pub high : unsigned_abs (greatest_of a b c d) ≤ n

pub ends_of : (a b c d : ℤ) (n : ℕ) → unsigned_abs a ≤ n → unsigned_abs b ≤ n → unsigned_abs c ≤ n → unsigned_abs d ≤ n → AreEnds a b c d n
ends_of a b c d n h1 h2 h3 h4 = record { ordered = omega (arith, ints, clamps); low = omega (arith, ints, clamps); high = omega (arith, ints, clamps) }
