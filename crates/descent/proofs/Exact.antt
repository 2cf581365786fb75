-- Where no sum matters the interval of a query is a single number.
use Rattle.std.proofs.Common.{◌≡◌, ℕ, zero, suc, ◌+◌, ◌-◌, ◌*◌, ◌/◌, ◌^◌, ◌<◌, ◌≤◌, ◌⊎◌, inl, inr, false, Option, Some, None, ℤ, pos, negsuc, ◌+ℤ◌, ◌-ℤ◌, ◌*ℤ◌, ◌≤ℤ◌, unsigned_abs, List, [], ◌++◌, refl, sym, ap, ap₂, subst, ◌∙◌, arith, length, length-append, pow-suc}
use Rattle.std.specs.List.{All}
use Rattle.std.specs.Prelude.{int_lt}
use Rattle.std.proofs.lemmas.Int.{ints, clamps}
use Rattle.std.proofs.Math.Nat.{le-div_iff_mul-le, le_of_mul-le-mul_left}
use Rattle.std.proofs.lemmas.List.{get_or_append_left, get_or-append-add}
use Rattle.std.proofs.lemmas.Bool.{cases_lt, cases_Bool}
use Rattle.std.proofs.lemmas.List.Elements.{All-head}
use Rattle.semantics.specs.Plain.{IsPlain}
use Rattle.semantics.specs.Measures.{rank_of}
use Rattle.semantics.specs.Readings.{from_zero}
use Rattle.semantics.specs.Term.{QueryTerm, number, sum, variance, covariance, add, sub, mul}
use Rattle.interval.specs.Interval.{Interval, most_of, sum_of, difference_of, product_of, least_of, greatest_of}
use Rattle.semantics.specs.Quotients.{floor_of, ceil_of}
use Rattle.semantics.proofs.QuotientLaws.{floor_at_most, ceil_at_least}
use Rattle.segment.specs.Measure.{unit}
use Rattle.bounds.specs.Cut.{low_end, high_end}
use Rattle.error_prop.specs.declared.query.SumIn.{SumIn}
use Rattle.error_prop.specs.declared.query.SumLine.{SumLine}
use Rattle.error_prop.specs.Queries.{both, first_sum, interval_of, interval_over, left_sums, line_of, lines_of, most_in, right_sums}
use Rattle.descent.specs.Sums.{width_of}
use Rattle.descent.specs.Choice.{says_weight, whole_error}

pub All-left : {A : Type 0} (P : A → Type 0) (xs ys : List A) → All P (xs ++ ys) → All P xs
All-left P xs ys h = λ k d lt. subst P (get_or_append_left xs ys d k lt) (h k d (omega (arith, length-append xs ys)))

pub All-right : {A : Type 0} (P : A → Type 0) (xs ys : List A) → All P (xs ++ ys) → All P ys
All-right P xs ys h = λ k d lt. subst P (get_or-append-add xs ys k d) (h (length xs + k) d (omega (arith, length-append xs ys)))

-- the ends are one number
abbrev IsExact : Interval → Type 0
IsExact iv = iv.lo ≡ iv.hi

pub units-some : (rank : ℕ) → 0 < unit ^ rank
units-some zero = omega arith
units-some (suc rank) = omega (arith, pow-suc unit rank, units-some rank)

error-none : (e u : ℕ) → 0 < u → (e + (u - 1)) / u ≡ 0 → e ≡ 0
error-none e u some h = elim (cases_lt 0 e) [
  | inr le ↦ omega arith
  | inl lt ↦ let one : 1 ≤ (e + (u - 1)) / u = (le-div_iff_mul-le some).1 (omega arith) in absurd (omega arith)
]

le_cancel : (n : ℕ) (a b : ℤ) → 0 < n → (pos n *ℤ a) ≤ℤ (pos n *ℤ b) → a ≤ℤ b
le_cancel n (pos x) (pos y) some h = let m : n * x ≤ n * y = omega (arith, ints) in let q : x ≤ y = le_of_mul-le-mul_left m some in omega (arith, ints)
le_cancel n (pos x) (negsuc y) some h = absurd (omega (arith, ints))
le_cancel n (negsuc x) (pos y) some h = omega (arith, ints)
le_cancel n (negsuc x) (negsuc y) some h = let m : n * suc y ≤ n * suc x = omega (arith, ints) in let q : suc y ≤ suc x = le_of_mul-le-mul_left m some in omega (arith, ints)

floor_le_ceil : (z : ℤ) (n : ℕ) → 0 < n → floor_of z n ≤ℤ ceil_of z n
floor_le_ceil z n some = le_cancel n (floor_of z n) (ceil_of z n) some (omega (arith, ints, floor_at_most z n some, ceil_at_least z n some))

no-error : (estimate : ℤ) (error rank : ℕ) → error ≡ 0 → low_end estimate error rank ≤ℤ high_end estimate error rank → low_end estimate error rank ≡ high_end estimate error rank
no-error estimate error rank none order =
    let some : 0 < unit ^ rank = units-some rank in
    let e : (estimate -ℤ pos error) ≡ (estimate +ℤ pos error) = omega (arith, ints) in
    let le : high_end estimate error rank ≤ℤ low_end estimate error rank = subst (λ z. floor_of (estimate +ℤ pos error) (unit ^ rank) ≤ℤ ceil_of z (unit ^ rank)) (sym e) (floor_le_ceil (estimate +ℤ pos error) (unit ^ rank) some) in
    omega (arith, ints, order, le)

none-abs : (z : ℤ) → unsigned_abs z ≡ 0 → z ≡ pos 0
none-abs z h = omega (arith, ints)

none-most : (iv : Interval) → most_of iv ≡ 0 → (iv.lo ≡ pos 0) × (iv.hi ≡ pos 0)
none-most iv h = (none-abs iv.lo (omega arith), none-abs iv.hi (omega arith))

same-ends : (p q r s : ℤ) → p ≡ q → p ≡ r → p ≡ s → least_of p q r s ≡ greatest_of p q r s
same-ends p q r s e f g = omega (arith, ints, clamps)

zero-times : (z : ℤ) → pos 0 *ℤ z ≡ pos 0
zero-times (pos n) = omega (arith, ints)
zero-times (negsuc n) = omega (arith, ints)

times-zero : (z : ℤ) → z *ℤ pos 0 ≡ pos 0
times-zero (pos n) = omega (arith, ints)
times-zero (negsuc n) = omega (arith, ints)

zero-left : (a b : Interval) → a.lo ≡ pos 0 → a.hi ≡ pos 0 → IsExact (product_of a b)
zero-left a b l h = rw (l, h) (same-ends (pos 0 *ℤ b.lo) (pos 0 *ℤ b.hi) (pos 0 *ℤ b.lo) (pos 0 *ℤ b.hi) (zero-times b.lo ∙ sym (zero-times b.hi)) refl (zero-times b.lo ∙ sym (zero-times b.hi)))

zero-right : (a b : Interval) → b.lo ≡ pos 0 → b.hi ≡ pos 0 → IsExact (product_of a b)
zero-right a b l h = rw (l, h) (same-ends (a.lo *ℤ pos 0) (a.lo *ℤ pos 0) (a.hi *ℤ pos 0) (a.hi *ℤ pos 0) refl (times-zero a.lo ∙ sym (times-zero a.hi)) (times-zero a.lo ∙ sym (times-zero a.hi)))

both-exact : (a b : Interval) → IsExact a → IsExact b → IsExact (product_of a b)
both-exact a b l h = rw (l, h) (same-ends (a.hi *ℤ b.hi) (a.hi *ℤ b.hi) (a.hi *ℤ b.hi) (a.hi *ℤ b.hi) refl refl refl)

product-none : (m n : ℕ) → m * n ≡ 0 → (m ≡ 0) ⊎ (n ≡ 0)
product-none zero n h = inl refl
product-none (suc m) zero h = inr refl
product-none (suc m) (suc n) h = absurd (omega arith)

abbrev pub IsNothing : SumLine → Type 0
IsNothing l = says_weight l ≡ 0

-- an interval that is there has its ends in order
not-crossed : (a b : ℤ) → int_lt a b ≡ false → b ≤ℤ a
not-crossed a b h = grind (arith, ints)

record IsOrdered (est : ℤ) (err rank : ℕ) (iv : Interval) : Type 0 where
  order : low_end est err rank ≤ℤ high_end est err rank
  lo : iv.lo ≡ low_end est err rank
  hi : iv.hi ≡ high_end est err rank

ordered : (est : ℤ) (err rank : ℕ) (iv : Interval) → interval_of est err rank ≡ Some iv → IsOrdered est err rank iv
ordered est err rank iv e = elim (cases_Bool (int_lt (high_end est err rank) (low_end est err rank))) [
  | inl t ↦ let bad : None ≡ Some iv = rw t at e in cc
  | inr f ↦
      let is : Some (let x : Interval = record { lo = low_end est err rank; hi = high_end est err rank } in x) ≡ Some iv = rw f at e in
      let same : (let x : Interval = record { lo = low_end est err rank; hi = high_end est err rank } in x) ≡ iv = cc in
      record { order = not-crossed (high_end est err rank) (low_end est err rank) f; lo = ap (λ (x : Interval). x.lo) (sym same); hi = ap (λ (x : Interval). x.hi) (sym same) }
]

record AreBoth (op : Interval → Interval → Interval) (a b : Option Interval) (iv : Interval) : Type 0 where
  x : Interval
  y : Interval
  left : a ≡ Some x
  right : b ≡ Some y
  is : op x y ≡ iv

are-both : (op : Interval → Interval → Interval) (a b : Option Interval) (iv : Interval) → both op a b ≡ Some iv → AreBoth op a b iv
are-both op None b iv e = cc
are-both op (Some x) None iv e = cc
are-both op (Some x) (Some y) iv e = record { x = x; y = y; left = refl; right = refl; is = cc }

exact_over : (q : QueryTerm) (ss : List SumIn) (k : ℕ) (iv : Interval) → IsPlain q → interval_over q ss ≡ Some iv → All IsNothing (lines_of q ss k) → (k ≡ 0) ⊎ IsExact iv
exact_over (number v) ss k iv p e none = let same : (let x : Interval = record { lo = v; hi = v } in x) ≡ iv = cc in inr (ap (λ (x : Interval). x.lo) (sym same) ∙ ap (λ (x : Interval). x.hi) same)
exact_over (variance t range) ss k iv p e none = absurd p
exact_over (covariance t u range) ss k iv p e none = absurd p
exact_over (sum t range) ss k iv p e none =
    let s = first_sum ss in
    let line = line_of t s k in
    let here : k * whole_error line ≡ 0 = All-head IsNothing line [] none in
    let o = ordered s.est s.err (rank_of t) iv e in
    elim (product-none k (whole_error line) here) [
      | inl z ↦ inl z
      | inr z ↦ inr (o.lo ∙ no-error s.est s.err (rank_of t) (error-none s.err (unit ^ rank_of t) (units-some (rank_of t)) z) o.order ∙ sym o.hi)
    ]
exact_over (add p q) ss k iv pl e none =
    let ls = lines_of p (left_sums p ss) k in
    let rs = lines_of q (right_sums p ss) k in
    let h = are-both sum_of (interval_over p (left_sums p ss)) (interval_over q (right_sums p ss)) iv e in
    let a = exact_over p (left_sums p ss) k h.x pl.0 h.left (All-left IsNothing ls rs none) in
    let b = exact_over q (right_sums p ss) k h.y pl.1 h.right (All-right IsNothing ls rs none) in
    elim a [
      | inl z ↦ inl z
      | inr x ↦ elim b [
        | inl z ↦ inl z
        | inr y ↦ inr (subst IsExact h.is (ap₂ (λ m n. m +ℤ n) x y))
      ]
    ]
exact_over (sub p q) ss k iv pl e none =
    let ls = lines_of p (left_sums p ss) k in
    let rs = lines_of q (right_sums p ss) k in
    let h = are-both difference_of (interval_over p (left_sums p ss)) (interval_over q (right_sums p ss)) iv e in
    let a = exact_over p (left_sums p ss) k h.x pl.0 h.left (All-left IsNothing ls rs none) in
    let b = exact_over q (right_sums p ss) k h.y pl.1 h.right (All-right IsNothing ls rs none) in
    elim a [
      | inl z ↦ inl z
      | inr x ↦ elim b [
        | inl z ↦ inl z
        | inr y ↦ inr (subst IsExact h.is (ap₂ (λ m n. m -ℤ n) x (sym y)))
      ]
    ]
exact_over (mul p q) ss k iv pl e none =
    let mp = most_in (interval_over p (left_sums p ss)) in
    let mq = most_in (interval_over q (right_sums p ss)) in
    let ls = lines_of p (left_sums p ss) (k * mq) in
    let rs = lines_of q (right_sums p ss) (k * mp) in
    let h = are-both product_of (interval_over p (left_sums p ss)) (interval_over q (right_sums p ss)) iv e in
    let a = exact_over p (left_sums p ss) (k * mq) h.x pl.0 h.left (All-left IsNothing ls rs none) in
    let b = exact_over q (right_sums p ss) (k * mp) h.y pl.1 h.right (All-right IsNothing ls rs none) in
    let x : (k * most_of h.y ≡ 0) ⊎ IsExact h.x = subst (λ o. (k * most_in o ≡ 0) ⊎ IsExact h.x) h.right a in
    let y : (k * most_of h.x ≡ 0) ⊎ IsExact h.y = subst (λ o. (k * most_in o ≡ 0) ⊎ IsExact h.y) h.left b in
    elim (by-cases h.x h.y k x y) [
      | inl z ↦ inl z
      | inr d ↦ inr (subst IsExact h.is d)
    ]
  where
    right-zero : (iv jv : Interval) → most_of jv ≡ 0 → IsExact (product_of iv jv)
    right-zero iv jv z = let n = none-most jv z in zero-right iv jv n.0 n.1

    left-zero : (iv jv : Interval) → most_of iv ≡ 0 → IsExact (product_of iv jv)
    left-zero iv jv z = let n = none-most iv z in zero-left iv jv n.0 n.1

    by-cases : (iv jv : Interval) (k : ℕ) → ((k * most_of jv ≡ 0) ⊎ IsExact iv) → ((k * most_of iv ≡ 0) ⊎ IsExact jv) → (k ≡ 0) ⊎ IsExact (product_of iv jv)
    by-cases iv jv k (inl z) b = elim (product-none k (most_of jv) z) [
      | inl n ↦ inl n
      | inr n ↦ inr (right-zero iv jv n)
    ]
    by-cases iv jv k (inr x) (inl z) = elim (product-none k (most_of iv) z) [
      | inl n ↦ inl n
      | inr n ↦ inr (left-zero iv jv n)
    ]
    by-cases iv jv k (inr x) (inr y) = inr (both-exact iv jv x y)

width-none : (iv : Interval) → IsExact iv → width_of iv ≡ 0
width-none iv e = let z : (iv.hi -ℤ iv.lo) ≡ pos 0 = omega (arith, ints) in ap from_zero z

-- where no sum matters the width is 0
pub exact_width : (q : QueryTerm) (ss : List SumIn) (iv : Interval) → IsPlain q → interval_over q ss ≡ Some iv → All IsNothing (lines_of q ss 1) → width_of iv ≡ 0
exact_width q ss iv p e none = elim (exact_over q ss 1 iv p e none) [
  | inl z ↦ cc
  | inr x ↦ width-none iv x
]
