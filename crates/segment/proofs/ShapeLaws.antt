-- Laws of the shape of a tree.
use Rattle.std.proofs.Common.{◌≡◌, ℕ, zero, suc, ◌+◌, ◌-◌, ◌*◌, ◌/◌, ◌<◌, ◌≤◌, refl, ap, ◌∙◌, sym, arith, le-leb, pow-suc, pow_mono, pow_pos, length, length-append, inl, inr}
use Rattle.std.proofs.lemmas.Bool.{cases_lt, lt-leb, cond-true, cond-false}
use Rattle.segment.specs.Shape.{Plan, leaf, fork, room, plan_below, plan, IsSplit, ranges, shape, count, node_count, ShapeIsCounted}

pub room-suc : (h : ℕ) → room (suc h) ≡ 2 * room h
room-suc h = omega (arith, pow-suc 2 h)

pub room_mono : (g h : ℕ) → g ≤ h → room g ≤ room h
room_mono g h le = omega (arith, pow_mono {i = g} {j = h} le)

-- n readings fit below n levels
pub enough : (n : ℕ) → n < room n
enough zero = omega arith
enough (suc n) = omega (arith, enough n, room-suc n)

pub plan_below_low : (h start len : ℕ) → len ≤ room h → plan_below (suc h) start len ≡ plan_below h start len
unfolding plan_below
plan_below_low h start len le = cond-true _ _ _ (le-leb len (room h) le)

pub plan_below_high : (h start len : ℕ) → room h < len → plan_below (suc h) start len ≡ fork start len (plan_below h start (room h)) (plan_below h (start + room h) (len - room h))
unfolding plan_below
plan_below_high h start len lt = cond-false _ _ _ (lt-leb len (room h) lt)

raised : (g h start len : ℕ) → h ≤ g → len ≤ room h → plan_below g start len ≡ plan_below h start len
raised zero h start len le fits = let e : h ≡ zero = omega arith in ap (λ k. plan_below k start len) (sym e)
raised (suc g) h start len le fits = elim (cases_lt g h) [
  | inl top ↦ let e : suc g ≡ h = omega arith in ap (λ k. plan_below k start len) e
  | inr low ↦ plan_below_low g start len (omega (arith, room_mono h g low)) ∙ raised g h start len low fits
]

-- any two heights with room enough give the same tree
same_plan : (g h start len : ℕ) → len ≤ room g → len ≤ room h → plan_below g start len ≡ plan_below h start len
same_plan g h start len a b = elim (cases_lt g h) [
  | inl lt ↦ sym (raised h g start len (omega arith) a)
  | inr le ↦ raised g h start len le b
]

pub plan_is : (h start len : ℕ) → len ≤ room h → plan start len ≡ plan_below h start len
unfolding plan
plan_is h start len fits = same_plan len h start len (omega (arith, enough len)) fits

pub plan-leaf : (start len : ℕ) → len ≤ 16 → plan start len ≡ leaf start len
unfolding plan_below
plan-leaf start len le = plan_is 0 start len le

pub plan-fork : (start len s : ℕ) → IsSplit len s → plan start len ≡ fork start len (plan start s) (plan (start + s) (len - s))
plan-fork start len s split =
    let h = split.power.0 in
    let is : s ≡ room h = split.power.1 in
    let top : len ≤ room (suc h) = omega (arith, room-suc h, split.greatest) in
    let over : room h < len = omega (arith, split.below) in
    let left : plan start s ≡ plan_below h start (room h) = ap (plan start) is ∙ plan_is h start (room h) (omega arith) in
    let right : plan (start + s) (len - s) ≡ plan_below h (start + room h) (len - room h) = ap (λ k. plan (start + k) (len - k)) is ∙ plan_is h (start + room h) (len - room h) (omega (arith, room-suc h)) in
    plan_is (suc h) start len top ∙ plan_below_high h start len over ∙ sym (ap (λ l. fork start len l (plan (start + s) (len - s))) left ∙ ap (λ r. fork start len (plan_below h start (room h)) r) right)

-- there is one split
pub split_unique : (len s t : ℕ) → IsSplit len s → IsSplit len t → s ≡ t
split_unique len s t a b = elim (cases_lt a.power.0 b.power.0) [
  | inl lt ↦ absurd (omega (arith, a.power.1, b.power.1, a.below, b.below, a.greatest, b.greatest, room-suc a.power.0, room_mono (suc a.power.0) b.power.0 lt))
  | inr le ↦ elim (cases_lt b.power.0 a.power.0) [
    | inl lt ↦ absurd (omega (arith, a.power.1, b.power.1, a.below, b.below, a.greatest, b.greatest, room-suc b.power.0, room_mono (suc b.power.0) a.power.0 lt))
    | inr ge ↦ let e : a.power.0 ≡ b.power.0 = omega arith in a.power.1 ∙ ap room e ∙ sym b.power.1
  ]
]

pub length-ranges : (p : Plan) → length (ranges p) ≡ count p
length-ranges (leaf start len) = refl
length-ranges (fork start len l r) = omega (arith, length-append (ranges l) (ranges r), length-ranges l, length-ranges r)

pub count-leaf : (start len : ℕ) → len ≤ 16 → count (plan start len) ≡ 1
count-leaf start len le = ap count (plan-leaf start len le)

pub count-fork : (start len s : ℕ) → IsSplit len s → count (plan start len) ≡ 1 + count (plan start s) + count (plan (start + s) (len - s))
count-fork start len s split = ap count (plan-fork start len s split)

pub count-below : (h start len : ℕ) → 0 < len → len ≤ room h → count (plan_below h start len) + 1 ≡ 2 * ((len + 15) / 16)
unfolding plan_below
count-below zero start len some fits = omega arith
count-below (suc h) start len some fits = elim (cases_lt (room h) len) [
  | inr low ↦ ap (λ p. count p + 1) (plan_below_low h start len low) ∙ count-below h start len some low
  | inl high ↦
      let l = count-below h start (room h) (omega (arith, pow_pos h)) (omega arith) in
      let r = count-below h (start + room h) (len - room h) (omega arith) (omega (arith, room-suc h)) in
      ap (λ p. count p + 1) (plan_below_high h start len high) ∙ omega (arith, l, r)
]

-- a tree has one node less than twice its blocks
pub count-plan : (start len : ℕ) → 0 < len → count (plan start len) ≡ node_count len
unfolding plan
count-plan start len some = omega (arith, count-below len start len some (omega (arith, enough len)))

pub shape-plan : (n : ℕ) → 0 < n → shape n ≡ ranges (plan 0 n)
shape-plan zero some = absurd (omega arith)
shape-plan (suc n) some = refl

split-below : (h len : ℕ) → 16 < len → len ≤ room h → (s : ℕ) × IsSplit len s
split-below zero len many fits = absurd (omega arith)
split-below (suc h) len many fits = elim (cases_lt (room h) len) [
  | inr low ↦ split-below h len many low
  | inl high ↦ (room h, record { power = (h, refl); below = high; greatest = omega (arith, room-suc h) })
]

-- more than one block is split
pub split_exists : (len : ℕ) → 16 < len → (s : ℕ) × IsSplit len s
split_exists len many = split-below len len many (omega (arith, enough len))

pub shape-counted : ShapeIsCounted
shape-counted zero = refl
shape-counted (suc n) = length-ranges (plan 0 (suc n)) ∙ count-plan 0 (suc n) (omega arith)
