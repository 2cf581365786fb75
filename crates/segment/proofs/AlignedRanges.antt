-- The ranges of the tree over n readings are the aligned ones.
use Rattle.std.proofs.Common.{◌≡◌, ℕ, zero, suc, ◌+◌, ◌-◌, ◌*◌, ◌^◌, ◌<◌, ◌≤◌, min, List, [], ◌∷◌, ◌++◌, refl, ap, ap₂, ◌∙◌, sym, subst, arith, pow-add, mul_assoc, ◌⊎◌, inl, inr}
use Rattle.std.specs.List.{Contains}
use Rattle.std.proofs.lemmas.Bool.{cases_lt}
use Rattle.std.proofs.lemmas.List.Elements.{Contains-append_left, Contains-append_right, Contains-append_cases}
use Rattle.std.proofs.lemmas.Nat.{same_from_place}
use Rattle.segment.specs.Shape.{Range, room, plan_below, plan, ranges, IsAligned, ShapeIsAligned, WholeRoomsStay}
use Rattle.segment.proofs.ShapeLaws.{room-suc, room_mono, plan_below_low, plan_below_high, enough, plan_is}

Contains-here : {A : Type 0} (x y : A) (xs : List A) → y ≡ x → Contains (y ∷ xs) x
Contains-here x y xs e = (0, omega arith, e)

Contains-later : {A : Type 0} (x y : A) (xs : List A) → Contains xs x → Contains (y ∷ xs) x
Contains-later x y xs h = Contains-append_right (y ∷ []) xs x h

Contains-cases : {A : Type 0} (x y : A) (xs : List A) → Contains (y ∷ xs) x → (y ≡ x) ⊎ Contains xs x
Contains-cases x y xs (zero, within, here) = inl here
Contains-cases x y xs (suc k, within, here) = inr (k, omega arith, here)

Contains-none : {A : Type 0} (x : A) → Contains [] x → ⊥
Contains-none x h = absurd (omega (arith, h.1))

abbrev range : ℕ → ℕ → Range
range start len = record { start = start; len = len }

-- what is known of a part of the tree over n readings: it starts at a multiple of its room, and is that room cut at n
record IsPart (level n start len : ℕ) : Type 0 where
  row : ℕ
  at : start ≡ row * room level
  within : start < n
  cut : len ≡ min (room level) (n - start)

part_is_aligned : (h n start len : ℕ) (r : Range) → IsPart h n start len → range start len ≡ r → IsAligned n r
part_is_aligned h n start len r part e =
    let f : r.start ≡ start = sym (ap (λ (p : Range). p.start) e) in
    let g : r.len ≡ len = sym (ap (λ (p : Range). p.len) e) in
    record { level = h; row = part.row; starts = f ∙ part.at; within = omega (arith, part.within); spans = omega (arith, part.cut) }

double : (h row : ℕ) → row * room (suc h) ≡ 2 * row * room h
double h row = ap (λ k. row * k) (room-suc h) ∙ omega arith

left_part : (h n start len : ℕ) → room h < len → IsPart (suc h) n start len → IsPart h n start (room h)
left_part h n start len high part = record { row = 2 * part.row; at = part.at ∙ double h part.row; within = part.within; cut = omega (arith, part.cut, room-suc h) }

low_part : (h n start len : ℕ) → len ≤ room h → IsPart (suc h) n start len → IsPart h n start len
low_part h n start len low part = record { row = 2 * part.row; at = part.at ∙ double h part.row; within = part.within; cut = omega (arith, part.cut, room-suc h) }

right_part : (h n start len : ℕ) → room h < len → IsPart (suc h) n start len → IsPart h n (start + room h) (len - room h)
right_part h n start len high part = record { row = 2 * part.row + 1; at = omega (arith, part.at, double h part.row); within = omega (arith, part.cut, part.within); cut = omega (arith, part.cut, room-suc h) }

aligned_below : (h n start len : ℕ) (r : Range) → IsPart h n start len → Contains (ranges (plan_below h start len)) r → IsAligned n r
unfolding plan_below
aligned_below zero n start len r part has = elim (Contains-cases r (range start len) [] has) [
  | inl e ↦ part_is_aligned zero n start len r part e
  | inr none ↦ absurd (Contains-none r none)
]
aligned_below (suc h) n start len r part has = elim (cases_lt (room h) len) [
  | inr low ↦ aligned_below h n start len r (low_part h n start len low part) (subst (λ p. Contains (ranges p) r) (plan_below_low h start len low) has)
  | inl high ↦ elim (Contains-cases r (range start len) (ranges (plan_below h start (room h)) ++ ranges (plan_below h (start + room h) (len - room h))) (subst (λ p. Contains (ranges p) r) (plan_below_high h start len high) has)) [
    | inl e ↦ part_is_aligned (suc h) n start len r part e
    | inr more ↦ elim (Contains-append_cases (ranges (plan_below h start (room h))) (ranges (plan_below h (start + room h) (len - room h))) r more) [
      | inl a ↦ aligned_below h n start (room h) r (left_part h n start len high part) a
      | inr b ↦ aligned_below h n (start + room h) (len - room h) r (right_part h n start len high part) b
    ]
  ]
]

-- an aligned range at the top of a part is the part
top_same : (h n start len : ℕ) (r : Range) → IsPart h n start len → (a : IsAligned n r) → start ≤ r.start → r.start < start + room h → a.level ≡ h → range start len ≡ r
top_same h n start len r part a from to e =
    let same_room : room a.level ≡ room h = ap room e in
    let rows : a.row * room a.level ≡ a.row * room h = ap (λ k. a.row * k) same_room in
    let same = same_from_place part.row (r.start - start) a.row 0 (room h) (omega arith) (omega arith) (omega (arith, part.at, a.starts)) in
    let starts : start ≡ r.start = omega arith in
    let lens : len ≡ r.len = omega (arith, a.spans, part.cut) in
    ap₂ (λ s l. range s l) starts lens

-- a lower level serves where it is cut at n
lowered : (h n : ℕ) (r : Range) → (a : IsAligned n r) → a.level ≡ suc h → n - r.start ≤ room h → (b : IsAligned n r) × (b.level ≡ h)
lowered h n r a e small =
    let same_room : room a.level ≡ room (suc h) = ap room e in
    (record { level = h; row = 2 * a.row; starts = a.starts ∙ ap (λ k. a.row * k) same_room ∙ double h a.row; within = a.within; spans = omega (arith, a.spans, room-suc h) }, refl)

-- every aligned range inside a part, of a level that is no higher, is in the part's tree
has_below : (h n start len : ℕ) (r : Range) → IsPart h n start len → (a : IsAligned n r) → start ≤ r.start → r.start < start + room h → a.level ≤ h → Contains (ranges (plan_below h start len)) r
unfolding plan_below
has_below zero n start len r part a from to level = Contains-here r (range start len) [] (top_same zero n start len r part a from to (omega arith))
has_below (suc h) n start len r part a from to level = elim (cases_lt (room h) len) [
  | inr low ↦ subst (λ p. Contains (ranges p) r) (sym (plan_below_low h start len low)) (elim (cases_lt h a.level) [
    | inl top ↦
        let b = lowered h n r a (omega arith) (omega (arith, part.cut, room-suc h)) in
        has_below h n start len r (low_part h n start len low part) b.0 from (omega (arith, part.cut, a.within, room-suc h)) (omega (arith, b.1))
    | inr under ↦ has_below h n start len r (low_part h n start len low part) a from (omega (arith, part.cut, a.within, room-suc h)) under
  ])
  | inl high ↦
      let left = ranges (plan_below h start (room h)) in
      let right = ranges (plan_below h (start + room h) (len - room h)) in
      subst (λ p. Contains (ranges p) r) (sym (plan_below_high h start len high)) (elim (cases_lt h a.level) [
        | inl top ↦ Contains-here r (range start len) (left ++ right) (top_same (suc h) n start len r part a from to (omega arith))
        | inr under ↦ Contains-later r (range start len) (left ++ right) (elim (cases_lt r.start (start + room h)) [
          | inl before ↦ Contains-append_left left right r (has_below h n start (room h) r (left_part h n start len high part) a from before under)
          | inr after ↦ Contains-append_right left right r (has_below h n (start + room h) (len - room h) r (right_part h n start len high part) a after (omega (arith, to, room-suc h)) under)
        ])
      ])
]

whole_part : (h n : ℕ) → 0 < n → n ≤ room h → IsPart h n 0 n
whole_part h n some fits = record { row = 0; at = omega arith; within = some; cut = omega arith }

pub range_is_aligned : (n : ℕ) (r : Range) → 0 < n → Contains (ranges (plan 0 n)) r → IsAligned n r
unfolding plan
range_is_aligned n r some has = aligned_below n n 0 n r (whole_part n n some (omega (arith, enough n))) has

pub aligned_is_range : (n : ℕ) (r : Range) → IsAligned n r → Contains (ranges (plan 0 n)) r
aligned_is_range n r a =
    let h = n + a.level in
    let fits : n ≤ room h = omega (arith, enough n, room_mono n h (omega arith)) in
    let whole = plan_is h 0 n fits in
    subst (λ p. Contains (ranges p) r) (sym whole) (has_below h n 0 n r (whole_part h n (omega (arith, a.within)) fits) a (omega arith) (omega (arith, a.within, fits)) (omega arith))

-- a range that is a whole room stays when readings are added
pub whole_room_stays : (n k h : ℕ) (r : Range) → IsAligned n r → r.len ≡ room h → IsAligned (n + k) r
whole_room_stays n k h r a whole = elim (cases_lt (n - r.start) (room a.level)) [
  | inr inside ↦ record { level = a.level; row = a.row; starts = a.starts; within = omega (arith, a.within); spans = omega (arith, a.spans) }
  | inl cut ↦ elim (cases_lt h a.level) [
    | inr over ↦ absurd (omega (arith, room_mono a.level h over, a.spans))
    | inl under ↦
        let d = a.level - h in
        let split : 2 ^ a.level ≡ 2 ^ d * 2 ^ h = ap (λ e. 2 ^ e) (omega arith) ∙ pow-add 2 d h in
        let wide : room a.level ≡ 2 ^ d * room h = omega (arith, split) in
        record { level = h; row = a.row * 2 ^ d; starts = a.starts ∙ ap (λ k. a.row * k) wide ∙ sym (mul_assoc a.row (2 ^ d) (room h)); within = omega (arith, a.within); spans = omega (arith, a.spans) }
  ]
]

pub shape-aligned : ShapeIsAligned
shape-aligned zero r = (λ has. absurd (Contains-none r has), λ a. absurd (omega (arith, a.within)))
shape-aligned (suc n) r = (range_is_aligned (suc n) r (omega arith), aligned_is_range (suc n) r)

pub shape-stays : WholeRoomsStay
shape-stays n more level r has whole = (shape-aligned (n + more) r).1 (whole_room_stays n more level r ((shape-aligned n r).0 has) whole)
