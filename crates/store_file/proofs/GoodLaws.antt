-- The test of a node: what it says, and how it is made.
use Rattle.std.proofs.Common.{◌≡◌, ℕ, ◌^◌, ◌<◌, ◌≤◌, nat_le, Bool, true, false, ◌&&◌, ◌==◌, ◌↔◌, IsTrue, ℤ, pos, List, length, refl, sym, ap, subst, ◌∙◌, inl, inr, arith, true≢false, SFits, w64, to_z, of_z}
use Rattle.std.proofs.lemmas.Int.{to_z-of_z}
use Rattle.std.proofs.lemmas.Bool.{cases_lt}
use Rattle.std.proofs.lemmas.Bool.Decides.{nat_tests, Decides-eqb}
use Rattle.std.proofs.lemmas.List.{get_or_past}
use Rattle.segment.specs.declared.curves.Curve.{Curve}
use Rattle.segment.specs.declared.segments.Seg.{Seg}
use Rattle.segment.specs.Measure.{miss, greatest_reading, greatest_estimate, seg_of, curve_of, is_bounded, AreReadings, IsBounded, IsTrueOf}
use Rattle.segment.proofs.Bounds.{greatest_reading-le}
use Rattle.segment.proofs.SanityLaws.{magnitude-le}
use Rattle.store_file.specs.Good.{is_measured, is_good}

-- a segment is true of the readings, which are within 10 ^ 9
pub record IsGood (xs : List ℤ) (g : Seg) : Type 0 where
  pub small : AreReadings xs
  pub true_of : IsTrueOf xs g

both : (a b : Bool) → a && b ≡ true → (a ≡ true) × (b ≡ true)
both true b e = (refl, e)
both false b e = absurd (true≢false (sym e))

both_back : (a b : Bool) → a ≡ true → b ≡ true → a && b ≡ true
both_back a b e f = rw (e, f) refl

le_of : (a b : ℕ) → nat_le a b ≡ true → a ≤ b
le_of a b e = grind (arith, nat_tests)

of_le : (a b : ℕ) → a ≤ b → nat_le a b ≡ true
of_le a b h = grind (arith, nat_tests)

of_lt : (a b : ℕ) → b < a → nat_le a b ≡ false
of_lt a b h = grind (arith, nat_tests)

pub within-greatest : (xs : List ℤ) → greatest_reading xs ≤ 10 ^ 9 → AreReadings xs
within-greatest xs h i = elim (cases_lt i (length xs)) [
  | inl lt ↦ omega (arith, h, magnitude-le xs i lt)
  | inr past ↦ rw (get_or_past xs i (pos 0) past) (omega arith)
]

bounded_of : (p : Curve) (n d : ℕ) → is_bounded p n d ≡ true → IsBounded p n d
bounded_of p n d h = record { constant = grind (arith, nat_tests); linear = grind (arith, nat_tests); square = grind (arith, nat_tests) }

of_bounded : (p : Curve) (n d : ℕ) → IsBounded p n d → is_bounded p n d ≡ true
of_bounded p n d h = let a = h.constant in let b = h.linear in let c = h.square in grind (arith, nat_tests)

same_test : (a b : Bool) (P : Type 0) → (IsTrue a ↔ P) → (b ≡ true → P) → (P → b ≡ true) → a ≡ b
same_test true true P h f g = refl
same_test true false P h f g = sym (g (h.0 refl))
same_test false true P h f g = h.1 (f refl)
same_test false false P h f g = refl

-- a test of the bound says what the test of the definition says
bounded-told : (b : Bool) (p : Curve) (n d : ℕ) → (IsTrue b ↔ IsBounded p n d) → b ≡ is_bounded p n d
bounded-told b p n d h = same_test b (is_bounded p n d) (IsBounded p n d) h (bounded_of p n d) (of_bounded p n d)

-- a segment with these measures and this length is that of its curve
measures_same : (xs : List ℤ) (g : Seg) → g.len ≡ length xs → g.l ≡ miss (curve_of g) xs → g.d ≡ greatest_reading xs → g.f ≡ greatest_estimate (curve_of g) (length xs) → g ≡ seg_of g.start (curve_of g) xs
measures_same xs g len l d f = rw (← f, ← l, ← d, ← len) refl

pub is_good-IsGood : (xs : List ℤ) (g : Seg) → is_good xs g ≡ true → IsGood xs g
unfolding is_good is_measured
is_good-IsGood xs g e =
    let (small, more) = both (nat_le (greatest_reading xs) (10 ^ 9)) _ e in
    let (bounded, measured) = both (is_bounded (curve_of g) (length xs) (greatest_reading xs)) _ more in
    let (len, rest) = both (g.len == length xs) _ measured in
    let (l, last) = both (g.l == miss (curve_of g) xs) _ rest in
    let (d, f) = both (g.d == greatest_reading xs) _ last in
    record {
      small = within-greatest xs (le_of (greatest_reading xs) (10 ^ 9) small);
      true_of = record {
        measured = measures_same xs g ((Decides-eqb _ _).0 len) ((Decides-eqb _ _).0 l) ((Decides-eqb _ _).0 d) ((Decides-eqb _ _).0 f);
        bounded = bounded_of (curve_of g) (length xs) (greatest_reading xs) bounded;
      };
    }

pub IsGood-is_good : (xs : List ℤ) (g : Seg) → IsGood xs g → is_good xs g ≡ true
unfolding is_good is_measured
IsGood-is_good xs g h =
    let same = h.true_of.measured in
    both_back _ _ (of_le (greatest_reading xs) (10 ^ 9) (greatest_reading-le xs h.small))
    (both_back _ _ (of_bounded (curve_of g) (length xs) (greatest_reading xs) h.true_of.bounded)
    (both_back _ _ ((Decides-eqb _ _).1 (ap (λ (s : Seg). s.len) same))
    (both_back _ _ ((Decides-eqb _ _).1 (ap (λ (s : Seg). s.l) same))
    (both_back _ _ ((Decides-eqb _ _).1 (ap (λ (s : Seg). s.d) same)) ((Decides-eqb _ _).1 (ap (λ (s : Seg). s.f) same))))))

-- ---- as it is made

-- coefficients that fit are passed on as they are
pub curve_passed : (g : Seg) → SFits w64 g.a → SFits w64 g.b → SFits w64 g.c → record { a = to_z w64 (of_z w64 g.a); b = to_z w64 (of_z w64 g.b); c = to_z w64 (of_z w64 g.c) } ≡ curve_of g
curve_passed g a b c = rw (to_z-of_z w64 g.a a, to_z-of_z w64 g.b b, to_z-of_z w64 g.c c) refl

pub measured-told : (xs : List ℤ) (g : Seg) (l d f : ℕ) (b : Bool) → b ≡ ((g.l == l) && ((g.d == d) && (g.f == f))) → g.len ≡ length xs → l ≡ miss (curve_of g) xs → d ≡ greatest_reading xs → f ≡ greatest_estimate (curve_of g) (length xs)
    → b ≡ is_measured xs g
unfolding is_measured
measured-told xs g l d f b told len is_l is_d is_f = rw (told, is_l, is_d, is_f, (Decides-eqb g.len (length xs)).1 len) refl

pub good-wide : (xs : List ℤ) (g : Seg) (d : ℕ) → d ≡ greatest_reading xs → 10 ^ 9 < d → is_good xs g ≡ false
unfolding is_good
good-wide xs g d is wide = rw (of_lt (greatest_reading xs) (10 ^ 9) (omega (arith, is, wide))) refl

pub good-unbounded : (xs : List ℤ) (g : Seg) (d : ℕ) → d ≡ greatest_reading xs → d ≤ 10 ^ 9 → is_bounded (curve_of g) (length xs) d ≡ false → is_good xs g ≡ false
unfolding is_good
good-unbounded xs g d is small loose = rw (of_le (greatest_reading xs) (10 ^ 9) (omega (arith, is, small)), ← is, loose) refl

pub good-bounded : (xs : List ℤ) (g : Seg) (d : ℕ) → d ≡ greatest_reading xs → is_bounded (curve_of g) (length xs) d ≡ true → IsBounded (curve_of g) (length xs) (greatest_reading xs)
good-bounded xs g d is kept = bounded_of (curve_of g) (length xs) (greatest_reading xs) (ap (is_bounded (curve_of g) (length xs)) (sym is) ∙ kept)

pub good-measured : (xs : List ℤ) (g : Seg) (d : ℕ) (b : Bool) → d ≡ greatest_reading xs → d ≤ 10 ^ 9 → is_bounded (curve_of g) (length xs) d ≡ true → b ≡ is_measured xs g → b ≡ is_good xs g
unfolding is_good
good-measured xs g d b is small kept measured =
    let bounded : is_bounded (curve_of g) (length xs) (greatest_reading xs) ≡ true = ap (is_bounded (curve_of g) (length xs)) (sym is) ∙ kept in
    rw (of_le (greatest_reading xs) (10 ^ 9) (omega (arith, is, small)), bounded) measured

-- the test of a segment whose coefficients were passed on
pub bounded-told-seg : (xs : List ℤ) (g : Seg) (d : ℕ) (b : Bool) → SFits w64 g.a → SFits w64 g.b → SFits w64 g.c → g.len ≡ length xs
    → (IsTrue b ↔ IsBounded (record { a = to_z w64 (of_z w64 g.a); b = to_z w64 (of_z w64 g.b); c = to_z w64 (of_z w64 g.c) }) g.len d)
    → b ≡ is_bounded (curve_of g) (length xs) d
bounded-told-seg xs g d b fa fb fc long h =
    bounded-told b (curve_of g) g.len d (subst (λ p. IsTrue b ↔ IsBounded p g.len d) (curve_passed g fa fb fc) h) ∙ ap (λ n. is_bounded (curve_of g) n d) long
