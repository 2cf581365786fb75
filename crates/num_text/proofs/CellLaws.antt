-- Laws of the parts of a cell.
use Rattle.std.proofs.Common.{◌≡◌, ◌≤◌, ◌<◌, ◌+◌, ℕ, suc, List, [], ◌∷◌, length, reverse, take, drop, min, Bool, true, false, cond, ltb, leb, ℤ, unsigned_abs, refl, sym, ◌∙◌, arith}
use Rattle.std.proofs.lemmas.Int.{ints}
use Rattle.std.specs.Prelude.{◌&&◌, ◌||◌, not}
use Rattle.std.specs.List.{list_any, position_or_len, prefix_len, suffix_len}
use Rattle.std.proofs.lemmas.Bool.Decides.{nat_tests}
use Rattle.std.proofs.lemmas.List.{drop_all, length-reverse}
use Rattle.std.proofs.lemmas.List.Sums.{prefix_len-le-length}
use Rattle.semantics.specs.Most.{greatest_reading}
use Rattle.num_text.specs.Cells.{before_blanks, behind_blanks, cell_of, decimal_of, fraction_of, is_blank, is_decimal, is_missing, is_point, of_trimmed, scaled, value_of, whole_of, without_sign}
use Rattle.num_text.specs.declared.cells.Cell.TheVariants.{Value, Missing, Bad, TooLarge}
use Rattle.semantics.specs.Numbers.{are_digits, has_minus, with_sign}

pub prefix_within : (text : List ℕ) → prefix_len is_blank text ≤ length text
prefix_within text = prefix_len-le-length is_blank text

pub suffix_within : (text : List ℕ) → suffix_len is_blank text ≤ length text
suffix_within text = omega (arith, prefix_len-le-length is_blank (reverse text), length-reverse text)

pub point_within : (text : List ℕ) → position_or_len is_point text ≤ length text
point_within text = prefix_len-le-length (λ x. not (is_point x)) text

-- a text has a point where its first point is within it
pub any_point : (text : List ℕ) → list_any is_point text ≡ ltb (position_or_len is_point text) (length text)
any_point [] = refl
any_point (x ∷ xs) = by (is_point x) (list_any is_point xs) (position_or_len is_point xs) (length xs) (any_point xs)
  where
    by : (p rest : Bool) (i n : ℕ) → rest ≡ ltb i n → (p || rest) ≡ ltb (cond (not p) (1 + i) 0) (suc n)
    by true rest i n h = grind (arith, nat_tests)
    by false rest i n h = grind (arith, nat_tests)

-- what is above the greatest reading is too large, however large
pub value_of_capped : (negative : Bool) (n : ℕ) → value_of negative (min n (greatest_reading + 1)) ≡ value_of negative n
value_of_capped negative n = by (leb n greatest_reading) refl
  where
    by : (b : Bool) → leb n greatest_reading ≡ b → value_of negative (min n (greatest_reading + 1)) ≡ value_of negative n
    by true e =
        let same : min n (greatest_reading + 1) ≡ n = grind (arith, nat_tests) in
        rw same refl
    by false e =
        let above : ltb greatest_reading n ≡ true = grind (arith, nat_tests) in
        let same : min n (greatest_reading + 1) ≡ greatest_reading + 1 = grind (arith, nat_tests) in
        rw (same, above) refl

-- a decimal without a point
pub decimal_of-whole : (scale : ℕ) (negative : Bool) (text : List ℕ) (point : ℕ)
    → point ≡ position_or_len is_point text → point ≡ length text → are_digits (take point text) ≡ true
    → value_of negative (min (scaled scale (take point text) []) (greatest_reading + 1)) ≡ decimal_of scale negative text
decimal_of-whole scale negative text point at end digits =
    let none : list_any is_point text ≡ false = any_point text ∙ ltb-false (position_or_len is_point text) (length text) (omega (arith, at)) in
    let behind : drop (point + 1) text ≡ [] = drop_all (point + 1) text (omega (arith, end)) in
    value_of_capped negative (scaled scale (take point text) [])
    ∙ sym (rw (← at, digits, none, behind) refl)
  where
    ltb-false : (i n : ℕ) → n ≤ i → ltb i n ≡ false
    ltb-false i n h = grind (arith, nat_tests)

-- what stands behind a point is no number
pub decimal_of-bad : (scale : ℕ) (negative : Bool) (text : List ℕ) (point : ℕ)
    → point ≡ position_or_len is_point text → point < length text → are_digits (drop (point + 1) text) ≡ false
    → Bad ≡ decimal_of scale negative text
decimal_of-bad scale negative text point at within bad =
    let some : list_any is_point text ≡ true = any_point text ∙ ltb-true (position_or_len is_point text) (length text) (omega (arith, at)) in
    sym (rw (← at, some, bad, and-false (are_digits (take point text))) refl)
  where
    ltb-true : (i n : ℕ) → i < n → ltb i n ≡ true
    ltb-true i n h = grind (arith, nat_tests)

    and-false : (b : Bool) → (b && false) ≡ false
    and-false true = refl
    and-false false = refl

value_of-near : (negative : Bool) (n : ℕ) (x : ℤ) → value_of negative n ≡ Value x → unsigned_abs x ≤ greatest_reading
value_of-near negative n x h = by (ltb greatest_reading n) refl h
  where
    signed : (negative : Bool) → with_sign negative n ≡ x → n ≤ greatest_reading → unsigned_abs x ≤ greatest_reading
    signed true e small = omega (arith, ints)
    signed false e small = omega (arith, ints)

    by : (b : Bool) → ltb greatest_reading n ≡ b → cond b TooLarge (Value (with_sign negative n)) ≡ Value x → unsigned_abs x ≤ greatest_reading
    by true t e = cc
    by false t e =
        let same : with_sign negative n ≡ x = cc in
        signed negative same (grind (arith, nat_tests))

-- the reading of a cell is within the greatest
pub cell_of-near : (scale : ℕ) (text : List ℕ) (x : ℤ) → cell_of scale text ≡ Value x → unsigned_abs x ≤ greatest_reading
cell_of-near scale text x h = trimmed (before_blanks (behind_blanks text)) h
  where
    decimal : (negative : Bool) (text : List ℕ) → decimal_of scale negative text ≡ Value x → unsigned_abs x ≤ greatest_reading
    decimal negative text h = by (is_decimal text) h
      where
        by : (b : Bool) → cond b (value_of negative (scaled scale (whole_of text) (fraction_of text))) Bad ≡ Value x → unsigned_abs x ≤ greatest_reading
        by true e = value_of-near negative _ x e
        by false e = cc

    trimmed : (text : List ℕ) → of_trimmed scale text ≡ Value x → unsigned_abs x ≤ greatest_reading
    trimmed text h = by (is_missing text) h
      where
        by : (b : Bool) → cond b Missing (decimal_of scale (has_minus text) (without_sign text)) ≡ Value x → unsigned_abs x ≤ greatest_reading
        by true e = cc
        by false e = decimal (has_minus text) (without_sign text) e
