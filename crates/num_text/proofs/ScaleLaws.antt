-- The rounded multiple of a decimal, from its digits.
use Rattle.std.proofs.Common.{◌≡◌, ◌≤◌, ◌<◌, ◌+◌, ◌-◌, ◌*◌, ◌/◌, ◌^◌, min, ℕ, zero, suc, List, [], ◌∷◌, ◌++◌, length, take, drop, get_or, Bool, true, false, cond, ltb, leb, refl, sym, ap, ◌∙◌, arith, take-append-drop, append_assoc, add-zero, drop-cons, length-drop, lit<}
use Rattle.std.specs.Prelude.{◌&&◌}
use Rattle.std.specs.Char.{is_ascii_digit}
use Rattle.std.specs.List.{list_all}
use Rattle.std.proofs.lemmas.Bool.Decides.{nat_tests}
use Rattle.std.proofs.lemmas.List.{take_all}
use Rattle.std.proofs.lemmas.List.Sums.{fold-append}
use Rattle.std.proofs.lemmas.Nat.{pow-add, div-mul-add}
use Rattle.std.proofs.Math.Nat.{pow-le-pow_right, pow-suc, one-le-pow, mul-div-mul_right, mul-le-mul_left, mul-le-mul_right}
use Rattle.semantics.specs.Numbers.{number_of, number_on}
use Rattle.semantics.proofs.NumberLaws.{number_of-small}
use Rattle.num_text.specs.Cells.{nearest, scaled}

pub small_power : (k : ℕ) → k ≤ 6 → 10 ^ k ≤ 1000000
small_power k h = pow-le-pow_right {n = 10} (lit< tt) h

-- ---- digits that follow a number

number_on-append : (n : ℕ) (xs ys : List ℕ) → number_on n (xs ++ ys) ≡ number_on (number_on n xs) ys
number_on-append n xs ys = fold-append (λ m digit. 10 * m + (digit - 48)) n xs ys

number_on-is : (n : ℕ) (digits : List ℕ) → number_on n digits ≡ n * 10 ^ length digits + number_of digits
number_on-is n [] = omega arith
number_on-is n (d ∷ ds) =
    let more = number_on-is (10 * n + (d - 48)) ds in
    let first = number_on-is (0 + (d - 48)) ds in
    let power = ap (λ m. n * m) (pow-suc 10 (length ds)) in
    omega (arith, more, first, power)

-- a number that is capped before more digits follow
min-number_on : (m n limit : ℕ) (digits : List ℕ) → min m limit ≡ min n limit → min (number_on m digits) limit ≡ min (number_on n digits) limit
min-number_on m n limit [] h = h
min-number_on m n limit (d ∷ ds) h = min-number_on (10 * m + (d - 48)) (10 * n + (d - 48)) limit ds (omega arith)

min-mul : (n p limit : ℕ) → 0 < p → min (min n limit * p) limit ≡ min (n * p) limit
min-mul n p limit h = by (leb n limit) refl
  where
    by : (b : Bool) → leb n limit ≡ b → min (min n limit * p) limit ≡ min (n * p) limit
    by true e =
        let same : min n limit ≡ n = grind (arith, nat_tests) in
        rw same refl
    by false e =
        let over : limit ≤ n = grind (arith, nat_tests) in
        let same : min n limit ≡ limit = omega arith in
        rw same (omega (arith, mul-le-mul_right p over, mul-le-mul_left limit h))

-- ---- quotients

nearest-exact : (n d : ℕ) → 0 < d → nearest (n * d) d ≡ n
nearest-exact n d h = ap (λ m. m / (2 * d)) (omega arith) ∙ div-mul-add n (2 * d) d (omega arith)

nearest-cancel : (n d c : ℕ) → 0 < c → nearest (n * c) (d * c) ≡ nearest n d
nearest-cancel n d c h =
    let above : 2 * (n * c) + d * c ≡ (2 * n + d) * c = omega arith in
    let below : 2 * (d * c) ≡ (2 * d) * c = omega arith in
    rw (above, below) (mul-div-mul_right (2 * n + d) (2 * d) h)

-- the whole part, and the first digit behind it
nearest-digit : (n d r p : ℕ) → d < 10 → r < p → nearest (n * (p * 10) + (d * p + r)) (p * 10) ≡ n + cond (leb 5 d) 1 0
nearest-digit n d r p small less = by (leb 5 d) refl
  where
    by : (b : Bool) → leb 5 d ≡ b → nearest (n * (p * 10) + (d * p + r)) (p * 10) ≡ n + cond b 1 0
    by true e =
        let five : 5 ≤ d = grind (arith, nat_tests) in
        let low : 5 * p ≤ d * p = mul-le-mul_right p five in
        let high : d * p ≤ 9 * p = mul-le-mul_right p (omega arith) in
        ap (λ m. m / (2 * (p * 10))) (omega arith) ∙ div-mul-add (n + 1) (2 * (p * 10)) (2 * (d * p) + 2 * r - 10 * p) (omega arith)
    by false e =
        let four : d ≤ 4 = grind (arith, nat_tests) in
        let high : d * p ≤ 4 * p = mul-le-mul_right p four in
        ap (λ m. m / (2 * (p * 10))) (omega arith) ∙ div-mul-add n (2 * (p * 10)) (2 * (d * p) + 2 * r + p * 10) (omega arith) ∙ sym (add-zero n)

-- ---- a decimal by its digits

all_digits-drop : (i : ℕ) (digits : List ℕ) → list_all is_ascii_digit digits ≡ true → list_all is_ascii_digit (drop i digits) ≡ true
all_digits-drop zero digits h = h
all_digits-drop (suc i) [] h = refl
all_digits-drop (suc i) (d ∷ ds) h = all_digits-drop i ds (grind arith)

both : (a b : Bool) → (a && b) ≡ true → (a ≡ true) × (b ≡ true)
both true true h = (refl, refl)
both true false h = cc
both false b h = cc

digit_range : (d : ℕ) → is_ascii_digit d ≡ true → (48 ≤ d) × (d ≤ 57)
digit_range d h = (grind (arith, nat_tests), grind (arith, nat_tests))

-- digits behind other digits
number_of-behind : (front : List ℕ) (d : ℕ) (ds : List ℕ)
    → number_of (front ++ d ∷ ds) ≡ number_of front * (10 ^ length ds * 10) + ((d - 48) * 10 ^ length ds + number_of ds)
number_of-behind front d ds =
    let parts = number_on-append 0 front (d ∷ ds) in
    let first = number_on-is (number_of front) (d ∷ ds) in
    let next = number_on-is (0 + (d - 48)) ds in
    let power = ap (λ m. number_of front * m) (pow-suc 10 (length ds)) in
    omega (arith, parts, first, next, power)

-- a fraction with more digits than places
scaled-long : (scale : ℕ) (whole fraction : List ℕ) → list_all is_ascii_digit fraction ≡ true → scale < length fraction
    → scaled scale whole fraction ≡ number_of (whole ++ take scale fraction) + cond (leb 53 (get_or fraction scale 0)) 1 0
scaled-long scale whole fraction h long =
    let d : ℕ = get_or fraction scale 0 in
    let ds : List ℕ = drop (suc scale) fraction in
    let p : ℕ = 10 ^ length ds in
    let front : List ℕ = whole ++ take scale fraction in
    let rest : drop scale fraction ≡ d ∷ ds = drop-cons fraction scale 0 long in
    let split : whole ++ fraction ≡ front ++ d ∷ ds =
    ap (λ (xs : List ℕ). whole ++ xs) (sym (take-append-drop scale fraction) ∙ ap (λ (xs : List ℕ). take scale fraction ++ xs) rest)
    ∙ sym (append_assoc whole (take scale fraction) (d ∷ ds)) in
    let digits = rw rest at (all_digits-drop scale fraction h) in
    let parts = both (is_ascii_digit d) (list_all is_ascii_digit ds) digits in
    let range = digit_range d parts.0 in
    let places : length fraction ≡ suc (length ds) + scale = omega (arith, length-drop (suc scale) fraction) in
    let power : 10 ^ length fraction ≡ (p * 10) * 10 ^ scale =
    ap (λ k. 10 ^ k) places ∙ pow-add 10 (suc (length ds)) scale ∙ ap (λ m. m * 10 ^ scale) (pow-suc 10 (length ds)) in
    let some : 0 < 10 ^ scale = omega (arith, one-le-pow scale 10 (omega arith)) in
    let five : leb 5 (d - 48) ≡ leb 53 d = five_more d range.0 in
    ap (λ m. nearest (number_of (whole ++ fraction) * 10 ^ scale) m) power
    ∙ nearest-cancel (number_of (whole ++ fraction)) (p * 10) (10 ^ scale) some
    ∙ ap (λ m. nearest m (p * 10)) (ap number_of split ∙ number_of-behind front d ds)
    ∙ nearest-digit (number_of front) (d - 48) (number_of ds) p (omega arith) (number_of-small ds parts.1)
    ∙ ap (λ b. number_of front + cond b 1 0) five
  where
    five_more : (d : ℕ) → 48 ≤ d → leb 5 (d - 48) ≡ leb 53 d
    five_more d h = grind (arith, nat_tests)

-- a fraction with no more digits than places
scaled-short : (scale : ℕ) (whole fraction : List ℕ) → length fraction ≤ scale
    → scaled scale whole fraction ≡ number_of (whole ++ fraction) * 10 ^ (scale - length fraction)
scaled-short scale whole fraction h =
    let number = number_of (whole ++ fraction) in
    let places : scale ≡ (scale - length fraction) + length fraction = omega arith in
    let power : 10 ^ scale ≡ 10 ^ (scale - length fraction) * 10 ^ length fraction = ap (λ k. 10 ^ k) places ∙ pow-add 10 (scale - length fraction) (length fraction) in
    let some : 0 < 10 ^ length fraction = omega (arith, one-le-pow (length fraction) 10 (omega arith)) in
    rw power (ap (λ m. nearest m (10 ^ length fraction)) (mul-assoc' number (10 ^ (scale - length fraction)) (10 ^ length fraction)) ∙ nearest-exact (number * 10 ^ (scale - length fraction)) (10 ^ length fraction) some)
  where
    mul-assoc' : (a b c : ℕ) → a * (b * c) ≡ (a * b) * c
    mul-assoc' a b c = omega arith

-- the digits that are kept, capped
kept_digits : (whole kept : List ℕ) (limit number : ℕ) → number ≡ min (number_on (min (number_on 0 whole) limit) kept) limit → number ≡ min (number_of (whole ++ kept)) limit
kept_digits whole kept limit number e =
    e
    ∙ min-number_on (min (number_of whole) limit) (number_of whole) limit kept (omega arith)
    ∙ ap (λ m. min m limit) (sym (number_on-append 0 whole kept))

-- what the digits that are kept give, capped, and the digit behind them
pub scaled_by_digits : (scale : ℕ) (whole fraction : List ℕ) (limit number : ℕ) → list_all is_ascii_digit fraction ≡ true
    → number ≡ min (number_on (min (number_on 0 whole) limit) (take (min (length fraction) scale) fraction)) limit
    → min (min (number * 10 ^ (scale - min (length fraction) scale)) limit + cond (ltb scale (length fraction) && leb 53 (get_or fraction scale 0)) 1 0) limit
    ≡ min (scaled scale whole fraction) limit
scaled_by_digits scale whole fraction limit number h e = by (ltb scale (length fraction)) refl
  where
    by : (b : Bool) → ltb scale (length fraction) ≡ b
        → min (min (number * 10 ^ (scale - min (length fraction) scale)) limit + cond (b && leb 53 (get_or fraction scale 0)) 1 0) limit ≡ min (scaled scale whole fraction) limit
    by true f =
        let long : scale < length fraction = grind (arith, nat_tests) in
        let same : min (length fraction) scale ≡ scale = omega arith in
        let none : scale - scale ≡ 0 = omega arith in
        let number_is : number ≡ min (number_of (whole ++ take scale fraction)) limit = kept_digits whole (take scale fraction) limit number (rw same at e) in
        rw (same, none, scaled-long scale whole fraction h long) (omega (arith, number_is))
    by false f =
        let short : length fraction ≤ scale = grind (arith, nat_tests) in
        let same : min (length fraction) scale ≡ length fraction = omega arith in
        let some : 0 < 10 ^ (scale - length fraction) = omega (arith, one-le-pow (scale - length fraction) 10 (omega arith)) in
        let all : take (length fraction) fraction ≡ fraction = take_all (length fraction) fraction (omega arith) in
        let number_is : number ≡ min (number_of (whole ++ fraction)) limit = kept_digits whole fraction limit number (rw (same, all) at e) in
        let capped = min-mul (number_of (whole ++ fraction)) (10 ^ (scale - length fraction)) limit some in
        rw (same, scaled-short scale whole fraction short, number_is) (omega (arith, capped))
