-- Over a store with a series of few and small readings behind it, the sum of that series and that of its squares are
-- admitted.
use Rattle.std.proofs.Common.{◌≡◌, ◌∙◌, ◌*◌, ◌^◌, ◌≤◌, ℕ, ℤ, pos, Bool, true, false, List, [], ◌∷◌, ◌++◌, length, map, Some, None, refl, sym, ap, arith, cond}
use Rattle.std.specs.Prelude.{◌||◌, find, max, nat_lt}
use Rattle.std.specs.Int.{int_min}
use Rattle.std.specs.Option.{option_or}
use Rattle.std.proofs.lemmas.Bool.Decides.{nat_tests}
use Rattle.std.proofs.lemmas.List.Folds.{find-append}
use Rattle.std.proofs.lemmas.Nat.{mul-le}
use Rattle.std.proofs.lemmas.Slice.Eq.{bytes_eq-Decides}
use Rattle.semantics.specs.Admission.{Fact, extent_of, bound_of, greatest_at, fact_at, is_of, is_unknown, refusal_of}
use Rattle.semantics.specs.Measures.{is_great_over, some_part, units_of}
use Rattle.semantics.specs.Names.{same_name}
use Rattle.semantics.specs.Readings.{positions_in}
use Rattle.semantics.specs.Term.{base, sum, times}
use Rattle.segment.specs.Measure.{greatest_reading}
use Rattle.segment.specs.Tree.{fitted_series}
use Rattle.segment.proofs.TreeLaws.{all_readings-fitted_series}
use Rattle.store_file.specs.Added.{names_in, with_series}
use Rattle.store_file.specs.Facts.{fact_in, facts_in}
use Rattle.store_file.specs.StoreValue.{Series, StoreValue, has_name, name_of}

-- ---- the series is found by its name

same_self : (name : List ℕ) → same_name name name ≡ true
same_self name = (bytes_eq-Decides name name).1 refl

not_same : (xs ys : List ℕ) → same_name xs ys ≡ false → same_name ys xs ≡ false
not_same xs ys h = at (same_name ys xs) refl
  where
    at : (b : Bool) → same_name ys xs ≡ b → b ≡ false
    at false e = refl
    at true e = let q : ys ≡ xs = (bytes_eq-Decides ys xs).0 e in let r : same_name xs ys ≡ true = (bytes_eq-Decides xs ys).1 (sym q) in sym r ∙ h

left_false : (a b : Bool) → (a || b) ≡ false → a ≡ false
left_false true b h = cc
left_false false b h = refl

right_false : (a b : Bool) → (a || b) ≡ false → b ≡ false
right_false true b h = cc
right_false false b h = h

none_of_name : (ss : List Series) (name : List ℕ) → has_name (map name_of ss) name ≡ false → find (is_of name) (map fact_in ss) ≡ None
none_of_name [] name new = refl
none_of_name (s ∷ ss) name new =
    let other : same_name s.name name ≡ false = not_same name s.name (left_false (same_name name s.name) (has_name (map name_of ss) name) new) in
    let rest : find (is_of name) (map fact_in ss) ≡ None = none_of_name ss name (right_false (same_name name s.name) (has_name (map name_of ss) name) new) in
    ap (λ b. cond b (Some (fact_in s)) (find (is_of name) (map fact_in ss))) other ∙ rest

map_append : (ss : List Series) (s : Series) → map fact_in (ss ++ s ∷ []) ≡ map fact_in ss ++ fact_in s ∷ []
map_append [] s = refl
map_append (t ∷ ss) s = ap (λ facts. fact_in t ∷ facts) (map_append ss s)

last_found : (ss : List Series) (s : Series) → has_name (map name_of ss) s.name ≡ false → fact_at (map fact_in (ss ++ s ∷ [])) s.name ≡ Some (fact_in s)
last_found ss s new =
    ap (find (is_of s.name)) (map_append ss s)
    ∙ find-append (is_of s.name) (map fact_in ss) (fact_in s ∷ [])
    ∙ ap (λ o. option_or o (find (is_of s.name) (fact_in s ∷ []))) (none_of_name ss s.name new)
    ∙ ap (λ b. cond b (Some (fact_in s)) None) (same_self s.name)

fact_of : List ℕ → List ℤ → Fact
fact_of name xs = record { name = name; count = length xs; greatest = greatest_reading xs }

pub added-fact : (m : StoreValue) (name : List ℕ) (xs : List ℤ) → has_name (names_in m) name ≡ false
    → fact_at (facts_in (with_series m name xs)) name ≡ Some (record { name = name; count = length xs; greatest = greatest_reading xs })
added-fact m name xs new =
    last_found m.series (record { name = name; tree = fitted_series m.degree xs }) new
    ∙ ap (λ (ys : List ℤ). Some (let f : Fact = record { name = name; count = length ys; greatest = greatest_reading ys } in f)) (all_readings-fitted_series m.degree xs)

-- ---- its sums are in range

not_over : (limit n : ℕ) → n ≤ limit → nat_lt limit n ≡ false
not_over limit n h = grind (arith, nat_tests)

units_small : (D : List ℕ → ℕ) (name : List ℕ) → D name ≤ 5247 → units_of D (base name) ≤ 671616
units_small D name h = omega arith

squares_small : (D : List ℕ → ℕ) (name : List ℕ) → D name ≤ 5247 → units_of D (times (base name) (base name)) ≤ 671616 * 671616
squares_small D name h = mul-le (units_of D (base name)) (units_of D (base name)) 671616 671616 (units_small D name h) (units_small D name h)

great_not : (D : List ℕ → ℕ) (name : List ℕ) (n : ℕ) → n ≤ 2 ^ 20 → D name ≤ 5247 → is_great_over D n (base name) ≡ false
great_not D name n short h =
    let a : 16384 * n ≤ 16384 * 2 ^ 20 = omega arith in
    let b : 16384 * n * units_of D (base name) ≤ 16384 * 2 ^ 20 * 671616 = mul-le (16384 * n) (units_of D (base name)) (16384 * 2 ^ 20) 671616 a (units_small D name h) in
    not_over (2 ^ 125) (16384 * n * units_of D (base name)) (omega (arith, b))

squares_not : (D : List ℕ → ℕ) (name : List ℕ) (n : ℕ) → n ≤ 2 ^ 20 → D name ≤ 5247 → is_great_over D n (times (base name) (base name)) ≡ false
squares_not D name n short h =
    let a : 268435456 * n ≤ 268435456 * 2 ^ 20 = omega arith in
    let u = units_of D (times (base name) (base name)) in
    let b : 268435456 * n * u ≤ 268435456 * 2 ^ 20 * (671616 * 671616) = mul-le (268435456 * n) u (268435456 * 2 ^ 20) (671616 * 671616) a (squares_small D name h) in
    not_over (2 ^ 125) (268435456 * n * u) (omega (arith, b))

bound_not : (n u : ℕ) → n ≤ 2 ^ 20 → u ≤ 671616 * 671616 → nat_lt (2 ^ 125) (max 1 (2 * n * u)) ≡ false
bound_not n u short h =
    let a : 2 * n ≤ 2 * 2 ^ 20 = omega arith in
    let b : 2 * n * u ≤ 2 * 2 ^ 20 * (671616 * 671616) = mul-le (2 * n) u (2 * 2 ^ 20) (671616 * 671616) a h in
    not_over (2 ^ 125) (max 1 (2 * n * u)) (omega (arith, b))

both : (a b : Bool) → a ≡ false → b ≡ false → (a || b) ≡ false
both a b h k = rw (h, k) refl

whole : (n : ℕ) → positions_in (pos 0) (pos n) ≡ n
whole n = omega arith

whole_twice : (n : ℕ) → positions_in (pos 0) (int_min (pos n) (pos n)) ≡ n
whole_twice n = at (nat_lt n n)
  where
    at : (b : Bool) → positions_in (pos 0) (cond b (pos n) (pos n)) ≡ n
    at true = whole n
    at false = whole n

-- ---- nothing refuses them

sum_extent : (facts : List Fact) (name : List ℕ) (f : Fact) → fact_at facts name ≡ Some f → extent_of facts (base name) None ≡ f.count
sum_extent facts name f found = rw found (let e : positions_in (pos 0) (pos f.count) ≡ f.count = whole f.count in omega (arith, e))

squares_extent : (facts : List Fact) (name : List ℕ) (f : Fact) → fact_at facts name ≡ Some f → extent_of facts (times (base name) (base name)) None ≡ f.count
squares_extent facts name f found = rw found (let e : positions_in (pos 0) (int_min (pos f.count) (pos f.count)) ≡ f.count = whole_twice f.count in omega (arith, e))

pub sum-admitted : (facts : List Fact) (name : List ℕ) (f : Fact) → fact_at facts name ≡ Some f → f.count ≤ 2 ^ 20 → f.greatest ≤ 5247 → refusal_of facts (sum (base name) None) ≡ None
sum-admitted facts name f found short small =
    let D : List ℕ → ℕ = greatest_at facts in
    let n : ℕ = extent_of facts (base name) None in
    let few : n ≤ 2 ^ 20 = omega (arith, sum_extent facts name f found) in
    let near : D name ≤ 5247 = rw found small in
    let known : is_unknown facts name ≡ false = rw found refl in
    let parts : some_part (is_great_over D n) (base name) ≡ false = great_not D name n few near in
    let u : units_of D (base name) ≤ 671616 * 671616 = omega (arith, units_small D name near) in
    let bound : nat_lt (2 ^ 125) (bound_of facts (sum (base name) None)) ≡ false = bound_not n (units_of D (base name)) few u in
    rw (known, parts, bound) refl

pub squares-admitted : (facts : List Fact) (name : List ℕ) (f : Fact) → fact_at facts name ≡ Some f → f.count ≤ 2 ^ 20 → f.greatest ≤ 5247
    → refusal_of facts (sum (times (base name) (base name)) None) ≡ None
squares-admitted facts name f found short small =
    let D : List ℕ → ℕ = greatest_at facts in
    let t = times (base name) (base name) in
    let n : ℕ = extent_of facts t None in
    let few : n ≤ 2 ^ 20 = omega (arith, squares_extent facts name f found) in
    let near : D name ≤ 5247 = rw found small in
    let known : is_unknown facts name ≡ false = rw found refl in
    let one : is_great_over D n (base name) ≡ false = great_not D name n few near in
    let two : is_great_over D n t ≡ false = squares_not D name n few near in
    let parts : some_part (is_great_over D n) t ≡ false = both _ _ (both _ _ one one) two in
    let bound : nat_lt (2 ^ 125) (bound_of facts (sum t None)) ≡ false = bound_not n (units_of D t) few (squares_small D name near) in
    rw (known, one, two, bound) refl
