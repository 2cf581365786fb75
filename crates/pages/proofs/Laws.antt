-- Laws of pages.
use Rattle.std.proofs.Common.{◌≡◌, ℕ, zero, suc, ◌+◌, ◌*◌, ◌/◌, ◌%◌, ◌<◌, ◌≤◌, List, [], ◌∷◌, length, get_or, set, map, replicate, refl, sym, ap, ◌∙◌, arith, inl, inr, get_or-set_same, get_or-set_other, length-set}
use Rattle.std.proofs.lemmas.Bool.{cases_eq}
use Rattle.std.proofs.lemmas.List.{same_lists, length-replicate, get_or-replicate}
use Rattle.std.proofs.lemmas.List.FromFn.{length-map-range_with_len, get_or-map-range_with_len}
use Rattle.std.specs.List.{range_with_len}
use Rattle.pages.specs.Pages.{item_at, owned, ArePages}

-- ---- the list that pages give

pub view-length : {T : Type 0} → (f : ℕ → T) (len : ℕ) (xs : List T) → map f (range_with_len 0 len) ≡ xs
    → length xs ≡ len
view-length f len xs e = ap length (sym e) ∙ length-map-range_with_len f 0 len

pub view-item : {T : Type 0} → (f : ℕ → T) (len : ℕ) (xs : List T) (i : ℕ) (d : T) → map f (range_with_len 0 len) ≡ xs
    → i < len → get_or xs i d ≡ f i
view-item f len xs i d e lt =
    ap (λ ys. get_or ys i d) (sym e) ∙ get_or-map-range_with_len f 0 len i i d lt (omega arith)

pub map-same : {T : Type 0} → (f g : ℕ → T) (is : List ℕ) → ((i : ℕ) → f i ≡ g i) → map f is ≡ map g is
map-same f g [] h = refl
map-same f g (i ∷ is) h = rw (h i) (ap (λ ys. g i ∷ ys) (map-same f g is h))

-- ---- pages with a place of their own

pub owned-le : (ns : List ℕ) → owned ns ≤ length ns
owned-le [] = omega arith
owned-le (zero ∷ ns) = let r = owned-le ns in omega arith
owned-le (suc n ∷ ns) = let r = owned-le ns in omega arith

pub owned-set : (ns : List ℕ) (k v : ℕ) → k < length ns → get_or ns k 0 ≡ 0 → owned (set ns k (suc v)) ≡ suc (owned ns)
owned-set [] k v lt none = absurd (omega arith)
owned-set (zero ∷ ns) zero v lt none = refl
owned-set (suc n ∷ ns) zero v lt none = absurd (omega arith)
owned-set (zero ∷ ns) (suc k) v lt none = owned-set ns k v (omega arith) none
owned-set (suc n ∷ ns) (suc k) v lt none = ap suc (owned-set ns k v (omega arith) none)

pub owned-less : (ns : List ℕ) (k : ℕ) → k < length ns → get_or ns k 0 ≡ 0 → owned ns < length ns
owned-less ns k lt none =
    let s = owned-set ns k 0 lt none in
    let l = owned-le (set ns k 1) in
    let n = length-set ns k 1 in
    omega arith

pub owned-zeros : (n : ℕ) → owned (replicate n 0) ≡ 0
owned-zeros zero = refl
owned-zeros (suc n) = owned-zeros n

pub zeros-length : (n : ℕ) → length (replicate n zero) ≡ n
zeros-length n = length-replicate n zero

pub zeros : (n k : ℕ) → get_or (replicate n zero) k zero ≡ zero
zeros zero k = refl
zeros (suc n) zero = refl
zeros (suc n) (suc k) = zeros n k

-- ---- pages of which none was put

pub first-pages : {T : Type 0} → (n : ℕ) (blank : T) → ArePages (replicate n 0) (replicate 4 blank) blank
first-pages n blank =
    let o = owned-zeros n in
    record {
      full = rw o (length-replicate 4 blank);
      within = λ k. let z = zeros n k in omega arith;
      apart = λ j k some e. let z = zeros n j in absurd (omega arith);
      empty = λ i lt. get_or-replicate 4 i blank blank lt;
    }

pub first-items : {T : Type 0} → (n len : ℕ) (blank : T)
    → map (item_at (replicate n 0) (replicate 4 blank) blank) (range_with_len 0 len) ≡ replicate len blank
first-items n len blank =
    let f = item_at (replicate n 0) (replicate 4 blank) blank in
    same_lists _ _ (length-map-range_with_len f 0 len ∙ sym (length-replicate len blank))
    (λ k d lt.
    let less : k < len = omega (arith, length-map-range_with_len f 0 len) in
    let z = zeros n (k / 4) in
    let at : 4 * get_or (replicate n 0) (k / 4) 0 + k % 4 ≡ k % 4 = omega arith in
    get_or-map-range_with_len f 0 len k k d less (omega arith)
    ∙ ap (λ i. get_or (replicate 4 blank) i blank) at
    ∙ get_or-replicate 4 (k % 4) blank blank (omega arith)
    ∙ sym (get_or-replicate len k blank d less))

-- ---- one more page

-- items with a page more, which is blank
pub record IsLonger {T : Type 0} (old new : List T) (blank : T) : Type 0 where
  pub full : length new ≡ length old + 4
  pub same : (i : ℕ) → i < length old → get_or new i blank ≡ get_or old i blank
  pub more : (i : ℕ) → length old ≤ i → i < length old + 4 → get_or new i blank ≡ blank

pub number-set : (ns : List ℕ) (k j v : ℕ) → (k ≡ j → ⊥) → get_or (set ns j v) k 0 ≡ get_or ns k 0
number-set ns k j v ne = rw get_or-set_other refl

pub number-here : (ns : List ℕ) (j v : ℕ) → j < length ns → get_or (set ns j v) j 0 ≡ v
number-here ns j v lt = get_or-set_same ns j v 0 lt

pub next-pages : {T : Type 0} → (ns : List ℕ) (old new : List T) (blank : T) (page v : ℕ) → ArePages ns old blank
    → IsLonger old new blank → page < length ns → get_or ns page 0 ≡ 0 → v ≡ 1 + owned ns
    → ArePages (set ns page v) new blank
next-pages ns old new blank page zero is longer lt none e = absurd (omega arith)
next-pages ns old new blank page (suc v) is longer lt none e =
    let o = owned-set ns page v lt none in
    let full = is.full in
    let here = number-here ns page (suc v) lt in
    record {
      full = let l = longer.full in rw o (omega arith);
      within = λ k. let w = is.within k in elim (cases_eq k page) [
        | inl same ↦ rw (same, o) (omega arith)
        | inr other ↦ let s = number-set ns k page (suc v) other in rw o (omega arith)
      ];
      apart = λ j k some same. elim (cases_eq j page) [
        | inl a ↦ elim (cases_eq k page) [
          | inl b ↦ a ∙ sym b
          | inr b ↦
              let w = is.within k in
              let s = number-set ns k page (suc v) b in
              let n : get_or (set ns page (suc v)) j 0 ≡ suc v = rw a here in
              absurd (omega arith)
        ]
        | inr a ↦ let s = number-set ns j page (suc v) a in elim (cases_eq k page) [
          | inl b ↦
              let w = is.within j in
              let n : get_or (set ns page (suc v)) k 0 ≡ suc v = rw b here in
              absurd (omega arith)
          | inr b ↦ let t = number-set ns k page (suc v) b in is.apart j k (omega arith) (omega arith)
        ]
      ];
      empty = λ i less. longer.same i (omega arith) ∙ is.empty i less;
    }

pub next-items : {T : Type 0} → (ns : List ℕ) (old new : List T) (blank : T) (page v : ℕ) → ArePages ns old blank
    → IsLonger old new blank → page < length ns → get_or ns page 0 ≡ 0 → v ≡ 1 + owned ns
    → (i : ℕ) → item_at (set ns page v) new blank i ≡ item_at ns old blank i
next-items ns old new blank page v is longer lt none e i =
    let full = is.full in
    let here = number-here ns page v lt in
    elim (cases_eq (i / 4) page) [
      | inl same ↦
          let n : get_or (set ns page v) (i / 4) 0 ≡ v = rw same here in
          let z : get_or ns (i / 4) 0 ≡ 0 = rw same none in
          let at : 4 * get_or ns (i / 4) 0 + i % 4 ≡ i % 4 = omega arith in
          longer.more (4 * get_or (set ns page v) (i / 4) 0 + i % 4) (omega arith) (omega arith)
          ∙ sym (ap (λ k. get_or old k blank) at ∙ is.empty (i % 4) (omega arith))
      | inr other ↦
          let s = number-set ns (i / 4) page v other in
          let w = is.within (i / 4) in
          let at : 4 * get_or (set ns page v) (i / 4) 0 + i % 4 ≡ 4 * get_or ns (i / 4) 0 + i % 4 = omega arith in
          ap (λ k. get_or new k blank) at ∙ longer.same (4 * get_or ns (i / 4) 0 + i % 4) (omega arith)
    ]

-- ---- one item is put

pub place-within : {T : Type 0} → (ns : List ℕ) (items : List T) (blank : T) (at : ℕ) → ArePages ns items blank
    → 4 * get_or ns (at / 4) 0 + at % 4 < length items
place-within ns items blank at is = let w = is.within (at / 4) in let full = is.full in omega arith

pub put-pages : {T : Type 0} → (ns : List ℕ) (items : List T) (blank x : T) (place : ℕ) → ArePages ns items blank
    → 4 ≤ place → ArePages ns (set items place x) blank
put-pages ns items blank x place is own = record {
  full = length-set items place x ∙ is.full;
  within = is.within;
  apart = is.apart;
  empty = λ i less. let ne : i ≡ place → ⊥ = λ e. omega arith in rw get_or-set_other (is.empty i less);
}

pub put-items : {T : Type 0} → (ns : List ℕ) (items : List T) (blank x : T) (at len : ℕ) → ArePages ns items blank
    → 0 < get_or ns (at / 4) 0 → at < len
    → map (item_at ns (set items (4 * get_or ns (at / 4) 0 + at % 4) x) blank) (range_with_len 0 len)
    ≡ set (map (item_at ns items blank) (range_with_len 0 len)) at x
put-items ns items blank x at len is own lt =
    let place = 4 * get_or ns (at / 4) 0 + at % 4 in
    let f = item_at ns (set items place x) blank in
    let g = item_at ns items blank in
    let within = place-within ns items blank at is in
    let long = length-map-range_with_len g 0 len in
    same_lists _ _
    (length-map-range_with_len f 0 len ∙ sym (length-set (map g (range_with_len 0 len)) at x ∙ long))
    (λ k d less.
    let low : k < len = omega (arith, length-map-range_with_len f 0 len) in
    let left = get_or-map-range_with_len f 0 len k k d low (omega arith) in
    elim (cases_eq k at) [
      | inl same ↦
          let here : item_at ns (set items place x) blank k ≡ x = rw same (get_or-set_same items place x blank within) in
          left ∙ here ∙ sym (rw same (get_or-set_same (map g (range_with_len 0 len)) at x d (omega arith)))
      | inr other ↦
          let spot = 4 * get_or ns (k / 4) 0 + k % 4 in
          let ne : spot ≡ place → ⊥ = λ e.
          let pages : k / 4 ≡ at / 4 = sym (is.apart (at / 4) (k / 4) own (omega arith)) in
          other (omega arith) in
          let here : get_or (set items place x) spot blank ≡ get_or items spot blank = rw get_or-set_other refl in
          let there : get_or (set (map g (range_with_len 0 len)) at x) k d ≡ get_or (map g (range_with_len 0 len)) k d =
          rw get_or-set_other refl in
          left ∙ here ∙ sym (there ∙ get_or-map-range_with_len g 0 len k k d low (omega arith))
    ])
