-- Laws of items with a number of their own.
use Rattle.std.proofs.Common.{◌≡◌, ℕ, zero, suc, ◌+◌, ◌<◌, List, [], ◌∷◌, length, get_or, set, replicate, refl, sym, ap, ◌∙◌, arith, inl, inr, get_or-set_same, get_or-set_other, length-set}
use Rattle.std.proofs.lemmas.Bool.{cases_eq}
use Rattle.std.proofs.lemmas.List.{same_lists, length-map, get_or-map}
use Rattle.pages.specs.Sparse.{listed, AreSingles}
use Rattle.pages.proofs.Laws.{owned-set, owned-zeros, number-set, number-here, zeros}

-- ---- the list that numbers give

pub listed-length : {T : Type 0} → (ns : List ℕ) (items : List T) (blank : T) (xs : List T) → listed ns items blank ≡ xs
    → length xs ≡ length ns
listed-length ns items blank xs e = ap length (sym e) ∙ length-map ns (λ n. get_or items n blank)

pub number-within : {T : Type 0} → (ns : List ℕ) (items : List T) (blank : T) (at : ℕ) → AreSingles ns items blank
    → get_or ns at 0 < length items
number-within ns items blank at is = let w = is.within at in let full = is.full in omega arith

-- ---- items of which none was put

pub first-singles : {T : Type 0} → (n : ℕ) (blank : T) → AreSingles (replicate n 0) (blank ∷ []) blank
first-singles n blank =
    let o = owned-zeros n in
    record {
      full = omega arith;
      within = λ k. let z = zeros n k in omega arith;
      apart = λ j k some e. let z = zeros n j in absurd (omega arith);
      empty = refl;
    }

pub first-listed : {T : Type 0} → (n : ℕ) (blank : T) → listed (replicate n 0) (blank ∷ []) blank ≡ replicate n blank
first-listed zero blank = refl
first-listed (suc n) blank = ap (λ ys. blank ∷ ys) (first-listed n blank)

-- ---- one more item

-- items with one more, which is blank
pub record IsOneLonger {T : Type 0} (old new : List T) (blank : T) : Type 0 where
  pub full : length new ≡ length old + 1
  pub same : (i : ℕ) → i < length old → get_or new i blank ≡ get_or old i blank
  pub last : get_or new (length old) blank ≡ blank

pub next-singles : {T : Type 0} → (ns : List ℕ) (old new : List T) (blank : T) (at v : ℕ) → AreSingles ns old blank
    → IsOneLonger old new blank → at < length ns → get_or ns at 0 ≡ 0 → v ≡ length old
    → AreSingles (set ns at v) new blank
next-singles ns old new blank at zero is longer lt none e = let full = is.full in absurd (omega arith)
next-singles ns old new blank at (suc v) is longer lt none e =
    let o = owned-set ns at v lt none in
    let full = is.full in
    let here = number-here ns at (suc v) lt in
    record {
      full = let l = longer.full in rw o (omega arith);
      within = λ k. let w = is.within k in elim (cases_eq k at) [
        | inl same ↦ rw (same, o) (omega arith)
        | inr other ↦ let s = number-set ns k at (suc v) other in rw o (omega arith)
      ];
      apart = λ j k some same. elim (cases_eq j at) [
        | inl a ↦ elim (cases_eq k at) [
          | inl b ↦ a ∙ sym b
          | inr b ↦
              let w = is.within k in
              let s = number-set ns k at (suc v) b in
              let n : get_or (set ns at (suc v)) j 0 ≡ suc v = rw a here in
              absurd (omega arith)
        ]
        | inr a ↦ let s = number-set ns j at (suc v) a in elim (cases_eq k at) [
          | inl b ↦
              let w = is.within j in
              let n : get_or (set ns at (suc v)) k 0 ≡ suc v = rw b here in
              absurd (omega arith)
          | inr b ↦ let t = number-set ns k at (suc v) b in is.apart j k (omega arith) (omega arith)
        ]
      ];
      empty = longer.same 0 (omega arith) ∙ is.empty;
    }

pub next-listed : {T : Type 0} → (ns : List ℕ) (old new : List T) (blank : T) (at v : ℕ) → AreSingles ns old blank
    → IsOneLonger old new blank → at < length ns → get_or ns at 0 ≡ 0 → v ≡ length old
    → listed (set ns at v) new blank ≡ listed ns old blank
next-listed ns old new blank at v is longer lt none e =
    let count = length-set ns at v in
    let left = length-map (set ns at v) (λ n. get_or new n blank) in
    let right = length-map ns (λ n. get_or old n blank) in
    same_lists _ _ (omega arith)
    (λ k d less.
    let low : k < length ns = omega arith in
    let now = get_or-map (λ n. get_or new n blank) (set ns at v) k 0 d (omega arith) in
    let before = get_or-map (λ n. get_or old n blank) ns k 0 d low in
    elim (cases_eq k at) [
      | inl same ↦
          let n : get_or (set ns at v) k 0 ≡ length old = rw same (number-here ns at v lt ∙ e) in
          let z : get_or ns k 0 ≡ 0 = rw same none in
          now ∙ ap (λ i. get_or new i blank) n ∙ longer.last
          ∙ sym (before ∙ ap (λ i. get_or old i blank) z ∙ is.empty)
      | inr other ↦
          now ∙ ap (λ i. get_or new i blank) (number-set ns k at v other)
          ∙ longer.same (get_or ns k 0) (number-within ns old blank k is) ∙ sym before
    ])

-- ---- one item is put

pub put-singles : {T : Type 0} → (ns : List ℕ) (items : List T) (blank x : T) (number : ℕ) → AreSingles ns items blank
    → 0 < number → AreSingles ns (set items number x) blank
put-singles ns items blank x number is own = record {
  full = length-set items number x ∙ is.full;
  within = is.within;
  apart = is.apart;
  empty = let ne : 0 ≡ number → ⊥ = λ e. omega arith in rw get_or-set_other is.empty;
}

pub put-listed : {T : Type 0} → (ns : List ℕ) (items : List T) (blank x : T) (at : ℕ) → AreSingles ns items blank
    → 0 < get_or ns at 0 → at < length ns
    → listed ns (set items (get_or ns at 0) x) blank ≡ set (listed ns items blank) at x
put-listed ns items blank x at is own lt =
    let number = get_or ns at 0 in
    let new = set items number x in
    let left = length-map ns (λ n. get_or new n blank) in
    let right = length-map ns (λ n. get_or items n blank) in
    let count = length-set (listed ns items blank) at x in
    same_lists _ _ (omega arith)
    (λ k d less.
    let low : k < length ns = omega arith in
    let now = get_or-map (λ n. get_or new n blank) ns k 0 d low in
    let before = get_or-map (λ n. get_or items n blank) ns k 0 d low in
    elim (cases_eq k at) [
      | inl same ↦
          let here : get_or new (get_or ns k 0) blank ≡ x =
          rw same (get_or-set_same items number x blank (number-within ns items blank at is)) in
          now ∙ here ∙ sym (rw same (get_or-set_same (listed ns items blank) at x d (omega arith)))
      | inr other ↦
          let ne : get_or ns k 0 ≡ number → ⊥ = λ e. other (sym (is.apart at k own (sym e))) in
          let here : get_or new (get_or ns k 0) blank ≡ get_or items (get_or ns k 0) blank =
          get_or-set_other items number (get_or ns k 0) x blank ne in
          let there : get_or (set (listed ns items blank) at x) k d ≡ get_or (listed ns items blank) k d =
          get_or-set_other (listed ns items blank) at k x d other in
          now ∙ here ∙ sym (there ∙ before)
    ])
