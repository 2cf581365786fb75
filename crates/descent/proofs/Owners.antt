-- The rows that cover blocks, and those that cover positions.
use Rattle.std.proofs.Common.{◌≡◌, ◌≢◌, ℕ, zero, suc, ◌+◌, ◌-◌, ◌*◌, ◌/◌, ◌<◌, ◌≤◌, inl, inr, ◌⊎◌, true, List, [], ◌∷◌, length, map, set, get_or, arith, refl, sym, ap, subst, ◌∙◌, pos}
use Rattle.std.specs.Prelude.{Option, None, Some, replicate}
use Rattle.std.proofs.lemmas.Bool.{cases_eq, cases_lt}
use Rattle.std.proofs.lemmas.Int.{ints}
use Rattle.std.proofs.lemmas.List.{get_or-replicate, get_or-set_other, get_or-set_same, length-replicate, length-set}
use Rattle.segment.specs.declared.segments.Seg.{Seg}
use Rattle.bounds.specs.Segments.{covers, no_seg, TouchFrom}
use Rattle.bounds.proofs.ReadLaws.{covered_is, found_some}
use Rattle.descent.specs.declared.tables.Row.{Row}
use Rattle.descent.specs.Held.{Held, row_in}
use Rattle.descent.specs.Laid.{blocks, present, held, AreHalves, AreHalvesOf, AreOwned, CanGoBack, IsLaid, IsOpened, IsOpeningOf, IsOwnedBy}
use Rattle.descent.specs.Choice.{Has}
use Rattle.descent.specs.Sound.{seg_of}
use Rattle.descent.proofs.Places.{AreRows, found-at}

-- ---- the blocks of a row

left-fits : {I : Type 0} → (at left : ℕ) (xs : List (Option (Row I))) → IsLaid at left xs → left ≤ length xs
left-fits at zero xs l = omega arith
left-fits at (suc left) [] l = absurd l
left-fits at (suc left) (None ∷ xs) l = let i = left-fits (at + 1) left xs l in omega arith
left-fits at (suc left) (Some x ∷ xs) l = absurd l

pub row-fits : {I : Type 0} → (at left i : ℕ) (xs : List (Option (Row I))) (r : Row I) → IsLaid at left xs → get_or xs i None ≡ Some r → i + blocks r.seg.len ≤ length xs
row-fits at left i [] r l e = let n : ⊥ = cc in absurd n
row-fits at zero i (None ∷ xs) r l e = absurd l
row-fits at (suc left) zero (None ∷ xs) r l e = let n : ⊥ = cc in absurd n
row-fits at (suc left) (suc i) (None ∷ xs) r l e = let h = row-fits (at + 1) left i xs r l e in omega arith
row-fits at zero zero (Some x ∷ xs) r l e =
    let same : x ≡ r = cc in
    let n : x.seg.len ≡ r.seg.len = ap (λ (y : Row _). y.seg.len) same in
    let h = left-fits (at + 1) (blocks x.seg.len - 1) xs l.2 in
    omega arith
row-fits at zero (suc i) (Some x ∷ xs) r l e = let h = row-fits (at + 1) (blocks x.seg.len - 1) i xs r l.2 e in omega arith
row-fits at (suc left) i (Some x ∷ xs) r l e = absurd l

empty-front : {I : Type 0} → (at left k : ℕ) (xs : List (Option (Row I))) → IsLaid at left xs → k < left → get_or xs k None ≡ None
empty-front at zero k xs l lt = absurd (omega arith)
empty-front at (suc left) k [] l lt = absurd l
empty-front at (suc left) zero (None ∷ xs) l lt = refl
empty-front at (suc left) (suc k) (None ∷ xs) l lt = empty-front (at + 1) left k xs l (omega arith)
empty-front at (suc left) k (Some x ∷ xs) l lt = absurd l

-- behind the first block of a row its others are empty
empty-behind : {I : Type 0} → (at left i j k : ℕ) (xs : List (Option (Row I))) (r : Row I) → IsLaid at left xs → get_or xs i None ≡ Some r → k ≡ i + j → 0 < j → j < blocks r.seg.len → get_or xs k None ≡ None
empty-behind at left i j k [] r l e s some lt = refl
empty-behind at zero i j k (None ∷ xs) r l e s some lt = absurd l
empty-behind at (suc left) zero j k (None ∷ xs) r l e s some lt = let n : ⊥ = cc in absurd n
empty-behind at (suc left) (suc i) j zero (None ∷ xs) r l e s some lt = refl
empty-behind at (suc left) (suc i) j (suc k) (None ∷ xs) r l e s some lt = empty-behind (at + 1) left i j k xs r l e (omega arith) some lt
empty-behind at zero zero j zero (Some x ∷ xs) r l e s some lt = absurd (omega arith)
empty-behind at zero zero j (suc k) (Some x ∷ xs) r l e s some lt =
    let same : x ≡ r = cc in
    let n : x.seg.len ≡ r.seg.len = ap (λ (y : Row _). y.seg.len) same in
    empty-front (at + 1) (blocks x.seg.len - 1) k xs l.2 (omega arith)
empty-behind at zero (suc i) j zero (Some x ∷ xs) r l e s some lt = absurd (omega arith)
empty-behind at zero (suc i) j (suc k) (Some x ∷ xs) r l e s some lt = empty-behind (at + 1) (blocks x.seg.len - 1) i j k xs r l.2 e (omega arith) some lt
empty-behind at (suc left) i j k (Some x ∷ xs) r l e s some lt = absurd l

not-before : {I : Type 0} → (o p b : ℕ) (xs : List (Option (Row I))) (r q : Row I) → IsLaid 0 0 xs → get_or xs o None ≡ Some r → get_or xs p None ≡ Some q → b < o + blocks r.seg.len → p ≤ b → o < p → ⊥
not-before o p b xs r q l er eq until from lt =
    let none = empty-behind 0 0 o (p - o) p xs r l er (omega arith) (omega arith) (omega arith) in
    let bad : None ≡ Some q = sym none ∙ eq in
    cc

-- one row covers a block
owner-alone : {I : Type 0} → (o p b : ℕ) (xs : List (Option (Row I))) (r q : Row I) → IsLaid 0 0 xs → get_or xs o None ≡ Some r → get_or xs p None ≡ Some q
    → o ≤ b → b < o + blocks r.seg.len → p ≤ b → b < p + blocks q.seg.len → o ≡ p
owner-alone o p b xs r q l er eq of ou pf pu = elim (cases_eq o p) [
  | inl same ↦ same
  | inr ne ↦ elim (cases_lt o p) [
    | inl lt ↦ absurd (not-before o p b xs r q l er eq ou pf lt)
    | inr ge ↦ absurd (not-before p o b xs q r l eq er pu of (omega arith))
  ]
]

-- a place where something stands is there
pub some-within : {T : Type 0} → (xs : List (Option T)) (i : ℕ) (x : T) → get_or xs i None ≡ Some x → i < length xs
some-within [] i x e = let n : ⊥ = cc in absurd n
some-within (y ∷ xs) zero x e = omega arith
some-within (y ∷ xs) (suc i) x e = let h = some-within xs i x e in omega arith

-- ---- steps

-- blocks that went over
pub record IsGiven (old new : List ℕ) (from until owner : ℕ) : Type 0 where
  pub given : (b : ℕ) → from ≤ b → b < until → get_or new b 0 ≡ owner
  pub others : (b : ℕ) → (b < from) ⊎ (until ≤ b) → get_or new b 0 ≡ get_or old b 0
  pub count : length new ≡ length old

owned-by : {I : Type 0} → (xs : List (Option (Row I))) (b o p : ℕ) (r : Row I) → p ≡ o → get_or xs o None ≡ Some r → o ≤ b → b < o + blocks r.seg.len → IsOwnedBy xs b p
owned-by xs b o p r e there from until = record {
  row = r;
  there = ap (λ i. get_or xs i None) e ∙ there;
  from = omega arith;
  until = omega arith;
}

-- a row is put anew into its place
pub owned-set : {I : Type 0} → (xs : List (Option (Row I))) (owners : List ℕ) (i : ℕ) (r a : Row I) → AreOwned xs owners → i < length xs → get_or xs i None ≡ Some r → a.seg ≡ r.seg → AreOwned (set xs i (Some a)) owners
owned-set xs owners i r a h within e seg =
    let n = length-set xs i (Some a) in
    record { count = h.count ∙ sym n; each = λ b lt. by b (h.each b (omega arith)) }
  where
    by : (b : ℕ) → IsOwnedBy xs b (get_or owners b 0) → IsOwnedBy (set xs i (Some a)) b (get_or owners b 0)
    by b w = elim (cases_eq (get_or owners b 0) i) [
      | inl same ↦
          let both : Some w.row ≡ Some r = sym w.there ∙ ap (λ k. get_or xs k None) same ∙ e in
          let one : w.row ≡ r = cc in
          let len : a.seg.len ≡ w.row.seg.len = ap (λ (g : Seg). g.len) seg ∙ ap (λ (y : Row _). y.seg.len) (sym one) in
          let from = w.from in
          let until = w.until in
          owned-by (set xs i (Some a)) b i (get_or owners b 0) a same (get_or-set_same xs i (Some a) None within) (omega arith) (omega arith)
      | inr ne ↦ record { row = w.row; there = get_or-set_other xs i (get_or owners b 0) (Some a) None ne ∙ w.there; from = w.from; until = w.until }
    ]

-- two rows in the place of one
pub owned-split : {I : Type 0} → (xs : List (Option (Row I))) (owners new : List ℕ) (i m : ℕ) (r a b : Row I) → IsLaid 0 0 xs → AreOwned xs owners → get_or xs i None ≡ Some r → 0 < m → a.seg.len ≡ 16 * m → 0 < b.seg.len
    → a.seg.len + b.seg.len ≡ r.seg.len → IsGiven owners new (i + m) (i + m + blocks b.seg.len) (i + m) → AreOwned (set (set xs i (Some a)) (i + m) (Some b)) new
owned-split xs owners new i m r a b l h e some full rest whole given =
    let fits = row-fits 0 0 i xs r l e in
    let n = length-set xs i (Some a) in
    let k = length-set (set xs i (Some a)) (i + m) (Some b) in
    record { count = given.count ∙ h.count ∙ sym (k ∙ n); each = λ c lt. by c (h.each c (omega arith)) fits }
  where
    by : (c : ℕ) → IsOwnedBy xs c (get_or owners c 0) → i + blocks r.seg.len ≤ length xs → IsOwnedBy (set (set xs i (Some a)) (i + m) (Some b)) c (get_or new c 0)
    by c w fits =
        let n = length-set xs i (Some a) in
        let from = w.from in
        let until = w.until in
        let lefts = get_or-set_other (set xs i (Some a)) (i + m) i (Some b) None (omega arith) ∙ get_or-set_same xs i (Some a) None (omega arith) in
        let rights = get_or-set_same (set xs i (Some a)) (i + m) (Some b) None (omega arith) in
        elim (cases_eq (get_or owners c 0) i) [
          | inl same ↦
              let both : Some w.row ≡ Some r = sym w.there ∙ ap (λ k. get_or xs k None) same ∙ e in
              let one : w.row ≡ r = cc in
              let len : w.row.seg.len ≡ r.seg.len = ap (λ (y : Row _). y.seg.len) one in
              elim (cases_lt c (i + m)) [
                | inl below ↦ owned-by (set (set xs i (Some a)) (i + m) (Some b)) c i (get_or new c 0) a (given.others c (inl below) ∙ same) lefts (omega arith) (omega arith)
                | inr above ↦ owned-by (set (set xs i (Some a)) (i + m) (Some b)) c (i + m) (get_or new c 0) b (given.given c above (omega arith)) rights (omega arith) (omega arith)
              ]
          | inr ne ↦
              let outside : i ≤ c → c < i + blocks r.seg.len → ⊥ = λ low high. ne (owner-alone (get_or owners c 0) i c xs w.row r l w.there e from until low high) in
              let away : get_or owners c 0 ≢ i + m = λ same.
              let none = empty-behind 0 0 i m (get_or owners c 0) xs r l e same some (omega arith) in
              let bad : None ≡ Some w.row = sym none ∙ w.there in
              cc in
              let there = get_or-set_other (set xs i (Some a)) (i + m) (get_or owners c 0) (Some b) None away ∙ get_or-set_other xs i (get_or owners c 0) (Some a) None ne ∙ w.there in
              let keeps : (c < i + m) ⊎ (i + m + blocks b.seg.len ≤ c) = elim (cases_lt c (i + m)) [
                | inl below ↦ inl below
                | inr above ↦ elim (cases_lt c (i + m + blocks b.seg.len)) [
                  | inl within ↦ absurd (outside (omega arith) (omega arith))
                  | inr behind ↦ inr behind
                ]
              ] in
              owned-by (set (set xs i (Some a)) (i + m) (Some b)) c (get_or owners c 0) (get_or new c 0) w.row (given.others c keeps) there from until
        ]

-- one row in the place of two
pub owned-join : {I : Type 0} → (xs : List (Option (Row I))) (owners new : List ℕ) (i m : ℕ) (r a b : Row I) → IsLaid 0 0 xs → AreOwned xs owners → get_or xs i None ≡ Some a → get_or xs (i + m) None ≡ Some b → 0 < m → a.seg.len ≡ 16 * m → 0 < b.seg.len
    → a.seg.len + b.seg.len ≡ r.seg.len → IsGiven owners new (i + m) (i + blocks r.seg.len) i → AreOwned (set (set xs i (Some r)) (i + m) None) new
owned-join xs owners new i m r a b l h ea eb some full rest whole given =
    let fits = row-fits 0 0 (i + m) xs b l eb in
    let n = length-set xs i (Some r) in
    let k = length-set (set xs i (Some r)) (i + m) None in
    record { count = given.count ∙ h.count ∙ sym (k ∙ n); each = λ c lt. by c (h.each c (omega arith)) fits }
  where
    by : (c : ℕ) → IsOwnedBy xs c (get_or owners c 0) → i + m + blocks b.seg.len ≤ length xs → IsOwnedBy (set (set xs i (Some r)) (i + m) None) c (get_or new c 0)
    by c w fits =
        let from = w.from in
        let until = w.until in
        let here = get_or-set_other (set xs i (Some r)) (i + m) i None None (omega arith) ∙ get_or-set_same xs i (Some r) None (omega arith) in
        elim (cases_eq (get_or owners c 0) i) [
          | inl same ↦
              let both : Some w.row ≡ Some a = sym w.there ∙ ap (λ k. get_or xs k None) same ∙ ea in
              let one : w.row ≡ a = cc in
              let len : w.row.seg.len ≡ a.seg.len = ap (λ (y : Row _). y.seg.len) one in
              owned-by (set (set xs i (Some r)) (i + m) None) c i (get_or new c 0) r (given.others c (inl (omega arith)) ∙ same) here (omega arith) (omega arith)
          | inr ne ↦ elim (cases_eq (get_or owners c 0) (i + m)) [
            | inl same ↦
                let both : Some w.row ≡ Some b = sym w.there ∙ ap (λ k. get_or xs k None) same ∙ eb in
                let one : w.row ≡ b = cc in
                let len : w.row.seg.len ≡ b.seg.len = ap (λ (y : Row _). y.seg.len) one in
                owned-by (set (set xs i (Some r)) (i + m) None) c i (get_or new c 0) r (given.given c (omega arith) (omega arith)) here (omega arith) (omega arith)
            | inr away ↦
                let outside : i + m ≤ c → c < i + m + blocks b.seg.len → ⊥ = λ low high. away (owner-alone (get_or owners c 0) (i + m) c xs w.row b l w.there eb from until low high) in
                let there = get_or-set_other (set xs i (Some r)) (i + m) (get_or owners c 0) None None away ∙ get_or-set_other xs i (get_or owners c 0) (Some r) None ne ∙ w.there in
                let keeps : (c < i + m) ⊎ (i + blocks r.seg.len ≤ c) = elim (cases_lt c (i + m)) [
                  | inl below ↦ inl below
                  | inr above ↦ elim (cases_lt c (i + blocks r.seg.len)) [
                    | inl within ↦ absurd (outside above (omega arith))
                    | inr behind ↦ inr behind
                  ]
                ] in
                owned-by (set (set xs i (Some r)) (i + m) None) c (get_or owners c 0) (get_or new c 0) w.row (given.others c keeps) there from until
          ]
        ]

-- the root owns all blocks
pub owned-root : {I : Type 0} → (n : ℕ) (r : Row I) → n ≡ blocks r.seg.len → AreOwned (set (replicate n None) 0 (Some r)) (replicate n 0)
owned-root {I} n r e =
    let none : Option (Row I) = None in
    let k = length-set (replicate n none) 0 (Some r) in
    let m = length-replicate n none in
    record {
      count = length-replicate n 0 ∙ sym (k ∙ m);
      each = λ b lt. owned-by (set (replicate n none) 0 (Some r)) b 0 (get_or (replicate n 0) b 0) r (get_or-replicate n b 0 0 (omega arith)) (get_or-set_same (replicate n none) 0 (Some r) None (omega arith)) (omega arith) (omega arith);
    }

-- ---- the same, by the rows as contracts see them

pub owned-opened : {I : Type 0} → (xs : List (Option (Row I))) (owners : List ℕ) (rows : List (Held I)) (a : Row I) → AreRows xs rows → AreOwned xs owners → IsOpened rows a → a.seg.start / 16 < length xs → AreOwned (set xs (a.seg.start / 16) (Some a)) owners
owned-opened xs owners rows a v h is within =
    let f = found-at a.seg.start xs rows (held is.before) v is.there (ap (λ (g : Seg). g.start) (sym is.same)) in
    owned-set xs owners (a.seg.start / 16) f.row a h within f.found (is.same ∙ ap (λ (k : Held _). k.row.seg) f.same)

pub owned-halves : {I : Type 0} → (xs : List (Option (Row I))) (owners new : List ℕ) (rows : List (Held I)) (a b : Row I) (end owner : ℕ) → AreRows xs rows → AreOwned xs owners → AreHalves rows a.seg b.seg
    → end ≡ a.seg.start / 16 + a.seg.len / 16 + blocks b.seg.len → owner ≡ b.seg.start / 16 → IsGiven owners new (a.seg.start / 16 + a.seg.len / 16) end owner
    → AreOwned (set (set xs (a.seg.start / 16) (Some a)) (a.seg.start / 16 + a.seg.len / 16) (Some b)) new
owned-halves xs owners new rows a b end owner v h is e o given =
    let f = found-at a.seg.start xs rows (held is.before) v is.there (sym is.starts) in
    let x = f.exact in
    let len : f.row.seg.len ≡ is.before.seg.len = ap (λ (k : Held _). k.row.seg.len) (sym f.same) in
    let full = is.full in
    let some = is.some in
    let next = is.next in
    let whole = is.whole in
    let own : owner ≡ a.seg.start / 16 + a.seg.len / 16 = omega arith in
    owned-split xs owners new (a.seg.start / 16) (a.seg.len / 16) f.row a b v.laid h f.found (omega arith) (omega arith) is.rest (omega arith)
    (subst (λ k. IsGiven owners new (a.seg.start / 16 + a.seg.len / 16) (a.seg.start / 16 + a.seg.len / 16 + blocks b.seg.len) k) own
    (subst (λ k. IsGiven owners new (a.seg.start / 16 + a.seg.len / 16) k owner) e given))

pub owned-back-one : {I : Type 0} → (xs : List (Option (Row I))) (owners : List ℕ) (rows : List (Held I)) (r left : Row I) → AreRows xs rows → AreOwned xs owners → CanGoBack r rows → get_or xs (r.seg.start / 16) None ≡ Some left
    → r.seg.start / 16 < length xs → left.seg.len ≡ r.seg.len → AreOwned (set xs (r.seg.start / 16) (Some r)) owners
owned-back-one {I} xs owners rows r left v h can there within len = by can.by
  where
    by : IsOpeningOf r rows ⊎ AreHalvesOf r rows → AreOwned (set xs (r.seg.start / 16) (Some r)) owners
    by (inl one) =
        let f = found-at r.seg.start xs rows one.new v one.there (ap (λ (g : Seg). g.start) one.same) in
        let seg : r.seg ≡ f.row.seg = sym one.same ∙ ap (λ (k : Held _). k.row.seg) f.same in
        owned-set xs owners (r.seg.start / 16) f.row r h within f.found seg
    by (inr two) =
        let f = found-at r.seg.start xs rows two.left v two.left_there two.starts in
        let both : Some f.row ≡ Some left = sym f.found ∙ there in
        let one : f.row ≡ left = cc in
        let n : two.left.row.seg.len ≡ left.seg.len = ap (λ (k : Held _). k.row.seg.len) f.same ∙ ap (λ (y : Row I). y.seg.len) one in
        let rest = two.rest in
        let whole = two.whole in
        absurd (omega arith)

pub owned-back-two : {I : Type 0} → (xs : List (Option (Row I))) (owners new : List ℕ) (rows : List (Held I)) (r left : Row I) (end : ℕ) → AreRows xs rows → AreOwned xs owners → CanGoBack r rows → get_or xs (r.seg.start / 16) None ≡ Some left
    → (left.seg.len ≡ r.seg.len → ⊥) → end ≡ r.seg.start / 16 + blocks r.seg.len → IsGiven owners new (r.seg.start / 16 + left.seg.len / 16) end (r.seg.start / 16)
    → AreOwned (set (set xs (r.seg.start / 16) (Some r)) (r.seg.start / 16 + left.seg.len / 16) None) new
owned-back-two {I} xs owners new rows r left end v h can there ne e given = by can.by
  where
    by : IsOpeningOf r rows ⊎ AreHalvesOf r rows → AreOwned (set (set xs (r.seg.start / 16) (Some r)) (r.seg.start / 16 + left.seg.len / 16) None) new
    by (inl one) =
        let f = found-at r.seg.start xs rows one.new v one.there (ap (λ (g : Seg). g.start) one.same) in
        let both : Some f.row ≡ Some left = sym f.found ∙ there in
        let same : f.row ≡ left = cc in
        absurd (ne (ap (λ (y : Row I). y.seg.len) (sym same) ∙ ap (λ (k : Held _). k.row.seg.len) (sym f.same) ∙ ap (λ (g : Seg). g.len) one.same))
    by (inr two) =
        let f = found-at r.seg.start xs rows two.left v two.left_there two.starts in
        let x = f.exact in
        let both : Some f.row ≡ Some left = sym f.found ∙ there in
        let same : f.row ≡ left = cc in
        let n : two.left.row.seg.len ≡ left.seg.len = ap (λ (k : Held _). k.row.seg.len) f.same ∙ ap (λ (y : Row I). y.seg.len) same in
        let g = found-at two.right.row.seg.start xs rows two.right v two.right_there refl in
        let y = g.exact in
        let m : g.row.seg.len ≡ two.right.row.seg.len = ap (λ (k : Held _). k.row.seg.len) (sym g.same) in
        let full = two.full in
        let some = two.some in
        let rest = two.rest in
        let whole = two.whole in
        let next = two.next in
        let starts = two.starts in
        let place : two.right.row.seg.start / 16 ≡ r.seg.start / 16 + left.seg.len / 16 = omega arith in
        let second : get_or xs (r.seg.start / 16 + left.seg.len / 16) None ≡ Some g.row = ap (λ k. get_or xs k None) (sym place) ∙ g.found in
        owned-join xs owners new (r.seg.start / 16) (left.seg.len / 16) r left g.row v.laid h there second (omega arith) (omega arith) (omega arith) (omega arith)
        (subst (λ k. IsGiven owners new (r.seg.start / 16 + left.seg.len / 16) k (r.seg.start / 16)) e given)

pub back-fits : {I : Type 0} → (xs : List (Option (Row I))) (rows : List (Held I)) (r left : Row I) → AreRows xs rows → CanGoBack r rows → get_or xs (r.seg.start / 16) None ≡ Some left → (left.seg.len ≡ r.seg.len → ⊥)
    → r.seg.start / 16 + blocks r.seg.len ≤ length xs
back-fits {I} xs rows r left v can there ne = by can.by
  where
    by : IsOpeningOf r rows ⊎ AreHalvesOf r rows → r.seg.start / 16 + blocks r.seg.len ≤ length xs
    by (inl one) =
        let f = found-at r.seg.start xs rows one.new v one.there (ap (λ (g : Seg). g.start) one.same) in
        let both : Some f.row ≡ Some left = sym f.found ∙ there in
        let same : f.row ≡ left = cc in
        absurd (ne (ap (λ (y : Row I). y.seg.len) (sym same) ∙ ap (λ (k : Held _). k.row.seg.len) (sym f.same) ∙ ap (λ (g : Seg). g.len) one.same))
    by (inr two) =
        let f = found-at r.seg.start xs rows two.left v two.left_there two.starts in
        let x = f.exact in
        let g = found-at two.right.row.seg.start xs rows two.right v two.right_there refl in
        let y = g.exact in
        let m : g.row.seg.len ≡ two.right.row.seg.len = ap (λ (k : Held _). k.row.seg.len) (sym g.same) in
        let full = two.full in
        let whole = two.whole in
        let next = two.next in
        let starts = two.starts in
        let fits = row-fits 0 0 (two.right.row.seg.start / 16) xs g.row v.laid g.found in
        omega arith

-- ---- the row at a position

has-place : {I : Type 0} → (at left : ℕ) (xs : List (Option (Row I))) (r : Row I) → IsLaid at left xs → Has r (present xs) → (i : ℕ) × (get_or xs i None ≡ Some r) × (r.seg.start ≡ 16 * (at + i))
has-place at zero [] r l h = absurd h
has-place at (suc left) [] r l h = absurd l
has-place at zero (None ∷ xs) r l h = absurd l
has-place at (suc left) (None ∷ xs) r l h = let i = has-place (at + 1) left xs r l h in let s = i.2 in (suc i.0, i.1, omega arith)
has-place at zero (Some x ∷ xs) r l (inl e) = (0, ap Some (sym e), rw e (let s = l.0 in omega arith))
has-place at zero (Some x ∷ xs) r l (inr h) = let i = has-place (at + 1) (blocks x.seg.len - 1) xs r l.2 h in let s = i.2 in (suc i.0, i.1, omega arith)
has-place at (suc left) (Some x ∷ xs) r l h = absurd l

seg-of-row : {I : Type 0} → (rs : List (Row I)) (k : ℕ) → k < length (map seg_of (map row_in (map held rs))) → (r : Row I) × Has r rs × (get_or (map seg_of (map row_in (map held rs))) k no_seg ≡ r.seg)
seg-of-row [] k lt = absurd (omega arith)
seg-of-row (r ∷ rs) zero lt = (r, inl refl, refl)
seg-of-row (r ∷ rs) (suc k) lt = let i = seg-of-row rs k (omega arith) in (i.0, inr i.1, i.2)

pub get_or-any : (xs : List ℕ) (i a b : ℕ) → i < length xs → get_or xs i a ≡ get_or xs i b
get_or-any [] i a b lt = absurd (omega arith)
get_or-any (x ∷ xs) zero a b lt = refl
get_or-any (x ∷ xs) (suc i) a b lt = get_or-any xs i a b (omega arith)

-- the owner of a position's block is the row there
pub record IsRowOver {I : Type 0} (xs : List (Option (Row I))) (owners : List ℕ) (p : ℕ) : Type 0 where
  pub within : p / 16 < length owners
  pub row : Row I
  pub there : get_or xs (get_or owners (p / 16) 0) None ≡ Some row
  pub among : Has row (present xs)
  pub covered : covers row.seg (pos p) ≡ true

pub row-over : {I : Type 0} → (xs : List (Option (Row I))) (owners : List ℕ) (len p : ℕ) → IsLaid 0 0 xs → AreOwned xs owners → TouchFrom 0 (map seg_of (map row_in (map held (present xs)))) len → p < len → IsRowOver xs owners p
row-over xs owners len p l h touch lt =
    let f = found_some (map seg_of (map row_in (map held (present xs)))) 0 len p touch (omega arith) lt in
    let s = seg-of-row (present xs) f.0 f.1 in
    let r = s.0 in
    let covered : covers r.seg (pos p) ≡ true = ap (λ (g : Seg). covers g (pos p)) (sym s.2) ∙ f.2 in
    let c = covered_is r.seg (pos p) covered in
    let low : r.seg.start ≤ p = omega (arith, ints, c.low) in
    let high : p < r.seg.start + r.seg.len = omega (arith, ints, c.high) in
    let at = has-place 0 0 xs r l s.1 in
    let i = at.0 in
    let start : r.seg.start ≡ 16 * (0 + i) = at.2 in
    let fits = row-fits 0 0 i xs r l at.1 in
    let from : i ≤ p / 16 = omega arith in
    let until : p / 16 < i + blocks r.seg.len = omega arith in
    let within : p / 16 < length xs = omega arith in
    let w = h.each (p / 16) within in
    let same = owner-alone (get_or owners (p / 16) 0) i (p / 16) xs w.row r l w.there at.1 w.from w.until from until in
    record {
      within = omega (arith, within, h.count);
      row = r;
      there = ap (λ k. get_or xs k None) same ∙ at.1;
      among = s.1;
      covered = covered;
    }
