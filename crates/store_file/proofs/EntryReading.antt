-- The entries of a header, as they are read one by one.
use Rattle.std.proofs.Common.{◌≡◌, ℕ, suc, ◌+◌, ◌-◌, ◌<◌, ◌≤◌, Bool, true, false, ◌==◌, ◌&&◌, ◌||◌, length-take, if◌then◌else◌, List, [], ◌∷◌, ◌++◌, length, get_or, take, drop, Some, None, Result, Ok, Err, refl, sym, ap, ap₂, ◌∙◌, arith, append_assoc, append-nil, drop-cons, drop-drop, true≢false}
use Rattle.std.proofs.lemmas.Bool.Decides.{Decides-eqb}
use Rattle.std.proofs.lemmas.List.{length-take-le}
use Rattle.std.proofs.lemmas.List.Folds.{list_any-append}
use Rattle.semantics.specs.Names.{same_name}
use Rattle.tree_file.specs.Bytes.{number_of}
use Rattle.store_file.specs.Decoded.{entry_size, first_entry, if_new, before, with_entry, entries_in, names_of}
use Rattle.store_file.specs.Header.{entry_len_of, is_entry, entry_of}
use Rattle.store_file.specs.StoreValue.{has_name}
use Rattle.store_file.specs.declared.header.Entry.{Entry}

chosen : {A : Type 0} (b : Bool) (x y : A) → (if b then Some x else None) ≡ Some y → (b ≡ true) × (x ≡ y)
chosen true x y e = (refl, cc)
chosen false x y e = cc

entry-cut : (k len : ℕ) (rest : List ℕ) → entry_len_of k ≡ Some len → entry_of (take len (k ∷ rest)) ≡ first_entry (k ∷ rest)
entry-cut k len rest e =
    let (test, same) = chosen _ (k + 5) len e in
    let size : len ≡ suc (k + 4) = omega (arith, same) in
    ap (λ n. entry_of (take n (k ∷ rest))) size

pub first_entry-at : (bytes : List ℕ) (place len : ℕ) → place < length bytes → entry_len_of (get_or bytes place 0) ≡ Some len
    → entry_of (take len (drop place bytes)) ≡ first_entry (drop place bytes)
first_entry-at bytes place len within e =
    let cut = drop-cons bytes place 0 within in
    ap (λ b. entry_of (take len b)) cut ∙ entry-cut (get_or bytes place 0) len (drop (suc place) bytes) e ∙ ap first_entry (sym cut)

-- ---- the names that were read, the last first

abbrev pub seen_of : List Entry → List (List ℕ)
seen_of [] = []
seen_of (e ∷ es) = seen_of es ++ e.name ∷ []

seen_of-push : (es : List Entry) (e : Entry) → seen_of (es ++ e ∷ []) ≡ e.name ∷ seen_of es
seen_of-push [] e = refl
seen_of-push (d ∷ es) e = ap (λ q. q ++ d.name ∷ []) (seen_of-push es e)

or_swap : (a b : Bool) → (a || (b || false)) ≡ (b || a)
or_swap true true = refl
or_swap true false = refl
or_swap false true = refl
or_swap false false = refl

pub has_seen : (es : List Entry) (name : List ℕ) → has_name (seen_of es) name ≡ has_name (names_of es) name
has_seen [] name = refl
has_seen (e ∷ es) name =
    list_any-append (same_name name) (seen_of es) (e.name ∷ []) ∙ ap (λ b. b || (same_name name e.name || false)) (has_seen es name)
    ∙ or_swap (has_name (names_of es) name) (same_name name e.name)

-- ---- the loop

-- these before the rest, or the refusal of the rest
abbrev pub before_all : List Entry → Result (List Entry) ℕ → Result (List Entry) ℕ
before_all es (Ok ds) = Ok (es ++ ds)
before_all es (Err place) = Err place

before_all-first : (es : List Entry) (e : Entry) (r : Result (List Entry) ℕ) → before_all es (before e r) ≡ before_all (es ++ e ∷ []) r
before_all-first es e (Ok ds) = ap Ok (sym (append_assoc es (e ∷ []) ds))
before_all-first es e (Err p) = refl

-- the entries that are left
abbrev pub entries_left : ℕ → ℕ → List Entry → List ℕ → Result (List Entry) ℕ
entries_left n place es bytes = before_all es (entries_in n place (seen_of es) (drop place bytes))

abbrev rest_in : ℕ → ℕ → List (List ℕ) → List ℕ → Entry → Result (List Entry) ℕ
rest_in k place seen bytes e = entries_in k (place + entry_size e) (e.name ∷ seen) (drop (entry_size e) (drop place bytes))

-- one more entry
pub entries-step : (count i place : ℕ) (es : List Entry) (bytes : List ℕ) (e : Entry) → i < count → first_entry (drop place bytes) ≡ Some e → has_name (names_of es) e.name ≡ false
    → entries_left (count - (i + 1)) (place + entry_size e) (es ++ e ∷ []) bytes ≡ entries_left (count - i) place es bytes
entries-step count i place es bytes e lt first new =
    let k : ℕ = count - (i + 1) in
    let turns : count - i ≡ suc k = omega (arith, lt) in
    let f = rest_in k place (seen_of es) bytes in
    sym (
    ap (λ n. entries_left n place es bytes) turns
    ∙ ap (λ o. before_all es (with_entry place f (if_new (seen_of es) o))) first
    ∙ ap (λ b. before_all es (with_entry place f (if b then None else Some e))) (has_seen es e.name ∙ new)
    ∙ before_all-first es e (f e)
    ∙ ap₂ (λ s b. before_all (es ++ e ∷ []) (entries_in k (place + entry_size e) s b)) (sym (seen_of-push es e)) (drop-drop (entry_size e) place bytes)
    )

-- no entry stands there
pub entries-none : (count i place : ℕ) (es : List Entry) (bytes : List ℕ) → i < count → first_entry (drop place bytes) ≡ None → entries_left (count - i) place es bytes ≡ Err place
entries-none count i place es bytes lt none =
    let k : ℕ = count - (i + 1) in
    let turns : count - i ≡ suc k = omega (arith, lt) in
    ap (λ n. entries_left n place es bytes) turns ∙ ap (λ o. before_all es (with_entry place (rest_in k place (seen_of es) bytes) (if_new (seen_of es) o))) none

-- the name of the entry was there
pub entries-there : (count i place : ℕ) (es : List Entry) (bytes : List ℕ) (e : Entry) → i < count → first_entry (drop place bytes) ≡ Some e → has_name (names_of es) e.name ≡ true
    → entries_left (count - i) place es bytes ≡ Err place
entries-there count i place es bytes e lt first there =
    let k : ℕ = count - (i + 1) in
    let turns : count - i ≡ suc k = omega (arith, lt) in
    let f = rest_in k place (seen_of es) bytes in
    ap (λ n. entries_left n place es bytes) turns
    ∙ ap (λ o. before_all es (with_entry place f (if_new (seen_of es) o))) first
    ∙ ap (λ b. before_all es (with_entry place f (if b then None else Some e))) (has_seen es e.name ∙ there)

first_of_both : (a b : Bool) → a && b ≡ true → a ≡ true
first_of_both true b e = refl
first_of_both false b e = absurd (true≢false (sym e))

pub first_entry-size : (bytes : List ℕ) (e : Entry) → first_entry bytes ≡ Some e → entry_size e ≤ length bytes
first_entry-size [] e h = cc
first_entry-size (k ∷ rest) e h =
    let r : List ℕ = take (k + 4) rest in
    let (test, same) = chosen (is_entry k r) (record { name = take k r; n = number_of 4 (drop k r) }) e h in
    let long : length r ≡ k + 4 = (Decides-eqb (length r) (k + 4)).0 (first_of_both (length r == k + 4) _ test) in
    let name : length e.name ≡ k = sym (ap (λ (d : Entry). length d.name) same) ∙ length-take-le k r (omega (arith, long)) in
    omega (arith, name, long, length-take (k + 4) rest)

pub entries-start : (count : ℕ) (es : List Entry) (bytes : List ℕ) → es ≡ [] → entries_left (count - 0) 8 es bytes ≡ entries_in count 8 [] (drop 8 bytes)
entries-start count es bytes e = ap (λ k. entries_left (count - 0) 8 k bytes) e ∙ none_before (entries_in (count - 0) 8 [] (drop 8 bytes)) ∙ ap (λ n. entries_in n 8 [] (drop 8 bytes)) (let turns : count - 0 ≡ count = omega arith in turns)
  where
    none_before : (r : Result (List Entry) ℕ) → before_all [] r ≡ r
    none_before (Ok es) = refl
    none_before (Err p) = refl

pub entries-end : (count i place : ℕ) (es : List Entry) (bytes : List ℕ) (r : Result (List Entry) ℕ) → count ≤ i → entries_left (count - i) place es bytes ≡ r → r ≡ Ok es
entries-end count i place es bytes r past e =
    let turns : count - i ≡ 0 = omega (arith, past) in
    sym e ∙ ap (λ n. entries_left n place es bytes) turns ∙ ap Ok (append-nil es)
