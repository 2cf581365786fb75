-- The words of a text, and the readings that they are.
use Rattle.std.proofs.Common.{◌≡◌, ◌<◌, ◌≤◌, ◌+◌, ℕ, suc, Bool, true, false, cond, ℤ, List, [], ◌∷◌, ◌++◌, length, length-drop, Option, Some, None, refl, sym, ap, ◌∙◌, arith, append_assoc, append-nil}
use Rattle.std.specs.Prelude.{◌||◌, not}
use Rattle.std.specs.List.{after_first, before_first, list_any, onto_first, position_or_len, slice_split}
use Rattle.std.proofs.lemmas.List.Splits.{slice_split_first}
use Rattle.std.proofs.lemmas.List.Sums.{prefix_len-le-length}
use Rattle.sessions.specs.Script.{is_line_feed, is_space, reading_in, readings_in, with_first}

pub space_within : (text : List ℕ) → position_or_len is_space text ≤ length text
space_within text = prefix_len-le-length (λ x. not (is_space x)) text

pub line_within : (text : List ℕ) → position_or_len is_line_feed text ≤ length text
line_within text = prefix_len-le-length (λ x. not (is_line_feed x)) text

-- ---- the parts of a text

found : (p : ℕ → Bool) (text : List ℕ) → list_any p text ≡ true → position_or_len p text < length text
found p [] h = cc
found p (x ∷ xs) h = by (p x) h (found p xs)
  where
    by : (b : Bool) → (b || list_any p xs) ≡ true → (list_any p xs ≡ true → position_or_len p xs < length xs)
        → cond (not b) (1 + position_or_len p xs) 0 < suc (length xs)
    by true h rest = omega arith
    by false h rest = omega (arith, rest h)

-- where there is a mark, what stands behind it is shorter
pub shorter : (p : ℕ → Bool) (text : List ℕ) → list_any p text ≡ true → length (after_first p text) < length text
shorter p text h = omega (arith, found p text h, length-drop (position_or_len p text + 1) text)

-- a text without a mark is one part
pub one_part : (p : ℕ → Bool) (text : List ℕ) → list_any p text ≡ false → slice_split p text ≡ text ∷ []
one_part p [] h = refl
one_part p (x ∷ xs) h = by (p x) h (one_part p xs)
  where
    by : (b : Bool) → (b || list_any p xs) ≡ false → (list_any p xs ≡ false → slice_split p xs ≡ xs ∷ [])
        → cond b ([] ∷ slice_split p xs) (onto_first x (slice_split p xs)) ≡ (x ∷ xs) ∷ []
    by true h rest = cc
    by false h rest = ap (onto_first x) (rest h)

-- a text with a mark has a part before it, and those behind it
pub first_part : (p : ℕ → Bool) (text : List ℕ) → list_any p text ≡ true → slice_split p text ≡ before_first p text ∷ slice_split p (after_first p text)
first_part p text h = slice_split_first p text 0 (found p text h)

-- ---- readings

-- readings before others
abbrev pub behind : List ℤ → Option (List ℤ) → Option (List ℤ)
behind xs None = None
behind xs (Some ys) = Some (xs ++ ys)

behind_one : (xs : List ℤ) (x : ℤ) (o : Option (List ℤ)) → behind xs (with_first (Some x) o) ≡ behind (xs ++ x ∷ []) o
behind_one xs x None = refl
behind_one xs x (Some ys) = ap Some (sym (append_assoc xs (x ∷ []) ys))

reading-more : (xs : List ℤ) (word : List ℕ) (words : List (List ℕ)) (x : ℤ) → Some x ≡ reading_in word
    → behind xs (readings_in (word ∷ words)) ≡ behind (xs ++ x ∷ []) (readings_in words)
reading-more xs word words x e = ap (λ r. behind xs (with_first r (readings_in words))) (sym e) ∙ behind_one xs x (readings_in words)

reading-none : (xs : List ℤ) (word : List ℕ) (words : List (List ℕ)) → None ≡ reading_in word → behind xs (readings_in (word ∷ words)) ≡ None
reading-none xs word words e = ap (λ r. behind xs (with_first r (readings_in words))) (sym e)

-- the readings so far, and those of the rest, are those of all
abbrev pub Read : List ℕ → List ℤ → List ℕ → Type 0
Read text xs rest = behind xs (readings_in (slice_split is_space rest)) ≡ readings_in (slice_split is_space text)

pub read_more : (text rest word more : List ℕ) (xs new : List ℤ) (x : ℤ) → list_any is_space rest ≡ true → word ≡ before_first is_space rest → more ≡ after_first is_space rest
    → Some x ≡ reading_in word → new ≡ xs ++ x ∷ [] → Read text xs rest → Read text new more
read_more text rest word more xs new x some w m e n inv =
    ap (λ ys. behind ys (readings_in (slice_split is_space more))) n
    ∙ ap (λ t. behind (xs ++ x ∷ []) (readings_in (slice_split is_space t))) m
    ∙ sym (reading-more xs (before_first is_space rest) (slice_split is_space (after_first is_space rest)) x (e ∙ ap reading_in w))
    ∙ sym (ap (λ ps. behind xs (readings_in ps)) (first_part is_space rest some))
    ∙ inv

pub read_none : (text rest word : List ℕ) (xs : List ℤ) → list_any is_space rest ≡ true → word ≡ before_first is_space rest
    → None ≡ reading_in word → Read text xs rest → None ≡ readings_in (slice_split is_space text)
read_none text rest word xs some w e inv =
    sym (reading-none xs (before_first is_space rest) (slice_split is_space (after_first is_space rest)) (e ∙ ap reading_in w))
    ∙ sym (ap (λ ps. behind xs (readings_in ps)) (first_part is_space rest some))
    ∙ inv

pub read_last : (text rest : List ℕ) (xs new : List ℤ) (x : ℤ) → list_any is_space rest ≡ false → Some x ≡ reading_in rest → new ≡ xs ++ x ∷ []
    → Read text xs rest → Some new ≡ readings_in (slice_split is_space text)
read_last text rest xs new x none e n inv =
    ap Some (n ∙ sym (append-nil (xs ++ x ∷ [])))
    ∙ sym (reading-more xs rest [] x e)
    ∙ sym (ap (λ ps. behind xs (readings_in ps)) (one_part is_space rest none))
    ∙ inv

pub last_none : (text rest : List ℕ) (xs : List ℤ) → list_any is_space rest ≡ false → None ≡ reading_in rest → Read text xs rest
    → None ≡ readings_in (slice_split is_space text)
last_none text rest xs none e inv =
    sym (reading-none xs rest [] e) ∙ sym (ap (λ ps. behind xs (readings_in ps)) (one_part is_space rest none)) ∙ inv

pub read_start : (text : List ℕ) (xs : List ℤ) → xs ≡ [] → Read text xs text
read_start text xs e = ap (λ ys. behind ys (readings_in (slice_split is_space text))) e ∙ by (readings_in (slice_split is_space text))
  where
    by : (o : Option (List ℤ)) → behind [] o ≡ o
    by None = refl
    by (Some ys) = refl
