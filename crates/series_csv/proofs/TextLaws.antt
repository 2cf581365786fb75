-- The byte order mark, and the place of a column.
use Rattle.std.proofs.Common.{◌≡◌, ◌≤◌, ◌+◌, ℕ, zero, suc, List, [], ◌∷◌, length, take, ◌-◌, drop, get_or, Some, None, true, false, cond, leb, add-one, refl, sym, ap, ◌∙◌, arith}
use Rattle.std.specs.Prelude.{◌&&◌, bytes_eq}
use Rattle.std.proofs.lemmas.Bool.Decides.{nat_tests}
use Rattle.std.proofs.lemmas.List.{take_all}
use Rattle.csv.specs.Reading.{is_bom, strip_bom}
use Rattle.csv.specs.Records.{field_at}
use Rattle.series_csv.specs.Column.{place_from}

strip_long : (a b c : ℕ) (rest : List ℕ) → leb 3 (length (a ∷ b ∷ c ∷ rest)) ≡ true
strip_long a b c rest = grind (arith, nat_tests)

pub strip_by_bytes : (xs : List ℕ) → strip_bom xs ≡ cond (leb 3 (length xs) && is_bom (get_or xs 0 0) (get_or xs 1 0) (get_or xs 2 0)) (drop 3 xs) xs
unfolding strip_bom
strip_by_bytes [] = refl
strip_by_bytes (a ∷ []) = refl
strip_by_bytes (a ∷ b ∷ []) = refl
strip_by_bytes (a ∷ b ∷ c ∷ rest) = sym (ap (λ t. cond (t && is_bom a b c) rest (a ∷ b ∷ c ∷ rest)) (strip_long a b c rest))

-- the fields from a place on
pub fields-from : (i : ℕ) (fields : List (List ℕ)) (f : List ℕ) → field_at fields i ≡ Some f → drop i fields ≡ f ∷ drop (i + 1) fields
unfolding field_at
fields-from i [] f e = cc
fields-from zero (g ∷ fields) f e =
    let same : g ≡ f = cc in
    rw same refl
fields-from (suc i) (g ∷ fields) f e = fields-from i fields f e ∙ rw (add-one, add-one) refl

fields-past : (i : ℕ) (fields : List (List ℕ)) → field_at fields i ≡ None → drop i fields ≡ []
unfolding field_at
fields-past zero [] e = refl
fields-past (suc i) [] e = refl
fields-past zero (g ∷ fields) e = cc
fields-past (suc i) (g ∷ fields) e = fields-past i fields e

-- a field that is not the column's is passed
pub place-skip : (i : ℕ) (fields : List (List ℕ)) (column f : List ℕ) → field_at fields i ≡ Some f → bytes_eq f column ≡ false
    → place_from i (drop i fields) column ≡ place_from (i + 1) (drop (i + 1) fields) column
place-skip i fields column f e other = rw (fields-from i fields f e, other, add-one) refl

pub place-here : (i : ℕ) (fields : List (List ℕ)) (column f : List ℕ) → field_at fields i ≡ Some f → bytes_eq f column ≡ true
    → place_from i (drop i fields) column ≡ Some i
place-here i fields column f e same = rw (fields-from i fields f e, same) refl

pub place-past : (i : ℕ) (fields : List (List ℕ)) (column : List ℕ) → field_at fields i ≡ None → place_from i (drop i fields) column ≡ None
place-past i fields column e = rw (fields-past i fields e) refl

-- a text with a mark, behind it
pub strip_mark : (xs : List ℕ) → 3 ≤ length xs → get_or xs 0 0 ≡ 239 → get_or xs 1 0 ≡ 187 → get_or xs 2 0 ≡ 191 → take (length xs - 3) (drop 3 xs) ≡ strip_bom xs
unfolding strip_bom
strip_mark [] h p q r = absurd (omega arith)
strip_mark (a ∷ []) h p q r = absurd (omega arith)
strip_mark (a ∷ b ∷ []) h p q r = absurd (omega arith)
strip_mark (a ∷ b ∷ c ∷ rest) h p q r = rw (p, q, r) (take_all _ rest (omega arith))
