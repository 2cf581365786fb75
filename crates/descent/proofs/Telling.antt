-- The rows of a cut, as they are told.
use Rattle.std.proofs.Common.{◌≡◌, ℕ, zero, suc, ◌<◌, Option, Some, None, List, [], ◌∷◌, ◌++◌, length, take, map, get_or, refl, sym, ap, ◌∙◌, arith, append-nil}
use Rattle.descent.specs.declared.rows.CutRow.{CutRow}
use Rattle.std.proofs.lemmas.List.{append_assoc}
use Rattle.std.specs.Prelude.{is_some, ℤ, Bool}
use Rattle.std.specs.Option.{option_map}
use Rattle.descent.specs.declared.tables.Row.{Row}
use Rattle.descent.specs.Rows.{Track}
use Rattle.descent.specs.Held.{Held, row_in, shown}
use Rattle.descent.specs.Laid.{present, held}
use Rattle.descent.specs.Told.{told_row, told}

abbrev pub told_places : {I : Type 0} → ℕ → List (Option (Row I)) → List CutRow
told_places series xs = map (told_row series) (map row_in (map held (present xs)))

pub passed : {I : Type 0} → (series : ℕ) (i : ℕ) (xs : List (Option (Row I))) → i < length xs → get_or xs i None ≡ None → told_places series (take (suc i) xs) ≡ told_places series (take i xs)
passed series i [] lt e = absurd (omega arith)
passed series zero (None ∷ xs) lt e = refl
passed series zero (Some r ∷ xs) lt e = cc
passed series (suc i) (None ∷ xs) lt e = passed series i xs (omega arith) e
passed series (suc i) (Some r ∷ xs) lt e = ap (λ ys. told_row series (held r).row ∷ ys) (passed series i xs (omega arith) e)

pub one_more : {I : Type 0} → (series : ℕ) (i : ℕ) (xs : List (Option (Row I))) (r : Row I) → i < length xs → get_or xs i None ≡ Some r
    → told_places series (take (suc i) xs) ≡ told_places series (take i xs) ++ told_row series (held r).row ∷ []
one_more series i [] r lt e = absurd (omega arith)
one_more series zero (None ∷ xs) r lt e = cc
one_more series zero (Some x ∷ xs) r lt e = let same : x ≡ r = cc in ap (λ y. told_row series (held y).row ∷ []) same
one_more series (suc i) (None ∷ xs) r lt e = one_more series i xs r (omega arith) e
one_more series (suc i) (Some x ∷ xs) r lt e = ap (λ ys. told_row series (held x).row ∷ ys) (one_more series i xs r (omega arith) e)

pub told-held : {I : Type 0} → (series : ℕ) (r : Row I) (b : Bool) → b ≡ is_some r.readings
    → (let told : CutRow = record { series = series; start = r.seg.start; len = r.seg.len; opened = b } in told) ≡ told_row series (held r).row
told-held series r b e = ap (λ (b : Bool). let told : CutRow = record { series = series; start = r.seg.start; len = r.seg.len; opened = b } in told) (e ∙ by r.readings)
  where
    by : (o : Option (List ℤ)) → is_some o ≡ is_some (option_map (take r.seg.len) o)
    by None = refl
    by (Some xs) = refl

-- what is told of so many tracks, and of one more
pub told_more : {I : Type 0} → (i : ℕ) (ts : List (Track (Held I))) (d : Track (Held I)) → i < length ts
    → told (shown (take (suc i) ts)) ≡ told (shown (take i ts)) ++ map (told_row (get_or ts i d).series) (map row_in (get_or ts i d).rows)
told_more i [] d lt = absurd (omega arith)
told_more zero (t ∷ ts) d lt = append-nil (map (told_row t.series) (map row_in t.rows))
told_more (suc i) (t ∷ ts) d lt = ap (λ ys. map (told_row t.series) (map row_in t.rows) ++ ys) (told_more i ts d (omega arith)) ∙ sym (append_assoc (map (told_row t.series) (map row_in t.rows)) (told (shown (take i ts))) (map (told_row (get_or ts i d).series) (map row_in (get_or ts i d).rows)))
