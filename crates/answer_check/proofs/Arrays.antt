-- Arrays of values: of another length than that of a row or a list, and their elements.
use Rattle.std.proofs.Common.{◌≡◌, ◌+◌, ◌<◌, ◌≤◌, ◌∙◌, ◌++◌, ℕ, zero, suc, List, [], ◌∷◌, get_or, length, map, take, Option, Some, None, option_and_then, refl, sym, ap, arith}
use Rattle.std.proofs.lemmas.List.{get_or-map, length-map, map-append}
use Rattle.serde_json.specs.View.{items_view}
use Rattle.serde_json.specs.declared.value.Value.{Value}
use Rattle.serde_json.specs.Data.{Data, Items}
use Rattle.serde_json.specs.View.{view}
use Rattle.answer_check.specs.Json.{data_in, each, pair_of_items, row_of_items}
use Rattle.answer_check.proofs.Lists.{next_taken}
use Rattle.answer_check.proofs.ReadAgain.{data_of_items, each_more}

pub short_row : (vs : List Value) → length vs < 3 → row_of_items (items_view vs) ≡ None
short_row [] h = refl
short_row (a ∷ []) h = refl
short_row (a ∷ b ∷ []) h = refl
short_row (a ∷ b ∷ c ∷ vs) h = absurd (omega arith)

pub long_row : (vs : List Value) → 4 ≤ length vs → row_of_items (items_view vs) ≡ None
long_row [] h = absurd (omega arith)
long_row (a ∷ []) h = absurd (omega arith)
long_row (a ∷ b ∷ []) h = absurd (omega arith)
long_row (a ∷ b ∷ c ∷ []) h = absurd (omega arith)
long_row (a ∷ b ∷ c ∷ d ∷ vs) h = refl

pub short_pair : (vs : List Value) → length vs < 2 → pair_of_items (items_view vs) ≡ None
short_pair [] h = refl
short_pair (a ∷ []) h = refl
short_pair (a ∷ b ∷ vs) h = absurd (omega arith)

pub long_pair : (vs : List Value) → 3 ≤ length vs → pair_of_items (items_view vs) ≡ None
long_pair [] h = absurd (omega arith)
long_pair (a ∷ []) h = absurd (omega arith)
long_pair (a ∷ b ∷ []) h = absurd (omega arith)
long_pair (a ∷ b ∷ c ∷ vs) h = refl

-- ---- elements

each_none : {A : Type 0} (xs : List (Option A)) (k : ℕ) → k < length xs → get_or xs k None ≡ None → each xs ≡ None
each_none [] k lt e = absurd (omega arith)
each_none (None ∷ xs) k lt e = refl
each_none (Some x ∷ xs) zero lt e = cc e
each_none (Some x ∷ xs) (suc k) lt e = rw (each_none xs k (omega arith) e) refl

-- one value that is no element, and one more that is one
pub stops : {A : Type 0} (f : Data → Option A) (vs : List Value) (k : ℕ) (v : Value) → k < length vs → v ≡ get_or vs k v → f (view v) ≡ None → each (map f (map view vs)) ≡ None
stops f vs k v lt e none =
    let long : k < length (map f (map view vs)) = grind (arith, length-map, lt) in
    let at : get_or (map f (map view vs)) k None ≡ f (view v) =
    get_or-map f (map view vs) k (view v) None (grind (arith, length-map, lt)) ∙ ap f (get_or-map view vs k v (view v) lt ∙ ap view (sym e)) in
    each_none (map f (map view vs)) k long (at ∙ none)

pub goes_on : {A : Type 0} (f : Data → Option A) (vs : List Value) (k : ℕ) (v : Value) (ys : List A) (y : A) → k < length vs → v ≡ get_or vs k v → f (view v) ≡ Some y
    → each (map f (map view (take k vs))) ≡ Some ys → each (map f (map view (take (k + 1) vs))) ≡ Some (ys ++ y ∷ [])
goes_on f vs k v ys y lt e some before =
    let more : map f (map view (take (k + 1) vs)) ≡ map f (map view (take k vs)) ++ f (view v) ∷ [] =
    ap (λ xs. map f (map view xs)) (next_taken vs k v lt e) ∙ ap (map f) (map-append view (take k vs) (v ∷ [])) ∙ map-append f (map view (take k vs)) (view v ∷ []) in
    ap each (more ∙ ap (λ o. map f (map view (take k vs)) ++ o ∷ []) some) ∙ each_more (map f (map view (take k vs))) ys y before

-- the elements of an array
pub elements : {A : Type 0} (f : Data → Option A) (o : Option Items) (vs : List Value) → Some (items_view vs) ≡ o
    → option_and_then (λ ds. each (map f (data_in ds))) o ≡ each (map f (map view vs))
elements f o vs h = ap (option_and_then (λ ds. each (map f (data_in ds)))) (sym h) ∙ ap (λ ds. each (map f ds)) (data_of_items (map view vs))
