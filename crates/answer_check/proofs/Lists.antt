-- One more row and one more name.
use Rattle.std.proofs.Common.{◌≡◌, ◌==◌, ◌<◌, ◌+◌, ℕ, get_or, take, Bool, true, false, cond, List, [], ◌∷◌, ◌++◌, length, map, refl, sym, ap, ap₂, ◌∙◌, arith}
use Rattle.std.specs.List.{list_any}
use Rattle.std.proofs.lemmas.List.{append-nil, length-take-le, map-append, take_more}
use Rattle.semantics.specs.Admission.{query_names}
use Rattle.semantics.specs.Names.{same_name}
use Rattle.semantics.specs.Term.{QueryTerm}
use Rattle.serde_json.specs.Data.{Data}
use Rattle.serde_json.specs.View.{view}
use Rattle.serde_json.specs.declared.value.Value.{Value}
use Rattle.descent.specs.declared.rows.CutRow.{CutRow}
use Rattle.answer_check.specs.declared.certificate.CertList.{CertList}
use Rattle.answer_check.specs.Certificate.{lists_for, rows_for}

pub next_taken : {X : Type 0} (xs : List X) (k : ℕ) (x : X) → k < length xs → x ≡ get_or xs k x → take (k + 1) xs ≡ take k xs ++ x ∷ []
next_taken xs k x lt e = take_more xs k x lt ∙ ap (λ y. take k xs ++ y ∷ []) (sym e)

pub rows_more : (k : ℕ) (rows : List CutRow) (row : CutRow) → rows_for k (rows ++ row ∷ []) ≡ rows_for k rows ++ rows_for k (row ∷ [])
rows_more k [] row = refl
rows_more k (r ∷ rows) row = by (r.series == k) (rows_more k rows row)
  where
    by : (b : Bool) → rows_for k (rows ++ row ∷ []) ≡ rows_for k rows ++ rows_for k (row ∷ [])
        → cond b ((r.start, r.len, r.opened) ∷ rows_for k (rows ++ row ∷ [])) (rows_for k (rows ++ row ∷ []))
        ≡ cond b ((r.start, r.len, r.opened) ∷ rows_for k rows) (rows_for k rows) ++ rows_for k (row ∷ [])
    by true e = ap (λ ts. (r.start, r.len, r.opened) ∷ ts) e
    by false e = e

pub lists_more : (q : QueryTerm) (k : ℕ) (names : List (List ℕ)) (name : List ℕ) (rows : List CutRow)
    → lists_for q k (names ++ name ∷ []) rows ≡ lists_for q k names rows ++ lists_for q (k + length names) (name ∷ []) rows
lists_more q k [] name rows = let same : k + 0 ≡ k = omega arith in rw same refl
lists_more q k (n ∷ names) name rows = by (list_any (same_name n) (query_names q)) (lists_more q (k + 1) names name rows ∙ next)
  where
    next : lists_for q (k + 1) names rows ++ lists_for q (k + 1 + length names) (name ∷ []) rows
        ≡ lists_for q (k + 1) names rows ++ lists_for q (k + length (n ∷ names)) (name ∷ []) rows
    next = ap (λ j. lists_for q (k + 1) names rows ++ lists_for q j (name ∷ []) rows) (omega arith)

    by : (b : Bool) → lists_for q (k + 1) (names ++ name ∷ []) rows ≡ lists_for q (k + 1) names rows ++ lists_for q (k + length (n ∷ names)) (name ∷ []) rows
        → cond b (record { name = n; rows = rows_for k rows } ∷ lists_for q (k + 1) (names ++ name ∷ []) rows) (lists_for q (k + 1) (names ++ name ∷ []) rows)
        ≡ cond b (record { name = n; rows = rows_for k rows } ∷ lists_for q (k + 1) names rows) (lists_for q (k + 1) names rows) ++ lists_for q (k + length (n ∷ names)) (name ∷ []) rows
    by true e = ap (λ (ls : List CertList). record { name = n; rows = rows_for k rows } ∷ ls) e
    by false e = e

-- one more row, of the series or of another
pub rows_own : (k : ℕ) (rows : List CutRow) (i : ℕ) (row : CutRow) → i < length rows → row ≡ get_or rows i row → (row.series == k) ≡ true
    → rows_for k (take (i + 1) rows) ≡ rows_for k (take i rows) ++ (row.start, row.len, row.opened) ∷ []
rows_own k rows i row lt is own =
    ap (rows_for k) (next_taken rows i row lt is) ∙ rows_more k (take i rows) row ∙ ap (λ b. rows_for k (take i rows) ++ cond b ((row.start, row.len, row.opened) ∷ []) []) own

pub rows_other : (k : ℕ) (rows : List CutRow) (i : ℕ) (row : CutRow) → i < length rows → row ≡ get_or rows i row → (row.series == k) ≡ false
    → rows_for k (take (i + 1) rows) ≡ rows_for k (take i rows)
rows_other k rows i row lt is other =
    ap (rows_for k) (next_taken rows i row lt is) ∙ rows_more k (take i rows) row ∙ ap (λ b. rows_for k (take i rows) ++ cond b ((row.start, row.len, row.opened) ∷ []) []) other ∙ append-nil (rows_for k (take i rows))

-- one more name, which the query has or not
lists_next : (q : QueryTerm) (names : List (List ℕ)) (k : ℕ) (name : List ℕ) (rows : List CutRow) → k < length names → name ≡ get_or names k name
    → lists_for q 0 (take (k + 1) names) rows ≡ lists_for q 0 (take k names) rows ++ lists_for q k (name ∷ []) rows
lists_next q names k name rows lt is =
    ap (λ ns. lists_for q 0 ns rows) (next_taken names k name lt is) ∙ lists_more q 0 (take k names) name rows
    ∙ ap (λ j. lists_for q 0 (take k names) rows ++ lists_for q j (name ∷ []) rows) (omega (arith, length-take-le k names (omega arith)))

pub lists_own : (q : QueryTerm) (names : List (List ℕ)) (k : ℕ) (name : List ℕ) (rows : List CutRow) → k < length names → name ≡ get_or names k name → list_any (same_name name) (query_names q) ≡ true
    → lists_for q 0 (take (k + 1) names) rows ≡ lists_for q 0 (take k names) rows ++ record { name = name; rows = rows_for k rows } ∷ []
lists_own q names k name rows lt is own =
    lists_next q names k name rows lt is ∙ ap (λ b. lists_for q 0 (take k names) rows ++ cond {A = List CertList} b (record { name = name; rows = rows_for k rows } ∷ []) []) own

pub lists_other : (q : QueryTerm) (names : List (List ℕ)) (k : ℕ) (name : List ℕ) (rows : List CutRow) → k < length names → name ≡ get_or names k name → list_any (same_name name) (query_names q) ≡ false
    → lists_for q 0 (take (k + 1) names) rows ≡ lists_for q 0 (take k names) rows
lists_other q names k name rows lt is other =
    lists_next q names k name rows lt is ∙ ap (λ b. lists_for q 0 (take k names) rows ++ cond {A = List CertList} b (record { name = name; rows = rows_for k rows } ∷ []) []) other
    ∙ append-nil (lists_for q 0 (take k names) rows)

-- one more value
pub pushed : {A : Type 0} (f : A → Data) (vs : List Value) (v : Value) (xs : List A) (x : A) → map view vs ≡ map f xs → view v ≡ f x → map view (vs ++ v ∷ []) ≡ map f (xs ++ x ∷ [])
pushed f vs v xs x before one = map-append view vs (v ∷ []) ∙ ap₂ (λ ds d. ds ++ d ∷ []) before one ∙ sym (map-append f xs (x ∷ []))
