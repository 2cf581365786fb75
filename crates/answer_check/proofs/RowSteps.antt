-- One more row, of the series or of another: what is written so far, and that it is read again.
use Rattle.std.proofs.Common.{◌≡◌, ◌==◌, ◌<◌, ◌+◌, ◌^◌, ◌++◌, ◌∙◌, ℕ, true, false, List, [], ◌∷◌, ap, get_or, length, map, subst, sym, take}
use Rattle.std.specs.Prelude.{Some}
use Rattle.std.proofs.lemmas.List.{get_or_default}
use Rattle.serde_json.specs.View.{view}
use Rattle.serde_json.specs.declared.value.Value.{Value}
use Rattle.descent.specs.declared.rows.CutRow.{CutRow}
use Rattle.answer_check.specs.Certificate.{rows_for}
use Rattle.answer_check.specs.Json.{each, row_data, row_of}
use Rattle.answer_check.proofs.Lists.{pushed, rows_other, rows_own}
use Rattle.answer_check.proofs.ReadAgain.{rows_again}

pub record IsSoFar (k : ℕ) (rows : List CutRow) (done : List Value) : Type 0 where
  pub values : map view done ≡ map row_data (rows_for k rows)
  pub again : each (map row_of (map row_data (rows_for k rows))) ≡ Some (rows_for k rows)

pub step_other : (k : ℕ) (rows : List CutRow) (i : ℕ) (d : CutRow) (values : List Value) → i < length rows → false ≡ ((get_or rows i d).series == k)
    → map view values ≡ map row_data (rows_for k (take i rows)) → each (map row_of (map row_data (rows_for k (take i rows)))) ≡ Some (rows_for k (take i rows))
    → IsSoFar k (take (i + 1) rows) values
step_other k rows i d values lt other before again =
    let row : CutRow = get_or rows i d in
    let same = rows_other k rows i row lt (get_or_default rows i d row lt) (sym other) in
    record {
      values = before ∙ ap (map row_data) (sym same);
      again = subst (λ rs. each (map row_of (map row_data rs)) ≡ Some rs) (sym same) again;
    }

pub step_own : (k : ℕ) (rows : List CutRow) (i : ℕ) (d : CutRow) (values : List Value) (v : Value) → i < length rows → true ≡ ((get_or rows i d).series == k)
    → view v ≡ row_data ((get_or rows i d).start, (get_or rows i d).len, (get_or rows i d).opened) → (get_or rows i d).start < 2 ^ 32 → (get_or rows i d).len < 2 ^ 32
    → map view values ≡ map row_data (rows_for k (take i rows)) → each (map row_of (map row_data (rows_for k (take i rows)))) ≡ Some (rows_for k (take i rows))
    → IsSoFar k (take (i + 1) rows) (values ++ v ∷ [])
step_own k rows i d values v lt own value start len before again =
    let row : CutRow = get_or rows i d in
    let old = rows_for k (take i rows) in
    let same = rows_own k rows i row lt (get_or_default rows i d row lt) (sym own) in
    record {
      values = pushed row_data values v old (row.start, row.len, row.opened) before value ∙ ap (map row_data) (sym same);
      again = subst (λ rs. each (map row_of (map row_data rs)) ≡ Some rs) (sym same) (rows_again old row.start row.len row.opened start len again);
    }
