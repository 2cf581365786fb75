-- A query over a store: whether it is admitted, and the line of its interval.
use Rattle.std.specs.Fmt.{decimal, signed_decimal}
use Rattle.std.specs.List.{count_by}
use Rattle.std.specs.Prelude.{◌≡◌, ◌++◌, ◌≤◌, ℕ, ℤ, List, length, map, codes, Option, Some, Result, Ok}
use Rattle.descent.specs.Descents.{IsLast, Nodes, cut_of, roots}
use Rattle.descent.specs.Laws.{stored}
use Rattle.descent.specs.Sums.{interval_in, width_of}
use Rattle.descent.specs.Told.{Tells, told}
use Rattle.descent.specs.declared.descents.Answer.{Answer}
use Rattle.descent.specs.declared.rows.CutRow.{CutRow}
use Rattle.interval.specs.Interval.{Has, Interval}
use Rattle.segment.specs.Nodes.{Forest}
use Rattle.segment.specs.Tree.{SegTree}
use Rattle.semantics.specs.Admission as admission
use Rattle.semantics.specs.Plain.{plain}
use Rattle.semantics.specs.Term.{QueryTerm}
use Rattle.semantics.specs.Value.{query_value}
use Rattle.store_file.specs.Added.{names_in}
use Rattle.store_file.specs.Facts.{facts_in}
use Rattle.store_file.specs.StoreValue.{Series, StoreValue}
use Rattle.query_cli.specs.Refusals.{Refusal, query_refusal}
use Rattle.query_cli.specs.Steps.{unless_refused}

-- a store, and a query that is asked of it
pub record Asked : Type 0 where
  pub store : StoreValue
  pub query : QueryTerm

-- the query, where it is admitted by what is known of the series
abbrev pub admitted_in : QueryTerm → StoreValue → Result Asked Refusal
admitted_in q m =
    unless_refused query_refusal (record { store = m; query = q }) (admission.refusal_of (facts_in m) (plain q))

abbrev pub tree_of : Series → Option SegTree
tree_of s = s.tree

-- the trees of the series
abbrev pub forest_of : StoreValue → Forest
forest_of m = map tree_of m.series

-- ---- what the query comes to

-- the readings of the series of a name
abbrev pub readings_in : StoreValue → List ℕ → List ℤ
readings_in m = stored (forest_of m) (names_in m)

abbrev pub value_of : Asked → ℤ
value_of a = query_value (readings_in a.store) a.query

-- ---- its interval

-- the cut with which the descent of a plain query begins: the roots of the series that it names
abbrev pub roots_in : QueryTerm → StoreValue → Nodes
roots_in q m = roots q (forest_of m) (names_in m)

-- the answer of the first cut in the descent whose interval is no wider than the budget, which holds the value
pub record IsAnswerOf (a : Asked) (budget : ℕ) (answer : Answer) : Type 0 where
  pub tells : Tells (plain a.query) (roots_in (plain a.query) a.store) budget answer
  pub holds : Has answer.iv (value_of a)
  pub within : width_of answer.iv ≤ budget

-- `LO HI WIDTH NODES OPENED`
abbrev pub answer_line : ℤ → ℤ → ℕ → ℕ → ℕ → List ℕ
answer_line lo hi width nodes opened =
    signed_decimal lo ++ codes " " ++ signed_decimal hi ++ codes " " ++ decimal width ++ codes " "
    ++ decimal nodes ++ codes " " ++ decimal opened ++ codes "\n"

abbrev pub opened_in : List CutRow → ℕ
opened_in rows = count_by (λ row. row.opened) rows

-- an interval is told with the rows of its cut: how many there are, and how many of them are opened
abbrev pub cut_line : Interval → List CutRow → List ℕ
cut_line iv rows = answer_line iv.lo iv.hi (width_of iv) (length rows) (opened_in rows)

-- the line of the first cut in the descent whose interval is no wider than the budget; it holds what the query comes to
pub record IsIntervalLine (a : Asked) (budget : ℕ) (text : List ℕ) : Type 0 where
  pub last : Nodes
  pub is_last : IsLast (plain a.query) (roots_in (plain a.query) a.store) budget last
  pub iv : Interval
  pub interval : interval_in (cut_of last) (plain a.query) ≡ Some iv
  pub holds : Has iv (value_of a)
  pub within : width_of iv ≤ budget
  pub line : text ≡ cut_line iv (told (cut_of last))

-- the same, with the query admitted
pub record IsAnswered (q : QueryTerm) (m : StoreValue) (budget : ℕ) (text : List ℕ) : Type 0 where
  pub admitted : admitted_in q m ≡ Ok (record { store = m; query = q })
  pub line : IsIntervalLine (record { store = m; query = q }) budget text
