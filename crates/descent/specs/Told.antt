-- What an answer tells.
use Rattle.std.specs.Prelude.{◌≡◌, ℕ, is_some, Some, List, [], ◌∷◌, ◌++◌, map}
use Rattle.std.specs.List.{count_by}
use Rattle.semantics.specs.Term.{QueryTerm}
use Rattle.descent.specs.declared.rows.CutRow.{CutRow}
use Rattle.descent.specs.declared.descents.Answer.{Answer}
use Rattle.descent.specs.Rows.{Row, Cut}
use Rattle.descent.specs.Sums.{interval_in}
use Rattle.descent.specs.Descents.{Nodes, cut_of, IsLast}

-- a row as it is told
abbrev pub told_row : ℕ → Row → CutRow
told_row series row = record {
  series = series;
  start = row.seg.start;
  len = row.seg.len;
  opened = is_some row.readings;
}

abbrev pub told : Cut → List CutRow
told [] = []
told (track ∷ cut) = map (told_row track.series) track.rows ++ told cut

-- an answer tells the last cut and its interval
pub record Tells (q : QueryTerm) (first : Nodes) (budget : ℕ) (a : Answer) : Type 0 where
  pub last : Nodes
  pub is_last : IsLast q first budget last
  pub interval : Some a.iv ≡ interval_in (cut_of last) q
  pub rows : a.cut ≡ told (cut_of last)
  pub opened : a.opened ≡ count_by (λ r. r.opened) (told (cut_of last))
