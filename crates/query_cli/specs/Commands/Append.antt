-- `append`: a column behind the readings of a series of a store.
use Rattle.std.specs.Fmt.{decimal}
use Rattle.std.specs.Prelude.{ℕ, List, ◌++◌, length, codes, Result, Ok}
use Rattle.store_file.specs.Grown.{grown_length}
use Rattle.store_file.specs.Last.{last_named}
use Rattle.query_cli.specs.Commands.Column.{Bringing, Brought, ColumnCommand}
use Rattle.query_cli.specs.Refusals.{Refusal}
use Rattle.query_cli.specs.Replay.{grows}
use Rattle.query_cli.specs.Steps.{and_then, column_in, last_reading_in, short_in, store_in}

-- the store and the readings that `append` puts behind those of its series, by the bytes of its files
abbrev pub appended_in : ColumnCommand → List ℕ → List ℕ → Result Brought Refusal
appended_in c stored text =
    and_then (store_in stored) (λ m.
    and_then (last_reading_in m c.name) (λ last.
    and_then (column_in text c.column m.scale last) (λ xs.
    and_then (short_in m c.name xs) (λ more.
    Ok (record { store = m; readings = more })))))

-- `appended NAME ADDED TOTAL`
abbrev pub appended_line : List ℕ → ℕ → ℕ → List ℕ
appended_line name added total =
    codes "appended " ++ name ++ codes " " ++ decimal added ++ codes " " ++ decimal total ++ codes "\n"

-- more readings of a series, whose last one stands before the first cell
abbrev pub append_by : ColumnCommand → Bringing
append_by c = record {
  find = appended_in c;
  before = λ m. last_named m c.name;
  accepts = grows c.name;
  line = λ b. appended_line c.name (length b.readings) (grown_length b.store c.name b.readings);
}
