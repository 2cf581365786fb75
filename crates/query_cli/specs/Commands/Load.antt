-- `load`: a column as a new series of a store.
use Rattle.std.specs.Fmt.{decimal}
use Rattle.std.specs.Prelude.{ℕ, List, ◌++◌, length, codes, None, Result, Ok}
use Rattle.query_cli.specs.Commands.Column.{Bringing, Brought, ColumnCommand}
use Rattle.query_cli.specs.Refusals.{Refusal}
use Rattle.query_cli.specs.Replay.{adds}
use Rattle.query_cli.specs.Steps.{and_then, column_in, room_in, store_in}

-- the store and the readings that `load` adds to it, by the bytes of its files
abbrev pub loaded_in : ColumnCommand → List ℕ → List ℕ → Result Brought Refusal
loaded_in c stored text =
    and_then (store_in stored) (λ m.
    and_then (room_in m c.name) (λ store.
    and_then (column_in text c.column store.scale None) (λ xs.
    Ok (record { store = store; readings = xs }))))

-- `loaded NAME TOTAL`
abbrev pub loaded_line : List ℕ → ℕ → List ℕ
loaded_line name total = codes "loaded " ++ name ++ codes " " ++ decimal total ++ codes "\n"

-- a new series, with no reading before the first cell
abbrev pub load_by : ColumnCommand → Bringing
load_by c = record {
  find = loaded_in c;
  before = λ m. None;
  accepts = adds c.name;
  line = λ b. loaded_line c.name (length b.readings);
}
