-- `load` by its steps.
use Rattle.std.proofs.Common.{◌≡◌, ℕ, ℤ, List, None, Some, Ok, Err, refl}
use Rattle.store_file.specs.StoreValue.{StoreValue}
use Rattle.query_cli.specs.Commands.{load}
use Rattle.query_cli.specs.Commands.Column.{ColumnCommand}
use Rattle.query_cli.specs.Commands.Load.{load_by, loaded_in}
use Rattle.query_cli.specs.Refusals.{Refusal}
use Rattle.query_cli.specs.Steps.{column_in, room_in, store_in}
use Rattle.query_cli.specs.Stops.{IfRefused, IsStepRefusal}
use Rattle.query_cli.specs.declared.stop.Stop.{Stop}
use Rattle.query_cli.proofs.CommandLaws.Column.{IsBringing}
use Rattle.query_cli.proofs.StepLaws.{step-refused}

pub is_load : (c : ColumnCommand) → IsBringing (Some (load c)) c (load_by c)
is_load c = record { refusal = λ reading. refl; answers = λ reading text h. h; after = λ m. refl; replays = λ m now h. h }

no_room : (c : ColumnCommand) (stored text : List ℕ) (m : StoreValue) (r : Refusal) → store_in stored ≡ Ok m → room_in m c.name ≡ Err r → loaded_in c stored text ≡ Err r
no_room c stored text m r e f = rw e (rw f refl)

no_column : (c : ColumnCommand) (stored text : List ℕ) (m : StoreValue) (r : Refusal) → store_in stored ≡ Ok m → room_in m c.name ≡ Ok m
    → column_in text c.column m.scale None ≡ Err r → loaded_in c stored text ≡ Err r
no_column c stored text m r e f k = rw e (rw f (rw k refl))

pub loaded-by : (c : ColumnCommand) (stored text : List ℕ) (m : StoreValue) (xs : List ℤ) → store_in stored ≡ Ok m → room_in m c.name ≡ Ok m
    → column_in text c.column m.scale None ≡ Ok xs → loaded_in c stored text ≡ Ok (record { store = m; readings = xs })
loaded-by c stored text m xs e f k = rw e (rw f (rw k refl))

pub room_refused : (c : ColumnCommand) (stored text : List ℕ) (m : StoreValue) (s : Stop) → store_in stored ≡ Ok m
    → IfRefused s (IsStepRefusal (room_in m c.name)) → IfRefused s (IsStepRefusal (loaded_in c stored text))
room_refused c stored text m s e = step-refused s (room_in m c.name) (loaded_in c stored text) (λ r k. no_room c stored text m r e k)

pub column_refused : (c : ColumnCommand) (stored text : List ℕ) (m : StoreValue) (s : Stop) → store_in stored ≡ Ok m → room_in m c.name ≡ Ok m
    → IfRefused s (IsStepRefusal (column_in text c.column m.scale None)) → IfRefused s (IsStepRefusal (loaded_in c stored text))
column_refused c stored text m s e f = step-refused s (column_in text c.column m.scale None) (loaded_in c stored text) (λ r k. no_column c stored text m r e f k)
