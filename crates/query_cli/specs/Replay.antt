-- What a store file stands for after the commands that were accepted.
use Rattle.semantics.specs.Most.{most_scale}
use Rattle.query_cli.specs.Words.{most_degree}
use Rattle.semantics.specs.Files.{Files, file_of, with_file}
use Rattle.series_csv.specs.Column.{column_of}
use Rattle.std.specs.Prelude.{◌≡◌, ℕ, ◌≤◌, ℤ, List, [], ◌∷◌, ◌++◌, Option, Some, Ok}
use Rattle.store_file.specs.Added.{IsAddable, with_series}
use Rattle.store_file.specs.Grown.{IsGrowable, grown_store}
use Rattle.store_file.specs.StoreValue.{StoreValue, IsStoreValue, store_image}

-- an accepted command, with what it brings: a new store of a scale and a degree; a series with its readings; more
-- readings of a series
pub data Accepted : Type 0 where
  begins : ℕ → ℕ → Accepted
  adds : List ℕ → List ℤ → Accepted
  grows : List ℕ → List ℤ → Accepted

-- a store without series
abbrev pub empty_store : ℕ → ℕ → StoreValue
empty_store scale degree = record { scale = scale; degree = degree; series = [] }

-- the store after one accepted command
abbrev pub step : StoreValue → Accepted → StoreValue
step m (begins scale degree) = empty_store scale degree
step m (adds name xs) = with_series m name xs
step m (grows name xs) = grown_store m name xs

abbrev pub replay_from : StoreValue → List Accepted → StoreValue
replay_from m [] = m
replay_from m (c ∷ cs) = replay_from (step m c) cs

-- the store after these commands, of which the first begins it
abbrev pub replay : List Accepted → StoreValue
replay cs = replay_from (empty_store 0 0) cs

-- a command is accepted by a store
abbrev pub IsAccepted : StoreValue → Accepted → Type 0
IsAccepted m (begins scale degree) = (scale ≤ most_scale) × (degree ≤ most_degree)
IsAccepted m (adds name xs) = IsAddable m name xs
IsAccepted m (grows name xs) = IsGrowable m name xs

-- each command is accepted at its turn
abbrev pub AreAccepted : StoreValue → List Accepted → Type 0
AreAccepted m [] = Unit {0}
AreAccepted m (c ∷ cs) = IsAccepted m c × AreAccepted (step m c) cs

-- a history of a store: it was begun, and each command was accepted at its turn
abbrev pub IsHistory : List Accepted → Type 0
IsHistory [] = ⊥
IsHistory (begins scale degree ∷ cs) = AreAccepted (empty_store 0 0) (begins scale degree ∷ cs)
IsHistory (adds name xs ∷ cs) = ⊥
IsHistory (grows name xs ∷ cs) = ⊥

-- the file of a store stands for a history, and every other file is as it was
pub record Stands (old : Files) (store : List ℕ) (h : List Accepted) (now : Option Files) : Type 0 where
  pub history : IsHistory h
  pub files : now ≡ Some (with_file old store (store_image (replay h)))

-- the readings that a column of a file has at a scale, behind the reading before
pub record IsColumnOf (files : Files) (csv column : List ℕ) (scale : ℕ) (before : Option ℤ)
    (xs : List ℤ) : Type 0 where
  pub bytes : List ℕ
  pub held : file_of files csv ≡ Some bytes
  pub readings : column_of bytes column scale before ≡ Ok xs

-- every history makes a store
abbrev pub HistoriesMakeStores : Type 0
HistoriesMakeStores = (h : List Accepted) → IsHistory h → IsStoreValue (replay h)

-- a history goes on with each command that its store accepts
abbrev pub HistoriesGoOn : Type 0
HistoriesGoOn = (h : List Accepted) (c : Accepted)
    → IsHistory h → IsAccepted (replay h) c → IsHistory (h ++ c ∷ [])

-- no readings leave a store as it is
abbrev pub EmptyGrowthStays : Type 0
EmptyGrowthStays = (m : StoreValue) (name : List ℕ) → IsStoreValue m → step m (grows name []) ≡ m
