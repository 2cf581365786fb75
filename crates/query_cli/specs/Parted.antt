-- A store's file that is read in parts.
use Rattle.std.specs.Prelude.{◌≡◌, ◌≢◌, ℕ, ◌≤◌, ◌<◌, List, length, slice_index, Option, Some, None, Result, Ok, Err}
use Rattle.descent.specs.Known.{AreApart, node_facts}
use Rattle.descent.specs.declared.descents.Answer.{Answer}
use Rattle.lazy_tree.specs.HeaderIn.{header_in}
use Rattle.lazy_tree.specs.Opened.{Means, Opened}
use Rattle.segment.specs.Nodes.{Forest, known_root}
use Rattle.segment.specs.declared.segments.Seg.{Seg}
use Rattle.semantics.specs.Admission.{Fact}
use Rattle.semantics.specs.Files.{Files, IfTold, file_of}
use Rattle.semantics.specs.Term.{QueryTerm}
use Rattle.store_file.specs.Added.{names_in}
use Rattle.store_file.specs.Facts.{facts_in}
use Rattle.store_file.specs.StoreValue.{StoreValue, IsStoreValue, store_image}
use Rattle.query_cli.specs.Asked.{Asked, IsAnswerOf, forest_of}
use Rattle.query_cli.specs.Commands.Query.{IsReadInParts, QueryCommand, asked_by, asked_over}
use Rattle.query_cli.specs.Reading.{File, IsRead, Reading, Shown, file_at, held, most_store}
use Rattle.query_cli.specs.Refusals.{Refusal, store_fault}
use Rattle.query_cli.specs.Stops.{HasCause}

-- ---- the file

-- it is there, and not too big
pub record IsThere (m : Files) (name : List ℕ) : Type 0 where
  pub bytes : List ℕ
  pub held : file_at m most_store name ≡ held bytes

-- besides, its header and its length are those of a store
pub record HasHeader (m : Files) (name : List ℕ) : Type 0 where
  pub bytes : List ℕ
  pub held : file_at m most_store name ≡ held bytes
  pub header : (place : ℕ) → header_in bytes ≢ Err place

-- where it stands for a store, a fact of that store
abbrev pub IfStands : Option Files → List ℕ → (StoreValue → Type 0) → Type 0
IfStands files name P = (m : Files) (value : StoreValue) → files ≡ Some m
    → file_of m name ≡ Some (store_image value) → IsStoreValue value → P value

-- ---- its nodes

-- the root is known of a series that has readings
abbrev pub IsRootKnown : List ℕ → List (Option Seg) → ℕ → Type 0
IsRootKnown lengths roots k = 0 < slice_index lengths k → (g : Seg) × (known_root roots k ≡ Some g)

-- the nodes are of no trees
abbrev pub AreBad : Opened → Option Files → Type 0
AreBad nodes files = (forest : Forest) → Means nodes files forest → ⊥

-- a part showed that the file stands for no store
pub record IsBad (nodes : Opened) (files : Option Files) (r : Refusal) : Type 0 where
  pub refusal : r ≡ store_fault
  pub bad : AreBad nodes files

-- the nodes of a file, of whose series these are the names and the facts
pub record IsRooted (nodes : Opened) (names : List (List ℕ)) (facts : List Fact) : Type 0 where
  pub few : length names ≤ 16
  pub named : length names ≡ length nodes.lengths
  pub apart : AreApart names
  pub roots : (k : ℕ) → k < length names → IsRootKnown nodes.lengths nodes.roots k
  pub told : facts ≡ node_facts names nodes.lengths nodes.roots

-- what they tell of the store, where the file stands for one
pub record IsTold (nodes : Opened) (files : Option Files) (names : List (List ℕ)) (facts : List Fact)
    (m : StoreValue) : Type 0 where
  pub means : Means nodes files (forest_of m)
  pub names_are : names ≡ names_in m
  pub facts_are : facts ≡ facts_in m

-- ---- a query over it

-- what a query asks over the file, or its first refusal, where no call fails
pub record Shows (files : Option Files) (name : List ℕ) (q : QueryTerm) (x : Result (Option Asked) Refusal)
    : Type 0 where
  pub shown : Shown
  pub file : File
  pub told : IfTold files (λ m. file_at m most_store name ≡ file)
  pub found : asked_over shown q name file ≡ x

pub record IsShown (files : Option Files) (name : List ℕ) (q : QueryTerm) (r : Refusal) : Type 0 where
  pub shows : Shows files name q (Err r)
  pub cause : HasCause r

-- it is refused, whatever is asked
abbrev pub IsUnopened : Option Files → List ℕ → Refusal → Type 0
IsUnopened files name r = (q : QueryTerm) → IsShown files name q r

-- what is asked of a store is answered: the query, and the names of the series
pub record IsAnsweredFor (q : QueryTerm) (budget : ℕ) (names : List (List ℕ)) (a : Answer) (asked : Asked) : Type 0
  where
    pub query_is : asked.query ≡ q
    pub names_are : names ≡ names_in asked.store
    pub is_answer : IsAnswerOf asked budget a

-- of a file that stands for no store nothing is asked
abbrev pub IsAnsweredAs : QueryTerm → ℕ → List (List ℕ) → Answer → Option Asked → Type 0
IsAnsweredAs q budget names a None = Unit {0}
IsAnsweredAs q budget names a (Some asked) = IsAnsweredFor q budget names a asked

-- the answer
pub record IsAnsweredOver (files : Option Files) (name : List ℕ) (q : QueryTerm) (budget : ℕ)
    (names : List (List ℕ)) (a : Answer) : Type 0 where
  pub asked : Option Asked
  pub shows : Shows files name q (Ok asked)
  pub answer : IsAnsweredAs q budget names a asked

-- the same where the file stands for a store, with the bytes that are handed out for it
pub record IsAnsweredIn (m : StoreValue) (q : QueryTerm) (budget : ℕ) (names : List (List ℕ)) (a : Answer)
    (before now : Option ℕ) : Type 0 where
  pub answer : IsAnsweredFor q budget names a (record { store = m; query = q })
  pub parts : IsReadInParts m q a.cut before now

abbrev pub HandsOver : Option Files → List ℕ → QueryTerm → ℕ → List (List ℕ) → Answer → Option ℕ → Option ℕ → Type 0
HandsOver files name q budget names a before now =
    IfTold files (λ k. (m : StoreValue) → IsStoreValue m → file_of k name ≡ Some (store_image m)
    → IsAnsweredIn m q budget names a before now)

-- ---- a query of a command

-- why there is no answer, over the bytes that were read
pub record IsUnanswered (files : Option Files) (c : QueryCommand) (r : Refusal) : Type 0 where
  pub reading : Reading
  pub read : IsRead files reading
  pub found : asked_by reading c ≡ Err r
  pub cause : HasCause r

-- the answer, over the bytes that were read
pub record IsFound (files : Option Files) (c : QueryCommand) (q : QueryTerm) (names : List (List ℕ)) (a : Answer)
    : Type 0 where
  pub reading : Reading
  pub read : IsRead files reading
  pub asked : Option Asked
  pub found : asked_by reading c ≡ Ok asked
  pub answer : IsAnsweredAs q c.budget names a asked
