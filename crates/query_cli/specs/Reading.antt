-- What reading the files of a command comes to, where no call fails.
use Rattle.std.specs.Prelude.{◌≡◌, ◌^◌, ℕ, List, length, Option, Some, None, nat_lt, if◌then◌else◌}
use Rattle.semantics.specs.Admission.{NotAdmitted}
use Rattle.semantics.specs.Files.{Files, file_of}

-- a file as it is read: its bytes; or there is none; or it is too long
pub data File : Type 0 where
  held : List ℕ → File
  missing : File
  oversized : File

abbrev pub file_within : ℕ → Option (List ℕ) → File
file_within most None = missing
file_within most (Some bytes) = if nat_lt most (length bytes) then oversized else held bytes

-- the file of a name, of at most so many bytes
abbrev pub file_at : Files → ℕ → List ℕ → File
file_at files most name = file_within most (file_of files name)

-- the most bytes of a CSV file
abbrev pub most_csv : ℕ
most_csv = 2 ^ 26

-- the most bytes of a certificate
abbrev pub most_cert : ℕ
most_cert = 2 ^ 26

-- the most bytes of a script
abbrev pub most_script : ℕ
most_script = 2 ^ 24

-- the most bytes of a store
abbrev pub most_store : ℕ
most_store = 2 ^ 28

-- what a query meets that reads parts of a file which stands for no store: an answer, a part that is no store's, or why
-- it is not admitted
pub data Shown : Type 0 where
  answered : Shown
  no_store : Shown
  refused : NotAdmitted → Shown

-- the files that are read, by their kind and name, and what is shown by parts of one that stands for no store
pub record Reading : Type 0 where
  pub csv : List ℕ → File
  pub store : List ℕ → File
  pub cert : List ℕ → File
  pub script : List ℕ → File
  pub shown : Shown

-- the files as they are there
abbrev pub reading_with : Files → Shown → Reading
reading_with files shown = record {
  csv = file_at files most_csv;
  store = file_at files most_store;
  cert = file_at files most_cert;
  script = file_at files most_script;
  shown = shown;
}

abbrev pub reading_in : Files → Reading
reading_in files = reading_with files no_store

-- what is read is what is there, where the shelf tells its files
abbrev pub IsRead : Option Files → Reading → Type 0
IsRead None reading = Unit {0}
IsRead (Some files) reading = reading ≡ reading_with files reading.shown
