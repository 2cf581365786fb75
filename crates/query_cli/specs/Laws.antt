-- When `check` accepts a file, and what the certificates of `prove` are worth.
use Rattle.std.specs.Prelude.{◌≡◌, ◌≤◌, List, ℕ, length, Some, Ok}
use Rattle.answer_check.specs.Certificate.{certificate_for}
use Rattle.answer_check.specs.Verdict.{answer_of}
use Rattle.answer_check.specs.declared.verdict.Verdict.TheVariants.{Holds}
use Rattle.descent.specs.declared.descents.Answer.{Answer}
use Rattle.semantics.specs.Files.{Files, file_of}
use Rattle.store_file.specs.Added.{names_in}
use Rattle.store_file.specs.StoreValue.{StoreValue, IsStoreValue, store_image}
use Rattle.tree_file.specs.Bytes.{IsBytes}
use Rattle.query_cli.specs.Asked.{Asked, IsAnswerOf}
use Rattle.query_cli.specs.Commands.Check.{CheckCommand, checked_by}
use Rattle.query_cli.specs.Commands.Query.{QueryCommand, asked_by}
use Rattle.query_cli.specs.Reading.{Reading, most_store, reading_in}

-- in a file that holds the bytes of a store it finds that store
abbrev pub StoresAreAccepted : Type 0
StoresAreAccepted = (files : Files) (c : CheckCommand) (m : StoreValue) → IsStoreValue m
    → file_of files c.store ≡ Some (store_image m) → length (store_image m) ≤ most_store
    → checked_by (reading_in files) c ≡ Ok m

-- and in no other file a store
abbrev pub OnlyStoresAreAccepted : Type 0
OnlyStoresAreAccepted = (files : Files) (c : CheckCommand) (bytes : List ℕ) (m : StoreValue)
    → file_of files c.store ≡ Some bytes → IsBytes bytes → checked_by (reading_in files) c ≡ Ok m
    → IsStoreValue m × (bytes ≡ store_image m)

-- the certificate of an answer over a store, which is what `prove` prints, holds over that store, since its canonical
-- query is the one that was asked
abbrev pub CertificatesHold : Type 0
CertificatesHold = (reading : Reading) (c : QueryCommand) (asked : Asked) (answer : Answer)
    → asked_by reading c ≡ Ok (Some asked) → IsAnswerOf asked c.budget answer
    → answer_of asked.store (certificate_for (names_in asked.store) asked.query c.budget answer) ≡ Ok Holds
