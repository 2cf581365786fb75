-- `check` by its steps, and when it accepts a file.
pub mod Counts
use Rattle.std.proofs.Common.{◌≡◌, ◌∙◌, ℕ, ◌≤◌, List, length, Bool, true, false, Option, Some, None, Result, Ok, Err, refl, sym, ap, inl, arith}
use Rattle.std.specs.Prelude.{nat_lt, if◌then◌else◌}
use Rattle.std.specs.Result.{result_err}
use Rattle.std.proofs.lemmas.Bool.Decides.{nat_tests}
use Rattle.semantics.specs.Files.{Files, IfTold, file_of}
use Rattle.store_file.specs.Decoded.{decode_of}
use Rattle.store_file.specs.StoreValue.{StoreValue, IsStoreValue, store_image}
use Rattle.store_file.specs.declared.decoding.StoreErr.{StoreErr}
use Rattle.store_file.proofs.DecodedLaws.{decode-image, image-decode}
use Rattle.tree_file.specs.Bytes.{IsBytes}
use Rattle.query_cli.specs.Commands.{check}
use Rattle.query_cli.specs.Commands.Check.{CheckCommand, checked_by, count_all, ok_line}
use Rattle.query_cli.specs.Laws.{StoresAreAccepted, OnlyStoresAreAccepted}
use Rattle.query_cli.specs.Reading.{File, Reading, file_at, file_within, held, missing, most_store, oversized}
use Rattle.query_cli.specs.Refusals.{Refusal, bad_store}
use Rattle.query_cli.specs.Run.{IsDone, IsRefused}
use Rattle.query_cli.specs.Steps.{and_then, bytes_of, refused_as, store_in}
use Rattle.query_cli.specs.Stops.{IfRefused, IfStopped, IsStepRefusal, IsUnread}
use Rattle.query_cli.specs.declared.stop.Halt.{Halt}
use Rattle.query_cli.specs.declared.stop.Stop.{Stop}
use Rattle.query_cli.proofs.StepLaws.{came, came-read, came-refused, came-store, file_at-held, store-unread, kept-files, same-files}

-- ---- over the files

by_file : (c : CheckCommand) (reading : Reading) (f : File) → reading.store c.store ≡ f → checked_by reading c ≡ and_then (bytes_of c.store f) (λ stored. store_in stored)
by_file c reading f e = ap (λ g. and_then (bytes_of c.store g) (λ stored. store_in stored)) e

pub check_unread : (c : CheckCommand) (files : Option Files) (h : Halt) → IfStopped h (IsUnread files most_store c.store) → IfStopped h (IsRefused files (Some (check c)))
check_unread c files h =
    store-unread files c.store missing (Some (check c)) h
    (λ f r e k. ap result_err (by_file c (came files missing f) f e ∙ ap (λ x. and_then x (λ stored. store_in stored)) k))

pub check_refused : (c : CheckCommand) (files : Option Files) (bytes : List ℕ) (s : Stop) → IfTold files (λ m. file_at m most_store c.store ≡ held bytes)
    → IfRefused s (IsStepRefusal (store_in bytes)) → IfRefused s (IsRefused files (Some (check c)))
check_refused c files bytes s told =
    came-refused files missing (held bytes) (Some (check c)) s (store_in bytes)
    (λ r k. ap result_err (by_file c (came files missing (held bytes)) (held bytes) (came-store files c.store missing (held bytes) told) ∙ k))

pub check_done : (c : CheckCommand) (files now : Option Files) (bytes text : List ℕ) (m : StoreValue) → IfTold files (λ k. file_at k most_store c.store ≡ held bytes)
    → store_in bytes ≡ Ok m → IsStoreValue m → store_image m ≡ bytes → text ≡ ok_line (length m.series) (count_all m.series) → now ≡ files → IsDone files now (Some (check c)) text
check_done c files now bytes text m told found is stands line same =
    let there : (came files missing (held bytes)).store c.store ≡ held bytes = came-store files c.store missing (held bytes) told in
    let all : checked_by (came files missing (held bytes)) c ≡ Ok m = by_file c (came files missing (held bytes)) (held bytes) there ∙ found in
    record {
      answer = record {
        reading = came files missing (held bytes);
        read = came-read files missing (held bytes);
        accepted = ap result_err all;
        answer = record { store = m; is_store = is; stands = there ∙ ap held (sym stands); found = all; line = line };
      };
      files = same-files files now same;
      replayed = kept-files files now (Some (check c)) same;
    }

-- ---- which files are accepted

not_over : (most n : ℕ) → n ≤ most → nat_lt most n ≡ false
not_over most n h = grind (arith, nat_tests)

within-held : (most : ℕ) (bytes : List ℕ) → length bytes ≤ most → file_within most (Some bytes) ≡ held bytes
within-held most bytes few = rw (not_over most (length bytes) few) refl

pub stores-are-accepted : StoresAreAccepted
stores-are-accepted files c m is there few =
    let held_there : file_at files most_store c.store ≡ held (store_image m) = ap (file_within most_store) there ∙ within-held most_store (store_image m) few in
    ap (λ f. and_then (bytes_of c.store f) (λ stored. store_in stored)) held_there ∙ ap (refused_as bad_store) (decode-image m is)

decoded : (bytes : List ℕ) (r : Result StoreValue StoreErr) (m : StoreValue) → IsBytes bytes → decode_of bytes ≡ r → refused_as bad_store r ≡ Ok m → IsStoreValue m × (bytes ≡ store_image m)
decoded bytes (Ok k) m are e h =
    let found : decode_of bytes ≡ Ok m = cc in
    let stands = image-decode bytes m are found in
    (stands.store, sym stands.image)
decoded bytes (Err e) m are is h = cc

found_in : (bytes : List ℕ) (t : Bool) (name : List ℕ) (m : StoreValue) → IsBytes bytes
    → and_then (bytes_of name (if t then oversized else held bytes)) (λ stored. store_in stored) ≡ Ok m → IsStoreValue m × (bytes ≡ store_image m)
found_in bytes true name m are h = cc
found_in bytes false name m are h = decoded bytes (decode_of bytes) m are refl h

pub only-stores-are-accepted : OnlyStoresAreAccepted
only-stores-are-accepted files c bytes m there are h =
    found_in bytes (nat_lt most_store (length bytes)) c.store m are
    (sym (ap (λ o. and_then (bytes_of c.store (file_within most_store o)) (λ stored. store_in stored)) there) ∙ h)
