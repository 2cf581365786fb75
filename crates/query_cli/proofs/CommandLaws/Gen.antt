-- `gen` by its steps.
use Rattle.std.proofs.Common.{◌≡◌, ◌∙◌, ◌^◌, ◌≤◌, ℕ, List, [], ◌∷◌, ◌++◌, Option, Some, None, Ok, Err, false, length, refl, sym, ap, subst, inr, arith}
use Rattle.std.specs.Result.{result_err}
use Rattle.semantics.specs.Files.{Files, IfTold, file_of, with_file}
use Rattle.semantics.specs.Term.{QueryTerm}
use Rattle.store_file.specs.Added.{names_in, with_series}
use Rattle.store_file.specs.Facts.{facts_in}
use Rattle.store_file.specs.StoreValue.{StoreValue, IsStoreValue, has_name, store_image}
use Rattle.store_file.proofs.ImageLaws.{images-differ}
use Rattle.query_cli.specs.Asked.{Asked, admitted_in}
use Rattle.query_cli.specs.Commands.{gen}
use Rattle.query_cli.specs.Commands.Gen.{GenCommand, Generates, StepsTo, addition, files_after_gen, roomy_by, roomy_in, squares_of, store_after, sum_of}
use Rattle.query_cli.specs.Generated.{generated}
use Rattle.query_cli.specs.Reading.{File, Reading, file_at, held, missing, most_store, reading_in}
use Rattle.query_cli.specs.Refusals.{query_refusal}
use Rattle.query_cli.specs.Replay.{Accepted, replay, IsAccepted, IsHistory, Stands}
use Rattle.query_cli.specs.Run.{Accepts, IsDone, IsRefused}
use Rattle.query_cli.specs.Steps.{and_then, bytes_of, room_in, store_in, unless_refused}
use Rattle.query_cli.specs.Stops.{IfRefused, IfStopped, IsStepRefusal, IsUnread}
use Rattle.query_cli.specs.declared.stop.Halt.{Halt}
use Rattle.query_cli.specs.declared.stop.Stop.{Stop}
use Rattle.query_cli.proofs.AddedSums.{added-fact, squares-admitted, sum-admitted}
use Rattle.query_cli.proofs.GeneratedLaws.{generated-near, length-generated}
use Rattle.query_cli.proofs.ReplayLaws.{IsHistory-more, histories-make-stores, replay-more}
use Rattle.query_cli.proofs.StepLaws.{came, came-refused, came-store, file_at-held, refused-map, step-refused, store-unread}

-- ---- both sums are admitted

abbrev asked : QueryTerm → StoreValue → Asked
asked q m = record { store = m; query = q }

pub sum_in : (m : StoreValue) (name : List ℕ) (seed n : ℕ) → has_name (names_in m) name ≡ false → n ≤ 2 ^ 20
    → admitted_in (sum_of name) (with_series m name (generated seed n)) ≡ Ok (asked (sum_of name) (with_series m name (generated seed n)))
sum_in m name seed n new few =
    let k : StoreValue = with_series m name (generated seed n) in
    let short : length (generated seed n) ≤ 2 ^ 20 = omega (arith, length-generated seed n) in
    ap (unless_refused query_refusal (asked (sum_of name) k))
    (sum-admitted (facts_in k) name _ (added-fact m name (generated seed n) new) short (generated-near seed n))

pub squares_in : (m : StoreValue) (name : List ℕ) (seed n : ℕ) → has_name (names_in m) name ≡ false → n ≤ 2 ^ 20
    → admitted_in (squares_of name) (with_series m name (generated seed n)) ≡ Ok (asked (squares_of name) (with_series m name (generated seed n)))
squares_in m name seed n new few =
    let k : StoreValue = with_series m name (generated seed n) in
    let short : length (generated seed n) ≤ 2 ^ 20 = omega (arith, length-generated seed n) in
    ap (unless_refused query_refusal (asked (squares_of name) k))
    (squares-admitted (facts_in k) name _ (added-fact m name (generated seed n) new) short (generated-near seed n))

-- a query that is admitted is not refused
pub unrefused : (q : QueryTerm) (m : StoreValue) (s : Stop) → admitted_in q m ≡ Ok (asked q m) → IfRefused s (IsStepRefusal (admitted_in q m)) → IfRefused s (λ r. ⊥)
unrefused q m s is h = refused-map s (IsStepRefusal (admitted_in q m)) (λ r. ⊥) (λ r k. let e : Ok (asked q m) ≡ Err r = sym is ∙ k.called in cc) h

pub none_refused : (c : GenCommand) (stored : List ℕ) (s : Stop) → IfRefused s (λ r. ⊥) → IfRefused s (IsStepRefusal (roomy_in c stored))
none_refused c stored s h = refused-map s (λ r. ⊥) (IsStepRefusal (roomy_in c stored)) (λ r k. absurd k) h

-- ---- over the bytes of the store

pub room_refused : (c : GenCommand) (stored : List ℕ) (m : StoreValue) (s : Stop) → store_in stored ≡ Ok m
    → IfRefused s (IsStepRefusal (room_in m c.name)) → IfRefused s (IsStepRefusal (roomy_in c stored))
room_refused c stored m s e = step-refused s (room_in m c.name) (roomy_in c stored) (λ r k. rw e k)

pub roomy : (c : GenCommand) (stored : List ℕ) (m : StoreValue) → store_in stored ≡ Ok m → room_in m c.name ≡ Ok m → roomy_in c stored ≡ Ok m
roomy c stored m e f = rw e f

-- ---- over the file

by_file : (c : GenCommand) (reading : Reading) (f : File) → reading.store c.store ≡ f → roomy_by reading c ≡ and_then (bytes_of c.store f) (λ stored. roomy_in c stored)
by_file c reading f e = ap (λ g. and_then (bytes_of c.store g) (λ stored. roomy_in c stored)) e

pub gen_unread : (c : GenCommand) (files : Option Files) (h : Halt) → IfStopped h (IsUnread files most_store c.store) → IfStopped h (IsRefused files (Some (gen c)))
gen_unread c files h =
    store-unread files c.store missing (Some (gen c)) h
    (λ f r e k. ap result_err (by_file c (came files missing f) f e ∙ ap (λ x. and_then x (λ stored. roomy_in c stored)) k))

found_in_file : (c : GenCommand) (files : Option Files) (stored : List ℕ) → IfTold files (λ m. file_at m most_store c.store ≡ held stored)
    → roomy_by (came files missing (held stored)) c ≡ roomy_in c stored
found_in_file c files stored told = by_file c (came files missing (held stored)) (held stored) (came-store files c.store missing (held stored) told)

pub gen_refused : (c : GenCommand) (files : Option Files) (stored : List ℕ) (s : Stop) → IfTold files (λ m. file_at m most_store c.store ≡ held stored)
    → IfRefused s (IsStepRefusal (roomy_in c stored)) → IfRefused s (IsRefused files (Some (gen c)))
gen_refused c files stored s told =
    came-refused files missing (held stored) (Some (gen c)) s (roomy_in c stored) (λ r k. ap result_err (found_in_file c files stored told ∙ k))

-- nothing is refused once there is something to write
pub gen_accepted : (c : GenCommand) (files : Option Files) (stored text bytes : List ℕ) → IfTold files (λ m. file_at m most_store c.store ≡ held stored)
    → Generates c stored text bytes → IfTold files (λ m. Accepts m (Some (gen c)))
gen_accepted c None stored text bytes told g = tt
gen_accepted c (Some m) stored text bytes told g = ap result_err (found_in_file c (Some m) stored told ∙ g.found)

-- ---- what it comes to

-- the store that was read is the one for which STORE stood, and is left one step further
steps_to : (c : GenCommand) (m : Files) (now : Option Files) (stored text bytes : List ℕ) → file_at m most_store c.store ≡ held stored
    → Generates c stored text bytes → now ≡ Some (with_file m c.store bytes)
    → (k : StoreValue) → IsStoreValue k → file_of m c.store ≡ Some (store_image k) → StepsTo m c k now
steps_to c m now stored text bytes told g written k is stands =
    let there : Some stored ≡ Some (store_image k) = sym (file_at-held m most_store c.store stored told) ∙ stands in
    let bytes_same : stored ≡ store_image k = cc in
    let same : g.store ≡ k = images-differ g.store k g.is_store is (g.stands ∙ bytes_same) in
    record {
      accepted = subst (λ s. IsAccepted s (addition c)) same g.accepted;
      files = written ∙ ap (λ b. Some (with_file m c.store b)) (g.bytes_are ∙ ap (λ s. store_image (store_after c s)) same);
    }

goes_on : (c : GenCommand) (m : Files) (now : Option Files) → ((k : StoreValue) → IsStoreValue k → file_of m c.store ≡ Some (store_image k) → StepsTo m c k now)
    → (h : List Accepted) → IsHistory h → file_of m c.store ≡ Some (store_image (replay h)) → Stands m c.store (h ++ addition c ∷ []) now
goes_on c m now steps h history stands =
    let k = steps (replay h) (histories-make-stores h history) stands in
    record {
      history = IsHistory-more h (addition c) history k.accepted;
      files = k.files ∙ ap (λ s. Some (with_file m c.store (store_image s))) (sym (replay-more h (addition c)));
    }

pub gen_done : (c : GenCommand) (files now : Option Files) (stored text bytes : List ℕ) → IfTold files (λ m. file_at m most_store c.store ≡ held stored)
    → Generates c stored text bytes → IfTold files (λ m. now ≡ Some (with_file m c.store bytes)) → IsDone files now (Some (gen c)) text
gen_done c None now stored text bytes told g written =
    let found : roomy_by (came None missing (held stored)) c ≡ Ok g.store = found_in_file c None stored told ∙ g.found in
    record {
      answer = record { reading = came None missing (held stored); read = tt; accepted = ap result_err found; answer = record { store = g.store; found = found; lines = g.lines } };
      files = tt;
      replayed = tt;
    }
gen_done c (Some m) now stored text bytes told g written =
    let found : roomy_by (reading_in m) c ≡ Ok g.store = found_in_file c (Some m) stored told ∙ g.found in
    let steps : (k : StoreValue) → IsStoreValue k → file_of m c.store ≡ Some (store_image k) → StepsTo m c k now = steps_to c m now stored text bytes told g written in
    record {
      answer = record { reading = reading_in m; read = refl; accepted = ap result_err found; answer = record { store = g.store; found = found; lines = g.lines } };
      files = written ∙ ap (λ b. Some (with_file m c.store b)) g.bytes_are ∙ sym (ap (λ r. Some (files_after_gen m c r)) found);
      replayed = inr (record { store = steps; history = goes_on c m now steps });
    }
