-- What is answered by `usage fault`.
use Rattle.std.proofs.Common.{◌≡◌, ◌∙◌, ℤ, Bool, true, false, List, ℕ, Option, Some, None, Result, Ok, Err, refl}
use Rattle.std.specs.Prelude.{if◌then◌else◌}
use Rattle.std.specs.Result.{result_err}
use Rattle.answer_check.specs.Json.{certificate_in}
use Rattle.answer_check.specs.Verdict.{answer_of}
use Rattle.answer_check.specs.declared.certificate.Cert.{Cert}
use Rattle.answer_check.specs.declared.certificate.CertErr.{CertErr}
use Rattle.answer_check.specs.declared.verdict.Verdict.{Verdict}
use Rattle.answer_check.specs.declared.verdict.Verdict.TheVariants as verdict
use Rattle.answer_check.specs.declared.verdict.VerifyErr.{VerifyErr}
use Rattle.answer_check.specs.declared.verdict.VerifyErr.TheVariants as unverified
use Rattle.expr.specs.Refusals.{refusal_by}
use Rattle.semantics.specs.Admission as admission
use Rattle.semantics.specs.Files.{Files}
use Rattle.expr_parse.specs.Parsed.{parsed}
use Rattle.expr_parse.specs.declared.error.ParseErr.{ParseErr}
use Rattle.semantics.specs.Plain.{plain}
use Rattle.semantics.specs.Term.{QueryTerm}
use Rattle.series_csv.specs.Column.{column_of}
use Rattle.series_csv.specs.declared.fault.CsvErr.{CsvErr}
use Rattle.sessions.specs.Script.{script_of}
use Rattle.sessions.specs.declared.events.Event.{Event}
use Rattle.sessions.specs.declared.scripts.ScriptErr.{ScriptErr}
use Rattle.store_file.specs.Added.{name_refusal}
use Rattle.store_file.specs.StoreValue.{StoreValue}
use Rattle.store_file.specs.declared.adding.SeriesErr.{SeriesErr}
use Rattle.store_file.specs.Decoded.{decode_of}
use Rattle.store_file.specs.Facts.{facts_in}
use Rattle.store_file.specs.Grown.{growth_refusal}
use Rattle.store_file.specs.Last.{last_in}
use Rattle.store_file.specs.declared.decoding.StoreErr.{StoreErr}
use Rattle.store_file.specs.declared.decoding.StoreErr.TheVariants as stored
use Rattle.query_cli.specs.Asked.{admitted_in}
use Rattle.query_cli.specs.Commands.{Command, append, check, gen, load, new_store, once, prove, query, refusal_of, session, verify}
use Rattle.query_cli.specs.Commands.Check.{CheckCommand, checked_by}
use Rattle.query_cli.specs.Commands.Append.{append_by, appended_in}
use Rattle.query_cli.specs.Commands.Column.{Bringing, Brought, ColumnCommand, brought_by}
use Rattle.query_cli.specs.Commands.Gen.{GenCommand, roomy_by, roomy_in}
use Rattle.query_cli.specs.Commands.Load.{load_by, loaded_in}
use Rattle.query_cli.specs.Commands.Once.{OnceCommand, one_series, sum_query, summed_by, summed_in}
use Rattle.query_cli.specs.Commands.Query.{QueryCommand, are_bytes, asked_by, asked_in, asked_of, asked_of_none, asked_over, query_in}
use Rattle.query_cli.specs.Commands.Session.{Scripted, SessionCommand, script_refusal, scripted_by, scripted_in}
use Rattle.query_cli.specs.Commands.Verify.{VerifyCommand, cert_in, upheld_by, upheld_in, verified_by}
use Rattle.query_cli.specs.Reading.{File, Reading, Shown, answered, held, missing, no_store, oversized, refused}
use Rattle.query_cli.specs.Refusals.{Refusal, absent, arena_full, bad_cert, bad_csv, bad_query, bad_script, bad_store, domain, escapes, not_a_cut, query_rank, query_refusal, query_unknown, range, series_fault, status_of, store_fault, too_big, usage, wide}
use Rattle.query_cli.specs.Run.{IsRefused}
use Rattle.query_cli.specs.Steps.{and_then, bytes_of, cert_bytes, column_in, csv_bytes, last_reading_in, refused_as, room_in, script_bytes, short_in, store_bytes, store_in, unless_refused}
use Rattle.query_cli.specs.declared.status.Status.TheVariants as status

-- ---- steps that never answer so

behind : {A B : Type 0} (x : Result A Refusal) (f : A → Result B Refusal) → (x ≡ Err usage → ⊥) → ((a : A) → f a ≡ Err usage → ⊥) → and_then x f ≡ Err usage → ⊥
behind (Ok a) f first rest h = rest a h
behind (Err e) f first rest h = first cc

read : (name : List ℕ) (f : File) → bytes_of name f ≡ Err usage → ⊥
read name (held b) h = cc
read name missing h = cc
read name oversized h = cc

error : {A E : Type 0} (make : E → Refusal) (x : Result A E) → ((e : E) → make e ≡ usage → ⊥) → refused_as make x ≡ Err usage → ⊥
error make (Ok a) isnt h = cc
error make (Err e) isnt h = isnt e cc

unless : {A E : Type 0} (make : E → Refusal) (a : A) (o : Option E) → ((e : E) → make e ≡ usage → ⊥) → unless_refused make a o ≡ Err usage → ⊥
unless make a None isnt h = cc
unless make a (Some e) isnt h = isnt e cc

admission_isnt : (e : admission.NotAdmitted) → query_refusal e ≡ usage → ⊥
admission_isnt (admission.unknown name) h = cc
admission_isnt (admission.high_rank sum) h = cc
admission_isnt (admission.outside sum lo hi) h = cc
admission_isnt (admission.too_great node) h = cc

in_admitted : (q : QueryTerm) (m : StoreValue) → admitted_in q m ≡ Err usage → ⊥
in_admitted q m = unless {E = admission.NotAdmitted} query_refusal (record { store = m; query = q }) (admission.refusal_of (facts_in m) (plain q)) admission_isnt

of_none : (shown : Shown) → asked_of_none shown ≡ Err usage → ⊥
of_none answered h = cc
of_none no_store h = cc
of_none (refused why) h = admission_isnt why cc

of_decoded : (shown : Shown) (q : QueryTerm) (r : Result StoreValue StoreErr) → asked_of shown q r ≡ Err usage → ⊥
of_decoded shown q (Ok m) = behind (admitted_in q m) (λ asked. Ok (Some asked)) (in_admitted q m) (λ a h. cc)
of_decoded shown q (Err (stored.NotAStore place)) = λ h. cc
of_decoded shown q (Err (stored.BadNode name start len)) = of_none shown
of_decoded shown q (Err stored.Memory) = of_none shown

in_bytes : (shown : Shown) (q : QueryTerm) (bytes : List ℕ) (t : Bool)
    → (if t then asked_of shown q (decode_of bytes) else asked_of_none shown) ≡ Err usage → ⊥
in_bytes shown q bytes true = of_decoded shown q (decode_of bytes)
in_bytes shown q bytes false = of_none shown

abbrev found_in : StoreValue → List ℤ → Result Brought Refusal
found_in store xs = Ok (record { store = store; readings = xs })

-- ---- commands

in_csv : (c : OnceCommand) (bytes : List ℕ) → summed_in c bytes ≡ Err usage → ⊥
in_csv c bytes =
    behind (column_in bytes c.column c.scale None) (λ xs. admitted_in (sum_query c) (one_series c xs))
    (error {E = CsvErr} bad_csv (column_of bytes c.column c.scale None) (λ e k. cc)) (λ xs. in_admitted (sum_query c) (one_series c xs))

once_isnt : (reading : Reading) (c : OnceCommand) → summed_by reading c ≡ Err usage → ⊥
once_isnt reading c = behind (csv_bytes reading c.csv) (λ bytes. summed_in c bytes) (read c.csv (reading.csv c.csv)) (in_csv c)

loaded_column : (c : ColumnCommand) (text : List ℕ) (store : StoreValue) → and_then (column_in text c.column store.scale None) (λ xs. found_in store xs) ≡ Err usage → ⊥
loaded_column c text store =
    behind (column_in text c.column store.scale None) (λ xs. found_in store xs)
    (error {E = CsvErr} bad_csv (column_of text c.column store.scale None) (λ e k. cc)) (λ xs h. cc)

loaded_room : (c : ColumnCommand) (text : List ℕ) (m : StoreValue)
    → and_then (room_in m c.name) (λ store. and_then (column_in text c.column store.scale None) (λ xs. found_in store xs)) ≡ Err usage → ⊥
loaded_room c text m =
    behind (room_in m c.name) (λ store. and_then (column_in text c.column store.scale None) (λ xs. found_in store xs))
    (unless {E = SeriesErr} (series_fault c.name) m (name_refusal m c.name) (λ e k. cc)) (loaded_column c text)

load_isnt : (c : ColumnCommand) (stored text : List ℕ) → loaded_in c stored text ≡ Err usage → ⊥
load_isnt c stored text =
    behind (store_in stored) (λ m. and_then (room_in m c.name) (λ store. and_then (column_in text c.column store.scale None) (λ xs. found_in store xs)))
    (error {E = StoreErr} bad_store (decode_of stored) (λ e k. cc)) (loaded_room c text)

abbrev grown_in : ColumnCommand → StoreValue → List ℤ → Result Brought Refusal
grown_in c m xs = and_then (short_in m c.name xs) (λ more. found_in m more)

abbrev behind_last : ColumnCommand → List ℕ → StoreValue → Option ℤ → Result Brought Refusal
behind_last c text m last = and_then (column_in text c.column m.scale last) (λ xs. grown_in c m xs)

appended_short : (c : ColumnCommand) (m : StoreValue) (xs : List ℤ) → grown_in c m xs ≡ Err usage → ⊥
appended_short c m xs =
    behind (short_in m c.name xs) (λ more. found_in m more) (unless {E = SeriesErr} (series_fault c.name) xs (growth_refusal m c.name xs) (λ e k. cc)) (λ more h. cc)

appended_column : (c : ColumnCommand) (text : List ℕ) (m : StoreValue) (last : Option ℤ) → behind_last c text m last ≡ Err usage → ⊥
appended_column c text m last =
    behind (column_in text c.column m.scale last) (λ xs. grown_in c m xs)
    (error {E = CsvErr} bad_csv (column_of text c.column m.scale last) (λ e k. cc)) (appended_short c m)

appended_series : (c : ColumnCommand) (text : List ℕ) (m : StoreValue) → and_then (last_reading_in m c.name) (λ last. behind_last c text m last) ≡ Err usage → ⊥
appended_series c text m =
    behind (last_reading_in m c.name) (λ last. behind_last c text m last)
    (error {E = SeriesErr} (series_fault c.name) (last_in m c.name) (λ e k. cc)) (appended_column c text m)

append_isnt : (c : ColumnCommand) (stored text : List ℕ) → appended_in c stored text ≡ Err usage → ⊥
append_isnt c stored text =
    behind (store_in stored) (λ m. and_then (last_reading_in m c.name) (λ last. behind_last c text m last))
    (error {E = StoreErr} bad_store (decode_of stored) (λ e k. cc)) (appended_series c text)

bring_isnt : (reading : Reading) (c : ColumnCommand) (w : Bringing) → ((stored text : List ℕ) → w.find stored text ≡ Err usage → ⊥) → brought_by reading c w ≡ Err usage → ⊥
bring_isnt reading c w find =
    behind (store_bytes reading c.store) (λ stored. and_then (csv_bytes reading c.csv) (λ text. w.find stored text)) (read c.store (reading.store c.store))
    (λ stored. behind (csv_bytes reading c.csv) (λ text. w.find stored text) (read c.csv (reading.csv c.csv)) (find stored))

check_isnt : (reading : Reading) (c : CheckCommand) → checked_by reading c ≡ Err usage → ⊥
check_isnt reading c = behind _ _ (read c.store (reading.store c.store)) (λ stored. error bad_store _ (λ e k. cc))

query_isnt : (reading : Reading) (c : QueryCommand) → asked_by reading c ≡ Err usage → ⊥
query_isnt reading c =
    behind (query_in c.text) (λ q. asked_over reading.shown q c.store (reading.store c.store))
    (error {E = ParseErr} bad_query (parsed c.text) (λ e k. cc))
    (λ q. behind (store_bytes reading c.store) (λ bytes. asked_in reading.shown q bytes)
    (read c.store (reading.store c.store)) (λ bytes. in_bytes reading.shown q bytes (are_bytes bytes)))

by_verdict : (m : StoreValue) (c : Cert) (x : Result Verdict VerifyErr) → upheld_by m c x ≡ Err usage → ⊥
by_verdict m c (Ok verdict.Holds) h = cc
by_verdict m c (Ok (verdict.NotACut place)) h = cc
by_verdict m c (Ok (verdict.Escapes iv)) h = cc
by_verdict m c (Ok (verdict.Wide width)) h = cc
by_verdict m c (Err (unverified.Parse e)) h = cc
by_verdict m c (Err (unverified.Admit e)) h = admission_isnt (refusal_by e) cc
by_verdict m c (Err unverified.Memory) h = cc

in_upheld : (stored text : List ℕ) → upheld_in stored text ≡ Err usage → ⊥
in_upheld stored text =
    behind (store_in stored) (λ m. and_then (cert_in text) (λ c. upheld_by m c (answer_of m c)))
    (error {E = StoreErr} bad_store (decode_of stored) (λ e k. cc))
    (λ m. behind (cert_in text) (λ c. upheld_by m c (answer_of m c))
    (error {E = CertErr} bad_cert (certificate_in text) (λ e k. cc)) (λ c. by_verdict m c (answer_of m c)))

verify_isnt : (reading : Reading) (c : VerifyCommand) → verified_by reading c ≡ Err usage → ⊥
verify_isnt reading c =
    behind (store_bytes reading c.store) (λ stored. and_then (cert_bytes reading c.cert) (λ text. upheld_in stored text))
    (read c.store (reading.store c.store))
    (λ stored. behind (cert_bytes reading c.cert) (λ text. upheld_in stored text) (read c.cert (reading.cert c.cert))
    (in_upheld stored))

gen_isnt : (reading : Reading) (c : GenCommand) → roomy_by reading c ≡ Err usage → ⊥
gen_isnt reading c =
    behind (store_bytes reading c.store) (λ stored. roomy_in c stored) (read c.store (reading.store c.store))
    (λ stored. behind (store_in stored) (λ m. room_in m c.name) (error {E = StoreErr} bad_store (decode_of stored) (λ e k. cc))
    (λ m. unless {E = SeriesErr} (series_fault c.name) m (name_refusal m c.name) (λ e k. cc)))

abbrev script_found : StoreValue → List Event → Result Scripted Refusal
script_found m events = Ok (record { store = m; events = events })

session_isnt : (reading : Reading) (c : SessionCommand) → scripted_by reading c ≡ Err usage → ⊥
session_isnt reading c =
    behind (store_bytes reading c.store) (λ stored. and_then (script_bytes reading c.script) (λ text. scripted_in stored text)) (read c.store (reading.store c.store))
    (λ stored. behind (script_bytes reading c.script) (λ text. scripted_in stored text) (read c.script (reading.script c.script))
    (λ text. behind (store_in stored) (λ m. and_then (refused_as script_refusal (script_of text)) (λ events. script_found m events)) (error {E = StoreErr} bad_store (decode_of stored) (λ e k. cc))
    (λ m. behind (refused_as script_refusal (script_of text)) (λ events. script_found m events) (error {E = ScriptErr} script_refusal (script_of text) (λ e k. cc)) (λ events h. cc))))

error_of : {A : Type 0} (x : Result A Refusal) (r : Refusal) → result_err x ≡ Some r → x ≡ Err r
error_of (Ok a) r h = cc
error_of (Err e) r h = cc

of_status : (r : Refusal) → status_of r ≡ status.Usage → r ≡ usage
of_status usage e = cc
of_status (absent name) e = cc
of_status (too_big name) e = cc
of_status (bad_csv e) h = cc
of_status (bad_store e) h = cc
of_status (series_fault name e) h = cc
of_status (domain sum lo hi) e = cc
of_status (bad_query e) h = cc
of_status store_fault e = cc
of_status (query_unknown name) e = cc
of_status (query_rank sum) e = cc
of_status (range node) h = cc
of_status (not_a_cut place) h = cc
of_status (escapes lo hi) h = cc
of_status (wide width) h = cc
of_status (bad_cert e) h = cc
of_status (bad_script line) h = cc
of_status arena_full h = cc

is_usage : (reading : Reading) (command : Option Command) → refusal_of reading command ≡ Some usage → command ≡ None
is_usage reading None h = refl
is_usage reading (Some (once c)) h = absurd (once_isnt reading c (error_of (summed_by reading c) usage h))
is_usage reading (Some (new_store c)) h = cc
is_usage reading (Some (load c)) h = absurd (bring_isnt reading c (load_by c) (load_isnt c) (error_of (brought_by reading c (load_by c)) usage h))
is_usage reading (Some (append c)) h = absurd (bring_isnt reading c (append_by c) (append_isnt c) (error_of (brought_by reading c (append_by c)) usage h))
is_usage reading (Some (check c)) h = absurd (check_isnt reading c (error_of (checked_by reading c) usage h))
is_usage reading (Some (query c)) h = absurd (query_isnt reading c (error_of (asked_by reading c) usage h))
is_usage reading (Some (prove c)) h = absurd (query_isnt reading c (error_of (asked_by reading c) usage h))
is_usage reading (Some (verify c)) h = absurd (verify_isnt reading c (error_of (verified_by reading c) usage h))
is_usage reading (Some (gen c)) h = absurd (gen_isnt reading c (error_of (roomy_by reading c) usage h))
is_usage reading (Some (session c)) h = absurd (session_isnt reading c (error_of (scripted_by reading c) usage h))

pub usage_only : (files : Option Files) (command : Option Command) (r : Refusal) → IsRefused files command r → status_of r ≡ status.Usage → command ≡ None
usage_only files command r k e =
    let is : r ≡ usage = of_status r e in
    let called : refusal_of k.reading command ≡ Some usage = k.called ∙ (λ i. Some (is i)) in
    is_usage k.reading command called
