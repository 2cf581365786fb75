-- Why a command is refused, and the line of each refusal.
use Rattle.answer_check.specs.declared.certificate.CertErr.TheVariants as cert
use Rattle.answer_check.specs.declared.certificate.CertErr.{CertErr}
use Rattle.answer_check.specs.declared.certificate.CertKey.TheVariants as key
use Rattle.answer_check.specs.declared.certificate.CertKey.{CertKey}
use Rattle.expr_parse.specs.declared.error.ParseErr.TheVariants as text
use Rattle.expr_parse.specs.declared.error.ParseErr.{ParseErr}
use Rattle.query_cli.specs.declared.status.Status.TheVariants as status
use Rattle.query_cli.specs.declared.status.Status.{Status}
use Rattle.semantics.specs.Admission as admission
use Rattle.series_csv.specs.declared.fault.CsvErr.TheVariants as csv
use Rattle.series_csv.specs.declared.fault.CsvErr.{CsvErr}
use Rattle.std.specs.Fmt.{decimal, signed_decimal}
use Rattle.std.specs.Prelude.{ℕ, List, Option, Some, None, ℤ, [], ◌++◌, codes}
use Rattle.store_file.specs.declared.adding.SeriesErr.TheVariants as series
use Rattle.store_file.specs.declared.adding.SeriesErr.{SeriesErr}
use Rattle.store_file.specs.declared.decoding.StoreErr.TheVariants as stored
use Rattle.store_file.specs.declared.decoding.StoreErr.{StoreErr}

pub data Refusal : Type 0 where
  usage : Refusal
  absent : List ℕ → Refusal
  too_big : List ℕ → Refusal
  bad_csv : CsvErr → Refusal
  bad_store : StoreErr → Refusal
  series_fault : List ℕ → SeriesErr → Refusal
  domain : ℕ → ℤ → ℤ → Refusal
  bad_query : ParseErr → Refusal
  store_fault : Refusal
  query_unknown : List ℕ → Refusal
  query_rank : ℕ → Refusal
  range : ℕ → Refusal
  not_a_cut : ℕ → Refusal
  escapes : ℤ → ℤ → Refusal
  wide : ℕ → Refusal
  bad_cert : CertErr → Refusal
  bad_script : ℕ → Refusal
  arena_full : Refusal

abbrev pub status_of : Refusal → Status
status_of usage = status.Usage
status_of (absent name) = status.Absent
status_of (too_big name) = status.TooBig
status_of (bad_csv e) = status.BadCsv
status_of (bad_store e) = status.BadStore
status_of (series_fault name e) = status.SeriesFault
status_of (domain sum lo hi) = status.Domain
status_of (bad_query e) = status.BadQuery
status_of store_fault = status.BadStore
status_of (query_unknown name) = status.BadQuery
status_of (query_rank sum) = status.BadQuery
status_of (range node) = status.Range
status_of (not_a_cut place) = status.Rejected
status_of (escapes lo hi) = status.Rejected
status_of (wide width) = status.Rejected
status_of (bad_cert e) = status.BadCert
status_of (bad_script line) = status.BadScript
status_of arena_full = status.ArenaFull

-- why a query is not admitted
abbrev pub query_refusal : admission.NotAdmitted → Refusal
query_refusal (admission.unknown name) = query_unknown name
query_refusal (admission.high_rank sum) = query_rank sum
query_refusal (admission.outside sum lo hi) = domain sum lo hi
query_refusal (admission.too_great node) = range node

-- the status that is called for: that of the first refusal, or Ok
abbrev pub called_for : Option Refusal → Status
called_for None = status.Ok
called_for (Some r) = status_of r

-- the first refusal of a column; want of memory has no line
abbrev pub csv_line : CsvErr → List ℕ
csv_line csv.NoHeader = codes "csv no header\n"
csv_line csv.NoColumn = codes "csv no column\n"
csv_line (csv.Short k) = codes "csv short " ++ decimal k ++ codes "\n"
csv_line (csv.Bad k) = codes "csv bad " ++ decimal k ++ codes "\n"
csv_line (csv.TooLarge k) = codes "csv too large " ++ decimal k ++ codes "\n"
csv_line (csv.MissingFirst k) = codes "csv missing first " ++ decimal k ++ codes "\n"
csv_line (csv.TooLong k) = codes "csv too long " ++ decimal k ++ codes "\n"
csv_line csv.Memory = []

-- the first refusal of a store's bytes; want of memory has no line
abbrev pub store_line : StoreErr → List ℕ
store_line (stored.NotAStore place) = codes "store bad header " ++ decimal place ++ codes "\n"
store_line (stored.BadNode name start len) =
    codes "store bad node " ++ name ++ codes " " ++ decimal start ++ codes " " ++ decimal len ++ codes "\n"
store_line stored.Memory = []

-- why a series of a name is refused; a full arena and want of memory have no line here
abbrev pub series_line : List ℕ → SeriesErr → List ℕ
series_line name series.Exists = codes "series exists " ++ name ++ codes "\n"
series_line name series.TooMany = codes "series too many\n"
series_line name series.Unknown = codes "series unknown " ++ name ++ codes "\n"
series_line name series.TooLong = codes "series too long " ++ name ++ codes "\n"
series_line name series.ArenaFull = []
series_line name series.Memory = []

-- why a text is no query; want of memory has no line
abbrev pub query_line : ParseErr → List ℕ
query_line (text.At place) = codes "query at " ++ decimal place ++ codes "\n"
query_line text.TooLong = codes "query too long\n"
query_line text.TooDeep = codes "query too deep\n"
query_line text.TooManySums = codes "query too many sums\n"
query_line text.TooManyNames = codes "query too many names\n"
query_line text.Memory = []

-- what of a certificate is not in its form
abbrev pub key_text : CertKey → List ℕ
key_text key.Object = codes "object"
key_text key.Budget = codes "budget"
key_text key.Cut = codes "cut"
key_text key.Hi = codes "hi"
key_text key.Lo = codes "lo"
key_text key.Query = codes "query"
key_text key.Other = codes "other"

-- why bytes are no certificate; want of memory has no line
abbrev pub cert_line : CertErr → List ℕ
cert_line cert.NotJson = codes "certificate not json\n"
cert_line (cert.Form k) = codes "certificate form " ++ key_text k ++ codes "\n"
cert_line cert.Memory = []

-- the line of a refusal
abbrev pub line_of : Refusal → List ℕ
line_of usage = codes "usage fault\n"
line_of (absent name) = codes "absent " ++ name ++ codes "\n"
line_of (too_big name) = codes "too big " ++ name ++ codes "\n"
line_of (bad_csv e) = csv_line e
line_of (bad_store e) = store_line e
line_of (series_fault name e) = series_line name e
line_of (domain sum lo hi) =
    codes "domain " ++ decimal sum ++ codes " " ++ signed_decimal lo ++ codes " " ++ signed_decimal hi ++ codes "\n"
line_of (bad_query e) = query_line e
line_of store_fault = codes "store fault\n"
line_of (query_unknown name) = codes "query unknown " ++ name ++ codes "\n"
line_of (query_rank sum) = codes "query rank " ++ decimal sum ++ codes "\n"
line_of (range node) = codes "range " ++ decimal node ++ codes "\n"
line_of (not_a_cut place) = codes "not a cut " ++ decimal place ++ codes "\n"
line_of (escapes lo hi) = codes "escapes " ++ signed_decimal lo ++ codes " " ++ signed_decimal hi ++ codes "\n"
line_of (wide width) = codes "wide " ++ decimal width ++ codes "\n"
line_of (bad_cert e) = cert_line e
line_of (bad_script line) = codes "script line " ++ decimal line ++ codes "\n"
line_of arena_full = codes "refused arena full\n"
