-- Certificates as JSON: the value that is written, and the certificate that a value is.
use Rattle.std.specs.Prelude.{ℕ, ℤ, pos, negsuc, ◌^◌, ◌==◌, nat_lt, Bool, true, false, List, [], ◌∷◌, map, if◌then◌else◌, codes, decimal, Option, Some, None, option_and_then, option_map, Result, Ok, Err}
use Rattle.std.specs.Fmt.{signed_decimal}
use Rattle.std.specs.Str.{is_utf8}
use Rattle.semantics.specs.Numbers.{number_in}
use Rattle.serde_json.specs.Data.{Data, number, unsigned, string, array, object, Items, no_items, item, Members, no_members, member}
use Rattle.serde_json.specs.Events.{members_len}
use Rattle.serde_json.specs.Find.{as_array, as_number, as_object, as_str, as_u64, get}
use Rattle.serde_json.specs.Read.{read}
use Rattle.serde_json.specs.View.{items_of}
use Rattle.answer_check.specs.declared.certificate.Cert.{Cert}
use Rattle.answer_check.specs.declared.certificate.CertErr.{CertErr}
use Rattle.answer_check.specs.declared.certificate.CertErr.TheVariants.{Form, NotJson}
use Rattle.answer_check.specs.declared.certificate.CertKey.TheVariants.{Object, Budget, Cut, Hi, Lo, Query, Other}
use Rattle.answer_check.specs.declared.certificate.CertList.{CertList}
use Rattle.answer_check.specs.Certificate.{Triple}

-- ---- written

abbrev pub row_data : Triple → Data
row_data r =
    array (items_of (number (unsigned r.0) ∷ number (unsigned r.1) ∷ number (unsigned (if r.2 then 1 else 0)) ∷ []))

abbrev pub list_data : CertList → Data
list_data l = array (items_of (string l.name ∷ array (items_of (map row_data l.rows)) ∷ []))

-- the keys in their order
abbrev pub json_data : List ℕ → List Data → List ℕ → List ℕ → List ℕ → Data
json_data budget cut hi lo query =
    object
    (member (codes "budget") (string budget) (member (codes "cut") (array (items_of cut))
    (member (codes "hi") (string hi) (member (codes "lo") (string lo)
    (member (codes "query") (string query) no_members)))))

abbrev pub cert_data : Cert → Data
cert_data c =
    json_data (decimal c.budget) (map list_data c.cut) (signed_decimal c.hi) (signed_decimal c.lo) c.query

-- ---- read

-- all of them, where each is there
abbrev pub each : {A : Type 0} → List (Option A) → Option (List A)
each [] = Some []
each (None ∷ xs) = None
each (Some x ∷ xs) = option_map (λ ys. x ∷ ys) (each xs)

abbrev pub data_in : Items → List Data
data_in no_items = []
data_in (item d ds) = d ∷ data_in ds

-- a whole number below 2^32, written as an integer
abbrev pub as_place : Data → Option ℕ
as_place d =
    option_and_then (λ n. if nat_lt n (2 ^ 32) then Some n else None) (option_and_then as_u64 (as_number d))

-- 0 or 1
abbrev pub as_flag : Data → Option Bool
as_flag d =
    option_and_then (λ n. if n == 0 then Some false else (if n == 1 then Some true else None))
    (option_and_then as_u64 (as_number d))

abbrev pub row_from : Option ℕ → Option ℕ → Option Bool → Option Triple
row_from (Some start) (Some len) (Some opened) = Some (start, len, opened)
row_from (Some start) (Some len) None = None
row_from (Some start) None opened = None
row_from None len opened = None

abbrev pub row_of_items : Items → Option Triple
row_of_items no_items = None
row_of_items (item a no_items) = None
row_of_items (item a (item b no_items)) = None
row_of_items (item a (item b (item c no_items))) = row_from (as_place a) (as_place b) (as_flag c)
row_of_items (item a (item b (item c (item d ds)))) = None

abbrev pub row_of : Data → Option Triple
row_of d = option_and_then row_of_items (as_array d)

abbrev pub rows_of : Data → Option (List Triple)
rows_of d = option_and_then (λ ds. each (map row_of (data_in ds))) (as_array d)

-- a text, and a value beside it
abbrev pub pair_of_items : Items → Option (List ℕ × Data)
pair_of_items no_items = None
pair_of_items (item a no_items) = None
pair_of_items (item a (item b no_items)) = option_map (λ name. (name, b)) (as_str a)
pair_of_items (item a (item b (item c ds))) = None

abbrev pub pair_of : Data → Option (List ℕ × Data)
pair_of d = option_and_then pair_of_items (as_array d)

abbrev pub list_of : Data → Option CertList
list_of d =
    option_and_then (λ p. option_map (λ rows. record { name = p.0; rows = rows }) (rows_of p.1)) (pair_of d)

abbrev pub lists_of : Data → Option (List CertList)
lists_of d = option_and_then (λ ds. each (map list_of (data_in ds))) (as_array d)

-- what stands under a key
abbrev pub text_under : List ℕ → Data → Option (List ℕ)
text_under key d = option_and_then as_str (get key d)

abbrev pub number_under : List ℕ → Data → Option ℤ
number_under key d = option_and_then number_in (text_under key d)

abbrev pub natural : ℤ → Option ℕ
natural (pos n) = Some n
natural (negsuc n) = None

abbrev pub natural_under : List ℕ → Data → Option ℕ
natural_under key d = option_and_then natural (number_under key d)

abbrev pub cut_under : Data → Option (List CertList)
cut_under d = option_and_then lists_of (get (codes "cut") d)

-- the first key that is missing or not in its form, in their order; then a further key
abbrev pub certificate_from : Option ℕ → Option (List CertList) → Option ℤ → Option ℤ → Option (List ℕ) → ℕ
    → Result Cert CertErr
certificate_from None cut hi lo query keys = Err (Form Budget)
certificate_from (Some budget) None hi lo query keys = Err (Form Cut)
certificate_from (Some budget) (Some cut) None lo query keys = Err (Form Hi)
certificate_from (Some budget) (Some cut) (Some hi) None query keys = Err (Form Lo)
certificate_from (Some budget) (Some cut) (Some hi) (Some lo) None keys = Err (Form Query)
certificate_from (Some budget) (Some cut) (Some hi) (Some lo) (Some query) keys =
    if keys == 5
    then Ok (record { budget = budget; lo = lo; hi = hi; query = query; cut = cut })
    else Err (Form Other)

abbrev pub certificate_of_members : Data → Option Members → Result Cert CertErr
certificate_of_members d None = Err (Form Object)
certificate_of_members d (Some ms) =
    certificate_from (natural_under (codes "budget") d) (cut_under d) (number_under (codes "hi") d)
    (number_under (codes "lo") d) (text_under (codes "query") d) (members_len ms)

-- the certificate that a value is
abbrev pub certificate_of : Data → Result Cert CertErr
certificate_of d = certificate_of_members d (as_object d)

-- the value that bytes spell; of a key that stands twice the last value counts
abbrev pub json_in : List ℕ → Option Data
json_in bytes = if is_utf8 bytes then read bytes else None

abbrev pub certificate_if : Option Data → Result Cert CertErr
certificate_if None = Err NotJson
certificate_if (Some d) = certificate_of d

-- the certificate that bytes spell
abbrev pub certificate_in : List ℕ → Result Cert CertErr
certificate_in bytes = certificate_if (json_in bytes)
