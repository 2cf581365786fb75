-- What a certificate of an answer says, and its text.
use Rattle.std.specs.Prelude.{ℕ, ◌+◌, ◌==◌, Bool, List, [], ◌∷◌, ◌++◌, map, flat_map, if◌then◌else◌, codes, decimal}
use Rattle.std.specs.Fmt.{signed_decimal}
use Rattle.std.specs.List.{list_any}
use Rattle.semantics.specs.Admission.{query_names}
use Rattle.semantics.specs.Names.{same_name}
use Rattle.semantics.specs.Term.{QueryTerm}
use Rattle.expr_parse.specs.Canonical.{canonical_text}
use Rattle.descent.specs.declared.descents.Answer.{Answer}
use Rattle.descent.specs.declared.rows.CutRow.{CutRow}
use Rattle.answer_check.specs.declared.certificate.Cert.{Cert}
use Rattle.answer_check.specs.declared.certificate.CertList.{CertList}

-- a row as it is told: its first position, how many it has, and whether it is opened
abbrev pub Triple : Type 0
Triple = ℕ × ℕ × Bool

-- ---- the certificate of an answer

-- the rows of a series
abbrev pub rows_for : ℕ → List CutRow → List Triple
rows_for k [] = []
rows_for k (row ∷ rows) =
    if row.series == k then (row.start, row.len, row.opened) ∷ rows_for k rows else rows_for k rows

-- a list for each series that a query names, where those from the k-th on have these names
abbrev pub lists_for : QueryTerm → ℕ → List (List ℕ) → List CutRow → List CertList
lists_for q k [] rows = []
lists_for q k (name ∷ names) rows =
    if list_any (same_name name) (query_names q)
    then record { name = name; rows = rows_for k rows } ∷ lists_for q (k + 1) names rows
    else lists_for q (k + 1) names rows

abbrev pub certificate_for : List (List ℕ) → QueryTerm → ℕ → Answer → Cert
certificate_for names q budget a = record {
  budget = budget;
  lo = a.iv.lo;
  hi = a.iv.hi;
  query = canonical_text q;
  cut = lists_for q 0 names a.cut;
}

-- ---- the text

-- texts with commas between
abbrev pub joined : List (List ℕ) → List ℕ
joined [] = []
joined (t ∷ ts) = t ++ flat_map (λ u. codes "," ++ u) ts

-- a text between quotes
abbrev pub in_quotes : List ℕ → List ℕ
in_quotes s = codes "\"" ++ s ++ codes "\""

-- `[start,len,opened]`
abbrev pub row_text : Triple → List ℕ
row_text r =
    codes "[" ++ decimal r.0 ++ codes "," ++ decimal r.1 ++ codes "," ++ decimal (if r.2 then 1 else 0) ++ codes "]"

-- `["name",[rows]]`
abbrev pub list_text : CertList → List ℕ
list_text l = codes "[" ++ in_quotes l.name ++ codes ",[" ++ joined (map row_text l.rows) ++ codes "]]"

-- `{"budget":"319","cut":[["x",[[0,16,1],[16,16,0]]]],"hi":"240","lo":"80","query":"sum(x,0,32)"}`
abbrev pub cert_text : Cert → List ℕ
cert_text c =
    codes "{\"budget\":" ++ in_quotes (decimal c.budget) ++ codes ",\"cut\":[" ++ joined (map list_text c.cut)
    ++ codes "],\"hi\":" ++ in_quotes (signed_decimal c.hi) ++ codes ",\"lo\":" ++ in_quotes (signed_decimal c.lo)
    ++ codes ",\"query\":" ++ in_quotes c.query ++ codes "}"
