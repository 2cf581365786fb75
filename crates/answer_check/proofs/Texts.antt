-- The compact text of a certificate's value is the certificate's text.
use Rattle.std.proofs.Common.{◌≡◌, ◌≤◌, ℕ, List, [], ◌∷◌, ◌++◌, drop, map, flat_map, true, false, refl, sym, ap, ◌∙◌, arith}
use Rattle.std.specs.Prelude.{codes, decimal}
use Rattle.std.specs.Fmt.{signed_decimal}
use Rattle.std.specs.List.{All}
use Rattle.std.proofs.lemmas.List.{append_assoc}
use Rattle.std.proofs.Math.Nat.{max-le}
use Rattle.json.specs.Print.{escape_byte}
use Rattle.serde_json.specs.Data.{Data, depth, items_depth}
use Rattle.serde_json.specs.Read.{max_depth}
use Rattle.serde_json.specs.View.{items_of}
use Rattle.serde_json.specs.Written.{compact_text, has_float, items_have_float, items_text}
use Rattle.answer_check.specs.declared.certificate.Cert.{Cert}
use Rattle.answer_check.specs.declared.certificate.CertList.{CertList}
use Rattle.answer_check.specs.Certificate.{Triple, cert_text, joined, list_text, row_text}
use Rattle.answer_check.specs.Json.{cert_data, list_data, row_data}
use Rattle.answer_check.specs.Written.{IsReadAgain, IsWritten}
use Rattle.answer_check.proofs.ReadAgain.{first_of, others_of}
use Rattle.answer_check.proofs.Plain.{digits_are_plain, escape_plain, name_is_plain, number_is_plain}

-- items after the first
items_after : (ds : List Data) → items_text true (items_of ds) ≡ flat_map (λ u. 44 ∷ u) (map compact_text ds) ++ 93 ∷ []
items_after [] = refl
items_after (d ∷ ds) = rw (items_after ds) (ap (λ s. 44 ∷ s) (sym (append_assoc (compact_text d) (flat_map (λ u. 44 ∷ u) (map compact_text ds)) (93 ∷ []))))

-- an array's text
items_joined : (ds : List Data) → items_text false (items_of ds) ≡ joined (map compact_text ds) ++ 93 ∷ []
items_joined [] = refl
items_joined (d ∷ ds) = rw (items_after ds) (sym (append_assoc (compact_text d) (flat_map (λ u. 44 ∷ u) (map compact_text ds)) (93 ∷ [])))

row_as_text : (r : Triple) → compact_text (row_data r) ≡ row_text r
row_as_text r = simp append_assoc refl

rows_as_text : (rs : List Triple) → map compact_text (map row_data rs) ≡ map row_text rs
rows_as_text [] = refl
rows_as_text (r ∷ rs) = rw (row_as_text r, rows_as_text rs) refl

list_as_text : (l : CertList) → IsReadAgain l → compact_text (list_data l) ≡ list_text l
list_as_text l h =
    let name = escape_plain l.name (name_is_plain l.name h.name) in
    let rows = items_joined (map row_data l.rows) ∙ ap (λ ts. joined ts ++ 93 ∷ []) (rows_as_text l.rows) in
    let closes = append_assoc (joined (map row_text l.rows)) (93 ∷ []) (93 ∷ []) in
    let opens = append_assoc l.name (34 ∷ []) (44 ∷ 91 ∷ (joined (map row_text l.rows) ++ 93 ∷ 93 ∷ [])) in
    rw (name, rows, closes, opens) (simp append_assoc refl)

lists_as_text : (ls : List CertList) → All IsReadAgain ls → map compact_text (map list_data ls) ≡ map list_text ls
lists_as_text [] h = refl
lists_as_text (l ∷ ls) h = rw (list_as_text l (first_of IsReadAgain l ls h), lists_as_text ls (others_of IsReadAgain l ls h)) refl

-- what follows each value
abbrev after_query : List ℕ
after_query = codes "\"}"

abbrev after_lo : List ℕ → List ℕ
after_lo query = codes "\",\"query\":\"" ++ (query ++ after_query)

abbrev after_hi : List ℕ → List ℕ → List ℕ
after_hi lo query = codes "\",\"lo\":\"" ++ (lo ++ after_lo query)

abbrev after_cut : List ℕ → List ℕ → List ℕ → List ℕ
after_cut hi lo query = codes "],\"hi\":\"" ++ (hi ++ after_hi lo query)

abbrev flat_text : List ℕ → List ℕ → List ℕ → List ℕ → List ℕ → List ℕ
flat_text budget cut hi lo query = codes "{\"budget\":\"" ++ (budget ++ (codes "\",\"cut\":[" ++ (cut ++ after_cut hi lo query)))

quoted_parts : (a q b c d e f g h i j k : List ℕ)
    → a ++ (q ++ b ++ q) ++ c ++ d ++ e ++ (q ++ f ++ q) ++ g ++ (q ++ h ++ q) ++ i ++ (q ++ j ++ q) ++ k
    ≡ a ++ (q ++ (b ++ (q ++ (c ++ (d ++ (e ++ (q ++ (f ++ (q ++ (g ++ (q ++ (h ++ (q ++ (i ++ (q ++ (j ++ (q ++ k)))))))))))))))))
quoted_parts a q b c d e f g h i j k = simp append_assoc refl

flat_is_text : (c : Cert) → flat_text (decimal c.budget) (joined (map list_text c.cut)) (signed_decimal c.hi) (signed_decimal c.lo) c.query ≡ cert_text c
flat_is_text c =
    sym (quoted_parts (codes "{\"budget\":") (codes "\"") (decimal c.budget) (codes ",\"cut\":[") (joined (map list_text c.cut)) (codes "],\"hi\":") (signed_decimal c.hi) (codes ",\"lo\":") (signed_decimal c.lo) (codes ",\"query\":") c.query (codes "}"))

flat_as_text : (c : Cert) → IsWritten c → compact_text (cert_data c) ≡ flat_text (decimal c.budget) (joined (map list_text c.cut)) (signed_decimal c.hi) (signed_decimal c.lo) c.query
unfolding escape_byte
flat_as_text c h =
    let lists = items_joined (map list_data c.cut) ∙ ap (λ ts. joined ts ++ 93 ∷ []) (lists_as_text c.cut h.lists.all) in
    let budget = escape_plain (decimal c.budget) (digits_are_plain c.budget h.budget) in
    let hi = escape_plain (signed_decimal c.hi) (number_is_plain c.hi (omega (arith, h.hi))) in
    let lo = escape_plain (signed_decimal c.lo) (number_is_plain c.lo (omega (arith, h.lo))) in
    let query = escape_plain c.query h.query in
    let quote : List ℕ = 34 ∷ [] in
    let e1 = append_assoc c.query quote (125 ∷ []) in
    let e2 = append_assoc (signed_decimal c.lo) quote (drop 1 (after_lo c.query)) in
    let e3 = append_assoc (signed_decimal c.hi) quote (drop 1 (after_hi (signed_decimal c.lo) c.query)) in
    let e4 = append_assoc (joined (map list_text c.cut)) (93 ∷ []) (drop 1 (after_cut (signed_decimal c.hi) (signed_decimal c.lo) c.query)) in
    let e5 = append_assoc (decimal c.budget) quote (codes ",\"cut\":[" ++ (joined (map list_text c.cut) ++ after_cut (signed_decimal c.hi) (signed_decimal c.lo) c.query)) in
    rw (lists, budget, hi, lo, query, e1, e2, e3, e4, e5) refl

-- the whole
pub cert_as_text : (c : Cert) → IsWritten c → compact_text (cert_data c) ≡ cert_text c
cert_as_text c h = flat_as_text c h ∙ flat_is_text c

-- no number of a certificate is a float
rows_have_none : (rs : List Triple) → items_have_float (items_of (map row_data rs)) ≡ false
rows_have_none [] = refl
rows_have_none (r ∷ rs) = rows_have_none rs

lists_have_none : (ls : List CertList) → items_have_float (items_of (map list_data ls)) ≡ false
lists_have_none [] = refl
lists_have_none (l ∷ ls) = rw (rows_have_none l.rows, lists_have_none ls) refl

pub has_none : (c : Cert) → has_float (cert_data c) ≡ false
has_none c = rw (lists_have_none c.cut) refl

-- nothing nests deep
rows_nest : (rs : List Triple) → items_depth (items_of (map row_data rs)) ≤ 1
rows_nest [] = omega arith
rows_nest (r ∷ rs) = max-le (omega arith) (rows_nest rs)

lists_nest : (ls : List CertList) → items_depth (items_of (map list_data ls)) ≤ 3
lists_nest [] = omega arith
lists_nest (l ∷ ls) =
    let rows = rows_nest l.rows in
    max-le (omega (arith, rows)) (lists_nest ls)

pub nests : (c : Cert) → depth (cert_data c) ≤ max_depth
nests c = let lists = lists_nest c.cut in omega (arith, lists)
