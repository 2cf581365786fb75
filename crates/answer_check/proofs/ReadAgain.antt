-- A certificate that is written is read again.
use Rattle.std.proofs.Common.{◌≡◌, ◌<◌, ◌^◌, ℕ, pos, suc, Bool, false, List, [], ◌∷◌, ◌++◌, map, true, refl, sym, ap, ◌∙◌, arith}
use Rattle.std.specs.Prelude.{Option, Some, None, Ok, option_map}
use Rattle.std.specs.List.{All}
use Rattle.std.specs.Str.{IsUtf8}
use Rattle.std.proofs.lemmas.Bool.{lt-ltb}
use Rattle.std.proofs.lemmas.List.{map-append}
use Rattle.std.proofs.lemmas.Str.{is_utf8-from_IsUtf8}
use Rattle.semantics.proofs.NumberLaws.{number_in-signed_decimal}
use Rattle.serde_json.specs.Data.{Data}
use Rattle.serde_json.specs.Read.{read}
use Rattle.serde_json.specs.View.{items_of}
use Rattle.answer_check.specs.declared.certificate.Cert.{Cert}
use Rattle.answer_check.specs.declared.certificate.CertList.{CertList}
use Rattle.answer_check.specs.Certificate.{Triple}
use Rattle.answer_check.specs.Json.{cert_data, certificate_in, certificate_of, data_in, each, list_data, list_of, row_data, row_of}
use Rattle.answer_check.specs.Written.{IsReadAgain, IsWritten}

pub first_of : {X : Type 0} (P : X → Type 0) (x : X) (xs : List X) → All P (x ∷ xs) → P x
first_of P x xs h = h 0 x (omega arith)

pub others_of : {X : Type 0} (P : X → Type 0) (x : X) (xs : List X) → All P (x ∷ xs) → All P xs
others_of P x xs h = λ k d lt. h (suc k) d (omega (arith, lt))

pub data_of_items : (ds : List Data) → data_in (items_of ds) ≡ ds
data_of_items [] = refl
data_of_items (d ∷ ds) = ap (λ es. d ∷ es) (data_of_items ds)

-- one more
pub each_more : {A : Type 0} (xs : List (Option A)) (ys : List A) (y : A) → each xs ≡ Some ys → each (xs ++ Some y ∷ []) ≡ Some (ys ++ y ∷ [])
each_more [] ys y h = let none : [] ≡ ys = cc h in rw (sym none) refl
each_more (None ∷ xs) ys y h = cc h
each_more {A = A} (Some x ∷ xs) ys y h = by (each xs) (λ zs e. each_more xs zs y e) h
  where
    by : (o : Option (List A)) → ((zs : List A) → o ≡ Some zs → each (xs ++ Some y ∷ []) ≡ Some (zs ++ y ∷ [])) → option_map (λ zs. x ∷ zs) o ≡ Some ys
        → option_map (λ zs. x ∷ zs) (each (xs ++ Some y ∷ [])) ≡ Some (ys ++ y ∷ [])
    by None more k = cc k
    by (Some zs) more k = let are : x ∷ zs ≡ ys = cc k in rw (more zs refl, sym are) refl

-- a row's number and flag
row_again : (s l : ℕ) (o : Bool) → s < 2 ^ 32 → l < 2 ^ 32 → row_of (row_data (s, l, o)) ≡ Some (s, l, o)
row_again s l true hs hl = let a = lt-ltb s (2 ^ 32) hs in let b = lt-ltb l (2 ^ 32) hl in rw (a, b) refl
row_again s l false hs hl = let a = lt-ltb s (2 ^ 32) hs in let b = lt-ltb l (2 ^ 32) hl in rw (a, b) refl

pub rows_again : (rows : List Triple) (s l : ℕ) (o : Bool) → s < 2 ^ 32 → l < 2 ^ 32 → each (map row_of (map row_data rows)) ≡ Some rows
    → each (map row_of (map row_data (rows ++ (s, l, o) ∷ []))) ≡ Some (rows ++ (s, l, o) ∷ [])
rows_again rows s l o hs hl h =
    let whole : map row_of (map row_data (rows ++ (s, l, o) ∷ [])) ≡ map row_of (map row_data rows) ++ row_of (row_data (s, l, o)) ∷ [] =
    ap (map row_of) (map-append row_data rows ((s, l, o) ∷ [])) ∙ map-append row_of (map row_data rows) (row_data (s, l, o) ∷ []) in
    let last : row_of (row_data (s, l, o)) ∷ [] ≡ Some (s, l, o) ∷ [] = ap (λ r. r ∷ []) (row_again s l o hs hl) in
    ap each (whole ∙ ap (λ rs. map row_of (map row_data rows) ++ rs) last) ∙ each_more (map row_of (map row_data rows)) rows (s, l, o) h

list_again : (l : CertList) → IsReadAgain l → list_of (list_data l) ≡ Some l
list_again l h = rw (data_of_items (map row_data l.rows), h.rows) refl

lists_again : (ls : List CertList) → All IsReadAgain ls → each (map list_of (map list_data ls)) ≡ Some ls
lists_again [] h = refl
lists_again (l ∷ ls) h = rw (list_again l (first_of IsReadAgain l ls h), lists_again ls (others_of IsReadAgain l ls h)) refl

cert_again : (c : Cert) → IsWritten c → certificate_of (cert_data c) ≡ Ok c
cert_again c h =
    rw (data_of_items (map list_data c.cut), lists_again c.cut h.lists.all, number_in-signed_decimal (pos c.budget) h.budget, number_in-signed_decimal c.hi h.hi, number_in-signed_decimal c.lo h.lo) refl

pub read_again : (c : Cert) (text : List ℕ) → IsWritten c → IsUtf8 text → read text ≡ Some (cert_data c) → certificate_in text ≡ Ok c
read_again c text h utf8 spelled = rw (is_utf8-from_IsUtf8 text utf8, spelled) (cert_again c h)
