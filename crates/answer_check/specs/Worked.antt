-- Worked verdicts over the readings 0 and 10 in turn.
use Rattle.std.specs.Prelude.{◌≡◌, ℕ, true, false, pos, List, [], ◌∷◌, codes, Some, Ok, Err}
use Rattle.descent.specs.Worked.{turns_tree, x}
use Rattle.expr.specs.declared.admission.AdmitErr.TheVariants as admit
use Rattle.expr_parse.specs.declared.error.ParseErr.TheVariants as parse
use Rattle.store_file.specs.StoreValue.{StoreValue}
use Rattle.answer_check.specs.declared.certificate.Cert.{Cert}
use Rattle.answer_check.specs.declared.certificate.CertList.{CertList}
use Rattle.answer_check.specs.declared.verdict.Verdict.TheVariants.{Holds, NotACut, Escapes, Wide}
use Rattle.answer_check.specs.declared.verdict.VerifyErr.TheVariants.{Parse, Admit}
use Rattle.answer_check.specs.Certificate.{Triple}
use Rattle.answer_check.specs.Verdict.{answer_of}

-- 32 readings under the name `x`
abbrev pub store : StoreValue
store = record { scale = 0; degree = 0; series = record { name = x; tree = Some turns_tree } ∷ [] }

abbrev pub listed : List ℕ → List Triple → CertList
listed name rows = record { name = name; rows = rows }

abbrev pub asks : List ℕ → ℕ → ℕ → ℕ → List CertList → Cert
asks query budget lo hi lists =
    record { budget = budget; lo = pos lo; hi = pos hi; query = query; cut = lists }

-- the sum of all readings
abbrev pub claims : ℕ → ℕ → ℕ → List CertList → Cert
claims budget lo hi lists = asks (codes "sum(x,0,32)") budget lo hi lists

-- the leaves, of which the first is opened
abbrev pub halves : List CertList
halves = listed x ((0, 16, true) ∷ (16, 16, false) ∷ []) ∷ []

pub record VerdictsAreWorked : Type 0 where
  -- from 80 to 240, which is no wider than 319
  pub holds : answer_of store (claims 319 80 240 halves) ≡ Ok Holds
  -- from 0 to 320, by the root, by the leaves, and by more than is needed
  pub root : answer_of store (claims 320 0 320 (listed x ((0, 32, false) ∷ []) ∷ [])) ≡ Ok Holds
  pub leaves : answer_of store (claims 320 0 320 (listed x ((0, 16, false) ∷ (16, 16, false) ∷ []) ∷ []))
      ≡ Ok Holds
  pub more : answer_of store (claims 320 0 320 halves) ≡ Ok Holds
  -- no rows, too few, in another order, one twice, of no node, beyond the end, and an inner node that is opened
  pub no_rows : answer_of store (claims 319 80 240 (listed x [] ∷ [])) ≡ Ok (NotACut 0)
  pub few_rows : answer_of store (claims 319 80 240 (listed x ((0, 16, true) ∷ []) ∷ [])) ≡ Ok (NotACut 0)
  pub order : answer_of store (claims 319 80 240 (listed x ((16, 16, false) ∷ (0, 16, true) ∷ []) ∷ []))
      ≡ Ok (NotACut 0)
  pub twice : answer_of store (claims 319 80 240 (listed x ((0, 16, true) ∷ (16, 16, false) ∷ (16, 16, false) ∷ [])
      ∷ [])) ≡ Ok (NotACut 0)
  pub no_node : answer_of store (claims 319 80 240 (listed x ((0, 8, true) ∷ (8, 8, true) ∷ (16, 16, false) ∷ [])
      ∷ [])) ≡ Ok (NotACut 0)
  pub beyond : answer_of store (claims 319 80 240 (listed x ((0, 16, true) ∷ (16, 17, false) ∷ []) ∷ []))
      ≡ Ok (NotACut 0)
  pub inner : answer_of store (claims 319 80 240 (listed x ((0, 32, true) ∷ []) ∷ [])) ≡ Ok (NotACut 0)
  -- a list missing, of another name, and one too many
  pub no_list : answer_of store (claims 319 80 240 []) ≡ Ok (NotACut 0)
  pub other_name : answer_of store (claims 319 80 240 (listed (codes "y") [] ∷ halves)) ≡ Ok (NotACut 0)
  pub further : answer_of store (claims 319 80 240 (listed x ((0, 16, true) ∷ (16, 16, false) ∷ []) ∷ listed x []
      ∷ [])) ≡ Ok (NotACut 1)
  pub none_named : answer_of store (asks (codes "7") 0 7 7 halves) ≡ Ok (NotACut 0)
  -- the interval of the cut goes beyond the stated one, which is asked before the budget
  pub high : answer_of store (claims 319 80 239 halves) ≡ Ok (Escapes (record { lo = pos 80; hi = pos 240 }))
  pub low : answer_of store (claims 0 81 240 halves) ≡ Ok (Escapes (record { lo = pos 80; hi = pos 240 }))
  pub crossed : answer_of store (claims 319 240 80 halves) ≡ Ok (Escapes (record { lo = pos 80; hi = pos 240 }))
  pub wide : answer_of store (claims 159 80 240 halves) ≡ Ok (Wide 160)
  pub exact : answer_of store (claims 160 80 240 halves) ≡ Ok Holds
  pub number : answer_of store (asks (codes "7") 0 7 7 []) ≡ Ok Holds
  pub statistic : answer_of store (asks (codes "varnum(x,0,32)") 0 25600 25600
      (listed x ((0, 16, true) ∷ (16, 16, true) ∷ []) ∷ [])) ≡ Ok Holds
  -- the query comes first
  pub text : answer_of store (asks (codes "sum(x") 0 7 7 []) ≡ Err (Parse (parse.At 5))
  pub name : answer_of store (asks (codes "sum(z)") 0 7 7 []) ≡ Err (Admit (admit.Unknown (codes "z")))
  pub domain : answer_of store (asks (codes "sum(x,0,33)") 0 7 7 []) ≡ Err (Admit (admit.Domain 1 (pos 0) (pos 32)))
