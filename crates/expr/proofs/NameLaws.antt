-- Names and their fields.
use Rattle.std.proofs.Common.{ℕ, ◌≡◌, ◌-◌, ◌≤◌, List, ◌++◌, length, take, drop, replicate, true, false, refl, sym, ap, ◌∙◌, arith}
use Rattle.std.proofs.lemmas.Bool.Decides.{nat_tests}
use Rattle.std.proofs.lemmas.List.{drop-replicate}
use Rattle.std.proofs.Math.Seq.{take-append_seam}
use Rattle.semantics.specs.Names.{is_name, is_word, is_reserved}
use Rattle.expr.specs.NameFields.{padded, IsNameFields}

pub is_name-word : (text : List ℕ) → is_word text ≡ true → is_reserved text ≡ false → is_name text ≡ true
is_name-word text word free = rw (word, free) refl

pub name_is_short : (text : List ℕ) → is_name text ≡ true → length text ≤ 32
name_is_short text name = grind (arith, nat_tests)

-- the fields that a text written over zeros gives
pub IsNameFields-written : (text : List ℕ) → is_name text ≡ true → IsNameFields (record { len = length text; bytes = text ++ drop (length text) (replicate 32 0) })
IsNameFields-written text name =
    let zeros : drop (length text) (replicate 32 0) ≡ replicate (32 - length text) 0 = drop-replicate (length text) 32 0 in
    let whole : take (length text) (text ++ drop (length text) (replicate 32 0)) ≡ text = take-append_seam text (drop (length text) (replicate 32 0)) in
    record {
      few = name_is_short text name;
      len = ap length whole;
      zeros = ap padded whole ∙ ap (λ z. text ++ z) (sym zeros);
      name = ap is_name whole ∙ name;
    }
