-- The parts of a header are read as they were written.
use Rattle.std.proofs.Common.{◌≡◌, ℕ, ◌+◌, ◌^◌, ◌≤◌, Bool, true, false, ◌&&◌, ◌==◌, nat_le, nat_lt, List, ◌++◌, length, take, drop, Some, refl, ap, ap₂, ◌∙◌, arith, length-append}
use Rattle.std.proofs.lemmas.Bool.Decides.{nat_tests, Decides-eqb}
use Rattle.semantics.specs.Names.{is_name}
use Rattle.tree_file.specs.Bytes.{bytes_of, number_of}
use Rattle.tree_file.proofs.ImageLaws.{take_front, drop_front}
use Rattle.tree_file.proofs.RecordLaws.{length-bytes_of}
use Rattle.store_file.specs.Header.{is_entry, FixedReadsBack, EntryReadsBack}
use Rattle.store_file.proofs.ImageLaws.{count-read}

not_above : (a b : ℕ) → a ≤ b → nat_lt b a ≡ false
not_above a b h = grind (arith, nat_tests)

pub fixed-read : FixedReadsBack
fixed-read scale degree count s d k = rw (not_above scale 6 s, not_above degree 2 d, not_above count 16 k) refl

at_most : (a b : ℕ) → a ≤ b → nat_le a b ≡ true
at_most a b h = grind (arith, nat_tests)

all_three : (a b c : Bool) → a ≡ true → b ≡ true → c ≡ true → (a && (b && c)) ≡ true
all_three a b c e f g = rw (e, f, g) refl

pub entry-read : EntryReadsBack
entry-read name n named few =
    let rest : List ℕ = name ++ bytes_of 4 n in
    let here : take (length name) rest ≡ name = take_front name (bytes_of 4 n) (length name) refl in
    let there : number_of 4 (drop (length name) rest) ≡ n = ap (number_of 4) (drop_front name (bytes_of 4 n) (length name) refl) ∙ count-read n few in
    let test : is_entry (length name) rest ≡ true =
    all_three (length rest == length name + 4) (is_name (take (length name) rest)) (nat_le (number_of 4 (drop (length name) rest)) (2 ^ 20))
    ((Decides-eqb (length rest) (length name + 4)).1 (omega (arith, length-append name (bytes_of 4 n), length-bytes_of 4 n)))
    (ap is_name here ∙ named)
    (at_most (number_of 4 (drop (length name) rest)) (2 ^ 20) (omega (arith, there, few))) in
    rw test (ap₂ (λ (a : List ℕ) (b : ℕ). Some (record { name = a; n = b })) here there)
