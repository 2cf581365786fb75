-- A list of bytes is the bytes of its number.
use Rattle.std.proofs.Common.{◌≡◌, ℕ, zero, suc, ◌+◌, ◌/◌, ◌^◌, ◌<◌, ◌≤◌, List, [], ◌∷◌, ◌++◌, length, get_or, refl, ap, ap₂, ◌∙◌, sym, arith, mod-lt, append-nil, take, drop, length-take-le, length-take, get_or-take, get_or-drop, inl, inr}
use Rattle.std.proofs.lemmas.Bool.{cases_lt}
use Rattle.std.proofs.lemmas.Nat.{same_from_place}
use Rattle.std.specs.Int.{byte_at, bytes_high_first}
use Rattle.byteorder.specs.Endian.{big_from}
use Rattle.byteorder.specs.Numbers.{big_from-cons, big_from-lt, big_from-take, length-bytes_high_first, big_number-reads_back}
use Rattle.tree_file.specs.Bytes.{IsBytes, bytes_of, number_of}

tail_bytes : (x : ℕ) (xs : List ℕ) → IsBytes (x ∷ xs) → IsBytes xs
tail_bytes x xs are i = are (suc i)

-- two lists of n bytes with one number are one list
pub same_bytes : (n : ℕ) (xs ys : List ℕ) → length xs ≡ n → length ys ≡ n → IsBytes xs → IsBytes ys → big_from 0 n xs ≡ big_from 0 n ys → xs ≡ ys
same_bytes n [] [] p q a b e = refl
same_bytes n [] (y ∷ ys) p q a b e = absurd (omega arith)
same_bytes n (x ∷ xs) [] p q a b e = absurd (omega arith)
same_bytes zero (x ∷ xs) (y ∷ ys) p q a b e = absurd (omega arith)
same_bytes (suc n) (x ∷ xs) (y ∷ ys) p q a b e =
    let u = big_from-cons 0 n x xs in
    let v = big_from-cons 0 n y ys in
    let same = same_from_place x (big_from 0 n xs) y (big_from 0 n ys) (256 ^ n) (big_from-lt 0 n xs (tail_bytes x xs a)) (big_from-lt 0 n ys (tail_bytes y ys b)) (omega (arith, e, u, v)) in
    ap₂ ◌∷◌ same.0 (same_bytes n xs ys (omega arith) (omega arith) (tail_bytes x xs a) (tail_bytes y ys b) same.1)

byte_at-lt : (k x : ℕ) → byte_at k x < 256
byte_at-lt zero x = mod-lt x {m = 256} (omega arith)
byte_at-lt (suc k) x = mod-lt (x / 256 ^ suc k) {m = 256} (omega arith)

pub bytes_are : (n x : ℕ) → IsBytes (bytes_high_first n x)
bytes_are zero x i = omega arith
bytes_are (suc n) x zero = byte_at-lt n x
bytes_are (suc n) x (suc i) = bytes_are n x i

-- bytes are the bytes of the number that they write
pub bytes_of_number : (n : ℕ) (xs : List ℕ) → length xs ≡ n → IsBytes xs → bytes_high_first n (big_from 0 n xs) ≡ xs
bytes_of_number n xs len are =
    let back : big_from 0 n (bytes_high_first n (big_from 0 n xs)) ≡ big_from 0 n xs =
    ap (big_from 0 n) (sym (append-nil (bytes_high_first n (big_from 0 n xs)))) ∙ big_number-reads_back n (big_from 0 n xs) [] (big_from-lt 0 n xs are) in
    same_bytes n (bytes_high_first n (big_from 0 n xs)) xs (length-bytes_high_first n (big_from 0 n xs)) len (bytes_are n (big_from 0 n xs)) are back

-- no byte stands past the end
get_or-past : (xs : List ℕ) (i : ℕ) → length xs ≤ i → get_or xs i 0 ≡ 0
get_or-past [] i h = refl
get_or-past (x ∷ xs) zero h = absurd (omega arith)
get_or-past (x ∷ xs) (suc i) h = get_or-past xs i (omega arith)

pub number_of-lt : (n : ℕ) (xs : List ℕ) → IsBytes xs → number_of n xs < 256 ^ n
unfolding number_of
number_of-lt n xs are = big_from-lt 0 n xs are

-- a number is read as it was written, whatever follows
pub number_of-bytes_of : (n x : ℕ) (rest : List ℕ) → x < 256 ^ n → number_of n (bytes_of n x ++ rest) ≡ x
unfolding number_of bytes_of
number_of-bytes_of n x rest fits = big_number-reads_back n x rest fits

-- bytes are written as they were read
pub bytes_of-number_of : (n : ℕ) (xs : List ℕ) → n ≤ length xs → IsBytes xs → bytes_of n (number_of n xs) ≡ take n xs
unfolding number_of bytes_of
bytes_of-number_of n xs room are =
    ap (bytes_high_first n) (sym (big_from-take 0 n n xs (omega arith))) ∙ bytes_of_number n (take n xs) (length-take-le n xs room) (λ i. elim (cases_lt i n) [
      | inl below ↦ rw (get_or-take n xs i 0 below) (are i)
      | inr past ↦ rw (get_or-past (take n xs) i (omega (arith, length-take-le n xs room))) (omega arith)
    ])

pub drop_bytes : (k : ℕ) (xs : List ℕ) → IsBytes xs → IsBytes (drop k xs)
drop_bytes k xs are i = rw (get_or-drop k xs i 0) (are (k + i))

pub take_bytes : (k : ℕ) (xs : List ℕ) → IsBytes xs → IsBytes (take k xs)
take_bytes k xs are i = elim (cases_lt i k) [
  | inl below ↦ rw (get_or-take k xs i 0 below) (are i)
  | inr past ↦ rw (get_or-past (take k xs) i (omega (arith, length-take k xs))) (omega arith)
]

-- a number below the end of the bytes
pub number-part : (bytes : List ℕ) (at n m v : ℕ) → IsBytes bytes → v ≡ number_of n (take m (drop at bytes)) → v < 256 ^ n
number-part bytes at n m v are is = rw is (number_of-lt n (take m (drop at bytes)) (take_bytes m (drop at bytes) (drop_bytes at bytes are)))
