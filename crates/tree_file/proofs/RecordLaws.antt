-- A record is read as it was written, and each record is the writing of what is read.
use Rattle.std.proofs.Common.{◌≡◌, ℕ, ℤ, ◌+◌, ◌≤◌, List, [], ◌++◌, length, take, drop, refl, ap, ◌∙◌, sym, arith, append-nil, append_assoc, take-append-drop, drop-drop, length-drop, length-append, take_all}
use Rattle.byteorder.specs.Numbers.{length-bytes_high_first}
use Rattle.std.proofs.Math.Seq.{drop-append_seam}
use Rattle.segment.specs.declared.segments.Seg.{Seg}
use Rattle.tree_file.specs.Bytes.{IsBytes, IsSignedOf, bytes_of, number_of, wrapped, unwrapped}
use Rattle.tree_file.specs.Laws.{RecordReadsBack, RecordWritesBack}
use Rattle.tree_file.specs.Record.{record_of, seg_in}
use Rattle.tree_file.proofs.Digits.{number_of-bytes_of, bytes_of-number_of, number_of-lt, drop_bytes}
use Rattle.tree_file.proofs.SignedLaws.{wrapped-unwrapped, signed-read}

pub length-bytes_of : (n x : ℕ) → length (bytes_of n x) ≡ n
unfolding bytes_of
length-bytes_of n x = length-bytes_high_first n x

pub drop-bytes_of : (n x : ℕ) (rest : List ℕ) → drop n (bytes_of n x ++ rest) ≡ rest
drop-bytes_of n x rest = ap (λ k. drop k (bytes_of n x ++ rest)) (sym (length-bytes_of n x)) ∙ drop-append_seam (bytes_of n x) rest

-- six fields, written one after another
pub six_fields : (n1 n2 n3 n4 n5 n6 a b c d e f : List ℕ) → take 8 n1 ≡ a → take 16 n2 ≡ take 8 n1 ++ b → take 24 n3 ≡ take 16 n2 ++ c → take 40 n4 ≡ take 24 n3 ++ d → take 48 n5 ≡ take 40 n4 ++ e → take 56 n6 ≡ take 48 n5 ++ f → length n6 ≡ 56
    → n6 ≡ a ++ (b ++ (c ++ (d ++ (e ++ f))))
six_fields n1 n2 n3 n4 n5 n6 a b c d e f p1 p2 p3 p4 p5 p6 len =
    sym (take_all 56 n6 (omega (arith, len))) ∙ p6 ∙ rw (p5, p4, p3, p2, p1) (simp append_assoc)

field_written : (n m : ℕ) (bytes : List ℕ) → n + m ≤ length bytes → IsBytes bytes → bytes_of m (number_of m (drop n bytes)) ++ drop (n + m) bytes ≡ drop n bytes
field_written n m bytes room are =
    ap (λ k. k ++ drop (n + m) bytes) (bytes_of-number_of m (drop n bytes) (omega (arith, length-drop n bytes)) (drop_bytes n bytes are))
    ∙ ap (λ k. take m (drop n bytes) ++ k) (sym (drop-drop m n bytes)) ∙ take-append-drop m (drop n bytes)

signed_written : (n : ℕ) (bytes : List ℕ) → IsBytes bytes → bytes_of 8 (wrapped 8 (unwrapped 8 (number_of 8 (drop n bytes)))) ≡ bytes_of 8 (number_of 8 (drop n bytes))
signed_written n bytes are = ap (bytes_of 8) (wrapped-unwrapped 8 (number_of 8 (drop n bytes)) (omega arith) (number_of-lt 8 (drop n bytes) (drop_bytes n bytes are)))

pub record_of-seg_in : RecordWritesBack
unfolding record_of seg_in
record_of-seg_in bytes start len long are =
    let last : bytes_of 8 (number_of 8 (drop 48 bytes)) ≡ drop 48 bytes =
    bytes_of-number_of 8 (drop 48 bytes) (omega (arith, length-drop 48 bytes)) (drop_bytes 48 bytes are) ∙ take_all 8 (drop 48 bytes) (omega (arith, length-drop 48 bytes)) in
    rw (
      signed_written 0 bytes are,
      signed_written 8 bytes are,
      signed_written 16 bytes are,
      last,
      field_written 40 8 bytes (omega arith) are,
      field_written 24 16 bytes (omega arith) are,
      field_written 16 8 bytes (omega arith) are,
      field_written 8 8 bytes (omega arith) are,
      field_written 0 8 bytes (omega arith) are,
    ) refl

two_drops : (n m x : ℕ) (bytes rest : List ℕ) → drop n bytes ≡ bytes_of m x ++ rest → drop (n + m) bytes ≡ rest
two_drops n m x bytes rest e = sym (drop-drop m n bytes) ∙ ap (drop m) e ∙ drop-bytes_of m x rest

signed_field : (z : ℤ) (rest : List ℕ) → IsSignedOf 8 z → unwrapped 8 (number_of 8 (bytes_of 8 (wrapped 8 z) ++ rest)) ≡ z
signed_field z rest fits = signed-read 8 z rest (omega arith) fits

pub seg_in-record_of : RecordReadsBack
unfolding record_of seg_in
seg_in-record_of s fits =
    let r0 = record_of s in
    let t5 : List ℕ = bytes_of 8 s.f in
    let t4 : List ℕ = bytes_of 8 s.d ++ t5 in
    let t3 : List ℕ = bytes_of 16 s.l ++ t4 in
    let t2 : List ℕ = bytes_of 8 (wrapped 8 s.c) ++ t3 in
    let t1 : List ℕ = bytes_of 8 (wrapped 8 s.b) ++ t2 in
    let d1 : drop 8 r0 ≡ t1 = two_drops 0 8 (wrapped 8 s.a) r0 t1 refl in
    let d2 : drop 16 r0 ≡ t2 = two_drops 8 8 (wrapped 8 s.b) r0 t2 d1 in
    let d3 : drop 24 r0 ≡ t3 = two_drops 16 8 (wrapped 8 s.c) r0 t3 d2 in
    let d4 : drop 40 r0 ≡ t4 = two_drops 24 16 s.l r0 t4 d3 in
    let d5 : drop 48 r0 ≡ t5 ++ [] = two_drops 40 8 s.d r0 t5 d4 ∙ sym (append-nil t5) in
    rw (signed_field s.a t1 fits.a, d1, signed_field s.b t2 fits.b, d2, signed_field s.c t3 fits.c, d3, number_of-bytes_of 16 s.l t4 fits.l, d4, number_of-bytes_of 8 s.d t5 fits.d, d5, number_of-bytes_of 8 s.f [] fits.f) refl

pub length-record_of : (s : Seg) → length (record_of s) ≡ 56
unfolding record_of
length-record_of s =
    simp (length-append, length-bytes_of) refl
