-- What holds of numbers, records and trees and of their bytes.
use Rattle.std.specs.Prelude.{◌≡◌, ℕ, ◌^◌, ◌<◌, ◌≤◌, ℤ, List, ◌++◌, length, take, drop, Some}
use Rattle.segment.specs.declared.segments.Seg.{Seg}
use Rattle.segment.specs.Nodes.{find_seg}
use Rattle.segment.specs.Shape.{Range, plan}
use Rattle.segment.specs.Tree.{SegTree, segs_of, plan_of, IsTreeOver}
use Rattle.tree_file.specs.Bytes.{IsBytes, IsSignedOf, bytes_of, number_of, wrapped, unwrapped}
use Rattle.tree_file.specs.Image.{image, tree_size, tree_in}
use Rattle.tree_file.specs.Offsets.{record_offset}
use Rattle.tree_file.specs.Record.{record_of, seg_in, FitsRecord}

-- a number is read as it was written, whatever follows
abbrev pub UnsignedReadsBack : Type 0
UnsignedReadsBack = (n x : ℕ) (rest : List ℕ) → x < 256 ^ n → number_of n (bytes_of n x ++ rest) ≡ x

-- every n bytes are the writing of what is read
abbrev pub UnsignedWritesBack : Type 0
UnsignedWritesBack = (n : ℕ) (bytes : List ℕ) → length bytes ≡ n → IsBytes bytes
    → bytes_of n (number_of n bytes) ≡ bytes

abbrev pub SignedReadsBack : Type 0
SignedReadsBack = (n : ℕ) (z : ℤ) (rest : List ℕ) → 1 ≤ n → IsSignedOf n z
    → unwrapped n (number_of n (bytes_of n (wrapped n z) ++ rest)) ≡ z

abbrev pub SignedWritesBack : Type 0
SignedWritesBack = (n : ℕ) (bytes : List ℕ) → 1 ≤ n → length bytes ≡ n → IsBytes bytes
    → bytes_of n (wrapped n (unwrapped n (number_of n bytes))) ≡ bytes

abbrev pub RecordReadsBack : Type 0
RecordReadsBack = (s : Seg) → FitsRecord s → seg_in (record_of s) s.start s.len ≡ s

abbrev pub RecordWritesBack : Type 0
RecordWritesBack = (bytes : List ℕ) (start len : ℕ) → length bytes ≡ 56 → IsBytes bytes
    → record_of (seg_in bytes start len) ≡ bytes

abbrev pub TreeReadsBack : Type 0
TreeReadsBack = (n : ℕ) (t : SegTree) (rest : List ℕ) → IsTreeOver n t
    → tree_in (plan 0 n) (image t ++ rest) ≡ t

-- every string of bytes of a tree's length is the image of a tree with its ranges
abbrev pub TreeWritesBack : Type 0
TreeWritesBack = (n : ℕ) (bytes : List ℕ) → 0 < n → length bytes ≡ tree_size n → IsBytes bytes
    → (plan_of (tree_in (plan 0 n) bytes) ≡ plan 0 n) × (image (tree_in (plan 0 n) bytes) ≡ bytes)

abbrev pub TreeHasSize : Type 0
TreeHasSize = (n : ℕ) (t : SegTree) → IsTreeOver n t → length (image t) ≡ tree_size n

-- at the offset of a node of a tree stands its record
abbrev pub RecordStands : Type 0
RecordStands = (n k : ℕ) (t : SegTree) (r : Range) (g : Seg) → IsTreeOver n t → find_seg (segs_of t) r ≡ Some g
    → record_offset n r ≡ Some k
    → take 56 (drop k (image t)) ≡ record_of g
