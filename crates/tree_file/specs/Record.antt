-- The record of a segment: six numbers, one after another. Where it starts and its length are told by its place.
use Rattle.std.specs.Prelude.{ℕ, List, ◌++◌, ◌^◌, ◌<◌, drop}
use Rattle.segment.specs.declared.segments.Seg.{Seg}
use Rattle.tree_file.specs.Bytes.{IsSignedOf, bytes_of, number_of, wrapped, unwrapped}

unfoldable pub record_of : Seg → List ℕ
record_of s = bytes_of 8 (wrapped 8 s.a)
    ++ (bytes_of 8 (wrapped 8 s.b)
    ++ (bytes_of 8 (wrapped 8 s.c) ++ (bytes_of 16 s.l ++ (bytes_of 8 s.d ++ bytes_of 8 s.f))))

-- the segment that a record writes
unfoldable pub seg_in : List ℕ → ℕ → ℕ → Seg
seg_in bytes start len = record {
  start = start;
  len = len;
  a = unwrapped 8 (number_of 8 (drop 0 bytes));
  b = unwrapped 8 (number_of 8 (drop 8 bytes));
  c = unwrapped 8 (number_of 8 (drop 16 bytes));
  l = number_of 16 (drop 24 bytes);
  d = number_of 8 (drop 40 bytes);
  f = number_of 8 (drop 48 bytes);
}

-- each number of the segment fits its field
pub record FitsRecord (s : Seg) : Type 0 where
  pub a : IsSignedOf 8 s.a
  pub b : IsSignedOf 8 s.b
  pub c : IsSignedOf 8 s.c
  pub l : s.l < 2 ^ 128
  pub d : s.d < 2 ^ 64
  pub f : s.f < 2 ^ 64
