-- The bytes of small stores, worked out.
use Rattle.std.specs.Prelude.{◌≡◌, ℕ, zero, suc, ℤ, pos, negsuc, codes, List, [], ◌∷◌, ◌++◌, length, take, drop, replicate, Some}
use Rattle.segment.specs.declared.segments.Seg.{Seg}
use Rattle.segment.specs.Tree.{tip, fitted_series}
use Rattle.store_file.specs.StoreValue.{StoreValue, store_image}

-- the store of scale 0 and degree 0 whose one series `x` has these readings
abbrev pub store_with : List ℤ → StoreValue
store_with xs = record { scale = 0; degree = 0; series = record { name = codes "x"; tree = fitted_series 0 xs } ∷ [] }

-- the one reading 7: the fixed part, the entry, the record (`a`, `b` and `c`, `l`, `d`, `f`), the reading
abbrev pub OneReadingHasBytes : Type 0
OneReadingHasBytes = store_image (store_with (pos 7 ∷ []))
    ≡ (80 ∷ 76 ∷ 65 ∷ 84 ∷ 1 ∷ 0 ∷ 0 ∷ 1 ∷ [])
    ++ (1 ∷ 120 ∷ 0 ∷ 0 ∷ 0 ∷ 1 ∷ [])
    ++ (0 ∷ 0 ∷ 0 ∷ 0 ∷ 0 ∷ 1 ∷ 192 ∷ 0 ∷ [])
    ++ replicate 16 0
    ++ replicate 16 0
    ++ (0 ∷ 0 ∷ 0 ∷ 0 ∷ 0 ∷ 0 ∷ 0 ∷ 7 ∷ [])
    ++ (0 ∷ 0 ∷ 0 ∷ 0 ∷ 0 ∷ 1 ∷ 192 ∷ 0 ∷ [])
    ++ (0 ∷ 0 ∷ 0 ∷ 7 ∷ [])

-- six fields that all differ, one of them below zero
abbrev pub one_to_six : Seg
one_to_six = record { start = 0; len = 1; a = pos 1; b = negsuc 1; c = pos 3; l = 4; d = 5; f = 6 }

-- a record of these over the one reading 8
abbrev pub six_fields : StoreValue
six_fields = record {
  scale = 0;
  degree = 2;
  series = record {
    name = codes "x";
    tree = Some (tip one_to_six (pos 8 ∷ []));
  } ∷ [];
}

-- they stand in the order `a`, `b`, `c`, `l`, `d`, `f`
abbrev pub SixFieldsHaveBytes : Type 0
SixFieldsHaveBytes = drop 14 (store_image six_fields)
    ≡ (replicate 7 0 ++ 1 ∷ [])
    ++ (replicate 7 255 ++ 254 ∷ [])
    ++ (replicate 7 0 ++ 3 ∷ [])
    ++ (replicate 15 0 ++ 4 ∷ [])
    ++ (replicate 7 0 ++ 5 ∷ [])
    ++ (replicate 7 0 ++ 6 ∷ [])
    ++ (0 ∷ 0 ∷ 0 ∷ 8 ∷ [])

-- 0 and 10, n times in turn
abbrev pub turns : ℕ → List ℤ
turns zero = []
turns (suc n) = pos 0 ∷ pos 10 ∷ turns n

-- the bytes of a record that begin at a place of the image of a store
abbrev pub record_at : ℕ → StoreValue → List ℕ
record_at place m = take 56 (drop place (store_image m))

-- 32 readings, 0 and 10 in turn: how many bytes, and the record of the root
pub record TurnsHaveBytes : Type 0 where
  pub len : length (store_image (store_with (turns 16))) ≡ 310
  pub root : record_at 14 (store_with (turns 16))
      ≡ (0 ∷ 0 ∷ 0 ∷ 0 ∷ 0 ∷ 1 ∷ 64 ∷ 0 ∷ [])
      ++ replicate 16 0
      ++ replicate 8 0
      ++ (0 ∷ 0 ∷ 0 ∷ 0 ∷ 0 ∷ 40 ∷ 0 ∷ 0 ∷ [])
      ++ (0 ∷ 0 ∷ 0 ∷ 0 ∷ 0 ∷ 0 ∷ 0 ∷ 10 ∷ [])
      ++ (0 ∷ 0 ∷ 0 ∷ 0 ∷ 0 ∷ 1 ∷ 64 ∷ 0 ∷ [])
