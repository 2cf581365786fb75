-- The header of a file and the store for which the file stands.
use Rattle.std.specs.Prelude.{◌≡◌, ℕ, List, Err}
use Rattle.store_file.specs.Decoded.{decode_of}
use Rattle.store_file.specs.declared.decoding.StoreErr.TheVariants.{NotAStore}
use Rattle.lazy_tree.specs.HeaderIn.{header_in}

-- where the header or the length is refused, the file is no store, and the place is the same
abbrev pub RefusalIsDecoded : Type 0
RefusalIsDecoded = (bytes : List ℕ) (place : ℕ)
    → header_in bytes ≡ Err place → decode_of bytes ≡ Err (NotAStore place)

-- and the other way round
abbrev pub DecodedIsRefusal : Type 0
DecodedIsRefusal = (bytes : List ℕ) (place : ℕ)
    → decode_of bytes ≡ Err (NotAStore place) → header_in bytes ≡ Err place
