-- What holds of all stores and of all bytes.
use Rattle.std.specs.Prelude.{◌≡◌, ℕ, List, Ok}
use Rattle.tree_file.specs.Bytes.{IsBytes}
use Rattle.store_file.specs.Decoded.{decode_of}
use Rattle.store_file.specs.StoreValue.{StoreValue, IsStoreValue, store_image}

-- the bytes of a store decode to it
abbrev pub ImageDecodes : Type 0
ImageDecodes = (m : StoreValue) → IsStoreValue m → decode_of (store_image m) ≡ Ok m

-- what decodes is the bytes of the store that it decodes to
abbrev pub DecodedIsImage : Type 0
DecodedIsImage = (bytes : List ℕ) (m : StoreValue) → IsBytes bytes → decode_of bytes ≡ Ok m
    → (store_image m ≡ bytes) × IsStoreValue m
