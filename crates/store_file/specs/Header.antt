-- The parts of a header that bytes write, or the first place that is refused.
use Rattle.std.specs.Prelude.{◌≡◌, ℕ, ◌+◌, ◌^◌, ◌≤◌, Bool, true, not, ◌&&◌, ◌==◌, nat_le, nat_lt, if◌then◌else◌, codes, List, [], ◌∷◌, length, take, drop, get_or, Option, Some, None, Result, Ok, Err}
use Rattle.semantics.specs.Names.{is_name, same_name}
use Rattle.tree_file.specs.Bytes.{number_of}
use Rattle.store_file.specs.StoreValue.{entry_bytes, fixed_bytes}
use Rattle.store_file.specs.declared.header.Fixed.{Fixed}
use Rattle.store_file.specs.declared.header.Entry.{Entry}

abbrev pub byte_at : List ℕ → ℕ → ℕ
byte_at bytes i = get_or bytes i 0

-- the fixed part, or the place of its first byte that is refused
abbrev pub fixed_of : List ℕ → Result Fixed ℕ
fixed_of bytes =
    if not (same_name (take 4 bytes) (codes "PLAT")) then Err 0 else
    (if not (byte_at bytes 4 == 1) then Err 4 else
    (if nat_lt 6 (byte_at bytes 5) then Err 5 else
    (if nat_lt 2 (byte_at bytes 6) then Err 6 else
    (if nat_lt 16 (byte_at bytes 7) then Err 7 else
    Ok (record {
      version = byte_at bytes 4;
      scale = byte_at bytes 5;
      degree = byte_at bytes 6;
      count = byte_at bytes 7;
    })))))

-- the length of an entry whose first byte is this
abbrev pub entry_len_of : ℕ → Option ℕ
entry_len_of first = if nat_lt 0 first && nat_le first 32 then Some (first + 5) else None

-- whether these bytes, behind a length, are a name and a count of readings
abbrev pub is_entry : ℕ → List ℕ → Bool
is_entry k rest = (length rest == k + 4) && (is_name (take k rest) && nat_le (number_of 4 (drop k rest)) (2 ^ 20))

-- the one entry that these bytes are
abbrev pub entry_of : List ℕ → Option Entry
entry_of [] = None
entry_of (k ∷ rest) = if is_entry k rest then Some (record { name = take k rest; n = number_of 4 (drop k rest) })
    else None

-- the fixed part and the entries are read as they were written
abbrev pub FixedReadsBack : Type 0
FixedReadsBack = (scale degree count : ℕ) → scale ≤ 6 → degree ≤ 2 → count ≤ 16
    → fixed_of (fixed_bytes scale degree count)
    ≡ Ok (record { version = 1; scale = scale; degree = degree; count = count })

abbrev pub EntryReadsBack : Type 0
EntryReadsBack = (name : List ℕ) (n : ℕ) → is_name name ≡ true → n ≤ 2 ^ 20
    → entry_of (entry_bytes name n) ≡ Some (record { name = name; n = n })
