-- Numbers as big-endian bytes.
use Rattle.std.specs.Prelude.{ℕ, suc, ◌-◌, ◌*◌, ◌^◌, ◌<◌, nat_lt, if◌then◌else◌, ℤ, pos, negsuc, List, get_or}
use Rattle.byteorder.specs.Endian.{big_bytes, big_number}

-- each item is a byte
abbrev pub IsBytes : List ℕ → Type 0
IsBytes xs = (i : ℕ) → get_or xs i 0 < 256

-- the n bytes of x, the highest first
unfoldable pub bytes_of : ℕ → ℕ → List ℕ
bytes_of n x = big_bytes n x

-- the number that the first n bytes write, the highest first
unfoldable pub number_of : ℕ → List ℕ → ℕ
number_of n xs = big_number n xs

-- z is in the range of two's complement of n bytes
abbrev pub IsSignedOf : ℕ → ℤ → Type 0
IsSignedOf n (pos k) = k < 2 ^ (8 * n - 1)
IsSignedOf n (negsuc k) = k < 2 ^ (8 * n - 1)

-- z in n bytes of two's complement, as a number from 0 up
unfoldable pub wrapped : ℕ → ℤ → ℕ
wrapped n (pos k) = k
wrapped n (negsuc k) = 256 ^ n - suc k

-- what the number x of n bytes is in two's complement
unfoldable pub unwrapped : ℕ → ℕ → ℤ
unwrapped n x = if nat_lt x (2 ^ (8 * n - 1)) then pos x else negsuc (256 ^ n - suc x)
