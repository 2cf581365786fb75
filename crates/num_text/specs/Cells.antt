-- A cell as a reading: an exact decimal, scaled by a power of ten and rounded once.
use Rattle.std.specs.Prelude.{ℕ, ◌+◌, ◌-◌, ◌*◌, ◌/◌, ◌^◌, ◌&&◌, ◌||◌, ◌==◌, ◌++◌, Bool, not, nat_lt, if◌then◌else◌, List, drop, length, slice_index, take, codes}
use Rattle.std.specs.Str.{bytes_eq}
use Rattle.std.specs.List.{after_first, before_first, list_any, prefix_len, suffix_len}
use Rattle.semantics.specs.Most.{greatest_reading}
use Rattle.semantics.specs.Numbers.{are_digits, has_minus, number_of, with_sign}
use Rattle.num_text.specs.declared.cells.Cell.{Cell}
use Rattle.num_text.specs.declared.cells.Cell.TheVariants.{Value, Missing, Bad, TooLarge}

-- ---- spaces and tabs

abbrev pub is_blank : ℕ → Bool
is_blank byte = byte == 32 || byte == 9

-- the text behind the blanks at its start
abbrev pub behind_blanks : List ℕ → List ℕ
behind_blanks text = drop (prefix_len is_blank text) text

-- the text before the blanks at its end
abbrev pub before_blanks : List ℕ → List ℕ
before_blanks text = take (length text - suffix_len is_blank text) text

-- ---- the parts of a decimal

abbrev pub has_sign : List ℕ → Bool
has_sign text = has_minus text || slice_index text 0 == 43

abbrev pub without_sign : List ℕ → List ℕ
without_sign text = if has_sign text then drop 1 text else text

abbrev pub is_point : ℕ → Bool
is_point byte = byte == 46

abbrev pub whole_of : List ℕ → List ℕ
whole_of text = before_first is_point text

abbrev pub fraction_of : List ℕ → List ℕ
fraction_of text = after_first is_point text

-- one or more digits, and optionally a point with one or more digits
abbrev pub is_decimal : List ℕ → Bool
is_decimal text = are_digits (whole_of text) && (not (list_any is_point text) || are_digits (fraction_of text))

-- ---- the reading

-- a quotient, rounded to the nearest whole number, halves up
abbrev pub nearest : ℕ → ℕ → ℕ
nearest n d = (2 * n + d) / (2 * d)

-- the magnitude of a decimal times 10^scale, rounded: its digits are one whole number over a power of ten
abbrev pub scaled : ℕ → List ℕ → List ℕ → ℕ
scaled scale whole fraction = nearest (number_of (whole ++ fraction) * 10 ^ scale) (10 ^ length fraction)

abbrev pub value_of : Bool → ℕ → Cell
value_of negative n = if nat_lt greatest_reading n then TooLarge else Value (with_sign negative n)

abbrev pub decimal_of : ℕ → Bool → List ℕ → Cell
decimal_of scale negative text =
    if is_decimal text then value_of negative (scaled scale (whole_of text) (fraction_of text)) else Bad

abbrev pub is_missing : List ℕ → Bool
is_missing text =
    length text == 0 || bytes_eq text (codes "NaN") || bytes_eq text (codes "nan") || bytes_eq text (codes "NA")
    || bytes_eq text (codes "null")

abbrev pub of_trimmed : ℕ → List ℕ → Cell
of_trimmed scale text = if is_missing text then Missing else decimal_of scale (has_minus text) (without_sign text)

-- the reading of a cell
abbrev pub cell_of : ℕ → List ℕ → Cell
cell_of scale text = of_trimmed scale (before_blanks (behind_blanks text))
