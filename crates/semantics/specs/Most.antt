-- The limits of the rules, each by its name.
use Rattle.std.specs.Prelude.{ℕ, ◌-◌, ◌^◌}

-- ---- series

-- the readings of a series
abbrev pub most_readings : ℕ
most_readings = 2 ^ 20

-- the magnitude of a reading, in scaled units
abbrev pub greatest_reading : ℕ
greatest_reading = 10 ^ 9

-- the scale: decimal places
abbrev pub most_scale : ℕ
most_scale = 6

-- the series of a store
abbrev pub most_series : ℕ
most_series = 16

-- ---- the text of a query

-- its bytes
abbrev pub most_text : ℕ
most_text = 4096

-- the bytes of a word
abbrev pub most_word : ℕ
most_word = 32

-- the magnitude of a number
abbrev pub most_number : ℕ
most_number = 2 ^ 127 - 1

-- ---- queries

abbrev pub most_depth : ℕ
most_depth = 64

-- the sums of the plain query
abbrev pub most_sums : ℕ
most_sums = 16

-- the names of a sum, each time counted
abbrev pub most_names : ℕ
most_names = 32

-- the magnitude of a position and of a shift
abbrev pub most_shift : ℕ
most_shift = 2 ^ 40

-- the rank of a sum
abbrev pub most_rank : ℕ
most_rank = 2

-- the nodes of a query: their numbers have 32 bits
abbrev pub most_nodes : ℕ
most_nodes = 2 ^ 32 - 2

-- ---- magnitudes

-- the magnitude of a query, and the units of a series
abbrev pub range_limit : ℕ
range_limit = 2 ^ 125

-- the units of a part of this rank, 16384-fold for each of the rank, over its positions
abbrev pub range_limit_at : ℕ → ℕ
range_limit_at rank = range_limit
