-- The last reading of a series of a store.
use Rattle.std.specs.Prelude.{ℕ, ℤ, List, Option, None, Result, Ok, Err, if◌then◌else◌}
use Rattle.std.specs.List.{last_or}
use Rattle.store_file.specs.Added.{names_in}
use Rattle.store_file.specs.Grown.{readings_named}
use Rattle.store_file.specs.StoreValue.{StoreValue, has_name}
use Rattle.store_file.specs.declared.adding.SeriesErr.{SeriesErr}
use Rattle.store_file.specs.declared.adding.SeriesErr.TheVariants as refusal

-- the last reading of the series of a name; none where it has no readings, or there is no such series
abbrev pub last_named : StoreValue → List ℕ → Option ℤ
last_named m name = last_or None (readings_named m.series name)

-- the same, where there is such a series
abbrev pub last_in : StoreValue → List ℕ → Result (Option ℤ) SeriesErr
last_in m name = if has_name (names_in m) name then Ok (last_named m name) else Err refusal.Unknown
