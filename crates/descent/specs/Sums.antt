-- What a cut says of the sums of a query and of the query, and what each of its rows is charged for a sum.
use Rattle.std.specs.Prelude.{ℕ, ◌≤◌, ℤ, ◌-ℤ◌, Option, Some, None, List}
use Rattle.std.specs.List.{sum_by}
use Rattle.semantics.specs.Admission.{SumTerm}
use Rattle.semantics.specs.Readings.{from_zero, positions_in}
use Rattle.semantics.specs.Term.{QueryTerm, Range}
use Rattle.semantics.specs.Value.{domain_of, range_or}
use Rattle.interval.specs.Interval.{Interval}
use Rattle.segment.specs.declared.segments.Seg.{Seg}
use Rattle.bounds.specs.Cut.{segs_of, charge_by, greatest_weight}
use Rattle.error_prop.specs.Queries.{interval_over}
use Rattle.error_prop.specs.Places.{end_of_name}
use Rattle.error_prop.specs.QueryOver.{sum_over_range, sums_over}
use Rattle.error_prop.specs.declared.query.SumIn.{SumIn}
use Rattle.descent.specs.Rows.{Row, Cut, entries, segs_of_row}

-- the positions of a sum: its range, or the domain of its series
abbrev pub range_of : Cut → SumTerm → Range
range_of cut s = range_or s.range (domain_of (end_of_name (entries cut)) s.series)

abbrev pub first_of : Cut → SumTerm → ℤ
first_of cut s = (range_of cut s).left

abbrev pub count_of : Cut → SumTerm → ℕ
count_of cut s = positions_in (range_of cut s).left (range_of cut s).right

-- a sum's estimate and error
abbrev pub sum_in : Cut → SumTerm → SumIn
sum_in cut s = sum_over_range (entries cut) s.series (range_of cut s)

-- the interval of a query, none where the ends of a sum's are crossed
abbrev pub interval_in : Cut → QueryTerm → Option Interval
interval_in cut q = interval_over q (sums_over (entries cut) q)

abbrev pub width_of : Interval → ℕ
width_of iv = from_zero (iv.hi -ℤ iv.lo)

-- there is an interval, and it is no wider than a budget
abbrev pub IsWithin : ℕ → Option Interval → Type 0
IsWithin budget None = ⊥
IsWithin budget (Some iv) = width_of iv ≤ budget

-- the greatest weight with which an occurrence of a sum reads a segment
abbrev pub weight_for : Cut → SumTerm → ℕ → ℤ → Seg → ℕ
weight_for cut s = greatest_weight (segs_of (entries cut)) s.series (first_of cut s) (count_of cut s)

-- what the segments of a row of a name are charged for a sum
abbrev pub charge_of : Cut → SumTerm → List ℕ → Row → ℕ
charge_of cut s name row = sum_by (charge_by (weight_for cut s) s.series (first_of cut s) name) (segs_of_row row)
