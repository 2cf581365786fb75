-- The range of a sum, by what the code knows of the lengths of the series.
use Rattle.std.proofs.Common.{◌≡◌, ℕ, List, refl, ap, ◌∙◌}
use Rattle.std.specs.Prelude.{Option, Some, None}
use Rattle.std.specs.List.{All}
use Rattle.semantics.specs.Admission.{count_at, Fact, SumTerm}
use Rattle.semantics.specs.Readings.{positions_in}
use Rattle.semantics.specs.Term.{Range, Term}
use Rattle.semantics.specs.Value.{domain_of}
use Rattle.bounds.specs.Segments.{OfEachName}
use Rattle.error_prop.proofs.QueryOverLaws.{same_domain}
use Rattle.error_prop.specs.Places.{end_of_name}
use Rattle.error_prop.specs.QueryOver.{range_by, range_over, whole}
use Rattle.semantics.specs.Term.{base, constant, bare, plus, minus, times, shift}
use Rattle.descent.specs.Held.{Held, shown}
use Rattle.descent.specs.Known.{facts_in}
use Rattle.descent.specs.Rows.{Track, Cut, entries}
use Rattle.descent.specs.Sound.{IsSoundTrack}
use Rattle.descent.specs.Sums.{count_of, first_of}
use Rattle.descent.proofs.ChoiceLaws.{whole-count}
use Rattle.descent.proofs.SoundLaws.{lengths-known}

of-each : (P : List ℕ → Type 0) (t : Term) → ((name : List ℕ) → P name) → OfEachName P t
of-each P (base name) h = h name
of-each P (constant v a b) h = tt
of-each P (bare v) h = tt
of-each P (plus u v) h = (of-each P u h, of-each P v h)
of-each P (minus u v) h = (of-each P u h, of-each P v h)
of-each P (times u v) h = (of-each P u h, of-each P v h)
of-each P (shift u k) h = of-each P u h

same-by : (M N : List ℕ → ℕ) (t : Term) (range : Option Range) → ((name : List ℕ) → M name ≡ N name) → range_by M t range ≡ range_by N t range
same-by M N t (Some range) h = refl
same-by M N t None h = ap whole (same_domain M N t (of-each (λ name. M name ≡ N name) t h))

first-over : (cut : Cut) (t : Term) (range : Option Range) → (range_over (entries cut) t range).left ≡ first_of cut (record { series = t; range = range })
first-over cut t (Some range) = refl
first-over cut t None = refl

count-over : (cut : Cut) (t : Term) (range : Option Range) → positions_in (range_over (entries cut) t range).left (range_over (entries cut) t range).right ≡ count_of cut (record { series = t; range = range })
count-over cut t (Some range) = refl
count-over cut t None = whole-count (domain_of (end_of_name (entries cut)) t)

-- a range as the code works it out is that of the sum
pub record IsRangeOf (cut : Cut) (s : SumTerm) (r : Range) : Type 0 where
  pub first : r.left ≡ first_of cut s
  pub count : positions_in r.left r.right ≡ count_of cut s

pub range-is : {I : Type 0} → (ts : List (Track (Held I))) (fs : List Fact) (t : Term) (range : Option Range) (r : Range) → r ≡ range_by (count_at fs) t range → fs ≡ facts_in ts → All IsSoundTrack (shown ts)
    → IsRangeOf (shown ts) (record { series = t; range = range }) r
range-is ts fs t range r e known sound =
    let cut = shown ts in
    let o : r ≡ range_over (entries cut) t range = e ∙ same-by (count_at fs) (end_of_name (entries cut)) t range (lengths-known ts fs known sound) in
    record {
      first = ap (λ (q : Range). q.left) o ∙ first-over cut t range;
      count = ap (λ (q : Range). positions_in q.left q.right) o ∙ count-over cut t range;
    }
