use Rattle.std.proofs.Common.{◌≡◌, ◌^◌, ◌<◌, ◌≤◌, ℤ, pos, List, length, set, SFits, refl, sym, ap, subst, ◌∙◌, arith, rules}
use Rattle.std.specs.Prelude.{◌≤ℤ◌, replicate}
use Rattle.std.specs.Int.{w64}
use Rattle.std.specs.Option.{option_map}
use Rattle.std.proofs.lemmas.Int.{to_z-of_z}
use mir.Val.{to_z, of_z}
use Rattle.expr.specs.Facts.{facts_of}
use Rattle.expr.specs.Terms.{range_of, term_of}
use Rattle.semantics.specs.Admission.{SumTerm}
use Rattle.descent.specs.Held.{shown}
use Rattle.descent.specs.Known.{facts_in}
use Rattle.descent.specs.declared.kept.KeptSum.{KeptSum}
use Rattle.descent.specs.declared.readers.Reader.{Reader}
use Rattle.descent.specs.Cells.{cells_in}
use Rattle.descent.specs.KeptSums.{band_of}
use Rattle.descent.specs.Readers.{reader_at, AreAligned, AreReadersOf}
use Rattle.descent.specs.Sums.{count_of}
use Rattle.descent.proofs.RangeLaws.{range-is}
use Rattle.descent.proofs.Anew.{shown-length}
use Rattle.descent.proofs.StartLaws.{shaped-start}
use Rattle.descent.proofs.Starting.{few-positions}
use Rattle.descent.proofs.Taking.{readers-inside}
use Rattle.descent.proofs.kept.KeptSum.unsettled.Goals as goal

pub readers_of-requires : goal.readers_of-requires
readers_of-requires g c =
    let tables = c.args.tables.now in
    let t = term_of c.args.t.now in
    let range = option_map range_of c.args.range in
    let s : SumTerm = record { series = t; range = range } in
    let known : facts_of c.as_slice.result.now ≡ facts_in tables = ap facts_of c.as_slice.ensures.value ∙ c.in_ok-facts.ensures in
    let r = range-is tables (facts_of c.as_slice.result.now) t range (range_of c.range_of_sum-bounds.result) c.range_of_sum-bounds.ensures known c.requires.sound.tracks in
    let f : SFits w64 c.range_of_sum-bounds.result.l = search rules in
    let l : to_z w64 (of_z w64 c.range_of_sum-bounds.result.l) ≡ c.range_of_sum-bounds.result.l = to_z-of_z w64 c.range_of_sum-bounds.result.l f in
    (s, record { series = refl; first = l ∙ r.first; can = c.requires })

pub positions-requires : goal.positions-requires
positions-requires g c =
    let tables = c.args.tables.now in
    let t = term_of c.args.t.now in
    let range = option_map range_of c.args.range in
    let known : facts_of c.as_slice.result.now ≡ facts_in tables = ap facts_of c.as_slice.ensures.value ∙ c.in_ok-facts.ensures in
    let r = range-is tables (facts_of c.as_slice.result.now) t range (range_of c.range_of_sum-bounds.result) c.range_of_sum-bounds.ensures known c.requires.sound.tracks in
    subst (λ n. n ≤ 2 ^ 41) (sym r.count) c.requires.room

pub cells_for-cells-requires-clause-room : goal.cells_for-cells-requires-clause-room
cells_for-cells-requires-clause-room g c =
    let tables = c.args.tables.now in
    let t = term_of c.args.t.now in
    let range = option_map range_of c.args.range in
    let known : facts_of c.as_slice.result.now ≡ facts_in tables = ap facts_of c.as_slice.ensures.value ∙ c.in_ok-facts.ensures in
    let r = range-is tables (facts_of c.as_slice.result.now) t range (range_of c.range_of_sum-bounds.result) c.range_of_sum-bounds.ensures known c.requires.sound.tracks in
    subst (λ n. n ≤ 2 ^ 41) (sym (c.positions.ensures ∙ r.count)) c.requires.room

pub cells_for-cells-requires-clause-few : goal.cells_for-cells-requires-clause-few
cells_for-cells-requires-clause-few g c =
    let tables = c.args.tables.now in
    let cut = shown tables in
    let t = term_of c.args.t.now in
    let range = option_map range_of c.args.range in
    let s : SumTerm = record { series = t; range = range } in
    let known : facts_of c.as_slice.result.now ≡ facts_in tables = ap facts_of c.as_slice.ensures.value ∙ c.in_ok-facts.ensures in
    let r = range-is tables (facts_of c.as_slice.result.now) t range (range_of c.range_of_sum-bounds.result) c.range_of_sum-bounds.ensures known c.requires.sound.tracks in
    let f : SFits w64 c.range_of_sum-bounds.result.l = search rules in
    let z = to_z w64 (of_z w64 c.range_of_sum-bounds.result.l) in
    let l : z ≡ c.range_of_sum-bounds.result.l = to_z-of_z w64 c.range_of_sum-bounds.result.l f in
    let are : AreReadersOf cut t z (count_of cut s) c.in_ok-readers.readers.items = c.in_ok-readers.ensures s (record { series = refl; first = l ∙ r.first; can = c.requires }) in
    let n : c.positions.result ≡ count_of cut s = c.positions.ensures ∙ r.count in
    λ some. subst (λ m. m ≤ 2 ^ 20) (sym n) (few-positions cut t z (count_of cut s) c.in_ok-readers.readers.items c.requires.sound are (subst (λ (rs : List Reader). 0 < length rs) c.as_slice-2.ensures.value some))

pub cells_for-cells-requires-clause-from : goal.cells_for-cells-requires-clause-from
cells_for-cells-requires-clause-from g c =
    let tables = c.args.tables.now in
    let cut = shown tables in
    let t = term_of c.args.t.now in
    let range = option_map range_of c.args.range in
    let s : SumTerm = record { series = t; range = range } in
    let known : facts_of c.as_slice.result.now ≡ facts_in tables = ap facts_of c.as_slice.ensures.value ∙ c.in_ok-facts.ensures in
    let r = range-is tables (facts_of c.as_slice.result.now) t range (range_of c.range_of_sum-bounds.result) c.range_of_sum-bounds.ensures known c.requires.sound.tracks in
    let f : SFits w64 c.range_of_sum-bounds.result.l = search rules in
    let z = to_z w64 (of_z w64 c.range_of_sum-bounds.result.l) in
    let l : z ≡ c.range_of_sum-bounds.result.l = to_z-of_z w64 c.range_of_sum-bounds.result.l f in
    let are : AreReadersOf cut t z (count_of cut s) c.in_ok-readers.readers.items = c.in_ok-readers.ensures s (record { series = refl; first = l ∙ r.first; can = c.requires }) in
    let n : c.positions.result ≡ count_of cut s = c.positions.ensures ∙ r.count in
    λ o lt some. subst (λ (rs : List Reader). pos 0 ≤ℤ (reader_at rs o).at) (sym c.as_slice-2.ensures.value)
    ((readers-inside cut t z (count_of cut s) c.in_ok-readers.readers.items are o (subst (λ (rs : List Reader). o < length rs) c.as_slice-2.ensures.value lt)).from (subst (λ m. 0 < m) n some))

pub returns-clause-say : goal.returns-clause-say
returns-clause-say g c =
    let tables = c.args.tables.now in
    let cut = shown tables in
    let t = term_of c.args.t.now in
    let range = option_map range_of c.args.range in
    let s : SumTerm = record { series = t; range = range } in
    let known : facts_of c.as_slice.result.now ≡ facts_in tables = ap facts_of c.as_slice.ensures.value ∙ c.in_ok-facts.ensures in
    let r = range-is tables (facts_of c.as_slice.result.now) t range (range_of c.range_of_sum-bounds.result) c.range_of_sum-bounds.ensures known c.requires.sound.tracks in
    let f : SFits w64 c.range_of_sum-bounds.result.l = search rules in
    let z = to_z w64 (of_z w64 c.range_of_sum-bounds.result.l) in
    let l : z ≡ c.range_of_sum-bounds.result.l = to_z-of_z w64 c.range_of_sum-bounds.result.l f in
    let are : AreReadersOf cut t z (count_of cut s) c.in_ok-readers.readers.items = c.in_ok-readers.ensures s (record { series = refl; first = l ∙ r.first; can = c.requires }) in
    let n : c.positions.result ≡ count_of cut s = c.positions.ensures ∙ r.count in
    record { sum = s; can = c.requires; series = refl; of = record { first = l ∙ r.first; count = c.cells_for-cells.ensures.count ∙ n } }

pub returns-clause-sum : goal.returns-clause-sum
returns-clause-sum g c =
    let tables = c.args.tables.now in
    let cut = shown tables in
    let t = term_of c.args.t.now in
    let range = option_map range_of c.args.range in
    let s : SumTerm = record { series = t; range = range } in
    let known : facts_of c.as_slice.result.now ≡ facts_in tables = ap facts_of c.as_slice.ensures.value ∙ c.in_ok-facts.ensures in
    let r = range-is tables (facts_of c.as_slice.result.now) t range (range_of c.range_of_sum-bounds.result) c.range_of_sum-bounds.ensures known c.requires.sound.tracks in
    let f : SFits w64 c.range_of_sum-bounds.result.l = search rules in
    let z = to_z w64 (of_z w64 c.range_of_sum-bounds.result.l) in
    let l : z ≡ c.range_of_sum-bounds.result.l = to_z-of_z w64 c.range_of_sum-bounds.result.l f in
    let are : AreReadersOf cut t z (count_of cut s) c.in_ok-readers.readers.items = c.in_ok-readers.ensures s (record { series = refl; first = l ∙ r.first; can = c.requires }) in
    let n : c.positions.result ≡ count_of cut s = c.positions.ensures ∙ r.count in
    record { first = l ∙ r.first; count = c.cells_for-cells.ensures.count ∙ n }

pub returns-clause-shaped : goal.returns-clause-shaped
returns-clause-shaped g c =
    let tables = c.args.tables.now in
    let cut = shown tables in
    let t = term_of c.args.t.now in
    let range = option_map range_of c.args.range in
    let s : SumTerm = record { series = t; range = range } in
    let known : facts_of c.as_slice.result.now ≡ facts_in tables = ap facts_of c.as_slice.ensures.value ∙ c.in_ok-facts.ensures in
    let r = range-is tables (facts_of c.as_slice.result.now) t range (range_of c.range_of_sum-bounds.result) c.range_of_sum-bounds.ensures known c.requires.sound.tracks in
    let f : SFits w64 c.range_of_sum-bounds.result.l = search rules in
    let z = to_z w64 (of_z w64 c.range_of_sum-bounds.result.l) in
    let l : z ≡ c.range_of_sum-bounds.result.l = to_z-of_z w64 c.range_of_sum-bounds.result.l f in
    let are : AreReadersOf cut t z (count_of cut s) c.in_ok-readers.readers.items = c.in_ok-readers.ensures s (record { series = refl; first = l ∙ r.first; can = c.requires }) in
    let n : c.positions.result ≡ count_of cut s = c.positions.ensures ∙ r.count in
    let e = ap (band_of cut) (shown-length tables) in
    let k : KeptSum = record { cells = c.cells_for-cells.result; first = z; readers = c.in_ok-readers.readers; lens = c.in_ok-lens.lens; estimates = c.in_ok-estimates.estimates; weights = c.in_ok-weights.weights; charges = c.in_ok-charges.charges } in
    let aligned : AreAligned c.cells_for-cells.result c.in_ok-readers.readers.items = subst (λ (rs : List Reader). AreAligned c.cells_for-cells.result rs) c.as_slice-2.ensures.value c.cells_for-cells.ensures.aligned in
    let readers : AreReadersOf cut t z c.cells_for-cells.result.count c.in_ok-readers.readers.items = subst (λ m. AreReadersOf cut t z m c.in_ok-readers.readers.items) (sym (c.cells_for-cells.ensures.count ∙ n)) are in
    let lens : c.in_ok-lens.lens ≡ set (replicate (cells_in c.cells_for-cells.result) 0) 0 (cells_in c.cells_for-cells.result) = c.in_ok-lens.ensures ∙ ap (λ m. set (replicate m 0) 0 m) c.len.ensures in
    let zero : ℤ = pos 0 in
    let estimates : c.in_ok-estimates.estimates ≡ replicate (cells_in c.cells_for-cells.result) zero = c.in_ok-estimates.ensures ∙ ap (λ m. replicate m zero) c.len-2.ensures in
    let count : length c.in_ok-weights.weights.items ≡ length c.in_ok-readers.readers.items = omega (arith, c.in_ok-weights.ensures.count, c.len-3.ensures, c.in_ok-readers.readers.ok.0) in
    shaped-start cut t k c.requires.sound (λ i row lt there. c.band.ensures.borders i row (omega (arith, lt, shown-length tables)) there) c.cells_for-cells.ensures.cells aligned readers lens estimates count
    (λ o lt. omega (arith, c.in_ok-weights.ensures.room o (omega (arith, lt, c.len-3.ensures, c.in_ok-readers.readers.ok.0)), c.len-4.ensures))
    c.in_ok-weights.ensures.zeros (omega (arith, c.in_ok-charges.ensures.enough, c.band.ensures.place, e)) c.in_ok-charges.ensures.zeros
