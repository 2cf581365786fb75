use Rattle.std.proofs.Common.{◌≡◌, ◌∙◌, sym, ap, arith, rules, true, Some, List, ℕ, ℤ, SFits, w32, length, [], ◌∷◌, ◌+◌}
use Rattle.std.proofs.lemmas.List.{length-append}
use Rattle.std.proofs.lemmas.Int.{to_z-of_z}
use Rattle.std.specs.Result.{is_ok}
use Rattle.csv.specs.Reading.{default_config, records}
use Rattle.series_csv.specs.Column.{readings_from}
use Rattle.series_csv.specs.Lines.{fields_in}
use Rattle.series_csv.proofs.ColumnLaws.{after, after-row, reading-within}
use Rattle.series_csv.proofs.lines.read_lines.Goals as goal

pub loop-number-preserved : goal.loop-number-preserved
loop-number-preserved c =
    let fields = fields_in c.in-Some.line.now in
    let more = records default_config c.in-Some.more.now in
    let rows : records default_config c.loop-number.rest.now ≡ fields ∷ more = c.in-Some.ensures.some in
    let good : is_ok c.push.result ≡ true = search rules in
    let fits : SFits w32 c.in_ok-reading.reading = search rules in
    let items = simp (good, to_z-of_z) at c.push.ensures.items in
    let within = reading-within c.args.place c.args.scale c.loop-number.number c.loop-number.last fields c.in_ok-reading.reading (sym c.in_ok-reading.ensures) in
    record {
      plain = c.in-Some.ensures.plain;
      counted = omega (arith, ap length items, length-append c.loop-number.readings.items (c.in_ok-reading.reading ∷ []));
      within = omega arith;
      so_far = simp to_z-of_z (c.loop-number.invariant.so_far
          ∙ ap (λ (rs : List (List (List ℕ))). after c.loop-number.readings.items (readings_from c.args.place c.args.scale c.loop-number.number c.loop-number.last rs)) rows
          ∙ after-row c.loop-number.readings.items c.in_ok-reading.reading c.args.place c.args.scale c.loop-number.number c.loop-number.last fields more (sym c.in_ok-reading.ensures)
          ∙ ap (λ (xs : List ℤ). after xs (readings_from c.args.place c.args.scale (c.loop-number.number + 1) (Some c.in_ok-reading.reading) more)) (sym items));
    }
