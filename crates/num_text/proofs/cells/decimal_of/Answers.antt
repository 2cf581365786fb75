use Rattle.std.proofs.Common.{◌≡◌, ◌∙◌, ◌<◌, ◌+◌, ◌-◌, false, take, drop, length, length-drop, sym, ap, arith}
use Rattle.std.proofs.lemmas.List.{take_all}
use Rattle.semantics.specs.Numbers.{are_digits}
use Rattle.num_text.specs.Cells.{value_of}
use Rattle.num_text.proofs.CellLaws.{decimal_of-bad, decimal_of-whole}
use Rattle.num_text.proofs.cells.decimal_of.Goals as goal

pub returns-then-point-text : goal.returns-then-point-text
returns-then-point-text c =
    let read = decimal_of-whole c.args.scale c.args.negative c.args.text.now c.point_in-point.result c.point_in-point.ensures.value c.if-point-text.true (sym c.are_digits.ensures ∙ c.if-not-are_digits.false) in
    c.value_of.ensures ∙ ap (value_of c.args.negative) c.scaled.ensures ∙ read

pub returns-then-not-are_digits-2 : goal.returns-then-not-are_digits-2
returns-then-not-are_digits-2 c =
    let text = c.args.text.now in
    let point = c.point_in-point.result in
    let within : point < length text = omega (arith, c.point_in-point.ensures.within) in
    let bad : are_digits (take (length text - (point + 1)) (drop (point + 1) text)) ≡ false = sym c.are_digits-2.ensures ∙ c.if-not-are_digits-2.true in
    let whole = take_all (length text - (point + 1)) (drop (point + 1) text) (omega (arith, length-drop (point + 1) text)) in
    decimal_of-bad c.args.scale c.args.negative text point c.point_in-point.ensures.value within (ap are_digits (sym whole) ∙ bad)
