use Rattle.std.proofs.Common.{◌≡◌, ◌<◌, ◌+◌, ◌-◌, List, ℕ, Some, take, drop, length, arith, sym, ap, ◌∙◌}
use Rattle.std.specs.List.{position_or_len}
use Rattle.csv.specs.Records.{field_at}
use Rattle.series_csv.specs.Lines.{fields_in, is_comma}
use Rattle.series_csv.proofs.LineLaws.{field-behind, field-here, field-none}
use Rattle.series_csv.proofs.lines.field_of.Goals as goal

pub loop-left-preserved : goal.loop-left-preserved
loop-left-preserved c =
    let rest = c.loop-left.rest.now in
    let within : position_or_len is_comma rest < length rest = omega arith in
    c.loop-left.invariant ∙ field-behind rest c.loop-left.left (omega arith) within
    ∙ ap (λ (xs : List ℕ). field_at (fields_in xs) (c.loop-left.left - 1)) (sym (c.past-rest.ensures ∙ ap (λ n. drop (n + 1) rest) c.field_len-len.ensures.value))

pub returns : goal.returns
returns c =
    let rest = c.loop-left.rest.now in
    let last : c.loop-left.left ≡ 0 = omega arith in
    c.loop-left.invariant ∙ ap (field_at (fields_in rest)) last ∙ field-here rest
    ∙ ap Some (sym (c.before-2.ensures ∙ ap (λ n. take n rest) c.field_len.ensures.value))

pub returns-then-len-rest : goal.returns-then-len-rest
returns-then-len-rest c =
    c.loop-left.invariant ∙ field-none c.loop-left.rest.now c.loop-left.left (omega arith) (omega arith)
