use Rattle.std.proofs.Common.{SFits, rules}
use Rattle.std.specs.Int.{w128}
use Rattle.std.proofs.lemmas.Int.{to_z-of_z}
use Rattle.interval.proofs.Operations.{meet_from}
use Rattle.interval.proofs.Iv.meet.Goals as goal

pub returns : goal.returns
returns c =
    let self_low : SFits w128 c.self.inside.lo = search rules in
    let self_high : SFits w128 c.self.inside.hi = search rules in
    let other_low : SFits w128 c.o.inside.lo = search rules in
    let other_high : SFits w128 c.o.inside.hi = search rules in
    let low_fits : SFits w128 c.max.result = search rules in
    let high_fits : SFits w128 c.min.result = search rules in
    let low = simp to_z-of_z at c.max.ensures.value in
    let high = simp to_z-of_z at c.min.ensures.value in
    let made = rw (low, high) at (simp to_z-of_z at c.of.ensures) in
    let meet = meet_from record { lo = c.self.inside.lo; hi = c.self.inside.hi } record { lo = c.o.inside.lo; hi = c.o.inside.hi } c.of.result made.none made.ends in
    rw (← c.self.view_is, ← c.o.view_is) (record { none = meet.none; ends = meet.ends; ordered = meet.ordered; shared = meet.shared })
