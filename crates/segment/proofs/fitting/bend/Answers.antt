use Rattle.std.proofs.Common.{arith, SFits, rules, refl, ◌∙◌}
use Rattle.std.specs.Int.{w128}
use Rattle.std.proofs.lemmas.Int.{to_z-of_z}
use Rattle.segment.proofs.fitting.bend.Goals as goal

pub plus-rest-requires : goal.plus-rest-requires
plus-rest-requires c =
    let x : SFits w128 c.block-first.result = search rules in
    let y : SFits w128 c.block-second.result = search rules in
    let z : SFits w128 c.block-third.result = search rules in
    let p : SFits w128 c.less-part.result = search rules in
    let part = rw (to_z-of_z w128 c.block-first.result x, to_z-of_z w128 c.block-second.result y) at c.less-part.ensures.bound in
    rw (to_z-of_z w128 c.less-part.result p, to_z-of_z w128 c.block-third.result z) (omega (arith, part))

pub returns-clause-value : goal.returns-clause-value
returns-clause-value c =
    let x : SFits w128 c.block-first.result = search rules in
    let y : SFits w128 c.block-second.result = search rules in
    let z : SFits w128 c.block-third.result = search rules in
    let p : SFits w128 c.less-part.result = search rules in
    let r : SFits w128 c.plus-rest.result = search rules in
    let f : SFits w128 c.quotient.result = search rules in
    to_z-of_z w128 c.quotient.result f ∙ c.quotient.ensures.value ∙ rw (to_z-of_z w128 c.plus-rest.result r, c.plus-rest.ensures.value, to_z-of_z w128 c.less-part.result p, c.less-part.ensures.value, to_z-of_z w128 c.block-first.result x, to_z-of_z w128 c.block-second.result y, to_z-of_z w128 c.block-third.result z, c.block-first.ensures.value, c.block-second.ensures.value, c.block-third.ensures.value, c.twice_cube.ensures.value) refl

pub returns-clause-bound : goal.returns-clause-bound
returns-clause-bound c =
    let x : SFits w128 c.block-first.result = search rules in
    let y : SFits w128 c.block-second.result = search rules in
    let z : SFits w128 c.block-third.result = search rules in
    let p : SFits w128 c.less-part.result = search rules in
    let r : SFits w128 c.plus-rest.result = search rules in
    let f : SFits w128 c.quotient.result = search rules in
    let part = rw (to_z-of_z w128 c.block-first.result x, to_z-of_z w128 c.block-second.result y) at c.less-part.ensures.bound in
    let rest = rw (to_z-of_z w128 c.less-part.result p, to_z-of_z w128 c.block-third.result z) at c.plus-rest.ensures.bound in
    let last = rw (to_z-of_z w128 c.plus-rest.result r) at c.quotient.ensures.bound in
    rw (to_z-of_z w128 c.quotient.result f) (omega (arith, part, rest, last))
