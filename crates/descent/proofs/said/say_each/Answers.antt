use Rattle.std.proofs.Common.{◌≡◌, ◌+◌, ◌<◌, ◌≤◌, ◌^◌, ℕ, ℤ, arith, rules, get_or, ap, sym, subst, ◌∙◌, unsigned_abs, ◌+ℤ◌}
use Rattle.std.proofs.lemmas.Int.{to_z-of_z}
use mir.Val.{SFits, to_z, of_z}
use mir.Syntax.{w64, w128}
use Rattle.expr.specs.Terms.{term_of}
use Rattle.descent.specs.Held.{shown}
use Rattle.descent.specs.Kept.{IsSaid}
use Rattle.descent.specs.Said.{AreRead}
use Rattle.descent.proofs.SayLaws.{estimate-small, one-small, said-next}
use Rattle.descent.proofs.said.say_each.Goals as goal

pub plus-estimate-requires : goal.plus-estimate-requires
plus-estimate-requires g c =
    let cut = shown c.args.tables.now in
    let t = term_of c.args.t.now in
    let rs = c.args.readers.now in
    let s = c.requires.read.0 in
    let i = c.loop-i.i in
    let fl : SFits w64 c.args.first = c.ranges.first in
    let l = to_z w64 (of_z w64 c.args.first) in
    let e : c.args.first ≡ l = sym (to_z-of_z w64 c.args.first fl) in
    let read : AreRead cut s t l rs c.args.from c.args.n = subst (λ z. AreRead cut s t z rs c.args.from c.args.n) e c.requires.read.1 in
    let lt : i < c.args.n = omega arith in
    let a : unsigned_abs (to_z w128 c.loop-i.estimate-bits) ≤ 2 ^ 125 = subst (λ z. unsigned_abs z ≤ 2 ^ 125) (sym c.loop-i.invariant.said.estimate) (estimate-small cut s t l rs c.args.from c.args.n i read (omega arith)) in
    let b : unsigned_abs c.in_ok-part.part ≤ 2 ^ 125 = subst (λ z. unsigned_abs z ≤ 2 ^ 125) (sym c.in_ok-part.ensures.estimate) (one-small cut s t l rs c.args.from c.args.n i read lt) in
    let fp : SFits w128 c.in_ok-part.part = search rules in
    let d : unsigned_abs (to_z w128 (of_z w128 c.in_ok-part.part)) ≤ 2 ^ 125 = subst (λ z. unsigned_abs z ≤ 2 ^ 125) (sym (to_z-of_z w128 c.in_ok-part.part fp)) b in
    omega (arith, a, d)

pub loop-i-preserved : goal.loop-i-preserved
loop-i-preserved g c =
    let cut = shown c.args.tables.now in
    let t = term_of c.args.t.now in
    let i = c.loop-i.i in
    let l = to_z w64 (of_z w64 c.args.first) in
    let x = to_z w128 c.loop-i.estimate-bits in
    let was = c.loop-i.room.weights.items in
    let new = c.say_one.new.room.weights.items in
    let fp : SFits w128 c.in_ok-part.part = search rules in
    let fr : SFits w128 c.plus-estimate.result = search rules in
    let sum : c.plus-estimate.result ≡ x +ℤ c.in_ok-part.part = c.plus-estimate.ensures.value ∙ ap (λ (y : ℤ). x +ℤ y) (to_z-of_z w128 c.in_ok-part.part fp) in
    let next = said-next cut t l c.args.from i x c.in_ok-part.part (λ o. get_or was o 0) (λ o. get_or new o 0) c.loop-i.invariant.said c.in_ok-part.ensures.estimate c.in_ok-part.ensures.weights in
    record {
      said = subst (λ (y : ℤ). IsSaid cut t l c.args.from (i + 1) y (λ o. get_or new o 0)) (sym (to_z-of_z w128 c.plus-estimate.result fr ∙ sum)) next;
      room = c.in_ok-part.ensures.room;
    }

pub returns-clause-said : goal.returns-clause-said
returns-clause-said g c =
    let cut = shown c.args.tables.now in
    let t = term_of c.args.t.now in
    let weights = c.loop-i.room.weights.items in
    let fl : SFits w64 c.args.first = c.ranges.first in
    let e : to_z w64 (of_z w64 c.args.first) ≡ c.args.first = to_z-of_z w64 c.args.first fl in
    let n : c.loop-i.i ≡ c.args.n = omega arith in
    subst (λ (k : ℕ). IsSaid cut t c.args.first c.args.from k (to_z w128 c.loop-i.estimate-bits) (λ o. get_or weights o 0)) n
    (subst (λ (l : ℤ). IsSaid cut t l c.args.from c.loop-i.i (to_z w128 c.loop-i.estimate-bits) (λ o. get_or weights o 0)) e c.loop-i.invariant.said)
