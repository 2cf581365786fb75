use Rattle.std.proofs.Common.{◌≡◌, ℕ, ℤ, List, arith, rules, get_or, subst, ap, ◌∙◌}
use Rattle.std.specs.Prelude.{IfOk}
use Rattle.std.proofs.lemmas.Int.{to_z-of_z}
use mir.Val.{SFits, to_z, of_z}
use mir.Syntax.{w64, w128}
use Rattle.expr.specs.Terms.{term_of}
use Rattle.descent.specs.Held.{shown}
use Rattle.descent.specs.Kept.{IsSaid}
use Rattle.descent.proofs.SayLaws.{closed-same, said-if-ok}
use Rattle.descent.proofs.said.say.Goals as goal

pub say_same-requires-clause-same : goal.say_same-requires-clause-same
say_same-requires-clause-same g c = closed-same (shown c.args.tables.now) c.requires.read.0 (term_of c.args.t.now) c.args.first c.args.readers.now c.args.from c.args.n c.requires.read.1 c.requires.still (c.all_closed.ensures c.if-all_closed.true)

pub returns-then-all_closed-clause-said : goal.returns-then-all_closed-clause-said
returns-then-all_closed-clause-said g c =
    let cut = shown c.args.tables.now in
    let t = term_of c.args.t.now in
    let was = c.clear.new.self.weights.items in
    let new = c.say_same.new.room.weights.items in
    let fl : SFits w64 c.args.first = c.ranges.first in
    let l = to_z w64 (of_z w64 c.args.first) in
    let said = said-if-ok cut t l c.args.from c.args.n c.say_same.result (λ o. get_or was o 0) (λ o. get_or new o 0) c.clear.ensures.zeros c.say_same.ensures.estimate c.say_same.ensures.weights in
    subst (λ (k : ℤ). IfOk c.say_same.result (λ x. IsSaid cut t k c.args.from c.args.n x (λ o. get_or new o 0))) (to_z-of_z w64 c.args.first fl) said

pub returns-then-readers-eq1-clause-said : goal.returns-then-readers-eq1-clause-said
returns-then-readers-eq1-clause-said g c =
    let cut = shown c.args.tables.now in
    let t = term_of c.args.t.now in
    let from = c.args.from in
    let n = c.args.n in
    let estimate = c.say_alone-estimate.result.0 in
    let most = c.say_alone-estimate.result.1 in
    let fl : SFits w64 c.args.first = c.ranges.first in
    let fe : SFits w128 estimate = search rules in
    let said : IsSaid cut t c.args.first from n estimate (λ _. most) = subst (λ l. IsSaid cut t l from n estimate (λ _. most)) (to_z-of_z w64 c.args.first fl) c.say_alone-estimate.ensures in
    let new = c.put_only.new.self.weights.items in
    let is : IsSaid cut t c.args.first from n (to_z w128 (of_z w128 estimate)) (λ o. get_or new o 0) = record {
      estimate = to_z-of_z w128 estimate fe ∙ said.estimate;
      greatest = λ o lt.
          let z : o ≡ 0 = omega (arith, c.requires.read.1.readers.count, c.if-readers-eq1.true, lt) in
          ap (λ k. get_or new k 0) z ∙ ap (λ (xs : List ℕ). get_or xs 0 0) c.put_only.ensures.weight ∙ said.greatest o lt;
    } in
    is

pub returns-clause-said : goal.returns-clause-said
returns-clause-said g c =
    let cut = shown c.args.tables.now in
    let t = term_of c.args.t.now in
    let new = c.say_each.new.room.weights.items in
    let fl : SFits w64 c.args.first = c.ranges.first in
    subst (λ (l : ℤ). IfOk c.say_each.result (λ x. IsSaid cut t l c.args.from c.args.n x (λ o. get_or new o 0))) (to_z-of_z w64 c.args.first fl) c.say_each.ensures.said
