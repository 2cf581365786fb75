use Rattle.std.proofs.Common.{◌≡◌, ℕ, ℤ, List, arith, rules, max, get_or, ap, refl, sym, subst, ◌∙◌, length, ◌+ℤ◌, pos}
use Rattle.std.specs.List.{refill}
use Rattle.std.proofs.lemmas.Int.{to_z-of_z}
use mir.Val.{SFits, to_z, of_z}
use mir.Syntax.{w64, w128}
use Rattle.expr.specs.Terms.{term_of}
use Rattle.semantics.specs.Measures.{names_in}
use Rattle.bounds.specs.Reads.{AreCovered}
use Rattle.bounds.specs.Shape.{estimate_by}
use Rattle.error_prop.specs.Locals.{IsInRangeOver}
use Rattle.error_prop.proofs.Arms.{length-weights}
use Rattle.error_prop.proofs.Costs.{refilled}
use Rattle.descent.specs.Held.{shown}
use Rattle.descent.proofs.SayLaws.{one-estimate, one-gathered, one-weight, same-covered, same-in-range}
use Rattle.descent.proofs.said.say_one.Goals as goal

pub estimate_at-estimate-requires-clause-covered : goal.estimate_at-estimate-requires-clause-covered
estimate_at-estimate-requires-clause-covered g c =
    let cut = shown c.args.tables.now in
    let t = term_of c.args.t.now in
    let l = c.args.first in
    let rs = c.args.readers.now in
    let offset = c.args.offset in
    let s = c.requires.read.0 in
    let gs = c.as_slice.result.now in
    let h = one-gathered cut s t l rs offset gs c.requires.read.1 (c.as_slice.ensures.value ∙ c.in_ok-gather.ensures) in
    let fl : SFits w64 l = c.ranges.first in
    let fs : SFits w64 c.moved_up-position.result = search rules in
    let e : to_z w64 (of_z w64 c.moved_up-position.result) ≡ l +ℤ pos offset = to_z-of_z w64 c.moved_up-position.result fs ∙ c.moved_up-position.ensures ∙ ap (λ (z : ℤ). z +ℤ pos offset) (to_z-of_z w64 l fl) in
    subst (λ i. AreCovered t gs i 1) (sym e) (same-covered cut s t l rs offset 1 gs h)

pub estimate_at-estimate-requires-clause-in_range : goal.estimate_at-estimate-requires-clause-in_range
estimate_at-estimate-requires-clause-in_range g c =
    let cut = shown c.args.tables.now in
    let t = term_of c.args.t.now in
    let l = c.args.first in
    let rs = c.args.readers.now in
    let offset = c.args.offset in
    let s = c.requires.read.0 in
    let gs = c.as_slice.result.now in
    let h = one-gathered cut s t l rs offset gs c.requires.read.1 (c.as_slice.ensures.value ∙ c.in_ok-gather.ensures) in
    let fl : SFits w64 l = c.ranges.first in
    let fs : SFits w64 c.moved_up-position.result = search rules in
    let e : to_z w64 (of_z w64 c.moved_up-position.result) ≡ l +ℤ pos offset = to_z-of_z w64 c.moved_up-position.result fs ∙ c.moved_up-position.ensures ∙ ap (λ (z : ℤ). z +ℤ pos offset) (to_z-of_z w64 l fl) in
    subst (λ i. IsInRangeOver t gs i) (sym e) (same-in-range cut s t l rs offset 1 gs h)

pub returns-clause-estimate : goal.returns-clause-estimate
returns-clause-estimate g c =
    let cut = shown c.args.tables.now in
    let t = term_of c.args.t.now in
    let l = c.args.first in
    let rs = c.args.readers.now in
    let offset = c.args.offset in
    let s = c.requires.read.0 in
    let gs = c.as_slice.result.now in
    let h = one-gathered cut s t l rs offset gs c.requires.read.1 (c.as_slice.ensures.value ∙ c.in_ok-gather.ensures) in
    let fl : SFits w64 l = c.ranges.first in
    let fs : SFits w64 c.moved_up-position.result = search rules in
    let e : to_z w64 (of_z w64 c.moved_up-position.result) ≡ l +ℤ pos offset = to_z-of_z w64 c.moved_up-position.result fs ∙ c.moved_up-position.ensures ∙ ap (λ (z : ℤ). z +ℤ pos offset) (to_z-of_z w64 l fl) in
    let fr : SFits w128 c.estimate_at-estimate.result = search rules in
    to_z-of_z w128 c.estimate_at-estimate.result fr ∙ c.estimate_at-estimate.ensures.estimate ∙ ap (estimate_by t gs) e ∙ one-estimate cut s t l rs offset gs h

pub returns-clause-weights : goal.returns-clause-weights
returns-clause-weights g c =
    let cut = shown c.args.tables.now in
    let t = term_of c.args.t.now in
    let l = c.args.first in
    let rs = c.args.readers.now in
    let offset = c.args.offset in
    let s = c.requires.read.0 in
    let gs = c.as_slice.result.now in
    let h = one-gathered cut s t l rs offset gs c.requires.read.1 (c.as_slice.ensures.value ∙ c.in_ok-gather.ensures) in
    let old = c.args.room.now.weights.items in
    let new = c.raise.new.weights in
    let count : length c.estimate_at-estimate.new.weights ≡ names_in t = ap length c.estimate_at-estimate.ensures.weights ∙ length-weights t gs in
    let here : c.as_slice-2.result.now ≡ c.estimate_at-estimate.new.weights = c.as_slice-2.ensures ∙ refilled _ _ _ _ refl (omega (arith, count, c.requires.room.here)) in
    let whole : refill (length old) old new ≡ new = refilled _ _ _ _ refl (omega (arith, c.raise.auto.weights, ap length c.as_mut_slice-2.ensures.value)) in
    λ o lt.
    ap (λ (xs : List ℕ). get_or xs o 0) whole
    ∙ c.raise.ensures o (omega (arith, ap length here, count, lt))
    ∙ ap (λ (xs : List ℕ). max (get_or xs o 0) (get_or c.as_slice-2.result.now o 0)) c.as_mut_slice-2.ensures.value
    ∙ ap (λ x. max (get_or old o 0) x) (ap (λ (xs : List ℕ). get_or xs o 0) (here ∙ c.estimate_at-estimate.ensures.weights) ∙ one-weight cut s t l rs offset gs o h lt)
