use Rattle.std.proofs.Common.{◌≡◌, ℕ, ℤ, List, arith, rules, max, get_or, ap, refl, sym, subst, ◌∙◌, length, ◌+ℤ◌, pos}
use Rattle.std.specs.List.{refill}
use Rattle.std.proofs.lemmas.Int.{to_z-of_z}
use mir.Val.{SFits, to_z, of_z}
use mir.Syntax.{w64, w128}
use Rattle.expr.specs.Terms.{term_of}
use Rattle.semantics.specs.Measures.{names_in}
use Rattle.bounds.specs.Reads.{AreCovered, AreSane}
use Rattle.bounds.specs.Shape.{shape}
use Rattle.error_prop.specs.Locals.{IsInRangeOver}
use Rattle.error_prop.proofs.Arms.{length-weights}
use Rattle.error_prop.proofs.Costs.{refilled}
use Rattle.error_prop.proofs.Locals.{IsLocalOf}
use Rattle.error_prop.proofs.SweepLaws.{SumsUp}
use Rattle.descent.specs.Held.{shown}
use Rattle.descent.proofs.SayLaws.{same-covered, same-in-range, same-most, same-sums-up, same-total, AreSame}
use Rattle.descent.proofs.said.say_same.Goals as goal

pub local_form-formed-requires-clause-covered : goal.local_form-formed-requires-clause-covered
local_form-formed-requires-clause-covered g c =
    let cut = shown c.args.tables.now in
    let t = term_of c.args.t.now in
    let l = c.args.first in
    let rs = c.args.readers.now in
    let offset = c.args.offset in
    let len = c.args.len in
    let s = c.requires.read.0 in
    let gs = c.as_slice.result.now in
    let h : AreSame cut s t l rs offset len gs = record { read = c.requires.read.1; same = c.requires.same; segs = c.as_slice.ensures.value ∙ c.in_ok-gather.ensures } in
    let fl : SFits w64 l = c.ranges.first in
    let fs : SFits w64 c.moved_up-start.result = search rules in
    let e : to_z w64 (of_z w64 c.moved_up-start.result) ≡ l +ℤ pos offset = to_z-of_z w64 c.moved_up-start.result fs ∙ c.moved_up-start.ensures ∙ ap (λ (z : ℤ). z +ℤ pos offset) (to_z-of_z w64 l fl) in
    subst (λ i. AreCovered t gs i len) (sym e) (same-covered cut s t l rs offset len gs h)

pub local_form-formed-requires-clause-in_range : goal.local_form-formed-requires-clause-in_range
local_form-formed-requires-clause-in_range g c =
    let cut = shown c.args.tables.now in
    let t = term_of c.args.t.now in
    let l = c.args.first in
    let rs = c.args.readers.now in
    let offset = c.args.offset in
    let len = c.args.len in
    let s = c.requires.read.0 in
    let gs = c.as_slice.result.now in
    let h : AreSame cut s t l rs offset len gs = record { read = c.requires.read.1; same = c.requires.same; segs = c.as_slice.ensures.value ∙ c.in_ok-gather.ensures } in
    let fl : SFits w64 l = c.ranges.first in
    let fs : SFits w64 c.moved_up-start.result = search rules in
    let e : to_z w64 (of_z w64 c.moved_up-start.result) ≡ l +ℤ pos offset = to_z-of_z w64 c.moved_up-start.result fs ∙ c.moved_up-start.ensures ∙ ap (λ (z : ℤ). z +ℤ pos offset) (to_z-of_z w64 l fl) in
    subst (λ i. IsInRangeOver t gs i) (sym e) (same-in-range cut s t l rs offset len gs h)

pub raise-requires : goal.raise-requires
raise-requires g c =
    let cut = shown c.args.tables.now in
    let t = term_of c.args.t.now in
    let l = c.args.first in
    let rs = c.args.readers.now in
    let offset = c.args.offset in
    let len = c.args.len in
    let s = c.requires.read.0 in
    let gs = c.as_slice.result.now in
    let h : AreSame cut s t l rs offset len gs = record { read = c.requires.read.1; same = c.requires.same; segs = c.as_slice.ensures.value ∙ c.in_ok-gather.ensures } in
    let fl : SFits w64 l = c.ranges.first in
    let fs : SFits w64 c.moved_up-start.result = search rules in
    let e : to_z w64 (of_z w64 c.moved_up-start.result) ≡ l +ℤ pos offset = to_z-of_z w64 c.moved_up-start.result fs ∙ c.moved_up-start.ensures ∙ ap (λ (z : ℤ). z +ℤ pos offset) (to_z-of_z w64 l fl) in
    let m = c.in-Ok.m in
    let k : IsLocalOf m len t gs (l +ℤ pos offset) = subst (λ i. IsLocalOf m len t gs i) e (rw c.in-Ok.is at c.local_form-formed.ensures.local) in
    ap length c.as_mut_slice.ensures.value ∙ c.requires.room.weights ∙ sym (ap length (c.as_slice-2.ensures ∙ k.weights) ∙ length-weights t gs)

pub sum_over-total-requires-clause-fewer : goal.sum_over-total-requires-clause-fewer
sum_over-total-requires-clause-fewer g c =
    let cut = shown c.args.tables.now in
    let t = term_of c.args.t.now in
    let l = c.args.first in
    let rs = c.args.readers.now in
    let offset = c.args.offset in
    let len = c.args.len in
    let s = c.requires.read.0 in
    let gs = c.as_slice.result.now in
    let h : AreSame cut s t l rs offset len gs = record { read = c.requires.read.1; same = c.requires.same; segs = c.as_slice.ensures.value ∙ c.in_ok-gather.ensures } in
    let fl : SFits w64 l = c.ranges.first in
    let fs : SFits w64 c.moved_up-start.result = search rules in
    let e : to_z w64 (of_z w64 c.moved_up-start.result) ≡ l +ℤ pos offset = to_z-of_z w64 c.moved_up-start.result fs ∙ c.moved_up-start.ensures ∙ ap (λ (z : ℤ). z +ℤ pos offset) (to_z-of_z w64 l fl) in
    let m = c.in-Ok.m in
    let k : IsLocalOf m len t gs (l +ℤ pos offset) = subst (λ i. IsLocalOf m len t gs i) e (rw c.in-Ok.is at c.local_form-formed.ensures.local) in
    let within = λ (D : List ℕ → ℕ) (n : ℕ) (sane : AreSane D n t gs (l +ℤ pos offset)). (rw c.in-Ok.is at c.local_form-formed.ensures.magnitudes) D n (subst (λ i. AreSane D n t gs i) (sym e) sane) in
    let u : SumsUp m.poly.c len = same-sums-up cut s t l rs offset len gs m h k within in
    u.fewer

pub sum_over-total-requires-clause-small : goal.sum_over-total-requires-clause-small
sum_over-total-requires-clause-small g c =
    let cut = shown c.args.tables.now in
    let t = term_of c.args.t.now in
    let l = c.args.first in
    let rs = c.args.readers.now in
    let offset = c.args.offset in
    let len = c.args.len in
    let s = c.requires.read.0 in
    let gs = c.as_slice.result.now in
    let h : AreSame cut s t l rs offset len gs = record { read = c.requires.read.1; same = c.requires.same; segs = c.as_slice.ensures.value ∙ c.in_ok-gather.ensures } in
    let fl : SFits w64 l = c.ranges.first in
    let fs : SFits w64 c.moved_up-start.result = search rules in
    let e : to_z w64 (of_z w64 c.moved_up-start.result) ≡ l +ℤ pos offset = to_z-of_z w64 c.moved_up-start.result fs ∙ c.moved_up-start.ensures ∙ ap (λ (z : ℤ). z +ℤ pos offset) (to_z-of_z w64 l fl) in
    let m = c.in-Ok.m in
    let k : IsLocalOf m len t gs (l +ℤ pos offset) = subst (λ i. IsLocalOf m len t gs i) e (rw c.in-Ok.is at c.local_form-formed.ensures.local) in
    let within = λ (D : List ℕ → ℕ) (n : ℕ) (sane : AreSane D n t gs (l +ℤ pos offset)). (rw c.in-Ok.is at c.local_form-formed.ensures.magnitudes) D n (subst (λ i. AreSane D n t gs i) (sym e) sane) in
    let u : SumsUp m.poly.c len = same-sums-up cut s t l rs offset len gs m h k within in
    u.small

pub returns-clause-estimate : goal.returns-clause-estimate
returns-clause-estimate g c =
    let cut = shown c.args.tables.now in
    let t = term_of c.args.t.now in
    let l = c.args.first in
    let rs = c.args.readers.now in
    let offset = c.args.offset in
    let len = c.args.len in
    let s = c.requires.read.0 in
    let gs = c.as_slice.result.now in
    let h : AreSame cut s t l rs offset len gs = record { read = c.requires.read.1; same = c.requires.same; segs = c.as_slice.ensures.value ∙ c.in_ok-gather.ensures } in
    let fl : SFits w64 l = c.ranges.first in
    let fs : SFits w64 c.moved_up-start.result = search rules in
    let e : to_z w64 (of_z w64 c.moved_up-start.result) ≡ l +ℤ pos offset = to_z-of_z w64 c.moved_up-start.result fs ∙ c.moved_up-start.ensures ∙ ap (λ (z : ℤ). z +ℤ pos offset) (to_z-of_z w64 l fl) in
    let m = c.in-Ok.m in
    let k : IsLocalOf m len t gs (l +ℤ pos offset) = subst (λ i. IsLocalOf m len t gs i) e (rw c.in-Ok.is at c.local_form-formed.ensures.local) in
    let ft : SFits w128 c.sum_over-total.result = search rules in
    to_z-of_z w128 c.sum_over-total.result ft ∙ c.sum_over-total.ensures.value ∙ same-total cut s t l rs offset len gs m h k

pub returns-clause-weights : goal.returns-clause-weights
returns-clause-weights g c =
    let cut = shown c.args.tables.now in
    let t = term_of c.args.t.now in
    let l = c.args.first in
    let rs = c.args.readers.now in
    let offset = c.args.offset in
    let len = c.args.len in
    let s = c.requires.read.0 in
    let gs = c.as_slice.result.now in
    let h : AreSame cut s t l rs offset len gs = record { read = c.requires.read.1; same = c.requires.same; segs = c.as_slice.ensures.value ∙ c.in_ok-gather.ensures } in
    let fl : SFits w64 l = c.ranges.first in
    let fs : SFits w64 c.moved_up-start.result = search rules in
    let e : to_z w64 (of_z w64 c.moved_up-start.result) ≡ l +ℤ pos offset = to_z-of_z w64 c.moved_up-start.result fs ∙ c.moved_up-start.ensures ∙ ap (λ (z : ℤ). z +ℤ pos offset) (to_z-of_z w64 l fl) in
    let m = c.in-Ok.m in
    let k : IsLocalOf m len t gs (l +ℤ pos offset) = subst (λ i. IsLocalOf m len t gs i) e (rw c.in-Ok.is at c.local_form-formed.ensures.local) in
    let old = c.args.room.now.weights.items in
    let new = c.raise.new.weights in
    let ws = c.as_slice-2.result.now in
    let wk : ws ≡ (shape t gs).weights = c.as_slice-2.ensures ∙ k.weights in
    let count : length ws ≡ names_in t = ap length wk ∙ length-weights t gs in
    let whole : refill (length old) old new ≡ new = refilled _ _ _ _ refl (omega (arith, c.raise.auto.weights, ap length c.as_mut_slice.ensures.value)) in
    λ o lt.
    ap (λ (xs : List ℕ). get_or xs o 0) whole
    ∙ c.raise.ensures o (omega (arith, count, lt))
    ∙ ap (λ (xs : List ℕ). max (get_or xs o 0) (get_or ws o 0)) c.as_mut_slice.ensures.value
    ∙ ap (λ x. max (get_or old o 0) x) (ap (λ (xs : List ℕ). get_or xs o 0) wk ∙ sym (same-most cut s t l rs offset len gs o h lt))
