use Rattle.std.proofs.Common.{◌≡◌, ◌<◌, length, set, pos, ap, sym, ◌∙◌, length-set, SFits, rules}
use Rattle.std.specs.Int.{int_wrap, w128}
use Rattle.std.proofs.lemmas.Int.{to_z-of_z}
use Rattle.std.proofs.lemmas.List.{get_or_default}
use Rattle.semantics.specs.Readings.{reading}
use Rattle.semantics.specs.Sums.{total_below}
use Rattle.descent.proofs.SumLaws.{total-set, wrapped-put}
use Rattle.descent.proofs.estimates.Estimates.put.Goals as goal

pub invariant_of-self : goal.invariant_of-self
invariant_of-self c =
    let xs = c.self.inside.items in
    let v = c.args.estimate in
    let at = c.args.at in
    let lt : at < length xs = rw c.self.view_is c.requires in
    let f : SFits w128 v = c.ranges.estimate in
    let s : SFits w128 c.self.inside.sum = search rules in
    let i : SFits w128 c.get.result = search rules in
    let read : c.get.result ≡ reading xs at = c.get.ensures ∙ get_or_default xs at c.get.result (pos 0) lt in
    let is : c.self.inside.sum ≡ int_wrap w128 (total_below (reading xs) (length xs)) = c.self.invariant in
    let put = wrapped-put (total_below (reading xs) (length xs)) c.self.inside.sum c.get.result v s i f is in
    let new : c.put.new.self ≡ set xs at v = c.put.ensures ∙ ap (λ z. set xs at z) (to_z-of_z w128 v f) in
    rw (new, length-set)
    (put ∙ ap (λ z. int_wrap w128 z) (rw read (sym (total-set xs at (length xs) v lt lt))))
