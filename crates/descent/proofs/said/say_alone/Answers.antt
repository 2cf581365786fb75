use Rattle.std.proofs.Common.{◌≡◌, ℕ, ◌+◌, ◌<◌, ◌≤◌, ◌^◌, ℤ, pos, ◌+ℤ◌, unsigned_abs, [], ◌∷◌, arith, rules, sym, ap, subst, ◌∙◌}
use Rattle.std.proofs.lemmas.Int.{ints, to_z-of_z}
use mir.Val.{SFits, to_z, of_z}
use mir.Syntax.{w64, w128}
use Rattle.expr.specs.Terms.{term_of}
use Rattle.bounds.specs.Reads.{AreCovered}
use Rattle.bounds.specs.Segments.{covers}
use Rattle.bounds.specs.Shape.{estimate_by}
use Rattle.error_prop.specs.Locals.{IsInRangeOver}
use Rattle.descent.specs.Held.{shown}
use Rattle.descent.specs.Kept.{IsSaid}
use Rattle.descent.specs.Laid.{held}
use Rattle.descent.specs.Said.{AreRead, ReadsAt}
use Rattle.descent.proofs.AloneLaws.{alone-covered, alone-next, alone-reads, alone-same, alone-sound, IsAloneIn}
use Rattle.descent.proofs.SayLaws.{estimate-small, few-read, one-estimate, one-small, read-one, same-covered, same-in-range, AreSame}
use Rattle.descent.proofs.said.say_alone.Goals as goal

pub row_read-row-requires : goal.row_read-row-requires
row_read-row-requires g c =
    let cut = shown c.args.tables.now in
    let r = c.args.reader.now in
    let read = c.requires.read.1 in
    let z : c.args.from + 0 ≡ c.args.from = omega arith in
    subst (λ k. ReadsAt cut k r) z (alone-reads cut c.requires.read.0 (term_of c.args.t.now) c.args.first r c.args.from c.args.n 0 read read.some)

pub position_of-requires-clause-until : goal.position_of-requires-clause-until
position_of-requires-clause-until g c =
    let at = alone-reads (shown c.args.tables.now) c.requires.read.0 (term_of c.args.t.now) c.args.first c.args.reader.now c.args.from c.args.n c.loop-i.i c.requires.read.1 (omega arith) in
    omega (arith, ints, at.until, at.sound.few)

pub seg_at-seg-requires-clause-sound : goal.seg_at-seg-requires-clause-sound
seg_at-seg-requires-clause-sound g c =
    let cut = shown c.args.tables.now in
    let t = term_of c.args.t.now in
    let s = c.requires.read.0 in
    let r = c.args.reader.now in
    let from = c.args.from in
    let n = c.args.n in
    let i = c.loop-i.i in
    let row = (held c.row_read-row.result.now).row in
    let fl : SFits w64 c.args.first = c.ranges.first in
    let l = to_z w64 (of_z w64 c.args.first) in
    let read : AreRead cut s t l (r ∷ []) from n = subst (λ z. AreRead cut s t z (r ∷ []) from n) (sym (to_z-of_z w64 c.args.first fl)) c.requires.read.1 in
    let h : IsAloneIn cut s t l r from n row = record { read = read; still = c.requires.still; reads = c.row_read-row.ensures } in
    let lt : i < n = omega arith in
    alone-sound cut s t l r from n row h

pub seg_at-seg-requires-clause-covered : goal.seg_at-seg-requires-clause-covered
seg_at-seg-requires-clause-covered g c =
    let cut = shown c.args.tables.now in
    let t = term_of c.args.t.now in
    let s = c.requires.read.0 in
    let r = c.args.reader.now in
    let from = c.args.from in
    let n = c.args.n in
    let i = c.loop-i.i in
    let row = (held c.row_read-row.result.now).row in
    let fl : SFits w64 c.args.first = c.ranges.first in
    let l = to_z w64 (of_z w64 c.args.first) in
    let read : AreRead cut s t l (r ∷ []) from n = subst (λ z. AreRead cut s t z (r ∷ []) from n) (sym (to_z-of_z w64 c.args.first fl)) c.requires.read.1 in
    let h : IsAloneIn cut s t l r from n row = record { read = read; still = c.requires.still; reads = c.row_read-row.ensures } in
    let lt : i < n = omega arith in
    ap (covers row.seg) c.position_of.ensures ∙ alone-covered cut s t l r from n i row h lt

pub estimate_over-part-requires-clause-position : goal.estimate_over-part-requires-clause-position
estimate_over-part-requires-clause-position g c =
    let cut = shown c.args.tables.now in
    let t = term_of c.args.t.now in
    let s = c.requires.read.0 in
    let r = c.args.reader.now in
    let from = c.args.from in
    let n = c.args.n in
    let i = c.loop-i.i in
    let row = (held c.row_read-row.result.now).row in
    let fl : SFits w64 c.args.first = c.ranges.first in
    let l = to_z w64 (of_z w64 c.args.first) in
    let read : AreRead cut s t l (r ∷ []) from n = subst (λ z. AreRead cut s t z (r ∷ []) from n) (sym (to_z-of_z w64 c.args.first fl)) c.requires.read.1 in
    let lt : i < n = omega arith in
    let fs : SFits w64 c.moved_up.result = search rules in
    let e : to_z w64 (of_z w64 c.moved_up.result) ≡ l +ℤ pos (from + i) = to_z-of_z w64 c.moved_up.result fs ∙ c.moved_up.ensures in
    subst (λ z. unsigned_abs z ≤ 2 ^ 46) (sym e) (few-read cut s t l (r ∷ []) (from + i) 1 (read-one cut s t l (r ∷ []) from n i read lt)).near

pub estimate_over-part-requires-clause-covered : goal.estimate_over-part-requires-clause-covered
estimate_over-part-requires-clause-covered g c =
    let cut = shown c.args.tables.now in
    let t = term_of c.args.t.now in
    let s = c.requires.read.0 in
    let r = c.args.reader.now in
    let from = c.args.from in
    let n = c.args.n in
    let i = c.loop-i.i in
    let row = (held c.row_read-row.result.now).row in
    let fl : SFits w64 c.args.first = c.ranges.first in
    let l = to_z w64 (of_z w64 c.args.first) in
    let read : AreRead cut s t l (r ∷ []) from n = subst (λ z. AreRead cut s t z (r ∷ []) from n) (sym (to_z-of_z w64 c.args.first fl)) c.requires.read.1 in
    let h : IsAloneIn cut s t l r from n row = record { read = read; still = c.requires.still; reads = c.row_read-row.ensures } in
    let lt : i < n = omega arith in
    let seg = c.seg_at-seg.result in
    let same : AreSame cut s t l (r ∷ []) (from + i) 1 (seg ∷ []) = alone-same cut s t l r from n i c.position_of.result row seg h lt c.position_of.ensures c.seg_at-seg.ensures in
    let fs : SFits w64 c.moved_up.result = search rules in
    let e : to_z w64 (of_z w64 c.moved_up.result) ≡ l +ℤ pos (from + i) = to_z-of_z w64 c.moved_up.result fs ∙ c.moved_up.ensures in
    subst (λ k. AreCovered t (seg ∷ []) k 1) (sym e) (same-covered cut s t l (r ∷ []) (from + i) 1 (seg ∷ []) same)

pub estimate_over-part-requires-clause-in_range : goal.estimate_over-part-requires-clause-in_range
estimate_over-part-requires-clause-in_range g c =
    let cut = shown c.args.tables.now in
    let t = term_of c.args.t.now in
    let s = c.requires.read.0 in
    let r = c.args.reader.now in
    let from = c.args.from in
    let n = c.args.n in
    let i = c.loop-i.i in
    let row = (held c.row_read-row.result.now).row in
    let fl : SFits w64 c.args.first = c.ranges.first in
    let l = to_z w64 (of_z w64 c.args.first) in
    let read : AreRead cut s t l (r ∷ []) from n = subst (λ z. AreRead cut s t z (r ∷ []) from n) (sym (to_z-of_z w64 c.args.first fl)) c.requires.read.1 in
    let h : IsAloneIn cut s t l r from n row = record { read = read; still = c.requires.still; reads = c.row_read-row.ensures } in
    let lt : i < n = omega arith in
    let seg = c.seg_at-seg.result in
    let same : AreSame cut s t l (r ∷ []) (from + i) 1 (seg ∷ []) = alone-same cut s t l r from n i c.position_of.result row seg h lt c.position_of.ensures c.seg_at-seg.ensures in
    let fs : SFits w64 c.moved_up.result = search rules in
    let e : to_z w64 (of_z w64 c.moved_up.result) ≡ l +ℤ pos (from + i) = to_z-of_z w64 c.moved_up.result fs ∙ c.moved_up.ensures in
    subst (λ k. IsInRangeOver t (seg ∷ []) k) (sym e) (same-in-range cut s t l (r ∷ []) (from + i) 1 (seg ∷ []) same)

pub plus-estimate-requires : goal.plus-estimate-requires
plus-estimate-requires g c =
    let cut = shown c.args.tables.now in
    let t = term_of c.args.t.now in
    let s = c.requires.read.0 in
    let r = c.args.reader.now in
    let from = c.args.from in
    let n = c.args.n in
    let i = c.loop-i.i in
    let row = (held c.row_read-row.result.now).row in
    let fl : SFits w64 c.args.first = c.ranges.first in
    let l = to_z w64 (of_z w64 c.args.first) in
    let read : AreRead cut s t l (r ∷ []) from n = subst (λ z. AreRead cut s t z (r ∷ []) from n) (sym (to_z-of_z w64 c.args.first fl)) c.requires.read.1 in
    let h : IsAloneIn cut s t l r from n row = record { read = read; still = c.requires.still; reads = c.row_read-row.ensures } in
    let lt : i < n = omega arith in
    let seg = c.seg_at-seg.result in
    let same : AreSame cut s t l (r ∷ []) (from + i) 1 (seg ∷ []) = alone-same cut s t l r from n i c.position_of.result row seg h lt c.position_of.ensures c.seg_at-seg.ensures in
    let fs : SFits w64 c.moved_up.result = search rules in
    let e : to_z w64 (of_z w64 c.moved_up.result) ≡ l +ℤ pos (from + i) = to_z-of_z w64 c.moved_up.result fs ∙ c.moved_up.ensures in
    let part = c.estimate_over-part.result.0 in
    let is : part ≡ estimate_by t (seg ∷ []) (l +ℤ pos (from + i)) = c.estimate_over-part.ensures.estimate ∙ ap (estimate_by t (seg ∷ [])) e in
    let fp : SFits w128 part = search rules in
    let a : unsigned_abs (to_z w128 c.loop-i.estimate-bits) ≤ 2 ^ 125 = subst (λ z. unsigned_abs z ≤ 2 ^ 125) (sym c.loop-i.invariant.estimate) (estimate-small cut s t l (r ∷ []) from n i read (omega arith)) in
    let b : unsigned_abs (to_z w128 (of_z w128 part)) ≤ 2 ^ 125 = subst (λ z. unsigned_abs z ≤ 2 ^ 125) (sym (to_z-of_z w128 part fp ∙ is ∙ one-estimate cut s t l (r ∷ []) (from + i) (seg ∷ []) same)) (one-small cut s t l (r ∷ []) from n i read lt) in
    omega (arith, a, b)

pub loop-i-preserved : goal.loop-i-preserved
loop-i-preserved g c =
    let cut = shown c.args.tables.now in
    let t = term_of c.args.t.now in
    let s = c.requires.read.0 in
    let r = c.args.reader.now in
    let from = c.args.from in
    let n = c.args.n in
    let i = c.loop-i.i in
    let row = (held c.row_read-row.result.now).row in
    let fl : SFits w64 c.args.first = c.ranges.first in
    let l = to_z w64 (of_z w64 c.args.first) in
    let read : AreRead cut s t l (r ∷ []) from n = subst (λ z. AreRead cut s t z (r ∷ []) from n) (sym (to_z-of_z w64 c.args.first fl)) c.requires.read.1 in
    let h : IsAloneIn cut s t l r from n row = record { read = read; still = c.requires.still; reads = c.row_read-row.ensures } in
    let lt : i < n = omega arith in
    let seg = c.seg_at-seg.result in
    let same : AreSame cut s t l (r ∷ []) (from + i) 1 (seg ∷ []) = alone-same cut s t l r from n i c.position_of.result row seg h lt c.position_of.ensures c.seg_at-seg.ensures in
    let fs : SFits w64 c.moved_up.result = search rules in
    let e : to_z w64 (of_z w64 c.moved_up.result) ≡ l +ℤ pos (from + i) = to_z-of_z w64 c.moved_up.result fs ∙ c.moved_up.ensures in
    let part = c.estimate_over-part.result.0 in
    let is : part ≡ estimate_by t (seg ∷ []) (l +ℤ pos (from + i)) = c.estimate_over-part.ensures.estimate ∙ ap (estimate_by t (seg ∷ [])) e in
    let fp : SFits w128 part = search rules in
    let x = to_z w128 c.loop-i.estimate-bits in
    let fr : SFits w128 c.plus-estimate.result = search rules in
    let sum : c.plus-estimate.result ≡ x +ℤ part = c.plus-estimate.ensures.value ∙ ap (λ (y : ℤ). x +ℤ y) (to_z-of_z w128 part fp) in
    let next = alone-next cut s t l r from i seg x part c.loop-i.most c.estimate_over-part.result.1 c.max-most.result same c.loop-i.invariant is c.estimate_over-part.ensures.weight c.max-most.ensures in
    subst (λ (y : ℤ). IsSaid cut t l from (i + 1) y (λ _. c.max-most.result)) (sym (to_z-of_z w128 c.plus-estimate.result fr ∙ sum)) next

pub returns : goal.returns
returns g c =
    let cut = shown c.args.tables.now in
    let t = term_of c.args.t.now in
    let fl : SFits w64 c.args.first = c.ranges.first in
    let e : to_z w64 (of_z w64 c.args.first) ≡ c.args.first = to_z-of_z w64 c.args.first fl in
    let n : c.loop-i.i ≡ c.args.n = omega arith in
    subst (λ (k : ℕ). IsSaid cut t c.args.first c.args.from k (to_z w128 c.loop-i.estimate-bits) (λ _. c.loop-i.most)) n
    (subst (λ (l : ℤ). IsSaid cut t l c.args.from c.loop-i.i (to_z w128 c.loop-i.estimate-bits) (λ _. c.loop-i.most)) e c.loop-i.invariant)
