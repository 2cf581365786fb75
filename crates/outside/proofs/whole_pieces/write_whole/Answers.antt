use Rattle.std.proofs.Common.{◌≡◌, ◌-◌, List, ℕ, take, drop, length, sym, arith, rules, take-add, append-nil, length-drop, take-append-drop}
use Rattle.std.proofs.KnownBytes.{Appends-kept, Appends-trans}
use Rattle.std.proofs.lemmas.List.{take_all}
use Rattle.outside.proofs.whole_pieces.write_whole.Goals as goal

slice-end : (field : List ℕ) (s : ℕ) → take (length field - s) (drop s field) ≡ drop s field
slice-end field s =
    let len = length-drop s field in
    take_all (length field - s) (drop s field) (omega arith)

pub loop-done-preserved : goal.loop-done-preserved
loop-done-preserved g c =
    let inv = c.loop-done.invariant in
    let all = c.args.piece.now in
    let done = c.loop-done.done in
    let more = rw (slice-end all done) at c.in-Ok.ensures.bytes in
    let bound = rw (slice-end all done) at c.in-Ok.ensures.bound in
    rw (take-add done c.in-Ok.count all) (omega (arith, inv.0, bound, length-drop done all), Appends-trans _ _ _ _ _ inv.1 more)

pub returns-in-Ok-eq0-clause-cut : goal.returns-in-Ok-eq0-clause-cut
returns-in-Ok-eq0-clause-cut g c is =
    let all = c.args.piece.now in
    let done = c.loop-done.done in
    let zero : c.in-Ok-eq0.field-0 ≡ 0 = search rules in
    let none = rw zero at c.in-Ok-eq0.ensures.bytes in
    (take done all, drop done all, sym (take-append-drop done all), rw (append-nil (take done all)) at (Appends-trans _ _ _ _ _ c.loop-done.invariant.1 none))

pub returns-in-Err-clause-cut : goal.returns-in-Err-clause-cut
returns-in-Err-clause-cut g c is =
    let all = c.args.piece.now in
    let done = c.loop-done.done in
    (take done all, drop done all, sym (take-append-drop done all), Appends-kept _ _ _ _ c.loop-done.invariant.1 c.in-Err.ensures.bytes)
