use Rattle.std.proofs.Common.{◌≡◌, ◌<◌, pos, ◌+ℤ◌, length, refl, ap, ◌∙◌, arith}
use Rattle.std.proofs.lemmas.Int.{ints}
use Rattle.descent.specs.declared.kept.KeptSum.{KeptSum}
use Rattle.descent.specs.Cells.{offset_of}
use Rattle.descent.specs.Held.{shown}
use Rattle.descent.specs.Rows.{Track}
use Rattle.descent.specs.Rows.{Row}
use Rattle.descent.proofs.Anew.{shown-at, shown-length}
use Rattle.descent.proofs.PutSteps.{put-closed, put-opened, reads-place, row-of}
use Rattle.descent.proofs.kept.KeptSum.put_weight.Goals as goal

pub position_of-position-requires-clause-from : goal.position_of-position-requires-clause-from
position_of-position-requires-clause-from g c =
    (reads-place (shown c.args.tables.now) c.args.self.now c.args.o c.args.c c.index.result.now c.requires.can c.requires.occurrence c.requires.cell c.index.ensures).from

pub position_of-position-requires-clause-until : goal.position_of-position-requires-clause-until
position_of-position-requires-clause-until g c =
    let p = reads-place (shown c.args.tables.now) c.args.self.now c.args.o c.args.c c.index.result.now c.requires.can c.requires.occurrence c.requires.cell c.index.ensures in
    omega (arith, ints, p.until, p.few, c.offset.ensures)

pub overflow_cast-i : goal.overflow_cast-i
overflow_cast-i g c =
    let p = reads-place (shown c.args.tables.now) c.args.self.now c.args.o c.args.c c.index.result.now c.requires.can c.requires.occurrence c.requires.cell c.index.ensures in
    omega (arith, p.track, p.tracks)

pub offset_bounds-tables-i : goal.offset_bounds-tables-i
offset_bounds-tables-i g c =
    let p = reads-place (shown c.args.tables.now) c.args.self.now c.args.o c.args.c c.index.result.now c.requires.can c.requires.occurrence c.requires.cell c.index.ensures in
    omega (arith, p.track, p.tracks)

pub bounds-tables-i : goal.bounds-tables-i
bounds-tables-i g c =
    let p = reads-place (shown c.args.tables.now) c.args.self.now c.args.o c.args.c c.index.result.now c.requires.can c.requires.occurrence c.requires.cell c.index.ensures in
    omega (arith, p.track, shown-length c.args.tables.now)

pub closed_at-requires : goal.closed_at-requires
closed_at-requires g c =
    let p = reads-place (shown c.args.tables.now) c.args.self.now c.args.o c.args.c c.index.result.now c.requires.can c.requires.occurrence c.requires.cell c.index.ensures in
    let lt : c.index.result.now.track < length c.args.tables.now = omega (arith, p.track, shown-length c.args.tables.now) in
    let e = ap (λ (t : Track Row). t.len) (shown-at c.args.tables.now c.index.result.now.track c.index-tables-i.result lt c.index-tables-i.is) in
    omega (arith, ints, p.until, c.offset.ensures, c.position_of-position.ensures, e)

pub recharge-requires-clause-track : goal.recharge-requires-clause-track
recharge-requires-clause-track g c =
    let p = reads-place (shown c.args.tables.now) c.args.self.now c.args.o c.args.c c.index.result.now c.requires.can c.requires.occurrence c.requires.cell c.index.ensures in
    omega (arith, p.track, shown-length c.args.tables.now)

pub recharge-requires-clause-within : goal.recharge-requires-clause-within
recharge-requires-clause-within g c =
    let p = reads-place (shown c.args.tables.now) c.args.self.now c.args.o c.args.c c.index.result.now c.requires.can c.requires.occurrence c.requires.cell c.index.ensures in
    let lt : c.index.result.now.track < length c.args.tables.now = omega (arith, p.track, shown-length c.args.tables.now) in
    (row-of c.args.tables.now c.index.result.now.track c.position_of-position.result c.index-tables-i.result c.in-Some.seg c.requires.can.sound lt c.index-tables-i.is c.in-Some.ensures).within

pub recharge-requires-clause-room : goal.recharge-requires-clause-room
recharge-requires-clause-room g c =
    let p = reads-place (shown c.args.tables.now) c.args.self.now c.args.o c.args.c c.index.result.now c.requires.can c.requires.occurrence c.requires.cell c.index.ensures in
    let lt : c.index.result.now.track < length c.args.tables.now = omega (arith, p.track, shown-length c.args.tables.now) in
    let r = row-of c.args.tables.now c.index.result.now.track c.position_of-position.result c.index-tables-i.result c.in-Some.seg c.requires.can.sound lt c.index-tables-i.is c.in-Some.ensures in
    omega (arith, r.place, c.requires.can.charged.room)

pub returns-in-Some-clause-can : goal.returns-in-Some-clause-can
returns-in-Some-clause-can g c =
    let old = c.args.self.now in
    let mid : KeptSum = record old { weights = c.put_at.new.weights } in
    let p = reads-place (shown c.args.tables.now) old c.args.o c.args.c c.index.result.now c.requires.can c.requires.occurrence c.requires.cell c.index.ensures in
    let lt : c.index.result.now.track < length c.args.tables.now = omega (arith, p.track, shown-length c.args.tables.now) in
    let at : pos c.position_of-position.result ≡ (c.index.result.now.at +ℤ pos (offset_of old.cells c.args.c)) = c.position_of-position.ensures ∙ ap (λ k. c.index.result.now.at +ℤ pos k) c.offset.ensures in
    put-closed c.args.tables.now old c.recharge.new.self c.args.o c.args.c c.args.weight c.position_of-position.result c.index.result.now c.index-tables-i.result c.in-Some.seg c.requires.can c.requires.occurrence c.index.ensures lt c.index-tables-i.is at c.in-Some.ensures
    (record { readers = ap (λ (k : KeptSum). k.readers) c.recharge.ensures; cells = ap (λ (k : KeptSum). k.cells) c.recharge.ensures; weights = ap (λ (k : KeptSum). k.weights.items) c.recharge.ensures ∙ c.put_at.ensures })
    (rw c.recharge.ensures refl)

pub returns-in_default-clause-can : goal.returns-in_default-clause-can
returns-in_default-clause-can g c =
    let old = c.args.self.now in
    let new : KeptSum = record old { weights = c.put_at.new.weights } in
    let p = reads-place (shown c.args.tables.now) old c.args.o c.args.c c.index.result.now c.requires.can c.requires.occurrence c.requires.cell c.index.ensures in
    let lt : c.index.result.now.track < length c.args.tables.now = omega (arith, p.track, shown-length c.args.tables.now) in
    let at : pos c.position_of-position.result ≡ (c.index.result.now.at +ℤ pos (offset_of old.cells c.args.c)) = c.position_of-position.ensures ∙ ap (λ k. c.index.result.now.at +ℤ pos k) c.offset.ensures in
    put-opened c.args.tables.now old new c.args.o c.args.c c.args.weight c.position_of-position.result c.index.result.now c.index-tables-i.result c.requires.can c.requires.occurrence c.index.ensures lt c.index-tables-i.is at c.in_default.ensures
    (record { readers = refl; cells = refl; weights = c.put_at.ensures }) refl
