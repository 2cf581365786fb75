use Rattle.std.proofs.Common.{◌≡◌, ℕ, ◌+◌, ◌/◌, ◌<◌, List, length, set, length-set, sym, ap, subst, ◌∙◌, arith}
use Rattle.descent.specs.declared.kept.KeptSum.{KeptSum}
use Rattle.descent.specs.Charges.{AreRecharged}
use Rattle.descent.specs.Held.{row_in, shown}
use Rattle.descent.specs.KeptSums.{band_of, charge_in}
use Rattle.descent.specs.Laid.{held}
use Rattle.descent.specs.Rows.{Track}
use Rattle.descent.specs.Rows.{Row}
use Rattle.descent.proofs.Anew.{is-split, recharge-opened, recharge-split, right-closed, right-is, shown-at, shown-length}
use Rattle.descent.proofs.PutSteps.{row-of}
use Rattle.descent.proofs.StartIn.{closed-over, opened-over, right-below, stood-in}
use Rattle.descent.proofs.kept.KeptSum.charge_anew.Goals as goal

pub closed_at-requires : goal.closed_at-requires
closed_at-requires g c =
    let tables = c.args.tables.now in
    let i = c.args.change.now.table in
    let h = c.requires.changed.1 in
    let lt : i < length tables = omega (arith, h.within, shown-length tables) in
    let s = stood-in (shown tables) i (row_in (held c.args.change.now.row)) h.front h.new h.back c.requires.sound h.within h.is h.gave in
    let e = ap (λ (t : Track Row). t.len) (shown-at tables i c.index-tables-change.result lt c.index-tables-change.is) in
    omega (arith, s.below, e)

pub put-requires : goal.put-requires
put-requires g c =
    let tables = c.args.tables.now in
    let i = c.args.change.now.table in
    let h = c.requires.changed.1 in
    let s = stood-in (shown tables) i (row_in (held c.args.change.now.row)) h.front h.new h.back c.requires.sound h.within h.is h.gave in
    let e = ap (band_of (shown tables)) (shown-length tables) in
    omega (arith, s.place, e, c.requires.room, c.band.ensures.place)

pub returns-in_default-clause-charged : goal.returns-in_default-clause-charged
returns-in_default-clause-charged g c = λ before h.
    let tables = c.args.tables.now in
    let now = shown tables in
    let i = c.args.change.now.table in
    let k = c.args.self.now in
    let start = c.args.change.now.row.seg.start in
    let lt : i < length tables = omega (arith, h.within, shown-length tables) in
    let s = stood-in now i (row_in (held c.args.change.now.row)) h.front h.new h.back c.requires.sound h.within h.is h.gave in
    let e = ap (band_of now) (shown-length tables) in
    let over = opened-over tables i start c.index-tables-change.result lt c.index-tables-change.is c.in_default.ensures in
    let charges : c.put.new.self ≡ set k.charges (band_of now i + start / 16) 0 = c.put.ensures ∙ ap (λ b. set k.charges (b + start / 16) 0) c.band.ensures.place in
    subst (λ (cs : List ℕ). AreRecharged now i h.new k cs) (sym charges)
    (recharge-opened now i (row_in (held c.args.change.now.row)) h.front h.new h.back k c.requires.sound h.within h.is h.gave over (omega (arith, s.place, e, c.requires.room)))

pub recharge-requires-clause-within : goal.recharge-requires-clause-within
recharge-requires-clause-within g c =
    let tables = c.args.tables.now in
    let i = c.args.change.now.table in
    let lt : i < length tables = omega (arith, c.requires.changed.1.within, shown-length tables) in
    (row-of tables i c.args.change.now.row.seg.start c.index-tables-change.result c.in-Some.left c.requires.sound lt c.index-tables-change.is c.in-Some.ensures).within

pub recharge-requires-clause-room : goal.recharge-requires-clause-room
recharge-requires-clause-room g c =
    let tables = c.args.tables.now in
    let i = c.args.change.now.table in
    let lt : i < length tables = omega (arith, c.requires.changed.1.within, shown-length tables) in
    let r = row-of tables i c.args.change.now.row.seg.start c.index-tables-change.result c.in-Some.left c.requires.sound lt c.index-tables-change.is c.in-Some.ensures in
    let e = ap (band_of (shown tables)) (shown-length tables) in
    omega (arith, r.place, e, c.requires.room)

pub overflow_add-left : goal.overflow_add-left
overflow_add-left g c =
    let tables = c.args.tables.now in
    let i = c.args.change.now.table in
    let lt : i < length tables = omega (arith, c.requires.changed.1.within, shown-length tables) in
    let r = row-of tables i c.args.change.now.row.seg.start c.index-tables-change.result c.in-Some.left c.requires.sound lt c.index-tables-change.is c.in-Some.ensures in
    omega (arith, r.within)

pub closed_at-requires-2 : goal.closed_at-requires-2
closed_at-requires-2 g c =
    let tables = c.args.tables.now in
    let now = shown tables in
    let i = c.args.change.now.table in
    let h = c.requires.changed.1 in
    let lt : i < length tables = omega (arith, h.within, shown-length tables) in
    let over = closed-over tables i c.args.change.now.row.seg.start c.index-tables-change.result c.in-Some.left lt c.index-tables-change.is c.in-Some.ensures in
    let s = is-split now i (row_in (held c.args.change.now.row)) h.front h.new h.back c.in-Some.left c.requires.sound h.within h.is h.gave over in
    let b = right-below now i (row_in (held c.args.change.now.row)) h.new c.in-Some.left c.requires.sound h.within s in
    let e = ap (λ (t : Track Row). t.len) (shown-at tables i c.index-tables-change.result lt c.index-tables-change.is) in
    omega (arith, b, e)

pub recharge-requires-in-Some-closed_at-clause-within : goal.recharge-requires-in-Some-closed_at-clause-within
recharge-requires-in-Some-closed_at-clause-within g c =
    let tables = c.args.tables.now in
    let i = c.args.change.now.table in
    let lt : i < length tables = omega (arith, c.requires.changed.1.within, shown-length tables) in
    (row-of tables i (c.in-Some.left.start + c.in-Some.left.len) c.index-tables-change.result c.in-Some-closed_at.right c.requires.sound lt c.index-tables-change.is c.in-Some-closed_at.ensures).within

pub recharge-requires-in-Some-closed_at-clause-room : goal.recharge-requires-in-Some-closed_at-clause-room
recharge-requires-in-Some-closed_at-clause-room g c =
    let tables = c.args.tables.now in
    let now = shown tables in
    let i = c.args.change.now.table in
    let k = c.args.self.now in
    let lt : i < length tables = omega (arith, c.requires.changed.1.within, shown-length tables) in
    let r = row-of tables i (c.in-Some.left.start + c.in-Some.left.len) c.index-tables-change.result c.in-Some-closed_at.right c.requires.sound lt c.index-tables-change.is c.in-Some-closed_at.ensures in
    let e = ap (band_of now) (shown-length tables) in
    let n : length c.recharge.new.self.charges ≡ length k.charges = ap (λ (m : KeptSum). length m.charges) c.recharge.ensures ∙ length-set k.charges (band_of now i + c.in-Some.left.start / 16) (charge_in k i c.in-Some.left) in
    omega (arith, r.place, e, c.requires.room, n)

pub returns-in-Some-closed_at-clause-charged : goal.returns-in-Some-closed_at-clause-charged
returns-in-Some-closed_at-clause-charged g c = λ before h.
    let tables = c.args.tables.now in
    let now = shown tables in
    let i = c.args.change.now.table in
    let k = c.args.self.now in
    let left = c.in-Some.left in
    let right = c.in-Some-closed_at.right in
    let old = row_in (held c.args.change.now.row) in
    let lt : i < length tables = omega (arith, h.within, shown-length tables) in
    let over = closed-over tables i c.args.change.now.row.seg.start c.index-tables-change.result left lt c.index-tables-change.is c.in-Some.ensures in
    let s = is-split now i old h.front h.new h.back left c.requires.sound h.within h.is h.gave over in
    let behind = closed-over tables i (left.start + left.len) c.index-tables-change.result right lt c.index-tables-change.is c.in-Some-closed_at.ensures in
    let is = right-is now i old h.new left right c.requires.sound h.within s behind in
    let e = ap (band_of now) (shown-length tables) in
    let charges : c.recharge-in-Some-closed_at.new.self.charges ≡ set (set k.charges (band_of now i + left.start / 16) (charge_in k i left)) (band_of now i + right.start / 16) (charge_in k i right) =
    ap (λ (m : KeptSum). m.charges) c.recharge-in-Some-closed_at.ensures ∙ ap (λ (m : KeptSum). set m.charges (band_of now i + right.start / 16) (charge_in m i right)) c.recharge.ensures in
    subst (λ (cs : List ℕ). AreRecharged now i h.new k cs) (sym charges) (recharge-split now i old h.new left right k c.requires.sound h.within s is (omega (arith, e, c.requires.room)))

pub returns-in_default-closed_at-clause-charged : goal.returns-in_default-closed_at-clause-charged
returns-in_default-closed_at-clause-charged g c = λ before h.
    let tables = c.args.tables.now in
    let now = shown tables in
    let i = c.args.change.now.table in
    let left = c.in-Some.left in
    let old = row_in (held c.args.change.now.row) in
    let lt : i < length tables = omega (arith, h.within, shown-length tables) in
    let over = closed-over tables i c.args.change.now.row.seg.start c.index-tables-change.result left lt c.index-tables-change.is c.in-Some.ensures in
    let s = is-split now i old h.front h.new h.back left c.requires.sound h.within h.is h.gave over in
    let behind = opened-over tables i (left.start + left.len) c.index-tables-change.result lt c.index-tables-change.is c.in_default-closed_at.ensures in
    absurd (right-closed now i old h.new left c.requires.sound h.within s behind)
