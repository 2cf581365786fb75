use Rattle.std.proofs.Common.{◌≡◌, ◌<◌, length, sym, ap, ◌∙◌, arith}
use Rattle.expr.specs.Terms.{term_of}
use Rattle.descent.specs.declared.kept.KeptSum.{KeptSum}
use Rattle.descent.specs.declared.readers.Reader.{Reader}
use Rattle.descent.specs.Held.{row_in, shown}
use Rattle.descent.specs.KeptSums.{band_of}
use Rattle.descent.specs.Laid.{held}
use Rattle.descent.proofs.Anew.{shown-length}
use Rattle.descent.proofs.GivenUp.{same-band}
use Rattle.descent.proofs.PutSteps.{reader-is}
use Rattle.descent.proofs.StartIn.{stood-in}
use Rattle.descent.proofs.Taking.{none-right, taken-first, taken-last, taken-other, taken-right, taken-step}
use Rattle.descent.proofs.kept.KeptSum.take_over.Goals as goal

pub charge_anew-requires-clause-room : goal.charge_anew-requires-clause-room
charge_anew-requires-clause-room g c =
    let tables = c.args.tables.now in
    let now = shown tables in
    let b = c.requires.1 in
    let n : length tables ≡ length b.before = omega (arith, shown-length tables, b.changed.count) in
    let e : band_of now (length tables) ≡ band_of b.before (length b.before) = same-band c.args.change.now.table (row_in (held c.args.change.now.row)) b.before now b.changed (length tables) ∙ ap (band_of b.before) n in
    omega (arith, e, b.kept.charged.room)

pub loop-o-init : goal.loop-o-init
loop-o-init g c =
    let b = c.requires.1 in
    record {
      taken = taken-first (shown c.args.tables.now) (term_of c.args.t.now) c.args.change.now.table (row_in (held c.args.change.now.row)) c.requires.0 c.args.self.now c.charge_anew.new.self b (c.charge_anew.ensures.charged b.before b.changed) c.charge_anew.ensures.same;
      right = none-right (shown c.args.tables.now) (term_of c.args.t.now) c.charge_anew.new.self;
    }

pub settle_in-requires-clause-within : goal.settle_in-requires-clause-within
settle_in-requires-clause-within g c =
    let h = c.requires.1.changed in
    (stood-in (shown c.args.tables.now) c.args.change.now.table (row_in (held c.args.change.now.row)) h.front h.new h.back c.requires.1.can.sound h.within h.is h.gave).within

pub settle_in-requires-clause-joints : goal.settle_in-requires-clause-joints
settle_in-requires-clause-joints g c =
    let k = c.loop-o.self in
    let a = ap (λ (m : KeptSum). length m.readers.items) c.charge_anew.ensures.same in
    let s = ap (λ rs. length rs.items) c.loop-o.invariant.taken.same.readers in
    let below : c.loop-o.o < length k.readers.items = omega (arith, c.loop-o-test.true, c.len-o-end.ensures, c.charge_anew.new.self.readers.ok.0, a, s) in
    let r = reader-is k.readers.items c.loop-o.o c.index.result.now below c.index.ensures in
    c.loop-o.invariant.taken.joints c.loop-o.o below (ap (λ (q : Reader). q.track) r ∙ c.if-index-change.false)

pub loop-o-preserved-then-index-change : goal.loop-o-preserved-then-index-change
loop-o-preserved-then-index-change g c =
    let k = c.loop-o.self in
    let now = shown c.args.tables.now in
    let t = term_of c.args.t.now in
    let i = c.args.change.now.table in
    let row = row_in (held c.args.change.now.row) in
    let a = ap (λ (m : KeptSum). length m.readers.items) c.charge_anew.ensures.same in
    let s = ap (λ rs. length rs.items) c.loop-o.invariant.taken.same.readers in
    let below : c.loop-o.o < length k.readers.items = omega (arith, c.loop-o-test.true, c.len-o-end.ensures, c.charge_anew.new.self.readers.ok.0, a, s) in
    let r = reader-is k.readers.items c.loop-o.o c.index.result.now below c.index.ensures in
    record {
      taken = taken-other now t i row c.loop-o.o c.args.self.now k c.loop-o.invariant.taken (λ q. c.if-index-change.true (sym (ap (λ (m : Reader). m.track) r) ∙ q));
      right = c.loop-o.invariant.right;
    }

pub loop-o-preserved : goal.loop-o-preserved
loop-o-preserved g c =
    let k = c.loop-o.self in
    let now = shown c.args.tables.now in
    let t = term_of c.args.t.now in
    let i = c.args.change.now.table in
    let row = row_in (held c.args.change.now.row) in
    let a = ap (λ (m : KeptSum). length m.readers.items) c.charge_anew.ensures.same in
    let s = ap (λ rs. length rs.items) c.loop-o.invariant.taken.same.readers in
    let below : c.loop-o.o < length k.readers.items = omega (arith, c.loop-o-test.true, c.len-o-end.ensures, c.charge_anew.new.self.readers.ok.0, a, s) in
    let r = reader-is k.readers.items c.loop-o.o c.index.result.now below c.index.ensures in
    let track = ap (λ (q : Reader). q.track) r ∙ c.if-index-change.false in
    let e = c.in_ok-right.ensures in
    let cells = c.in_ok-right.right in
    let q = c.loop-o.right in
    record {
      taken = taken-step now t i row c.loop-o.o cells.0 cells.1 q.0 q.1 e.settled.0 e.settled.1 c.args.self.now k c.settle_in.new.self c.loop-o.invariant.taken e.read c.loop-o.invariant.right e.settled.2 e.settled.3;
      right = taken-right now t i row c.loop-o.o cells.0 cells.1 q.0 q.1 e.settled.0 e.settled.1 c.args.self.now k c.settle_in.new.self c.loop-o.invariant.taken below track e.read c.loop-o.invariant.right e.settled.2 e.settled.3;
    }

pub returns : goal.returns
returns g c = λ s b.
    let k = c.loop-o.self in
    let a = ap (λ (m : KeptSum). length m.readers.items) c.charge_anew.ensures.same in
    let n = ap (λ rs. length rs.items) c.loop-o.invariant.taken.same.readers in
    taken-last (shown c.args.tables.now) (term_of c.args.t.now) c.args.change.now.table (row_in (held c.args.change.now.row)) s c.loop-o.o c.args.self.now k b c.loop-o.invariant.taken
    (omega (arith, c.loop-o-test.false, c.len-o-end.ensures, c.charge_anew.new.self.readers.ok.0, a, n))
