use Rattle.std.proofs.Common.{◌≡◌, ◌+◌, sym, subst, ◌∙◌, arith}
use Rattle.std.proofs.lemmas.List.{get_or_default}
use Rattle.expr.specs.Terms.{term_of}
use Rattle.descent.specs.Held.{shown}
use Rattle.descent.specs.Settled.{lens_of}
use Rattle.descent.proofs.CutSteps.{piece-in}
use Rattle.descent.proofs.SettleSteps.{settle-step, IsNext}
use Rattle.descent.proofs.kept.KeptSum.settle.Goals as goal

pub loop-c-preserved : goal.loop-c-preserved
loop-c-preserved g c =
    let cut = shown c.args.tables.now in
    let t = term_of c.args.t.now in
    let at = c.loop-c.c in
    let new = c.settle_at.new.self in
    let is = c.in_ok-settle_at.ensures in
    let some = c.loop-c.invariant.begins c.loop-c-test.true in
    let next = settle-step cut t c.args.from c.args.until at c.args.self.now c.loop-c.self new c.loop-c.invariant.settled c.loop-c.invariant.low c.loop-c-test.true c.requires.within (c.requires.ends (omega (arith, c.loop-c.invariant.low, c.loop-c-test.true))) some
    (record { shaped = is.shaped; piece = is.piece; right = is.right; others = is.others; same = is.same }) in
    let lies = piece-in cut t new at is.shaped is.piece in
    let e : lens_of new at ≡ c.get.result = get_or_default new.lens at 0 c.get.result lies.listed ∙ sym c.get.ensures in
    let there : IsNext cut t c.args.from c.args.until (at + c.get.result) c.args.self.now new = subst (λ m. IsNext cut t c.args.from c.args.until (at + m) c.args.self.now new) e next in
    record { low = omega (arith, c.loop-c.invariant.low); high = there.high; begins = there.begins; settled = there.settled; room = is.room }
