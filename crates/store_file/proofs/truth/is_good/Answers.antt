use Rattle.std.proofs.Common.{sym, ◌∙◌, arith, SFits, w64, rules}
use Rattle.store_file.proofs.GoodLaws.{bounded-told-seg, curve_passed, good-wide, good-unbounded, good-bounded, good-measured, within-greatest}
use Rattle.store_file.proofs.truth.is_good.Goals as goal

pub returns-then-d-from : goal.returns-then-d-from
returns-then-d-from c = sym (good-wide c.args.xs.now c.args.seg.now c.greatest_reading-d.result c.greatest_reading-d.ensures (omega arith))

pub returns-then-not-is_bounded : goal.returns-then-not-is_bounded
returns-then-not-is_bounded c =
    let fa : SFits w64 c.args.seg.now.a = search rules in
    let fb : SFits w64 c.args.seg.now.b = search rules in
    let fc : SFits w64 c.args.seg.now.c = search rules in
    let told = bounded-told-seg c.args.xs.now c.args.seg.now c.greatest_reading-d.result c.is_bounded.result fa fb fc c.requires.len c.is_bounded.ensures in
    sym (good-unbounded c.args.xs.now c.args.seg.now c.greatest_reading-d.result c.greatest_reading-d.ensures (omega arith) (sym told ∙ c.if-not-is_bounded.true))

pub is_measured-requires-clause-small : goal.is_measured-requires-clause-small
is_measured-requires-clause-small c = within-greatest c.args.xs.now (omega arith)

pub is_measured-requires-clause-curve : goal.is_measured-requires-clause-curve
is_measured-requires-clause-curve c =
    let fa : SFits w64 c.args.seg.now.a = search rules in
    let fb : SFits w64 c.args.seg.now.b = search rules in
    let fc : SFits w64 c.args.seg.now.c = search rules in
    curve_passed c.args.seg.now fa fb fc

pub is_measured-requires-clause-bounded : goal.is_measured-requires-clause-bounded
is_measured-requires-clause-bounded c =
    let fa : SFits w64 c.args.seg.now.a = search rules in
    let fb : SFits w64 c.args.seg.now.b = search rules in
    let fc : SFits w64 c.args.seg.now.c = search rules in
    let told = bounded-told-seg c.args.xs.now c.args.seg.now c.greatest_reading-d.result c.is_bounded.result fa fb fc c.requires.len c.is_bounded.ensures in
    let own = good-bounded c.args.xs.now c.args.seg.now c.greatest_reading-d.result c.greatest_reading-d.ensures (sym told ∙ c.if-not-is_bounded.false) in
    rw (curve_passed c.args.seg.now fa fb fc) own

pub returns : goal.returns
returns c =
    let fa : SFits w64 c.args.seg.now.a = search rules in
    let fb : SFits w64 c.args.seg.now.b = search rules in
    let fc : SFits w64 c.args.seg.now.c = search rules in
    let told = bounded-told-seg c.args.xs.now c.args.seg.now c.greatest_reading-d.result c.is_bounded.result fa fb fc c.requires.len c.is_bounded.ensures in
    good-measured c.args.xs.now c.args.seg.now c.greatest_reading-d.result c.is_measured.result c.greatest_reading-d.ensures (omega arith) (sym told ∙ c.if-not-is_bounded.false) c.is_measured.ensures
