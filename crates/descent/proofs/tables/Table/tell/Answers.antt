use Rattle.std.proofs.Common.{◌≡◌, ◌<◌, ◌+◌, suc, ◌∷◌, [], ◌++◌, length, take, get_or, None, Some, ap, sym, ◌∙◌, arith, length-append}
use Rattle.std.proofs.lemmas.List.{append_assoc, get_or_default}
use Rattle.descent.specs.Laid.{held}
use Rattle.descent.specs.Told.{told_row}
use Rattle.descent.proofs.Telling.{told_places, passed, one_more, told-held}
use Rattle.descent.proofs.tables.Table.tell.Goals as goal

pub loop-i-preserved-in_default : goal.loop-i-preserved-in_default
loop-i-preserved-in_default g c =
    let xs = c.self.inside.places in
    let i = c.loop-i.i in
    let lt : i < length xs = omega arith in
    let e : None ≡ get_or xs i None = sym c.in_default.is ∙ c.item.ensures ∙ get_or_default xs i c.item.result.now None lt in
    let next : i + 1 ≡ suc i = omega arith in
    record {
      told = rw next (c.loop-i.invariant.told ∙ sym (ap (λ ys. c.args.rows.now.items ++ ys) (passed c.self.inside.series i xs lt (sym e))));
      few = omega (arith, c.loop-i.invariant.few);
    }

pub loop-i-preserved : goal.loop-i-preserved
loop-i-preserved g c =
    let xs = c.self.inside.places in
    let i = c.loop-i.i in
    let r = c.in-Some.row in
    let lt : i < length xs = omega arith in
    let e : Some r ≡ get_or xs i None = sym c.in-Some.is ∙ c.item.ensures ∙ get_or_default xs i c.item.result.now None lt in
    let more = one_more c.self.inside.series i xs r lt (sym e) in
    let before = told_places c.self.inside.series (take i xs) in
    let next : i + 1 ≡ suc i = omega arith in
    let one = told-held c.self.inside.series r c.is_some.result c.is_some.ensures in
    record {
      told = rw (c.in_ok-push.ensures.items, c.loop-i.invariant.told, next, more) (ap (λ y. c.args.rows.now.items ++ before ++ y ∷ []) one ∙ append_assoc c.args.rows.now.items before (told_row c.self.inside.series (held r).row ∷ []));
      few = let p = ap length c.in_ok-push.ensures.items ∙ length-append c.loop-i.rows.items _ in omega (arith, c.loop-i.invariant.few, p);
    }
