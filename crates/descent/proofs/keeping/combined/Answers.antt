use Rattle.std.proofs.Common.{◌≡◌, List, length, sym, ap, subst, ◌∙◌}
use Rattle.std.specs.List.{All}
use Rattle.semantics.specs.Admission.{sums_of}
use Rattle.expr.specs.Terms.{query_term_of}
use Rattle.error_prop.specs.declared.query.SumIn.{SumIn}
use Rattle.error_prop.specs.Queries.{IsAdmittedWith, IsCombined}
use Rattle.error_prop.specs.QueryOver.{sums_over}
use Rattle.error_prop.proofs.QueryOverLaws.{length-sums_over}
use Rattle.descent.specs.Charging.{IsLight}
use Rattle.descent.specs.Held.{shown}
use Rattle.descent.specs.KeptSums.{AreKeptSums}
use Rattle.descent.specs.Rows.{entries}
use Rattle.descent.proofs.ChoiceLaws.{light-over}
use Rattle.descent.proofs.KeepingLaws.{can-be-kept, sums-are}
use Rattle.descent.proofs.Works.{counts, counts-one}
use Rattle.descent.proofs.keeping.combined.Goals as goal

pub bring_up_to_date-requires-clause-can : goal.bring_up_to_date-requires-clause-can
bring_up_to_date-requires-clause-can g c = (can-be-kept c.args.tables.now (query_term_of c.args.q.now) c.requires.series c.are_sound.ensures c.requires.apart c.requires.plain c.requires.limits c.requires.admitted).0

pub combine-requires-clause-count : goal.combine-requires-clause-count
combine-requires-clause-count g c =
    let q = query_term_of c.args.q.now in
    let cut = shown c.args.tables.now in
    let can = can-be-kept c.args.tables.now q c.requires.series c.are_sound.ensures c.requires.apart c.requires.plain c.requires.limits c.requires.admitted in
    let kept = subst (AreKeptSums cut (sums_of q)) (sym c.as_slice.ensures.value) c.in_ok-bring_up_to_date.ensures.current in
    let sums : c.as_slice-2.result.now ≡ sums_over (entries cut) q = c.as_slice-2.ensures.value ∙ c.in_ok-sums.ensures cut (sums_of q) can.0 kept ∙ sums-are cut q c.requires.plain in
    ap length sums ∙ length-sums_over (entries cut) q c.requires.plain

pub combine-requires-clause-admitted : goal.combine-requires-clause-admitted
combine-requires-clause-admitted g c =
    let q = query_term_of c.args.q.now in
    let cut = shown c.args.tables.now in
    let can = can-be-kept c.args.tables.now q c.requires.series c.are_sound.ensures c.requires.apart c.requires.plain c.requires.limits c.requires.admitted in
    let kept = subst (AreKeptSums cut (sums_of q)) (sym c.as_slice.ensures.value) c.in_ok-bring_up_to_date.ensures.current in
    let sums : c.as_slice-2.result.now ≡ sums_over (entries cut) q = c.as_slice-2.ensures.value ∙ c.in_ok-sums.ensures cut (sums_of q) can.0 kept ∙ sums-are cut q c.requires.plain in
    subst (IsAdmittedWith q) (sym sums) can.1

pub returns-clause-can : goal.returns-clause-can
returns-clause-can g c = (can-be-kept c.args.tables.now (query_term_of c.args.q.now) c.requires.series c.are_sound.ensures c.requires.apart c.requires.plain c.requires.limits c.requires.admitted).0

pub returns-clause-light : goal.returns-clause-light
returns-clause-light g c =
    let q = query_term_of c.args.q.now in
    let cut = shown c.args.tables.now in
    let can = can-be-kept c.args.tables.now q c.requires.series c.are_sound.ensures c.requires.apart c.requires.plain c.requires.limits c.requires.admitted in
    let kept = subst (AreKeptSums cut (sums_of q)) (sym c.as_slice.ensures.value) c.in_ok-bring_up_to_date.ensures.current in
    let sums : c.as_slice-2.result.now ≡ sums_over (entries cut) q = c.as_slice-2.ensures.value ∙ c.in_ok-sums.ensures cut (sums_of q) can.0 kept ∙ sums-are cut q c.requires.plain in
    let out : IsCombined q (sums_over (entries cut) q) c.in_ok-out.out = subst (λ (ss : List SumIn). IsCombined q ss c.in_ok-out.out) sums c.in_ok-out.ensures in
    subst (All IsLight) (sym out.sums) (light-over q (sums_over (entries cut) q) (counts cut q) (counts-one cut q) c.requires.plain can.1)

pub returns-clause-out : goal.returns-clause-out
returns-clause-out g c =
    let q = query_term_of c.args.q.now in
    let cut = shown c.args.tables.now in
    let can = can-be-kept c.args.tables.now q c.requires.series c.are_sound.ensures c.requires.apart c.requires.plain c.requires.limits c.requires.admitted in
    let kept = subst (AreKeptSums cut (sums_of q)) (sym c.as_slice.ensures.value) c.in_ok-bring_up_to_date.ensures.current in
    let sums : c.as_slice-2.result.now ≡ sums_over (entries cut) q = c.as_slice-2.ensures.value ∙ c.in_ok-sums.ensures cut (sums_of q) can.0 kept ∙ sums-are cut q c.requires.plain in
    subst (λ (ss : List SumIn). IsCombined q ss c.in_ok-out.out) sums c.in_ok-out.ensures
