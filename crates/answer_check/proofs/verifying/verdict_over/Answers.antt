use Rattle.std.proofs.Common.{◌∙◌, Err, ap, subst, sym}
use Rattle.expr.specs.Terms.{query_term_of}
use Rattle.store_file.specs.Stored.{store_value}
use Rattle.answer_check.specs.declared.verdict.Verdict.TheVariants.{NotACut}
use Rattle.answer_check.specs.Walked.{cut_in, IsFrameOf}
use Rattle.answer_check.proofs.SoundCuts.{ready}
use Rattle.answer_check.proofs.Verdicts.{judged-is, no-cut}
use Rattle.answer_check.proofs.verifying.verdict_over.Goals as goal

pub interval_of-requires-clause-short : goal.interval_of-requires-clause-short
interval_of-requires-clause-short c =
    (ready (store_value c.args.store.now) (query_term_of c.args.q.now) _ c.in-Ok.frame c.in-Ok.ensures.value c.requires.plain c.requires.admitted c.in-Ok.ensures.ok).short

pub interval_of-requires-clause-admitted : goal.interval_of-requires-clause-admitted
interval_of-requires-clause-admitted c =
    (ready (store_value c.args.store.now) (query_term_of c.args.q.now) _ c.in-Ok.frame c.in-Ok.ensures.value c.requires.plain c.requires.admitted c.in-Ok.ensures.ok).admitted

pub interval_of-requires-clause-there : goal.interval_of-requires-clause-there
interval_of-requires-clause-there c =
    (ready (store_value c.args.store.now) (query_term_of c.args.q.now) _ c.in-Ok.frame c.in-Ok.ensures.value c.requires.plain c.requires.admitted c.in-Ok.ensures.ok).there

pub returns-in_ok-proved-in-Ok : goal.returns-in_ok-proved-in-Ok
returns-in_ok-proved-in-Ok c =
    let m = store_value c.args.store.now in
    let q = query_term_of c.args.q.now in
    let f = subst (λ ls. IsFrameOf m.series q ls c.in-Ok.frame) c.as_slice.ensures c.in-Ok.ensures.ok in
    c.judged.ensures ∙ judged-is m c.args.c.now q c.in-Ok.frame c.in_ok-proved-in-Ok.proved f c.in_ok-proved-in-Ok.ensures

pub returns-in-Err-At : goal.returns-in-Err-At
returns-in-Err-At c =
    let m = store_value c.args.store.now in
    let q = query_term_of c.args.q.now in
    let none = ap (cut_in m.series q) (sym c.as_slice.ensures) ∙ c.frame_of.ensures.refused c.in-Err-At.place (c.in-Err-At.is ∙ ap Err c.in-Err-At.field-0-is) in
    ap NotACut c.in-Err-At.place-is ∙ no-cut m c.args.c.now q c.in-Err-At.place none
