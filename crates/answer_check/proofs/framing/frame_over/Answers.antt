use Rattle.std.proofs.Common.{◌≡◌, ◌∙◌, Err, Global, Vec, ap, arith, sym}
use Rattle.std.specs.Option.{option_map}
use Rattle.expr.specs.Terms.{query_term_of}
use Rattle.segment.specs.declared.segments.Seg.{Seg}
use Rattle.answer_check.proofs.FrameSteps.{frame-further, frame-init, frame-more, frame-none, with_segs}
use Rattle.answer_check.proofs.framing.frame_over.Goals as goal

pub loop-k-init : goal.loop-k-init
loop-k-init c = frame-init c.args.arena.now.nodes c.args.series.now.entries (query_term_of c.args.q.now) c.args.lists.now c.new-frame.result c.new-frame.ensures c.requires.names c.requires.of

pub returns-in_default-clause-refused : goal.returns-in_default-clause-refused
returns-in_default-clause-refused c = λ place e.
    let same : c.loop-k.place ≡ place = cc in
    let named = sym c.is_in_query.ensures ∙ c.if-not-is_in_query.false in
    let none = c.in_ok-segs.ensures.segs c.loop-k.k ∙ ap (option_map (λ (v : Vec Seg Global). v.items)) c.in_default.is in
    frame-none c.args.arena.now.nodes c.args.series.now.entries (query_term_of c.args.q.now) c.args.lists.now c.loop-k.k c.loop-k.place c.loop-k.frame c.entry_at-name.result.0 c.entry_at-name.result.1 c.loop-k.invariant c.entry_at-name.ensures named none ∙ ap Err same

pub loop-k-preserved : goal.loop-k-preserved
loop-k-preserved c =
    let named = sym c.is_in_query.ensures ∙ c.if-not-is_in_query.false in
    let some = c.in_ok-segs.ensures.segs c.loop-k.k ∙ ap (option_map (λ (v : Vec Seg Global). v.items)) c.in-Some.is in
    let put = c.in_ok-put_series.ensures ∙ ap (with_segs c.loop-k.frame c.entry_at-name.result.0) c.as_slice.ensures.value in
    frame-more c.args.arena.now.nodes c.args.series.now.entries (query_term_of c.args.q.now) c.args.lists.now c.loop-k.k c.loop-k.place c.loop-k.frame c.put_series.new.frame c.entry_at-name.result.0 c.entry_at-name.result.1 c.in-Some.segs.items c.loop-k.invariant c.entry_at-name.ensures named some put

pub returns-then-place-lists-clause-refused : goal.returns-then-place-lists-clause-refused
returns-then-place-lists-clause-refused c = λ place e.
    let same : c.loop-k.place ≡ place = cc in
    frame-further c.args.arena.now.nodes c.args.series.now.entries (query_term_of c.args.q.now) c.args.lists.now c.loop-k.k c.loop-k.place c.loop-k.frame c.loop-k.invariant (omega (arith, c.len-k-end.ensures.len, c.loop-k-test.false)) c.if-place-lists.true ∙ ap Err same
