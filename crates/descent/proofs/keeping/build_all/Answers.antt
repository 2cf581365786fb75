use Rattle.std.proofs.Common.{◌≡◌, ◌+◌, ◌≤◌, suc, length, take, take_all, sym, subst, arith, List}
use Rattle.std.specs.Option.{option_map}
use Rattle.semantics.specs.Admission.{SumTerm, sums_of}
use Rattle.expr.specs.Terms.{query_term_of, range_of, term_of}
use Rattle.descent.specs.Held.{shown}
use Rattle.descent.specs.KeptSums.{AreKeptSums}
use Rattle.descent.proofs.ChoiceLaws.{sums-length}
use Rattle.descent.proofs.KeepingLaws.{can-at, kept-more}
use Rattle.descent.proofs.keeping.build_all.Goals as goal

pub build-requires : goal.build-requires
build-requires g c =
    let s : SumTerm = record { series = term_of c.sum_at-range.result.0.now; range = option_map range_of c.sum_at-range.result.1 } in
    can-at (shown c.args.tables.now) c.loop-k.k s (sums_of (query_term_of c.args.q.now)) c.sum_at-range.ensures c.requires.can

pub loop-k-preserved : goal.loop-k-preserved
loop-k-preserved g c =
    let s : SumTerm = record { series = term_of c.sum_at-range.result.0.now; range = option_map range_of c.sum_at-range.result.1 } in
    let ss = sums_of (query_term_of c.args.q.now) in
    let next : c.loop-k.k + 1 ≡ suc c.loop-k.k = omega arith in
    rw next (subst (AreKeptSums (shown c.args.tables.now) (take (suc c.loop-k.k) ss)) (sym c.in-Ok.ensures.items)
    (kept-more (shown c.args.tables.now) c.loop-k.k s ss c.loop-k.kept.items c.in_ok-sum.sum c.sum_at-range.ensures c.loop-k.invariant c.in_ok-sum.ensures))

pub returns : goal.returns
returns g c =
    let q = query_term_of c.args.q.now in
    let n = sums-length q c.requires.plain in
    let m = c.count-k-end.ensures in
    let le : length (sums_of q) ≤ c.loop-k.k = omega arith in
    subst (λ (ss : List SumTerm). AreKeptSums (shown c.args.tables.now) ss c.loop-k.kept.items) (take_all c.loop-k.k (sums_of q) le) c.loop-k.invariant
