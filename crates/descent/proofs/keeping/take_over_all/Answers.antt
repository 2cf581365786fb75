use Rattle.std.proofs.Common.{◌≡◌, ◌+◌, suc, arith, refl}
use Rattle.std.specs.Option.{option_map}
use Rattle.semantics.specs.Admission.{SumTerm, sums_of}
use Rattle.expr.specs.Terms.{query_term_of, range_of, term_of}
use Rattle.descent.specs.Held.{row_in, shown}
use Rattle.descent.specs.Laid.{held}
use Rattle.descent.specs.Settled.{IsKeptBefore}
use Rattle.descent.proofs.ChoiceLaws.{sums-length}
use Rattle.descent.proofs.KeepingLaws.{can-at, taken-all, taken-at, taken-length, taken-more}
use Rattle.descent.proofs.keeping.take_over_all.Goals as goal

pub index_mut-sum-requires : goal.index_mut-sum-requires
index_mut-sum-requires g c =
    let q = query_term_of c.args.q.now in
    let inv = c.loop-k.invariant in
    let n = taken-length c.loop-k.k inv.0 (shown c.args.tables.now) (sums_of q) c.loop-k.kept.items inv.2 in
    let m = sums-length q c.requires.plain in
    let ok = c.loop-k.kept.ok.0 in
    omega arith

pub take_over-requires : goal.take_over-requires
take_over-requires g c =
    let q = query_term_of c.args.q.now in
    let inv = c.loop-k.invariant in
    let s : SumTerm = record { series = term_of c.sum_at.result.0.now; range = option_map range_of c.sum_at.result.1 } in (
      s,
      record {
        before = inv.0;
        changed = inv.1;
        can = can-at (shown c.args.tables.now) c.loop-k.k s (sums_of q) c.sum_at.ensures c.requires.can;
        series = refl;
        kept = taken-at c.loop-k.k inv.0 (shown c.args.tables.now) s (sums_of q) c.loop-k.kept.items c.index_mut-sum.result.now c.sum_at.ensures inv.2 c.index_mut-sum.ensures.value;
      },
    )

pub loop-k-preserved : goal.loop-k-preserved
loop-k-preserved g c =
    let q = query_term_of c.args.q.now in
    let inv = c.loop-k.invariant in
    let s : SumTerm = record { series = term_of c.sum_at.result.0.now; range = option_map range_of c.sum_at.result.1 } in
    let is : IsKeptBefore c.args.change.now.table (row_in (held c.args.change.now.row)) (shown c.args.tables.now) s.series s c.index_mut-sum.result.now = record {
      before = inv.0;
      changed = inv.1;
      can = can-at (shown c.args.tables.now) c.loop-k.k s (sums_of q) c.sum_at.ensures c.requires.can;
      series = refl;
      kept = taken-at c.loop-k.k inv.0 (shown c.args.tables.now) s (sums_of q) c.loop-k.kept.items c.index_mut-sum.result.now c.sum_at.ensures inv.2 c.index_mut-sum.ensures.value;
    } in
    let next : c.loop-k.k + 1 ≡ suc c.loop-k.k = omega arith in
    (inv.0, inv.1, rw next (taken-more c.loop-k.k inv.0 (shown c.args.tables.now) s (sums_of q) c.loop-k.kept.items c.take_over.new.self c.sum_at.ensures inv.2 (c.in_ok-take_over.ensures s is)))

pub returns : goal.returns
returns g c =
    let q = query_term_of c.args.q.now in
    let n = sums-length q c.requires.plain in
    let m = c.count-k-end.ensures in
    let inv = c.loop-k.invariant in
    taken-all c.loop-k.k inv.0 (shown c.args.tables.now) (sums_of q) c.loop-k.kept.items (omega arith) inv.2
