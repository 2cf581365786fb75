use Rattle.std.proofs.Common.{◌∙◌}
use Rattle.store_file.proofs.SeriesReading.{series-next, series-step}
use Rattle.store_file.proofs.decoding.push_series.Goals as goal

pub add_last-requires : goal.add_last-requires
add_last-requires c =
    (series-next c.loop-i.arena.nodes c.loop-i.series.entries c.args.entries.now c.args.bytes.now c.loop-i.i c.loop-i.place c.nth_entry-name.result c.requires.names c.nth_entry-name.ensures c.loop-i.invariant.far).new

pub loop-i-preserved : goal.loop-i-preserved
loop-i-preserved c = record {
  far = rw c.tree_bytes.ensures.value
      (series-step c.loop-i.arena.nodes _ c.loop-i.series.entries _ c.args.entries.now c.args.bytes.now c.loop-i.i c.loop-i.place c.nth_entry-name.result c.in_ok-tree.tree c.nth_entry-name.ensures c.loop-i.invariant.far
      c.in_ok-tree.ensures.extends c.in_ok-tree.ensures.tree (rw (← c.behind.ensures) c.in_ok-tree.ensures.value) (rw (← c.behind.ensures) c.in_ok-tree.ensures.good) c.in_ok-tree.ensures.count c.in_ok-add_last.ensures.ok);
  degree = c.in_ok-tree.ensures.degree ∙ c.loop-i.invariant.degree;
  limit = c.in_ok-tree.ensures.limit ∙ c.loop-i.invariant.limit;
}
