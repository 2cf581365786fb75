use Rattle.std.proofs.Common.{refl, arith}
use Rattle.store_file.proofs.StoredLaws.{trees-first, trees-step, trees-end}
use Rattle.store_file.proofs.trees.push_trees.Goals as goal

pub loop-i-init : goal.loop-i-init
loop-i-init c = record { rest = refl; are = c.requires }

pub push_tree-requires : goal.push_tree-requires
push_tree-requires c = trees-first c.args.arena.now.nodes c.loop-i.i c.args.series.now.entries (c.entry_at-name.result.0, c.entry_at-name.result.1) c.loop-i.into.items _ c.entry_at-name.ensures c.loop-i.invariant

pub loop-i-preserved : goal.loop-i-preserved
loop-i-preserved c = trees-step c.args.arena.now.nodes c.loop-i.i c.args.series.now.entries (c.entry_at-name.result.0, c.entry_at-name.result.1) c.loop-i.into.items _ _ c.entry_at-name.ensures c.loop-i.invariant c.in_ok-push_tree.ensures

pub returns : goal.returns
returns c = trees-end c.args.arena.now.nodes c.loop-i.i c.args.series.now.entries c.loop-i.into.items _ (omega (arith, c.len-i-end.ensures.len, c.loop-i-test.false)) c.loop-i.invariant
