use Rattle.std.proofs.Common.{arith}
use Rattle.store_file.proofs.StoredLaws.{entries-step, entries-end}
use Rattle.store_file.proofs.header.push_entries.Goals as goal

pub loop-i-preserved : goal.loop-i-preserved
loop-i-preserved c = entries-step c.loop-i.i c.args.series.now.entries (c.entry_at-name.result.0, c.entry_at-name.result.1) c.loop-i.into.items _ _ c.entry_at-name.ensures c.loop-i.invariant c.in_ok-push_entry.ensures

pub returns : goal.returns
returns c = entries-end c.loop-i.i c.args.series.now.entries c.loop-i.into.items _ (omega (arith, c.len-i-end.ensures.len, c.loop-i-test.false)) c.loop-i.invariant
