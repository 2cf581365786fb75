use Rattle.std.proofs.Common.{sym}
use Rattle.store_file.proofs.StoredLaws.{at-place}
use Rattle.answer_check.proofs.framing.entry_at.Goals as goal

pub returns : goal.returns
returns c = at-place c.args.series.now.entries c.args.place (c.in-Some.name.now, c.in-Some.stored.now) (sym c.in-Some.ensures.entry)
