use Rattle.std.proofs.Common.{subst, sym}
use Rattle.std.specs.Str.{IsUtf8}
use Rattle.sessions.proofs.NameLaws.{name-utf8}
use Rattle.sessions.proofs.replies.name_text.Goals as goal

pub unreachable-requires : goal.unreachable-requires
unreachable-requires c = absurd (c.in-Err.ensures.cases.0 (subst IsUtf8 (sym c.bytes.ensures.value) (name-utf8 c.args.name.now c.bytes.ensures.name)))
