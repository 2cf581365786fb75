use Rattle.std.proofs.Common.{subst, sym}
use Rattle.std.specs.Str.{IsUtf8}
use Rattle.query_cli.proofs.WordLaws.{name-utf8}
use Rattle.query_cli.proofs.words.name_text.Goals as goal

pub unreachable-requires : goal.unreachable-requires
unreachable-requires c = absurd (c.in-Err.ensures.cases.0 (subst IsUtf8 (sym c.bytes.ensures.value) (name-utf8 c.args.name.now c.bytes.ensures.name)))
