use Rattle.std.proofs.Common.{refl}
use Rattle.std.proofs.Common.{inr}
use Rattle.std.proofs.lemmas.Str.{is_utf8-from_IsUtf8}
use Rattle.answer_check.proofs.Spelled.{none_spelled}
use Rattle.answer_check.proofs.reading.read_json.Goals as goal

pub returns-in-Ok-clause-ok : goal.returns-in-Ok-clause-ok
returns-in-Ok-clause-ok c = rw (is_utf8-from_IsUtf8 c.args.bytes.now c.in-Ok.ensures.ok.0) c.in-Ok.ensures.ok.1

pub returns-in_default : goal.returns-in_default
returns-in_default c =
    record {
      ok = tt;
      not_json = inr (refl, none_spelled c.args.bytes.now (c.in-Err.ensures.err (λ m. c.in_default.not-Memory (c.classify.ensures.memory.1 m))));
    }
