use Rattle.std.proofs.Common.{◌≤◌, ◌+◌, length}
use Rattle.sessions.proofs.ScriptLaws.{Read}
use Rattle.sessions.proofs.scripts.read_script.Given as goal

abbrev pub invariant-lines : goal.invariant-lines
invariant-lines l = record {
  events : Read l.fn.bytes l.events.items l.number l.rest;
  counted : l.number + length l.rest ≤ length l.fn.bytes + 1;
}

abbrev pub decreases-lines : goal.decreases-lines
decreases-lines l = length l.rest
