use Rattle.std.proofs.Common.{subst}
use Rattle.sessions.specs.Events.{AreEvents}
use Rattle.sessions.proofs.EventLaws.{last_possible}
use Rattle.sessions.proofs.hub_tests.event_of.Goals as goal

pub returns-in-Some : goal.returns-in-Some
returns-in-Some c = last_possible c.pop.new.self.items c.in-Some.event (subst AreEvents c.in-Some.ensures.items c.in-Ok.ensures.possible)
