use Rattle.std.proofs.Common.{subst}
use Rattle.sessions.specs.Kept.{StandsFor}
use Rattle.sessions.proofs.hub.Hub.store.Goals as goal

pub returns-clause-stands : goal.returns-clause-stands
returns-clause-stands c = (c.self.invariant.state, subst (λ v. StandsFor v c.self.invariant.state) c.self.view_is c.self.invariant.stands)
