use Rattle.sessions.proofs.AloneLaw.{each_alone, replies_follow}
use Rattle.sessions.proofs.laws.sessions_are_alone.Goals as goal

pub returns-clause-alone : goal.returns-clause-alone
returns-clause-alone c = each_alone

pub returns-clause-follow : goal.returns-clause-follow
returns-clause-follow c = replies_follow
