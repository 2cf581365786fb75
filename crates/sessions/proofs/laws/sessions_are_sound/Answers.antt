use Rattle.sessions.proofs.EndLaw.{each_ends}
use Rattle.sessions.proofs.HeldLaw.{each_holds, each_stays}
use Rattle.sessions.proofs.laws.sessions_are_sound.Goals as goal

pub returns-clause-holds : goal.returns-clause-holds
returns-clause-holds c = each_holds (record {
  holds = c.every_cut_holds_the_value.ensures;
  plain = c.plain_queries_stand_for_theirs.ensures.plain;
  grows = c.growing_keeps_stores.ensures;
})

pub returns-clause-stays : goal.returns-clause-stays
returns-clause-stays c = each_stays

pub returns-clause-ends : goal.returns-clause-ends
returns-clause-ends c = each_ends c.every_budget_is_met.ensures
