use Rattle.semantics.proofs.PlainLaws.{IsPlain-plain, query_value-plain, IsWithinLimits-plain}
use Rattle.stats.proofs.expansion.plain_queries_stand_for_theirs.Goals as goal

pub returns : goal.returns
returns c = record {
  plain = IsPlain-plain;
  value = query_value-plain;
  limits = IsWithinLimits-plain;
}
