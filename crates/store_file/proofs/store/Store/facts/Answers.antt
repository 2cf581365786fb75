use Rattle.std.proofs.Common.{◌++◌, map, refl, ap, arith}
use Rattle.expr.specs.Facts.{facts_of}
use Rattle.store_file.specs.Facts.{fact_in}
use Rattle.store_file.specs.Stored.{series_of}
use Rattle.store_file.proofs.FactLaws.{facts-first, facts-step, facts-end, view-facts, view-small}
use Rattle.store_file.proofs.store.Store.facts.Goals as goal

pub loop-i-init : goal.loop-i-init
loop-i-init c =
    record {
      rest = ap (λ fs. facts_of fs ++ map fact_in (series_of c.self.inside.arena.nodes c.self.inside.series.entries)) c.new-facts.ensures.items;
      are = c.self.invariant.trees;
    }

pub greatest_in-requires : goal.greatest_in-requires
greatest_in-requires c = facts-first c.self.inside.arena.nodes c.loop-i.i c.self.inside.series.entries (c.entry_at-name.result.0, c.entry_at-name.result.1) c.loop-i.facts.items _ c.entry_at-name.ensures c.loop-i.invariant

pub loop-i-preserved : goal.loop-i-preserved
loop-i-preserved c =
    facts-step c.self.inside.arena.nodes c.loop-i.i c.self.inside.series.entries (c.entry_at-name.result.0, c.entry_at-name.result.1) _ c.loop-i.facts.items _ _ c.entry_at-name.ensures c.loop-i.invariant
    (record { name = refl; count = refl; greatest = c.greatest_in.ensures }) c.in_ok-push.ensures.items

pub returns-clause-facts : goal.returns-clause-facts
returns-clause-facts c =
    view-facts _ c.args.self.now c.loop-i.facts.items c.self.view_is (facts-end c.self.inside.arena.nodes c.loop-i.i c.self.inside.series.entries c.loop-i.facts.items _ (omega (arith, c.len-i-end.ensures.len, c.loop-i-test.false)) c.loop-i.invariant)

pub returns-clause-limits : goal.returns-clause-limits
returns-clause-limits c =
    view-small _ c.args.self.now c.loop-i.facts.items c.self.view_is c.self.invariant (facts-end c.self.inside.arena.nodes c.loop-i.i c.self.inside.series.entries c.loop-i.facts.items _ (omega (arith, c.len-i-end.ensures.len, c.loop-i-test.false)) c.loop-i.invariant)
