use Rattle.std.proofs.Common.{drop, map}
use Rattle.store_file.specs.Facts.{fact_in}
use Rattle.store_file.specs.Stored.{series_of}
use Rattle.store_file.proofs.FactLaws.{FactsLeft}
use Rattle.store_file.proofs.store.Store.facts.Given as goal

-- the facts that are told and those that are left give the whole
abbrev pub invariant-loop-i : goal.invariant-loop-i
invariant-loop-i l = FactsLeft l.self-inside.arena.nodes (drop l.i l.self-inside.series.entries) l.facts.items (map fact_in (series_of l.self-inside.arena.nodes l.self-inside.series.entries))
