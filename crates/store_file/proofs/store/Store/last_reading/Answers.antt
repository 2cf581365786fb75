use Rattle.store_file.proofs.GrownLaws.{is-there}
use Rattle.store_file.proofs.LastLaws.{last-there, last-unknown}
use Rattle.store_file.proofs.store.Store.last_reading.Goals as goal

pub last_reading-requires : goal.last_reading-requires
last_reading-requires c = (is-there _ c.args.self.now c.args.name.now c.in-Some.stored.now c.self.view_is c.self.invariant c.in-Some.ensures.value).of_arena

pub returns-in_default-clause-value : goal.returns-in_default-clause-value
returns-in_default-clause-value c = last-unknown _ c.args.self.now c.args.name.now c.self.view_is c.in_default.ensures.value

pub returns-clause-value : goal.returns-clause-value
returns-clause-value c = last-there _ c.args.self.now c.args.name.now c.in-Some.stored.now _ c.self.view_is c.self.invariant c.in-Some.ensures.value c.last_reading.ensures.value
