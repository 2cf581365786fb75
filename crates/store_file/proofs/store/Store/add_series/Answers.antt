use Rattle.store_file.specs.Stored.{StoreParts}
use Rattle.store_file.proofs.AddedLaws.{inserted, sound-added, value-added}
use Rattle.store_file.proofs.store.Store.add_series.Goals as goal

pub invariant_of-self-2 : goal.invariant_of-self-2
invariant_of-self-2 c =
    let before : StoreParts = record { scale = c.self.inside.scale; degree = c.self.inside.degree; entries = c.self.inside.series.entries; arena = c.self.inside.arena } in
    let put = rw c.unwrap.ensures at c.insert.ensures.entries in
    let built = c.in_ok-tree.ensures in
    let added = inserted before c.args.self.now c.reserve.new.self c.insert.new.self.entries c.build.new.self c.args.name c.in_ok-tree.tree c.self.view_is c.in_default.ensures c.reserve.ensures.entries put built.degree built.extends built.tree in
    sound-added before c.args.self.now _ c.args.name c.in_ok-tree.tree c.self.view_is c.self.invariant c.bytes.ensures.name c.in_default.ensures added

pub returns-clause-added : goal.returns-clause-added
returns-clause-added c =
    let before : StoreParts = record { scale = c.self.inside.scale; degree = c.self.inside.degree; entries = c.self.inside.series.entries; arena = c.self.inside.arena } in
    let put = rw c.unwrap.ensures at c.insert.ensures.entries in
    let built = c.in_ok-tree.ensures in
    let added = inserted before c.args.self.now c.reserve.new.self c.insert.new.self.entries c.build.new.self c.args.name c.in_ok-tree.tree c.self.view_is c.in_default.ensures c.reserve.ensures.entries put built.degree built.extends built.tree in
    value-added before c.args.self.now _ c.args.name c.args.xs.now c.in_ok-tree.tree c.self.view_is c.self.invariant added built.fitted
