use Rattle.std.proofs.Common.{inr}
use Rattle.store_file.specs.Stored.{StoreParts}
use Rattle.store_file.proofs.GrownLaws.{appended, append_refused, handed_on, is-there, sound-grown, unknown, value-grown}
use Rattle.store_file.proofs.store.Store.append_series.Goals as goal

pub returns-in_default-clause-refused : goal.returns-in_default-clause-refused
returns-in_default-clause-refused c = inr (unknown _ c.args.self.now c.args.name.now c.args.xs.now c.self.view_is c.in_default.ensures.value)

pub append-requires-clause-of_arena : goal.append-requires-clause-of_arena
append-requires-clause-of_arena c = (is-there _ c.args.self.now c.args.name.now c.in-Some.stored.now c.self.view_is c.self.invariant c.in-Some.ensures.value).of_arena

pub returns-in_err-tree-clause-refused : goal.returns-in_err-tree-clause-refused
returns-in_err-tree-clause-refused c =
    let own = c.in_err-tree.ensures in
    let here = is-there _ c.args.self.now c.args.name.now c.in-Some.stored.now c.self.view_is c.self.invariant c.in-Some.ensures.value in
    handed_on c.from_residual.result _ _ c.from_residual.ensures.1 (λ e is.
    rw is (append_refused _ c.args.self.now c.args.name.now c.in-Some.stored.now.tree c.args.xs.now c.in_err-tree.field-0.0 c.self.view_is here (record { too_long = own.too_long; full = own.full })))

pub invariant_of-self-2 : goal.invariant_of-self-2
invariant_of-self-2 c =
    let before : StoreParts = record { scale = c.self.inside.scale; degree = c.self.inside.degree; entries = c.self.inside.series.entries; arena = c.self.inside.arena } in
    let put = rw c.unwrap.ensures at c.insert.ensures.entries in
    let own = c.in_ok-tree.ensures in
    sound-grown before c.args.name.now c.in-Some.stored.now c.insert.new.self.entries c.append.new.self c.in_ok-tree.tree c.args.xs.now c.self.invariant c.in-Some.ensures.value put
    (record { tree = own.tree; value = own.grown; extends = own.extends; degree = own.degree })

pub returns-clause-grown : goal.returns-clause-grown
returns-clause-grown c =
    let before : StoreParts = record { scale = c.self.inside.scale; degree = c.self.inside.degree; entries = c.self.inside.series.entries; arena = c.self.inside.arena } in
    let put = rw c.unwrap.ensures at c.insert.ensures.entries in
    let own = c.in_ok-tree.ensures in
    value-grown before c.args.self.now c.args.name.now c.in-Some.stored.now c.insert.new.self.entries c.append.new.self c.in_ok-tree.tree c.args.xs.now c.self.view_is c.self.invariant c.in-Some.ensures.value put
    (record { tree = own.tree; value = own.grown; extends = own.extends; degree = own.degree })

pub returns-clause-growable : goal.returns-clause-growable
returns-clause-growable c =
    let own = c.in_ok-tree.ensures in
    let here = is-there _ c.args.self.now c.args.name.now c.in-Some.stored.now c.self.view_is c.self.invariant c.in-Some.ensures.value in
    (appended _ c.args.self.now c.args.name.now c.in-Some.stored.now.tree c.in_ok-tree.tree c.args.xs.now c.append.new.self.nodes c.self.view_is here c.requires
    (record { len = own.len; count = own.count; too_long = own.too_long; full = own.full })).growable

pub returns-clause-len : goal.returns-clause-len
returns-clause-len c =
    let own = c.in_ok-tree.ensures in
    let here = is-there _ c.args.self.now c.args.name.now c.in-Some.stored.now c.self.view_is c.self.invariant c.in-Some.ensures.value in
    (appended _ c.args.self.now c.args.name.now c.in-Some.stored.now.tree c.in_ok-tree.tree c.args.xs.now c.append.new.self.nodes c.self.view_is here c.requires
    (record { len = own.len; count = own.count; too_long = own.too_long; full = own.full })).len

pub returns-clause-ok : goal.returns-clause-ok
returns-clause-ok c =
    let own = c.in_ok-tree.ensures in
    let here = is-there _ c.args.self.now c.args.name.now c.in-Some.stored.now c.self.view_is c.self.invariant c.in-Some.ensures.value in
    (appended _ c.args.self.now c.args.name.now c.in-Some.stored.now.tree c.in_ok-tree.tree c.args.xs.now c.append.new.self.nodes c.self.view_is here c.requires
    (record { len = own.len; count = own.count; too_long = own.too_long; full = own.full })).ok

pub returns-clause-count : goal.returns-clause-count
returns-clause-count c =
    let own = c.in_ok-tree.ensures in
    let here = is-there _ c.args.self.now c.args.name.now c.in-Some.stored.now c.self.view_is c.self.invariant c.in-Some.ensures.value in
    (appended _ c.args.self.now c.args.name.now c.in-Some.stored.now.tree c.in_ok-tree.tree c.args.xs.now c.append.new.self.nodes c.self.view_is here c.requires
    (record { len = own.len; count = own.count; too_long = own.too_long; full = own.full })).count
