use Rattle.std.proofs.Common.{ap, subst, sym, ◌∙◌, ◌≡◌, Ok}
use Rattle.store_file.specs.Added.{with_series}
use Rattle.store_file.specs.Stored.{store_value}
use Rattle.query_cli.specs.Asked.{admitted_in}
use Rattle.query_cli.specs.Commands.Gen.{squares_of, sum_of}
use Rattle.query_cli.specs.Generated.{generated}
use Rattle.query_cli.proofs.CommandLaws.Gen.{squares_in, sum_in}
use Rattle.query_cli.proofs.commands.generate.Gen.written.Goals as goal

pub lines_of-requires-clause-sum : goal.lines_of-requires-clause-sum
lines_of-requires-clause-sum c =
    let m = store_value c.in_ok-store.store in
    let k = c.args.self.now in
    let is : store_value c.add.new.store ≡ with_series m k.name (generated k.seed k.count) =
    c.in_ok-add.ensures.added ∙ ap (with_series m k.name) (c.deref.ensures.value ∙ c.in_ok-xs.ensures.readings) in
    subst (λ n. admitted_in (sum_of k.name) n ≡ Ok (record { store = n; query = sum_of k.name })) (sym is)
    (sum_in m k.name k.seed k.count c.in_ok-add.ensures.addable.new k.few)

pub lines_of-requires-clause-squares : goal.lines_of-requires-clause-squares
lines_of-requires-clause-squares c =
    let m = store_value c.in_ok-store.store in
    let k = c.args.self.now in
    let is : store_value c.add.new.store ≡ with_series m k.name (generated k.seed k.count) =
    c.in_ok-add.ensures.added ∙ ap (with_series m k.name) (c.deref.ensures.value ∙ c.in_ok-xs.ensures.readings) in
    subst (λ n. admitted_in (squares_of k.name) n ≡ Ok (record { store = n; query = squares_of k.name })) (sym is)
    (squares_in m k.name k.seed k.count c.in_ok-add.ensures.addable.new k.few)
