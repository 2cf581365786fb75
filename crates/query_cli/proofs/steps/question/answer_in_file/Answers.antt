use Rattle.std.proofs.Common.{length, subst, sym}
use Rattle.std.proofs.lemmas.Result.{err_from_is_err_and}
use Rattle.descent.specs.Spent.{HasSpent, roots_in}
use Rattle.expr.specs.Facts.{facts_of}
use Rattle.expr.specs.Terms.{query_term_of}
use Rattle.semantics.specs.Plain.{plain}
use Rattle.query_cli.specs.Parted.{HandsOver, IsAnsweredOver}
use Rattle.query_cli.proofs.PartLaws.{Found, answered_over, bad_moved, bad_nodes, hands_over, not_admitted, opened_for, tells_for}
use Rattle.query_cli.proofs.steps.question.answer_in_file.Goals as goal

pub returns-in_err-store-clause-refused : goal.returns-in_err-store-clause-refused
returns-in_err-store-clause-refused g c =
    let p = err_from_is_err_and c.from_residual.result c.from_residual.ensures.1 in
    rw (p.1, p.2)
    (opened_for (g.S.Shelf.files c.args.shelf.now) c.args.file.now (query_term_of c.args.query) c.in_err-store.field-0.0
    c.in_err-store.ensures.refused)

pub returns-in_err-plain-clause-refused : goal.returns-in_err-plain-clause-refused
returns-in_err-plain-clause-refused g c =
    let p = err_from_is_err_and c.from_residual-in_err-plain.result c.from_residual-in_err-plain.ensures.1 in
    let refused = rw c.deref.ensures.value at c.in_err-plain.ensures.refused in
    rw (p.1, p.2)
    (not_admitted (g.S.Shelf.files c.args.shelf.now) c.args.file.now (query_term_of c.args.query)
    (facts_of c.in_ok-store.store.facts.items) c.in_err-plain.field-0.0 c.in_ok-store.ensures.header
    (λ k m e there is. (c.in_ok-store.ensures.told k m e there is).facts_are) refused)

pub returns-in_err-answer-clause-refused : goal.returns-in_err-answer-clause-refused
returns-in_err-answer-clause-refused g c =
    let p = err_from_is_err_and c.from_residual-in_err-answer.result c.from_residual-in_err-answer.ensures.1 in
    let files = g.S.Shelf.files c.args.shelf.now in
    let nodes = c.in_ok-store.store.nodes in
    rw (p.1, p.2)
    (opened_for files c.args.file.now (query_term_of c.args.query) c.in_err-answer.field-0.0
    (bad_nodes files c.args.file.now nodes c.in_err-answer.field-0.0 c.in_ok-store.ensures.header
    (λ k m e there is. (c.in_ok-store.ensures.told k m e there is).means)
    (bad_moved files (g.S.Shelf.files c.open_store.new.shelf) nodes c.in_err-answer.field-0.0
    c.open_store.ensures.shelf.files_stay c.in_err-answer.ensures.bad)))

pub returns-clause-ok : goal.returns-clause-ok
returns-clause-ok g c =
    let files = g.S.Shelf.files c.args.shelf.now in
    let q = query_term_of c.args.query in
    let store = c.in_ok-store.store in
    let names = store.names.items in
    let facts = facts_of store.facts.items in
    let answer = c.in_ok-answer.answer in
    let told = tells_for files (g.S.Shelf.files c.open_store.new.shelf) store.nodes names
    (query_term_of c.in_ok-plain.plain) (plain q) c.args.budget answer c.open_store.ensures.shelf.files_stay
    c.in_ok-plain.ensures.query c.in_ok-answer.ensures.told in
    let found : Found files c.args.file.now q store.nodes names facts c.args.budget answer = record {
      header = c.in_ok-store.ensures.header;
      told = c.in_ok-store.ensures.told;
      admitted = rw c.deref.ensures.value at c.in_ok-plain.ensures.ok;
      tells = told;
    } in
    subst (λ ns. IsAnsweredOver files c.args.file.now q c.args.budget ns answer) (sym c.descent_over.ensures.names)
    (answered_over files c.args.file.now q store.nodes names facts c.args.budget answer found)

pub returns-clause-handed : goal.returns-clause-handed
returns-clause-handed g c =
    let files = g.S.Shelf.files c.args.shelf.now in
    let q = query_term_of c.args.query in
    let store = c.in_ok-store.store in
    let names = store.names.items in
    let facts = facts_of store.facts.items in
    let answer = c.in_ok-answer.answer in
    let before = g.S.Shelf.handed c.args.shelf.now in
    let between = g.S.Shelf.handed c.open_store.new.shelf in
    let after = g.S.Shelf.handed c.descent_over.new.shelf in
    let told = tells_for files (g.S.Shelf.files c.open_store.new.shelf) store.nodes names
    (query_term_of c.in_ok-plain.plain) (plain q) c.args.budget answer c.open_store.ensures.shelf.files_stay
    c.in_ok-plain.ensures.query c.in_ok-answer.ensures.told in
    let found : Found files c.args.file.now q store.nodes names facts c.args.budget answer = record {
      header = c.in_ok-store.ensures.header;
      told = c.in_ok-store.ensures.told;
      admitted = rw c.deref.ensures.value at c.in_ok-plain.ensures.ok;
      tells = told;
    } in
    let spent = subst (λ t. HasSpent (roots_in t store.nodes.lengths 0 names) (length answer.cut) answer.opened
    between after) c.in_ok-plain.ensures.query c.in_ok-answer.ensures.handed in
    subst (λ ns. HandsOver files c.args.file.now q c.args.budget ns answer before after)
    (sym c.descent_over.ensures.names)
    (hands_over files c.args.file.now q store.nodes names facts c.args.budget answer before between after found
    c.in_ok-store.ensures.handed spent)
