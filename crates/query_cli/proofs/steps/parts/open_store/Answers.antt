use Rattle.std.proofs.Common.{◌∙◌, ap, arith, length}
use Rattle.std.proofs.lemmas.Result.{err_from_is_err_and}
use Rattle.descent.specs.Known.{node_facts}
use Rattle.expr.specs.Facts.{facts_of}
use Rattle.query_cli.proofs.PartLaws.{bad_moved, bad_nodes, header_moved, means_moved, told_of}
use Rattle.query_cli.proofs.steps.parts.open_store.Goals as goal

pub returns-in_err-facts-clause-refused : goal.returns-in_err-facts-clause-refused
returns-in_err-facts-clause-refused g c =
    let p = err_from_is_err_and c.from_residual-in_err-facts.result c.from_residual-in_err-facts.ensures.1 in
    let files = g.S.Shelf.files c.args.shelf.now in
    let found = c.find_store.ensures.shelf.files_stay in
    let nodes = c.in_ok-nodes.nodes in
    rw (p.1, p.2)
    (bad_nodes files c.args.file.now nodes c.in_err-facts.field-0.0
    (header_moved files (g.S.Shelf.files c.find_store.new.shelf) c.args.file.now found c.in_ok-nodes.ensures.header)
    (means_moved files (g.S.Shelf.files c.find_store.new.shelf) c.args.file.now nodes found c.in_ok-nodes.ensures.means)
    (bad_moved files (g.S.Shelf.files c.open_nodes.new.shelf) nodes c.in_err-facts.field-0.0
    (c.open_nodes.ensures.shelf.files_stay ∙ found) c.in_err-facts.ensures.bad))

pub returns-clause-told : goal.returns-clause-told
returns-clause-told g c =
    let files = g.S.Shelf.files c.args.shelf.now in
    let found = c.find_store.ensures.shelf.files_stay in
    let opened = c.open_nodes.ensures.shelf.files_stay ∙ found in
    let names = c.in_ok-names.names.items in
    let nodes = c.read_facts.new.nodes in
    told_of files (g.S.Shelf.files c.open_nodes.new.shelf) (g.S.Shelf.files c.read_facts.new.shelf) c.args.file.now
    c.in_ok-nodes.nodes nodes names (facts_of c.in_ok-facts.facts.items) opened
    (c.read_facts.ensures.shelf.files_stay ∙ opened) c.in_ok-nodes.ensures.file
    (means_moved files (g.S.Shelf.files c.find_store.new.shelf) c.args.file.now c.in_ok-nodes.nodes found
    c.in_ok-nodes.ensures.means)
    c.read_facts.ensures.means c.read_facts.ensures.lengths c.in_ok-names.ensures
    (c.in_ok-facts.ensures.facts ∙ ap (λ ns. node_facts ns nodes.lengths nodes.roots) c.deref.ensures.value)
    (λ k lt. c.in_ok-facts.ensures.known k (omega (arith, lt, ap length c.deref.ensures.value)))
