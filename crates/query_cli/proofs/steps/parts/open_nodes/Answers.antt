use Rattle.std.proofs.Common.{Err, ap, subst}
use Rattle.lazy_tree.specs.Opened.{Means}
use Rattle.query_cli.specs.Asked.{forest_of}
use Rattle.query_cli.proofs.PartLaws.{header_there, no_header}
use Rattle.query_cli.proofs.steps.parts.open_nodes.Goals as goal

pub returns-in-Ok-clause-header : goal.returns-in-Ok-clause-header
returns-in-Ok-clause-header g c =
    header_there (g.S.Shelf.files c.args.shelf.now) c.args.file.now c.in-Ok.nodes c.requires c.in-Ok.ensures.header

pub returns-in-Ok-clause-means : goal.returns-in-Ok-clause-means
returns-in-Ok-clause-means g c = λ k m told there is.
    subst (λ f. Means c.in-Ok.nodes f (forest_of m)) c.in-Ok.ensures.files (c.in-Ok.ensures.means k m told there is)

pub returns-in-Err-NotAStore-clause-refused : goal.returns-in-Err-NotAStore-clause-refused
returns-in-Err-NotAStore-clause-refused g c =
    let h = c.in-Err-NotAStore in
    no_header (g.S.Shelf.files c.args.shelf.now) c.args.file.now h.field-0-0 c.refuse.result c.requires
    (h.ensures.refused h.field-0-0 (ap Err h.field-0-is)) c.refuse.ensures
