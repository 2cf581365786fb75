use Rattle.std.proofs.Common.{◌≤◌, ap, sym, subst, ◌∙◌}
use Rattle.descent.specs.Cells.{cells_in, offset_of}
use Rattle.descent.proofs.CellLaws.{cell-at, cell-within}
use Rattle.descent.proofs.cells.Cells.cell_at.Goals as goal

pub returns-clause-offset : goal.returns-clause-offset
returns-clause-offset c =
    ap (offset_of c.args.self.now) c.first_from.ensures
    ∙ cell-at c.args.self.now c.args.offset c.requires.cells c.requires.within c.requires.aligned

pub returns-clause-within : goal.returns-clause-within
returns-clause-within c =
    subst (λ k. k ≤ cells_in c.args.self.now) (sym c.first_from.ensures)
    (cell-within c.args.self.now c.args.offset c.requires.cells c.requires.within)
