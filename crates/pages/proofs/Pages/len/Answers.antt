use Rattle.std.proofs.Common.{sym}
use Rattle.std.specs.Prelude.{box_value}
use Rattle.pages.specs.Pages.{item_at}
use Rattle.pages.proofs.Laws.{view-length}
use Rattle.pages.proofs.Pages.len.Goals as goal

pub returns : goal.returns
returns g c =
    let p = c.self.inside in
    sym (view-length (item_at p.numbers.items p.items.items (box_value p.blank)) p.len c.args.self.now c.self.view_is)
