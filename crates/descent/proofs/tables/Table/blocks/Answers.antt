use Rattle.std.proofs.Common.{ap, sym, subst, refl}
use Rattle.descent.specs.Held.{Held, row_in}
use Rattle.descent.specs.Rows.{Track, with_rows}
use Rattle.descent.specs.Sound.{IsSoundTrack}
use Rattle.descent.proofs.Places.{AreRows, found-at}
use Rattle.descent.proofs.tables.Table.blocks.Goals as goal

pub returns-clause-sound : goal.returns-clause-sound
returns-clause-sound g c = subst (λ (t : Track (Held g.row.I.Denot)). IsSoundTrack (with_rows row_in t)) c.self.view_is c.self.invariant.sound

pub returns-clause-borders : goal.returns-clause-borders
returns-clause-borders g c =
    let v = ap (λ (t : Track (Held g.row.I.Denot)). t.rows) c.self.view_is in
    let xs = c.self.inside.places in
    let a : AreRows xs c.args.self.now.rows = record { laid = c.self.invariant.laid; view = v } in
    λ h t. sym (found-at h.row.seg.start xs c.args.self.now.rows h a t refl).exact
