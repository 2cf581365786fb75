use Rattle.std.proofs.Common.{◌≡◌, ◌/◌, ap, get_or, None, Some, ◌∙◌, sym, subst}
use Rattle.descent.specs.declared.tables.Row.{Row}
use Rattle.descent.specs.Held.{Held, row_in}
use Rattle.descent.specs.Rows.{Track, with_rows}
use Rattle.descent.specs.Sound.{IsSoundTrack}
use Rattle.descent.proofs.Places.{AreRows, some-from, none-from}
use Rattle.descent.proofs.tables.Table.row_from.Goals as goal

pub returns-in_default-clause-none : goal.returns-in_default-clause-none
returns-in_default-clause-none g c =
    let v = ap (λ (t : Track (Held g.row.I.Denot)). t.rows) c.self.view_is in
    let xs = c.self.inside.places in
    let a : AreRows xs c.args.self.now.rows = record { laid = c.self.invariant.laid; view = v } in
    let e : None ≡ get_or xs (c.args.start / 16) None = c.in_default.ensures in
    λ n h t s. none-from c.args.start xs c.args.self.now.rows h a (λ r f q. let bad : None ≡ Some r = e ∙ f in cc) t s

pub returns-then-row-start-clause-none : goal.returns-then-row-start-clause-none
returns-then-row-start-clause-none g c =
    let v = ap (λ (t : Track (Held g.row.I.Denot)). t.rows) c.self.view_is in
    let xs = c.self.inside.places in
    let a : AreRows xs c.args.self.now.rows = record { laid = c.self.invariant.laid; view = v } in
    let row = c.in-Some.row in
    let e : Some row ≡ get_or xs (c.args.start / 16) None = c.in-Some.ensures in
    λ n h t s. none-from c.args.start xs c.args.self.now.rows h a (λ r f q. let same : Some row ≡ Some r = e ∙ f in let one : row ≡ r = cc in c.if-row-start.true (ap (λ (k : Row g.row.I.Denot). k.seg.start) one ∙ q)) t s

pub returns-clause-some : goal.returns-clause-some
returns-clause-some g c =
    let v = ap (λ (t : Track (Held g.row.I.Denot)). t.rows) c.self.view_is in
    let xs = c.self.inside.places in
    let a : AreRows xs c.args.self.now.rows = record { laid = c.self.invariant.laid; view = v } in
    let row = c.in-Some.row in
    let e : Some row ≡ get_or xs (c.args.start / 16) None = c.in-Some.ensures in
    some-from c.args.start xs c.args.self.now.rows row a (sym e) c.if-row-start.false

pub returns-clause-sound : goal.returns-clause-sound
returns-clause-sound g c = subst (λ (t : Track (Held g.row.I.Denot)). IsSoundTrack (with_rows row_in t)) c.self.view_is c.self.invariant.sound

pub returns-in_default-clause-sound : goal.returns-in_default-clause-sound
returns-in_default-clause-sound g c = subst (λ (t : Track (Held g.row.I.Denot)). IsSoundTrack (with_rows row_in t)) c.self.view_is c.self.invariant.sound

pub returns-then-row-start-clause-sound : goal.returns-then-row-start-clause-sound
returns-then-row-start-clause-sound g c = subst (λ (t : Track (Held g.row.I.Denot)). IsSoundTrack (with_rows row_in t)) c.self.view_is c.self.invariant.sound
