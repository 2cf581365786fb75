use Rattle.std.proofs.Common.{◌≡◌, ◌/◌, ◌<◌, None, Some, get_or, refl, sym, ap, subst, ◌∙◌, arith, true, pos}
use Rattle.bounds.specs.Segments.{covers}
use Rattle.descent.specs.declared.tables.Row.{Row}
use Rattle.descent.specs.Choice.{Has}
use Rattle.descent.specs.Held.{Held, row_in}
use Rattle.descent.specs.Laid.{held, present}
use Rattle.descent.specs.Rows.{Track, with_rows}
use Rattle.descent.specs.Sound.{IsSoundTrack}
use Rattle.std.proofs.lemmas.List.{get_or_default}
use Rattle.descent.proofs.Owners.{row-over, get_or-any, some-within}
use Rattle.descent.proofs.Places.{AreRows, found-at, held-has}
use Rattle.descent.proofs.tables.Table.row_at.Goals as goal

pub index-owner-requires : goal.index-owner-requires
index-owner-requires g c =
    let xs = c.self.inside.places in
    let os = c.self.inside.owners.items in
    let len : c.self.inside.len ≡ c.args.self.now.len = ap (λ (t : Track (Held g.row.I.Denot)). t.len) c.self.view_is in
    let lt : c.args.position < c.self.inside.len = let q = c.requires in omega arith in
    let over = row-over xs os c.self.inside.len c.args.position c.self.invariant.laid c.self.invariant.owned c.self.invariant.sound.touch lt in
    omega (arith, over.within, c.self.inside.owners.ok)

pub item-requires : goal.item-requires
item-requires g c =
    let xs = c.self.inside.places in
    let os = c.self.inside.owners.items in
    let len : c.self.inside.len ≡ c.args.self.now.len = ap (λ (t : Track (Held g.row.I.Denot)). t.len) c.self.view_is in
    let lt : c.args.position < c.self.inside.len = let q = c.requires in omega arith in
    let over = row-over xs os c.self.inside.len c.args.position c.self.invariant.laid c.self.invariant.owned c.self.invariant.sound.touch lt in
    let o : c.index-owner.result.now ≡ get_or os (c.args.position / 16) 0 = c.index-owner.ensures ∙ sym (get_or-any os (c.args.position / 16) 0 c.index-owner.result.now over.within) in
    let found : get_or xs c.index-owner.result.now None ≡ Some over.row = ap (λ k. get_or xs k None) o ∙ over.there in
    some-within xs c.index-owner.result.now over.row found

pub unreachable-requires : goal.unreachable-requires
unreachable-requires g c =
    let xs = c.self.inside.places in
    let os = c.self.inside.owners.items in
    let len : c.self.inside.len ≡ c.args.self.now.len = ap (λ (t : Track (Held g.row.I.Denot)). t.len) c.self.view_is in
    let lt : c.args.position < c.self.inside.len = let q = c.requires in omega arith in
    let over = row-over xs os c.self.inside.len c.args.position c.self.invariant.laid c.self.invariant.owned c.self.invariant.sound.touch lt in
    let o : c.index-owner.result.now ≡ get_or os (c.args.position / 16) 0 = c.index-owner.ensures ∙ sym (get_or-any os (c.args.position / 16) 0 c.index-owner.result.now over.within) in
    let found : get_or xs c.index-owner.result.now None ≡ Some over.row = ap (λ k. get_or xs k None) o ∙ over.there in
    let e : c.item.result.now ≡ Some over.row = c.item.ensures ∙ get_or_default xs c.index-owner.result.now c.item.result.now None (some-within xs c.index-owner.result.now over.row found) ∙ found in
    let bad : None ≡ Some over.row = sym c.in_default.is ∙ e in
    cc

pub returns-clause-there : goal.returns-clause-there
returns-clause-there g c =
    let xs = c.self.inside.places in
    let os = c.self.inside.owners.items in
    let len : c.self.inside.len ≡ c.args.self.now.len = ap (λ (t : Track (Held g.row.I.Denot)). t.len) c.self.view_is in
    let lt : c.args.position < c.self.inside.len = let q = c.requires in omega arith in
    let over = row-over xs os c.self.inside.len c.args.position c.self.invariant.laid c.self.invariant.owned c.self.invariant.sound.touch lt in
    let o : c.index-owner.result.now ≡ get_or os (c.args.position / 16) 0 = c.index-owner.ensures ∙ sym (get_or-any os (c.args.position / 16) 0 c.index-owner.result.now over.within) in
    let found : get_or xs c.index-owner.result.now None ≡ Some over.row = ap (λ k. get_or xs k None) o ∙ over.there in
    let e : c.item.result.now ≡ Some over.row = c.item.ensures ∙ get_or_default xs c.index-owner.result.now c.item.result.now None (some-within xs c.index-owner.result.now over.row found) ∙ found in
    let both : Some c.in-Some.row ≡ Some over.row = sym c.in-Some.is ∙ e in
    let same : over.row ≡ c.in-Some.row = cc in
    subst (Has (held c.in-Some.row)) (ap (λ (t : Track (Held g.row.I.Denot)). t.rows) c.self.view_is)
    (held-has (present xs) c.in-Some.row (subst (λ (r : Row g.row.I.Denot). Has r (present xs)) same over.among))

pub returns-clause-covered : goal.returns-clause-covered
returns-clause-covered g c =
    let xs = c.self.inside.places in
    let os = c.self.inside.owners.items in
    let len : c.self.inside.len ≡ c.args.self.now.len = ap (λ (t : Track (Held g.row.I.Denot)). t.len) c.self.view_is in
    let lt : c.args.position < c.self.inside.len = let q = c.requires in omega arith in
    let over = row-over xs os c.self.inside.len c.args.position c.self.invariant.laid c.self.invariant.owned c.self.invariant.sound.touch lt in
    let o : c.index-owner.result.now ≡ get_or os (c.args.position / 16) 0 = c.index-owner.ensures ∙ sym (get_or-any os (c.args.position / 16) 0 c.index-owner.result.now over.within) in
    let found : get_or xs c.index-owner.result.now None ≡ Some over.row = ap (λ k. get_or xs k None) o ∙ over.there in
    let e : c.item.result.now ≡ Some over.row = c.item.ensures ∙ get_or_default xs c.index-owner.result.now c.item.result.now None (some-within xs c.index-owner.result.now over.row found) ∙ found in
    let both : Some c.in-Some.row ≡ Some over.row = sym c.in-Some.is ∙ e in
    let same : over.row ≡ c.in-Some.row = cc in
    subst (λ (r : Row g.row.I.Denot). covers r.seg (pos c.args.position) ≡ true) same over.covered

pub returns-clause-sound : goal.returns-clause-sound
returns-clause-sound g c = subst (λ (t : Track (Held g.row.I.Denot)). IsSoundTrack (with_rows row_in t)) c.self.view_is c.self.invariant.sound

pub returns-clause-borders : goal.returns-clause-borders
returns-clause-borders g c =
    let v = ap (λ (t : Track (Held g.row.I.Denot)). t.rows) c.self.view_is in
    let a : AreRows c.self.inside.places c.args.self.now.rows = record { laid = c.self.invariant.laid; view = v } in
    λ h t. sym (found-at h.row.seg.start c.self.inside.places c.args.self.now.rows h a t refl).exact
