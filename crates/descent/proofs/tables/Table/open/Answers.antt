use Rattle.std.proofs.Common.{◌/◌, Some, List, map, sym, subst, ap, ap₂, ◌∙◌, arith}
use Rattle.std.proofs.lemmas.List.{length-set}
use Rattle.descent.specs.Held.{Held, row_in}
use Rattle.descent.specs.Rows.{Track, with_rows}
use Rattle.descent.specs.Sound.{IsSoundTrack}
use Rattle.descent.specs.Laid.{held, present}
use Rattle.descent.proofs.Owners.{owned-opened}
use Rattle.descent.proofs.Places.{AreRows, put-rows}
use Rattle.descent.proofs.SoundSteps.{opened-sound, read-from, same-start}
use Rattle.descent.proofs.tables.Table.open.Goals as goal

pub put_one-requires : goal.put_one-requires
put_one-requires g c =
    let v = ap (λ (t : Track (Held g.row.I.Denot)). t.rows) c.self.view_is in
    let a : AreRows c.self.inside.places c.args.self.now.rows = record { laid = c.self.invariant.laid; view = v } in
    (put-rows c.self.inside.places c.args.self.now.rows c.args.row a c.requires.opened).1

pub invariant_of-self : goal.invariant_of-self
invariant_of-self g c =
    let v = ap (λ (t : Track (Held g.row.I.Denot)). t.rows) c.self.view_is in
    let a : AreRows c.self.inside.places c.args.self.now.rows = record { laid = c.self.invariant.laid; view = v } in
    let e = c.put_one.ensures in
    let p = (put-rows c.self.inside.places c.args.self.now.rows c.args.row a c.requires.opened).0 in
    let n = length-set c.self.inside.places (c.args.row.seg.start / 16) (Some c.args.row) in
    let track = c.args.self.now in
    let before = held c.requires.opened.before in
    let sound = subst (λ (t : Track (Held g.row.I.Denot)). IsSoundTrack (with_rows row_in t)) c.self.view_is c.self.invariant.sound in
    let read = read-from track.greatest c.args.row.seg.len c.args.row.readings c.requires.small in
    let after = opened-sound track (held c.args.row) before sound c.requires.opened.there c.requires.opened.same read (λ h m s. same-start c.self.inside.places track.rows h before a m c.requires.opened.there s) in
    let view = ap₂ (λ (t : Track (Held g.row.I.Denot)) (rs : List (Held g.row.I.Denot)). let u : Track (Held g.row.I.Denot) = record t { rows = rs } in u) c.self.view_is (ap (λ xs. map held (present xs)) c.put_one.ensures ∙ p.view) in
    record {
      laid = rw e p.laid;
      few = rw e (omega (arith, c.self.invariant.few, n));
      owned = rw e (owned-opened c.self.inside.places c.self.inside.owners.items c.args.self.now.rows c.args.row a c.self.invariant.owned c.requires.opened (put-rows c.self.inside.places c.args.self.now.rows c.args.row a c.requires.opened).1);
      sound = subst (λ (t : Track (Held g.row.I.Denot)). IsSoundTrack (with_rows row_in t)) (sym view) after;
    }

pub returns : goal.returns
returns g c =
    let v = ap (λ (t : Track (Held g.row.I.Denot)). t.rows) c.self.view_is in
    let a : AreRows c.self.inside.places c.args.self.now.rows = record { laid = c.self.invariant.laid; view = v } in
    ap₂ (λ (t : Track (Held g.row.I.Denot)) (rs : List (Held g.row.I.Denot)). record t { rows = rs }) c.self.view_is
    (ap (λ xs. map held (present xs)) c.put_one.ensures ∙ (put-rows c.self.inside.places c.args.self.now.rows c.args.row a c.requires.opened).0.view)
