use Rattle.std.proofs.Common.{◌≡◌, ◌/◌, ◌+◌, refl, set, Some, List, map, sym, subst, ap, ap₂, ◌∙◌, arith}
use Rattle.std.proofs.lemmas.List.{length-set}
use Rattle.descent.specs.Held.{Held, row_in}
use Rattle.descent.specs.Rows.{Track, with_rows}
use Rattle.descent.specs.Sound.{IsSoundTrack}
use Rattle.descent.specs.Laid.{blocks, held, present}
use Rattle.descent.proofs.Owners.{owned-halves, row-fits, IsGiven}
use Rattle.descent.proofs.Places.{AreRows, found-at, split-rows}
use Rattle.descent.proofs.SoundSteps.{closed-sound, split-sound, same-start}
use Rattle.descent.proofs.tables.Table.split.Goals as goal

pub put_two-requires-clause-first : goal.put_two-requires-clause-first
put_two-requires-clause-first g c =
    let v = ap (λ (t : Track (Held g.row.I.Denot)). t.rows) c.self.view_is in
    let a : AreRows c.self.inside.places c.args.self.now.rows = record { laid = c.self.invariant.laid; view = v } in
    (split-rows c.self.inside.places c.args.self.now.rows c.args.left c.args.right a c.requires.halves).1

pub put_two-requires-clause-second : goal.put_two-requires-clause-second
put_two-requires-clause-second g c =
    let v = ap (λ (t : Track (Held g.row.I.Denot)). t.rows) c.self.view_is in
    let a : AreRows c.self.inside.places c.args.self.now.rows = record { laid = c.self.invariant.laid; view = v } in
    (split-rows c.self.inside.places c.args.self.now.rows c.args.left c.args.right a c.requires.halves).2

pub invariant_of-self : goal.invariant_of-self
invariant_of-self g c =
    let v = ap (λ (t : Track (Held g.row.I.Denot)). t.rows) c.self.view_is in
    let a : AreRows c.self.inside.places c.args.self.now.rows = record { laid = c.self.invariant.laid; view = v } in
    let e = c.put_two.ensures in
    let xs = c.self.inside.places in
    let p = (split-rows xs c.args.self.now.rows c.args.left c.args.right a c.requires.halves).0 in
    let first = c.args.left.seg.start / 16 in
    let n = length-set xs first (Some c.args.left) in
    let m = length-set (set xs first (Some c.args.left)) (first + c.args.left.seg.len / 16) (Some c.args.right) in
    let track = c.args.self.now in
    let is = c.requires.halves in
    let before = held is.before in
    let some = is.some in
    let full = is.full in
    let sound = subst (λ (t : Track (Held g.row.I.Denot)). IsSoundTrack (with_rows row_in t)) c.self.view_is c.self.invariant.sound in
    let left = closed-sound track.greatest c.args.left c.requires.left_closed (omega arith) c.requires.left_sane in
    let right = closed-sound track.greatest c.args.right c.requires.right_closed is.rest c.requires.right_sane in
    let after = split-sound track (held c.args.left) (held c.args.right) before sound left right is.starts is.next is.whole (λ h m s. same-start xs track.rows h before a m is.there s) in
    let view = ap₂ (λ (t : Track (Held g.row.I.Denot)) (rs : List (Held g.row.I.Denot)). let u : Track (Held g.row.I.Denot) = record t { rows = rs } in u) c.self.view_is (ap (λ ys. map held (present ys)) c.put_two.ensures ∙ p.view) in
    record {
      laid = rw e p.laid;
      few = rw e (omega (arith, c.self.invariant.few, n, m));
      owned =
          let given : IsGiven c.self.inside.owners.items c.give.new.owners.items (first + c.args.left.seg.len / 16) (first + c.args.left.seg.len / 16 + c.div_ceil.result) (c.args.right.seg.start / 16) =
          record { given = c.give.ensures.given; others = c.give.ensures.others; count = c.give.ensures.count } in
          let end : first + c.args.left.seg.len / 16 + c.div_ceil.result ≡ first + c.args.left.seg.len / 16 + blocks c.args.right.seg.len = omega (arith, c.div_ceil.ensures) in
          rw e (owned-halves xs c.self.inside.owners.items c.give.new.owners.items c.args.self.now.rows c.args.left c.args.right (first + c.args.left.seg.len / 16 + c.div_ceil.result) (c.args.right.seg.start / 16) a c.self.invariant.owned c.requires.halves end refl given);
      sound = subst (λ (t : Track (Held g.row.I.Denot)). IsSoundTrack (with_rows row_in t)) (sym view) after;
    }

pub returns : goal.returns
returns g c =
    let v = ap (λ (t : Track (Held g.row.I.Denot)). t.rows) c.self.view_is in
    let a : AreRows c.self.inside.places c.args.self.now.rows = record { laid = c.self.invariant.laid; view = v } in
    ap₂ (λ (t : Track (Held g.row.I.Denot)) (rs : List (Held g.row.I.Denot)). record t { rows = rs }) c.self.view_is
    (ap (λ xs. map held (present xs)) c.put_two.ensures ∙ (split-rows c.self.inside.places c.args.self.now.rows c.args.left c.args.right a c.requires.halves).0.view)

pub give-requires : goal.give-requires
give-requires g c =
    let v = ap (λ (t : Track (Held g.row.I.Denot)). t.rows) c.self.view_is in
    let xs = c.self.inside.places in
    let a : AreRows xs c.args.self.now.rows = record { laid = c.self.invariant.laid; view = v } in
    let is = c.requires.halves in
    let f = found-at c.args.left.seg.start xs c.args.self.now.rows (held is.before) a is.there (sym is.starts) in
    let fits = row-fits 0 0 (c.args.left.seg.start / 16) xs f.row c.self.invariant.laid f.found in
    let len : f.row.seg.len ≡ is.before.seg.len = ap (λ (k : Held g.row.I.Denot). k.row.seg.len) (sym f.same) in
    let full = is.full in
    let whole = is.whole in
    let count = c.self.invariant.owned.count in
    let up = c.div_ceil.ensures in
    omega arith
