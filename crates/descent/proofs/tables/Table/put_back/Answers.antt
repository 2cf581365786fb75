use Rattle.std.proofs.Common.{◌≡◌, ◌/◌, ◌+◌, ◌<◌, List, None, Some, length, set, get_or, map, sym, ap, ap₂, subst, ◌∙◌, arith}
use Rattle.std.proofs.lemmas.List.{length-set}
use Rattle.descent.specs.declared.tables.Row.{Row}
use Rattle.descent.specs.Held.{Held, row_in}
use Rattle.descent.specs.Rows.{Track, with_rows}
use Rattle.descent.specs.Sound.{IsSoundTrack}
use Rattle.descent.specs.Laid.{blocks, held, present, restored}
use Rattle.descent.proofs.Owners.{owned-back-one, owned-back-two, back-fits, IsGiven}
use Rattle.descent.proofs.Places.{AreRows}
use Rattle.descent.proofs.Backs.{goes-back}
use Rattle.descent.proofs.tables.Table.put_back.Goals as goal

pub unreachable-requires : goal.unreachable-requires
unreachable-requires g c =
    let v = ap (λ (t : Track (Held g.row.I.Denot)). t.rows) c.self.view_is in
    let xs = c.self.inside.places in
    let a : AreRows xs c.args.self.now.rows = record { laid = c.self.invariant.laid; view = v } in
    let b = goes-back xs c.args.self.now.rows c.args.row a c.requires.back in
    let e : None ≡ get_or xs (c.args.row.seg.start / 16) None = c.in_default.ensures in
    let bad : None ≡ Some b.left = e ∙ b.found in
    cc

pub invariant_of-self : goal.invariant_of-self
invariant_of-self g c =
    let v = ap (λ (t : Track (Held g.row.I.Denot)). t.rows) c.self.view_is in
    let xs = c.self.inside.places in
    let a : AreRows xs c.args.self.now.rows = record { laid = c.self.invariant.laid; view = v } in
    let b = goes-back xs c.args.self.now.rows c.args.row a c.requires.back in
    let i = c.args.row.seg.start / 16 in
    let e : Some c.in-Some.left ≡ get_or xs i None = c.in-Some.ensures in
    let both : Some c.in-Some.left ≡ Some b.left = e ∙ b.found in
    let same : b.left ≡ c.in-Some.left = cc in
    let one = b.one (ap (λ (r : Row g.row.I.Denot). r.seg.len) same ∙ c.if-left-row.true) in
    let n = length-set xs i (Some c.args.row) in
    let view = ap₂ (λ (t : Track (Held g.row.I.Denot)) (rs : List (Held g.row.I.Denot)). let u : Track (Held g.row.I.Denot) = record t { rows = rs } in u) c.self.view_is (ap (λ ys. map held (present ys)) c.put_one.ensures ∙ one.view) in
    record {
      laid = rw c.put_one.ensures one.laid;
      few = rw c.put_one.ensures (omega (arith, c.self.invariant.few, n));
      owned = rw c.put_one.ensures (owned-back-one xs c.self.inside.owners.items c.args.self.now.rows c.args.row c.in-Some.left a c.self.invariant.owned c.requires.back (sym e) b.within c.if-left-row.true);
      sound = subst (λ (t : Track (Held g.row.I.Denot)). IsSoundTrack (with_rows row_in t)) (sym view) c.requires.sound;
    }

pub returns-then-left-row : goal.returns-then-left-row
returns-then-left-row g c =
    let v = ap (λ (t : Track (Held g.row.I.Denot)). t.rows) c.self.view_is in
    let xs = c.self.inside.places in
    let a : AreRows xs c.args.self.now.rows = record { laid = c.self.invariant.laid; view = v } in
    let b = goes-back xs c.args.self.now.rows c.args.row a c.requires.back in
    let i = c.args.row.seg.start / 16 in
    let e : Some c.in-Some.left ≡ get_or xs i None = c.in-Some.ensures in
    let both : Some c.in-Some.left ≡ Some b.left = e ∙ b.found in
    let same : b.left ≡ c.in-Some.left = cc in
    let one = b.one (ap (λ (r : Row g.row.I.Denot). r.seg.len) same ∙ c.if-left-row.true) in
    ap₂ (λ (t : Track (Held g.row.I.Denot)) (rs : List (Held g.row.I.Denot)). record t { rows = rs }) c.self.view_is
    (ap (λ ys. map held (present ys)) c.put_one.ensures ∙ one.view)

pub join_two-requires-clause-second : goal.join_two-requires-clause-second
join_two-requires-clause-second g c =
    let v = ap (λ (t : Track (Held g.row.I.Denot)). t.rows) c.self.view_is in
    let xs = c.self.inside.places in
    let a : AreRows xs c.args.self.now.rows = record { laid = c.self.invariant.laid; view = v } in
    let b = goes-back xs c.args.self.now.rows c.args.row a c.requires.back in
    let i = c.args.row.seg.start / 16 in
    let e : Some c.in-Some.left ≡ get_or xs i None = c.in-Some.ensures in
    let both : Some c.in-Some.left ≡ Some b.left = e ∙ b.found in
    let same : b.left ≡ c.in-Some.left = cc in
    let len = ap (λ (r : Row g.row.I.Denot). r.seg.len) same in
    let two = b.two (λ q. c.if-left-row.false (sym len ∙ q)) in
    subst (λ (r : Row g.row.I.Denot). i + r.seg.len / 16 < length xs) same two.1

pub invariant_of-self-else-left-row : goal.invariant_of-self-else-left-row
invariant_of-self-else-left-row g c =
    let v = ap (λ (t : Track (Held g.row.I.Denot)). t.rows) c.self.view_is in
    let xs = c.self.inside.places in
    let a : AreRows xs c.args.self.now.rows = record { laid = c.self.invariant.laid; view = v } in
    let b = goes-back xs c.args.self.now.rows c.args.row a c.requires.back in
    let i = c.args.row.seg.start / 16 in
    let e : Some c.in-Some.left ≡ get_or xs i None = c.in-Some.ensures in
    let both : Some c.in-Some.left ≡ Some b.left = e ∙ b.found in
    let same : b.left ≡ c.in-Some.left = cc in
    let len = ap (λ (r : Row g.row.I.Denot). r.seg.len) same in
    let two = subst (λ (r : Row g.row.I.Denot). AreRows (set (set xs i (Some c.args.row)) (i + r.seg.len / 16) None) (restored (held c.args.row) c.args.self.now.rows)) same (b.two (λ q. c.if-left-row.false (sym len ∙ q))).0 in
    let n = length-set xs i (Some c.args.row) in
    let m = length-set (set xs i (Some c.args.row)) (i + c.in-Some.left.seg.len / 16) None in
    let view = ap₂ (λ (t : Track (Held g.row.I.Denot)) (rs : List (Held g.row.I.Denot)). let u : Track (Held g.row.I.Denot) = record t { rows = rs } in u) c.self.view_is (ap (λ ys. map held (present ys)) c.join_two.ensures ∙ two.view) in
    record {
      laid = rw c.join_two.ensures two.laid;
      few = rw c.join_two.ensures (omega (arith, c.self.invariant.few, n, m));
      owned =
          let given : IsGiven c.self.inside.owners.items c.give.new.owners.items (i + c.in-Some.left.seg.len / 16) (i + c.div_ceil.result) i =
          record { given = c.give.ensures.given; others = c.give.ensures.others; count = c.give.ensures.count } in
          let end : i + c.div_ceil.result ≡ i + blocks c.args.row.seg.len = omega (arith, c.div_ceil.ensures) in
          rw c.join_two.ensures (owned-back-two xs c.self.inside.owners.items c.give.new.owners.items c.args.self.now.rows c.args.row c.in-Some.left (i + c.div_ceil.result) a c.self.invariant.owned c.requires.back (sym e) c.if-left-row.false end given);
      sound = subst (λ (t : Track (Held g.row.I.Denot)). IsSoundTrack (with_rows row_in t)) (sym view) c.requires.sound;
    }

pub returns-else-left-row : goal.returns-else-left-row
returns-else-left-row g c =
    let v = ap (λ (t : Track (Held g.row.I.Denot)). t.rows) c.self.view_is in
    let xs = c.self.inside.places in
    let a : AreRows xs c.args.self.now.rows = record { laid = c.self.invariant.laid; view = v } in
    let b = goes-back xs c.args.self.now.rows c.args.row a c.requires.back in
    let i = c.args.row.seg.start / 16 in
    let e : Some c.in-Some.left ≡ get_or xs i None = c.in-Some.ensures in
    let both : Some c.in-Some.left ≡ Some b.left = e ∙ b.found in
    let same : b.left ≡ c.in-Some.left = cc in
    let len = ap (λ (r : Row g.row.I.Denot). r.seg.len) same in
    let two = subst (λ (r : Row g.row.I.Denot). AreRows (set (set xs i (Some c.args.row)) (i + r.seg.len / 16) None) (restored (held c.args.row) c.args.self.now.rows)) same (b.two (λ q. c.if-left-row.false (sym len ∙ q))).0 in
    ap₂ (λ (t : Track (Held g.row.I.Denot)) (rs : List (Held g.row.I.Denot)). record t { rows = rs }) c.self.view_is
    (ap (λ ys. map held (present ys)) c.join_two.ensures ∙ two.view)

pub give-requires : goal.give-requires
give-requires g c =
    let v = ap (λ (t : Track (Held g.row.I.Denot)). t.rows) c.self.view_is in
    let xs = c.self.inside.places in
    let a : AreRows xs c.args.self.now.rows = record { laid = c.self.invariant.laid; view = v } in
    let i = c.args.row.seg.start / 16 in
    let e : Some c.in-Some.left ≡ get_or xs i None = c.in-Some.ensures in
    let fits = back-fits xs c.args.self.now.rows c.args.row c.in-Some.left a c.requires.back (sym e) c.if-left-row.false in
    let count = c.self.invariant.owned.count in
    let up = c.div_ceil.ensures in
    omega arith
