use Rattle.std.proofs.Common.{◌≡◌, ◌<◌, ◌≤◌, ◌+◌, ◌-◌, ◌*◌, ◌^◌, refl, sym, ap, subst, ◌∙◌, List, [], ◌∷◌, None, Some, inl, inr, ℕ, arith, rules, length, pow_pos, take}
use Rattle.std.specs.List.{All}
use Rattle.std.proofs.lemmas.List.Elements.{All-nil, All-cons}
use Rattle.segment.specs.declared.segments.Seg.{Seg}
use Rattle.segment.specs.Nodes.{Forest, Place, left_of, right_of, seg_at}
use Rattle.segment.proofs.ShapeLaws.{split_exists}
use Rattle.descent.specs.Rows.{Track}
use Rattle.descent.specs.Held.{Held, StandsFor, place_of, steps_in, IsTrackOf}
use Rattle.descent.specs.Laid.{held, replaced, restored, CanGoBack}
use Rattle.descent.specs.Stepped.{StepsTrack}
use Rattle.descent.specs.Spent.{opened_among}
use Rattle.descent.proofs.SpentLaws.{counts-replaced}
use Rattle.descent.proofs.Backs.{closed-there, opens-back, splits-back}
use Rattle.descent.proofs.SoundSteps.{some-len, are-small}
use Rattle.descent.proofs.Steps.{the-row, All-has, track-of, open-less, split-less, open-step, split-step, hands-out, place-is}
use Rattle.descent.proofs.cuts.expand_row.Goals as goal

pub unreachable-requires : goal.unreachable-requires
unreachable-requires g c = c.in_default.ensures.none refl c.requires.at.held c.requires.at.among c.requires.at.starts

pub readings-requires : goal.readings-requires
readings-requires g c =
    let track = c.args.table.now in
    let row = c.in-Some.row in
    let is = the-row track c.args.start row c.requires.at c.in-Some.ensures.some in
    let stands = g.N.Nodes.stands c.args.nodes.now c.args.source.now in
    (place_of track.series (held row).row, All-has (StandsFor stands track.series) track.rows (held row) c.requires.of.stand is.there, c.if-row-le16.true)

pub returns-in_err-readings-clause-handed : goal.returns-in_err-readings-clause-handed
returns-in_err-readings-clause-handed g c =
    let track = c.args.table.now in
    let row = c.in-Some.row in
    let is = the-row track c.args.start row c.requires.at c.in-Some.ensures.some in
    let stands = g.N.Nodes.stands c.args.nodes.now c.args.source.now in
    let s = All-has (StandsFor stands track.series) track.rows (held row) c.requires.of.stand is.there in
    hands-out (4 * row.seg.len) 112 (g.N.Nodes.handed c.args.source.now) (g.N.Nodes.handed c.readings.new.source) (let few = c.if-row-le16.true in omega arith) (c.readings.ensures.handed (place_of track.series (held row).row) s)

pub open-requires-clause-opened : goal.open-requires-clause-opened
open-requires-clause-opened g c =
    let is = the-row c.args.table.now c.args.start c.in-Some.row c.requires.at c.in-Some.ensures.some in
    record { before = c.in-Some.row; there = is.there; closed = is.closed; same = refl }

pub returns-then-row-le16-clause-step : goal.returns-then-row-le16-clause-step
returns-then-row-le16-clause-step g c =
    let track = c.args.table.now in
    let row = c.in-Some.row in
    let is = the-row track c.args.start row c.requires.at c.in-Some.ensures.some in
    let stands = g.N.Nodes.stands c.args.nodes.now c.args.source.now in
    let s = All-has (StandsFor stands track.series) track.rows (held row) c.requires.of.stand is.there in
    let p = place_of track.series (held row).row in
    λ forest means.
    let n = c.in_ok-readings.ensures.len p s in
    let read = subst (λ k. Rattle.std.proofs.Common.take k c.readings.new.into ≡ Rattle.segment.specs.Nodes.readings_at forest p) n (c.in_ok-readings.ensures.readings p forest s means) in
    let step = open-step (g.N.Nodes.lengths c.args.nodes.now) forest track c.args.start row (record row { readings = Some c.readings.new.into }) c.readings.new.into (g.met.N.Nodes.fits c.args.nodes.now c.args.source.now forest means) is c.if-row-le16.true refl refl read in
    subst (λ t. StepsTrack forest c.args.start track t) (sym (c.open.ensures ∙ ap (λ k. record track { rows = replaced k (held (record row { readings = Some c.readings.new.into }) ∷ []) track.rows }) is.starts)) step

pub returns-then-row-le16-clause-of : goal.returns-then-row-le16-clause-of
returns-then-row-le16-clause-of g c =
    let track = c.args.table.now in
    let row = c.in-Some.row in
    let is = the-row track c.args.start row c.requires.at c.in-Some.ensures.some in
    let stands = g.N.Nodes.stands c.args.nodes.now c.args.source.now in
    let after = g.N.Nodes.stands c.readings.new.self c.readings.new.source in
    let p = place_of track.series (held row).row in
    let s = All-has (StandsFor stands track.series) track.rows (held row) c.requires.of.stand is.there in
    let new : Held g.row.N-Id.Denot = held (record row { readings = Some c.readings.new.into }) in
    let stand : All (StandsFor after track.series) (new ∷ []) = All-cons (StandsFor after track.series) new [] (c.readings.ensures.ids row.id p s) (All-nil (StandsFor after track.series)) in
    subst (IsTrackOf (g.N.Nodes.lengths c.readings.new.self) (g.N.Nodes.roots c.readings.new.self) after) (sym c.open.ensures)
    (track-of (g.N.Nodes.lengths c.args.nodes.now) (g.N.Nodes.lengths c.readings.new.self) (g.N.Nodes.roots c.args.nodes.now) (g.N.Nodes.roots c.readings.new.self) stands after track row.seg.start (new ∷ [])
    c.requires.of c.readings.ensures.lengths c.readings.ensures.roots c.readings.ensures.ids stand)

pub returns-then-row-le16-clause-less : goal.returns-then-row-le16-clause-less
returns-then-row-le16-clause-less g c =
    let track = c.args.table.now in
    let row = c.in-Some.row in
    let is = the-row track c.args.start row c.requires.at c.in-Some.ensures.some in
    let new : Held g.row.N-Id.Denot = held (record row { readings = Some c.readings.new.into }) in
    let less = open-less track c.args.start row new (take row.seg.len c.readings.new.into) is refl in
    subst (λ (t : Track (Held g.row.N-Id.Denot)). steps_in t.rows < steps_in track.rows) (sym (c.open.ensures ∙ ap (λ k. record track { rows = replaced k (new ∷ []) track.rows }) is.starts)) less

pub returns-then-row-le16-clause-handed : goal.returns-then-row-le16-clause-handed
returns-then-row-le16-clause-handed g c =
    let track = c.args.table.now in
    let row = c.in-Some.row in
    let is = the-row track c.args.start row c.requires.at c.in-Some.ensures.some in
    let stands = g.N.Nodes.stands c.args.nodes.now c.args.source.now in
    let s = All-has (StandsFor stands track.series) track.rows (held row) c.requires.of.stand is.there in
    hands-out (4 * row.seg.len) 112 (g.N.Nodes.handed c.args.source.now) (g.N.Nodes.handed c.readings.new.source) (let few = c.if-row-le16.true in omega arith) (c.readings.ensures.handed (place_of track.series (held row).row) s)

pub returns-then-row-le16-clause-back : goal.returns-then-row-le16-clause-back
returns-then-row-le16-clause-back g c =
    let track = c.args.table.now in
    let row = c.in-Some.row in
    let found = c.in-Some.ensures.some in
    let is = the-row track c.args.start row c.requires.at found in
    let new : Held g.row.N-Id.Denot = held (record row { readings = Some c.readings.new.into }) in
    let left = opens-back track.rows c.args.start row new is.there is.starts is.closed found.alone refl (take row.seg.len c.readings.new.into) refl in
    subst (λ (t : Track (Held g.row.N-Id.Denot)). CanGoBack row t.rows) (sym (c.open.ensures ∙ ap (λ k. record track { rows = replaced k (new ∷ []) track.rows }) is.starts)) left.can

pub returns-then-row-le16-clause-restored : goal.returns-then-row-le16-clause-restored
returns-then-row-le16-clause-restored g c =
    let track = c.args.table.now in
    let row = c.in-Some.row in
    let found = c.in-Some.ensures.some in
    let is = the-row track c.args.start row c.requires.at found in
    let new : Held g.row.N-Id.Denot = held (record row { readings = Some c.readings.new.into }) in
    let left = opens-back track.rows c.args.start row new is.there is.starts is.closed found.alone refl (take row.seg.len c.readings.new.into) refl in
    subst (λ (t : Track (Held g.row.N-Id.Denot)). restored (held row) t.rows ≡ track.rows) (sym (c.open.ensures ∙ ap (λ k. record track { rows = replaced k (new ∷ []) track.rows }) is.starts)) left.restored

pub children-requires : goal.children-requires
children-requires g c =
    let track = c.args.table.now in
    let row = c.in-Some.row in
    let is = the-row track c.args.start row c.requires.at c.in-Some.ensures.some in
    let stands = g.N.Nodes.stands c.args.nodes.now c.args.source.now in
    (place_of track.series (held row).row, All-has (StandsFor stands track.series) track.rows (held row) c.requires.of.stand is.there, c.if-row-le16.false)

pub split-requires-clause-halves : goal.split-requires-clause-halves
split-requires-clause-halves g c =
    let track = c.args.table.now in
    let row = c.in-Some.row in
    let is = the-row track c.args.start row c.requires.at c.in-Some.ensures.some in
    let stands = g.N.Nodes.stands c.args.nodes.now c.args.source.now in
    let p = place_of track.series (held row).row in
    let st = All-has (StandsFor stands track.series) track.rows (held row) c.requires.of.stand is.there in
    let s = split_exists row.seg.len c.if-row-le16.false in
    let kids = c.in_ok-children in
    let l = c.closed-left.result in
    let r = c.closed-right.result in
    let ls : l.seg ≡ kids.children.left_seg = ap (λ k. k.seg) c.closed-left.ensures in
    let rs : r.seg ≡ kids.children.right_seg = ap (λ k. k.seg) c.closed-right.ensures in
    let half : (level : ℕ) × (s.0 ≡ 16 * 2 ^ level) = s.1.power in
    let some : 0 < 2 ^ half.0 = pow_pos half.0 in
    let starts : l.seg.start ≡ row.seg.start = ap (λ (g : Seg). g.start) ls ∙ kids.ensures.left_starts p s.0 st s.1 in
    let full : l.seg.len ≡ 16 * 2 ^ half.0 = ap (λ (g : Seg). g.len) ls ∙ kids.ensures.left_spans p s.0 st s.1 ∙ half.1 in
    let next : r.seg.start ≡ row.seg.start + s.0 = ap (λ (g : Seg). g.start) rs ∙ kids.ensures.right_starts p s.0 st s.1 in
    let span : r.seg.len ≡ row.seg.len - s.0 = ap (λ (g : Seg). g.len) rs ∙ kids.ensures.right_spans p s.0 st s.1 in
    let below = s.1.below in
    let e = half.1 in
    record { before = row; there = is.there; closed = is.closed; starts = starts; half = 2 ^ half.0; some = some; full = full; next = omega arith; rest = omega arith; whole = omega arith }

pub returns-clause-step : goal.returns-clause-step
returns-clause-step g c =
    let track = c.args.table.now in
    let row = c.in-Some.row in
    let is = the-row track c.args.start row c.requires.at c.in-Some.ensures.some in
    let stands = g.N.Nodes.stands c.args.nodes.now c.args.source.now in
    let p = place_of track.series (held row).row in
    let st = All-has (StandsFor stands track.series) track.rows (held row) c.requires.of.stand is.there in
    let s = split_exists row.seg.len c.if-row-le16.false in
    let kids = c.in_ok-children in
    let l = c.closed-left.result in
    let r = c.closed-right.result in
    let ls : l.seg ≡ kids.children.left_seg = ap (λ k. k.seg) c.closed-left.ensures in
    let rs : r.seg ≡ kids.children.right_seg = ap (λ k. k.seg) c.closed-right.ensures in
    let half : (level : ℕ) × (s.0 ≡ 16 * 2 ^ level) = s.1.power in
    let some : 0 < 2 ^ half.0 = pow_pos half.0 in
    let starts : l.seg.start ≡ row.seg.start = ap (λ (g : Seg). g.start) ls ∙ kids.ensures.left_starts p s.0 st s.1 in
    let full : l.seg.len ≡ 16 * 2 ^ half.0 = ap (λ (g : Seg). g.len) ls ∙ kids.ensures.left_spans p s.0 st s.1 ∙ half.1 in
    let next : r.seg.start ≡ row.seg.start + s.0 = ap (λ (g : Seg). g.start) rs ∙ kids.ensures.right_starts p s.0 st s.1 in
    let span : r.seg.len ≡ row.seg.len - s.0 = ap (λ (g : Seg). g.len) rs ∙ kids.ensures.right_spans p s.0 st s.1 in
    let below = s.1.below in
    let e = half.1 in
    let lr : l.readings ≡ None = ap (λ k. k.readings) c.closed-left.ensures in
    let rr : r.readings ≡ None = ap (λ k. k.readings) c.closed-right.ensures in
    let at : l.seg.start ≡ c.args.start = starts ∙ is.starts in
    λ forest means.
    let fa : seg_at forest (left_of p s.0) ≡ Some l.seg = kids.ensures.left_seg p s.0 forest st s.1 means ∙ ap Some (sym ls) in
    let fb : seg_at forest (right_of p s.0) ≡ Some r.seg = kids.ensures.right_seg p s.0 forest st s.1 means ∙ ap Some (sym rs) in
    let step = split-step (g.N.Nodes.lengths c.args.nodes.now) forest track c.args.start s.0 row l r (g.met.N.Nodes.fits c.args.nodes.now c.args.source.now forest means) is s.1 lr rr fa fb in
    subst (λ t. StepsTrack forest c.args.start track t) (sym (c.split.ensures ∙ ap (λ k. record track { rows = replaced k (held l ∷ held r ∷ []) track.rows }) at)) step

pub returns-clause-of : goal.returns-clause-of
returns-clause-of g c =
    let track = c.args.table.now in
    let row = c.in-Some.row in
    let is = the-row track c.args.start row c.requires.at c.in-Some.ensures.some in
    let stands = g.N.Nodes.stands c.args.nodes.now c.args.source.now in
    let p = place_of track.series (held row).row in
    let st = All-has (StandsFor stands track.series) track.rows (held row) c.requires.of.stand is.there in
    let s = split_exists row.seg.len c.if-row-le16.false in
    let kids = c.in_ok-children in
    let l = c.closed-left.result in
    let r = c.closed-right.result in
    let ls : l.seg ≡ kids.children.left_seg = ap (λ k. k.seg) c.closed-left.ensures in
    let rs : r.seg ≡ kids.children.right_seg = ap (λ k. k.seg) c.closed-right.ensures in
    let half : (level : ℕ) × (s.0 ≡ 16 * 2 ^ level) = s.1.power in
    let some : 0 < 2 ^ half.0 = pow_pos half.0 in
    let starts : l.seg.start ≡ row.seg.start = ap (λ (g : Seg). g.start) ls ∙ kids.ensures.left_starts p s.0 st s.1 in
    let full : l.seg.len ≡ 16 * 2 ^ half.0 = ap (λ (g : Seg). g.len) ls ∙ kids.ensures.left_spans p s.0 st s.1 ∙ half.1 in
    let next : r.seg.start ≡ row.seg.start + s.0 = ap (λ (g : Seg). g.start) rs ∙ kids.ensures.right_starts p s.0 st s.1 in
    let span : r.seg.len ≡ row.seg.len - s.0 = ap (λ (g : Seg). g.len) rs ∙ kids.ensures.right_spans p s.0 st s.1 in
    let below = s.1.below in
    let e = half.1 in
    let after = g.N.Nodes.stands c.children.new.self c.children.new.source in
    let li : l.id ≡ kids.children.left = ap (λ k. k.id) c.closed-left.ensures in
    let ri : r.id ≡ kids.children.right = ap (λ k. k.id) c.closed-right.ensures in
    let lp : place_of track.series (held l).row ≡ left_of p s.0 = place-is track.series l.seg (row.seg.start) s.0 starts (full ∙ sym half.1) in
    let rp : place_of track.series (held r).row ≡ right_of p s.0 = place-is track.series r.seg (row.seg.start + s.0) (row.seg.len - s.0) next span in
    let a : StandsFor after track.series (held l) = rw (li, lp) (kids.ensures.left p s.0 st s.1) in
    let b : StandsFor after track.series (held r) = rw (ri, rp) (kids.ensures.right p s.0 st s.1) in
    let stand : All (StandsFor after track.series) (held l ∷ held r ∷ []) = All-cons (StandsFor after track.series) (held l) (held r ∷ []) a (All-cons (StandsFor after track.series) (held r) [] b (All-nil (StandsFor after track.series))) in
    subst (IsTrackOf (g.N.Nodes.lengths c.children.new.self) (g.N.Nodes.roots c.children.new.self) after) (sym c.split.ensures)
    (track-of (g.N.Nodes.lengths c.args.nodes.now) (g.N.Nodes.lengths c.children.new.self) (g.N.Nodes.roots c.args.nodes.now) (g.N.Nodes.roots c.children.new.self) stands after track l.seg.start (held l ∷ held r ∷ [])
    c.requires.of c.children.ensures.lengths c.children.ensures.roots c.children.ensures.ids stand)

pub returns-clause-less : goal.returns-clause-less
returns-clause-less g c =
    let track = c.args.table.now in
    let row = c.in-Some.row in
    let is = the-row track c.args.start row c.requires.at c.in-Some.ensures.some in
    let stands = g.N.Nodes.stands c.args.nodes.now c.args.source.now in
    let p = place_of track.series (held row).row in
    let st = All-has (StandsFor stands track.series) track.rows (held row) c.requires.of.stand is.there in
    let s = split_exists row.seg.len c.if-row-le16.false in
    let kids = c.in_ok-children in
    let l = c.closed-left.result in
    let r = c.closed-right.result in
    let ls : l.seg ≡ kids.children.left_seg = ap (λ k. k.seg) c.closed-left.ensures in
    let rs : r.seg ≡ kids.children.right_seg = ap (λ k. k.seg) c.closed-right.ensures in
    let half : (level : ℕ) × (s.0 ≡ 16 * 2 ^ level) = s.1.power in
    let some : 0 < 2 ^ half.0 = pow_pos half.0 in
    let starts : l.seg.start ≡ row.seg.start = ap (λ (g : Seg). g.start) ls ∙ kids.ensures.left_starts p s.0 st s.1 in
    let full : l.seg.len ≡ 16 * 2 ^ half.0 = ap (λ (g : Seg). g.len) ls ∙ kids.ensures.left_spans p s.0 st s.1 ∙ half.1 in
    let next : r.seg.start ≡ row.seg.start + s.0 = ap (λ (g : Seg). g.start) rs ∙ kids.ensures.right_starts p s.0 st s.1 in
    let span : r.seg.len ≡ row.seg.len - s.0 = ap (λ (g : Seg). g.len) rs ∙ kids.ensures.right_spans p s.0 st s.1 in
    let below = s.1.below in
    let e = half.1 in
    let lr : (held l).row.readings ≡ None = rw (ap (λ k. k.readings) c.closed-left.ensures) refl in
    let rr : (held r).row.readings ≡ None = rw (ap (λ k. k.readings) c.closed-right.ensures) refl in
    let at : l.seg.start ≡ c.args.start = starts ∙ is.starts in
    let less = split-less track c.args.start (2 ^ half.0) row (held l) (held r) is lr rr some full (omega arith) (omega arith) in
    subst (λ (t : Track (Held g.row.N-Id.Denot)). steps_in t.rows < steps_in track.rows) (sym (c.split.ensures ∙ ap (λ k. record track { rows = replaced k (held l ∷ held r ∷ []) track.rows }) at)) less

pub returns-clause-back : goal.returns-clause-back
returns-clause-back g c =
    let track = c.args.table.now in
    let row = c.in-Some.row in
    let is = the-row track c.args.start row c.requires.at c.in-Some.ensures.some in
    let stands = g.N.Nodes.stands c.args.nodes.now c.args.source.now in
    let p = place_of track.series (held row).row in
    let st = All-has (StandsFor stands track.series) track.rows (held row) c.requires.of.stand is.there in
    let s = split_exists row.seg.len c.if-row-le16.false in
    let kids = c.in_ok-children in
    let l = c.closed-left.result in
    let r = c.closed-right.result in
    let ls : l.seg ≡ kids.children.left_seg = ap (λ k. k.seg) c.closed-left.ensures in
    let rs : r.seg ≡ kids.children.right_seg = ap (λ k. k.seg) c.closed-right.ensures in
    let half : (level : ℕ) × (s.0 ≡ 16 * 2 ^ level) = s.1.power in
    let some : 0 < 2 ^ half.0 = pow_pos half.0 in
    let starts : l.seg.start ≡ row.seg.start = ap (λ (g : Seg). g.start) ls ∙ kids.ensures.left_starts p s.0 st s.1 in
    let full : l.seg.len ≡ 16 * 2 ^ half.0 = ap (λ (g : Seg). g.len) ls ∙ kids.ensures.left_spans p s.0 st s.1 ∙ half.1 in
    let next : r.seg.start ≡ row.seg.start + s.0 = ap (λ (g : Seg). g.start) rs ∙ kids.ensures.right_starts p s.0 st s.1 in
    let span : r.seg.len ≡ row.seg.len - s.0 = ap (λ (g : Seg). g.len) rs ∙ kids.ensures.right_spans p s.0 st s.1 in
    let below = s.1.below in
    let e = half.1 in
    let lr : (held l).row.readings ≡ None = rw (ap (λ k. k.readings) c.closed-left.ensures) refl in
    let rr : (held r).row.readings ≡ None = rw (ap (λ k. k.readings) c.closed-right.ensures) refl in
    let at : l.seg.start ≡ c.args.start = starts ∙ is.starts in
    let found = c.in-Some.ensures.some in
    let left = splits-back track.rows c.args.start (2 ^ half.0) row (held l) (held r) is.there is.starts is.closed found.alone at some full (omega arith) (omega arith) (omega arith) lr rr in
    subst (λ (t : Track (Held g.row.N-Id.Denot)). CanGoBack row t.rows) (sym (c.split.ensures ∙ ap (λ k. record track { rows = replaced k (held l ∷ held r ∷ []) track.rows }) at)) left.can

pub returns-clause-restored : goal.returns-clause-restored
returns-clause-restored g c =
    let track = c.args.table.now in
    let row = c.in-Some.row in
    let is = the-row track c.args.start row c.requires.at c.in-Some.ensures.some in
    let stands = g.N.Nodes.stands c.args.nodes.now c.args.source.now in
    let p = place_of track.series (held row).row in
    let st = All-has (StandsFor stands track.series) track.rows (held row) c.requires.of.stand is.there in
    let s = split_exists row.seg.len c.if-row-le16.false in
    let kids = c.in_ok-children in
    let l = c.closed-left.result in
    let r = c.closed-right.result in
    let ls : l.seg ≡ kids.children.left_seg = ap (λ k. k.seg) c.closed-left.ensures in
    let rs : r.seg ≡ kids.children.right_seg = ap (λ k. k.seg) c.closed-right.ensures in
    let half : (level : ℕ) × (s.0 ≡ 16 * 2 ^ level) = s.1.power in
    let some : 0 < 2 ^ half.0 = pow_pos half.0 in
    let starts : l.seg.start ≡ row.seg.start = ap (λ (g : Seg). g.start) ls ∙ kids.ensures.left_starts p s.0 st s.1 in
    let full : l.seg.len ≡ 16 * 2 ^ half.0 = ap (λ (g : Seg). g.len) ls ∙ kids.ensures.left_spans p s.0 st s.1 ∙ half.1 in
    let next : r.seg.start ≡ row.seg.start + s.0 = ap (λ (g : Seg). g.start) rs ∙ kids.ensures.right_starts p s.0 st s.1 in
    let span : r.seg.len ≡ row.seg.len - s.0 = ap (λ (g : Seg). g.len) rs ∙ kids.ensures.right_spans p s.0 st s.1 in
    let below = s.1.below in
    let e = half.1 in
    let lr : (held l).row.readings ≡ None = rw (ap (λ k. k.readings) c.closed-left.ensures) refl in
    let rr : (held r).row.readings ≡ None = rw (ap (λ k. k.readings) c.closed-right.ensures) refl in
    let at : l.seg.start ≡ c.args.start = starts ∙ is.starts in
    let found = c.in-Some.ensures.some in
    let left = splits-back track.rows c.args.start (2 ^ half.0) row (held l) (held r) is.there is.starts is.closed found.alone at some full (omega arith) (omega arith) (omega arith) lr rr in
    subst (λ (t : Track (Held g.row.N-Id.Denot)). restored (held row) t.rows ≡ track.rows) (sym (c.split.ensures ∙ ap (λ k. record track { rows = replaced k (held l ∷ held r ∷ []) track.rows }) at)) left.restored

pub open-requires-clause-small : goal.open-requires-clause-small
open-requires-clause-small g c =
    let track = c.args.table.now in
    let row = c.in-Some.row in
    let is = the-row track c.args.start row c.requires.at c.in-Some.ensures.some in
    let stands = g.N.Nodes.stands c.args.nodes.now c.args.source.now in
    let p = place_of track.series (held row).row in
    let s = All-has (StandsFor stands track.series) track.rows (held row) c.requires.of.stand is.there in
    let root = c.requires.of.rooted (some-len track (held row) c.in-Some.ensures.sound is.there) in
    let n = c.in_ok-readings.ensures.len p s in
    let few = c.if-row-le16.true in
    let all : length c.readings.new.into ≡ 16 = search rules in
    are-small track.greatest row.seg.len c.readings.new.into few (omega arith)
    (λ i lt. rw root.2 (c.in_ok-readings.ensures.small p root.0 i s root.1 (omega arith)))

pub split-requires-clause-left_sane : goal.split-requires-clause-left_sane
split-requires-clause-left_sane g c =
    let track = c.args.table.now in
    let row = c.in-Some.row in
    let is = the-row track c.args.start row c.requires.at c.in-Some.ensures.some in
    let stands = g.N.Nodes.stands c.args.nodes.now c.args.source.now in
    let p = place_of track.series (held row).row in
    let st = All-has (StandsFor stands track.series) track.rows (held row) c.requires.of.stand is.there in
    let root = c.requires.of.rooted (some-len track (held row) c.in-Some.ensures.sound is.there) in
    let kids = c.in_ok-children in
    let ls : c.closed-left.result.seg ≡ kids.children.left_seg = ap (λ k. k.seg) c.closed-left.ensures in
    rw (ls, root.2) (kids.ensures.left_sane p root.0 st root.1)

pub split-requires-clause-right_sane : goal.split-requires-clause-right_sane
split-requires-clause-right_sane g c =
    let track = c.args.table.now in
    let row = c.in-Some.row in
    let is = the-row track c.args.start row c.requires.at c.in-Some.ensures.some in
    let stands = g.N.Nodes.stands c.args.nodes.now c.args.source.now in
    let p = place_of track.series (held row).row in
    let st = All-has (StandsFor stands track.series) track.rows (held row) c.requires.of.stand is.there in
    let root = c.requires.of.rooted (some-len track (held row) c.in-Some.ensures.sound is.there) in
    let kids = c.in_ok-children in
    let rs : c.closed-right.result.seg ≡ kids.children.right_seg = ap (λ k. k.seg) c.closed-right.ensures in
    rw (rs, root.2) (kids.ensures.right_sane p root.0 st root.1)

pub returns-clause-spent : goal.returns-clause-spent
returns-clause-spent g c =
    let track = c.args.table.now in
    let row = c.in-Some.row in
    let is = the-row track c.args.start row c.requires.at c.in-Some.ensures.some in
    let stands = g.N.Nodes.stands c.args.nodes.now c.args.source.now in
    let p = place_of track.series (held row).row in
    let st = All-has (StandsFor stands track.series) track.rows (held row) c.requires.of.stand is.there in
    let s = split_exists row.seg.len c.if-row-le16.false in
    let kids = c.in_ok-children in
    let l = c.closed-left.result in
    let r = c.closed-right.result in
    let ls : l.seg ≡ kids.children.left_seg = ap (λ k. k.seg) c.closed-left.ensures in
    let rs : r.seg ≡ kids.children.right_seg = ap (λ k. k.seg) c.closed-right.ensures in
    let half : (level : ℕ) × (s.0 ≡ 16 * 2 ^ level) = s.1.power in
    let some : 0 < 2 ^ half.0 = pow_pos half.0 in
    let starts : l.seg.start ≡ row.seg.start = ap (λ (g : Seg). g.start) ls ∙ kids.ensures.left_starts p s.0 st s.1 in
    let full : l.seg.len ≡ 16 * 2 ^ half.0 = ap (λ (g : Seg). g.len) ls ∙ kids.ensures.left_spans p s.0 st s.1 ∙ half.1 in
    let next : r.seg.start ≡ row.seg.start + s.0 = ap (λ (g : Seg). g.start) rs ∙ kids.ensures.right_starts p s.0 st s.1 in
    let span : r.seg.len ≡ row.seg.len - s.0 = ap (λ (g : Seg). g.len) rs ∙ kids.ensures.right_spans p s.0 st s.1 in
    let below = s.1.below in
    let e = half.1 in
    let lr : (held l).row.readings ≡ None = rw (ap (λ k. k.readings) c.closed-left.ensures) refl in
    let rr : (held r).row.readings ≡ None = rw (ap (λ k. k.readings) c.closed-right.ensures) refl in
    let at : l.seg.start ≡ c.args.start = starts ∙ is.starts in
    let n = counts-replaced c.args.start (held l ∷ held r ∷ []) track.rows (held row) is.there (closed-there c.args.start row is.starts is.closed) in
    let lr : (held l).row.readings ≡ None = rw (ap (λ k. k.readings) c.closed-left.ensures) refl in
    let rr : (held r).row.readings ≡ None = rw (ap (λ k. k.readings) c.closed-right.ensures) refl in
    let none : opened_among (held l ∷ held r ∷ []) ≡ 0 = rw (lr, rr) (omega arith) in
    let rows = n.rows in
    let opened = n.opened in
    let same : c.split.new.self.rows ≡ replaced c.args.start (held l ∷ held r ∷ []) track.rows = ap (λ (t : Track (Held g.row.N-Id.Denot)). t.rows) (c.split.ensures ∙ ap (λ k. record track { rows = replaced k (held l ∷ held r ∷ []) track.rows }) at) in
    let a = ap length same in
    let b = ap opened_among same in
    inl (omega arith, omega arith, c.children.ensures.handed)

pub returns-then-row-le16-clause-spent : goal.returns-then-row-le16-clause-spent
returns-then-row-le16-clause-spent g c =
    let track = c.args.table.now in
    let row = c.in-Some.row in
    let is = the-row track c.args.start row c.requires.at c.in-Some.ensures.some in
    let stands = g.N.Nodes.stands c.args.nodes.now c.args.source.now in
    let s = All-has (StandsFor stands track.series) track.rows (held row) c.requires.of.stand is.there in
    let new : Held g.row.N-Id.Denot = held (record row { readings = Some c.readings.new.into }) in
    let n = counts-replaced c.args.start (new ∷ []) track.rows (held row) is.there (closed-there c.args.start row is.starts is.closed) in
    let rows = n.rows in
    let opened = n.opened in
    let same : c.open.new.self.rows ≡ replaced c.args.start (new ∷ []) track.rows = ap (λ (t : Track (Held g.row.N-Id.Denot)). t.rows) (c.open.ensures ∙ ap (λ k. record track { rows = replaced k (new ∷ []) track.rows }) is.starts) in
    let a = ap length same in
    let b = ap opened_among same in
    inr (omega arith, omega arith, hands-out (4 * row.seg.len) 64 (g.N.Nodes.handed c.args.source.now) (g.N.Nodes.handed c.readings.new.source) (let few = c.if-row-le16.true in omega arith) (c.readings.ensures.handed (place_of track.series (held row).row) s))
