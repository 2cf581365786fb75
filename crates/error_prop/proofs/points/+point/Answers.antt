use Rattle.std.proofs.Common.{arith, rules, ap, sym, subst, ◌∙◌, ◌≡◌, take, drop, length}
use Rattle.std.specs.Prelude.{◌-ℤ◌}
use Rattle.std.proofs.lemmas.Int.{to_z-of_z}
use mir.Val.{SFits, to_z, of_z}
use mir.Syntax.{w64, w128}
use Rattle.expr.specs.Terms.{term_of}
use Rattle.semantics.specs.Measures.{names_in}
use Rattle.semantics.specs.Term.{Term, base, constant, bare, shift}
use Rattle.bounds.specs.Shape.{constant_shape}
use Rattle.error_prop.specs.Locals.{CanForm}
use Rattle.error_prop.specs.Points.{IsFormedAt, IsPoint}
use Rattle.error_prop.proofs.Arms.{plus_ready, minus_ready, times_ready, AreParts}
use Rattle.error_prop.proofs.PointArms.{plus_done, minus_done, times_asks, times_done, shift_done, constant_formed, bare_formed, AreFormedAt, ProductAsks}
use Rattle.error_prop.proofs.points.+point.Goals as goal

pub plus_at-point_of-b-requires : goal.plus_at-point_of-b-requires
plus_at-point_of-b-requires t c =
    let U = term_of c.args.u.now in
    let V = term_of c.args.v.now in
    let S = c.args.segs.now in
    let f : SFits w64 c.args.position = c.ranges.position in
    let e : to_z w64 (of_z w64 c.args.position) ≡ c.args.position = to_z-of_z w64 c.args.position f in
    let us : c.split_at.result.0.now ≡ take (names_in U) S = c.split_at.ensures.front ∙ ap (λ n. take n S) c.names-n.ensures in
    let vs : c.split_at.result.1.now ≡ drop (names_in U) S = c.split_at.ensures.back ∙ ap (λ n. drop n S) c.names-n.ensures in
    let p : AreParts U V S c.split_at.result.0.now c.split_at.result.1.now (length c.split_at_mut-left.result.0.now) (length c.split_at_mut-left.result.1.now) = record {
      left = us;
      right = vs;
      room_left = omega (arith, c.split_at_mut-left.ensures.front_len, c.names-n.ensures);
      room_right = omega (arith, c.split_at_mut-left.ensures.back_len, c.names-n.ensures, c.requires.room);
    } in
    (search rules, subst (λ i. CanForm V c.split_at.result.1.now (length c.split_at_mut-left.result.1.now) i 1) (sym e) (plus_ready U V S _ _ _ _ _ c.args.position 1 c.requires p).right)

pub plus_at-point_of-a-requires : goal.plus_at-point_of-a-requires
plus_at-point_of-a-requires t c =
    let U = term_of c.args.u.now in
    let V = term_of c.args.v.now in
    let S = c.args.segs.now in
    let f : SFits w64 c.args.position = c.ranges.position in
    let e : to_z w64 (of_z w64 c.args.position) ≡ c.args.position = to_z-of_z w64 c.args.position f in
    let us : c.split_at.result.0.now ≡ take (names_in U) S = c.split_at.ensures.front ∙ ap (λ n. take n S) c.names-n.ensures in
    let vs : c.split_at.result.1.now ≡ drop (names_in U) S = c.split_at.ensures.back ∙ ap (λ n. drop n S) c.names-n.ensures in
    let p : AreParts U V S c.split_at.result.0.now c.split_at.result.1.now (length c.split_at_mut-left.result.0.now) (length c.split_at_mut-left.result.1.now) = record {
      left = us;
      right = vs;
      room_left = omega (arith, c.split_at_mut-left.ensures.front_len, c.names-n.ensures);
      room_right = omega (arith, c.split_at_mut-left.ensures.back_len, c.names-n.ensures, c.requires.room);
    } in
    (search rules, subst (λ i. CanForm U c.split_at.result.0.now (length c.split_at_mut-left.result.0.now) i 1) (sym e) (plus_ready U V S _ _ _ _ _ c.args.position 1 c.requires p).left)

pub plus_at-returns : goal.plus_at-returns
plus_at-returns t c =
    let U = term_of c.args.u.now in
    let V = term_of c.args.v.now in
    let S = c.args.segs.now in
    let f : SFits w64 c.args.position = c.ranges.position in
    let e : to_z w64 (of_z w64 c.args.position) ≡ c.args.position = to_z-of_z w64 c.args.position f in
    let us : c.split_at.result.0.now ≡ take (names_in U) S = c.split_at.ensures.front ∙ ap (λ n. take n S) c.names-n.ensures in
    let vs : c.split_at.result.1.now ≡ drop (names_in U) S = c.split_at.ensures.back ∙ ap (λ n. drop n S) c.names-n.ensures in
    let h : AreFormedAt U V S c.split_at.result.0.now c.split_at.result.1.now c.point_of-a.new.weights c.point_of-b.new.weights c.point_of-a.result c.point_of-b.result c.args.position = record {
      left = us;
      right = vs;
      formed_left = subst (λ i. IsFormedAt U c.split_at.result.0.now c.point_of-a.new.weights c.point_of-a.result i) e c.point_of-a.ensures;
      formed_right = subst (λ i. IsFormedAt V c.split_at.result.1.now c.point_of-b.new.weights c.point_of-b.result i) e c.point_of-b.ensures;
    } in
    plus_done U V S _ _ _ _ _ c.added.result _ _ c.args.position h c.weigh_sum.ensures c.added.ensures

pub minus_at-point_of-b-requires : goal.minus_at-point_of-b-requires
minus_at-point_of-b-requires t c =
    let U = term_of c.args.u.now in
    let V = term_of c.args.v.now in
    let S = c.args.segs.now in
    let f : SFits w64 c.args.position = c.ranges.position in
    let e : to_z w64 (of_z w64 c.args.position) ≡ c.args.position = to_z-of_z w64 c.args.position f in
    let us : c.split_at.result.0.now ≡ take (names_in U) S = c.split_at.ensures.front ∙ ap (λ n. take n S) c.names-n.ensures in
    let vs : c.split_at.result.1.now ≡ drop (names_in U) S = c.split_at.ensures.back ∙ ap (λ n. drop n S) c.names-n.ensures in
    let p : AreParts U V S c.split_at.result.0.now c.split_at.result.1.now (length c.split_at_mut-left.result.0.now) (length c.split_at_mut-left.result.1.now) = record {
      left = us;
      right = vs;
      room_left = omega (arith, c.split_at_mut-left.ensures.front_len, c.names-n.ensures);
      room_right = omega (arith, c.split_at_mut-left.ensures.back_len, c.names-n.ensures, c.requires.room);
    } in
    (search rules, subst (λ i. CanForm V c.split_at.result.1.now (length c.split_at_mut-left.result.1.now) i 1) (sym e) (minus_ready U V S _ _ _ _ _ c.args.position 1 c.requires p).right)

pub minus_at-point_of-a-requires : goal.minus_at-point_of-a-requires
minus_at-point_of-a-requires t c =
    let U = term_of c.args.u.now in
    let V = term_of c.args.v.now in
    let S = c.args.segs.now in
    let f : SFits w64 c.args.position = c.ranges.position in
    let e : to_z w64 (of_z w64 c.args.position) ≡ c.args.position = to_z-of_z w64 c.args.position f in
    let us : c.split_at.result.0.now ≡ take (names_in U) S = c.split_at.ensures.front ∙ ap (λ n. take n S) c.names-n.ensures in
    let vs : c.split_at.result.1.now ≡ drop (names_in U) S = c.split_at.ensures.back ∙ ap (λ n. drop n S) c.names-n.ensures in
    let p : AreParts U V S c.split_at.result.0.now c.split_at.result.1.now (length c.split_at_mut-left.result.0.now) (length c.split_at_mut-left.result.1.now) = record {
      left = us;
      right = vs;
      room_left = omega (arith, c.split_at_mut-left.ensures.front_len, c.names-n.ensures);
      room_right = omega (arith, c.split_at_mut-left.ensures.back_len, c.names-n.ensures, c.requires.room);
    } in
    (search rules, subst (λ i. CanForm U c.split_at.result.0.now (length c.split_at_mut-left.result.0.now) i 1) (sym e) (minus_ready U V S _ _ _ _ _ c.args.position 1 c.requires p).left)

pub minus_at-returns : goal.minus_at-returns
minus_at-returns t c =
    let U = term_of c.args.u.now in
    let V = term_of c.args.v.now in
    let S = c.args.segs.now in
    let f : SFits w64 c.args.position = c.ranges.position in
    let e : to_z w64 (of_z w64 c.args.position) ≡ c.args.position = to_z-of_z w64 c.args.position f in
    let us : c.split_at.result.0.now ≡ take (names_in U) S = c.split_at.ensures.front ∙ ap (λ n. take n S) c.names-n.ensures in
    let vs : c.split_at.result.1.now ≡ drop (names_in U) S = c.split_at.ensures.back ∙ ap (λ n. drop n S) c.names-n.ensures in
    let h : AreFormedAt U V S c.split_at.result.0.now c.split_at.result.1.now c.point_of-a.new.weights c.point_of-b.new.weights c.point_of-a.result c.point_of-b.result c.args.position = record {
      left = us;
      right = vs;
      formed_left = subst (λ i. IsFormedAt U c.split_at.result.0.now c.point_of-a.new.weights c.point_of-a.result i) e c.point_of-a.ensures;
      formed_right = subst (λ i. IsFormedAt V c.split_at.result.1.now c.point_of-b.new.weights c.point_of-b.result i) e c.point_of-b.ensures;
    } in
    minus_done U V S _ _ _ _ _ c.subtracted.result _ _ c.args.position h c.weigh_sum.ensures c.subtracted.ensures

pub times_at-point_of-b-requires : goal.times_at-point_of-b-requires
times_at-point_of-b-requires t c =
    let U = term_of c.args.u.now in
    let V = term_of c.args.v.now in
    let S = c.args.segs.now in
    let f : SFits w64 c.args.position = c.ranges.position in
    let e : to_z w64 (of_z w64 c.args.position) ≡ c.args.position = to_z-of_z w64 c.args.position f in
    let us : c.split_at.result.0.now ≡ take (names_in U) S = c.split_at.ensures.front ∙ ap (λ n. take n S) c.names-n.ensures in
    let vs : c.split_at.result.1.now ≡ drop (names_in U) S = c.split_at.ensures.back ∙ ap (λ n. drop n S) c.names-n.ensures in
    let p : AreParts U V S c.split_at.result.0.now c.split_at.result.1.now (length c.split_at_mut-left.result.0.now) (length c.split_at_mut-left.result.1.now) = record {
      left = us;
      right = vs;
      room_left = omega (arith, c.split_at_mut-left.ensures.front_len, c.names-n.ensures);
      room_right = omega (arith, c.split_at_mut-left.ensures.back_len, c.names-n.ensures, c.requires.room);
    } in
    (search rules, subst (λ i. CanForm V c.split_at.result.1.now (length c.split_at_mut-left.result.1.now) i 1) (sym e) (times_ready U V S _ _ _ _ _ c.args.position 1 c.requires p).right)

pub times_at-point_of-a-requires : goal.times_at-point_of-a-requires
times_at-point_of-a-requires t c =
    let U = term_of c.args.u.now in
    let V = term_of c.args.v.now in
    let S = c.args.segs.now in
    let f : SFits w64 c.args.position = c.ranges.position in
    let e : to_z w64 (of_z w64 c.args.position) ≡ c.args.position = to_z-of_z w64 c.args.position f in
    let us : c.split_at.result.0.now ≡ take (names_in U) S = c.split_at.ensures.front ∙ ap (λ n. take n S) c.names-n.ensures in
    let vs : c.split_at.result.1.now ≡ drop (names_in U) S = c.split_at.ensures.back ∙ ap (λ n. drop n S) c.names-n.ensures in
    let p : AreParts U V S c.split_at.result.0.now c.split_at.result.1.now (length c.split_at_mut-left.result.0.now) (length c.split_at_mut-left.result.1.now) = record {
      left = us;
      right = vs;
      room_left = omega (arith, c.split_at_mut-left.ensures.front_len, c.names-n.ensures);
      room_right = omega (arith, c.split_at_mut-left.ensures.back_len, c.names-n.ensures, c.requires.room);
    } in
    (search rules, subst (λ i. CanForm U c.split_at.result.0.now (length c.split_at_mut-left.result.0.now) i 1) (sym e) (times_ready U V S _ _ _ _ _ c.args.position 1 c.requires p).left)

pub times_at-weigh_product-requires : goal.times_at-weigh_product-requires
times_at-weigh_product-requires t c =
    let U = term_of c.args.u.now in
    let V = term_of c.args.v.now in
    let S = c.args.segs.now in
    let f : SFits w64 c.args.position = c.ranges.position in
    let e : to_z w64 (of_z w64 c.args.position) ≡ c.args.position = to_z-of_z w64 c.args.position f in
    let us : c.split_at.result.0.now ≡ take (names_in U) S = c.split_at.ensures.front ∙ ap (λ n. take n S) c.names-n.ensures in
    let vs : c.split_at.result.1.now ≡ drop (names_in U) S = c.split_at.ensures.back ∙ ap (λ n. drop n S) c.names-n.ensures in
    let h : AreFormedAt U V S c.split_at.result.0.now c.split_at.result.1.now c.point_of-a.new.weights c.point_of-b.new.weights c.point_of-a.result c.point_of-b.result c.args.position = record {
      left = us;
      right = vs;
      formed_left = subst (λ i. IsFormedAt U c.split_at.result.0.now c.point_of-a.new.weights c.point_of-a.result i) e c.point_of-a.ensures;
      formed_right = subst (λ i. IsFormedAt V c.split_at.result.1.now c.point_of-b.new.weights c.point_of-b.result i) e c.point_of-b.ensures;
    } in
    let n : ProductAsks c.point_of-a.new.weights c.point_of-b.new.weights S c.point_of-a.result c.point_of-b.result = times_asks U V S _ _ _ _ _ _ _ c.args.position c.requires h in
    n.needs

pub times_at-product-requires : goal.times_at-product-requires
times_at-product-requires t c =
    let U = term_of c.args.u.now in
    let V = term_of c.args.v.now in
    let S = c.args.segs.now in
    let f : SFits w64 c.args.position = c.ranges.position in
    let e : to_z w64 (of_z w64 c.args.position) ≡ c.args.position = to_z-of_z w64 c.args.position f in
    let us : c.split_at.result.0.now ≡ take (names_in U) S = c.split_at.ensures.front ∙ ap (λ n. take n S) c.names-n.ensures in
    let vs : c.split_at.result.1.now ≡ drop (names_in U) S = c.split_at.ensures.back ∙ ap (λ n. drop n S) c.names-n.ensures in
    let h : AreFormedAt U V S c.split_at.result.0.now c.split_at.result.1.now c.point_of-a.new.weights c.point_of-b.new.weights c.point_of-a.result c.point_of-b.result c.args.position = record {
      left = us;
      right = vs;
      formed_left = subst (λ i. IsFormedAt U c.split_at.result.0.now c.point_of-a.new.weights c.point_of-a.result i) e c.point_of-a.ensures;
      formed_right = subst (λ i. IsFormedAt V c.split_at.result.1.now c.point_of-b.new.weights c.point_of-b.result i) e c.point_of-b.ensures;
    } in
    let n : ProductAsks c.point_of-a.new.weights c.point_of-b.new.weights S c.point_of-a.result c.point_of-b.result = times_asks U V S _ _ _ _ _ _ _ c.args.position c.requires h in
    n.fits

pub times_at-returns : goal.times_at-returns
times_at-returns t c =
    let U = term_of c.args.u.now in
    let V = term_of c.args.v.now in
    let S = c.args.segs.now in
    let f : SFits w64 c.args.position = c.ranges.position in
    let e : to_z w64 (of_z w64 c.args.position) ≡ c.args.position = to_z-of_z w64 c.args.position f in
    let us : c.split_at.result.0.now ≡ take (names_in U) S = c.split_at.ensures.front ∙ ap (λ n. take n S) c.names-n.ensures in
    let vs : c.split_at.result.1.now ≡ drop (names_in U) S = c.split_at.ensures.back ∙ ap (λ n. drop n S) c.names-n.ensures in
    let h : AreFormedAt U V S c.split_at.result.0.now c.split_at.result.1.now c.point_of-a.new.weights c.point_of-b.new.weights c.point_of-a.result c.point_of-b.result c.args.position = record {
      left = us;
      right = vs;
      formed_left = subst (λ i. IsFormedAt U c.split_at.result.0.now c.point_of-a.new.weights c.point_of-a.result i) e c.point_of-a.ensures;
      formed_right = subst (λ i. IsFormedAt V c.split_at.result.1.now c.point_of-b.new.weights c.point_of-b.result i) e c.point_of-b.ensures;
    } in
    times_done U V S _ _ _ _ _ c.product.result _ _ c.args.position h c.weigh_product.ensures c.product.ensures

pub point_of-returns-in-Shift : goal.point_of-returns-in-Shift
point_of-returns-in-Shift t c =
    let U = term_of c.deref-in-Shift.result.now in
    let f : SFits w64 c.args.position = c.ranges.position in
    let k : SFits w64 c.in-Shift.k = search rules in
    let r : SFits w64 c.moved_back-back.result = search rules in
    let v : c.moved_back-back.result ≡ (c.args.position -ℤ c.in-Shift.k) = simp to_z-of_z at c.moved_back-back.ensures in
    let h : IsFormedAt U c.args.segs.now c.point_of.new.weights c.point_of.result c.moved_back-back.result =
    subst (λ i. IsFormedAt U c.args.segs.now c.point_of.new.weights c.point_of.result i) (to_z-of_z w64 c.moved_back-back.result r) c.point_of.ensures in
    subst (λ (x : Term). IsFormedAt x c.args.segs.now c.point_of.new.weights c.point_of.result c.args.position)
    (sym (ap term_of c.in-Shift.is ∙ ap (λ x. shift x c.in-Shift.k) (ap term_of (sym c.deref-in-Shift.ensures))))
    (shift_done U c.in-Shift.k c.args.segs.now c.point_of.new.weights c.point_of.result c.args.position c.moved_back-back.result v h)

pub point_of-stored_at-requires : goal.point_of-stored_at-requires
point_of-stored_at-requires t c =
    let e : term_of c.args.t.now ≡ base c.in-Base.field-0 = ap term_of c.in-Base.is in
    let f : SFits w64 c.args.position = c.ranges.position in (
      c.in-Base.field-0,
      subst (λ i. CanForm (base c.in-Base.field-0) c.args.segs.now (length c.args.weights.now) i 1) (sym (to_z-of_z w64 c.args.position f))
          (subst (λ (x : Term). CanForm x c.args.segs.now (length c.args.weights.now) c.args.position 1) e c.requires),
    )

pub point_of-returns-in-Base : goal.point_of-returns-in-Base
point_of-returns-in-Base t c =
    let e : term_of c.args.t.now ≡ base c.in-Base.field-0 = ap term_of c.in-Base.is in
    let f : SFits w64 c.args.position = c.ranges.position in
    let i = to_z-of_z w64 c.args.position f in
    let can : CanForm (base c.in-Base.field-0) c.args.segs.now (length c.args.weights.now) c.args.position 1 = subst (λ (x : Term). CanForm x c.args.segs.now (length c.args.weights.now) c.args.position 1) e c.requires in
    subst (λ (x : Term). IsFormedAt x c.args.segs.now c.stored_at.new.weights c.stored_at.result c.args.position) (sym e)
    (subst (λ j. IsFormedAt (base c.in-Base.field-0) c.args.segs.now c.stored_at.new.weights c.stored_at.result j) i
    (c.stored_at.ensures c.in-Base.field-0 (subst (λ j. CanForm (base c.in-Base.field-0) c.args.segs.now (length c.args.weights.now) j 1) (sym i) can)))

pub point_of-returns-in-Const : goal.point_of-returns-in-Const
point_of-returns-in-Const t c =
    let f : SFits w128 c.in-Const.v = search rules in
    let h = c.constant_point.ensures in
    let k : IsPoint c.constant_point.result (constant_shape c.in-Const.v) c.in-Const.v = simp to_z-of_z at h in
    let e : term_of c.args.t.now ≡ constant c.in-Const.v _ _ = ap term_of c.in-Const.is in
    subst (λ (x : Term). IsFormedAt x c.args.segs.now c.args.weights.now c.constant_point.result c.args.position) (sym e)
    (constant_formed c.in-Const.v _ _ c.args.segs.now c.args.weights.now c.constant_point.result c.args.position (c.requires.room ∙ ap names_in e) k)

pub point_of-returns-in-Bare : goal.point_of-returns-in-Bare
point_of-returns-in-Bare t c =
    let f : SFits w128 c.in-Bare.v = search rules in
    let h = c.constant_point-in-Bare.ensures in
    let k : IsPoint c.constant_point-in-Bare.result (constant_shape c.in-Bare.v) c.in-Bare.v = simp to_z-of_z at h in
    let e : term_of c.args.t.now ≡ bare c.in-Bare.v = ap term_of c.in-Bare.is in
    subst (λ (x : Term). IsFormedAt x c.args.segs.now c.args.weights.now c.constant_point-in-Bare.result c.args.position) (sym e)
    (bare_formed c.in-Bare.v c.args.segs.now c.args.weights.now c.constant_point-in-Bare.result c.args.position (c.requires.room ∙ ap names_in e) k)
