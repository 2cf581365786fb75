use Rattle.std.proofs.Common.{arith, rules, ap, sym, subst, ◌∙◌, ◌≡◌, take, drop, length}
use Rattle.std.specs.Prelude.{◌-ℤ◌}
use Rattle.std.proofs.lemmas.Int.{to_z-of_z}
use mir.Val.{SFits, to_z, of_z}
use mir.Syntax.{w64, w128}
use Rattle.expr.specs.Terms.{term_of}
use Rattle.semantics.specs.Measures.{names_in}
use Rattle.semantics.specs.Term.{Term, base, constant, bare, shift}
use Rattle.bounds.specs.Shape.{constant_shape}
use Rattle.error_prop.specs.Locals.{CanForm, IsFormed, IsHead}
use Rattle.error_prop.proofs.Arms.{plus_ready, minus_ready, times_ready, plus_done, minus_done, times_done, times_asks, shift_done, constant_formed, bare_formed, AreFormed, AreParts, ProductAsks}
use Rattle.error_prop.proofs.local.+form.Goals as goal

pub plus_of-head_of-b-requires : goal.plus_of-head_of-b-requires
plus_of-head_of-b-requires t c =
    let U = term_of c.args.u.now in
    let V = term_of c.args.v.now in
    let S = c.args.segs.now in
    let f : SFits w64 c.args.from = c.ranges.from in
    let e : to_z w64 (of_z w64 c.args.from) ≡ c.args.from = to_z-of_z w64 c.args.from f in
    let us : c.split_at.result.0.now ≡ take (names_in U) S = c.split_at.ensures.front ∙ ap (λ n. take n S) c.names-n.ensures in
    let vs : c.split_at.result.1.now ≡ drop (names_in U) S = c.split_at.ensures.back ∙ ap (λ n. drop n S) c.names-n.ensures in
    let p : AreParts U V S c.split_at.result.0.now c.split_at.result.1.now (length c.split_at_mut-left.result.0.now) (length c.split_at_mut-left.result.1.now) = record {
      left = us;
      right = vs;
      room_left = omega (arith, c.split_at_mut-left.ensures.front_len, c.names-n.ensures);
      room_right = omega (arith, c.split_at_mut-left.ensures.back_len, c.names-n.ensures, c.requires.room);
    } in
    (search rules, subst (λ i. CanForm V c.split_at.result.1.now (length c.split_at_mut-left.result.1.now) i c.args.len) (sym e) (plus_ready U V S _ _ _ _ _ c.args.from c.args.len c.requires p).right)

pub plus_of-head_of-a-requires : goal.plus_of-head_of-a-requires
plus_of-head_of-a-requires t c =
    let U = term_of c.args.u.now in
    let V = term_of c.args.v.now in
    let S = c.args.segs.now in
    let f : SFits w64 c.args.from = c.ranges.from in
    let e : to_z w64 (of_z w64 c.args.from) ≡ c.args.from = to_z-of_z w64 c.args.from f in
    let us : c.split_at.result.0.now ≡ take (names_in U) S = c.split_at.ensures.front ∙ ap (λ n. take n S) c.names-n.ensures in
    let vs : c.split_at.result.1.now ≡ drop (names_in U) S = c.split_at.ensures.back ∙ ap (λ n. drop n S) c.names-n.ensures in
    let p : AreParts U V S c.split_at.result.0.now c.split_at.result.1.now (length c.split_at_mut-left.result.0.now) (length c.split_at_mut-left.result.1.now) = record {
      left = us;
      right = vs;
      room_left = omega (arith, c.split_at_mut-left.ensures.front_len, c.names-n.ensures);
      room_right = omega (arith, c.split_at_mut-left.ensures.back_len, c.names-n.ensures, c.requires.room);
    } in
    (search rules, subst (λ i. CanForm U c.split_at.result.0.now (length c.split_at_mut-left.result.0.now) i c.args.len) (sym e) (plus_ready U V S _ _ _ _ _ c.args.from c.args.len c.requires p).left)

pub plus_of-returns : goal.plus_of-returns
plus_of-returns t c =
    let U = term_of c.args.u.now in
    let V = term_of c.args.v.now in
    let S = c.args.segs.now in
    let f : SFits w64 c.args.from = c.ranges.from in
    let e : to_z w64 (of_z w64 c.args.from) ≡ c.args.from = to_z-of_z w64 c.args.from f in
    let us : c.split_at.result.0.now ≡ take (names_in U) S = c.split_at.ensures.front ∙ ap (λ n. take n S) c.names-n.ensures in
    let vs : c.split_at.result.1.now ≡ drop (names_in U) S = c.split_at.ensures.back ∙ ap (λ n. drop n S) c.names-n.ensures in
    let h : AreFormed U V S c.split_at.result.0.now c.split_at.result.1.now c.head_of-a.new.weights c.head_of-b.new.weights c.head_of-a.result c.head_of-b.result c.args.from c.args.len = record {
      left = us;
      right = vs;
      formed_left = subst (λ i. IsFormed U c.split_at.result.0.now c.head_of-a.new.weights c.head_of-a.result i c.args.len) e c.head_of-a.ensures;
      formed_right = subst (λ i. IsFormed V c.split_at.result.1.now c.head_of-b.new.weights c.head_of-b.result i c.args.len) e c.head_of-b.ensures;
    } in
    plus_done U V S _ _ _ _ _ c.plus.result _ _ c.args.from c.args.len h c.weigh_sum.ensures c.plus.ensures

pub minus_of-head_of-b-requires : goal.minus_of-head_of-b-requires
minus_of-head_of-b-requires t c =
    let U = term_of c.args.u.now in
    let V = term_of c.args.v.now in
    let S = c.args.segs.now in
    let f : SFits w64 c.args.from = c.ranges.from in
    let e : to_z w64 (of_z w64 c.args.from) ≡ c.args.from = to_z-of_z w64 c.args.from f in
    let us : c.split_at.result.0.now ≡ take (names_in U) S = c.split_at.ensures.front ∙ ap (λ n. take n S) c.names-n.ensures in
    let vs : c.split_at.result.1.now ≡ drop (names_in U) S = c.split_at.ensures.back ∙ ap (λ n. drop n S) c.names-n.ensures in
    let p : AreParts U V S c.split_at.result.0.now c.split_at.result.1.now (length c.split_at_mut-left.result.0.now) (length c.split_at_mut-left.result.1.now) = record {
      left = us;
      right = vs;
      room_left = omega (arith, c.split_at_mut-left.ensures.front_len, c.names-n.ensures);
      room_right = omega (arith, c.split_at_mut-left.ensures.back_len, c.names-n.ensures, c.requires.room);
    } in
    (search rules, subst (λ i. CanForm V c.split_at.result.1.now (length c.split_at_mut-left.result.1.now) i c.args.len) (sym e) (minus_ready U V S _ _ _ _ _ c.args.from c.args.len c.requires p).right)

pub minus_of-head_of-a-requires : goal.minus_of-head_of-a-requires
minus_of-head_of-a-requires t c =
    let U = term_of c.args.u.now in
    let V = term_of c.args.v.now in
    let S = c.args.segs.now in
    let f : SFits w64 c.args.from = c.ranges.from in
    let e : to_z w64 (of_z w64 c.args.from) ≡ c.args.from = to_z-of_z w64 c.args.from f in
    let us : c.split_at.result.0.now ≡ take (names_in U) S = c.split_at.ensures.front ∙ ap (λ n. take n S) c.names-n.ensures in
    let vs : c.split_at.result.1.now ≡ drop (names_in U) S = c.split_at.ensures.back ∙ ap (λ n. drop n S) c.names-n.ensures in
    let p : AreParts U V S c.split_at.result.0.now c.split_at.result.1.now (length c.split_at_mut-left.result.0.now) (length c.split_at_mut-left.result.1.now) = record {
      left = us;
      right = vs;
      room_left = omega (arith, c.split_at_mut-left.ensures.front_len, c.names-n.ensures);
      room_right = omega (arith, c.split_at_mut-left.ensures.back_len, c.names-n.ensures, c.requires.room);
    } in
    (search rules, subst (λ i. CanForm U c.split_at.result.0.now (length c.split_at_mut-left.result.0.now) i c.args.len) (sym e) (minus_ready U V S _ _ _ _ _ c.args.from c.args.len c.requires p).left)

pub minus_of-returns : goal.minus_of-returns
minus_of-returns t c =
    let U = term_of c.args.u.now in
    let V = term_of c.args.v.now in
    let S = c.args.segs.now in
    let f : SFits w64 c.args.from = c.ranges.from in
    let e : to_z w64 (of_z w64 c.args.from) ≡ c.args.from = to_z-of_z w64 c.args.from f in
    let us : c.split_at.result.0.now ≡ take (names_in U) S = c.split_at.ensures.front ∙ ap (λ n. take n S) c.names-n.ensures in
    let vs : c.split_at.result.1.now ≡ drop (names_in U) S = c.split_at.ensures.back ∙ ap (λ n. drop n S) c.names-n.ensures in
    let h : AreFormed U V S c.split_at.result.0.now c.split_at.result.1.now c.head_of-a.new.weights c.head_of-b.new.weights c.head_of-a.result c.head_of-b.result c.args.from c.args.len = record {
      left = us;
      right = vs;
      formed_left = subst (λ i. IsFormed U c.split_at.result.0.now c.head_of-a.new.weights c.head_of-a.result i c.args.len) e c.head_of-a.ensures;
      formed_right = subst (λ i. IsFormed V c.split_at.result.1.now c.head_of-b.new.weights c.head_of-b.result i c.args.len) e c.head_of-b.ensures;
    } in
    minus_done U V S _ _ _ _ _ c.minus.result _ _ c.args.from c.args.len h c.weigh_sum.ensures c.minus.ensures

pub times_of-head_of-b-requires : goal.times_of-head_of-b-requires
times_of-head_of-b-requires t c =
    let U = term_of c.args.u.now in
    let V = term_of c.args.v.now in
    let S = c.args.segs.now in
    let f : SFits w64 c.args.from = c.ranges.from in
    let e : to_z w64 (of_z w64 c.args.from) ≡ c.args.from = to_z-of_z w64 c.args.from f in
    let us : c.split_at.result.0.now ≡ take (names_in U) S = c.split_at.ensures.front ∙ ap (λ n. take n S) c.names-n.ensures in
    let vs : c.split_at.result.1.now ≡ drop (names_in U) S = c.split_at.ensures.back ∙ ap (λ n. drop n S) c.names-n.ensures in
    let p : AreParts U V S c.split_at.result.0.now c.split_at.result.1.now (length c.split_at_mut-left.result.0.now) (length c.split_at_mut-left.result.1.now) = record {
      left = us;
      right = vs;
      room_left = omega (arith, c.split_at_mut-left.ensures.front_len, c.names-n.ensures);
      room_right = omega (arith, c.split_at_mut-left.ensures.back_len, c.names-n.ensures, c.requires.room);
    } in
    (search rules, subst (λ i. CanForm V c.split_at.result.1.now (length c.split_at_mut-left.result.1.now) i c.args.len) (sym e) (times_ready U V S _ _ _ _ _ c.args.from c.args.len c.requires p).right)

pub times_of-head_of-a-requires : goal.times_of-head_of-a-requires
times_of-head_of-a-requires t c =
    let U = term_of c.args.u.now in
    let V = term_of c.args.v.now in
    let S = c.args.segs.now in
    let f : SFits w64 c.args.from = c.ranges.from in
    let e : to_z w64 (of_z w64 c.args.from) ≡ c.args.from = to_z-of_z w64 c.args.from f in
    let us : c.split_at.result.0.now ≡ take (names_in U) S = c.split_at.ensures.front ∙ ap (λ n. take n S) c.names-n.ensures in
    let vs : c.split_at.result.1.now ≡ drop (names_in U) S = c.split_at.ensures.back ∙ ap (λ n. drop n S) c.names-n.ensures in
    let p : AreParts U V S c.split_at.result.0.now c.split_at.result.1.now (length c.split_at_mut-left.result.0.now) (length c.split_at_mut-left.result.1.now) = record {
      left = us;
      right = vs;
      room_left = omega (arith, c.split_at_mut-left.ensures.front_len, c.names-n.ensures);
      room_right = omega (arith, c.split_at_mut-left.ensures.back_len, c.names-n.ensures, c.requires.room);
    } in
    (search rules, subst (λ i. CanForm U c.split_at.result.0.now (length c.split_at_mut-left.result.0.now) i c.args.len) (sym e) (times_ready U V S _ _ _ _ _ c.args.from c.args.len c.requires p).left)

pub times_of-weigh_product-requires : goal.times_of-weigh_product-requires
times_of-weigh_product-requires t c =
    let U = term_of c.args.u.now in
    let V = term_of c.args.v.now in
    let S = c.args.segs.now in
    let f : SFits w64 c.args.from = c.ranges.from in
    let e : to_z w64 (of_z w64 c.args.from) ≡ c.args.from = to_z-of_z w64 c.args.from f in
    let us : c.split_at.result.0.now ≡ take (names_in U) S = c.split_at.ensures.front ∙ ap (λ n. take n S) c.names-n.ensures in
    let vs : c.split_at.result.1.now ≡ drop (names_in U) S = c.split_at.ensures.back ∙ ap (λ n. drop n S) c.names-n.ensures in
    let h : AreFormed U V S c.split_at.result.0.now c.split_at.result.1.now c.head_of-a.new.weights c.head_of-b.new.weights c.head_of-a.result c.head_of-b.result c.args.from c.args.len = record {
      left = us;
      right = vs;
      formed_left = subst (λ i. IsFormed U c.split_at.result.0.now c.head_of-a.new.weights c.head_of-a.result i c.args.len) e c.head_of-a.ensures;
      formed_right = subst (λ i. IsFormed V c.split_at.result.1.now c.head_of-b.new.weights c.head_of-b.result i c.args.len) e c.head_of-b.ensures;
    } in
    let n : ProductAsks c.head_of-a.new.weights c.head_of-b.new.weights S c.head_of-a.result c.head_of-b.result c.args.len = times_asks U V S _ _ _ _ _ _ _ c.args.from c.args.len c.requires h in
    n.needs

pub times_of-multiply-requires-clause-fits : goal.times_of-multiply-requires-clause-fits
times_of-multiply-requires-clause-fits t c =
    let U = term_of c.args.u.now in
    let V = term_of c.args.v.now in
    let S = c.args.segs.now in
    let f : SFits w64 c.args.from = c.ranges.from in
    let e : to_z w64 (of_z w64 c.args.from) ≡ c.args.from = to_z-of_z w64 c.args.from f in
    let us : c.split_at.result.0.now ≡ take (names_in U) S = c.split_at.ensures.front ∙ ap (λ n. take n S) c.names-n.ensures in
    let vs : c.split_at.result.1.now ≡ drop (names_in U) S = c.split_at.ensures.back ∙ ap (λ n. drop n S) c.names-n.ensures in
    let h : AreFormed U V S c.split_at.result.0.now c.split_at.result.1.now c.head_of-a.new.weights c.head_of-b.new.weights c.head_of-a.result c.head_of-b.result c.args.from c.args.len = record {
      left = us;
      right = vs;
      formed_left = subst (λ i. IsFormed U c.split_at.result.0.now c.head_of-a.new.weights c.head_of-a.result i c.args.len) e c.head_of-a.ensures;
      formed_right = subst (λ i. IsFormed V c.split_at.result.1.now c.head_of-b.new.weights c.head_of-b.result i c.args.len) e c.head_of-b.ensures;
    } in
    let n : ProductAsks c.head_of-a.new.weights c.head_of-b.new.weights S c.head_of-a.result c.head_of-b.result c.args.len = times_asks U V S _ _ _ _ _ _ _ c.args.from c.args.len c.requires h in
    n.fits

pub times_of-returns : goal.times_of-returns
times_of-returns t c =
    let U = term_of c.args.u.now in
    let V = term_of c.args.v.now in
    let S = c.args.segs.now in
    let f : SFits w64 c.args.from = c.ranges.from in
    let e : to_z w64 (of_z w64 c.args.from) ≡ c.args.from = to_z-of_z w64 c.args.from f in
    let us : c.split_at.result.0.now ≡ take (names_in U) S = c.split_at.ensures.front ∙ ap (λ n. take n S) c.names-n.ensures in
    let vs : c.split_at.result.1.now ≡ drop (names_in U) S = c.split_at.ensures.back ∙ ap (λ n. drop n S) c.names-n.ensures in
    let h : AreFormed U V S c.split_at.result.0.now c.split_at.result.1.now c.head_of-a.new.weights c.head_of-b.new.weights c.head_of-a.result c.head_of-b.result c.args.from c.args.len = record {
      left = us;
      right = vs;
      formed_left = subst (λ i. IsFormed U c.split_at.result.0.now c.head_of-a.new.weights c.head_of-a.result i c.args.len) e c.head_of-a.ensures;
      formed_right = subst (λ i. IsFormed V c.split_at.result.1.now c.head_of-b.new.weights c.head_of-b.result i c.args.len) e c.head_of-b.ensures;
    } in
    times_done U V S _ _ _ _ _ c.multiply.result _ _ c.args.from c.args.len h c.weigh_product.ensures c.multiply.ensures

pub head_of-returns-in-Shift : goal.head_of-returns-in-Shift
head_of-returns-in-Shift t c =
    let U = term_of c.deref-in-Shift.result.now in
    let f : SFits w64 c.args.from = c.ranges.from in
    let k : SFits w64 c.in-Shift.k = search rules in
    let r : SFits w64 c.moved_back-back.result = search rules in
    let v : c.moved_back-back.result ≡ (c.args.from -ℤ c.in-Shift.k) = simp to_z-of_z at c.moved_back-back.ensures in
    let h : IsFormed U c.args.segs.now c.head_of.new.weights c.head_of.result c.moved_back-back.result c.args.len =
    subst (λ i. IsFormed U c.args.segs.now c.head_of.new.weights c.head_of.result i c.args.len) (to_z-of_z w64 c.moved_back-back.result r) c.head_of.ensures in
    subst (λ (x : Term). IsFormed x c.args.segs.now c.head_of.new.weights c.head_of.result c.args.from c.args.len)
    (sym (ap term_of c.in-Shift.is ∙ ap (λ x. shift x c.in-Shift.k) (ap term_of (sym c.deref-in-Shift.ensures))))
    (shift_done U c.in-Shift.k c.args.segs.now c.head_of.new.weights c.head_of.result c.args.from c.moved_back-back.result c.args.len v h)

pub head_of-base_of-requires : goal.head_of-base_of-requires
head_of-base_of-requires t c =
    let e : term_of c.args.t.now ≡ base c.in-Base.field-0 = ap term_of c.in-Base.is in
    let f : SFits w64 c.args.from = c.ranges.from in (
      c.in-Base.field-0,
      subst (λ i. CanForm (base c.in-Base.field-0) c.args.segs.now (length c.args.weights.now) i c.args.len) (sym (to_z-of_z w64 c.args.from f))
          (subst (λ (x : Term). CanForm x c.args.segs.now (length c.args.weights.now) c.args.from c.args.len) e c.requires),
    )

pub head_of-returns-in-Base : goal.head_of-returns-in-Base
head_of-returns-in-Base t c =
    let e : term_of c.args.t.now ≡ base c.in-Base.field-0 = ap term_of c.in-Base.is in
    let f : SFits w64 c.args.from = c.ranges.from in
    let i = to_z-of_z w64 c.args.from f in
    let can : CanForm (base c.in-Base.field-0) c.args.segs.now (length c.args.weights.now) c.args.from c.args.len = subst (λ (x : Term). CanForm x c.args.segs.now (length c.args.weights.now) c.args.from c.args.len) e c.requires in
    subst (λ (x : Term). IsFormed x c.args.segs.now c.base_of.new.weights c.base_of.result c.args.from c.args.len) (sym e)
    (subst (λ j. IsFormed (base c.in-Base.field-0) c.args.segs.now c.base_of.new.weights c.base_of.result j c.args.len) i
    (c.base_of.ensures c.in-Base.field-0 (subst (λ j. CanForm (base c.in-Base.field-0) c.args.segs.now (length c.args.weights.now) j c.args.len) (sym i) can)))

pub head_of-returns-in-Const : goal.head_of-returns-in-Const
head_of-returns-in-Const t c =
    let f : SFits w128 c.in-Const.v = search rules in
    let h = c.constant_head.ensures c.args.len in
    let k : IsHead c.constant_head.result c.args.len (constant_shape c.in-Const.v) (λ _. c.in-Const.v) = simp to_z-of_z at h in
    let e : term_of c.args.t.now ≡ constant c.in-Const.v _ _ = ap term_of c.in-Const.is in
    subst (λ (x : Term). IsFormed x c.args.segs.now c.args.weights.now c.constant_head.result c.args.from c.args.len) (sym e)
    (constant_formed c.in-Const.v _ _ c.args.segs.now c.args.weights.now c.constant_head.result c.args.from c.args.len (c.requires.room ∙ ap names_in e) k)

pub head_of-returns-in-Bare : goal.head_of-returns-in-Bare
head_of-returns-in-Bare t c =
    let f : SFits w128 c.in-Bare.v = search rules in
    let h = c.constant_head-in-Bare.ensures c.args.len in
    let k : IsHead c.constant_head-in-Bare.result c.args.len (constant_shape c.in-Bare.v) (λ _. c.in-Bare.v) = simp to_z-of_z at h in
    let e : term_of c.args.t.now ≡ bare c.in-Bare.v = ap term_of c.in-Bare.is in
    subst (λ (x : Term). IsFormed x c.args.segs.now c.args.weights.now c.constant_head-in-Bare.result c.args.from c.args.len) (sym e)
    (bare_formed c.in-Bare.v c.args.segs.now c.args.weights.now c.constant_head-in-Bare.result c.args.from c.args.len (c.requires.room ∙ ap names_in e) k)
