use Rattle.std.proofs.Common.{◌≡◌, ◌≤◌, ◌<◌, ◌-◌, ◌^◌, get_or, take, sym, ap, subst, ◌∙◌, arith, rules, pos, unsigned_abs}
use Rattle.std.proofs.lemmas.List.{get_or-take}
use Rattle.std.proofs.lemmas.Int.{to_z-of_z}
use mir.Val.{SFits}
use mir.Syntax.{w32}
use Rattle.semantics.specs.Readings.{reading}
use Rattle.segment.specs.Measure.{unit_seg}
use Rattle.descent.specs.Laid.{held}
use Rattle.descent.proofs.Standing.{held-opened, seg-opened, within-of}
use Rattle.descent.proofs.tables.Row.seg_at.Goals as goal

pub bounds-xs-position : goal.bounds-xs-position
bounds-xs-position g c =
    let r = c.args.self.now in
    let xs = c.in-Some.xs in
    let s = c.requires.sound.1 in
    let small = s.read (take r.seg.len xs) (held-opened r xs c.in-Some.is) in
    let w = within-of r.seg c.args.position c.requires.covered in
    let low = w.low in
    let high = w.high in
    let few = small.few in
    omega arith

pub unit-requires : goal.unit-requires
unit-requires g c =
    let r = c.args.self.now in
    let d = c.requires.sound.0 in
    let xs = c.in-Some.xs in
    let s = c.requires.sound.1 in
    let all = s.read (take r.seg.len xs) (held-opened r xs c.in-Some.is) in
    let w = within-of r.seg c.args.position c.requires.covered in
    let low = w.low in
    let high = w.high in
    let i = c.args.position - r.seg.start in
    let lt : i < r.seg.len = omega arith in
    let e : reading (take r.seg.len xs) i ≡ get_or xs i (pos 0) = get_or-take r.seg.len xs i (pos 0) lt in
    let small : unsigned_abs (get_or xs i (pos 0)) ≤ d = subst (λ z. unsigned_abs z ≤ d) e (all.small i) in
    let root = s.sane.root in
    let fits : SFits w32 (get_or xs i (pos 0)) = search rules in
    subst (λ z. unsigned_abs z ≤ 10 ^ 9) (sym (to_z-of_z w32 (get_or xs i (pos 0)) fits)) (omega arith)

pub returns-in-Some : goal.returns-in-Some
returns-in-Some g c =
    let r = c.args.self.now in
    let d = c.requires.sound.0 in
    let xs = c.in-Some.xs in
    let s = c.requires.sound.1 in
    let w = within-of r.seg c.args.position c.requires.covered in
    let low = w.low in
    let high = w.high in
    let i = c.args.position - r.seg.start in
    let lt : i < r.seg.len = omega arith in
    let e : reading (take r.seg.len xs) i ≡ get_or xs i (pos 0) = get_or-take r.seg.len xs i (pos 0) lt in
    let whole = seg-opened d c.args.position (held r).row (take r.seg.len xs) s (held-opened r xs c.in-Some.is) w ∙ ap (unit_seg c.args.position) e in
    let fits : SFits w32 (get_or xs i (pos 0)) = search rules in
    c.unit.ensures.seg ∙ ap (unit_seg c.args.position) (to_z-of_z w32 (get_or xs i (pos 0)) fits) ∙ sym whole
