use Rattle.std.proofs.Common.{◌≡◌, ℕ, ◌+◌, ◌*◌, ◌/◌, ◌%◌, ◌<◌, List, get_or, set, map, ap, subst, ◌∙◌, arith}
use Rattle.std.specs.List.{range_with_len}
use Rattle.std.specs.Prelude.{box_value}
use Rattle.pages.specs.Pages.{item_at, ArePages}
use Rattle.pages.proofs.Laws.{view-length, map-same, put-items, put-pages}
use Rattle.pages.proofs.Pages.put.Goals as goal

pub page_for-number-requires-clause-within : goal.page_for-number-requires-clause-within
page_for-number-requires-clause-within g c =
    let p = c.self.inside in
    let n = view-length (item_at p.numbers.items p.items.items (box_value p.blank)) p.len c.args.self.now c.self.view_is in
    let enough = c.self.invariant.enough in
    omega (arith, c.requires)

pub invariant_of-self : goal.invariant_of-self
invariant_of-self g c =
    let p = c.self.inside in
    let e = c.page_for-number.ensures in
    let lent : c.deref.result.now ≡ box_value p.blank = c.deref.ensures in
    let place = 4 * c.page_for-number.result + c.args.at % 4 in
    record {
      pages = put-pages c.page_for-number.new.numbers.items c.page_for-number.new.items.items (box_value p.blank) c.args.item place
          (subst (ArePages c.page_for-number.new.numbers.items c.page_for-number.new.items.items) lent e.pages) (omega (arith, e.own));
      enough = omega (arith, e.count, c.self.invariant.enough);
      few = omega (arith, e.count, c.self.invariant.few);
      room = e.room;
    }

pub returns : goal.returns
returns g c =
    let p = c.self.inside in
    let e = c.page_for-number.ensures in
    let lent : c.deref.result.now ≡ box_value p.blank = c.deref.ensures in
    let ns = c.page_for-number.new.numbers.items in
    let xs = c.page_for-number.new.items.items in
    let at = c.args.at in
    let x = c.args.item in
    let n = view-length (item_at p.numbers.items p.items.items (box_value p.blank)) p.len c.args.self.now c.self.view_is in
    let same = subst (λ (b : g.row.T.Denot). (i : ℕ) → item_at ns xs b i ≡ item_at p.numbers.items p.items.items b i) lent e.same in
    let place : 4 * c.page_for-number.result + at % 4 ≡ 4 * get_or ns (at / 4) 0 + at % 4 = omega (arith, e.number) in
    let own : 0 < get_or ns (at / 4) 0 = omega (arith, e.number, e.own) in
    ap (λ (k : ℕ). map (item_at ns (set xs k x) (box_value p.blank)) (range_with_len 0 p.len)) place
    ∙ put-items ns xs (box_value p.blank) x at p.len (subst (ArePages ns xs) lent e.pages) own (omega (arith, c.requires))
    ∙ ap (λ (ys : List g.row.T.Denot). set ys at x)
    (map-same (item_at ns xs (box_value p.blank)) (item_at p.numbers.items p.items.items (box_value p.blank)) (range_with_len 0 p.len) same
    ∙ c.self.view_is)
