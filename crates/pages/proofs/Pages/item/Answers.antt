use Rattle.std.proofs.Common.{◌≡◌, ◌+◌, ◌*◌, ◌/◌, ◌%◌, get_or, ap, ◌∙◌, sym, arith}
use Rattle.std.proofs.lemmas.List.{get_or_default}
use Rattle.std.specs.Prelude.{box_value}
use Rattle.pages.specs.Pages.{item_at}
use Rattle.pages.proofs.Laws.{view-length, view-item, place-within}
use Rattle.pages.proofs.Pages.item.Goals as goal

pub index-requires : goal.index-requires
index-requires g c =
    let p = c.self.inside in
    let n = view-length (item_at p.numbers.items p.items.items (box_value p.blank)) p.len c.args.self.now c.self.view_is in
    let enough = c.self.invariant.enough in
    omega (arith, c.requires, p.numbers.ok)

pub overflow_mul-index : goal.overflow_mul-index
overflow_mul-index g c =
    let p = c.self.inside in
    let within = place-within p.numbers.items p.items.items (box_value p.blank) c.args.at c.self.invariant.pages in
    let n = view-length (item_at p.numbers.items p.items.items (box_value p.blank)) p.len c.args.self.now c.self.view_is in
    let enough = c.self.invariant.enough in
    let read = get_or_default p.numbers.items (c.args.at / 4) c.index.result.now 0 (omega (arith, c.requires)) in
    omega (arith, c.index.ensures, p.items.ok, p.items.small)

pub overflow_add-index : goal.overflow_add-index
overflow_add-index g c =
    let p = c.self.inside in
    let within = place-within p.numbers.items p.items.items (box_value p.blank) c.args.at c.self.invariant.pages in
    let n = view-length (item_at p.numbers.items p.items.items (box_value p.blank)) p.len c.args.self.now c.self.view_is in
    let enough = c.self.invariant.enough in
    let read = get_or_default p.numbers.items (c.args.at / 4) c.index.result.now 0 (omega (arith, c.requires)) in
    omega (arith, c.index.ensures, p.items.ok, p.items.small)

pub index-requires-2 : goal.index-requires-2
index-requires-2 g c =
    let p = c.self.inside in
    let within = place-within p.numbers.items p.items.items (box_value p.blank) c.args.at c.self.invariant.pages in
    let n = view-length (item_at p.numbers.items p.items.items (box_value p.blank)) p.len c.args.self.now c.self.view_is in
    let enough = c.self.invariant.enough in
    let read = get_or_default p.numbers.items (c.args.at / 4) c.index.result.now 0 (omega (arith, c.requires)) in
    omega (arith, c.index.ensures, p.items.ok)

pub returns : goal.returns
returns g c =
    let p = c.self.inside in
    let x = c.index-2.result.now in
    let within = place-within p.numbers.items p.items.items (box_value p.blank) c.args.at c.self.invariant.pages in
    let n = view-length (item_at p.numbers.items p.items.items (box_value p.blank)) p.len c.args.self.now c.self.view_is in
    let enough = c.self.invariant.enough in
    let read = get_or_default p.numbers.items (c.args.at / 4) c.index.result.now 0 (omega (arith, c.requires)) in
    let place : 4 * c.index.result.now + c.args.at % 4 ≡ 4 * get_or p.numbers.items (c.args.at / 4) 0 + c.args.at % 4 =
    omega (arith, c.index.ensures) in
    let item = view-item (item_at p.numbers.items p.items.items (box_value p.blank)) p.len c.args.self.now c.args.at x c.self.view_is
    (omega (arith, c.requires)) in
    c.index-2.ensures ∙ ap (λ k. get_or p.items.items k x) place
    ∙ get_or_default p.items.items (4 * get_or p.numbers.items (c.args.at / 4) 0 + c.args.at % 4) x (box_value p.blank) within
    ∙ sym item
