use Rattle.std.proofs.Common.{◌≡◌, List, ℕ, length, replicate, map, ap, ap₂, ◌∙◌, arith}
use Rattle.std.specs.List.{range_with_len}
use Rattle.std.specs.Prelude.{box_value}
use Rattle.pages.specs.Pages.{item_at}
use Rattle.pages.proofs.Laws.{first-pages, first-items, zeros-length}
use Rattle.pages.proofs.Pages.filled.Goals as goal

pub invariant_of-result : goal.invariant_of-result
invariant_of-result g c =
    let n = c.div_ceil-pages.result in
    let numbers : c.in_ok-numbers.numbers.items ≡ replicate n 0 =
    c.in_ok-numbers.ensures.items_if_clones_equal (λ y e. e) in
    let grown = rw c.in-Ok.is at c.resize.ensures.items in
    let items : c.resize.new.self.items ≡ replicate 4 c.args.blank =
    rw (c.in_ok-items.ensures.items, c.in_ok-items.ensures.len) at grown in
    let exact = c.in_ok-items.ensures.exact in
    let more = c.resize.ensures.capacity in
    let up = c.div_ceil-pages.ensures in
    let boxed : box_value c.in_ok-blank.blank ≡ c.args.blank = c.in_ok-blank.ensures.ok in
    let count : length c.in_ok-numbers.numbers.items ≡ n = ap length numbers ∙ zeros-length n in
    record {
      pages = rw (numbers, items, boxed) (first-pages n c.args.blank);
      enough = omega arith;
      few = omega arith;
      room = omega arith;
    }

pub returns : goal.returns
returns g c =
    let n = c.div_ceil-pages.result in
    let numbers : c.in_ok-numbers.numbers.items ≡ replicate n 0 =
    c.in_ok-numbers.ensures.items_if_clones_equal (λ y e. e) in
    let grown = rw c.in-Ok.is at c.resize.ensures.items in
    let items : c.resize.new.self.items ≡ replicate 4 c.args.blank =
    rw (c.in_ok-items.ensures.items, c.in_ok-items.ensures.len) at grown in
    let boxed : box_value c.in_ok-blank.blank ≡ c.args.blank = c.in_ok-blank.ensures.ok in
    ap₂ (λ (ns : List ℕ) (xs : List g.row.T.Denot). map (item_at ns xs (box_value c.in_ok-blank.blank)) (range_with_len 0 c.args.len))
    numbers items
    ∙ ap (λ (b : g.row.T.Denot). map (item_at (replicate n 0) (replicate 4 c.args.blank) b) (range_with_len 0 c.args.len)) boxed ∙ first-items n c.args.len c.args.blank
