use Rattle.std.proofs.Common.{◌≡◌, ◌∷◌, [], List, ℕ, length, replicate, ap, ap₂, ◌∙◌, arith}
use Rattle.std.specs.Prelude.{box_value}
use Rattle.pages.specs.Sparse.{listed}
use Rattle.pages.proofs.Laws.{zeros-length}
use Rattle.pages.proofs.Singles.{first-singles, first-listed}
use Rattle.pages.proofs.sparse.Sparse.filled.Goals as goal

pub invariant_of-result : goal.invariant_of-result
invariant_of-result g c =
    let n = c.args.len in
    let numbers : c.in_ok-numbers.numbers.items ≡ replicate n 0 =
    c.in_ok-numbers.ensures.items_if_clones_equal (λ y e. e) in
    let grown = rw c.in-Ok.is at c.resize.ensures.items in
    let items : c.resize.new.self.items ≡ c.args.blank ∷ [] =
    rw (c.in_ok-items.ensures.items, c.in_ok-items.ensures.len) at grown in
    let exact = c.in_ok-items.ensures.exact in
    let more = c.resize.ensures.capacity in
    let boxed : box_value c.in_ok-blank.blank ≡ c.args.blank = c.in_ok-blank.ensures.ok in
    let count : length c.in_ok-numbers.numbers.items ≡ n = ap length numbers ∙ zeros-length n in
    record {
      singles = rw (numbers, items, boxed) (first-singles n c.args.blank);
      few = omega (arith, c.requires);
      room = omega arith;
    }

pub returns : goal.returns
returns g c =
    let n = c.args.len in
    let numbers : c.in_ok-numbers.numbers.items ≡ replicate n 0 =
    c.in_ok-numbers.ensures.items_if_clones_equal (λ y e. e) in
    let grown = rw c.in-Ok.is at c.resize.ensures.items in
    let items : c.resize.new.self.items ≡ c.args.blank ∷ [] =
    rw (c.in_ok-items.ensures.items, c.in_ok-items.ensures.len) at grown in
    let boxed : box_value c.in_ok-blank.blank ≡ c.args.blank = c.in_ok-blank.ensures.ok in
    ap₂ (λ (ns : List ℕ) (xs : List g.row.T.Denot). listed ns xs (box_value c.in_ok-blank.blank)) numbers items
    ∙ ap (λ (b : g.row.T.Denot). listed (replicate n 0) (c.args.blank ∷ []) b) boxed ∙ first-listed n c.args.blank
