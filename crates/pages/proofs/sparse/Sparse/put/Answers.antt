use Rattle.std.proofs.Common.{◌≡◌, ℕ, ◌<◌, List, get_or, set, ap, subst, ◌∙◌, arith}
use Rattle.std.specs.Prelude.{box_value}
use Rattle.pages.specs.Sparse.{listed, AreSingles}
use Rattle.pages.proofs.Singles.{listed-length, put-listed}
use Rattle.pages.proofs.sparse.Sparse.put.Goals as goal

pub returns : goal.returns
returns g c =
    let p = c.self.inside in
    let b = box_value p.blank in
    let e = c.number_for-number.ensures in
    let lent : c.deref.result.now ≡ b = c.deref.ensures in
    let ns = c.number_for-number.new.numbers.items in
    let xs = c.number_for-number.new.items.items in
    let at = c.args.at in
    let x = c.args.item in
    let n = listed-length p.numbers.items p.items.items b c.args.self.now c.self.view_is in
    let same = subst (λ (b : g.row.T.Denot). listed ns xs b ≡ listed p.numbers.items p.items.items b) lent e.same in
    let own : 0 < get_or ns at 0 = omega (arith, e.number, e.own) in
    ap (λ (k : ℕ). listed ns (set xs k x) b) e.number
    ∙ put-listed ns xs b x at (subst (AreSingles ns xs) lent e.singles) own (omega (arith, c.requires, e.count))
    ∙ ap (λ (ys : List g.row.T.Denot). set ys at x) (same ∙ c.self.view_is)
