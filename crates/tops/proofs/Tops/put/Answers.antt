use Rattle.std.proofs.Common.{List, ℕ, set, drop, ap, ◌∙◌}
use Rattle.std.proofs.lemmas.List.{drop-set-add}
use Rattle.tops.proofs.Tops.put.Goals as goal

pub returns : goal.returns
returns c =
    let xs = c.self.inside.nodes in
    c.join_above.ensures.same ∙ ap (λ (ys : List ℕ). drop c.self.inside.size ys) c.put.ensures
    ∙ drop-set-add c.self.inside.size xs c.args.at c.args.value
    ∙ ap (λ (ys : List ℕ). set ys c.args.at c.args.value) c.self.view_is
