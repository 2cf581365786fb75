use Rattle.std.proofs.Common.{◌≡◌, sym, subst, ◌∙◌}
use Rattle.std.proofs.lemmas.List.{get_or-drop}
use Rattle.tops.specs.Tops.{number}
use Rattle.tops.proofs.Tops.get.Goals as goal

pub returns : goal.returns
returns c =
    subst (λ xs. c.number_at.result ≡ number xs c.args.at) c.self.view_is
    (c.number_at.ensures ∙ sym (get_or-drop c.self.inside.size c.self.inside.nodes c.args.at 0))
