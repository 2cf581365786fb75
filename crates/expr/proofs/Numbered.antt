-- Laws of the rules over lists, for the walks over a query.
use Rattle.semantics.proofs.AdmissionLaws.{first_refusal-append, first_refusal-node}
use Rattle.std.proofs.Common.{length-append}
use Rattle.std.proofs.lemmas.List.Folds.{find-append}

pub ruleset found = (find-append)

pub ruleset numbered = (first_refusal-append, length-append)

pub ruleset noded = (first_refusal-node, length-append)
