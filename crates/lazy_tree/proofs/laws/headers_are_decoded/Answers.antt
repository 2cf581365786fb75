use Rattle.lazy_tree.proofs.RefusalLaws.{refusal-decoded, decoded-refusal}
use Rattle.lazy_tree.proofs.laws.headers_are_decoded.Goals as goal

pub returns-clause-refused : goal.returns-clause-refused
returns-clause-refused c = refusal-decoded

pub returns-clause-decoded : goal.returns-clause-decoded
returns-clause-decoded c = decoded-refusal
