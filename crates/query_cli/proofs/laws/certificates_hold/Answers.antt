use Rattle.query_cli.proofs.CertifiedLaws.{certificates-hold}
use Rattle.query_cli.proofs.laws.certificates_hold.Goals as goal

pub returns : goal.returns
returns c = certificates-hold
