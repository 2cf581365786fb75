-- `prove`: the certificate of what a query comes to over the series of a store.
use Rattle.std.specs.Prelude.{◌≡◌, ◌++◌, ℕ, List, codes, Option, Some, None, Ok}
use Rattle.answer_check.specs.Certificate.{cert_text, certificate_for}
use Rattle.answer_check.specs.declared.certificate.Cert.{Cert}
use Rattle.descent.specs.declared.descents.Answer.{Answer}
use Rattle.semantics.specs.Files.{Files, IfTold, file_of}
use Rattle.semantics.specs.Term.{QueryTerm}
use Rattle.store_file.specs.Added.{names_in}
use Rattle.store_file.specs.StoreValue.{StoreValue, IsStoreValue, store_image}
use Rattle.query_cli.specs.Asked.{Asked, IsAnswerOf}
use Rattle.query_cli.specs.Commands.Query.{IsReadInParts, QueryCommand, asked_by, query_in}
use Rattle.query_cli.specs.Reading.{Reading}

abbrev pub cert_line : Cert → List ℕ
cert_line c = cert_text c ++ codes "\n"

-- the certificate of the interval and the cut that `query` tells: of the query as given, before it is made plain
pub record IsCertified (a : Asked) (budget : ℕ) (text : List ℕ) : Type 0 where
  pub answer : Answer
  pub is_answer : IsAnswerOf a budget answer
  pub line : text ≡ cert_line (certificate_for (names_in a.store) a.query budget answer)

-- the certificate of the query over the store; over parts of a file that stands for none, some certificate
abbrev pub CertifiesAsked : ℕ → Option Asked → List ℕ → Type 0
CertifiesAsked budget None text = (c : Cert) × (text ≡ cert_line c)
CertifiesAsked budget (Some asked) text = IsCertified asked budget text

pub record ProveAnswers (reading : Reading) (c : QueryCommand) (text : List ℕ) : Type 0 where
  pub asked : Option Asked
  pub found : asked_by reading c ≡ Ok asked
  pub certificate : CertifiesAsked c.budget asked text

-- ---- how much of STORE is read

-- no more is handed out for a certificate than its rows take
pub record IsCertifiedInParts (a : Asked) (budget : ℕ) (text : List ℕ) (before now : Option ℕ) : Type 0 where
  pub certified : IsCertified a budget text
  pub parts : IsReadInParts a.store a.query certified.answer.cut before now

-- the same, where the files are told and STORE stands for a store
abbrev pub ProveHands : Option Files → QueryCommand → List ℕ → Option ℕ → Option ℕ → Type 0
ProveHands files c text before now = IfTold files (λ k. (q : QueryTerm) (m : StoreValue) → query_in c.text ≡ Ok q
    → IsStoreValue m → file_of k c.store ≡ Some (store_image m)
    → IsCertifiedInParts (record { store = m; query = q }) c.budget text before now)
