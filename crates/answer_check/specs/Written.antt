-- What a certificate keeps to that is written.
use Rattle.std.specs.Prelude.{◌≡◌, ◌≤◌, true, List, map, Some, unsigned_abs}
use Rattle.std.specs.List.{list_all, All}
use Rattle.semantics.specs.Most.{most_number}
use Rattle.semantics.specs.Names.{is_name}
use Rattle.expr_parse.specs.Printed.{is_query_byte}
use Rattle.answer_check.specs.declared.certificate.Cert.{Cert}
use Rattle.answer_check.specs.declared.certificate.CertList.{CertList}
use Rattle.answer_check.specs.Json.{each, row_data, row_of}

-- its rows are read as they are written
pub record IsReadAgain (l : CertList) : Type 0 where
  pub name : is_name l.name ≡ true
  pub rows : each (map row_of (map row_data l.rows)) ≡ Some l.rows

pub record AreReadAgain (ls : List CertList) : Type 0 where
  pub all : All IsReadAgain ls

pub record IsWritten (c : Cert) : Type 0 where
  pub budget : c.budget ≤ most_number
  pub lo : unsigned_abs c.lo ≤ most_number
  pub hi : unsigned_abs c.hi ≤ most_number
  pub query : list_all is_query_byte c.query ≡ true
  pub lists : AreReadAgain c.cut
