-- The number of a status.
use Rattle.std.specs.Prelude.{ℕ}
use Rattle.query_cli.specs.declared.status.Status.{Status}
use Rattle.query_cli.specs.declared.status.Status.TheVariants as status

abbrev pub number_of_status : Status → ℕ
number_of_status status.Ok = 0
number_of_status status.Memory = 1
number_of_status status.Usage = 2
number_of_status status.ReadFault = 3
number_of_status status.ReplaceFault = 4
number_of_status status.OutFault = 5
number_of_status status.Absent = 6
number_of_status status.TooBig = 7
number_of_status status.BadCsv = 8
number_of_status status.BadStore = 9
number_of_status status.SeriesFault = 10
number_of_status status.BadQuery = 11
number_of_status status.Domain = 12
number_of_status status.Range = 13
number_of_status status.Rejected = 14
number_of_status status.BadCert = 15
number_of_status status.BadScript = 16
number_of_status status.ArenaFull = 17
