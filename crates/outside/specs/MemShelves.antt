-- What a shelf in memory holds.
use Rattle.std.specs.Prelude.{ℕ, List, Option}
use Rattle.semantics.specs.Files.{Files}
use Rattle.outside.specs.Calls.{faults_by}
use Rattle.outside.specs.MapFiles.{files_of}
use Rattle.outside.specs.declared.memory_shelf.MemShelf.{MemShelf}

abbrev pub files_in : MemShelf → Files
files_in s = files_of s.files

-- the numbers of the reading calls that are to fail
abbrev pub failing_reads : MemShelf → List ℕ
failing_reads s = s.fail_reads.items

abbrev pub reads_made : MemShelf → ℕ
reads_made s = s.reads

-- the numbers of the replacing calls that are to fail
abbrev pub failing_replaces : MemShelf → List ℕ
failing_replaces s = s.fail_replaces.items

abbrev pub replaces_made : MemShelf → ℕ
replaces_made s = s.replaces

-- how many places of the lists hold the number of a call that was made
abbrev pub read_faults_of : MemShelf → ℕ
read_faults_of s = faults_by (failing_reads s) (reads_made s)

abbrev pub replace_faults_of : MemShelf → ℕ
replace_faults_of s = faults_by (failing_replaces s) (replaces_made s)

-- how many bytes were handed out in parts, while the number fits
abbrev pub bytes_handed : MemShelf → Option ℕ
bytes_handed s = s.handed

-- how often a file was fetched, while the number fits
abbrev pub fetches_made : MemShelf → Option ℕ
fetches_made s = s.fetches
