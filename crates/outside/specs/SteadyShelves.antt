-- What a steady shelf holds.
use Rattle.semantics.specs.Files.{Files}
use Rattle.outside.specs.MapFiles.{files_of}
use Rattle.outside.specs.declared.steady_shelf.SteadyShelf.{SteadyShelf}

abbrev pub files_on : SteadyShelf → Files
files_on s = files_of s.files
