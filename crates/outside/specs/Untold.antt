-- Files of which nothing is told.
use Rattle.std.specs.Prelude.{Option, None}
use Rattle.semantics.specs.Files.{Files}

abbrev pub untold : Option Files
untold = None
