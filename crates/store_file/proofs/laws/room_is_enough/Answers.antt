use Rattle.store_file.proofs.AddedLaws.{room-is-enough}
use Rattle.store_file.proofs.laws.room_is_enough.Goals as goal

pub returns : goal.returns
returns c = room-is-enough
