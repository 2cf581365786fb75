use Rattle.store_file.proofs.GrownLaws.{growth-has-room}
use Rattle.store_file.proofs.laws.growth_has_room.Goals as goal

pub returns : goal.returns
returns c = growth-has-room
