use Rattle.store_file.proofs.ImageLaws.{images-differ}
use Rattle.store_file.proofs.laws.images_differ.Goals as goal

pub returns : goal.returns
returns c = images-differ
