use Rattle.store_file.proofs.DecodedLaws.{decode-image, image-decode}
use Rattle.store_file.proofs.decoding.bytes_decode.Goals as goal

pub returns-clause-read : goal.returns-clause-read
returns-clause-read c = decode-image

pub returns-clause-written : goal.returns-clause-written
returns-clause-written c = λ bytes m are e. let stands = image-decode bytes m are e in (stands.image, stands.store)
