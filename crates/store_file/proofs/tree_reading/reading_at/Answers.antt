use Rattle.std.proofs.Common.{ap, ◌∙◌, arith, w32, SFits, rules}
use Rattle.std.proofs.lemmas.Int.{to_z-of_z}
use Rattle.tree_file.specs.Bytes.{unwrapped}
use Rattle.store_file.proofs.TreeReading.{cast-unwrapped, reading-read}
use Rattle.store_file.proofs.tree_reading.reading_at.Goals as goal

pub overflow_cast-get_unsigned : goal.overflow_cast-get_unsigned
overflow_cast-get_unsigned c =
    let read = reading-read c.args.bytes.now c.args.place _ c.get_unsigned.result (λ i. omega (arith, c.type_inv.bytes i)) c.requires (omega arith) c.get_unsigned.ensures in
    omega (arith, read.1)

pub returns : goal.returns
returns c =
    let fits : SFits w32 c.cast_signed.result = search rules in
    let read = reading-read c.args.bytes.now c.args.place _ c.get_unsigned.result (λ i. omega (arith, c.type_inv.bytes i)) c.requires (omega arith) c.get_unsigned.ensures in
    to_z-of_z w32 c.cast_signed.result fits ∙ c.cast_signed.ensures ∙ cast-unwrapped c.get_unsigned.result ∙ ap (unwrapped 4) read.0
