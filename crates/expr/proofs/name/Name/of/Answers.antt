use Rattle.std.proofs.Common.{◌≡◌, true, sym}
use Rattle.semantics.specs.Names.{is_name}
use Rattle.expr.proofs.NameLaws.{IsNameFields-written, is_name-word}
use Rattle.expr.proofs.name.Name.of.Goals as goal

pub invariant_of-result : goal.invariant_of-result
invariant_of-result c =
    let name : is_name c.args.bytes.now ≡ true = is_name-word c.args.bytes.now (sym c.if-not-is_word.ensures) (sym c.if-is_reserved.ensures) in
    let copied = c.copy_from_slice.ensures.after in
    rw copied (IsNameFields-written c.args.bytes.now name)
