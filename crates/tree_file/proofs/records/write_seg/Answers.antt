use Rattle.std.proofs.Common.{refl, arith, ◌∙◌, w64, SFits, rules}
use Rattle.std.proofs.lemmas.Int.{to_z-of_z}
use Rattle.tree_file.specs.Record.{record_of}
use Rattle.tree_file.proofs.RecordLaws.{six_fields}
use Rattle.tree_file.proofs.records.write_seg.Goals as goal

pub returns : goal.returns
unfolding record_of
returns c =
    let a : SFits w64 c.args.s.now.a = search rules in
    let b : SFits w64 c.args.s.now.b = search rules in
    let g : SFits w64 c.args.s.now.c = search rules in
    six_fields _ _ _ _ _ _ _ _ _ _ _ _ c.put_at.ensures c.put_at-2.ensures c.put_at-3.ensures c.put_at-4.ensures c.put_at-5.ensures c.put_at-6.ensures (omega arith)
    ∙ rw (c.bits.ensures.value, c.bits-2.ensures.value, c.bits-3.ensures.value, c.from.ensures, c.from-2.ensures, to_z-of_z w64 c.args.s.now.a a, to_z-of_z w64 c.args.s.now.b b, to_z-of_z w64 c.args.s.now.c g) refl
