use Rattle.std.proofs.Common.{◌≡◌, ◌+◌, subst, arith}
use Rattle.std.specs.Prelude.{min}
use Rattle.descent.specs.Held.{shown}
use Rattle.descent.specs.Readers.{reader_at}
use Rattle.descent.specs.Said.{ReadsAt}
use Rattle.descent.proofs.ReaderLaws.{reads-at}
use Rattle.descent.proofs.SayLaws.{next-stretch}
use Rattle.descent.proofs.said.stretch.Goals as goal

pub loop-o-preserved : goal.loop-o-preserved
loop-o-preserved g c =
    let r = c.requires in
    let new : c.min-len.result ≡ min c.loop-o.len c.left_in_row.result = c.min-len.ensures in
    next-stretch (shown c.args.tables.now) r.0 r.1 r.2 c.args.readers.now c.args.from c.args.most c.loop-o.o c.loop-o.len c.left_in_row.result c.min-len.result r.3 (omega arith) c.loop-o.invariant c.left_in_row.ensures new

pub left_in_row-requires : goal.left_in_row-requires
left_in_row-requires g c =
    let r = c.requires in
    let cut = shown c.args.tables.now in
    let rs = c.args.readers.now in
    let e : c.args.from + 0 ≡ c.args.from = omega arith in
    subst (λ k. ReadsAt cut k (reader_at rs c.loop-o.o)) e
    (reads-at cut r.0 r.1 r.2 rs c.args.from c.args.most 0 c.loop-o.o r.3 r.3.some (omega arith))

pub returns-clause-still : goal.returns-clause-still
returns-clause-still g c = λ o row lt has. c.loop-o.invariant.still o row (omega arith) has
