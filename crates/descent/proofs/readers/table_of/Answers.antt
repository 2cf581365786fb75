use Rattle.std.proofs.Common.{◌≡◌, ◌<◌, ◌+◌, suc, false, true, drop, length, ap, sym, ◌∙◌, arith}
use Rattle.semantics.specs.Names.{same_name}
use Rattle.descent.specs.Held.{shown}
use Rattle.descent.specs.Readers.{track_of}
use Rattle.descent.proofs.ReaderLaws.{track-found, track-none, track-passed}
use Rattle.descent.proofs.readers.table_of.Goals as goal

pub returns-then-eq : goal.returns-then-eq
returns-then-eq g c =
    let lt : c.loop-i.i < length c.args.tables.now = omega arith in
    let same : same_name c.index-tables-i.result.name c.args.name.now ≡ true = ap (λ n. same_name n c.args.name.now) (sym c.name.ensures) ∙ sym c.eq.ensures ∙ c.if-eq.true in
    let none = track-found c.args.tables.now c.loop-i.i c.args.name.now c.index-tables-i.result c.index-tables-i.is lt same in
    let inv = c.loop-i.invariant in
    omega arith

pub loop-i-preserved : goal.loop-i-preserved
loop-i-preserved g c =
    let i = c.loop-i.i in
    let lt : i < length c.args.tables.now = omega arith in
    let other : same_name c.index-tables-i.result.name c.args.name.now ≡ false = ap (λ n. same_name n c.args.name.now) (sym c.name.ensures) ∙ sym c.eq.ensures ∙ c.if-eq.false in
    let next = track-passed c.args.tables.now i c.args.name.now c.index-tables-i.result c.index-tables-i.is lt other in
    let inv = c.loop-i.invariant in
    let e : i + 1 ≡ suc i = omega arith in
    let z : track_of (shown c.args.tables.now) c.args.name.now ≡ suc i + track_of (drop (suc i) (shown c.args.tables.now)) c.args.name.now = omega arith in
    rw e z

pub returns : goal.returns
returns g c =
    let i = c.loop-i.i in
    let all : length c.args.tables.now ≡ i = omega arith in
    let none = track-none c.args.tables.now i c.args.name.now (omega arith) in
    let inv = c.loop-i.invariant in
    omega arith
