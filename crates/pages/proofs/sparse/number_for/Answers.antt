use Rattle.std.proofs.Common.{◌≡◌, ◌+◌, ◌<◌, get_or, vec_capacity, refl, arith}
use Rattle.std.proofs.lemmas.List.{get_or_default}
use Rattle.pages.proofs.Laws.{owned-le, owned-less}
use Rattle.pages.proofs.Singles.{next-listed, next-singles, IsOneLonger}
use Rattle.pages.proofs.sparse.number_for.Goals as goal

pub overflow_cast-number : goal.overflow_cast-number
overflow_cast-number g c =
    let few = owned-le c.args.numbers.now.items in
    let ok = c.args.items.now.ok in
    omega (arith, c.requires.singles.full, c.requires.few, c.len-number.ensures)

pub unreachable-requires : goal.unreachable-requires
unreachable-requires g c =
    let ns = c.args.numbers.now.items in
    let read = get_or_default ns c.args.at c.index.result.now 0 c.requires.within in
    let is = c.index.ensures in
    let none : get_or ns c.args.at 0 ≡ 0 = omega (arith, c.if-index-gt0.false) in
    let less = owned-less ns c.args.at c.requires.within none in
    let full = c.requires.singles.full in
    let room = c.requires.room in
    let ok = c.args.items.now.ok in
    let len = c.len-number.ensures in
    let short : vec_capacity c.args.items.now < c.len-number.result + 1 = rw c.in_default.is at c.resize.ensures.full in
    omega arith

pub returns-clause-singles : goal.returns-clause-singles
returns-clause-singles g c =
    let ns = c.args.numbers.now.items in
    let read = get_or_default ns c.args.at c.index.result.now 0 c.requires.within in
    let is = c.index.ensures in
    let none : get_or ns c.args.at 0 ≡ 0 = omega (arith, c.if-index-gt0.false) in
    let ok = c.args.items.now.ok in
    let len = c.len-number.ensures in
    let long = c.resize.new.self.ok in
    let grown : IsOneLonger c.args.items.now.items c.resize.new.self.items c.args.blank = record {
      full = let n = rw c.in-Ok.is at c.resize.ensures.len in omega arith;
      same = λ i lt. c.resize.ensures.by_index.0 i c.args.blank (omega arith) (omega arith);
      last = c.resize.ensures.by_index.1 _ c.args.blank (rw c.in-Ok.is refl) (omega arith) (omega arith);
    } in
    next-singles ns c.args.items.now.items c.resize.new.self.items c.args.blank c.args.at c.len-number.result
    c.requires.singles grown c.requires.within none (omega arith)

pub returns-clause-same : goal.returns-clause-same
returns-clause-same g c =
    let ns = c.args.numbers.now.items in
    let read = get_or_default ns c.args.at c.index.result.now 0 c.requires.within in
    let is = c.index.ensures in
    let none : get_or ns c.args.at 0 ≡ 0 = omega (arith, c.if-index-gt0.false) in
    let ok = c.args.items.now.ok in
    let len = c.len-number.ensures in
    let long = c.resize.new.self.ok in
    let grown : IsOneLonger c.args.items.now.items c.resize.new.self.items c.args.blank = record {
      full = let n = rw c.in-Ok.is at c.resize.ensures.len in omega arith;
      same = λ i lt. c.resize.ensures.by_index.0 i c.args.blank (omega arith) (omega arith);
      last = c.resize.ensures.by_index.1 _ c.args.blank (rw c.in-Ok.is refl) (omega arith) (omega arith);
    } in
    next-listed ns c.args.items.now.items c.resize.new.self.items c.args.blank c.args.at c.len-number.result
    c.requires.singles grown c.requires.within none (omega arith)
