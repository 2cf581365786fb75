use Rattle.std.proofs.Common.{◌≡◌, ◌+◌, ◌*◌, ◌/◌, ◌<◌, get_or, vec_capacity, refl, arith}
use Rattle.std.proofs.lemmas.List.{get_or_default}
use Rattle.pages.proofs.Laws.{owned-le, owned-less, next-items, next-pages, IsLonger}
use Rattle.pages.proofs.page_for.Goals as goal

pub overflow_cast-number : goal.overflow_cast-number
overflow_cast-number g c =
    let few = owned-le c.args.numbers.now.items in
    let ok = c.args.items.now.ok in
    omega (arith, c.requires.pages.full, c.requires.few, c.len-number.ensures)

pub unreachable-requires : goal.unreachable-requires
unreachable-requires g c =
    let ns = c.args.numbers.now.items in
    let read = get_or_default ns c.args.page c.index.result.now 0 c.requires.within in
    let is = c.index.ensures in
    let none : get_or ns c.args.page 0 ≡ 0 = omega (arith, c.if-index-gt0.false) in
    let less = owned-less ns c.args.page c.requires.within none in
    let full = c.requires.pages.full in
    let room = c.requires.room in
    let ok = c.args.items.now.ok in
    let len = c.len-number.ensures in
    let short : vec_capacity c.args.items.now < 4 * (c.len-number.result / 4 + 1) =
    rw c.in_default.is at c.resize.ensures.full in
    omega arith

pub returns-clause-pages : goal.returns-clause-pages
returns-clause-pages g c =
    let ns = c.args.numbers.now.items in
    let read = get_or_default ns c.args.page c.index.result.now 0 c.requires.within in
    let is = c.index.ensures in
    let none : get_or ns c.args.page 0 ≡ 0 = omega (arith, c.if-index-gt0.false) in
    let full = c.requires.pages.full in
    let ok = c.args.items.now.ok in
    let len = c.len-number.ensures in
    let long = c.resize.new.self.ok in
    let grown : IsLonger c.args.items.now.items c.resize.new.self.items c.args.blank = record {
      full = let n = rw c.in-Ok.is at c.resize.ensures.len in omega arith;
      same = λ i lt. c.resize.ensures.by_index.0 i c.args.blank (omega arith) (omega arith);
      more = λ i low high. c.resize.ensures.by_index.1 i c.args.blank (rw c.in-Ok.is refl) (omega arith) (omega arith);
    } in
    next-pages ns c.args.items.now.items c.resize.new.self.items c.args.blank c.args.page (c.len-number.result / 4)
    c.requires.pages grown c.requires.within none (omega arith)

pub returns-clause-same : goal.returns-clause-same
returns-clause-same g c =
    let ns = c.args.numbers.now.items in
    let read = get_or_default ns c.args.page c.index.result.now 0 c.requires.within in
    let is = c.index.ensures in
    let none : get_or ns c.args.page 0 ≡ 0 = omega (arith, c.if-index-gt0.false) in
    let full = c.requires.pages.full in
    let ok = c.args.items.now.ok in
    let len = c.len-number.ensures in
    let long = c.resize.new.self.ok in
    let grown : IsLonger c.args.items.now.items c.resize.new.self.items c.args.blank = record {
      full = let n = rw c.in-Ok.is at c.resize.ensures.len in omega arith;
      same = λ i lt. c.resize.ensures.by_index.0 i c.args.blank (omega arith) (omega arith);
      more = λ i low high. c.resize.ensures.by_index.1 i c.args.blank (rw c.in-Ok.is refl) (omega arith) (omega arith);
    } in
    next-items ns c.args.items.now.items c.resize.new.self.items c.args.blank c.args.page (c.len-number.result / 4)
    c.requires.pages grown c.requires.within none (omega arith)
