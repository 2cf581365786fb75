use Rattle.std.proofs.Common.{◌≡◌, ◌≤◌, ◌+◌, ◌∙◌, take, sym, ap, arith}
use Rattle.outside.proofs.PartLaws.{take-lengthened, take-written}
use Rattle.outside.proofs.whole_files.read_more.Goals as goal

pub returns-in-Ok-clause-bytes : goal.returns-in-Ok-clause-bytes
returns-in-Ok-clause-bytes g c =
    let old = c.args.into.now.items in
    let start = c.len-start.result in
    let count = c.in-Ok.count in
    let part = c.read.new.buf in
    let kept : take start c.deref_mut.result.now ≡ old =
    ap (take start) (c.deref_mut.ensures.value ∙ c.in_ok-resize.ensures.items) ∙ take-lengthened old _ start c.in-Some.long (omega arith) (omega arith)
    in
    let fits : start + count ≤ c.resize.new.self.len = omega (arith, c.in-Ok.ensures.bound.0, c.in_ok-resize.ensures.len, c.deref_mut.ensures.len) in
    let items = c.truncate.ensures.items
    ∙ take-written old c.deref_mut.result.now part _ _ start count c.resize.new.self.len kept (omega arith) c.in-Ok.ensures.bound.0 fits
    in
    (take count part, c.in-Ok.ensures.bytes.0, items, sym c.in-Ok.ensures.bound.1)
