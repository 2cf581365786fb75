use Rattle.std.proofs.Common.{◌≡◌, ◌<◌, ◌+◌, ◌-◌, ◌∙◌, ap, sym, take, drop, length, arith}
use Rattle.store_file.specs.Header.{entry_of}
use Rattle.store_file.proofs.EntryReading.{first_entry-at}
use Rattle.store_file.proofs.entry_reading.entry_at.Goals as goal

pub returns : goal.returns
returns c =
    let within : c.args.place < length c.args.bytes.now = omega (arith, c.requires, c.if-place-bytes.false) in
    let len : (c.args.place + c.in-Some.len) - c.args.place ≡ c.in-Some.len = omega arith in
    c.read_entry.ensures ∙ ap (λ n. entry_of (take n (drop c.args.place c.args.bytes.now))) len
    ∙ first_entry-at c.args.bytes.now c.args.place c.in-Some.len within (sym c.in-Some.ensures)
