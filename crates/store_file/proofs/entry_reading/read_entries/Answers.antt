use Rattle.std.proofs.Common.{List, ◌≡◌, ◌++◌, ◌∷◌, [], drop, Some, None, true, false, refl, sym, ap, ◌∙◌, inr, arith, length-drop}
use Rattle.store_file.specs.Decoded.{first_entry, names_of}
use Rattle.store_file.specs.StoreValue.{has_name}
use Rattle.store_file.specs.declared.header.Entry.{Entry}
use Rattle.store_file.proofs.EntryReading.{entries-step, entries-none, entries-there, entries-start, first_entry-size}
use Rattle.store_file.proofs.entry_reading.read_entries.Goals as goal

pub entries-init : goal.entries-init
entries-init c = record { within = c.requires; rest = entries-start c.args.count c.new-entries.result.items c.args.bytes.now c.new-entries.ensures.items }

pub returns-in_default-clause-err : goal.returns-in_default-clause-err
returns-in_default-clause-err c =
    let none : first_entry (drop c.entries.place c.args.bytes.now) ≡ None = sym c.entry_at.ensures ∙ c.in_default.is in
    inr (c.entries.place, refl, sym c.entries.invariant.rest ∙ entries-none c.args.count c.entries.counter c.entries.place c.entries.entries.items c.args.bytes.now c.entries-test.true none)

pub returns-then-has-clause-err : goal.returns-then-has-clause-err
returns-then-has-clause-err c =
    let some : first_entry (drop c.entries.place c.args.bytes.now) ≡ Some c.in-Some.entry = sym c.entry_at.ensures ∙ c.in-Some.is in
    let there : has_name (names_of c.entries.entries.items) c.in-Some.entry.name ≡ true =
    ap (λ (es : List Entry). has_name (names_of es) c.in-Some.entry.name) (sym c.deref.ensures.value) ∙ sym c.has.ensures ∙ c.if-has.true in
    inr (c.entries.place, refl, sym c.entries.invariant.rest ∙ entries-there c.args.count c.entries.counter c.entries.place c.entries.entries.items c.args.bytes.now c.in-Some.entry c.entries-test.true some there)

pub entries-preserved : goal.entries-preserved
entries-preserved c =
    let some : first_entry (drop c.entries.place c.args.bytes.now) ≡ Some c.in-Some.entry = sym c.entry_at.ensures ∙ c.in-Some.is in
    let new : has_name (names_of c.entries.entries.items) c.in-Some.entry.name ≡ false =
    ap (λ (es : List Entry). has_name (names_of es) c.in-Some.entry.name) (sym c.deref.ensures.value) ∙ sym c.has.ensures ∙ c.if-has.false in
    let pushed : c.push.new.self.items ≡ c.entries.entries.items ++ c.in-Some.entry ∷ [] = c.in_ok-push.ensures.items in
    let room = first_entry-size (drop c.entries.place c.args.bytes.now) c.in-Some.entry some in
    rw (c.len_of-place.ensures.value, pushed) (record {
      within = omega (arith, room, length-drop c.entries.place c.args.bytes.now, c.entries.invariant.within);
      rest = entries-step c.args.count c.entries.counter c.entries.place c.entries.entries.items c.args.bytes.now c.in-Some.entry c.entries-test.true some new ∙ c.entries.invariant.rest;
    })
