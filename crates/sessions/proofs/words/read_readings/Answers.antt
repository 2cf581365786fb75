use Rattle.std.proofs.Common.{◌∙◌, SFits, ap, arith, length, rules, sym, w32}
use Rattle.std.proofs.lemmas.Int.{to_z-of_z}
use Rattle.sessions.specs.Script.{is_space}
use Rattle.sessions.proofs.WordLaws.{last_none, read_last, read_more, read_none, read_start, shorter}
use Rattle.sessions.proofs.words.read_readings.Goals as goal

pub words-init : goal.words-init
words-init c = read_start c.args.text.now c.new-xs.result.items c.new-xs.ensures.items

pub words-smaller : goal.words-smaller
words-smaller c = omega (arith, shorter is_space c.words.rest.now (sym c.has_space.ensures ∙ c.words-test.true), ap length c.behind_of-rest.ensures)

pub words-preserved : goal.words-preserved
words-preserved c =
    let fits : SFits w32 c.in-Some.x = search rules in
    let items = simp to_z-of_z at c.in_ok-put_reading.ensures in
    read_more c.args.text.now c.words.rest.now c.word_of.result.now c.behind_of-rest.result.now c.words.xs.items c.put_reading.new.xs.items c.in-Some.x
    (sym c.has_space.ensures ∙ c.words-test.true) c.word_of.ensures c.behind_of-rest.ensures c.in-Some.ensures items c.words.invariant

pub returns-in_default : goal.returns-in_default
returns-in_default c =
    read_none c.args.text.now c.words.rest.now c.word_of.result.now c.words.xs.items (sym c.has_space.ensures ∙ c.words-test.true) c.word_of.ensures
    c.in_default.ensures c.words.invariant

pub returns-in_default-read_reading : goal.returns-in_default-read_reading
returns-in_default-read_reading c =
    last_none c.args.text.now c.words.rest.now c.words.xs.items (sym c.has_space.ensures ∙ c.words-test.false) c.in_default-read_reading.ensures c.words.invariant

pub returns : goal.returns
returns c =
    let fits : SFits w32 c.in-Some-read_reading.x = search rules in
    let items = simp to_z-of_z at c.in_ok-put_reading-2.ensures in
    read_last c.args.text.now c.words.rest.now c.words.xs.items c.of.result c.in-Some-read_reading.x (sym c.has_space.ensures ∙ c.words-test.false)
    c.in-Some-read_reading.ensures (c.of.ensures ∙ items) c.words.invariant
