use Rattle.std.proofs.Common.{◌∙◌, sym}
use Rattle.csv.specs.Records.{fields_of}
use Rattle.series_csv.proofs.TextLaws.{place-here, place-skip, place-past}
use Rattle.series_csv.proofs.column.place_of.Goals as goal

pub returns-then-eq : goal.returns-then-eq
returns-then-eq c =
    sym (place-here c.loop-i.i (fields_of c.args.header.now) c.args.column.now c.in-Some.field.now (sym c.in-Some.ensures.value) (sym c.if-eq.ensures)) ∙ c.loop-i.invariant

pub returns-in-None : goal.returns-in-None
returns-in-None c = sym (place-past c.loop-i.i (fields_of c.args.header.now) c.args.column.now (sym c.in-None.ensures.value)) ∙ c.loop-i.invariant

pub loop-i-preserved : goal.loop-i-preserved
loop-i-preserved c =
    sym (place-skip c.loop-i.i (fields_of c.args.header.now) c.args.column.now c.in-Some.field.now (sym c.in-Some.ensures.value) (sym c.if-eq.ensures)) ∙ c.loop-i.invariant
