use Rattle.segment.proofs.Bounds.{greatest_reading-le, bounded-wide}
use Rattle.segment.proofs.fitting.fit.Goals as goal
use Rattle.segment.proofs.fitting.fit.Goals.{in-0, in-1, in_default}

pub line_fit-best-requires-clause-magnitude : goal.line_fit-best-requires-clause-magnitude
line_fit-best-requires-clause-magnitude c = rw c.greatest_reading-d.ensures (greatest_reading-le c.args.xs.now c.requires.small)

pub parabola_fit-best-requires-clause-magnitude : goal.parabola_fit-best-requires-clause-magnitude
parabola_fit-best-requires-clause-magnitude c = rw c.greatest_reading-d.ensures (greatest_reading-le c.args.xs.now c.requires.small)

pub greatest_estimate-f-requires-clause-bounded : goal.greatest_estimate-f-requires-clause-bounded
greatest_estimate-f-requires-clause-bounded c =
    elim c.match-degree.branch [
      | in-0 w ↦ rw w.best-is (bounded-wide _ _ c.args.xs.now c.requires.small w.level_fit-best.ensures.bounded)
      | in-1 w ↦ rw w.best-is (bounded-wide _ _ c.args.xs.now c.requires.small w.line_fit-best.ensures.bounded)
      | in_default w ↦ rw w.best-is (bounded-wide _ _ c.args.xs.now c.requires.small w.parabola_fit-best.ensures.bounded)
    ]
