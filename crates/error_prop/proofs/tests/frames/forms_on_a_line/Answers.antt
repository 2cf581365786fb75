use Rattle.std.proofs.Common.{pos, List, [], ◌∷◌, map, refl, subst, sym, ap, ◌∙◌, arith}
use Rattle.semantics.specs.Term.{base, shift, times, Term}
use Rattle.segment.specs.declared.segments.Seg.{Seg}
use Rattle.segment.specs.Measure.{IsSane}
use Rattle.expr.specs.Facts.{facts_of}
use Rattle.bounds.specs.Cut.{occurrences, Entry}
use Rattle.error_prop.specs.Entries.{IsFrame}
use Rattle.error_prop.specs.Places.{flat, occ_of, span_of, IsShort}
use Rattle.error_prop.proofs.KnownFrames.{are_known, roots_frame, roots_known, roots_short}
use Rattle.error_prop.proofs.tests.frames.forms_on_a_line.Goals as goal

abbrev line : Seg
line = record { start = 0; len = 3; a = pos 16384; b = pos 16384; c = pos 0; l = 0; d = 3; f = 49152 }

line_sane : IsSane line 10
line_sane = record {
  bounded = record { constant = omega arith; linear = omega arith; square = omega arith };
  below_root = omega arith;
  root = omega arith;
  estimates = omega arith;
  misses = omega arith;
}

pub forms_over-requires-clause-frame : goal.forms_over-requires-clause-frame
forms_over-requires-clause-frame c = subst IsFrame (sym c.in_ok-f.ensures) (roots_frame line refl)

pub forms_over-requires-clause-short : goal.forms_over-requires-clause-short
forms_over-requires-clause-short c = subst IsShort (sym c.in_ok-f.ensures) (roots_short line (omega arith))

pub forms_over-requires-clause-known : goal.forms_over-requires-clause-known
forms_over-requires-clause-known c = are_known (facts_of c.in_ok-facts.facts) c.in_ok-f.f 3 (line ∷ []) c.in_ok-facts.ensures c.in_ok-f.ensures (roots_known line line_sane)

pub forms_over-requires-clause-spans : goal.forms_over-requires-clause-spans
forms_over-requires-clause-spans c = ap (λ (es : List Entry). map span_of (flat es)) (sym c.in_ok-f.ensures)

pub forms_over-requires-clause-occs : goal.forms_over-requires-clause-occs
forms_over-requires-clause-occs c =
    ap (λ (es : List Entry). map (occ_of es) (occurrences (times (base (120 ∷ [])) (shift (base (120 ∷ [])) (pos 1))) (pos 0))) (sym c.in_ok-f.ensures)
    ∙ ap (λ (t : Term). map (occ_of c.in_ok-f.f) (occurrences t (pos 0))) (sym c.in_ok-t.ensures)
