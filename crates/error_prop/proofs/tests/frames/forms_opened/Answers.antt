use Rattle.std.proofs.Common.{pos, List, [], ◌∷◌, map, subst, sym, ap, ◌∙◌}
use Rattle.semantics.specs.Term.{base, times, Term}
use Rattle.expr.specs.Facts.{facts_of}
use Rattle.bounds.specs.Cut.{occurrences, Entry}
use Rattle.error_prop.specs.Entries.{IsFrame}
use Rattle.error_prop.specs.Places.{flat, occ_of, span_of, IsShort}
use Rattle.error_prop.proofs.KnownFrames.{are_known, opened_frame, opened_known, opened_short, three}
use Rattle.error_prop.proofs.tests.frames.forms_opened.Goals as goal

pub forms_over-requires-clause-frame : goal.forms_over-requires-clause-frame
forms_over-requires-clause-frame c = subst IsFrame (sym c.in_ok-f.ensures) opened_frame

pub forms_over-requires-clause-short : goal.forms_over-requires-clause-short
forms_over-requires-clause-short c = subst IsShort (sym c.in_ok-f.ensures) opened_short

pub forms_over-requires-clause-known : goal.forms_over-requires-clause-known
forms_over-requires-clause-known c = are_known (facts_of c.in_ok-facts.facts) c.in_ok-f.f 3 three c.in_ok-facts.ensures c.in_ok-f.ensures opened_known

pub forms_over-requires-clause-spans : goal.forms_over-requires-clause-spans
forms_over-requires-clause-spans c = ap (λ (es : List Entry). map span_of (flat es)) (sym c.in_ok-f.ensures)

pub forms_over-requires-clause-occs : goal.forms_over-requires-clause-occs
forms_over-requires-clause-occs c =
    ap (λ (es : List Entry). map (occ_of es) (occurrences (times (base (120 ∷ [])) (base (121 ∷ []))) (pos 0))) (sym c.in_ok-f.ensures)
    ∙ ap (λ (t : Term). map (occ_of c.in_ok-f.f) (occurrences t (pos 0))) (sym c.in_ok-t.ensures)
