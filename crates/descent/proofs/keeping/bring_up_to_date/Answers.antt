use Rattle.std.proofs.Common.{◌≡◌, Option, Some, subst}
use Rattle.semantics.specs.Admission.{sums_of}
use Rattle.expr.specs.Terms.{query_term_of}
use Rattle.descent.specs.declared.cuts.Change.{Change}
use Rattle.descent.specs.declared.cuts.State.{State}
use Rattle.descent.specs.declared.cuts.State.TheVariants.{Noted}
use Rattle.descent.specs.CutFields.{restored_at, CanBeTakenBack, CanGoBackAt, IsKeptAs}
use Rattle.descent.specs.Held.{shown}
use Rattle.descent.specs.Laid.{held}
use Rattle.descent.proofs.Changes.{has-changed}
use Rattle.descent.proofs.keeping.bring_up_to_date.Goals as goal

pub take_over_all-requires-clause-before : goal.take_over_all-requires-clause-before
take_over_all-requires-clause-before g c =
    let ts = c.args.tables.now in
    let ch = c.in-Noted-Some.change in
    let ss = sums_of (query_term_of c.args.q.now) in
    let last : c.args.last.now ≡ Some ch = c.in-Noted-Some.is-1 in
    let back : CanGoBackAt ch.table ch.row ts = subst (CanBeTakenBack ts) last c.requires.back in
    let noted : c.args.state.now ≡ Noted = c.in-Noted-Some.is-0 in
    let kept = subst (λ (s : State). IsKeptAs s ts c.args.last.now ss c.args.kept.now.items) noted c.requires.kept in
    (shown (restored_at ch.table (held ch.row) ts), has-changed ch.table ch.row ts back c.requires.sound, subst (λ (o : Option (Change g.row.I.Denot)). IsKeptAs Noted ts o ss c.args.kept.now.items) last kept)
