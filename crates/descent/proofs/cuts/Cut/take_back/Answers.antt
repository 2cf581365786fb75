use Rattle.std.proofs.Common.{◌≡◌, None, Some, set, get_or, sym, ap, subst, ◌∙◌, arith}
use Rattle.std.proofs.lemmas.List.{length-set}
use Rattle.semantics.specs.Admission.{sums_of}
use Rattle.expr.specs.Terms.{query_term_of}
use Rattle.descent.specs.declared.cuts.State.{State}
use Rattle.descent.specs.Rows.{Track, with_rows}
use Rattle.descent.specs.Known.{AreApart}
use Rattle.descent.specs.Sound.{IsSoundTrack}
use Rattle.descent.specs.CutFields.{before_of, CanBeTakenBack, IsKeptAs}
use Rattle.descent.specs.Held.{Held, CutView, row_in}
use Rattle.descent.specs.Laid.{held, restored, CanGoBack}
use Rattle.descent.proofs.Backs.{can-at, set-restored}
use Rattle.descent.proofs.KeepingLaws.{kept-back}
use Rattle.descent.proofs.Tracks.{names-set, rising-set}
use Rattle.descent.proofs.cuts.Cut.take_back.Goals as goal

pub index_mut-requires : goal.index_mut-requires
index_mut-requires g c =
    let xs = c.self.inside.tables.items in
    let ch = c.in-Some.change in
    let lt = (can-at xs ch.table ch.row (subst (CanBeTakenBack xs) c.in-Some.is c.self.invariant.back)).0 in
    let ok = c.self.inside.tables.ok.0 in
    omega arith

pub put_back-requires-clause-back : goal.put_back-requires-clause-back
put_back-requires-clause-back g c =
    let xs = c.self.inside.tables.items in
    let ch = c.in-Some.change in
    let t = c.index_mut.result.now in
    let can = (can-at xs ch.table ch.row (subst (CanBeTakenBack xs) c.in-Some.is c.self.invariant.back)).1 t in
    subst (λ (u : Track (Held g.row.I.Denot)). CanGoBack ch.row u.rows) (sym c.index_mut.ensures.value) can.0

pub put_back-requires-clause-sound : goal.put_back-requires-clause-sound
put_back-requires-clause-sound g c =
    let xs = c.self.inside.tables.items in
    let ch = c.in-Some.change in
    let t = c.index_mut.result.now in
    let can = (can-at xs ch.table ch.row (subst (CanBeTakenBack xs) c.in-Some.is c.self.invariant.back)).1 t in
    subst (λ (u : Track (Held g.row.I.Denot)). IsSoundTrack (with_rows row_in (let v : Track (Held g.row.I.Denot) = record u { rows = restored (held ch.row) u.rows } in v))) (sym c.index_mut.ensures.value) can.1

pub invariant_of-self : goal.invariant_of-self
invariant_of-self g c =
    let xs = c.self.inside.tables.items in
    let ch = c.in-Some.change in
    let t = c.index_mut.result.now in
    let lt = (can-at xs ch.table ch.row (subst (CanBeTakenBack xs) c.in-Some.is c.self.invariant.back)).0 in
    let n = length-set xs ch.table c.put_back.new.self in
    let h = held ch.row in
    let new = c.put_back.new.self in
    let e : new ≡ record (get_or xs ch.table t) { rows = restored h (get_or xs ch.table t).rows } = c.put_back.ensures ∙ ap (λ (u : Track (Held g.row.I.Denot)). let v : Track (Held g.row.I.Denot) = record u { rows = restored h u.rows } in v) c.index_mut.ensures.value in
    let ss = sums_of (query_term_of c.self.inside.query) in
    let ks = c.self.inside.kept.items in
    record {
      few = omega (arith, c.self.invariant.few, n);
      rising = rising-set 0 xs ch.table c.put_back.new.self t c.self.invariant.rising lt (ap (λ (q : Track (Held g.row.I.Denot)). q.series) c.put_back.ensures ∙ ap (λ (q : Track (Held g.row.I.Denot)). q.series) c.index_mut.ensures.value);
      apart = subst AreApart (sym (names-set xs ch.table c.put_back.new.self t lt (ap (λ (q : Track (Held g.row.I.Denot)). q.name) c.put_back.ensures ∙ ap (λ (q : Track (Held g.row.I.Denot)). q.name) c.index_mut.ensures.value))) c.self.invariant.apart;
      back = tt;
      kept = subst (λ (s : State). IsKeptAs s (set xs ch.table new) None ss ks) (sym c.back-self-inside.ensures)
          (kept-back c.self.inside.state xs (set xs ch.table new) c.self.inside.last ch ss ks c.in-Some.is (sym (set-restored xs ch.table h t new lt e)) c.self.invariant.kept);
    }

pub returns-clause-tracks : goal.returns-clause-tracks
returns-clause-tracks g c =
    let xs = c.self.inside.tables.items in
    let ch = c.in-Some.change in
    let t = c.index_mut.result.now in
    let h = held ch.row in
    let lt = (can-at xs ch.table ch.row (subst (CanBeTakenBack xs) c.in-Some.is c.self.invariant.back)).0 in
    let e : c.put_back.new.self ≡ record (get_or xs ch.table t) { rows = restored h (get_or xs ch.table t).rows } = c.put_back.ensures ∙ ap (λ (u : Track (Held g.row.I.Denot)). let v : Track (Held g.row.I.Denot) = record u { rows = restored h u.rows } in v) c.index_mut.ensures.value in
    ap (λ (v : CutView g.row.I.Denot). v.before) (sym c.self.view_is) ∙ ap (before_of xs) c.in-Some.is ∙ ap Some (sym (set-restored xs ch.table h t c.put_back.new.self lt e))
