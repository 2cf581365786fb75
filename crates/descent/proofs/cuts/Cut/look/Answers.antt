use Rattle.std.proofs.Common.{◌≡◌, List, length, sym, ap, subst, ◌∙◌, arith}
use Rattle.std.specs.List.{All}
use Rattle.semantics.specs.Admission.{sums_of}
use Rattle.expr.specs.Terms.{query_term_of}
use Rattle.error_prop.specs.Queries.{lines_of, IsCombined}
use Rattle.error_prop.specs.QueryOver.{sums_over}
use Rattle.descent.specs.Rows.{Track, entries}
use Rattle.descent.specs.Charging.{IsLight}
use Rattle.descent.specs.Changed.{CanKeep}
use Rattle.descent.specs.Choice.{charge, charged_rows, choice, heaviest, pick_if}
use Rattle.descent.specs.Held.{CutView, Held, shown}
use Rattle.descent.specs.Keeping.{CanKeepAll}
use Rattle.descent.specs.KeptSums.{AreKeptSums, IsKeptSum}
use Rattle.descent.proofs.ChoiceLaws.{choice-none, lines-length, sums-length}
use Rattle.descent.proofs.KeepingLaws.{can-at, chosen, kept-at, kept-length, same-kept}
use Rattle.descent.proofs.Reached.{closed-if}
use Rattle.descent.proofs.Spelling.{spelling_tells_queries}
use Rattle.descent.proofs.Works.{counts}
use Rattle.descent.proofs.cuts.Cut.look.Goals as goal

pub combined-requires-clause-kept : goal.combined-requires-clause-kept
combined-requires-clause-kept g c =
    let q = query_term_of c.args.q.now in
    let f = c.self.inside in
    let own : query_term_of f.query ≡ q = spelling_tells_queries (query_term_of f.query) q (ap (λ (v : CutView g.row.I.Denot). v.query) c.self.view_is ∙ c.requires.query) in
    same-kept f.state f.tables.items c.as_slice-tables.result.now f.last (query_term_of f.query) q f.kept.items (sym c.as_slice-tables.ensures.value) own c.self.invariant.kept

pub invariant_of-self : goal.invariant_of-self
invariant_of-self g c =
    let q = query_term_of c.args.q.now in
    let f = c.self.inside in
    let own : query_term_of f.query ≡ q = spelling_tells_queries (query_term_of f.query) q (ap (λ (v : CutView g.row.I.Denot). v.query) c.self.view_is ∙ c.requires.query) in
    record {
      few = c.self.invariant.few;
      rising = c.self.invariant.rising;
      apart = c.self.invariant.apart;
      back = c.self.invariant.back;
      kept = same-kept c.combined.new.state c.as_slice-tables.result.now f.tables.items f.last q (query_term_of f.query) c.combined.new.kept.items c.as_slice-tables.ensures.value (sym own) c.combined.ensures.kept;
    }

pub invariant_of-self-in_default : goal.invariant_of-self-in_default
invariant_of-self-in_default g c =
    let q = query_term_of c.args.q.now in
    let f = c.self.inside in
    let own : query_term_of f.query ≡ q = spelling_tells_queries (query_term_of f.query) q (ap (λ (v : CutView g.row.I.Denot). v.query) c.self.view_is ∙ c.requires.query) in
    record {
      few = c.self.invariant.few;
      rising = c.self.invariant.rising;
      apart = c.self.invariant.apart;
      back = c.self.invariant.back;
      kept = same-kept c.combined.new.state c.as_slice-tables.result.now f.tables.items f.last q (query_term_of f.query) c.combined.new.kept.items c.as_slice-tables.ensures.value (sym own) c.combined.ensures.kept;
    }

pub invariant_of-self-2 : goal.invariant_of-self-2
invariant_of-self-2 g c =
    let q = query_term_of c.args.q.now in
    let f = c.self.inside in
    let own : query_term_of f.query ≡ q = spelling_tells_queries (query_term_of f.query) q (ap (λ (v : CutView g.row.I.Denot). v.query) c.self.view_is ∙ c.requires.query) in
    record {
      few = c.self.invariant.few;
      rising = c.self.invariant.rising;
      apart = c.self.invariant.apart;
      back = c.self.invariant.back;
      kept = same-kept c.combined.new.state c.as_slice-tables.result.now f.tables.items f.last q (query_term_of f.query) c.combined.new.kept.items c.as_slice-tables.ensures.value (sym own) c.combined.ensures.kept;
    }

pub heaviest_line-requires : goal.heaviest_line-requires
heaviest_line-requires g c = subst (All IsLight) (sym c.as_slice.ensures) c.in_ok-out.ensures.light

pub returns-in_default-clause-choice : goal.returns-in_default-clause-choice
returns-in_default-clause-choice g c =
    let q = query_term_of c.args.q.now in
    let ts = c.self.inside.tables.items in
    let out = subst (λ (us : List (Track (Held g.row.I.Denot))). IsCombined q (sums_over (entries (shown us)) q) c.in_ok-out.out) c.as_slice-tables.ensures.value c.in_ok-out.ensures.out in
    let sums : c.as_slice.result.now ≡ lines_of q (sums_over (entries (shown ts)) q) (counts (shown ts) q) = c.as_slice.ensures ∙ out.sums in
    sym (choice-none (shown ts) q c.as_slice.result.now sums c.in_default.ensures) ∙ ap (λ (v : CutView g.row.I.Denot). choice q (shown v.tracks)) c.self.view_is

pub index-sum-requires : goal.index-sum-requires
index-sum-requires g c =
    let q = query_term_of c.args.q.now in
    let ts = c.self.inside.tables.items in
    let out = subst (λ (us : List (Track (Held g.row.I.Denot))). IsCombined q (sums_over (entries (shown us)) q) c.in_ok-out.out) c.as_slice-tables.ensures.value c.in_ok-out.ensures.out in
    let sums : c.as_slice.result.now ≡ lines_of q (sums_over (entries (shown ts)) q) (counts (shown ts) q) = c.as_slice.ensures ∙ out.sums in
    let kept = subst (λ (us : List (Track (Held g.row.I.Denot))). AreKeptSums (shown us) (sums_of q) c.combined.new.kept.items) c.as_slice-tables.ensures.value c.in_ok-out.ensures.current in
    let n = ap length sums ∙ lines-length (shown ts) q (counts (shown ts) q) c.requires.plain in
    let m = kept-length (shown ts) (sums_of q) c.combined.new.kept.items kept in
    let l = sums-length q c.requires.plain in
    let within = c.in-Some.ensures.within in
    let ok = c.combined.new.kept.ok.0 in
    omega arith

pub returns-clause-choice : goal.returns-clause-choice
returns-clause-choice g c =
    let q = query_term_of c.args.q.now in
    let ts = c.self.inside.tables.items in
    let out = subst (λ (us : List (Track (Held g.row.I.Denot))). IsCombined q (sums_over (entries (shown us)) q) c.in_ok-out.out) c.as_slice-tables.ensures.value c.in_ok-out.ensures.out in
    let sums : c.as_slice.result.now ≡ lines_of q (sums_over (entries (shown ts)) q) (counts (shown ts) q) = c.as_slice.ensures ∙ out.sums in
    let kept = subst (λ (us : List (Track (Held g.row.I.Denot))). AreKeptSums (shown us) (sums_of q) c.combined.new.kept.items) c.as_slice-tables.ensures.value c.in_ok-out.ensures.current in
    let can = subst (λ (us : List (Track (Held g.row.I.Denot))). CanKeepAll (shown us) (sums_of q)) c.as_slice-tables.ensures.value c.in_ok-out.ensures.can in
    chosen (shown ts) q c.as_slice.result.now c.in-Some.k c.heaviest-row.result c.requires.plain sums c.in-Some.ensures
    (λ s at. subst (λ (us : List (Track (Held g.row.I.Denot))). CanKeep (shown us) s → IsKeptSum (shown us) s c.index-sum.result.now → c.heaviest-row.result ≡ pick_if (heaviest charge (charged_rows (shown us) s)))
    c.as_slice-2.ensures.value (c.heaviest-row.ensures s) (can-at (shown ts) c.in-Some.k s (sums_of q) at can) (kept-at (shown ts) c.in-Some.k s (sums_of q) c.combined.new.kept.items c.index-sum.result.now at kept c.index-sum.ensures))
    ∙ ap (λ (v : CutView g.row.I.Denot). choice q (shown v.tracks)) c.self.view_is

pub returns-clause-closed : goal.returns-clause-closed
returns-clause-closed g c = closed-if (query_term_of c.args.q.now) c.args.self.now.tracks c.heaviest-row.result (returns-clause-choice g c)

pub returns-clause-out : goal.returns-clause-out
returns-clause-out g c =
    let q = query_term_of c.args.q.now in
    let same = c.as_slice-tables.ensures.value ∙ ap (λ (v : CutView g.row.I.Denot). v.tracks) c.self.view_is in
    subst (λ (ts : List (Track (Held g.row.I.Denot))). IsCombined q (sums_over (entries (shown ts)) q) c.in_ok-out.out) same c.in_ok-out.ensures.out

pub returns-in_default-clause-out : goal.returns-in_default-clause-out
returns-in_default-clause-out g c =
    let q = query_term_of c.args.q.now in
    let same = c.as_slice-tables.ensures.value ∙ ap (λ (v : CutView g.row.I.Denot). v.tracks) c.self.view_is in
    subst (λ (ts : List (Track (Held g.row.I.Denot))). IsCombined q (sums_over (entries (shown ts)) q) c.in_ok-out.out) same c.in_ok-out.ensures.out
