use Rattle.std.proofs.Common.{◌≡◌, List, sym, ap, subst, ◌∙◌}
use Rattle.expr.specs.Terms.{query_term_of}
use Rattle.error_prop.specs.Queries.{IsCombined}
use Rattle.error_prop.specs.QueryOver.{sums_over}
use Rattle.descent.specs.Rows.{Track, entries}
use Rattle.descent.specs.Held.{CutView, Held, shown}
use Rattle.descent.proofs.KeepingLaws.{same-kept}
use Rattle.descent.proofs.Spelling.{spelling_tells_queries}
use Rattle.descent.proofs.cuts.Cut.interval.Goals as goal

pub combined-requires-clause-kept : goal.combined-requires-clause-kept
combined-requires-clause-kept g c =
    let q = query_term_of c.args.q.now in
    let f = c.self.inside in
    let own : query_term_of f.query ≡ q = spelling_tells_queries (query_term_of f.query) q (ap (λ (v : CutView g.row.I.Denot). v.query) c.self.view_is ∙ c.requires.query) in
    same-kept f.state f.tables.items c.as_slice-tables.result.now f.last (query_term_of f.query) q f.kept.items (sym c.as_slice-tables.ensures.value) own c.self.invariant.kept

pub invariant_of-self : goal.invariant_of-self
invariant_of-self g c =
    let q = query_term_of c.args.q.now in
    let f = c.self.inside in
    let own : query_term_of f.query ≡ q = spelling_tells_queries (query_term_of f.query) q (ap (λ (v : CutView g.row.I.Denot). v.query) c.self.view_is ∙ c.requires.query) in
    record {
      few = c.self.invariant.few;
      rising = c.self.invariant.rising;
      apart = c.self.invariant.apart;
      back = c.self.invariant.back;
      kept = same-kept c.combined.new.state c.as_slice-tables.result.now f.tables.items f.last q (query_term_of f.query) c.combined.new.kept.items c.as_slice-tables.ensures.value (sym own) c.combined.ensures.kept;
    }

pub invariant_of-self-2 : goal.invariant_of-self-2
invariant_of-self-2 g c =
    let q = query_term_of c.args.q.now in
    let f = c.self.inside in
    let own : query_term_of f.query ≡ q = spelling_tells_queries (query_term_of f.query) q (ap (λ (v : CutView g.row.I.Denot). v.query) c.self.view_is ∙ c.requires.query) in
    record {
      few = c.self.invariant.few;
      rising = c.self.invariant.rising;
      apart = c.self.invariant.apart;
      back = c.self.invariant.back;
      kept = same-kept c.combined.new.state c.as_slice-tables.result.now f.tables.items f.last q (query_term_of f.query) c.combined.new.kept.items c.as_slice-tables.ensures.value (sym own) c.combined.ensures.kept;
    }

pub returns-clause-out : goal.returns-clause-out
returns-clause-out g c =
    let q = query_term_of c.args.q.now in
    let same = c.as_slice-tables.ensures.value ∙ ap (λ (v : CutView g.row.I.Denot). v.tracks) c.self.view_is in
    subst (λ (ts : List (Track (Held g.row.I.Denot))). IsCombined q (sums_over (entries (shown ts)) q) c.in_ok-out.out) same c.in_ok-out.ensures.out
