use Rattle.std.specs.List.{count_by}
use Rattle.descent.specs.Spent.{opened_in, roots_in, rows_in, HasSpent, Spends}
use Rattle.descent.specs.Told.{told}
use Rattle.descent.proofs.SpentLaws.{spent-first, spent-more, told-length, told-opened}
use Rattle.std.proofs.Common.{◌≡◌, length, Some, None, sym, ap, subst, ◌∙◌, arith}
use Rattle.semantics.specs.Admitted.{IsAdmitted}
use Rattle.expr.specs.Terms.{query_term_of}
use Rattle.descent.specs.Sums.{interval_in}
use Rattle.descent.specs.Choice.{choice}
use Rattle.descent.specs.Descents as tree
use Rattle.descent.specs.Held.{CutView, heads, shown, IsClosedAt}
use Rattle.descent.specs.Known.{facts_in}
use Rattle.descent.proofs.Admits.{facts-heads}
use Rattle.descent.proofs.Reached.{reached-first, reached-next, reached-last, crossed-bad, none-bad, chosen-closed, width-from}
use Rattle.descent.proofs.descents.descend.Goals as goal

pub loop-cut-init : goal.loop-cut-init
loop-cut-init g c =
    let q = query_term_of c.args.q.now in
    let is = c.in_ok-cut.ensures in
    record {
      reached = reached-first q (λ forest. tree.roots q forest c.args.names.now) (g.N.Nodes.means c.args.nodes.now c.args.source.now) c.args.budget c.in_ok-cut.cut.tracks is.cut;
      of = is.of;
      spent = spent-first (roots_in q (g.N.Nodes.lengths c.args.nodes.now) 0 c.args.names.now) (rows_in c.in_ok-cut.cut.tracks) (opened_in c.in_ok-cut.cut.tracks) (g.N.Nodes.handed c.args.source.now) (g.N.Nodes.handed c.roots.new.source) is.rows is.closed c.roots.ensures.handed;
      admitted = is.admitted;
      query = is.query;
      means = is.means;
      later = is.later;
      ids = is.ids;
      roots = is.roots;
      lasting = is.lasting;
      lengths = is.lengths;
    }

pub returns-in_default-clause-bad : goal.returns-in_default-clause-bad
returns-in_default-clause-bad g c =
    let q = query_term_of c.args.q.now in
    let inv = c.loop-cut.invariant in
    λ e forest m.
    crossed-bad q c.args.names.now (g.N.Nodes.means c.args.nodes.now c.args.source.now) c.args.budget c.loop-cut.cut.tracks (g.N.Nodes.lengths c.args.nodes.now) forest c.requires.plain inv.reached
    (g.met.N.Nodes.fits c.args.nodes.now c.args.source.now forest m) m (sym c.in_default.is ∙ c.in_ok-out.ensures.out.iv)

pub returns-in_default-at-clause-bad : goal.returns-in_default-at-clause-bad
returns-in_default-at-clause-bad g c =
    let q = query_term_of c.args.q.now in
    let i : Some c.in-Some.iv ≡ interval_in (shown c.loop-cut.cut.tracks) q = sym c.in-Some.is ∙ c.in_ok-out.ensures.out.iv in
    let n : None ≡ choice q (shown c.loop-cut.cut.tracks) = sym c.in_default-at.is ∙ c.in_ok-out.ensures.choice in
    λ e forest m.
    none-bad q c.args.budget c.loop-cut.cut.tracks c.in-Some.iv c.width.result c.requires.plain i (width-from c.in-Some.iv c.width.result c.width.ensures.value) c.if-width-budget.false n

pub expand-requires-clause-at : goal.expand-requires-clause-at
expand-requires-clause-at g c =
    let q = query_term_of c.args.q.now in
    let k : Some c.in-Some-at.at ≡ choice q (shown c.loop-cut.cut.tracks) = sym c.in-Some-at.is ∙ c.in_ok-out.ensures.choice in
    subst (λ (t : CutView g.row.N-Id.Denot). IsClosedAt t.tracks c.in-Some-at.at) (sym c.in_ok-out.ensures.same) (chosen-closed q c.loop-cut.cut.tracks c.in-Some-at.at (sym k))

pub returns-then-width-budget-clause-last : goal.returns-then-width-budget-clause-last
returns-then-width-budget-clause-last g c =
    let q = query_term_of c.args.q.now in
    let inv = c.loop-cut.invariant in
    let same = c.in_ok-out.ensures.same in
    let i : Some c.in-Some.iv ≡ interval_in (shown c.loop-cut.cut.tracks) q = sym c.in-Some.is ∙ c.in_ok-out.ensures.out.iv in
    let is = c.in_ok-answer.ensures in
    λ forest m.
    reached-last q c.args.names.now (g.N.Nodes.means c.args.nodes.now c.args.source.now) c.args.budget c.loop-cut.cut.tracks forest c.in-Some.iv c.width.result c.in_ok-answer.answer inv.reached m i
    (width-from c.in-Some.iv c.width.result c.width.ensures.value) c.if-width-budget.true is.interval
    (is.rows ∙ ap (λ (v : CutView g.row.N-Id.Denot). told (shown v.tracks)) same)
    (is.opened ∙ ap (λ (v : CutView g.row.N-Id.Denot). count_by (λ r. r.opened) (told (shown v.tracks))) same)

pub loop-cut-preserved : goal.loop-cut-preserved
loop-cut-preserved g c =
    let q = query_term_of c.args.q.now in
    let inv = c.loop-cut.invariant in
    let old = c.loop-cut.cut.tracks in
    let new = c.expand.new.self.tracks in
    let i : Some c.in-Some.iv ≡ interval_in (shown old) q = sym c.in-Some.is ∙ c.in_ok-out.ensures.out.iv in
    let k : Some c.in-Some-at.at ≡ choice q (shown old) = sym c.in-Some-at.is ∙ c.in_ok-out.ensures.choice in
    let same : c.look.new.self ≡ c.loop-cut.cut = c.in_ok-out.ensures.same in
    let is = c.in_ok-expand.ensures in
    let h : heads new ≡ heads old = is.heads ∙ ap (λ (t : CutView g.row.N-Id.Denot). heads t.tracks) same in
    record {
      reached = reached-next q c.args.names.now (g.N.Nodes.means c.args.nodes.now c.args.source.now) c.args.budget old new (g.N.Nodes.lengths c.args.nodes.now) c.in-Some.iv c.width.result c.in-Some-at.at inv.reached
          (g.met.N.Nodes.fits c.args.nodes.now c.args.source.now) i (width-from c.in-Some.iv c.width.result c.width.ensures.value) c.if-width-budget.false k
          (λ forest ns m nodes e. is.step forest ns ((inv.means forest).0 m) nodes (ap (λ (t : CutView g.row.N-Id.Denot). shown t.tracks) same ∙ e));
      of = is.of;
      spent = spent-more (roots_in q (g.N.Nodes.lengths c.args.nodes.now) 0 c.args.names.now) (rows_in old) (opened_in old) (rows_in new) (opened_in new) (g.N.Nodes.handed c.args.source.now) (g.N.Nodes.handed c.loop-cut.source) (g.N.Nodes.handed c.expand.new.source) inv.spent
          (subst (λ (v : CutView g.row.N-Id.Denot). Spends (rows_in v.tracks) (opened_in v.tracks) (rows_in new) (opened_in new) (g.N.Nodes.handed c.loop-cut.source) (g.N.Nodes.handed c.expand.new.source)) same is.spent);
      admitted = subst (λ fs. IsAdmitted fs q) (facts-heads old ∙ ap facts_in (sym h) ∙ sym (facts-heads new)) inv.admitted;
      query = is.query ∙ ap (λ (t : CutView g.row.N-Id.Denot). t.query) same ∙ inv.query;
      means = λ forest. ((λ m. (is.means forest).0 ((inv.means forest).0 m)), (λ m. (inv.means forest).1 ((is.means forest).1 m)));
      later = omega (arith, inv.later, is.later);
      ids = λ j p s. is.ids j p (inv.ids j p s);
      roots = λ j r e. is.roots j r (inv.roots j r e);
      lasting = is.lasting ∙ inv.lasting;
      lengths = is.lengths ∙ inv.lengths;
    }

pub returns-in_err-expand-clause-roots : goal.returns-in_err-expand-clause-roots
returns-in_err-expand-clause-roots g c = λ j r e. c.expand.ensures.roots j r (c.loop-cut.invariant.roots j r e)

pub returns-then-width-budget-clause-handed : goal.returns-then-width-budget-clause-handed
returns-then-width-budget-clause-handed g c =
    let q = query_term_of c.args.q.now in
    let tracks = c.loop-cut.cut.tracks in
    let same = c.in_ok-out.ensures.same in
    let is = c.in_ok-answer.ensures in
    let rows : length c.in_ok-answer.answer.cut ≡ rows_in tracks = ap length is.rows ∙ ap (λ (v : CutView g.row.N-Id.Denot). length (told (shown v.tracks))) same ∙ told-length tracks in
    let opened : c.in_ok-answer.answer.opened ≡ opened_in tracks = is.opened ∙ ap (λ (v : CutView g.row.N-Id.Denot). count_by (λ r. r.opened) (told (shown v.tracks))) same ∙ told-opened tracks in
    subst (λ n. HasSpent (roots_in q (g.N.Nodes.lengths c.args.nodes.now) 0 c.args.names.now) n c.in_ok-answer.answer.opened (g.N.Nodes.handed c.args.source.now) (g.N.Nodes.handed c.loop-cut.source)) (sym rows)
    (subst (λ n. HasSpent (roots_in q (g.N.Nodes.lengths c.args.nodes.now) 0 c.args.names.now) (rows_in tracks) n (g.N.Nodes.handed c.args.source.now) (g.N.Nodes.handed c.loop-cut.source)) (sym opened) c.loop-cut.invariant.spent)
