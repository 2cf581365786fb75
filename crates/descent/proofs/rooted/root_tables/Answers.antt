use Rattle.std.proofs.Common.{◌≡◌, ◌+◌, ap₂, ◌<◌, ◌∷◌, [], true, false, length, take, get_or, subst, ap, sym, ◌∙◌, arith}
use Rattle.std.specs.List.{All, list_any}
use Rattle.std.proofs.lemmas.List.{get_or_default}
use Rattle.std.proofs.lemmas.List.Elements.{All-nil, All-cons, All-append, All-weaker}
use Rattle.semantics.specs.Admission.{query_names}
use Rattle.semantics.specs.Names.{same_name}
use Rattle.expr.specs.Terms.{query_term_of}
use Rattle.descent.specs.Rows.{Track, with_rows}
use Rattle.descent.specs.Descents.{row_of, root_track}
use Rattle.descent.specs.Held.{Held, row_in, head_of, IsTrackOf}
use Rattle.descent.specs.Known.{root_head}
use Rattle.std.specs.Prelude.{slice_index}
use Rattle.descent.specs.Spent.{has_root}
use Rattle.descent.proofs.SpentLaws.{hands-on, opened_in-push, roots_in-named, roots_in-other, rows_in-push}
use Rattle.descent.proofs.Steps.{track-later}
use Rattle.descent.proofs.RootLaws.{rise-rising, rise-push, rise-more, roots-named, roots-other, front-more, front-length, heads-named, heads-other, head-kept}
use Rattle.descent.proofs.rooted.root_tables.Goals as goal

pub returns-clause-rising : goal.returns-clause-rising
returns-clause-rising g c = rise-rising 0 c.loop-k.tables.items c.loop-k.k c.loop-k.invariant.rising

pub loop-k-preserved-then-not-is_in_query : goal.loop-k-preserved-then-not-is_in_query
loop-k-preserved-then-not-is_in_query g c =
    let inv = c.loop-k.invariant in
    let q = query_term_of c.args.q.now in
    let xs = c.args.names.now in
    let k = c.loop-k.k in
    let name = c.index-names-k.result in
    let lt : k < length xs = omega arith in
    let other : list_any (same_name name) (query_names q) ≡ false = sym c.if-not-is_in_query.ensures in
    record {
      cut = λ forest m. rw (front-more xs k name lt c.index-names-k.is) (roots-other q forest (take k xs) name c.loop-k.tables.items other (inv.cut forest m));
      of = inv.of;
      heads = rw (front-more xs k name lt c.index-names-k.is) (heads-other q (g.N.Nodes.lengths c.args.nodes.now) (g.N.Nodes.roots c.args.nodes.now) (take k xs) name c.loop-k.tables.items other inv.heads);
      rows = rw (front-more xs k name lt c.index-names-k.is) (inv.rows ∙ sym (roots_in-other q (g.N.Nodes.lengths c.args.nodes.now) (take k xs) name other));
      closed = inv.closed;
      handed = inv.handed;
      rising = rise-more 0 c.loop-k.tables.items k inv.rising;
      means = inv.means;
      later = inv.later;
      ids = inv.ids;
      roots = inv.roots;
      lasting = inv.lasting;
      lengths = inv.lengths;
    }

pub returns-in_err-push-clause-means : goal.returns-in_err-push-clause-means
returns-in_err-push-clause-means g c = λ forest.
    ((λ m. (c.root_of.ensures.means forest).0 ((c.loop-k.invariant.means forest).0 m)), (λ m. (c.loop-k.invariant.means forest).1 ((c.root_of.ensures.means forest).1 m)))

pub returns-in_err-push-clause-ids : goal.returns-in_err-push-clause-ids
returns-in_err-push-clause-ids g c = λ i p s. c.root_of.ensures.ids i p (c.loop-k.invariant.ids i p s)

pub returns-in_err-push-clause-roots : goal.returns-in_err-push-clause-roots
returns-in_err-push-clause-roots g c = λ j r e. c.root_of.ensures.roots j r (c.loop-k.invariant.roots j r e)

pub loop-k-preserved : goal.loop-k-preserved
loop-k-preserved g c =
    let inv = c.loop-k.invariant in
    let q = query_term_of c.args.q.now in
    let xs = c.args.names.now in
    let k = c.loop-k.k in
    let name = c.index-names-k.result in
    let ts = c.loop-k.tables.items in
    let t = c.in_ok-table.table in
    let lt : k < length xs = omega arith in
    let named : list_any (same_name name) (query_names q) ≡ true = sym c.if-not-is_in_query.ensures in
    let len = front-length xs k lt in
    let is = c.in_ok-table.ensures in
    let before = IsTrackOf (g.N.Nodes.lengths c.loop-k.nodes) (g.N.Nodes.roots c.loop-k.nodes) (g.N.Nodes.stands c.loop-k.nodes c.loop-k.source) in
    let after = IsTrackOf (g.N.Nodes.lengths c.root_of.new.nodes) (g.N.Nodes.roots c.root_of.new.nodes) (g.N.Nodes.stands c.root_of.new.nodes c.root_of.new.source) in
    let items = c.in_ok-push.ensures.items in
    let olds : All after ts = All-weaker before after (track-later (g.N.Nodes.lengths c.loop-k.nodes) (g.N.Nodes.lengths c.root_of.new.nodes) (g.N.Nodes.roots c.loop-k.nodes) (g.N.Nodes.roots c.root_of.new.nodes)
    (g.N.Nodes.stands c.loop-k.nodes c.loop-k.source) (g.N.Nodes.stands c.root_of.new.nodes c.root_of.new.source) c.root_of.ensures.lengths c.root_of.ensures.roots c.root_of.ensures.ids) ts inv.of in
    record {
      cut = λ forest m.
          let new : with_rows row_in t ≡ with_rows row_of (root_track (length (take k xs)) name (Rattle.segment.specs.Nodes.tree_in forest (length (take k xs)))) = rw len (is.root forest ((inv.means forest).0 m)) in
          rw (items, front-more xs k name lt c.index-names-k.is) (roots-named q forest (take k xs) name ts t named (inv.cut forest m) new);
      of = rw items (All-append after ts (t ∷ []) olds (All-cons after t [] is.of (All-nil after)));
      heads =
          let at : list_any (same_name (get_or xs k [])) (query_names q) ≡ true = subst (λ n. list_any (same_name n) (query_names q) ≡ true) (c.index-names-k.is ∙ get_or_default xs k name [] lt) named in
          let kept = head-kept q xs (g.N.Nodes.lengths c.args.nodes.now) (g.N.Nodes.lengths c.root_of.new.nodes) (g.N.Nodes.roots c.args.nodes.now) (g.N.Nodes.roots c.root_of.new.nodes) k name c.requires.known
          (c.root_of.ensures.lengths ∙ inv.lengths) (λ j r e. c.root_of.ensures.roots j r (inv.roots j r e)) lt at in
          let head : head_of t ≡ root_head (g.N.Nodes.lengths c.args.nodes.now) (g.N.Nodes.roots c.args.nodes.now) (length (take k xs)) name = rw len (is.head ∙ kept) in
          rw (items, front-more xs k name lt c.index-names-k.is) (heads-named q (g.N.Nodes.lengths c.args.nodes.now) (g.N.Nodes.roots c.args.nodes.now) (take k xs) name ts t named inv.heads head);
      rows =
          let new : length t.rows ≡ has_root (slice_index (g.N.Nodes.lengths c.args.nodes.now) (length (take k xs))) = rw len (is.rows ∙ ap (λ ls. has_root (slice_index ls k)) inv.lengths) in
          rw (items, front-more xs k name lt c.index-names-k.is) (rows_in-push ts t ∙ ap₂ (λ a b. a + b) inv.rows new ∙ sym (roots_in-named q (g.N.Nodes.lengths c.args.nodes.now) (take k xs) name named));
      closed = rw items (opened_in-push ts t ∙ ap₂ (λ a b. a + b) inv.closed is.closed);
      handed = hands-on 0 0 (g.N.Nodes.handed c.args.source.now) (g.N.Nodes.handed c.loop-k.source) (g.N.Nodes.handed c.root_of.new.source) inv.handed c.root_of.ensures.handed;
      rising = rw items (rise-push 0 ts k t (ap (λ (u : Track (Held g.row.N-Id.Denot)). u.series) is.head) inv.rising);
      means = λ forest. ((λ m. (c.root_of.ensures.means forest).0 ((inv.means forest).0 m)), (λ m. (inv.means forest).1 ((c.root_of.ensures.means forest).1 m)));
      later = omega (arith, inv.later, c.root_of.ensures.later);
      ids = λ i p s. c.root_of.ensures.ids i p (inv.ids i p s);
      roots = λ j r e. c.root_of.ensures.roots j r (inv.roots j r e);
      lasting = c.root_of.ensures.lasting ∙ inv.lasting;
      lengths = c.root_of.ensures.lengths ∙ inv.lengths;
    }

pub root_of-requires-clause-known : goal.root_of-requires-clause-known
root_of-requires-clause-known g c =
    let inv = c.loop-k.invariant in
    let q = query_term_of c.args.q.now in
    let xs = c.args.names.now in
    let k = c.loop-k.k in
    let name = c.index-names-k.result in
    let lt : k < length xs = omega arith in
    let named : list_any (same_name name) (query_names q) ≡ true = sym c.if-not-is_in_query.ensures in
    let at : list_any (same_name (get_or xs k [])) (query_names q) ≡ true = subst (λ n. list_any (same_name n) (query_names q) ≡ true) (c.index-names-k.is ∙ get_or_default xs k name [] lt) named in
    λ some.
    let r = c.requires.known k lt at (rw (← inv.lengths) some) in
    (r.0, inv.roots k r.0 r.1)

pub returns-in_err-push-clause-handed : goal.returns-in_err-push-clause-handed
returns-in_err-push-clause-handed g c = hands-on 0 0 (g.N.Nodes.handed c.args.source.now) (g.N.Nodes.handed c.loop-k.source) (g.N.Nodes.handed c.root_of.new.source) c.loop-k.invariant.handed c.root_of.ensures.handed
