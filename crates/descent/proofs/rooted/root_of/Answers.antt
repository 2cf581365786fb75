use Rattle.std.proofs.Common.{◌≡◌, length, Some, refl, sym, ap, subst, ◌∙◌}
use Rattle.std.specs.Prelude.{slice_index}
use Rattle.segment.specs.Nodes.{known_root, root_place, seg_at}
use Rattle.descent.specs.Rows.{Track, with_rows}
use Rattle.descent.specs.Held.{Held, row_in, head_of, IsTrackOf}
use Rattle.descent.specs.Known.{root_head}
use Rattle.descent.specs.Laid.{root_table, IsRootOf}
use Rattle.descent.proofs.RootLaws.{for_some, root-shown, root-track-of, root-head-of, whole-root}
use Rattle.descent.specs.Spent.{opened_among}
use Rattle.descent.proofs.SpentLaws.{known-handed, root-closed, root-rows-count}
use Rattle.descent.proofs.rooted.root_of.Goals as goal

pub returns-clause-root : goal.returns-clause-root
returns-clause-root g c =
    let lengths = g.N.Nodes.lengths c.args.nodes.now in
    let n = slice_index lengths c.args.series in
    let o = c.in_ok-root.root in
    let is : c.in_ok-table.table ≡ root_table c.args.series c.args.name n o = c.in_ok-table.ensures ∙ ap (λ k. root_table c.args.series c.args.name k o) c.readings_len-len.ensures.value in
    λ forest m.
    ap (with_rows row_in) is ∙ root-shown lengths forest c.args.series c.args.name n o (g.met.N.Nodes.fits c.args.nodes.now c.args.source.now forest m) c.requires.series refl c.in_ok-root.ensures.none
    (for_some _ (λ r. seg_at forest (root_place c.args.series n) ≡ Some r.1) o (λ r h. h forest m) c.in_ok-root.ensures.seg)

pub returns-clause-of : goal.returns-clause-of
returns-clause-of g c =
    let lengths = g.N.Nodes.lengths c.args.nodes.now in
    let n = slice_index lengths c.args.series in
    let o = c.in_ok-root.root in
    let stands = g.N.Nodes.stands c.root.new.self c.root.new.source in
    let known = g.N.Nodes.roots c.root.new.self in
    let is : c.in_ok-table.table ≡ root_table c.args.series c.args.name n o = c.in_ok-table.ensures ∙ ap (λ k. root_table c.args.series c.args.name k o) c.readings_len-len.ensures.value in
    let of = root-track-of lengths known stands c.args.series c.args.name n o c.requires.series refl c.in_ok-root.ensures.none c.in_ok-root.ensures.starts c.in_ok-root.ensures.spans c.in_ok-root.ensures.stands c.in_ok-root.ensures.known in
    subst (λ t. IsTrackOf (g.N.Nodes.lengths c.root.new.self) known stands t) (sym is) (subst (λ ls. IsTrackOf ls known stands (root_table c.args.series c.args.name n o)) (sym c.root.ensures.lengths) of)

pub returns-clause-head : goal.returns-clause-head
returns-clause-head g c =
    let lengths = g.N.Nodes.lengths c.args.nodes.now in
    let n = slice_index lengths c.args.series in
    let o = c.in_ok-root.root in
    let known = g.N.Nodes.roots c.root.new.self in
    let is : c.in_ok-table.table ≡ root_table c.args.series c.args.name n o = c.in_ok-table.ensures ∙ ap (λ k. root_table c.args.series c.args.name k o) c.readings_len-len.ensures.value in
    ap head_of is ∙ root-head-of lengths known c.args.series c.args.name n o refl c.in_ok-root.ensures.none c.in_ok-root.ensures.known ∙ ap (λ ls. root_head ls known c.args.series c.args.name) (sym c.root.ensures.lengths)

pub of_root-requires-clause-whole : goal.of_root-requires-clause-whole
of_root-requires-clause-whole g c =
    let e = c.in_ok-root.ensures in
    let n = slice_index (g.N.Nodes.lengths c.args.nodes.now) c.args.series in
    subst (λ k. IsRootOf k c.in_ok-root.root) (sym c.readings_len-len.ensures.value) (whole-root n c.in_ok-root.root e.none e.starts e.spans e.sane)

pub returns-clause-rows : goal.returns-clause-rows
returns-clause-rows g c =
    let n = slice_index (g.N.Nodes.lengths c.args.nodes.now) c.args.series in
    let o = c.in_ok-root.root in
    let is : c.in_ok-table.table ≡ root_table c.args.series c.args.name n o = c.in_ok-table.ensures ∙ ap (λ k. root_table c.args.series c.args.name k o) c.readings_len-len.ensures.value in
    ap (λ (t : Track (Held g.row.N-Id.Denot)). length t.rows) is ∙ root-rows-count c.args.series c.args.name n o c.in_ok-root.ensures.none

pub returns-clause-closed : goal.returns-clause-closed
returns-clause-closed g c =
    let n = slice_index (g.N.Nodes.lengths c.args.nodes.now) c.args.series in
    let o = c.in_ok-root.root in
    let is : c.in_ok-table.table ≡ root_table c.args.series c.args.name n o = c.in_ok-table.ensures ∙ ap (λ k. root_table c.args.series c.args.name k o) c.readings_len-len.ensures.value in
    ap (λ (t : Track (Held g.row.N-Id.Denot)). opened_among t.rows) is ∙ root-closed c.args.series c.args.name n o

pub returns-clause-handed : goal.returns-clause-handed
returns-clause-handed g c = known-handed (slice_index (g.N.Nodes.lengths c.args.nodes.now) c.args.series) (known_root (g.N.Nodes.roots c.args.nodes.now) c.args.series) (g.N.Nodes.handed c.args.source.now) (g.N.Nodes.handed c.root.new.source) c.requires.known c.root.ensures.handed_known c.root.ensures.handed_empty

pub returns-in_err-root-clause-handed : goal.returns-in_err-root-clause-handed
returns-in_err-root-clause-handed g c = known-handed (slice_index (g.N.Nodes.lengths c.args.nodes.now) c.args.series) (known_root (g.N.Nodes.roots c.args.nodes.now) c.args.series) (g.N.Nodes.handed c.args.source.now) (g.N.Nodes.handed c.root.new.source) c.requires.known c.root.ensures.handed_known c.root.ensures.handed_empty

pub returns-in_err-table-clause-handed : goal.returns-in_err-table-clause-handed
returns-in_err-table-clause-handed g c = known-handed (slice_index (g.N.Nodes.lengths c.args.nodes.now) c.args.series) (known_root (g.N.Nodes.roots c.args.nodes.now) c.args.series) (g.N.Nodes.handed c.args.source.now) (g.N.Nodes.handed c.root.new.source) c.requires.known c.root.ensures.handed_known c.root.ensures.handed_empty
