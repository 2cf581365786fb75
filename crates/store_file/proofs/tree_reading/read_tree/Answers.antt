use Rattle.std.proofs.Common.{◌≡◌, List, ℕ, ℤ, [], ◌++◌, None, Err, ap, ap₂, sym, ◌∙◌, arith}
use Rattle.std.specs.List.{find}
use Rattle.segment.specs.declared.segments.Seg.{Seg}
use Rattle.segment.specs.Tree.{all_readings, all_segs}
use Rattle.store_file.specs.Decoded.{series_tree}
use Rattle.store_file.specs.Good.{is_bad}
use Rattle.store_file.proofs.TruthLaws.{AreNodesOf, nodes-long, nodes-over, nodes-with}
use Rattle.store_file.proofs.tree_reading.read_tree.Goals as goal

are_nodes : (n : ℕ) (bytes : List ℕ) (none segs lent : List Seg) (nought xs own : List ℤ) → none ≡ [] → nought ≡ [] → segs ≡ none ++ all_segs (series_tree n bytes) → xs ≡ nought ++ all_readings (series_tree n bytes) → lent ≡ segs → own ≡ xs
    → AreNodesOf n bytes lent own
are_nodes n bytes none segs lent nought xs own e f segs_is xs_is lent_is own_is = record {
  segments = lent_is ∙ segs_is ∙ ap (λ q. q ++ all_segs (series_tree n bytes)) e;
  readings = own_is ∙ xs_is ∙ ap (λ q. q ++ all_readings (series_tree n bytes)) f;
}

pub first_bad-requires-clause-few : goal.first_bad-requires-clause-few
first_bad-requires-clause-few c =
    let are = are_nodes c.args.n c.args.bytes.now _ _ _ _ _ _ c.in_ok-segs.ensures.items c.in_ok-xs.ensures.items c.in_ok-push_series_nodes.ensures.segs c.in_ok-push_series_nodes.ensures.readings c.deref.ensures.value c.deref-2.ensures.value in
    omega (arith, nodes-long c.args.n c.args.bytes.now _ _ are, c.requires.few)

pub first_bad-requires-clause-over : goal.first_bad-requires-clause-over
first_bad-requires-clause-over c =
    let are = are_nodes c.args.n c.args.bytes.now _ _ _ _ _ _ c.in_ok-segs.ensures.items c.in_ok-xs.ensures.items c.in_ok-push_series_nodes.ensures.segs c.in_ok-push_series_nodes.ensures.readings c.deref.ensures.value c.deref-2.ensures.value in
    nodes-over c.args.n c.args.bytes.now _ _ are

none_again : (segs lent again : List Seg) (xs own same : List ℤ) → lent ≡ segs → again ≡ segs → own ≡ xs → same ≡ xs → None ≡ find (is_bad own) lent → find (is_bad same) again ≡ None
none_again segs lent again xs own same e f g h none = ap₂ (λ ys gs. find (is_bad ys) gs) (h ∙ sym g) (f ∙ sym e) ∙ sym none

pub adopt-requires : goal.adopt-requires
adopt-requires c =
    let are = are_nodes c.args.n c.args.bytes.now _ _ _ _ _ _ c.in_ok-segs.ensures.items c.in_ok-xs.ensures.items c.in_ok-push_series_nodes.ensures.segs c.in_ok-push_series_nodes.ensures.readings c.deref-3.ensures.value c.deref-4.ensures.value in
    let none = none_again _ _ _ _ _ _ c.deref.ensures.value c.deref-3.ensures.value c.deref-2.ensures.value c.deref-4.ensures.value c.in_default.ensures in
    (series_tree c.args.n c.args.bytes.now, nodes-with c.args.n c.args.bytes.now _ _ are c.requires.few none)

pub returns-in-Ok-clause-value : goal.returns-in-Ok-clause-value
returns-in-Ok-clause-value c =
    let are = are_nodes c.args.n c.args.bytes.now _ _ _ _ _ _ c.in_ok-segs.ensures.items c.in_ok-xs.ensures.items c.in_ok-push_series_nodes.ensures.segs c.in_ok-push_series_nodes.ensures.readings c.deref-3.ensures.value c.deref-4.ensures.value in
    let none = none_again _ _ _ _ _ _ c.deref.ensures.value c.deref-3.ensures.value c.deref-2.ensures.value c.deref-4.ensures.value c.in_default.ensures in
    c.in-Ok.ensures.value (series_tree c.args.n c.args.bytes.now) (nodes-with c.args.n c.args.bytes.now _ _ are c.requires.few none)

pub unreachable-requires-in-Err-ArenaFull : goal.unreachable-requires-in-Err-ArenaFull
unreachable-requires-in-Err-ArenaFull c =
    let are = are_nodes c.args.n c.args.bytes.now _ _ _ _ _ _ c.in_ok-segs.ensures.items c.in_ok-xs.ensures.items c.in_ok-push_series_nodes.ensures.segs c.in_ok-push_series_nodes.ensures.readings c.deref-3.ensures.value c.deref-4.ensures.value in
    let full = c.adopt.ensures.full.0 (c.in-Err-ArenaFull.is ∙ ap Err c.in-Err-ArenaFull.field-0-is) in
    omega (arith, full, nodes-long c.args.n c.args.bytes.now _ _ are, c.requires.few, c.requires.places)
