use Rattle.std.proofs.Common.{arith, length, ◌∙◌, ap, Some, sym, subst}
use Rattle.segment.specs.Tree.{all_readings, all_segs, IsTreeOver}
use Rattle.segment.proofs.ShapeLaws.{count-plan}
use Rattle.segment.proofs.TreeLaws.{fitted-is, fitted_series-some, all_readings-fitted_series, all_segs-fitted_series}
use Rattle.seg_tree.proofs.building.add_tree.Goals as goal

pub add_nodes-root-requires-clause-room : goal.add_nodes-root-requires-clause-room
add_nodes-root-requires-clause-room c = omega (arith, count-plan 0 (length c.args.xs.now) c.requires.some)

pub add_nodes-root-requires-clause-spare : goal.add_nodes-root-requires-clause-spare
add_nodes-root-requires-clause-spare c = omega (arith, count-plan 0 (length c.args.xs.now) c.requires.some, c.requires.spare)

pub returns-clause-count : goal.returns-clause-count
returns-clause-count c = omega (arith, count-plan 0 (length c.args.xs.now) c.requires.some, c.add_nodes-root.ensures.count)

pub returns-clause-tree : goal.returns-clause-tree
returns-clause-tree c = (c.add_nodes-root.ensures.holds.linked, subst (IsTreeOver (length c.args.xs.now)) (sym c.add_nodes-root.ensures.holds.content) (fitted-is c.args.degree c.args.xs.now c.requires.some c.requires.few c.requires.small))

pub returns-clause-fitted : goal.returns-clause-fitted
returns-clause-fitted c = ap Some c.add_nodes-root.ensures.holds.content ∙ sym (fitted_series-some c.args.degree c.args.xs.now c.requires.some)

pub returns-clause-readings : goal.returns-clause-readings
returns-clause-readings c = ap all_readings (returns-clause-fitted c) ∙ all_readings-fitted_series c.args.degree c.args.xs.now

pub returns-clause-segs : goal.returns-clause-segs
returns-clause-segs c = ap all_segs (returns-clause-fitted c) ∙ all_segs-fitted_series c.args.degree c.args.xs.now
