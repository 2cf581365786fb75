use Rattle.std.proofs.Common.{arith}
use Rattle.std.proofs.lemmas.Int.{to_z-of_z}
use Rattle.std.proofs.lemmas.List.{length-map}
use mir.Val.{SFits}
use mir.Syntax.{w64}
use Rattle.pieces.specs.Refinement.{IsRefinement}
use Rattle.pieces.specs.ViewOf.{view_all, view_of}
use Rattle.pieces.proofs.Counts.{few_pieces, one_piece_of}
use Rattle.pieces.proofs.Places.{in_one}
use Rattle.pieces.proofs.refinement.refine.Goals as goal

pub invariant_of-result : goal.invariant_of-result
invariant_of-result c =
    let low : SFits w64 c.args.l = c.ranges.l in
    let high : SFits w64 c.args.r = c.ranges.r in
    let pieces : IsRefinement c.args.spans.now c.args.occs.now c.args.l c.args.r (view_all c.in_ok-items.items.items) = simp to_z-of_z at c.in_ok-items.ensures in
    omega (
      arith,
      length-map c.in_ok-items.items.items view_of,
      few_pieces c.args.spans.now c.args.occs.now c.args.l c.args.r (view_all c.in_ok-items.items.items) c.requires.within c.requires.read pieces,
    )

pub returns-clause-each : goal.returns-clause-each
returns-clause-each c =
    let low : SFits w64 c.args.l = c.ranges.l in
    let high : SFits w64 c.args.r = c.ranges.r in
    let pieces : IsRefinement c.args.spans.now c.args.occs.now c.args.l c.args.r (view_all c.in_ok-items.items.items) = simp to_z-of_z at c.in_ok-items.ensures in
    λ i. in_one c.args.l c.args.r (view_all c.in_ok-items.items.items) i pieces.runs

pub returns-clause-one : goal.returns-clause-one
returns-clause-one c =
    let low : SFits w64 c.args.l = c.ranges.l in
    let high : SFits w64 c.args.r = c.ranges.r in
    let pieces : IsRefinement c.args.spans.now c.args.occs.now c.args.l c.args.r (view_all c.in_ok-items.items.items) = simp to_z-of_z at c.in_ok-items.ensures in
    one_piece_of c.args.spans.now c.args.occs.now c.args.l c.args.r (view_all c.in_ok-items.items.items) pieces
