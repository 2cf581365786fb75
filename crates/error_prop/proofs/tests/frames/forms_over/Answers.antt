use Rattle.std.proofs.Common.{◌≡◌, ◌≤◌, ◌^◌, ℤ, pos, List, map, refl, subst, sym, unsigned_abs, arith}
use Rattle.std.proofs.lemmas.Int.{to_z-of_z}
use mir.Val.{SFits, to_z, of_z}
use mir.Syntax.{w64}
use Rattle.expr.specs.Facts.{facts_of}
use Rattle.expr.specs.Terms.{term_of}
use Rattle.pieces.specs.Refinement.{AllRead, AllWithin, IsRefinement}
use Rattle.pieces.specs.declared.spans.Occ.{Occ}
use Rattle.pieces.specs.declared.spans.Span.{Span}
use Rattle.bounds.specs.Cut.{occurrences}
use Rattle.error_prop.specs.Places.{flat, occ_of}
use Rattle.error_prop.specs.Sums.{AdmitsSum}
use Rattle.error_prop.proofs.KnownFrames.{admits}
use Rattle.error_prop.proofs.RunLaws.{all_read, all_within}
use Rattle.error_prop.proofs.tests.frames.forms_over.Goals as goal

pub refine-requires-clause-within : goal.refine-requires-clause-within
refine-requires-clause-within c =
    subst (λ (sp : List Span). AllWithin sp c.args.occs.now) (sym c.requires.spans)
    (all_within c.args.f.now (term_of c.args.t.now) (flat c.args.f.now) c.args.occs.now c.requires.frame c.requires.short refl c.requires.occs)

pub refine-requires-clause-read : goal.refine-requires-clause-read
refine-requires-clause-read c =
    let l : ℤ = to_z w64 (of_z w64 c.args.l) in
    let r : ℤ = to_z w64 (of_z w64 c.args.r) in
    let admitted : AdmitsSum c.args.f.now (term_of c.args.t.now) l r = admits (facts_of c.args.facts.now) c.args.f.now _ (term_of c.args.t.now) _ c.in_ok-copy.ensures c.in_ok-admit.ensures.admitted c.requires.known in
    λ i low high. subst (λ (sp : List Span). AllRead sp c.args.occs.now i) (sym c.requires.spans)
    (all_read c.args.f.now (term_of c.args.t.now) l r i (flat c.args.f.now) c.args.occs.now c.requires.frame admitted refl c.requires.occs low high)

pub propagate-requires-clause-refined : goal.propagate-requires-clause-refined
propagate-requires-clause-refined c =
    let l : ℤ = to_z w64 (of_z w64 c.args.l) in
    let r : ℤ = to_z w64 (of_z w64 c.args.r) in
    let fl : SFits w64 c.args.l = c.ranges.l in
    let fr : SFits w64 c.args.r = c.ranges.r in
    let el : l ≡ c.args.l = to_z-of_z w64 c.args.l fl in
    let er : r ≡ c.args.r = to_z-of_z w64 c.args.r fr in
    let es = c.args.f.now in
    let T = term_of c.args.t.now in
    let ps = c.in_ok-pieces.pieces in
    let admitted : AdmitsSum es T l r = admits (facts_of c.args.facts.now) es _ T _ c.in_ok-copy.ensures c.in_ok-admit.ensures.admitted c.requires.known in (
      l,
      r,
      record {
        refined = subst (λ (sp : List Span). IsRefinement sp (map (occ_of es) (occurrences T (pos 0))) l r ps) c.requires.spans
            (subst (λ (os : List Occ). IsRefinement c.args.spans.now os l r ps) c.requires.occs c.in_ok-pieces.ensures.pieces);
        admitted = admitted;
        left = subst (λ i. unsigned_abs i ≤ 2 ^ 46) (sym el) (omega (arith, c.requires.limits.near.1.0));
        right = subst (λ i. unsigned_abs i ≤ 2 ^ 46) (sym er) (omega (arith, c.requires.limits.near.1.1));
      },
    )
