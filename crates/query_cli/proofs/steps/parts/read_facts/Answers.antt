use Rattle.std.proofs.Common.{◌≡◌, ◌∙◌, ◌*◌, ◌+◌, ◌++◌, ◌∷◌, [], length, ap, arith, length-append, slice_index, subst}
use Rattle.std.proofs.lemmas.List.{map-append}
use Rattle.std.proofs.lemmas.Result.{err_from_is_err_and}
use Rattle.descent.specs.Known.{greatest_known}
use Rattle.descent.proofs.SpentLaws.{hands-on}
use Rattle.expr.specs.Facts.{fact_of, facts_of}
use Rattle.expr.specs.declared.facts.Fact.{Fact}
use Rattle.segment.specs.Nodes.{HandsOut, known_root}
use Rattle.query_cli.specs.Parted.{IsRootKnown}
use Rattle.query_cli.proofs.PartFacts.{fact_at, facts_step, known_step}
use Rattle.query_cli.proofs.PartLaws.{bad_before}
use Rattle.query_cli.proofs.steps.parts.read_facts.Goals as goal

pub loop-name-preserved : goal.loop-name-preserved
loop-name-preserved g c =
    let i = c.loop-name.name-index in
    let before = c.loop-name.invariant in
    let old = c.loop-name.nodes in
    let new = c.read_greatest.new.nodes in
    let read = c.read_greatest.ensures in
    let xs = c.loop-name.facts.items in
    let fact : Fact = record { name = c.name-item.result; n = c.readings_len-n.result; d = c.in_ok-d.d } in
    let pushed : c.push.new.self.items ≡ xs ++ fact ∷ [] = c.in_ok-push.ensures.items in
    let series : c.len-series.result ≡ i = omega (arith, c.len-series.ensures, c.loop-name.facts.ok, before.count) in
    let count : c.readings_len-n.result ≡ slice_index new.lengths i =
    c.readings_len-n.ensures.value ∙ ap (slice_index new.lengths) series in
    let greatest : c.in_ok-d.d ≡ greatest_known (slice_index new.lengths i) (known_root new.roots i) =
    c.in_ok-d.ensures.greatest ∙ ap (λ s. greatest_known (slice_index new.lengths s) (known_root new.roots s)) series in
    let fact_is : fact_of fact ≡ fact_at new.lengths new.roots i c.name-item.result =
    λ k. record { name = c.name-item.result; count = count k; greatest = greatest k } in
    let more : 56 * i + 56 ≡ 56 * (i + 1) = omega arith in
    record {
      facts =
          ap facts_of pushed ∙ map-append fact_of xs (fact ∷ [])
          ∙ facts_step c.args.names.now i c.name-item.result old.lengths new.lengths old.roots new.roots (facts_of xs)
          (fact_of fact) c.loop-name-test.true c.name-item.is read.lengths before.facts before.known read.roots fact_is;
      count = omega (arith, ap length pushed, length-append xs (fact ∷ []), before.count);
      known =
          known_step i old.lengths new.lengths old.roots new.roots read.lengths before.known read.roots
          (subst (IsRootKnown new.lengths new.roots) series c.in_ok-d.ensures.known);
      lengths = read.lengths ∙ before.lengths;
      means = λ forest.
          (λ m. (read.means forest).0 ((before.means forest).0 m), λ m. (before.means forest).1 ((read.means forest).1 m));
      files = read.shelf.files_stay ∙ before.files;
      fetches = read.fetches ∙ before.fetches;
      replaces = read.shelf.replaces_stay ∙ before.replaces;
      later = omega (arith, before.later, read.shelf.reads_rise);
      handed =
          subst (λ n. HandsOut n (g.S.Shelf.handed c.args.shelf.now) (g.S.Shelf.handed c.read_greatest.new.shelf)) more
          (hands-on (56 * i) 56 (g.S.Shelf.handed c.args.shelf.now) (g.S.Shelf.handed c.loop-name.shelf)
          (g.S.Shelf.handed c.read_greatest.new.shelf) before.handed read.handed);
    }

pub returns-in_err-d-clause-bad : goal.returns-in_err-d-clause-bad
returns-in_err-d-clause-bad g c =
    let p = err_from_is_err_and c.from_residual.result c.from_residual.ensures.1 in
    rw (p.1, p.2)
    (bad_before c.args.nodes.now c.loop-name.nodes (g.S.Shelf.files c.args.shelf.now)
    (g.S.Shelf.files c.loop-name.shelf) c.in_err-d.field-0.0 (λ forest. (c.loop-name.invariant.means forest).0)
    c.in_err-d.ensures.bad)

pub returns-in_err-d-clause-means : goal.returns-in_err-d-clause-means
returns-in_err-d-clause-means g c = λ forest.
    let before = c.loop-name.invariant.means forest in
    let read = c.read_greatest.ensures.means forest in
    (λ m. read.0 (before.0 m), λ m. before.1 (read.1 m))

pub returns-in_err-push-clause-means : goal.returns-in_err-push-clause-means
returns-in_err-push-clause-means g c = λ forest.
    let before = c.loop-name.invariant.means forest in
    let read = c.read_greatest.ensures.means forest in
    (λ m. read.0 (before.0 m), λ m. before.1 (read.1 m))
