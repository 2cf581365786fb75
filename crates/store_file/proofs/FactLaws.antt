-- What is known of the series of a store.
use Rattle.std.proofs.Common.{◌≡◌, ℕ, ◌+◌, ◌≤◌, ◌^◌, true, eqb, List, [], ◌∷◌, ◌++◌, length, map, drop, slice_index, Option, Some, None, refl, sym, ap, subst, ◌∙◌, arith, append_assoc, append-nil}
use Rattle.std.specs.List.{All}
use Rattle.std.proofs.lemmas.Bool.Decides.{nat_tests}
use Rattle.std.proofs.lemmas.List.{drop_all, length-map}
use Rattle.std.proofs.lemmas.List.Elements.{All-cons, All-nil}
use Rattle.semantics.specs.Admission as admission
use Rattle.expr.specs.Facts.{fact_of, facts_of}
use Rattle.expr.specs.declared.facts.Fact.{Fact}
use Rattle.segment.specs.declared.segments.Seg.{Seg}
use Rattle.segment.specs.Measure.{AreReadings, greatest_reading}
use Rattle.segment.specs.Nodes.{IsSeriesTree, find_seg, root_place, seg_at}
use Rattle.segment.specs.Shape.{plan}
use Rattle.segment.specs.Tree.{SegTree, tip, node, all_readings, IsTreeOver, readings_of, root_of, segs_of}
use Rattle.segment.proofs.Bounds.{greatest_reading-le}
use Rattle.segment.proofs.PartLaws.{root-true, start-plan, span-plan}
use Rattle.segment.proofs.ReadingLaws.{AreReadings-nil}
use Rattle.seg_tree.specs.Linked.{Places, tree_at}
use Rattle.seg_tree.specs.Reached.{Reached, len_of, lengths_of}
use Rattle.seg_tree.specs.Trees.{IsTreeAt, IsTreeOf, value_at, value_of}
use Rattle.seg_tree.specs.declared.arena.Tree.{Tree}
use Rattle.store_file.specs.Facts.{AreFacts, IsSmallFact, StoresHaveFacts, fact_in, fact_name, facts_in}
use Rattle.store_file.specs.StoreValue.{EachTree, Series, count_of, name_of}
use Rattle.store_file.specs.Stored.{AreOf, IsSound, StoreParts, series_of, store_value}
use Rattle.store_file.specs.declared.store.Stored.{Stored}
use Rattle.store_file.proofs.StoredLaws.{count-tree, sound-value}

-- ---- facts are few, small, and of names that differ

few-readings : (n : ℕ) (t : Option SegTree) → IsSeriesTree n t → n ≤ 2 ^ 20
few-readings n None h = omega (arith, h)
few-readings n (Some t) h = h.few

small-readings : (n : ℕ) (t : Option SegTree) → IsSeriesTree n t → AreReadings (all_readings t)
small-readings n None h = AreReadings-nil
small-readings n (Some t) h = h.small

small-facts : (ss : List Series) → EachTree ss → All IsSmallFact (map fact_in ss)
small-facts [] each = All-nil IsSmallFact
small-facts (s ∷ ss) each =
    All-cons IsSmallFact (fact_in s) (map fact_in ss)
    (record { count = few-readings (count_of s) s.tree each.0; greatest = greatest_reading-le (all_readings s.tree) (small-readings (count_of s) s.tree each.0) })
    (small-facts ss each.1)

names-facts : (ss : List Series) → map fact_name (map fact_in ss) ≡ map name_of ss
names-facts [] = refl
names-facts (s ∷ ss) = ap (λ q. s.name ∷ q) (names-facts ss)

pub have-facts : StoresHaveFacts
have-facts m is =
    record {
      few = omega (arith, length-map m.series fact_in, is.few);
      names = rw (names-facts m.series) is.names;
      small = small-facts m.series is.trees;
    }

-- ---- the greatest reading, by the root

same_number : (n : ℕ) → eqb n n ≡ true
same_number n = grind (arith, nat_tests)

whole-range : (g : Seg) (n : ℕ) (gs : List Seg) → g.start ≡ 0 → g.len ≡ n → find_seg (g ∷ gs) (record { start = 0; len = n }) ≡ Some g
whole-range g n gs starts spans =
    let first : eqb g.start 0 ≡ true = rw starts refl in
    let second : eqb g.len n ≡ true = rw spans (same_number n) in
    rw (first, second) refl

find-root : (t : SegTree) (n : ℕ) → (root_of t).start ≡ 0 → (root_of t).len ≡ n → find_seg (segs_of t) (record { start = 0; len = n }) ≡ Some (root_of t)
find-root (tip g xs) n starts spans = whole-range g n [] starts spans
find-root (node g l r) n starts spans = whole-range g n (segs_of l ++ segs_of r) starts spans

greatest-root : (n : ℕ) (t : SegTree) (g : Seg) → IsTreeOver n t → find_seg (segs_of t) (record { start = 0; len = n }) ≡ Some g → g.d ≡ greatest_reading (readings_of t)
greatest-root n t g over found =
    let some : Some (root_of t) ≡ Some g = sym (find-root t n (start-plan 0 n t over.shaped) (span-plan 0 n t over.shaped)) ∙ found in
    let same : root_of t ≡ g = cc in
    sym (ap (λ (s : Seg). s.d) same) ∙ ap (λ (s : Seg). s.d) (root-true t over.all_true).measured

pub greatest-some : (nodes : Places) (t : Tree) (g : Seg) → IsTreeOf nodes t → seg_at (value_of nodes t ∷ []) (root_place 0 t.n) ≡ Some g → g.d ≡ greatest_reading (all_readings (value_of nodes t))
greatest-some nodes t g is found = by t.root t.n is found
  where
    by : (root : Option ℕ) (n : ℕ) → IsTreeAt nodes root n → seg_at (value_at nodes root n ∷ []) (root_place 0 n) ≡ Some g → g.d ≡ greatest_reading (all_readings (value_at nodes root n))
    by None n is found = cc
    by (Some p) n is found = greatest-root n (tree_at nodes p (plan 0 n)) g is.1 found

greatest_reading-nil : greatest_reading [] ≡ 0
unfolding greatest_reading
greatest_reading-nil = refl

pub greatest-none : (nodes : Places) (t : Tree) → IsTreeOf nodes t → t.n ≡ 0 → 0 ≡ greatest_reading (all_readings (value_of nodes t))
greatest-none nodes t is none = by t.root t.n is none
  where
    by : (root : Option ℕ) (n : ℕ) → IsTreeAt nodes root n → n ≡ 0 → 0 ≡ greatest_reading (all_readings (value_at nodes root n))
    by None n is none = sym greatest_reading-nil
    by (Some p) n is none = absurd (omega (arith, is.1.some, none))

-- the same, where the nodes are those of this one tree
pub one-length : (s : Reached) (t : Tree) → s.trees ≡ t ∷ [] → slice_index (lengths_of s) 0 ≡ t.n
one-length s t is = ap (λ ts. slice_index (map len_of ts) 0) is

-- ---- the loop over the entries

-- the facts that are told, and those of the entries that are left
pub record FactsLeft (nodes : Places) (es : List (List ℕ × Stored)) (facts : List Fact) (whole : List admission.Fact) : Type 0 where
  pub rest : facts_of facts ++ map fact_in (series_of nodes es) ≡ whole
  pub are : AreOf nodes es

facts_of-push : (facts : List Fact) (f : Fact) → facts_of (facts ++ f ∷ []) ≡ facts_of facts ++ fact_of f ∷ []
facts_of-push [] f = refl
facts_of-push (x ∷ facts) f = ap (λ q. fact_of x ∷ q) (facts_of-push facts f)

pub record IsFactOf (nodes : Places) (e : List ℕ × Stored) (f : Fact) : Type 0 where
  pub name : f.name ≡ e.0
  pub count : f.n ≡ e.1.tree.n
  pub greatest : f.d ≡ greatest_reading (all_readings (value_of nodes e.1.tree))

fact-entry : (nodes : Places) (e : List ℕ × Stored) (f : Fact) → IsTreeOf nodes e.1.tree → IsFactOf nodes e f → fact_of f ≡ fact_in (record { name = e.0; tree = value_of nodes e.1.tree })
fact-entry nodes e f is fact =
    let count : f.n ≡ length (all_readings (value_of nodes e.1.tree)) = fact.count ∙ sym (count-tree nodes e.1.tree.root e.1.tree.n is) in
    rw (fact.name, count, fact.greatest) refl

pub facts-first : (nodes : Places) (i : ℕ) (es : List (List ℕ × Stored)) (e : List ℕ × Stored) (facts : List Fact) (whole : List admission.Fact)
    → drop i es ≡ e ∷ drop (i + 1) es → FactsLeft nodes (drop i es) facts whole → IsTreeOf nodes e.1.tree
facts-first nodes i es e facts whole at left = (subst (AreOf nodes) at left.are).0

pub facts-step : (nodes : Places) (i : ℕ) (es : List (List ℕ × Stored)) (e : List ℕ × Stored) (f : Fact) (before after : List Fact) (whole : List admission.Fact)
    → drop i es ≡ e ∷ drop (i + 1) es → FactsLeft nodes (drop i es) before whole → IsFactOf nodes e f → after ≡ before ++ f ∷ [] → FactsLeft nodes (drop (i + 1) es) after whole
facts-step nodes i es e f before after whole at left fact put =
    let next : List admission.Fact = map fact_in (series_of nodes (drop (i + 1) es)) in
    record {
      rest = ap (λ fs. facts_of fs ++ next) put
          ∙ ap (λ q. q ++ next) (facts_of-push before f)
          ∙ append_assoc (facts_of before) (fact_of f ∷ []) next
          ∙ ap (λ q. facts_of before ++ q ∷ next) (fact-entry nodes e f (facts-first nodes i es e before whole at left) fact)
          ∙ ap (λ q. facts_of before ++ map fact_in (series_of nodes q)) (sym at)
          ∙ left.rest;
      are = (subst (AreOf nodes) at left.are).1;
    }

pub facts-end : (nodes : Places) (i : ℕ) (es : List (List ℕ × Stored)) (facts : List Fact) (whole : List admission.Fact) → length es ≤ i → FactsLeft nodes (drop i es) facts whole → facts_of facts ≡ whole
facts-end nodes i es facts whole past left =
    sym (append-nil (facts_of facts)) ∙ ap (λ q. facts_of facts ++ map fact_in (series_of nodes q)) (sym (drop_all i es past)) ∙ left.rest

-- the same, as a method sees the store
pub view-facts : (v s : StoreParts) (facts : List Fact) → v ≡ s → facts_of facts ≡ facts_in (store_value v) → facts_of facts ≡ facts_in (store_value s)
view-facts v s facts is told = told ∙ ap (λ p. facts_in (store_value p)) is

pub view-small : (v s : StoreParts) (facts : List Fact) → v ≡ s → IsSound v → facts_of facts ≡ facts_in (store_value v) → AreFacts (facts_of facts)
view-small v s facts is sound told = rw told (have-facts (store_value v) (sound-value v sound))
