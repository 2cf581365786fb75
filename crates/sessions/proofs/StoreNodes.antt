-- The nodes of a store: its trees in its arena, under its names.
use Rattle.std.proofs.Common.{◌≡◌, ◌∙◌, ℕ, zero, suc, ◌+◌, ◌<◌, ◌≤◌, pos, Bool, true, false, List, [], ◌∷◌, length, map, drop, get_or, slice_index, Option, Some, None, refl, sym, ap, ap₂, subst, arith}
use Rattle.std.specs.List.{All}
use Rattle.std.specs.Map.{keys_of, values_of}
use Rattle.std.specs.Prelude.{◌||◌}
use Rattle.std.specs.Option.{option_map}
use Rattle.std.proofs.lemmas.List.Elements.{All-cons, All-nil}
use Rattle.std.proofs.lemmas.List.{length-map}
use Rattle.std.proofs.lemmas.Map.Entries.{length-keys_of}
use Rattle.descent.specs.Descents.{roots}
use Rattle.descent.specs.Known.{AreApart, AreRootsKnown, facts_from, greatest_known, node_facts}
use Rattle.segment.specs.declared.segments.Seg.{Seg}
use Rattle.segment.specs.Measure.{greatest_reading}
use Rattle.segment.specs.Nodes.{known_root}
use Rattle.segment.specs.Shape.{plan}
use Rattle.segment.specs.Tree.{all_readings, root_of}
use Rattle.segment.proofs.PartLaws.{root-true}
use Rattle.seg_tree.specs.Linked.{Places, tree_at}
use Rattle.seg_tree.specs.Reached.{Reached, forest_of as reached_forest, len_of, lengths_of, roots_of}
use Rattle.seg_tree.specs.Trees.{IsTreeAt, IsTreeOf, value_at, value_of}
use Rattle.seg_tree.specs.declared.arena.Tree.{Tree}
use Rattle.semantics.specs.Admitted.{IsAdmitted}
use Rattle.semantics.specs.Names.{same_name}
use Rattle.semantics.specs.Term.{QueryTerm, number}
use Rattle.store_file.specs.Facts.{fact_in, facts_in}
use Rattle.store_file.specs.StoreValue.{AreNames, has_name}
use Rattle.store_file.specs.Stored.{AreOf, IsSound, StoreParts, series_of, store_value}
use Rattle.store_file.specs.declared.store.Stored.{Stored}
use Rattle.store_file.proofs.FactLaws.{greatest-none}
use Rattle.store_file.proofs.StoredLaws.{count-tree, names-series}
use Rattle.sessions.specs.Hub.{first_nodes, forest_of, tree_of}
use Rattle.sessions.specs.Kept.{entry_tree, reached_in, trees_of}

-- ---- the trees of its entries

trees_are : (nodes : Places) (es : List (List ℕ × Stored)) → AreOf nodes es → All (IsTreeOf nodes) (map entry_tree es)
trees_are nodes [] are = All-nil (IsTreeOf nodes)
trees_are nodes (e ∷ es) are = All-cons (IsTreeOf nodes) (entry_tree e) (map entry_tree es) are.0 (trees_are nodes es are.1)

same_trees : (nodes : Places) (es : List (List ℕ × Stored)) → map (value_of nodes) (map entry_tree es) ≡ map tree_of (series_of nodes es)
same_trees nodes [] = refl
same_trees nodes (e ∷ es) = ap (λ ts. value_of nodes (entry_tree e) ∷ ts) (same_trees nodes es)

-- ---- names that differ

left_false : (a b : Bool) → (a || b) ≡ false → a ≡ false
left_false true b h = h
left_false false b h = refl

right_false : (a b : Bool) → (a || b) ≡ false → b ≡ false
right_false true b h = cc
right_false false b h = h

differ : (seen : List (List ℕ)) (name : List ℕ) (ns : List (List ℕ)) → ((n : List ℕ) → has_name seen n ≡ false → same_name n name ≡ false) → AreNames seen ns
    → All (λ other. same_name other name ≡ false) ns
differ seen name [] new are = All-nil (λ other. same_name other name ≡ false)
differ seen name (n ∷ ns) new are =
    All-cons (λ other. same_name other name ≡ false) n ns (new n are.1)
    (differ (n ∷ seen) name ns (λ k h. new k (right_false (same_name k n) (has_name seen k) h)) are.2)

apart : (seen names : List (List ℕ)) → AreNames seen names → AreApart names
apart seen [] are = tt
apart seen (n ∷ ns) are =
    (differ (n ∷ seen) n ns (λ k h. left_false (same_name k n) (has_name seen k) h) are.2, apart (n ∷ seen) ns are.2)

-- ---- the place of a series

at_drop : {X : Type 0} (xs : List X) (k : ℕ) (d x : X) (rest : List X) → drop k xs ≡ x ∷ rest → get_or xs k d ≡ x
at_drop [] zero d x rest h = cc
at_drop [] (suc k) d x rest h = cc
at_drop (y ∷ xs) zero d x rest h = cc
at_drop (y ∷ xs) (suc k) d x rest h = at_drop xs k d x rest h

behind_drop : {X : Type 0} (xs : List X) (k : ℕ) (x : X) (rest : List X) → drop k xs ≡ x ∷ rest → drop (suc k) xs ≡ rest
behind_drop [] zero x rest h = cc
behind_drop [] (suc k) x rest h = cc
behind_drop (y ∷ xs) zero x rest h = cc
behind_drop (y ∷ xs) (suc k) x rest h = behind_drop xs k x rest h

next_drop : {X : Type 0} (xs : List X) (k : ℕ) (x : X) (rest : List X) → drop k xs ≡ x ∷ rest → drop (k + 1) xs ≡ rest
next_drop xs k x rest h = let e : k + 1 ≡ suc k = omega arith in ap (λ n. drop n xs) e ∙ behind_drop xs k x rest h

-- ---- the facts of its series

greatest_same : (nodes : Places) (t : Tree) → IsTreeOf nodes t → greatest_known t.n (option_map root_of (value_of nodes t)) ≡ greatest_reading (all_readings (value_of nodes t))
greatest_same nodes t is = by t.root t.n is (greatest-none nodes t is)
  where
    by : (root : Option ℕ) (n : ℕ) → IsTreeAt nodes root n → (n ≡ 0 → 0 ≡ greatest_reading (all_readings (value_at nodes root n)))
        → greatest_known n (option_map root_of (value_at nodes root n)) ≡ greatest_reading (all_readings (value_at nodes root n))
    by None zero is none = none refl
    by None (suc n) is none = absurd (omega (arith, is))
    by (Some p) zero is none = none refl
    by (Some p) (suc n) is none = ap (λ (g : Seg). g.d) (root-true (tree_at nodes p (plan 0 (suc n))) is.1.all_true).measured

facts_same : (nodes : Places) (lengths : List ℕ) (known : List (Option Seg)) (k : ℕ) (es : List (List ℕ × Stored)) → AreOf nodes es
    → drop k lengths ≡ map len_of (map entry_tree es) → drop k known ≡ map (option_map root_of) (map (value_of nodes) (map entry_tree es))
    → facts_from lengths known k (keys_of es) ≡ map fact_in (series_of nodes es)
facts_same nodes lengths known k [] are ls rs = refl
facts_same nodes lengths known k (e ∷ es) are ls rs =
    let t : Tree = entry_tree e in
    let len : slice_index lengths k ≡ t.n = at_drop lengths k 0 t.n (map len_of (map entry_tree es)) ls in
    let root : known_root known k ≡ option_map root_of (value_of nodes t) = at_drop known k None (option_map root_of (value_of nodes t)) (map (option_map root_of) (map (value_of nodes) (map entry_tree es))) rs in
    let count : slice_index lengths k ≡ length (all_readings (value_of nodes t)) = len ∙ sym (count-tree nodes t.root t.n are.0) in
    let greatest : greatest_known (slice_index lengths k) (known_root known k) ≡ greatest_reading (all_readings (value_of nodes t)) =
    ap₂ greatest_known len root ∙ greatest_same nodes t are.0 in
    let rest = facts_same nodes lengths known (k + 1) es are.1 (next_drop lengths k t.n (map len_of (map entry_tree es)) ls)
    (next_drop known k (option_map root_of (value_of nodes t)) (map (option_map root_of) (map (value_of nodes) (map entry_tree es))) rs) in
    λ i. record { name = e.0; count = count i; greatest = greatest i } ∷ rest i

-- ---- its roots are known

root_some : (nodes : Places) (t : Tree) → IsTreeOf nodes t → 0 < t.n → (g : Seg) × (option_map root_of (value_of nodes t) ≡ Some g)
root_some nodes t is some = by t.root t.n is some
  where
    by : (root : Option ℕ) (n : ℕ) → IsTreeAt nodes root n → 0 < n → (g : Seg) × (option_map root_of (value_at nodes root n) ≡ Some g)
    by None n is some = absurd (omega (arith, is, some))
    by (Some p) n is some = (root_of (tree_at nodes p (plan 0 n)), refl)

roots_at : (nodes : Places) (es : List (List ℕ × Stored)) (k : ℕ) → AreOf nodes es → k < length es → 0 < slice_index (map len_of (map entry_tree es)) k
    → (g : Seg) × (known_root (map (option_map root_of) (map (value_of nodes) (map entry_tree es))) k ≡ Some g)
roots_at nodes [] k are within some = absurd (omega arith)
roots_at nodes (e ∷ es) zero are within some = root_some nodes (entry_tree e) are.0 some
roots_at nodes (e ∷ es) (suc k) are within some = roots_at nodes es k are.1 (omega arith) some

-- ---- what a cut over the nodes asks for

pub record IsReady (q : QueryTerm) (s : StoreParts) : Type 0 where
  pub many : length (keys_of s.entries) ≡ length (lengths_of (reached_in s))
  pub few : length (keys_of s.entries) ≤ 16
  pub apart : AreApart (keys_of s.entries)
  pub known : AreRootsKnown q (keys_of s.entries) (lengths_of (reached_in s)) (roots_of (reached_in s))
  pub facts : node_facts (keys_of s.entries) (lengths_of (reached_in s)) (roots_of (reached_in s)) ≡ facts_in (store_value s)

ready : (q : QueryTerm) (s : StoreParts) → IsSound s → IsReady q s
ready q s sound =
    record {
      many = length-keys_of s.entries ∙ sym (length-map (trees_of s) len_of ∙ length-map s.entries entry_tree);
      few = omega (arith, length-keys_of s.entries, sound.few);
      apart = apart [] (keys_of s.entries) sound.names;
      known = λ k within named some. roots_at s.arena.nodes s.entries k sound.trees (omega (arith, within, length-keys_of s.entries)) some;
      facts = facts_same s.arena.nodes (lengths_of (reached_in s)) (roots_of (reached_in s)) 0 s.entries sound.trees refl refl;
    }

-- the trees are taken from the values of the entries
pub values_same : (es : List (List ℕ × Stored)) → map (λ (v : Stored). v.tree) (values_of es) ≡ map entry_tree es
values_same [] = refl
values_same (e ∷ es) = ap (λ ts. entry_tree e ∷ ts) (values_same es)

pub few_trees : (s : StoreParts) → IsSound s → length (trees_of s) ≤ 16
few_trees s sound = omega (arith, length-map s.entries entry_tree, sound.few)

pub all_trees : (s : StoreParts) → IsSound s → All (IsTreeOf s.arena.nodes) (trees_of s)
all_trees s sound = trees_are s.arena.nodes s.entries sound.trees

pub store_trees : (s : StoreParts) → map (value_of s.arena.nodes) (trees_of s) ≡ forest_of (store_value s)
store_trees s = same_trees s.arena.nodes s.entries

-- the names and the nodes of a store
pub record Handed (s : StoreParts) (names : List (List ℕ)) (r : Reached) : Type 0 where
  pub sound : IsSound s
  pub names_are : names ≡ keys_of s.entries
  pub is : r ≡ reached_in s

pub handed_by : (v s : StoreParts) (names : List (List ℕ)) (r : Reached) → v ≡ s → IsSound v → names ≡ keys_of v.entries → r.nodes ≡ v.arena.nodes → r.trees ≡ trees_of s → Handed s names r
handed_by v s names r same sound named nodes trees = record {
  sound = subst IsSound same sound;
  names_are = named ∙ ap (λ (p : StoreParts). keys_of p.entries) same;
  is = λ i. record { nodes = (nodes ∙ ap (λ (p : StoreParts). p.arena.nodes) same) i; trees = trees i };
}

pub handed_many : (s : StoreParts) (names : List (List ℕ)) (r : Reached) → Handed s names r → length names ≡ length (lengths_of r)
handed_many s names r h = ap length h.names_are ∙ (ready (number (pos 0)) s h.sound).many ∙ ap (λ k. length (lengths_of k)) (sym h.is)

pub handed_all : (s : StoreParts) (names : List (List ℕ)) (r : Reached) → Handed s names r → All (IsTreeOf r.nodes) r.trees
handed_all s names r h = subst (λ (k : Reached). All (IsTreeOf k.nodes) k.trees) (sym h.is) (all_trees s h.sound)

pub handed_few : (s : StoreParts) (names : List (List ℕ)) (r : Reached) → Handed s names r → length names ≤ 16
handed_few s names r h = subst (λ ns. length ns ≤ 16) (sym h.names_are) (ready (number (pos 0)) s h.sound).few

pub handed_apart : (s : StoreParts) (names : List (List ℕ)) (r : Reached) → Handed s names r → AreApart names
handed_apart s names r h = subst AreApart (sym h.names_are) (ready (number (pos 0)) s h.sound).apart

pub handed_known : (q : QueryTerm) (s : StoreParts) (names : List (List ℕ)) (r : Reached) → Handed s names r → AreRootsKnown q names (lengths_of r) (roots_of r)
handed_known q s names r h =
    subst (λ k. AreRootsKnown q names (lengths_of k) (roots_of k)) (sym h.is)
    (subst (λ ns. AreRootsKnown q ns (lengths_of (reached_in s)) (roots_of (reached_in s))) (sym h.names_are) (ready q s h.sound).known)

pub handed_admitted : (q : QueryTerm) (s : StoreParts) (names : List (List ℕ)) (r : Reached) → Handed s names r → IsAdmitted (facts_in (store_value s)) q
    → IsAdmitted (node_facts names (lengths_of r) (roots_of r)) q
handed_admitted q s names r h is =
    let facts : node_facts names (lengths_of r) (roots_of r) ≡ facts_in (store_value s) =
    (λ i. node_facts (h.names_are i) (lengths_of (h.is i)) (roots_of (h.is i))) ∙ (ready q s h.sound).facts in
    subst (λ fs. IsAdmitted fs q) (sym facts) is

-- the roots are those of the store
pub handed_roots : (q : QueryTerm) (s : StoreParts) (names : List (List ℕ)) (r : Reached) → Handed s names r → roots q (reached_forest r) names ≡ first_nodes (store_value s) q
unfolding first_nodes
handed_roots q s names r h =
    ap₂ (roots q) (ap reached_forest h.is ∙ store_trees s) (h.names_are ∙ sym (names-series s.arena.nodes s.entries))

-- the trees that are handed over with them
pub record AreHanded (nodes : Places) (trees : List Tree) : Type 0 where
  pub few : length trees ≤ 16
  pub all : All (IsTreeOf nodes) trees

pub are_handed : (v s : StoreParts) (trees : List Tree) → v ≡ s → IsSound v → trees ≡ trees_of s → AreHanded v.arena.nodes trees
are_handed v s trees same sound is =
    subst (λ p. AreHanded p.arena.nodes trees) (sym same)
    (subst (AreHanded s.arena.nodes) (sym is) (record { few = few_trees s (subst IsSound same sound); all = all_trees s (subst IsSound same sound) }))
