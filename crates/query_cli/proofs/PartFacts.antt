-- What the header and the roots of a store's file tell of its series.
use Rattle.std.proofs.Common.{◌≡◌, ◌∙◌, ℕ, zero, suc, ◌+◌, ◌<◌, List, [], ◌∷◌, ◌++◌, length, map, drop, take, get_or, slice_index, Option, Some, None, Bool, true, false, refl, sym, ap, ap₂, subst, arith, length-append, inl, inr}
use Rattle.std.specs.List.{list_any}
use Rattle.std.specs.Option.{option_map}
use Rattle.std.specs.Prelude.{if◌then◌else◌, nat_lt}
use Rattle.std.proofs.lemmas.Bool.{cases_lt}
use Rattle.std.proofs.lemmas.Bool.Decides.{nat_tests}
use Rattle.std.proofs.lemmas.List.{length-map}
use Rattle.descent.specs.Descents.{Nodes, cut_of, root_nodes, root_track, roots_from, row_of}
use Rattle.descent.specs.Known as known
use Rattle.descent.specs.Known.{facts_from, greatest_known, node_facts}
use Rattle.descent.specs.Spent.{has_root, roots_in}
use Rattle.descent.specs.Told.{told, told_row}
use Rattle.descent.proofs.RootLaws.{front-length, front-more}
use Rattle.lazy_tree.specs.Opened as file
use Rattle.lazy_tree.specs.Opened.{AreRoots, Means, Opened}
use Rattle.segment.specs.Measure.{greatest_reading}
use Rattle.segment.specs.Nodes.{Forest, IsForest, IsSeriesTree, KeepsRoots, known_root, tree_in}
use Rattle.segment.specs.Tree.{SegTree, all_readings, root_of}
use Rattle.segment.specs.declared.segments.Seg.{Seg}
use Rattle.segment.proofs.PartLaws.{root-true}
use Rattle.semantics.specs.Admission.{Fact, query_names}
use Rattle.semantics.specs.Files.{Files, file_of}
use Rattle.semantics.specs.Names.{same_name}
use Rattle.semantics.specs.Term.{QueryTerm}
use Rattle.store_file.specs.Added.{names_in}
use Rattle.store_file.specs.Facts.{fact_in, facts_in}
use Rattle.store_file.specs.StoreValue.{EachTree, Series, StoreValue, IsStoreValue, count_of, name_of, store_image}
use Rattle.store_file.proofs.ImageLaws.{images-differ}
use Rattle.query_cli.specs.Asked.{forest_of, tree_of}
use Rattle.query_cli.specs.Parted.{IsRootKnown}

-- ---- the header

-- no two names are the same, in the words of both crates
pub apart : (names : List (List ℕ)) → file.AreApart names → known.AreApart names
apart [] h = tt
apart (n ∷ ns) h = (h.0, apart ns h.1)

-- the store for which a file stands is the one whose nodes were opened
pub record IsOf (nodes : Opened) (m : StoreValue) : Type 0 where
  pub names : nodes.names ≡ names_in m
  pub lengths : nodes.lengths ≡ map count_of m.series

pub header_of : (nodes : Opened) (files : Option Files) (k : Files) (name : List ℕ) (m : StoreValue) → Means nodes files (forest_of m) → files ≡ Some k → nodes.file ≡ name
    → file_of k name ≡ Some (store_image m) → IsStoreValue m → IsOf nodes m
header_of nodes files k name m means told named stands is =
    let shelf : Some means.shelf ≡ Some k = sym means.told ∙ told in
    let same_shelf : means.shelf ≡ k = cc in
    let there : file_of means.shelf nodes.file ≡ file_of k name = ap₂ file_of same_shelf named in
    let bytes : Some means.bytes ≡ Some (store_image m) = sym means.found ∙ there ∙ stands in
    let same_bytes : means.bytes ≡ store_image m = cc in
    let same : means.file.value ≡ m = images-differ means.file.value m means.file.is_store is (means.file.stands ∙ same_bytes) in
    record {
      names = sym means.file.names ∙ ap names_in same;
      lengths = sym means.file.lengths ∙ ap (λ (v : StoreValue). map count_of v.series) same;
    }

-- ---- the facts

behind_suc : {X : Type 0} (xs : List X) (k : ℕ) (x : X) (rest : List X) → drop k xs ≡ x ∷ rest → drop (suc k) xs ≡ rest
behind_suc [] zero x rest h = cc
behind_suc [] (suc k) x rest h = cc
behind_suc (y ∷ xs) zero x rest h = cc
behind_suc (y ∷ xs) (suc k) x rest h = behind_suc xs k x rest h

behind : {X : Type 0} (xs : List X) (k : ℕ) (x : X) (rest : List X) → drop k xs ≡ x ∷ rest → drop (k + 1) xs ≡ rest
behind xs k x rest h = let e : k + 1 ≡ suc k = omega arith in ap (λ n. drop n xs) e ∙ behind_suc xs k x rest h

at_front : (xs : List ℕ) (k x : ℕ) (rest : List ℕ) → drop k xs ≡ x ∷ rest → slice_index xs k ≡ x
at_front [] zero x rest h = cc
at_front [] (suc k) x rest h = cc
at_front (y ∷ xs) zero x rest h = cc
at_front (y ∷ xs) (suc k) x rest h = at_front xs k x rest h

-- the greatest reading of a series whose root is known, where it has one
greatest_is : (n : ℕ) (t : Option SegTree) (root : Option Seg) → IsSeriesTree n t → ((g : Seg) → root ≡ Some g → option_map root_of t ≡ Some g) → (0 < n → (g : Seg) × (root ≡ Some g))
    → greatest_known n root ≡ greatest_reading (all_readings t)
unfolding greatest_reading
greatest_is zero None root is same some = refl
greatest_is (suc n) None root is same some = absurd (omega (arith, is))
greatest_is zero (Some t) root is same some = absurd (omega (arith, is.some))
greatest_is (suc n) (Some t) root is same some =
    let k = some (omega arith) in
    let there : Some (root_of t) ≡ Some k.0 = same k.0 k.1 in
    let root_is : root_of t ≡ k.0 = cc in
    ap (greatest_known (suc n)) k.1 ∙ ap (λ (g : Seg). g.d) (sym root_is) ∙ ap (λ (g : Seg). g.d) (root-true t is.all_true).measured

facts_of_series : (lengths : List ℕ) (roots : List (Option Seg)) (k : ℕ) (ss : List Series) → drop k lengths ≡ map count_of ss → EachTree ss
    → ((j : ℕ) (g : Seg) → known_root roots (k + j) ≡ Some g → option_map root_of (tree_in (map tree_of ss) j) ≡ Some g)
    → ((j : ℕ) → j < length ss → IsRootKnown lengths roots (k + j))
    → facts_from lengths roots k (map name_of ss) ≡ map fact_in ss
facts_of_series lengths roots k [] ls each same some = refl
facts_of_series lengths roots k (s ∷ ss) ls each same some =
    let here : k + 0 ≡ k = omega arith in
    let count : slice_index lengths k ≡ count_of s = at_front lengths k (count_of s) (map count_of ss) ls in
    let greatest : greatest_known (slice_index lengths k) (known_root roots k) ≡ greatest_reading (all_readings s.tree) =
    greatest_is (slice_index lengths k) s.tree (known_root roots k) (subst (λ n. IsSeriesTree n s.tree) (sym count) each.0)
    (λ g e. same 0 g (ap (known_root roots) here ∙ e)) (subst (IsRootKnown lengths roots) here (some 0 (omega arith))) in
    let next : (j : ℕ) → k + 1 + j ≡ k + suc j = λ j. omega arith in
    let rest = facts_of_series lengths roots (k + 1) ss (behind lengths k (count_of s) (map count_of ss) ls) each.1
    (λ j g e. same (suc j) g (ap (known_root roots) (sym (next j)) ∙ e))
    (λ j lt. subst (IsRootKnown lengths roots) (sym (next j)) (some (suc j) (omega (arith, lt)))) in
    λ i. record { name = s.name; count = count i; greatest = greatest i } ∷ rest i

-- the facts of the nodes are those of the store
pub facts_told : (nodes : Opened) (files : Option Files) (m : StoreValue) (names : List (List ℕ)) → Means nodes files (forest_of m) → IsStoreValue m → names ≡ names_in m
    → nodes.lengths ≡ map count_of m.series → ((k : ℕ) → k < length names → IsRootKnown nodes.lengths nodes.roots k)
    → node_facts names nodes.lengths nodes.roots ≡ facts_in m
facts_told nodes files m names means is named lengths some =
    ap (λ ns. node_facts ns nodes.lengths nodes.roots) named
    ∙ facts_of_series nodes.lengths nodes.roots 0 m.series lengths is.trees
    (λ j g e. means.file.roots j g (ap (known_root nodes.roots) (none_and j) ∙ e))
    (λ j lt. subst (IsRootKnown nodes.lengths nodes.roots) (none_and j) (some j (omega (arith, lt, ap length named, length-map m.series name_of))))
  where
    none_and : (j : ℕ) → j ≡ 0 + j
    none_and j = omega arith

-- ---- the facts, name by name

abbrev pub fact_at : List ℕ → List (Option Seg) → ℕ → List ℕ → Fact
fact_at lengths roots k name = record {
  name = name;
  count = slice_index lengths k;
  greatest = greatest_known (slice_index lengths k) (known_root roots k);
}

pub facts-push : (lengths : List ℕ) (roots : List (Option Seg)) (k j : ℕ) (names : List (List ℕ)) (name : List ℕ) → j ≡ k + length names
    → facts_from lengths roots k (names ++ name ∷ []) ≡ facts_from lengths roots k names ++ fact_at lengths roots j name ∷ []
facts-push lengths roots k j [] name e = let same : k ≡ j = omega (arith, e) in ap (λ i. fact_at lengths roots i name ∷ []) same
facts-push lengths roots k j (n ∷ names) name e =
    ap (λ fs. fact_at lengths roots k n ∷ fs) (facts-push lengths roots (k + 1) j names name (omega (arith, e)))

kept_greatest : (n : ℕ) (old new : Option Seg) → (0 < n → (g : Seg) × (old ≡ Some g)) → ((g : Seg) → old ≡ Some g → new ≡ Some g) → greatest_known n old ≡ greatest_known n new
kept_greatest zero old new some keeps = refl
kept_greatest (suc n) old new some keeps = let k = some (omega arith) in ap (greatest_known (suc n)) (k.1 ∙ sym (keeps k.0 k.1))

-- roots that are known stay as they are
pub facts-kept : (lengths : List ℕ) (old new : List (Option Seg)) (k : ℕ) (names : List (List ℕ)) → ((j : ℕ) → j < k + length names → IsRootKnown lengths old j) → KeepsRoots old new
    → facts_from lengths old k names ≡ facts_from lengths new k names
facts-kept lengths old new k [] some keeps = refl
facts-kept lengths old new k (n ∷ names) some keeps =
    let greatest : greatest_known (slice_index lengths k) (known_root old k) ≡ greatest_known (slice_index lengths k) (known_root new k) =
    kept_greatest (slice_index lengths k) (known_root old k) (known_root new k) (some k (omega arith)) (keeps k) in
    let rest = facts-kept lengths old new (k + 1) names (λ j lt. some j (omega (arith, lt))) keeps in
    λ i. record { name = n; count = slice_index lengths k; greatest = greatest i } ∷ rest i

-- ---- root by root

-- one more
pub facts_step : (names : List (List ℕ)) (i : ℕ) (name : List ℕ) (lengths now : List ℕ) (old new : List (Option Seg)) (facts : List Fact) (fact : Fact) → i < length names → name ≡ get_or names i name
    → now ≡ lengths → facts ≡ node_facts (take i names) lengths old → ((k : ℕ) → k < i → IsRootKnown lengths old k) → KeepsRoots old new → fact ≡ fact_at now new i name
    → facts ++ fact ∷ [] ≡ node_facts (take (i + 1) names) now new
facts_step names i name lengths now old new facts fact lt at same so_far known keeps is =
    let long : length (take i names) ≡ i = front-length names i lt in
    let before : facts ≡ node_facts (take i names) now new =
    so_far ∙ facts-kept lengths old new 0 (take i names) (λ k less. known k (omega (arith, less, long))) keeps ∙ ap (λ ls. node_facts (take i names) ls new) (sym same) in
    let all : node_facts (take (i + 1) names) now new ≡ node_facts (take i names) now new ++ fact_at now new i name ∷ [] =
    ap (λ ns. node_facts ns now new) (front-more names i name lt at) ∙ facts-push now new 0 i (take i names) name (omega (arith, long)) in
    ap₂ (λ fs f. fs ++ f ∷ []) before is ∙ sym all

pub known_step : (i : ℕ) (lengths now : List ℕ) (old new : List (Option Seg)) → now ≡ lengths → ((k : ℕ) → k < i → IsRootKnown lengths old k) → KeepsRoots old new → IsRootKnown now new i
    → (k : ℕ) → k < i + 1 → IsRootKnown now new k
known_step i lengths now old new same known keeps last k lt some = elim (cases_lt k i) [
  | inl less ↦ let r = known k less (subst (λ ls. 0 < slice_index ls k) same some) in (r.0, keeps k r.0 r.1)
  | inr more ↦ let is : i ≡ k = omega (arith, lt, more) in subst (IsRootKnown now new) is last some
]

-- ---- the rows of the roots

each_tree : (lengths : List ℕ) (forest : Forest) (k : ℕ) → IsForest lengths forest → IsSeriesTree (get_or lengths k 0) (tree_in forest k)
each_tree [] [] zero h = refl
each_tree [] [] (suc k) h = refl
each_tree [] (t ∷ ts) k h = absurd h
each_tree (n ∷ ns) [] k h = absurd h
each_tree (n ∷ ns) (t ∷ ts) zero h = h.0
each_tree (n ∷ ns) (t ∷ ts) (suc k) h = each_tree ns ts k h.1

root_count : (n : ℕ) (t : Option SegTree) → IsSeriesTree n t → length (root_nodes t) ≡ has_root n
root_count zero None is = refl
root_count (suc n) None is = absurd (omega (arith, is))
root_count zero (Some t) is = absurd (omega (arith, is.some))
root_count (suc n) (Some t) is = let some : nat_lt 0 (suc n) ≡ true = grind (arith, nat_tests) in rw some refl

one_more : (lengths : List ℕ) (forest : Forest) (k : ℕ) (name : List ℕ) (rest : Nodes) (n : ℕ) (t : Bool) → IsForest lengths forest → length (told (cut_of rest)) ≡ n
    → length (told (cut_of (if t then root_track k name (tree_in forest k) ∷ rest else rest))) ≡ (if t then has_root (slice_index lengths k) else 0) + n
one_more lengths forest k name rest n true is e =
    length-append (map (told_row k) (map row_of (root_nodes (tree_in forest k)))) (told (cut_of rest))
    ∙ ap₂ ◌+◌
    (length-map (map row_of (root_nodes (tree_in forest k))) (told_row k) ∙ length-map (root_nodes (tree_in forest k)) row_of
    ∙ root_count (slice_index lengths k) (tree_in forest k) (each_tree lengths forest k is))
    e
one_more lengths forest k name rest n false is e = let none_and : n ≡ 0 + n = omega arith in e ∙ none_and

rows-from : (q : QueryTerm) (lengths : List ℕ) (forest : Forest) (k : ℕ) (names : List (List ℕ)) → IsForest lengths forest
    → length (told (cut_of (roots_from q forest k names))) ≡ roots_in q lengths k names
rows-from q lengths forest k [] is = refl
rows-from q lengths forest k (name ∷ names) is =
    one_more lengths forest k name (roots_from q forest (k + 1) names) (roots_in q lengths (k + 1) names) (list_any (same_name name) (query_names q)) is
    (rows-from q lengths forest (k + 1) names is)

-- the cut of the roots has as many rows as series that are named have readings
pub root_rows : (q : QueryTerm) (lengths : List ℕ) (forest : Forest) (names : List (List ℕ)) → IsForest lengths forest
    → roots_in q lengths 0 names ≡ length (told (cut_of (roots_from q forest 0 names)))
root_rows q lengths forest names is = sym (rows-from q lengths forest 0 names is)
