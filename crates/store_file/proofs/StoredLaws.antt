-- What the entries of a map mean.
use Rattle.std.proofs.Common.{◌≡◌, ℕ, suc, ◌+◌, ◌≤◌, ◌^◌, List, [], ◌∷◌, ◌++◌, length, map, drop, Option, Some, None, refl, sym, ap, ap₂, subst, ◌∙◌, arith, append-nil, append_assoc, slice_get, drop-cons, inl, inr}
use Rattle.std.specs.Map.{keys_of}
use Rattle.std.proofs.lemmas.List.{drop_all}
use Rattle.std.proofs.lemmas.Option.{slice_get_cases}
use Rattle.segment.specs.Nodes.{IsSeriesTree}
use Rattle.segment.specs.Shape.{plan}
use Rattle.segment.specs.Tree.{all_readings, IsTreeOver}
use Rattle.seg_tree.specs.Linked.{Places, tree_at}
use Rattle.seg_tree.specs.Trees.{IsTreeAt, IsTreeOf, value_at, value_of}
use Rattle.store_file.specs.StoreValue.{name_of, AreNames, EachTree, IsStoreValue, entry_bytes, entries_bytes, tree_image, trees_image, fixed_bytes, header_of, store_image}
use Rattle.store_file.specs.Stored.{series_of, AreOf, AreShort, StoreParts, IsSound, store_value, stored_entries}
use Rattle.store_file.specs.declared.store.Stored.{Stored}

pub count-tree : (nodes : Places) (root : Option ℕ) (n : ℕ) → IsTreeAt nodes root n → length (all_readings (value_at nodes root n)) ≡ n
count-tree nodes None n h = sym h
count-tree nodes (Some p) n h = h.1.long

few-tree : (nodes : Places) (root : Option ℕ) (n : ℕ) → IsTreeAt nodes root n → n ≤ 2 ^ 20
few-tree nodes None n h = omega (arith, h)
few-tree nodes (Some p) n h = h.1.few

series-tree : (nodes : Places) (root : Option ℕ) (n : ℕ) → IsTreeAt nodes root n → IsSeriesTree (length (all_readings (value_at nodes root n))) (value_at nodes root n)
series-tree nodes None n h = refl
series-tree nodes (Some p) n h = subst (λ k. IsTreeOver k (tree_at nodes p (plan 0 n))) (sym h.1.long) h.1

pub AreShort-of : (nodes : Places) (es : List (List ℕ × Stored)) → AreOf nodes es → AreShort es
AreShort-of nodes [] are = tt
AreShort-of nodes (e ∷ es) are = (few-tree nodes e.1.tree.root e.1.tree.n are.0, AreShort-of nodes es are.1)

pub length-series : (nodes : Places) (es : List (List ℕ × Stored)) → length (series_of nodes es) ≡ length es
length-series nodes [] = refl
length-series nodes (e ∷ es) = ap suc (length-series nodes es)

pub names-series : (nodes : Places) (es : List (List ℕ × Stored)) → map name_of (series_of nodes es) ≡ keys_of es
names-series nodes [] = refl
names-series nodes (e ∷ es) = ap (λ q. e.0 ∷ q) (names-series nodes es)

trees-series : (nodes : Places) (es : List (List ℕ × Stored)) → AreOf nodes es → EachTree (series_of nodes es)
trees-series nodes [] are = tt
trees-series nodes (e ∷ es) are = (series-tree nodes e.1.tree.root e.1.tree.n are.0, trees-series nodes es are.1)

entries-series : (nodes : Places) (es : List (List ℕ × Stored)) → AreOf nodes es → entries_bytes (series_of nodes es) ≡ stored_entries es
entries-series nodes [] are = refl
entries-series nodes (e ∷ es) are = ap₂ ◌++◌ (ap (entry_bytes e.0) (count-tree nodes e.1.tree.root e.1.tree.n are.0)) (entries-series nodes es are.1)

-- every store means a store value
pub sound-value : (s : StoreParts) → IsSound s → IsStoreValue (store_value s)
sound-value s sound =
    record {
      scale = sound.scale;
      degree = sound.degree;
      few = omega (arith, length-series s.arena.nodes s.entries, sound.few);
      names = subst (AreNames []) (sym (names-series s.arena.nodes s.entries)) sound.names;
      trees = trees-series s.arena.nodes s.entries sound.trees;
    }

pub header-written : (s : StoreParts) → IsSound s → fixed_bytes s.scale s.degree (length s.entries) ++ stored_entries s.entries ≡ header_of (store_value s)
unfolding header_of
header-written s sound =
    ap₂ ◌++◌ (ap (fixed_bytes s.scale s.degree) (sym (length-series s.arena.nodes s.entries))) (sym (entries-series s.arena.nodes s.entries sound.trees))

-- the same, as a method sees the store: the parts that it has are those that the contract names
pub view-value : (v s : StoreParts) → v ≡ s → IsSound v → IsStoreValue (store_value s)
view-value v s is sound = subst (λ p. IsStoreValue (store_value p)) is (sound-value v sound)

pub view-header : (v s : StoreParts) (start whole : List ℕ) → v ≡ s → IsSound v → start ≡ []
    → whole ≡ start ++ (fixed_bytes v.scale v.degree (length v.entries) ++ stored_entries v.entries) → whole ≡ header_of (store_value s)
view-header v s start whole is sound none put =
    put ∙ ap (λ q. q ++ (fixed_bytes v.scale v.degree (length v.entries) ++ stored_entries v.entries)) none ∙ header-written v sound ∙ ap (λ p. header_of (store_value p)) is

pub view-image : (v s : StoreParts) (start header whole : List ℕ) → v ≡ s → IsSound v → start ≡ [] → header ≡ start ++ (fixed_bytes v.scale v.degree (length v.entries) ++ stored_entries v.entries)
    → whole ≡ header ++ trees_image (series_of v.arena.nodes v.entries) → whole ≡ store_image (store_value s)
unfolding store_image
view-image v s start header whole is sound none first second =
    second ∙ ap (λ q. q ++ trees_image (series_of v.arena.nodes v.entries)) (view-header v v start header refl sound none first) ∙ ap (λ p. store_image (store_value p)) is

-- what stands at a place
pub at-place : (es : List (List ℕ × Stored)) (i : ℕ) (e : List ℕ × Stored) → slice_get es i ≡ Some e → drop i es ≡ e ∷ drop (i + 1) es
at-place es i e h = elim (slice_get_cases es i).1 [
  | inl here ↦
      let (x, within, at, read) = here in
      let some : Some x ≡ Some e = sym at ∙ h in
      let same : x ≡ e = cc in
      let next : suc i ≡ i + 1 = omega arith in
      drop-cons es i x within ∙ ap₂ (λ (y : List ℕ × Stored) (n : ℕ). y ∷ drop n es) (read ∙ same) next
  | inr past ↦ let none : slice_get es i ≡ None = past.1 in cc
]

-- ---- loops over the entries: what is written and what is left give the whole

pub entries-step : (i : ℕ) (es : List (List ℕ × Stored)) (e : List ℕ × Stored) (a b whole : List ℕ) → drop i es ≡ e ∷ drop (i + 1) es → a ++ stored_entries (drop i es) ≡ whole
    → b ≡ a ++ entry_bytes e.0 e.1.tree.n → b ++ stored_entries (drop (i + 1) es) ≡ whole
entries-step i es e a b whole at rest put =
    ap (λ q. q ++ stored_entries (drop (i + 1) es)) put
    ∙ append_assoc a (entry_bytes e.0 e.1.tree.n) (stored_entries (drop (i + 1) es))
    ∙ ap (λ q. a ++ stored_entries q) (sym at) ∙ rest

pub entries-end : (i : ℕ) (es : List (List ℕ × Stored)) (a whole : List ℕ) → length es ≤ i → a ++ stored_entries (drop i es) ≡ whole → a ≡ whole
entries-end i es a whole past rest = sym (append-nil a) ∙ ap (λ q. a ++ stored_entries q) (sym (drop_all i es past)) ∙ rest

-- the bytes of the trees that are left, which are of these nodes
pub record TreesLeft (nodes : Places) (es : List (List ℕ × Stored)) (a whole : List ℕ) : Type 0 where
  pub rest : a ++ trees_image (series_of nodes es) ≡ whole
  pub are : AreOf nodes es

pub trees-first : (nodes : Places) (i : ℕ) (es : List (List ℕ × Stored)) (e : List ℕ × Stored) (a whole : List ℕ) → drop i es ≡ e ∷ drop (i + 1) es → TreesLeft nodes (drop i es) a whole → IsTreeOf nodes e.1.tree
trees-first nodes i es e a whole at left = (subst (AreOf nodes) at left.are).0

pub trees-step : (nodes : Places) (i : ℕ) (es : List (List ℕ × Stored)) (e : List ℕ × Stored) (a b whole : List ℕ) → drop i es ≡ e ∷ drop (i + 1) es → TreesLeft nodes (drop i es) a whole
    → b ≡ a ++ tree_image (value_of nodes e.1.tree) → TreesLeft nodes (drop (i + 1) es) b whole
trees-step nodes i es e a b whole at left put =
    record {
      rest = ap (λ q. q ++ trees_image (series_of nodes (drop (i + 1) es))) put
          ∙ append_assoc a (tree_image (value_of nodes e.1.tree)) (trees_image (series_of nodes (drop (i + 1) es)))
          ∙ ap (λ q. a ++ trees_image (series_of nodes q)) (sym at) ∙ left.rest;
      are = (subst (AreOf nodes) at left.are).1;
    }

pub trees-end : (nodes : Places) (i : ℕ) (es : List (List ℕ × Stored)) (a whole : List ℕ) → length es ≤ i → TreesLeft nodes (drop i es) a whole → a ≡ whole
trees-end nodes i es a whole past left = sym (append-nil a) ∙ ap (λ q. a ++ trees_image (series_of nodes q)) (sym (drop_all i es past)) ∙ left.rest

pub short-first : (i : ℕ) (es : List (List ℕ × Stored)) (e : List ℕ × Stored) → drop i es ≡ e ∷ drop (i + 1) es → AreShort (drop i es) → (e.1.tree.n ≤ 2 ^ 20) × AreShort (drop (i + 1) es)
short-first i es e at short = subst AreShort at short
