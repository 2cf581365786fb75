-- What an arena's nodes are to the trees that reach them. The laws of `ArenaNodes` cite it, and may cite only specs.
use Rattle.std.proofs.Common.{◌≡◌, ℕ, zero, suc, ◌<◌, List, [], ◌∷◌, length, map, get_or, Option, Some, None, refl, ap, ◌∙◌, sym, subst, arith}
use Rattle.std.specs.List.{All}
use Rattle.std.specs.Option.{option_map}
use Rattle.std.proofs.lemmas.List.{length-map}
use Rattle.std.proofs.lemmas.List.Elements.{All-head, All-tail}
use Rattle.std.proofs.Math.ListN.{get_or-map}
use Rattle.segment.specs.Nodes.{Forest, Place, IsForest, IsSeriesTree, IsPlaceOf, tree_in, known_root}
use Rattle.segment.specs.Shape.{Plan, leaf, fork, plan}
use Rattle.segment.specs.Tree.{SegTree, root_of, IsTreeOver}
use Rattle.segment.proofs.PartLaws.{IsPartOver, part-over}
use Rattle.seg_tree.specs.declared.arena.Tree.{Tree}
use Rattle.seg_tree.specs.Linked.{Places, node_at, tree_at}
use Rattle.seg_tree.specs.Reached.{Reached, forest_of, len_of, lengths_of, roots_of, Means, Stands}
use Rattle.seg_tree.specs.Trees.{IsTreeAt, IsTreeOf, value_at, value_of}

series_at : (nodes : Places) (root : Option ℕ) (n : ℕ) → IsTreeAt nodes root n
    → IsSeriesTree n (value_at nodes root n)
series_at nodes None n h = h
series_at nodes (Some p) n h = h.1

forest-fits : (nodes : Places) (trees : List Tree) → All (IsTreeOf nodes) trees
    → IsForest (map len_of trees) (map (value_of nodes) trees)
forest-fits nodes [] all = tt
forest-fits nodes (t ∷ ts) all = (
  series_at nodes t.root t.n (All-head (IsTreeOf nodes) t ts all),
  forest-fits nodes ts
      (All-tail (IsTreeOf nodes) t ts all),
)

pub forest_fits : (s : Reached) (forest : Forest) → Means s forest → IsForest (lengths_of s) forest
forest_fits s forest means = subst (IsForest (lengths_of s)) (sym means.same) (forest-fits s.nodes s.trees means.trees)

-- a series that has a tree
pub record HasTree (s : Reached) (k : ℕ) (t : SegTree) : Type 0 where
  pub within : k < length s.trees
  pub over : IsTreeOver (get_or (lengths_of s) k 0) t
  pub rooted : known_root (roots_of s) k ≡ Some (root_of t)

tree-over : (n : ℕ) (o : Option SegTree) (t : SegTree) → IsSeriesTree n o → o ≡ Some t → IsTreeOver n t
tree-over n None t h e = cc
tree-over n (Some u) t h e = let same : u ≡ t = cc in subst (IsTreeOver n) same h

tree-found : (nodes : Places) (trees : List Tree) (k : ℕ) (t : SegTree) → All (IsTreeOf nodes) trees
    → tree_in (map (value_of nodes) trees) k ≡ Some t
    → (k < length trees) × IsTreeOver (get_or (map len_of trees) k 0) t
tree-found nodes [] k t all e = cc
tree-found nodes (x ∷ xs) zero t all e = (
  omega arith,
  tree-over x.n (value_of nodes x) t
      (series_at nodes x.root x.n (All-head (IsTreeOf nodes) x xs all)) e,
)
tree-found nodes (x ∷ xs) (suc k) t all e =
    let rest = tree-found nodes xs k t (All-tail (IsTreeOf nodes) x xs all) e in
    (omega (arith, rest.0), rest.1)

pub has_tree : (s : Reached) (k : ℕ) (t : SegTree) → All (IsTreeOf s.nodes) s.trees
    → tree_in (forest_of s) k ≡ Some t → HasTree s k t
has_tree s k t all e =
    let found = tree-found s.nodes s.trees k t all e in
    record {
      within = found.0;
      over = found.1;
      rooted = get_or-map (option_map root_of) (forest_of s) k None ∙ ap (option_map root_of) e;
    }

pub root_of-tree_at : (nodes : Places) (id : ℕ) (p : Plan) → root_of (tree_at nodes id p) ≡ (node_at nodes id).seg
root_of-tree_at nodes id (leaf s n) = refl
root_of-tree_at nodes id (fork s n l r) = refl

pub stands_over : (s : Reached) (id : ℕ) (p : Place) → (h : Stands s id p)
    → IsPartOver (get_or (lengths_of s) p.series 0) h.tree
    (tree_at s.nodes id (plan p.range.start p.range.len)) p.range
stands_over s id p h = part-over (get_or (lengths_of s) p.series 0) h.tree
    (tree_at s.nodes id (plan p.range.start p.range.len)) p.range
    (has_tree s p.series h.tree h.trees h.found).over h.at.part h.at.shaped

pub stands_placed : (s : Reached) (id : ℕ) (p : Place) → Stands s id p → IsPlaceOf (lengths_of s) (roots_of s) p
stands_placed s id p h =
    let has = has_tree s p.series h.tree h.trees h.found in
    record {
      within = omega (arith, has.within, length-map s.trees len_of);
      shaped = (stands_over s id p h).shaped;
      rooted = (root_of h.tree, has.rooted);
    }
