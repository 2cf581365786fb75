-- What a place of an arena that stands for a node has.
use Rattle.std.proofs.Common.{◌≡◌, ℕ, zero, suc, ◌+◌, ◌-◌, ◌<◌, ◌≤◌, pos, unsigned_abs, List, [], ◌∷◌, length, take, drop, get_or, get_or-take, Option, Some, None, refl, ap, ◌∙◌, sym, subst, arith, inl, inr}
use Rattle.std.specs.Prelude.{IfSome}
use Rattle.std.specs.List.{All}
use Rattle.std.proofs.lemmas.List.Elements.{All-get_or}
use Rattle.std.proofs.Math.ListN.{get_or-map}
use Rattle.semantics.specs.Readings.{reading}
use Rattle.segment.specs.declared.segments.Seg.{Seg}
use Rattle.segment.specs.Measure.{IsSane, greatest_reading}
use Rattle.segment.specs.Nodes.{Forest, Place, root_place, left_of, right_of, seg_at, readings_at, tree_in, known_root}
use Rattle.segment.specs.Shape.{Plan, fork, plan, IsSplit}
use Rattle.segment.specs.Tree.{SegTree, readings_of, root_of, plan_of, IsPartOf}
use Rattle.segment.proofs.PartLaws.{part_self, part_left, part_right, root-true}
use Rattle.segment.proofs.SanityLaws.{magnitude-le, greatest_reading-part}
use Rattle.segment.proofs.ShapeLaws.{plan-fork, split_exists}
use Rattle.seg_tree.specs.declared.arena.Tree.{Tree}
use Rattle.seg_tree.specs.Linked.{Places, IsUsed, node_at, tree_at, kept, left_child, right_child, IsFork, IsLeaf, Reaches}
use Rattle.seg_tree.specs.Reached.{Reached, forest_of, len_of, lengths_of, roots_of, Means, Stands}
use Rattle.seg_tree.specs.ReachedLaws.{has_tree, root_of-tree_at, stands_over}
use Rattle.seg_tree.specs.Trees.{IsReached, IsTreeAt, IsTreeOf, ReachesAt, value_at, value_of}
use Rattle.seg_tree.proofs.Extended.{IsLinked-within, fork_at, leaf_at}

-- a place of the arena stands for the node at a place of the series, and this is its segment
pub record IsNodeAt (s : Reached) (id : ℕ) (g : Seg) (p : Place) : Type 0 where
  pub stands : Stands s id p
  pub starts : g.start ≡ p.range.start
  pub spans : g.len ≡ p.range.len
  pub sane : (root : Seg) → known_root (roots_of s) p.series ≡ Some root → IsSane g root.d
  pub found : (forest : Forest) → Means s forest → seg_at forest p ≡ Some g

pub node_is : (s : Reached) (id : ℕ) (p : Place) → Stands s id p → IsNodeAt s id (node_at s.nodes id).seg p
node_is s id p h =
    let part : SegTree = tree_at s.nodes id (plan p.range.start p.range.len) in
    let over = stands_over s id p h in
    let top : root_of part ≡ (node_at s.nodes id).seg = root_of-tree_at s.nodes id (plan p.range.start p.range.len) in
    let rooted = (has_tree s p.series h.tree h.trees h.found).rooted in
    record {
      stands = h;
      starts = subst (λ (g : Seg). g.start ≡ p.range.start) top over.starts;
      spans = subst (λ (g : Seg). g.len ≡ p.range.len) top over.spans;
      sane = λ root known.
          let same : root_of h.tree ≡ root = cc in
          subst (λ (x : Seg). IsSane x root.d) top (subst (λ (x : Seg). IsSane (root_of part) x.d) same over.sane);
      found = λ forest means. rw (means.same, h.found) (over.found ∙ ap Some top);
    }

pub stands-within : (s : Reached) (id : ℕ) (p : Place) → Stands s id p → IsUsed s.nodes id
stands-within s id p h = IsLinked-within s.nodes id (plan p.range.start p.range.len) h.at.linked

-- the children's places stand for the children
pub record AreChildren (s : Reached) (id : ℕ) (p : Place) (k : ℕ) : Type 0 where
  pub left : Stands s (left_child (node_at s.nodes id).below) (left_of p k)
  pub right : Stands s (right_child (node_at s.nodes id).below) (right_of p k)

pub children_stand : (s : Reached) (id : ℕ) (p : Place) (k : ℕ) → Stands s id p → IsSplit p.range.len k → AreChildren s id p k
children_stand s id p k h split =
    let at = fork_at s.nodes id p.range.start p.range.len k split h.at.linked in
    let g = (node_at s.nodes id).seg in
    let l : SegTree = tree_at s.nodes (left_child (node_at s.nodes id).below) (plan p.range.start k) in
    let r : SegTree = tree_at s.nodes (right_child (node_at s.nodes id).below) (plan (p.range.start + k) (p.range.len - k)) in
    let plans : fork g.start g.len (plan_of l) (plan_of r) ≡ fork p.range.start p.range.len (plan p.range.start k) (plan (p.range.start + k) (p.range.len - k)) =
    ap plan_of (sym at.content) ∙ h.at.shaped ∙ plan-fork p.range.start p.range.len k split in
    let whole = subst (λ t. IsPartOf t h.tree) at.content h.at.part in
    let lp : plan_of l ≡ plan p.range.start k = cc in
    let rp : plan_of r ≡ plan (p.range.start + k) (p.range.len - k) = cc in
    let forks : Plan = fork p.range.start p.range.len (plan p.range.start k) (plan (p.range.start + k) (p.range.len - k)) in
    let below : (q : ℕ) → Reaches s.nodes id forks q → IsReached s.nodes s.trees q =
    λ q to. h.reached q (subst (λ x. Reaches s.nodes id x q) (sym (plan-fork p.range.start p.range.len k split)) to) in
    record {
      left = record {
        trees = h.trees;
        tree = h.tree;
        found = h.found;
        at = record { linked = at.left; shaped = lp; part = part_left h.tree g l r whole };
        reached = λ q to. below q (inr (inl to));
      };
      right = record {
        trees = h.trees;
        tree = h.tree;
        found = h.found;
        at = record { linked = at.right; shaped = rp; part = part_right h.tree g l r whole };
        reached = λ q to. below q (inr (inr to));
      };
    }

-- a node of more than 16 readings has children
pub record IsForkNode (nodes : Places) (id : ℕ) : Type 0 where
  pub within : IsUsed nodes id
  pub forks : IsFork (node_at nodes id).below
  pub left : IsUsed nodes (left_child (node_at nodes id).below)
  pub right : IsUsed nodes (right_child (node_at nodes id).below)

pub fork_node : (s : Reached) (id : ℕ) (p : Place) → Stands s id p → 16 < p.range.len → IsForkNode s.nodes id
fork_node s id p h many =
    let k = split_exists p.range.len many in
    let at = fork_at s.nodes id p.range.start p.range.len k.0 k.1 h.at.linked in
    record {
      within = at.within;
      forks = at.forks;
      left = IsLinked-within s.nodes _ _ at.left;
      right = IsLinked-within s.nodes _ _ at.right;
    }

-- the children that were read of a node
pub left_is : (s : Reached) (nodes : Places) (id left : ℕ) (g : Seg) (p : Place) (k : ℕ) → nodes ≡ s.nodes
    → left ≡ left_child (node_at nodes id).below → g ≡ (node_at nodes (left_child (node_at nodes id).below)).seg
    → Stands s id p → IsSplit p.range.len k → IsNodeAt s left g (left_of p k)
left_is s nodes id left g p k same at seg h split =
    rw (at, seg, same) (node_is s (left_child (node_at s.nodes id).below) (left_of p k) (children_stand s id p k h split).left)

pub right_is : (s : Reached) (nodes : Places) (id right : ℕ) (g : Seg) (p : Place) (k : ℕ) → nodes ≡ s.nodes
    → right ≡ right_child (node_at nodes id).below → g ≡ (node_at nodes (right_child (node_at nodes id).below)).seg
    → Stands s id p → IsSplit p.range.len k → IsNodeAt s right g (right_of p k)
right_is s nodes id right g p k same at seg h split =
    rw (at, seg, same) (node_is s (right_child (node_at s.nodes id).below) (right_of p k) (children_stand s id p k h split).right)

-- the places for which one id stands have one length
pub one_length : (s : Reached) (id : ℕ) (p q : Place) → Stands s id p → Stands s id q → p.range.len ≡ q.range.len
one_length s id p q a b = sym (node_is s id p a).spans ∙ (node_is s id q b).spans

-- a node of at most 16 readings has them
pub record IsLeafNode (s : Reached) (id : ℕ) (p : Place) : Type 0 where
  pub at_end : IsLeaf (node_at s.nodes id).seg.len (node_at s.nodes id).below
  pub readings : (forest : Forest) → Means s forest → take p.range.len (kept (node_at s.nodes id).below) ≡ readings_at forest p
  pub small : (g : Seg) (i : ℕ) → known_root (roots_of s) p.series ≡ Some g → i < p.range.len → unsigned_abs (reading (kept (node_at s.nodes id).below) i) ≤ g.d

pub leaf_node : (s : Reached) (id : ℕ) (p : Place) → Stands s id p → p.range.len ≤ 16 → IsLeafNode s id p
leaf_node s id p h few =
    let at = leaf_at s.nodes id p.range.start p.range.len few h.at.linked in
    let over = stands_over s id p h in
    let has = has_tree s p.series h.tree h.trees h.found in
    let xs = kept (node_at s.nodes id).below in
    let here : take p.range.len (drop p.range.start (readings_of h.tree)) ≡ take p.range.len xs = over.readings ∙ ap readings_of at.content in
    let long : length (take p.range.len xs) ≡ p.range.len = ap length (sym (ap readings_of at.content)) ∙ over.long in
    let most : (root_of h.tree).d ≡ greatest_reading (readings_of h.tree) = ap (λ (g : Seg). g.d) (root-true h.tree has.over.all_true).measured in
    record {
      at_end = subst (λ n. IsLeaf n (node_at s.nodes id).below) (sym (node_is s id p h).spans) at.at_end;
      readings = λ forest means. rw (means.same, h.found) (sym here);
      small = λ g i known lt.
          let same : root_of h.tree ≡ g = cc (has.rooted) in
          let d : (root_of h.tree).d ≡ g.d = ap (λ (x : Seg). x.d) same in
          let part = magnitude-le (take p.range.len xs) i (omega arith) in
          let whole = greatest_reading-part (readings_of h.tree) p.range.start p.range.len in
          let sizes : greatest_reading (take p.range.len (drop p.range.start (readings_of h.tree))) ≡ greatest_reading (take p.range.len xs) = ap greatest_reading here in
          let value : reading (take p.range.len xs) i ≡ reading xs i = get_or-take p.range.len xs i (pos 0) lt in
          let bound : unsigned_abs (reading (take p.range.len xs) i) ≤ g.d = omega arith in
          subst (λ z. unsigned_abs z ≤ g.d) value bound;
    }

-- ---- roots

abbrev pub no_tree : Tree
no_tree = record { root = None; n = 0 }

len-at : (s : Reached) (k : ℕ) → get_or (lengths_of s) k 0 ≡ (get_or s.trees k no_tree).n
len-at s k = get_or-map len_of s.trees k no_tree

tree-at : (s : Reached) (k : ℕ) → tree_in (forest_of s) k ≡ value_of s.nodes (get_or s.trees k no_tree)
tree-at s k = get_or-map (value_of s.nodes) s.trees k no_tree

reached-by : (nodes : Places) (trees : List Tree) (k q : ℕ) → k < length trees → ReachesAt nodes (get_or trees k no_tree).root (get_or trees k no_tree).n q → IsReached nodes trees q
reached-by nodes [] k q lt to = absurd (omega (arith, lt))
reached-by nodes (t ∷ ts) zero q lt to = inl to
reached-by nodes (t ∷ ts) (suc k) q lt to = inr (reached-by nodes ts k q (omega (arith, lt)) to)

root_stands : (s : Reached) (k place : ℕ) (t : Tree) → All (IsTreeOf s.nodes) s.trees → k < length s.trees → get_or s.trees k no_tree ≡ t → t.root ≡ Some place
    → (h : Stands s place (root_place k (get_or (lengths_of s) k 0))) × (h.tree ≡ tree_at s.nodes place (plan 0 (get_or (lengths_of s) k 0)))
root_stands s k place t all lt e root =
    let n = get_or (lengths_of s) k 0 in
    let of : IsTreeOf s.nodes t = subst (IsTreeOf s.nodes) e (All-get_or (IsTreeOf s.nodes) s.trees k no_tree lt all) in
    let len : t.n ≡ n = ap (λ (u : Tree). u.n) (sym e) ∙ sym (len-at s k) in
    let at : IsTreeAt s.nodes (Some place) n = subst (IsTreeAt s.nodes (Some place)) len (subst (λ o. IsTreeAt s.nodes o t.n) root of) in
    let value : tree_in (forest_of s) k ≡ Some (tree_at s.nodes place (plan 0 n)) = tree-at s k ∙ ap (value_of s.nodes) e ∙ ap (λ o. value_at s.nodes o t.n) root ∙ ap (value_at s.nodes (Some place)) len in (
      record {
        trees = all;
        tree = tree_at s.nodes place (plan 0 n);
        found = value;
        at = record { linked = at.0; shaped = at.1.shaped; part = part_self (tree_at s.nodes place (plan 0 n)) };
        reached = λ q to. reached-by s.nodes s.trees k q lt
            (subst (λ (u : Tree). ReachesAt s.nodes u.root u.n q) (sym e)
            (subst (λ o. ReachesAt s.nodes o t.n q) (sym root) (subst (λ m. ReachesAt s.nodes (Some place) m q) (sym len) to)));
      },
      refl,
    )

-- the root that was read of a series, which is known
pub record IsRootAt (s : Reached) (k : ℕ) (r : ℕ × Seg) : Type 0 where
  pub at : IsNodeAt s r.0 r.1 (root_place k (get_or (lengths_of s) k 0))
  pub known : known_root (roots_of s) k ≡ Some r.1

root_known : (s : Reached) (k place : ℕ) → (h : Stands s place (root_place k (get_or (lengths_of s) k 0))) → h.tree ≡ tree_at s.nodes place (plan 0 (get_or (lengths_of s) k 0)) → known_root (roots_of s) k ≡ Some (node_at s.nodes place).seg
root_known s k place h e =
    (has_tree s k h.tree h.trees h.found).rooted ∙ ap Some (ap root_of e ∙ root_of-tree_at s.nodes place (plan 0 (get_or (lengths_of s) k 0)))

pub root_is : (s : Reached) (nodes : Places) (trees : List Tree) (k : ℕ) (o : Option (ℕ × Seg)) → nodes ≡ s.nodes → trees ≡ s.trees → All (IsTreeOf s.nodes) s.trees → k < length s.trees
    → IfSome o (λ r. (get_or trees k no_tree).root ≡ Some r.0) → IfSome o (λ r. r.1 ≡ (node_at nodes r.0).seg) → IfSome o (IsRootAt s k)
root_is s nodes trees k None same_nodes same_trees all lt place seg = tt
root_is s nodes trees k (Some r) same_nodes same_trees all lt place seg =
    let root : (get_or s.trees k no_tree).root ≡ Some r.0 = ap (λ ts. (get_or ts k no_tree).root) (sym same_trees) ∙ place in
    let own : r.1 ≡ (node_at s.nodes r.0).seg = seg ∙ ap (λ ns. (node_at ns r.0).seg) same_nodes in
    let stands = root_stands s k r.0 (get_or s.trees k no_tree) all lt refl root in
    record {
      at = rw own (node_is s r.0 (root_place k (get_or (lengths_of s) k 0)) stands.0);
      known = root_known s k r.0 stands.0 stands.1 ∙ ap Some (sym own);
    }

none-iff : (nodes : Places) (root : Option ℕ) (n : ℕ) → IsTreeAt nodes root n → (root ≡ None → n ≡ 0) × (n ≡ 0 → root ≡ None)
none-iff nodes None n h = (λ e. h, λ e. refl)
none-iff nodes (Some p) n h = (λ e. cc, λ e. absurd (omega (arith, h.1.some)))

-- a series has no root exactly where it has no readings
pub root_none : (s : Reached) (trees : List Tree) (k : ℕ) → trees ≡ s.trees → All (IsTreeOf s.nodes) s.trees → k < length s.trees
    → ((get_or trees k no_tree).root ≡ None → get_or (lengths_of s) k 0 ≡ 0) × (get_or (lengths_of s) k 0 ≡ 0 → (get_or trees k no_tree).root ≡ None)
root_none s trees k same all lt =
    let t = get_or s.trees k no_tree in
    let iff = none-iff s.nodes t.root t.n (All-get_or (IsTreeOf s.nodes) s.trees k no_tree lt all) in
    rw (same, len-at s k) iff

pub for_some : {A : Type 0} (P Q : A → Type 0) (o : Option A) → ((x : A) → P x → Q x) → IfSome o P → IfSome o Q
for_some P Q None f h = tt
for_some P Q (Some x) f h = f x h

tree_at-within : (nodes : Places) (root : Option ℕ) (n place : ℕ) → IsTreeAt nodes root n → root ≡ Some place → IsUsed nodes place
tree_at-within nodes None n place h e = cc
tree_at-within nodes (Some p) n place h e = let same : p ≡ place = cc in subst (IsUsed nodes) same (IsLinked-within nodes p (plan 0 n) h.0)

pub root-within : (nodes : Places) (t : Tree) (place : ℕ) → IsTreeOf nodes t → t.root ≡ Some place → IsUsed nodes place
root-within nodes t place h e = tree_at-within nodes t.root t.n place h e
