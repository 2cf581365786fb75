-- A tree stays as it is where nodes are added.
use Rattle.std.proofs.Common.{◌≡◌, Option, Some, None, ℕ, ◌+◌, ◌-◌, ◌≤◌, ℤ, List, [], ◌∷◌, ◌++◌, take, refl, ap, ◌∙◌, sym, subst, append_assoc, unwrap_or}
use Rattle.segment.specs.Shape.{Plan, leaf, fork, plan, IsSplit}
use Rattle.segment.proofs.ShapeLaws.{plan-leaf, plan-fork}
use Rattle.segment.specs.declared.segments.Seg.{Seg}
use Rattle.segment.specs.Tree.{SegTree, tip, node, segs_of, readings_of, IsTreeOver}
use Rattle.seg_tree.specs.declared.arena.Tree.{Tree}
use Rattle.seg_tree.specs.declared.nodes.Node.{Node}
use Rattle.seg_tree.specs.Trees.{IsTreeAt, IsTreeOf, value_at, value_of}
use Rattle.seg_tree.specs.Linked.{no_node, Places, held_at, node_at, IsUsed, IsPut, IsLeaf, IsFork, kept, left_child, right_child, IsLinked, tree_at, Holds, Extends}

pub Extends_refl : (a : Places) → Extends a a
Extends_refl a = λ p is. refl

-- a used place keeps its node
pub node_at-Extends : (old new : Places) (p : ℕ) → Extends old new → IsUsed old p → node_at new p ≡ node_at old p
node_at-Extends old new p e is = ap (λ o. unwrap_or o no_node) (e p is)

-- and stays used
pub IsUsed-Extends : (old new : Places) (p : ℕ) → Extends old new → IsUsed old p → IsUsed new p
IsUsed-Extends old new p e is = e p is ∙ is ∙ ap Some (sym (node_at-Extends old new p e is))

pub Extends_trans : (a b c : Places) → Extends a b → Extends b c → Extends a c
Extends_trans a b c f g = λ p is. g p (IsUsed-Extends a b p f is) ∙ f p is

pub IsLinked-within : (nodes : Places) (p : ℕ) (plan : Plan) → IsLinked nodes p plan → IsUsed nodes p
IsLinked-within nodes p (leaf s n) w = w.0
IsLinked-within nodes p (fork s n l r) w = w.0

pub IsLinked-Extends : (old new : Places) (p : ℕ) (plan : Plan) → Extends old new → IsLinked old p plan → IsLinked new p plan
IsLinked-Extends old new p (leaf s n) e w =
    let same = node_at-Extends old new p e w.0 in
    (IsUsed-Extends old new p e w.0, subst (λ (x : Node). IsLeaf n x.below) (sym same) w.1)
IsLinked-Extends old new p (fork s n l r) e w =
    let same = node_at-Extends old new p e w.0 in (
      IsUsed-Extends old new p e w.0,
      subst (λ (x : Node). IsFork x.below) (sym same) w.1,
      subst (λ (x : Node). IsLinked new (left_child x.below) l) (sym same) (IsLinked-Extends old new (left_child (node_at old p).below) l e w.2),
      subst (λ (x : Node). IsLinked new (right_child x.below) r) (sym same) (IsLinked-Extends old new (right_child (node_at old p).below) r e w.3),
    )

pub tree_at-Extends : (old new : Places) (p : ℕ) (plan : Plan) → Extends old new → IsLinked old p plan → tree_at new p plan ≡ tree_at old p plan
tree_at-Extends old new p (leaf s n) e w = rw (node_at-Extends old new p e w.0) refl
tree_at-Extends old new p (fork s n l r) e w =
    rw (node_at-Extends old new p e w.0, tree_at-Extends old new (left_child (node_at old p).below) l e w.2, tree_at-Extends old new (right_child (node_at old p).below) r e w.3) refl

pub Holds-Extends : (old new : Places) (p : ℕ) (plan : Plan) (t : SegTree) → Extends old new → Holds old p plan t → Holds new p plan t
Holds-Extends old new p plan t e h = record { linked = IsLinked-Extends old new p plan e h.linked; content = tree_at-Extends old new p plan e h.linked ∙ h.content }

value_at-Extends : (old new : Places) (root : Option ℕ) (n : ℕ) → Extends old new → IsTreeAt old root n → value_at new root n ≡ value_at old root n
value_at-Extends old new None n e h = refl
value_at-Extends old new (Some p) n e h = ap Some (tree_at-Extends old new p (plan 0 n) e h.0)

-- a tree keeps its value where nodes are added
pub value_of-Extends : (old new : Places) (t : Tree) → Extends old new → IsTreeOf old t → value_of new t ≡ value_of old t
value_of-Extends old new t e h = value_at-Extends old new t.root t.n e h

IsTreeAt-Extends : (old new : Places) (root : Option ℕ) (n : ℕ) → Extends old new → IsTreeAt old root n → IsTreeAt new root n
IsTreeAt-Extends old new None n e h = h
IsTreeAt-Extends old new (Some p) n e h =
    (IsLinked-Extends old new p (plan 0 n) e h.0, subst (IsTreeOver n) (sym (tree_at-Extends old new p (plan 0 n) e h.0)) h.1)

-- and stays one
pub IsTreeOf-Extends : (old new : Places) (t : Tree) → Extends old new → IsTreeOf old t → IsTreeOf new t
IsTreeOf-Extends old new t e h = IsTreeAt-Extends old new t.root t.n e h

-- ---- one more node

pub Extends_put : (old new : Places) (p : ℕ) (x : Node) → IsPut old new p x → Extends old new
Extends_put old new p x put = λ q is. put.others q (λ e. let gone : held_at old q ≡ None = ap (held_at old) e ∙ put.vacant in cc)

pub node_at_put : (old new : Places) (p : ℕ) (x : Node) → IsPut old new p x → node_at new p ≡ x
node_at_put old new p x put = ap (λ o. unwrap_or o no_node) put.here

used_put : (old new : Places) (p : ℕ) (x : Node) → IsPut old new p x → IsUsed new p
used_put old new p x put = put.here ∙ ap Some (sym (node_at_put old new p x put))

-- a new leaf is a tree
pub leaf_holds : (old new : Places) (p : ℕ) (x : Node) (s n : ℕ) → IsPut old new p x → IsLeaf n x.below → Holds new p (leaf s n) (tip x.seg (take n (kept x.below)))
leaf_holds old new p x s n put at_end =
    let at = node_at_put old new p x put in
    record {
      linked = (used_put old new p x put, subst (λ (y : Node). IsLeaf n y.below) (sym at) at_end);
      content = rw at refl;
    }

-- a new fork over two trees is a tree
pub fork_holds : (old new : Places) (p : ℕ) (x : Node) (s n : ℕ) (lp rp : Plan) (lt rt : SegTree) → IsPut old new p x → IsFork x.below
    → Holds old (left_child x.below) lp lt → Holds old (right_child x.below) rp rt → Holds new p (fork s n lp rp) (node x.seg lt rt)
fork_holds old new p x s n lp rp lt rt put forks a b =
    let at = node_at_put old new p x put in
    let kept_all = Extends_put old new p x put in
    let l = Holds-Extends old new (left_child x.below) lp lt kept_all a in
    let r = Holds-Extends old new (right_child x.below) rp rt kept_all b in
    record {
      linked = (
        used_put old new p x put,
        subst (λ (y : Node). IsFork y.below) (sym at) forks,
        subst (λ (y : Node). IsLinked new (left_child y.below) lp) (sym at) l.linked,
        subst (λ (y : Node). IsLinked new (right_child y.below) rp) (sym at) r.linked,
      );
      content = rw (at, l.content, r.content) refl;
    }

-- ---- the parts of a tree

-- what the links say of a leaf
pub record IsLeafAt (nodes : Places) (p start len : ℕ) : Type 0 where
  pub within : IsUsed nodes p
  pub at_end : IsLeaf len (node_at nodes p).below
  pub content : tree_at nodes p (plan start len) ≡ tip (node_at nodes p).seg (take len (kept (node_at nodes p).below))

-- what the links say of a fork
pub record IsForkAt (nodes : Places) (p start len s : ℕ) : Type 0 where
  pub within : IsUsed nodes p
  pub forks : IsFork (node_at nodes p).below
  pub left : IsLinked nodes (left_child (node_at nodes p).below) (plan start s)
  pub right : IsLinked nodes (right_child (node_at nodes p).below) (plan (start + s) (len - s))
  pub content : tree_at nodes p (plan start len) ≡ node (node_at nodes p).seg (tree_at nodes (left_child (node_at nodes p).below) (plan start s)) (tree_at nodes (right_child (node_at nodes p).below) (plan (start + s) (len - s)))

pub leaf_at : (nodes : Places) (p start len : ℕ) → len ≤ 16 → IsLinked nodes p (plan start len) → IsLeafAt nodes p start len
leaf_at nodes p start len short linked =
    let is = plan-leaf start len short in
    let at_leaf = subst (IsLinked nodes p) is linked in
    record { within = at_leaf.0; at_end = at_leaf.1; content = ap (tree_at nodes p) is }

pub fork_at : (nodes : Places) (p start len s : ℕ) → IsSplit len s → IsLinked nodes p (plan start len) → IsForkAt nodes p start len s
fork_at nodes p start len s split linked =
    let is = plan-fork start len s split in
    let at_fork = subst (IsLinked nodes p) is linked in
    record { within = at_fork.0; forks = at_fork.1; left = at_fork.2; right = at_fork.3; content = ap (tree_at nodes p) is }

-- ---- the segments of a tree, one after another

pub segs_leaf : (nodes : Places) (p start len : ℕ) (before after : List Seg) → IsLeafAt nodes p start len → after ≡ before ++ (node_at nodes p).seg ∷ [] → after ≡ before ++ segs_of (tree_at nodes p (plan start len))
segs_leaf nodes p start len before after at pushed = pushed ∙ ap (λ t. before ++ segs_of t) (sym at.content)

pub segs_fork : (nodes : Places) (p start len s : ℕ) (before own left after : List Seg) (l r : ℕ) → IsForkAt nodes p start len s
    → l ≡ left_child (node_at nodes p).below → r ≡ right_child (node_at nodes p).below
    → own ≡ before ++ (node_at nodes p).seg ∷ []
    → left ≡ own ++ segs_of (tree_at nodes l (plan start s))
    → after ≡ left ++ segs_of (tree_at nodes r (plan (start + s) (len - s)))
    → after ≡ before ++ segs_of (tree_at nodes p (plan start len))
segs_fork nodes p start len s before own left after l r at is_l is_r first second third =
    rw (third, second, first, is_l, is_r, at.content) (simp append_assoc)

-- ---- the readings of a tree, one after another

pub readings_leaf : (nodes : Places) (p start len : ℕ) (before after : List ℤ) → IsLeafAt nodes p start len → after ≡ before ++ take len (kept (node_at nodes p).below) → after ≡ before ++ readings_of (tree_at nodes p (plan start len))
readings_leaf nodes p start len before after at pushed = pushed ∙ ap (λ t. before ++ readings_of t) (sym at.content)

pub readings_fork : (nodes : Places) (p start len s : ℕ) (before left after : List ℤ) (l r : ℕ) → IsForkAt nodes p start len s
    → l ≡ left_child (node_at nodes p).below → r ≡ right_child (node_at nodes p).below
    → left ≡ before ++ readings_of (tree_at nodes l (plan start s))
    → after ≡ left ++ readings_of (tree_at nodes r (plan (start + s) (len - s)))
    → after ≡ before ++ readings_of (tree_at nodes p (plan start len))
readings_fork nodes p start len s before left after l r at is_l is_r first second =
    rw (second, first, is_l, is_r, at.content) (simp append_assoc)
