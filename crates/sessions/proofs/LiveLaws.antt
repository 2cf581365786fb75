-- The trees that are live, and what a sweep leaves.
use Rattle.std.proofs.Common.{◌≡◌, ℕ, zero, suc, ◌+◌, ◌*◌, ◌≤◌, ◌<◌, ◌↔◌, List, [], ◌∷◌, ◌++◌, length, map, drop, take, get_or, Option, Some, None, slice_get, refl, sym, ap, ap₂, ◌∙◌, arith, append_assoc, length-append, length-drop}
use Rattle.std.specs.List.{All, flat_map}
use Rattle.std.proofs.lemmas.List.Folds.{length-flat_map-take}
use Rattle.std.proofs.lemmas.List.Elements.{All-nil, All-cons, All-head, All-tail, All-append}
use Rattle.segment.specs.Tree.{SegTree}
use Rattle.seg_tree.specs.declared.arena.Tree.{Tree}
use Rattle.seg_tree.specs.Held.{Held}
use Rattle.seg_tree.specs.Linked.{Places, IsUsed, held_at, used}
use Rattle.seg_tree.specs.Trees.{IsReached, IsTreeOf, value_of}
use Rattle.seg_tree.proofs.SweepLaws.{trees-left}
use Rattle.sessions.specs.Hub.{Session}
use Rattle.sessions.specs.Kept.{Kept, KeepsSlot, KeepSlots, IsLive, entry_tree, live_trees, trees_kept, trees_of}
use Rattle.sessions.specs.Places.{HasFewTrees, IsLeftOf, KeepsNodes, hub_view}
use Rattle.sessions.proofs.Later.{reached-after, reached-before, reached-left}
use Rattle.store_file.specs.Stored.{AreOf, IsSound, StoreParts, series_of, store_value}
use Rattle.store_file.specs.StoreValue.{Series, StoreValue}
use Rattle.store_file.specs.declared.store.Stored.{Stored}
use Rattle.store_file.proofs.StoredLaws.{at-place}

-- ---- what is put and what is left give the whole

pub put-step : {X : Type 0} (a b rest whole : List X) (x : X) → b ≡ a ++ x ∷ [] → a ++ (x ∷ rest) ≡ whole → b ++ rest ≡ whole
put-step a b rest whole x put all = ap (λ q. q ++ rest) put ∙ append_assoc a (x ∷ []) rest ∙ all

map-drop : {X Y : Type 0} (f : X → Y) (i : ℕ) (xs : List X) → map f (drop i xs) ≡ drop i (map f xs)
map-drop f zero xs = refl
map-drop f (suc i) [] = refl
map-drop f (suc i) (x ∷ xs) = map-drop f i xs

-- the tree of the series at a place
pub tree-at : (es : List (List ℕ × Stored)) (i : ℕ) (e : List ℕ × Stored) → slice_get es i ≡ Some e
    → drop i (map entry_tree es) ≡ e.1.tree ∷ drop (i + 1) (map entry_tree es)
tree-at es i e at =
    sym (map-drop entry_tree i es) ∙ ap (map entry_tree) (at-place es i e at)
    ∙ ap (λ q. e.1.tree ∷ q) (map-drop entry_tree (i + 1) es)

-- ---- trees of an arena

-- the trees of a store
pub stored-trees : (nodes : Places) (es : List (List ℕ × Stored)) → AreOf nodes es → All (IsTreeOf nodes) (map entry_tree es)
stored-trees nodes [] h = All-nil (IsTreeOf nodes)
stored-trees nodes (e ∷ es) h = All-cons (IsTreeOf nodes) e.1.tree (map entry_tree es) h.0 (stored-trees nodes es h.1)

trees-stored : (nodes : Places) (es : List (List ℕ × Stored)) → All (IsTreeOf nodes) (map entry_tree es) → AreOf nodes es
trees-stored nodes [] h = tt
trees-stored nodes (e ∷ es) h = (
  All-head (IsTreeOf nodes) e.1.tree (map entry_tree es) h,
  trees-stored nodes es (All-tail (IsTreeOf nodes) e.1.tree (map entry_tree es) h),
)

-- those that the sessions keep
slot-trees : (nodes : Places) (k : Option Kept) (s : Option Session) → KeepsSlot nodes k s → All (IsTreeOf nodes) (trees_kept k)
slot-trees nodes None s h = All-nil (IsTreeOf nodes)
slot-trees nodes (Some k) None h = absurd h
slot-trees nodes (Some k) (Some s) h = h.trees

pub kept-trees : (nodes : Places) (ks : List (Option Kept)) (ss : List (Option Session)) → KeepSlots nodes ks ss → All (IsTreeOf nodes) (flat_map trees_kept ks)
kept-trees nodes [] ss h = All-nil (IsTreeOf nodes)
kept-trees nodes (k ∷ ks) [] h = absurd h
kept-trees nodes (k ∷ ks) (s ∷ ss) h = All-append (IsTreeOf nodes) (trees_kept k) (flat_map trees_kept ks) (slot-trees nodes k s h.0) (kept-trees nodes ks ss h.1)

slot-few : (nodes : Places) (k : Option Kept) (s : Option Session) → KeepsSlot nodes k s → HasFewTrees k
slot-few nodes None s h = omega arith
slot-few nodes (Some k) None h = absurd h
slot-few nodes (Some k) (Some s) h = h.few

pub kept-few : (nodes : Places) (ks : List (Option Kept)) (ss : List (Option Session)) → KeepSlots nodes ks ss → All HasFewTrees ks
kept-few nodes [] ss h = All-nil HasFewTrees
kept-few nodes (k ∷ ks) [] h = absurd h
kept-few nodes (k ∷ ks) (s ∷ ss) h = All-cons HasFewTrees k ks (slot-few nodes k s h.0) (kept-few nodes ks ss h.1)

pub length-kept : (ks : List (Option Kept)) → All HasFewTrees ks → length (flat_map trees_kept ks) ≤ 16 * length ks
length-kept [] h = omega arith
length-kept (k ∷ ks) h =
    let own : length (trees_kept k) ≤ 16 = All-head HasFewTrees k ks h in
    omega (arith, length-append (trees_kept k) (flat_map trees_kept ks), length-kept ks (All-tail HasFewTrees k ks h))

-- ---- a sweep

-- what an arena's sweep leaves
pub record IsSwept (old new : Places) (live : List Tree) : Type 0 where
  pub reached : (p : ℕ) → IsUsed new p ↔ IsReached old live p
  pub kept : (p : ℕ) → IsUsed new p → held_at new p ≡ held_at old p

pub swept-nodes : (old new : Places) (live : List Tree) → IsSwept old new live → KeepsNodes old new live
swept-nodes old new live h = λ q to. h.kept q ((h.reached q).1 to)

-- the used places are those that the trees reach
pub swept-live : (old new : Places) (live : List Tree) → IsSwept old new live → (p : ℕ) → IsUsed new p ↔ IsReached new live p
swept-live old new live h p = (
  λ is. reached-after old new live p (swept-nodes old new live h) ((h.reached p).0 is),
  λ to. (h.reached p).1 (reached-before old new live p (swept-nodes old new live h) to),
)

same-some : {X : Type 0} (x y : X) → Some x ≡ Some y → x ≡ y
same-some x y e = cc

-- where nothing is put, no more places are used
pub fewer-used : (old new : Places) → IsLeftOf old new → used new ≤ used old
fewer-used old [] left = omega arith
fewer-used [] (None ∷ new) left = fewer-used [] new (λ p is. left (suc p) is)
fewer-used [] (Some x ∷ new) left = let wrong = left 0 refl in cc
fewer-used (None ∷ old) (None ∷ new) left = fewer-used old new (λ p is. left (suc p) is)
fewer-used (Some y ∷ old) (None ∷ new) left = omega (arith, fewer-used old new (λ p is. left (suc p) is))
fewer-used (None ∷ old) (Some x ∷ new) left = let wrong = left 0 refl in cc
fewer-used (Some y ∷ old) (Some x ∷ new) left = omega (arith, fewer-used old new (λ p is. left (suc p) is))

series-left : (old new : Places) (es : List (List ℕ × Stored)) → map (value_of new) (map entry_tree es) ≡ map (value_of old) (map entry_tree es) → series_of new es ≡ series_of old es
series-left old new [] e = refl
series-left old new (x ∷ es) e =
    let first : value_of new x.1.tree ≡ value_of old x.1.tree = cc in
    let rest : map (value_of new) (map entry_tree es) ≡ map (value_of old) (map entry_tree es) = cc in
    ap₂ (λ (t : Option SegTree) (ss : List Series). record { name = x.0; tree = t } ∷ ss) first (series-left old new es rest)

-- a store over what is left of its arena
abbrev pub with_arena : StoreParts → Held → StoreParts
with_arena s held = record s { arena = held }

pub record IsLeft (s : StoreParts) (held : Held) (ks : List (Option Kept)) : Type 0 where
  pub sound : IsSound (with_arena s held)
  pub live : IsLive (hub_view (with_arena s held) ks)
  pub value : store_value (with_arena s held) ≡ store_value s
  pub fewer : used held.nodes ≤ used s.arena.nodes

pub store-left : (s : StoreParts) (held : Held) (ks : List (Option Kept)) → IsSound s → IsSwept s.arena.nodes held.nodes (live_trees (hub_view s ks)) → held.degree ≡ s.arena.degree → IsLeft s held ks
store-left s held ks sound swept degree =
    let all = swept-nodes s.arena.nodes held.nodes (live_trees (hub_view s ks)) swept in
    let kept : KeepsNodes s.arena.nodes held.nodes (trees_of s) = λ q to. all q (reached-left s.arena.nodes (trees_of s) (flat_map trees_kept ks) q to) in
    let left = trees-left s.arena.nodes held.nodes (trees_of s) kept (stored-trees s.arena.nodes s.entries sound.trees) in
    record {
      sound = record {
        scale = sound.scale;
        degree = sound.degree;
        fitted = degree ∙ sound.fitted;
        few = sound.few;
        names = sound.names;
        trees = trees-stored held.nodes s.entries left.trees;
      };
      live = record { live = swept-live s.arena.nodes held.nodes (live_trees (hub_view s ks)) swept };
      value = ap (λ (ss : List Series). let m : StoreValue = record { scale = s.scale; degree = s.degree; series = ss } in m)
          (series-left s.arena.nodes held.nodes s.entries left.values);
      fewer = fewer-used s.arena.nodes held.nodes swept.kept;
    }

-- ---- the trees that a sweep is given

pub live-is : (s : StoreParts) (ks : List (Option Kept)) (given all own none : List Tree) → given ≡ all → all ≡ own ++ flat_map trees_kept ks → own ≡ none ++ trees_of s → none ≡ []
    → given ≡ live_trees (hub_view s ks)
live-is s ks given all own none same kept stored start =
    same ∙ kept ∙ ap (λ ts. ts ++ flat_map trees_kept ks) (stored ∙ ap (λ ts. ts ++ trees_of s) start)

pub live-trees : (s : StoreParts) (ks : List (Option Kept)) → IsSound s → All (IsTreeOf s.arena.nodes) (flat_map trees_kept ks) → All (IsTreeOf s.arena.nodes) (live_trees (hub_view s ks))
live-trees s ks sound kept = All-append (IsTreeOf s.arena.nodes) (trees_of s) (flat_map trees_kept ks) (stored-trees s.arena.nodes s.entries sound.trees) kept

-- ---- room for them

pub room-stored : (a b ts : List Tree) (i n : ℕ) → a ++ drop i ts ≡ b ++ ts → i < length ts → length b + length ts ≤ n → length a < n
room-stored a b ts i n e lt room =
    let same : length (a ++ drop i ts) ≡ length (b ++ ts) = ap length e in
    omega (arith, length-append a (drop i ts), length-append b ts, length-drop i ts)

pub room-kept : (a b ts : List Tree) (ks : List (Option Kept)) (i n : ℕ) (x : Option Kept) → a ≡ b ++ flat_map trees_kept (take i ks) → i < length ks → x ≡ get_or ks i x
    → ts ≡ trees_kept x → All HasFewTrees ks → length b + 16 * length ks ≤ n → length a + length ts ≤ n
room-kept a b ts ks i n x put lt read own few room =
    let long : length a ≡ length (b ++ flat_map trees_kept (take i ks)) = ap length put in
    let here : length ts ≡ length (trees_kept (get_or ks i x)) = ap length own ∙ ap (λ o. length (trees_kept o)) read in
    omega (arith, length-append b (flat_map trees_kept (take i ks)), length-flat_map-take trees_kept ks i x lt, length-kept ks few)
