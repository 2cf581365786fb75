-- What a hub keeps lasts where the places that its trees reach keep their nodes.
use Rattle.std.proofs.Common.{◌≡◌, ℕ, ◌⊎◌, List, [], ◌∷◌, ◌++◌, map, Option, Some, None, refl, sym, ap, ◌∙◌, subst, inl, inr, unwrap_or}
use Rattle.std.specs.List.{All, flat_map}
use Rattle.std.specs.Option.{option_map}
use Rattle.std.proofs.lemmas.List.Elements.{All-nil, All-cons, All-head, All-tail}
use Rattle.descent.specs.Held.{Held, IsTrackOf, StandsFor as StandsIn, place_of}
use Rattle.descent.specs.Rows.{Track}
use Rattle.segment.specs.Nodes.{Place, tree_in}
use Rattle.segment.specs.Shape.{Plan, leaf, fork, plan}
use Rattle.segment.specs.Tree.{root_of, plan_of, IsPartOf}
use Rattle.seg_tree.specs.declared.arena.Tree.{Tree}
use Rattle.seg_tree.specs.declared.nodes.Node.{Node}
use Rattle.seg_tree.specs.Linked.{Places, held_at, node_at, no_node, left_child, right_child, Reaches}
use Rattle.seg_tree.specs.Reached.{Stands, lengths_of, roots_of}
use Rattle.seg_tree.specs.Trees.{IsReached, IsTreeOf, ReachesAt}
use Rattle.seg_tree.proofs.SweepLaws.{KeepsReached, linked-kept, tree-kept, trees-left}
use Rattle.sessions.specs.Hub.{Session}
use Rattle.sessions.specs.Kept.{Kept, Keeps, KeepsSlot, KeepSlots, AreTracksIn, reached_from, trees_kept}
use Rattle.sessions.specs.Places.{KeepsNodes}

node-kept : (old new : Places) (p : ℕ) → held_at new p ≡ held_at old p → node_at new p ≡ node_at old p
node-kept old new p e = ap (λ o. unwrap_or o no_node) e

-- ---- what is reached stays so

reaches-before : (old new : Places) (p : ℕ) (x : Plan) → KeepsReached old new p x → (q : ℕ) → Reaches new p x q → Reaches old p x q
reaches-before old new p (leaf s n) kept q h = h
reaches-before old new p (fork s n l r) kept q (inl e) = inl e
reaches-before old new p (fork s n l r) kept q (inr (inl h)) =
    let node = node-kept old new p (kept p (inl refl)) in
    inr (inl (reaches-before old new (left_child (node_at old p).below) l (λ i g. kept i (inr (inl g))) q
    (subst (λ (x : Node). Reaches new (left_child x.below) l q) node h)))
reaches-before old new p (fork s n l r) kept q (inr (inr h)) =
    let node = node-kept old new p (kept p (inl refl)) in
    inr (inr (reaches-before old new (right_child (node_at old p).below) r (λ i g. kept i (inr (inr g))) q
    (subst (λ (x : Node). Reaches new (right_child x.below) r q) node h)))

reaches-after : (old new : Places) (p : ℕ) (x : Plan) → KeepsReached old new p x → (q : ℕ) → Reaches old p x q → Reaches new p x q
reaches-after old new p (leaf s n) kept q h = h
reaches-after old new p (fork s n l r) kept q (inl e) = inl e
reaches-after old new p (fork s n l r) kept q (inr (inl h)) =
    let node = node-kept old new p (kept p (inl refl)) in
    inr (inl (subst (λ (x : Node). Reaches new (left_child x.below) l q) (sym node)
    (reaches-after old new (left_child (node_at old p).below) l (λ i g. kept i (inr (inl g))) q h)))
reaches-after old new p (fork s n l r) kept q (inr (inr h)) =
    let node = node-kept old new p (kept p (inl refl)) in
    inr (inr (subst (λ (x : Node). Reaches new (right_child x.below) r q) (sym node)
    (reaches-after old new (right_child (node_at old p).below) r (λ i g. kept i (inr (inr g))) q h)))

root-before : (old new : Places) (root : Option ℕ) (n q : ℕ) → ((i : ℕ) → ReachesAt old root n i → held_at new i ≡ held_at old i) → ReachesAt new root n q → ReachesAt old root n q
root-before old new None n q kept h = h
root-before old new (Some p) n q kept h = reaches-before old new p (plan 0 n) kept q h

root-after : (old new : Places) (root : Option ℕ) (n q : ℕ) → ((i : ℕ) → ReachesAt old root n i → held_at new i ≡ held_at old i) → ReachesAt old root n q → ReachesAt new root n q
root-after old new None n q kept h = h
root-after old new (Some p) n q kept h = reaches-after old new p (plan 0 n) kept q h

pub reached-before : (old new : Places) (trees : List Tree) (q : ℕ) → KeepsNodes old new trees → IsReached new trees q → IsReached old trees q
reached-before old new [] q kept h = h
reached-before old new (t ∷ ts) q kept (inl h) = inl (root-before old new t.root t.n q (λ i g. kept i (inl g)) h)
reached-before old new (t ∷ ts) q kept (inr h) = inr (reached-before old new ts q (λ i g. kept i (inr g)) h)

pub reached-after : (old new : Places) (trees : List Tree) (q : ℕ) → KeepsNodes old new trees → IsReached old trees q → IsReached new trees q
reached-after old new [] q kept h = h
reached-after old new (t ∷ ts) q kept (inl h) = inl (root-after old new t.root t.n q (λ i g. kept i (inl g)) h)
reached-after old new (t ∷ ts) q kept (inr h) = inr (reached-after old new ts q (λ i g. kept i (inr g)) h)

-- ---- a place stands for the same node

stands-later : (old new : Places) (trees : List Tree) (id : ℕ) (p : Place) → KeepsNodes old new trees
    → Stands (reached_from old trees) id p → Stands (reached_from new trees) id p
stands-later old new trees id p kept h =
    let x : Plan = plan p.range.start p.range.len in
    let own : KeepsReached old new id x = λ q to. kept q (h.reached q to) in
    let left = trees-left old new trees kept h.trees in
    let same = tree-kept old new id x own in
    record {
      trees = left.trees;
      tree = h.tree;
      found = ap (λ forest. tree_in forest p.series) left.values ∙ h.found;
      at = record {
        linked = linked-kept old new id x own h.at.linked;
        shaped = ap plan_of same ∙ h.at.shaped;
        part = subst (λ t. IsPartOf t h.tree) (sym same) h.at.part;
      };
      reached = λ q to. reached-after old new trees q kept (h.reached q (reaches-before old new id x own q to));
    }

-- ---- each of some

pub all-later : {X : Type 0} (P Q : X → Type 0) (xs : List X) → ((x : X) → P x → Q x) → All P xs → All Q xs
all-later P Q [] f h = All-nil Q
all-later P Q (x ∷ xs) f h = All-cons Q x xs (f x (All-head P x xs h)) (all-later P Q xs f (All-tail P x xs h))

-- ---- the rows of a cut

roots-later : (old new : Places) (trees : List Tree) → KeepsNodes old new trees → All (IsTreeOf old) trees
    → roots_of (reached_from new trees) ≡ roots_of (reached_from old trees)
roots-later old new trees kept all = ap (map (option_map root_of)) (trees-left old new trees kept all).values

track-later : (old new : Places) (trees : List Tree) (track : Track (Held ℕ)) → KeepsNodes old new trees → All (IsTreeOf old) trees
    → IsTrackOf (lengths_of (reached_from old trees)) (roots_of (reached_from old trees)) (Stands (reached_from old trees)) track
    → IsTrackOf (lengths_of (reached_from new trees)) (roots_of (reached_from new trees)) (Stands (reached_from new trees)) track
track-later old new trees track kept all h =
    let stand : All (StandsIn (Stands (reached_from new trees)) track.series) track.rows =
    all-later (StandsIn (Stands (reached_from old trees)) track.series) (StandsIn (Stands (reached_from new trees)) track.series) track.rows
    (λ x s. stands-later old new trees x.id (place_of track.series x.row) kept s) h.stand in
    subst (λ roots. IsTrackOf (lengths_of (reached_from new trees)) roots (Stands (reached_from new trees)) track)
    (sym (roots-later old new trees kept all))
    (record { within = h.within; len = h.len; rooted = h.rooted; stand = stand })

pub tracks-later : (old new : Places) (trees : List Tree) (tracks : List (Track (Held ℕ))) → KeepsNodes old new trees → All (IsTreeOf old) trees
    → AreTracksIn (reached_from old trees) tracks → AreTracksIn (reached_from new trees) tracks
tracks-later old new trees tracks kept all h =
    all-later (IsTrackOf (lengths_of (reached_from old trees)) (roots_of (reached_from old trees)) (Stands (reached_from old trees)))
    (IsTrackOf (lengths_of (reached_from new trees)) (roots_of (reached_from new trees)) (Stands (reached_from new trees))) tracks
    (λ track t. track-later old new trees track kept all t) h

-- ---- sessions

-- a session that is kept stands for what it stood for
pub keeps-later : (old new : Places) (k : Kept) (s : Session) → KeepsNodes old new k.trees → Keeps old k s → Keeps new k s
keeps-later old new k s kept h =
    let left = trees-left old new k.trees kept h.trees in
    record {
      few = h.few;
      trees = left.trees;
      forest = left.values ∙ h.forest;
      store = h.store;
      budget = h.budget;
      plain = h.plain;
      limits = h.limits;
      admitted = h.admitted;
      spelled = h.spelled;
      steps = h.steps;
      reached = h.reached;
      tracks = tracks-later old new k.trees k.tracks kept h.trees h.tracks;
      rows = h.rows;
      running = h.running;
      holds = h.holds;
      narrow = h.narrow;
    }

slot-later : (old new : Places) (k : Option Kept) (s : Option Session) → KeepsNodes old new (trees_kept k) → KeepsSlot old k s → KeepsSlot new k s
slot-later old new None None kept h = h
slot-later old new None (Some s) kept h = h
slot-later old new (Some k) None kept h = h
slot-later old new (Some k) (Some s) kept h = keeps-later old new k s kept h

pub reached-left : (nodes : Places) (ts us : List Tree) (q : ℕ) → IsReached nodes ts q → IsReached nodes (ts ++ us) q
reached-left nodes [] us q h = absurd h
reached-left nodes (t ∷ ts) us q (inl h) = inl h
reached-left nodes (t ∷ ts) us q (inr h) = inr (reached-left nodes ts us q h)

pub reached-right : (nodes : Places) (ts us : List Tree) (q : ℕ) → IsReached nodes us q → IsReached nodes (ts ++ us) q
reached-right nodes [] us q h = h
reached-right nodes (t ∷ ts) us q h = inr (reached-right nodes ts us q h)

pub reached-parts : (nodes : Places) (ts us : List Tree) (q : ℕ) → IsReached nodes (ts ++ us) q → IsReached nodes ts q ⊎ IsReached nodes us q
reached-parts nodes [] us q h = inr h
reached-parts nodes (t ∷ ts) us q (inl h) = inl (inl h)
reached-parts nodes (t ∷ ts) us q (inr h) = elim (reached-parts nodes ts us q h) [ inl a ↦ inl (inr a) | inr b ↦ inr b ]

-- all slots of a hub stand for what they stood for
pub slots-later : (old new : Places) (ks : List (Option Kept)) (ss : List (Option Session)) → KeepsNodes old new (flat_map trees_kept ks) → KeepSlots old ks ss → KeepSlots new ks ss
slots-later old new [] [] kept h = h
slots-later old new [] (s ∷ ss) kept h = h
slots-later old new (k ∷ ks) [] kept h = h
slots-later old new (k ∷ ks) (s ∷ ss) kept h = (
  slot-later old new k s (λ q g. kept q (reached-left old (trees_kept k) (flat_map trees_kept ks) q g)) h.0,
  slots-later old new ks ss (λ q g. kept q (reached-right old (trees_kept k) (flat_map trees_kept ks) q g)) h.1,
)
