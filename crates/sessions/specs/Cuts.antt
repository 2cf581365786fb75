-- The cut of a session, over the trees that this keeps.
use Rattle.std.specs.Prelude.{◌≡◌, ◌≤◌, ℕ, List, Some, None, length, map}
use Rattle.std.specs.List.{All}
use Rattle.descent.specs.Choice.{choice}
use Rattle.descent.specs.Descents.{Nodes, after, cut_of, next}
use Rattle.descent.specs.Held.{AreNodesOf, CutView, shown}
use Rattle.descent.specs.Known.{facts_in}
use Rattle.descent.specs.Spelled.{spelled}
use Rattle.descent.specs.Sums.{interval_in}
use Rattle.interval.specs.Interval.{Interval}
use Rattle.seg_tree.specs.Linked.{Places}
use Rattle.seg_tree.specs.Trees.{IsTreeOf, value_of}
use Rattle.seg_tree.specs.declared.arena.Tree.{Tree}
use Rattle.semantics.specs.Admitted.{IsAdmitted}
use Rattle.semantics.specs.Limits.{IsWithinLimits}
use Rattle.semantics.specs.Plain.{IsPlain}
use Rattle.semantics.specs.Term.{QueryTerm}
use Rattle.sessions.specs.Hub.{first_nodes, forest_of}
use Rattle.sessions.specs.Kept.{AreTracksIn, reached_from}
use Rattle.store_file.specs.StoreValue.{IsStoreValue, StoreValue}

-- a cut for a query that is plain, within the limits and admitted
pub record IsCutFor (q : QueryTerm) (c : CutView ℕ) : Type 0 where
  pub query : c.query ≡ spelled q
  pub plain : IsPlain q
  pub limits : IsWithinLimits q
  pub admitted : IsAdmitted (facts_in c.tracks) q

-- it is that of a descent over a store after some steps
pub record IsCutOver (m : StoreValue) (q : QueryTerm) (c : CutView ℕ) : Type 0 where
  pub store : IsStoreValue m
  pub steps : ℕ
  pub rows : shown c.tracks ≡ cut_of (after q (first_nodes m q) steps)

-- its rows are those of nodes that these trees reach, and the trees are those of a store
pub record IsCutIn (places : Places) (trees : List Tree) (q : QueryTerm) (c : CutView ℕ) : Type 0 where
  pub few : length trees ≤ 16
  pub all : All (IsTreeOf places) trees
  pub tracks : AreTracksIn (reached_from places trees) c.tracks
  pub store : StoreValue
  pub forest : map (value_of places) trees ≡ forest_of store
  pub over : IsCutOver store q c

-- some row is to give way
pub record HasRow (q : QueryTerm) (c : CutView ℕ) : Type 0 where
  pub some : choice q (shown c.tracks) ≡ None → ⊥

-- it has an interval
pub record HasInterval (q : QueryTerm) (c : CutView ℕ) : Type 0 where
  pub iv : Interval
  pub is : interval_in (shown c.tracks) q ≡ Some iv

-- whatever nodes a cut was that of, the new one is that of the next nodes
abbrev pub Follows : Places → List Tree → QueryTerm → CutView ℕ → CutView ℕ → Type 0
Follows places trees q old new = (nodes : Nodes) → AreNodesOf (map (value_of places) trees) nodes
    → shown old.tracks ≡ cut_of nodes → shown new.tracks ≡ cut_of (next q nodes)
