-- Which places of an arena a hub keeps, and what a call does to those.
use Rattle.std.specs.Prelude.{◌≡◌, ℕ, ◌≤◌, List, length, Option}
use Rattle.seg_tree.specs.Linked.{IsUsed, Places, held_at}
use Rattle.seg_tree.specs.Trees.{IsReached}
use Rattle.seg_tree.specs.declared.arena.Tree.{Tree}
use Rattle.sessions.specs.Kept.{Kept, HubView, trees_kept}
use Rattle.store_file.specs.Stored.{StoreParts}

-- every place that the trees reach keeps its node
abbrev pub KeepsNodes : Places → Places → List Tree → Type 0
KeepsNodes old new trees = (p : ℕ) → IsReached old trees p → held_at new p ≡ held_at old p

-- every place that is used before and after has the node that it had
abbrev pub KeepsUsed : Places → Places → Type 0
KeepsUsed old new = (p : ℕ) → IsUsed old p → IsUsed new p → held_at new p ≡ held_at old p

-- every used place was used before, with the same node
abbrev pub IsLeftOf : Places → Places → Type 0
IsLeftOf old new = (p : ℕ) → IsUsed new p → held_at new p ≡ held_at old p

-- how many trees are live at most: 16 of a store, and 16 of the session in each of 16 slots
abbrev pub most_live : ℕ
most_live = 272

-- a session has no more trees than a store
abbrev pub HasFewTrees : Option Kept → Type 0
HasFewTrees k = length (trees_kept k) ≤ 16

abbrev pub hub_view : StoreParts → List (Option Kept) → HubView
hub_view store slots = record { store = store; slots = slots }

-- the store over other nodes
abbrev pub with_nodes : StoreParts → Places → StoreParts
with_nodes s nodes = record s { arena = record s.arena { nodes = nodes } }
