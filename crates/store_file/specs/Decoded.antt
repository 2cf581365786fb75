-- The store for which bytes stand, or the first refusal.
use Rattle.std.specs.Prelude.{ℕ, zero, suc, ◌+◌, ◌^◌, ◌≤◌, ◌==◌, nat_lt, if◌then◌else◌, List, [], ◌∷◌, length, map, take, drop, Option, Some, None, Result, Ok, Err}
use Rattle.std.specs.Option.{option_map, option_or}
use Rattle.segment.specs.declared.segments.Seg.{Seg}
use Rattle.segment.specs.Shape.{plan}
use Rattle.segment.specs.Tree.{SegTree}
use Rattle.tree_file.specs.Image.{tree_size, tree_in}
use Rattle.store_file.specs.Good.{first_bad}
use Rattle.store_file.specs.Header.{fixed_of, entry_of}
use Rattle.store_file.specs.StoreValue.{Series, StoreValue, has_name}
use Rattle.store_file.specs.declared.header.Fixed.{Fixed}
use Rattle.store_file.specs.declared.header.Entry.{Entry}
use Rattle.store_file.specs.declared.decoding.StoreErr.{StoreErr}
use Rattle.store_file.specs.declared.decoding.StoreErr.TheVariants.{NotAStore, BadNode}

-- ---- the entries

abbrev pub entry_name : Entry → List ℕ
entry_name e = e.name

-- how many bytes an entry has
abbrev pub entry_size : Entry → ℕ
entry_size e = length e.name + 5

-- the entry that bytes begin with
abbrev pub first_entry : List ℕ → Option Entry
first_entry [] = None
first_entry (k ∷ rest) = entry_of (k ∷ take (k + 4) rest)

-- an entry whose name wasn't seen
abbrev pub if_new : List (List ℕ) → Option Entry → Option Entry
if_new seen None = None
if_new seen (Some e) = if has_name seen e.name then None else Some e

-- an entry before others, or their refusal
abbrev pub before : Entry → Result (List Entry) ℕ → Result (List Entry) ℕ
before e (Ok es) = Ok (e ∷ es)
before e (Err place) = Err place

-- an entry and those after it, or its own place where there is none
abbrev pub with_entry : ℕ → (Entry → Result (List Entry) ℕ) → Option Entry → Result (List Entry) ℕ
with_entry place others None = Err place
with_entry place others (Some e) = before e (others e)

-- so many entries one after another, or the place of the first that is none, or whose name was seen
abbrev pub entries_in : ℕ → ℕ → List (List ℕ) → List ℕ → Result (List Entry) ℕ
entries_in zero place seen bytes = Ok []
entries_in (suc k) place seen bytes =
    with_entry place (λ e. entries_in k (place + entry_size e) (e.name ∷ seen) (drop (entry_size e) bytes))
    (if_new seen (first_entry bytes))

abbrev pub names_of : List Entry → List (List ℕ)
names_of es = map entry_name es

-- no entry has too many readings
abbrev pub IsShort : Entry → Type 0
IsShort e = e.n ≤ 2 ^ 20

abbrev pub entries_size : List Entry → ℕ
entries_size [] = 0
entries_size (e ∷ es) = entry_size e + entries_size es

-- ---- the trees

abbrev pub trees_size : List Entry → ℕ
trees_size [] = 0
trees_size (e ∷ es) = tree_size e.n + trees_size es

-- the tree over n readings that bytes begin with, where there are some
abbrev pub series_tree : ℕ → List ℕ → Option SegTree
series_tree zero bytes = None
series_tree (suc n) bytes = Some (tree_in (plan 0 (suc n)) bytes)

-- the series of these entries, whose trees stand one after another
abbrev pub series_in : List Entry → List ℕ → List Series
series_in [] bytes = []
series_in (e ∷ es) bytes = record { name = e.name; tree = series_tree e.n bytes }
    ∷ series_in es (drop (tree_size e.n) bytes)

-- the refusal of a node of a series
abbrev pub bad_node : List ℕ → Seg → StoreErr
bad_node name g = BadNode name g.start g.len

abbrev pub bad_in_tree : List ℕ → Option SegTree → Option StoreErr
bad_in_tree name None = None
bad_in_tree name (Some t) = option_map (bad_node name) (first_bad t)

-- the refusal of the first node that isn't true of its readings
abbrev pub bad_in : List Series → Option StoreErr
bad_in [] = None
bad_in (s ∷ ss) = option_or (bad_in_tree s.name s.tree) (bad_in ss)

-- ---- the whole, step by step

-- how many bytes the header with these entries has
abbrev pub header_size : List Entry → ℕ
header_size es = 8 + entries_size es

abbrev pub store_with : Fixed → List Series → StoreValue
store_with f ss = record { scale = f.scale; degree = f.degree; series = ss }

-- the store, where no node is refused
abbrev pub by_nodes : Fixed → List Series → Option StoreErr → Result StoreValue StoreErr
by_nodes f ss None = Ok (store_with f ss)
by_nodes f ss (Some e) = Err e

abbrev pub by_series : Fixed → List Series → Result StoreValue StoreErr
by_series f ss = by_nodes f ss (bad_in ss)

abbrev pub by_entries : List ℕ → Fixed → Result (List Entry) ℕ → Result StoreValue StoreErr
by_entries bytes f (Err place) = Err (NotAStore place)
by_entries bytes f (Ok es) =
    if length bytes == header_size es + trees_size es then by_series f (series_in es (drop (header_size es) bytes))
    else Err (NotAStore (header_size es))

abbrev pub by_fixed : List ℕ → Result Fixed ℕ → Result StoreValue StoreErr
by_fixed bytes (Err place) = Err (NotAStore place)
by_fixed bytes (Ok f) = by_entries bytes f (entries_in f.count 8 [] (drop 8 bytes))

unfoldable pub decode_of : List ℕ → Result StoreValue StoreErr
decode_of bytes = if nat_lt (length bytes) 8 then Err (NotAStore 0) else by_fixed bytes (fixed_of (take 8 bytes))
