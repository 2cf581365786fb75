-- The bytes of a tree.
use Rattle.std.specs.Prelude.{ℕ, zero, suc, ◌+◌, ◌*◌, ℤ, List, [], ◌∷◌, ◌++◌, take, drop}
use Rattle.segment.specs.Shape.{Plan, leaf, fork, plan}
use Rattle.segment.specs.Tree.{SegTree, tip, node}
use Rattle.tree_file.specs.Bytes.{bytes_of, number_of, wrapped, unwrapped}
use Rattle.tree_file.specs.Record.{record_of, seg_in}

-- four bytes a reading
abbrev pub words : List ℤ → List ℕ
words [] = []
words (x ∷ xs) = bytes_of 4 (wrapped 4 x) ++ words xs

-- the n readings that bytes begin with
abbrev pub words_in : ℕ → List ℕ → List ℤ
words_in zero bytes = []
words_in (suc n) bytes = unwrapped 4 (number_of 4 bytes) ∷ words_in n (drop 4 bytes)

-- the records in preorder, each leaf's followed by its readings
abbrev pub image : SegTree → List ℕ
image (tip g xs) = record_of g ++ words xs
image (node g left right) = record_of g ++ (image left ++ image right)

-- how many bytes a tree with these ranges has
abbrev pub size : Plan → ℕ
size (leaf start len) = 56 + 4 * len
size (fork start len left right) = 56 + (size left + size right)

-- how many bytes the tree over n readings has
abbrev pub tree_size : ℕ → ℕ
tree_size zero = 0
tree_size (suc n) = size (plan 0 (suc n))

-- the tree with these ranges that bytes begin with
abbrev pub tree_in : Plan → List ℕ → SegTree
tree_in (leaf start len) bytes = tip (seg_in (take 56 bytes) start len) (words_in len (drop 56 bytes))
tree_in (fork start len left right) bytes =
    node (seg_in (take 56 bytes) start len) (tree_in left (drop 56 bytes))
    (tree_in right (drop (size left) (drop 56 bytes)))
