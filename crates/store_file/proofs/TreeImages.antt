-- The bytes of a tree by the nodes of an arena.
use Rattle.std.proofs.Common.{◌≡◌, ℕ, ◌+◌, ◌-◌, ◌≤◌, ℤ, List, ◌++◌, length, take, drop, sym, ap, ◌∙◌, append-nil, append_assoc}
use Rattle.std.proofs.lemmas.List.{drop_all}
use Rattle.segment.specs.Shape.{plan}
use Rattle.seg_tree.specs.Linked.{Places, kept, left_child, node_at, right_child, tree_at}
use Rattle.seg_tree.proofs.Extended.{IsLeafAt, IsForkAt}
use Rattle.tree_file.specs.Image.{words, image}
use Rattle.tree_file.specs.Record.{record_of}

-- a leaf: its record and its readings
pub image-leaf : (nodes : Places) (p start len : ℕ) (before own after : List ℕ) (xs : List ℤ) → IsLeafAt nodes p start len
    → xs ≡ take len (kept (node_at nodes p).below)
    → own ≡ before ++ record_of (node_at nodes p).seg
    → after ≡ own ++ words xs
    → after ≡ before ++ image (tree_at nodes p (plan start len))
image-leaf nodes p start len before own after xs at is first second =
    rw (second, first, is, at.content) (append_assoc before (record_of (node_at nodes p).seg) (words (take len (kept (node_at nodes p).below))))

-- a fork: its record, and the nodes of both parts
pub image-fork : (nodes : Places) (p start len s : ℕ) (before own left after : List ℕ) (l r : ℕ) → IsForkAt nodes p start len s
    → l ≡ left_child (node_at nodes p).below → r ≡ right_child (node_at nodes p).below
    → own ≡ before ++ record_of (node_at nodes p).seg
    → left ≡ own ++ image (tree_at nodes l (plan start s))
    → after ≡ left ++ image (tree_at nodes r (plan (start + s) (len - s)))
    → after ≡ before ++ image (tree_at nodes p (plan start len))
image-fork nodes p start len s before own left after l r at is_l is_r first second third =
    rw (third, second, first, is_l, is_r, at.content) (simp append_assoc)

-- ---- the loop over readings: what is written and what is left give the whole

pub words-end : (i : ℕ) (xs : List ℤ) (a whole : List ℕ) → length xs ≤ i → a ++ words (drop i xs) ≡ whole → a ≡ whole
words-end i xs a whole past rest = sym (append-nil a) ∙ ap (λ q. a ++ words q) (sym (drop_all i xs past)) ∙ rest

pub words-step : (i : ℕ) (xs : List ℤ) (word a b whole : List ℕ) → words (drop i xs) ≡ word ++ words (drop (i + 1) xs) → a ++ words (drop i xs) ≡ whole → b ≡ a ++ word → b ++ words (drop (i + 1) xs) ≡ whole
words-step i xs word a b whole at rest put = ap (λ q. q ++ words (drop (i + 1) xs)) put ∙ append_assoc a word (words (drop (i + 1) xs)) ∙ ap (λ q. a ++ q) (sym at) ∙ rest
