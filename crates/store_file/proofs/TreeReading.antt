-- The nodes of a tree that bytes write, as they are read.
use Rattle.std.proofs.Common.{◌≡◌, ℕ, suc, ◌+◌, ◌-◌, ◌*◌, ◌^◌, ◌<◌, ◌≤◌, ℤ, List, [], ◌∷◌, ◌++◌, length, take, drop, refl, sym, ap, ap₂, ◌∙◌, arith, append_assoc, append-nil, drop-drop, length-drop}
use Rattle.std.proofs.lemmas.List.{length-take-le}
use Rattle.std.specs.Int.{w32, cast_signed}
use Rattle.segment.specs.declared.segments.Seg.{Seg}
use Rattle.segment.specs.Shape.{Plan, leaf, fork, plan, IsSplit}
use Rattle.segment.specs.Tree.{SegTree, tip, node, readings_of, segs_of}
use Rattle.segment.proofs.ShapeLaws.{plan-leaf, plan-fork}
use Rattle.tree_file.specs.Bytes.{IsBytes, bytes_of, number_of, unwrapped}
use Rattle.tree_file.specs.Image.{size, tree_size, words_in, tree_in}
use Rattle.tree_file.specs.Record.{seg_in}
use Rattle.tree_file.proofs.Digits.{number-part, number_of-lt, number_of-bytes_of, bytes_of-number_of, drop_bytes}
use Rattle.tree_file.proofs.PlanLaws.{size-tree_size, split_some}

-- ---- one reading

pub cast-unwrapped : (x : ℕ) → cast_signed w32 x ≡ unwrapped 4 x
unfolding unwrapped
cast-unwrapped x = refl

pub number_of-front : (n : ℕ) (xs : List ℕ) → n ≤ length xs → IsBytes xs → number_of n (take n xs) ≡ number_of n xs
number_of-front n xs room are =
    let written : bytes_of n (number_of n xs) ++ [] ≡ take n xs = append-nil (bytes_of n (number_of n xs)) ∙ bytes_of-number_of n xs room are in
    ap (number_of n) (sym written) ∙ number_of-bytes_of n (number_of n xs) [] (number_of-lt n xs are)

pub reading-read : (bytes : List ℕ) (place m v : ℕ) → IsBytes bytes → place + 4 ≤ length bytes → m ≡ 4 → v ≡ number_of (length (take m (drop place bytes))) (take m (drop place bytes)) → (v ≡ number_of 4 (drop place bytes)) × (v < 2 ^ 32)
reading-read bytes place m v are room four is =
    let here : 4 ≤ length (drop place bytes) = omega (arith, room, length-drop place bytes) in
    let long : length (take m (drop place bytes)) ≡ 4 = length-take-le m (drop place bytes) (omega (arith, four, here)) ∙ four in
    let same : v ≡ number_of 4 (take 4 (drop place bytes)) = is ∙ ap₂ number_of long (ap (λ k. take k (drop place bytes)) four) in
    (same ∙ number_of-front 4 (drop place bytes) here (drop_bytes place bytes are), number-part bytes place 4 4 v are same)

-- one more reading
pub words-step : (n i : ℕ) (bytes : List ℕ) (xs ys whole : List ℤ) (x : ℤ) → i < n → xs ++ words_in (n - i) (drop (4 * i) bytes) ≡ whole → x ≡ unwrapped 4 (number_of 4 (drop (4 * i) bytes)) → ys ≡ xs ++ x ∷ []
    → ys ++ words_in (n - (i + 1)) (drop (4 * (i + 1)) bytes) ≡ whole
words-step n i bytes xs ys whole x lt rest is put =
    let k : ℕ = n - (i + 1) in
    let turns : n - i ≡ suc k = omega (arith, lt) in
    let place : 4 * (i + 1) ≡ 4 * i + 4 = omega arith in
    let others : drop (4 * (i + 1)) bytes ≡ drop 4 (drop (4 * i) bytes) = ap (λ p. drop p bytes) place ∙ sym (drop-drop 4 (4 * i) bytes) in
    ap₂ ◌++◌ put (ap (words_in k) others)
    ∙ append_assoc xs (x ∷ []) (words_in k (drop 4 (drop (4 * i) bytes)))
    ∙ ap (λ y. xs ++ y ∷ words_in k (drop 4 (drop (4 * i) bytes))) is
    ∙ ap (λ m. xs ++ words_in m (drop (4 * i) bytes)) (sym turns) ∙ rest

-- ---- the parts of a tree

pub size-least : (p : Plan) → 56 ≤ size p
size-least (leaf start len) = omega arith
size-least (fork start len l r) = omega arith

-- the tree over len readings from start that bytes write
abbrev pub part_in : ℕ → ℕ → List ℕ → SegTree
part_in start len bytes = tree_in (plan start len) bytes

abbrev pub left_part : ℕ → ℕ → List ℕ → SegTree
left_part start s bytes = part_in start s (drop 56 bytes)

abbrev pub right_part : ℕ → ℕ → ℕ → List ℕ → SegTree
right_part start len s bytes = part_in (start + s) (len - s) (drop (tree_size s) (drop 56 bytes))

pub size-leaf : (start len : ℕ) → len ≤ 16 → size (plan start len) ≡ 56 + 4 * len
size-leaf start len short = ap size (plan-leaf start len short)

pub size-fork : (start len s : ℕ) → IsSplit len s → size (plan start len) ≡ 56 + (tree_size s + size (plan (start + s) (len - s)))
size-fork start len s parts = ap size (plan-fork start len s parts) ∙ ap (λ k. 56 + (k + size (plan (start + s) (len - s)))) (size-tree_size start s (split_some len s parts))

part-leaf : (start len : ℕ) (bytes : List ℕ) → len ≤ 16 → part_in start len bytes ≡ tip (seg_in (take 56 bytes) start len) (words_in len (drop 56 bytes))
part-leaf start len bytes short = ap (λ p. tree_in p bytes) (plan-leaf start len short)

part-fork : (start len s : ℕ) (bytes : List ℕ) → IsSplit len s
    → part_in start len bytes ≡ node (seg_in (take 56 bytes) start len) (left_part start s bytes) (right_part start len s bytes)
part-fork start len s bytes parts =
    ap (λ p. tree_in p bytes) (plan-fork start len s parts)
    ∙ ap (λ k. node (seg_in (take 56 bytes) start len) (left_part start s bytes) (part_in (start + s) (len - s) (drop k (drop 56 bytes)))) (size-tree_size start s (split_some len s parts))

-- ---- what is added of a tree

pub segs-leaf : (start len : ℕ) (bytes : List ℕ) (old new : List Seg) (g : Seg) → len ≤ 16 → g ≡ seg_in (take 56 bytes) start len → new ≡ old ++ g ∷ [] → new ≡ old ++ segs_of (part_in start len bytes)
segs-leaf start len bytes old new g short is put = put ∙ ap (λ h. old ++ h ∷ []) is ∙ ap (λ q. old ++ q) (sym (ap segs_of (part-leaf start len bytes short)))

pub readings-leaf : (start len : ℕ) (bytes rest : List ℕ) (old new : List ℤ) → len ≤ 16 → rest ≡ drop 56 bytes → new ≡ old ++ words_in len rest → new ≡ old ++ readings_of (part_in start len bytes)
readings-leaf start len bytes rest old new short is put = put ∙ ap (λ q. old ++ q) (ap (words_in len) is ∙ sym (ap readings_of (part-leaf start len bytes short)))

pub segs-fork : (start len s : ℕ) (bytes left right : List ℕ) (old pushed mid new : List Seg) (g : Seg) → IsSplit len s → left ≡ drop 56 bytes → right ≡ drop (tree_size s) (drop 56 bytes)
    → g ≡ seg_in (take 56 bytes) start len → pushed ≡ old ++ g ∷ [] → mid ≡ pushed ++ segs_of (part_in start s left) → new ≡ mid ++ segs_of (part_in (start + s) (len - s) right)
    → new ≡ old ++ segs_of (part_in start len bytes)
segs-fork start len s bytes left right old pushed mid new g parts l r is first second third =
    let a = segs_of (left_part start s bytes) in
    let b = segs_of (right_part start len s bytes) in
    let second_is : mid ≡ pushed ++ a = second ∙ ap (λ q. pushed ++ segs_of (part_in start s q)) l in
    let third_is : new ≡ mid ++ b = third ∙ ap (λ q. mid ++ segs_of (part_in (start + s) (len - s) q)) r in
    let root = seg_in (take 56 bytes) start len in
    third_is ∙ ap (λ q. q ++ b) (second_is ∙ ap (λ q. q ++ a) (first ∙ ap (λ h. old ++ h ∷ []) is) ∙ append_assoc old (root ∷ []) a)
    ∙ append_assoc old (root ∷ a) b ∙ ap (λ q. old ++ q) (sym (ap segs_of (part-fork start len s bytes parts)))

pub readings-fork : (start len s : ℕ) (bytes left right : List ℕ) (old mid new : List ℤ) → IsSplit len s → left ≡ drop 56 bytes → right ≡ drop (tree_size s) (drop 56 bytes)
    → mid ≡ old ++ readings_of (part_in start s left) → new ≡ mid ++ readings_of (part_in (start + s) (len - s) right) → new ≡ old ++ readings_of (part_in start len bytes)
readings-fork start len s bytes left right old mid new parts l r first second =
    let a = readings_of (left_part start s bytes) in
    let b = readings_of (right_part start len s bytes) in
    let first_is : mid ≡ old ++ a = first ∙ ap (λ q. old ++ readings_of (part_in start s q)) l in
    let second_is : new ≡ mid ++ b = second ∙ ap (λ q. mid ++ readings_of (part_in (start + s) (len - s) q)) r in
    second_is ∙ ap (λ q. q ++ b) first_is ∙ append_assoc old a b ∙ ap (λ q. old ++ q) (sym (ap readings_of (part-fork start len s bytes parts)))
