-- The bytes of a tree and the tree of bytes.
use Rattle.std.proofs.Common.{◌≡◌, ℕ, ℤ, zero, suc, ◌+◌, ◌*◌, ◌≤◌, List, [], ◌∷◌, ◌++◌, length, take, drop, refl, ap, ap₂, ◌∙◌, sym, arith, length-drop, length-append, take_all, take-add, append_assoc}
use Rattle.std.proofs.lemmas.List.{length-take-le, take-append-le}
use Rattle.std.proofs.Math.Seq.{drop-append_seam}
use Rattle.segment.specs.declared.segments.Seg.{Seg}
use Rattle.segment.specs.Shape.{Plan, leaf, fork}
use Rattle.segment.specs.Tree.{SegTree, tip, node, plan_of}
use Rattle.tree_file.specs.Bytes.{IsBytes, IsSignedOf, bytes_of, number_of, wrapped, unwrapped}
use Rattle.tree_file.specs.Image.{words, words_in, image, size, tree_in}
use Rattle.tree_file.specs.Record.{record_of, seg_in, FitsRecord}
use Rattle.tree_file.proofs.Digits.{drop_bytes, take_bytes, bytes_of-number_of, number_of-lt}
use Rattle.tree_file.proofs.RecordLaws.{record_of-seg_in, seg_in-record_of, length-record_of, drop-bytes_of, length-bytes_of}
use Rattle.tree_file.proofs.SignedLaws.{signed-read, wrapped-unwrapped}

words-words_in : (n : ℕ) (bytes : List ℕ) → 4 * n ≤ length bytes → IsBytes bytes → words (words_in n bytes) ≡ take (4 * n) bytes
words-words_in zero bytes len are = refl
words-words_in (suc n) bytes len are =
    let e : 4 * suc n ≡ 4 + 4 * n = omega arith in
    ap₂ ◌++◌ (ap (bytes_of 4) (wrapped-unwrapped 4 (number_of 4 bytes) (omega arith) (number_of-lt 4 bytes are)) ∙ bytes_of-number_of 4 bytes (omega (arith, len)) are)
    (words-words_in n (drop 4 bytes) (omega (arith, length-drop 4 bytes)) (drop_bytes 4 bytes are))
    ∙ sym (ap (λ k. take k bytes) e ∙ take-add 4 (4 * n) bytes)

head_written : (bytes : List ℕ) (start len : ℕ) → 56 ≤ length bytes → IsBytes bytes → record_of (seg_in (take 56 bytes) start len) ≡ take 56 bytes
head_written bytes start len room are = record_of-seg_in (take 56 bytes) start len (length-take-le 56 bytes room) (take_bytes 56 bytes are)

-- bytes of a tree's size, whatever follows, are the bytes of the tree that they write
pub image_part : (p : Plan) (bytes : List ℕ) → size p ≤ length bytes → IsBytes bytes → image (tree_in p bytes) ≡ take (size p) bytes
image_part (leaf start len) bytes room are =
    ap₂ ◌++◌ (head_written bytes start len (omega (arith, room)) are)
    (words-words_in len (drop 56 bytes) (omega (arith, length-drop 56 bytes)) (drop_bytes 56 bytes are))
    ∙ sym (take-add 56 (4 * len) bytes)
image_part (fork start len l r) bytes room are =
    let rest : List ℕ = drop 56 bytes in
    let rest_are = drop_bytes 56 bytes are in
    let long = length-drop 56 bytes in
    ap₂ ◌++◌ (head_written bytes start len (omega (arith, room)) are)
    (ap₂ ◌++◌ (image_part l rest (omega (arith, long)) rest_are) (image_part r (drop (size l) rest) (omega (arith, long, length-drop (size l) rest)) (drop_bytes (size l) rest rest_are))
    ∙ sym (take-add (size l) (size r) rest))
    ∙ sym (take-add 56 (size l + size r) bytes)

pub image-tree_in : (p : Plan) (bytes : List ℕ) → length bytes ≡ size p → IsBytes bytes → image (tree_in p bytes) ≡ bytes
image-tree_in p bytes len are = image_part p bytes (omega arith) are ∙ take_all (size p) bytes (omega arith)

pub plan_of-tree_in : (p : Plan) (bytes : List ℕ) → plan_of (tree_in p bytes) ≡ p
unfolding seg_in
plan_of-tree_in (leaf start len) bytes = refl
plan_of-tree_in (fork start len l r) bytes = ap₂ (fork start len) (plan_of-tree_in l (drop 56 bytes)) (plan_of-tree_in r (drop (size l) (drop 56 bytes)))

-- each reading fits its field
abbrev pub AreWords : List ℤ → Type 0
AreWords [] = Unit {0}
AreWords (x ∷ xs) = IsSignedOf 4 x × AreWords xs

-- every number of the tree fits its field, and each leaf has as many readings as its segment tells
abbrev pub Fits : SegTree → Type 0
Fits (tip g xs) = FitsRecord g × (g.len ≡ length xs) × AreWords xs
Fits (node g l r) = FitsRecord g × Fits l × Fits r

words_in-words : (xs : List ℤ) (rest : List ℕ) → AreWords xs → words_in (length xs) (words xs ++ rest) ≡ xs
words_in-words [] rest fits = refl
words_in-words (x ∷ xs) rest fits =
    let e : words (x ∷ xs) ++ rest ≡ bytes_of 4 (wrapped 4 x) ++ (words xs ++ rest) = append_assoc (bytes_of 4 (wrapped 4 x)) (words xs) rest in
    let first : unwrapped 4 (number_of 4 (words (x ∷ xs) ++ rest)) ≡ x =
    ap (λ b. unwrapped 4 (number_of 4 b)) e ∙ signed-read 4 x (words xs ++ rest) (omega arith) fits.0 in
    let others : drop 4 (words (x ∷ xs) ++ rest) ≡ words xs ++ rest = ap (drop 4) e ∙ drop-bytes_of 4 (wrapped 4 x) (words xs ++ rest) in
    ap₂ ◌∷◌ first (ap (words_in (length xs)) others ∙ words_in-words xs rest fits.1)

pub take_front : (xs ys : List ℕ) (n : ℕ) → length xs ≡ n → take n (xs ++ ys) ≡ xs
take_front xs ys n e = take-append-le n xs ys (omega arith) ∙ take_all n xs (omega arith)

pub drop_front : (xs ys : List ℕ) (n : ℕ) → length xs ≡ n → drop n (xs ++ ys) ≡ ys
drop_front xs ys n e = ap (λ k. drop k (xs ++ ys)) (sym e) ∙ drop-append_seam xs ys

head_read : (g : Seg) (more : List ℕ) → FitsRecord g → seg_in (take 56 (record_of g ++ more)) g.start g.len ≡ g
head_read g more fits = ap (λ b. seg_in b g.start g.len) (take_front (record_of g) more 56 (length-record_of g)) ∙ seg_in-record_of g fits

length-words : (xs : List ℤ) → length (words xs) ≡ 4 * length xs
length-words [] = refl
length-words (x ∷ xs) = omega (arith, length-append (bytes_of 4 (wrapped 4 x)) (words xs), length-bytes_of 4 (wrapped 4 x), length-words xs)

pub size-image : (t : SegTree) → Fits t → length (image t) ≡ size (plan_of t)
size-image (tip g xs) fits = omega (arith, length-append (record_of g) (words xs), length-record_of g, length-words xs, fits.1)
size-image (node g l r) fits =
    omega (arith, length-append (record_of g) (image l ++ image r), length-append (image l) (image r), length-record_of g, size-image l fits.1, size-image r fits.2)

-- a tree is read as it was written, whatever follows
pub tree_in-image : (t : SegTree) (rest : List ℕ) → Fits t → tree_in (plan_of t) (image t ++ rest) ≡ t
tree_in-image (tip g xs) rest fits =
    let e = append_assoc (record_of g) (words xs) rest in
    let more : drop 56 (image (tip g xs) ++ rest) ≡ words xs ++ rest = ap (drop 56) e ∙ drop_front (record_of g) (words xs ++ rest) 56 (length-record_of g) in
    let first : seg_in (take 56 (image (tip g xs) ++ rest)) g.start g.len ≡ g = ap (λ b. seg_in (take 56 b) g.start g.len) e ∙ head_read g (words xs ++ rest) fits.0 in
    ap₂ tip first (ap (words_in g.len) more ∙ ap (λ k. words_in k (words xs ++ rest)) fits.1 ∙ words_in-words xs rest fits.2)
tree_in-image (node g l r) rest fits =
    let e : image (node g l r) ++ rest ≡ record_of g ++ (image l ++ (image r ++ rest)) = append_assoc (record_of g) (image l ++ image r) rest ∙ ap (λ k. record_of g ++ k) (append_assoc (image l) (image r) rest) in
    let more : drop 56 (image (node g l r) ++ rest) ≡ image l ++ (image r ++ rest) = ap (drop 56) e ∙ drop_front (record_of g) (image l ++ (image r ++ rest)) 56 (length-record_of g) in
    let last : drop (size (plan_of l)) (image l ++ (image r ++ rest)) ≡ image r ++ rest = drop_front (image l) (image r ++ rest) (size (plan_of l)) (size-image l fits.1) in
    let first : seg_in (take 56 (image (node g l r) ++ rest)) g.start g.len ≡ g = ap (λ b. seg_in (take 56 b) g.start g.len) e ∙ head_read g (image l ++ (image r ++ rest)) fits.0 in
    rw (first, more, last) (rw (tree_in-image l (image r ++ rest) fits.1, tree_in-image r rest fits.2) refl)
