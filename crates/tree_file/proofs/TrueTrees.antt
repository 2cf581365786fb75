-- The numbers of a tree of a series fit their fields.
use Rattle.std.proofs.Common.{◌≡◌, ℕ, suc, ◌+◌, ◌-◌, ◌*◌, ◌^◌, ◌<◌, ◌≤◌, ℤ, pos, negsuc, unsigned_abs, max, List, [], ◌∷◌, ◌++◌, length, take, drop, sym, ap, subst, ◌∙◌, arith, length-append, take_all, mul-le-mul_left}
use Rattle.std.proofs.Math.Seq.{take-append_seam, drop-append_seam}
use Rattle.segment.specs.declared.segments.Seg.{Seg}
use Rattle.segment.specs.Measure.{unit, coefficient_bound, AreReadings, IsTrueOf}
use Rattle.segment.specs.Shape.{plan}
use Rattle.segment.specs.Tree.{SegTree, tip, node, readings_of, plan_of, width, AllTrue, IsTreeOver}
use Rattle.segment.proofs.ReadingLaws.{AreReadings-take, AreReadings-drop}
use Rattle.segment.proofs.SanityLaws.{true-sane}
use Rattle.tree_file.specs.Bytes.{IsSignedOf}
use Rattle.tree_file.specs.Image.{image, size, tree_in}
use Rattle.tree_file.specs.Laws.{TreeReadsBack, TreeWritesBack, TreeHasSize}
use Rattle.tree_file.specs.Record.{FitsRecord}
use Rattle.tree_file.proofs.ImageLaws.{AreWords, Fits, size-image, tree_in-image, image-tree_in, plan_of-tree_in}
use Rattle.tree_file.proofs.PlanLaws.{Covers, covers-plan, tree_size-plan}

signed-small : (n : ℕ) (z : ℤ) → unsigned_abs z < 2 ^ (8 * n - 1) → IsSignedOf n z
signed-small n (pos k) h = h
signed-small n (negsuc k) h = omega (arith, h)

FitsRecord-true : (xs : List ℤ) (g : Seg) → 0 < length xs → length xs ≤ 2 ^ 20 → AreReadings xs → IsTrueOf xs g → FitsRecord g
FitsRecord-true xs g some few small is_true =
    let all : take (length xs) (drop 0 xs) ≡ xs = take_all (length xs) xs (omega arith) in
    let sane = true-sane xs 0 (length xs) g small (subst (λ ys. IsTrueOf ys g) (sym all) is_true) in
    let long : g.len ≡ length xs = ap (λ (s : Seg). s.len) is_true.measured in
    let most : coefficient_bound g.d ≤ 8 * unit * 10 ^ 9 = omega (arith, sane.below_root, sane.root) in
    let once = mul-le-mul_left {m = 1} {n = g.len} (unsigned_abs g.b) (omega (arith, long)) in
    let grown = mul-le-mul_left {m = 1} {n = g.len} g.len (omega (arith, long)) in
    let squares : 1 ≤ g.len * g.len = omega (arith, long, grown) in
    let twice = mul-le-mul_left {m = 1} {n = g.len * g.len} (unsigned_abs g.c) squares in
    let all_of = mul-le-mul_left {m = g.len} {n = 2 ^ 20} (25 * unit * max 1 g.d) (omega (arith, long, few)) in
    record {
      a = signed-small 8 g.a (omega (arith, sane.bounded.constant, most));
      b = signed-small 8 g.b (omega (arith, sane.bounded.linear, most, once));
      c = signed-small 8 g.c (omega (arith, sane.bounded.square, most, twice));
      l = omega (arith, sane.misses, sane.below_root, sane.root, all_of);
      d = omega (arith, sane.below_root, sane.root);
      f = omega (arith, sane.estimates, sane.below_root, sane.root);
    }

AreWords-small : (xs : List ℤ) → AreReadings xs → AreWords xs
AreWords-small [] are = tt
AreWords-small (x ∷ xs) are = (signed-small 4 x (omega (arith, are 0)), AreWords-small xs (λ i. are (suc i)))

Fits-true : (t : SegTree) (s n : ℕ) → Covers s n (plan_of t) → length (readings_of t) ≤ 2 ^ 20 → AreReadings (readings_of t) → AllTrue t → Fits t
Fits-true (tip g xs) s n covers few small is_true =
    let long : g.len ≡ length xs = ap (λ (h : Seg). h.len) is_true.measured in
    (FitsRecord-true xs g (omega (arith, long, covers.1, covers.2)) few small is_true, long, AreWords-small xs small)
Fits-true (node g l r) s n covers few small is_true =
    let xs = readings_of l in
    let ys = readings_of r in
    let whole = length-append xs ys in
    let long : g.len ≡ length (xs ++ ys) = ap (λ (h : Seg). h.len) is_true.0.measured in
    let front : AreReadings xs = subst AreReadings (take-append_seam xs ys) (AreReadings-take (xs ++ ys) (length xs) small) in
    let back : AreReadings ys = subst AreReadings (drop-append_seam xs ys) (AreReadings-drop (xs ++ ys) (length xs) small) in (
      FitsRecord-true (xs ++ ys) g (omega (arith, long, covers.1, covers.2)) few small is_true.0,
      Fits-true l s (width (plan_of l)) covers.3 (omega (arith, few)) front is_true.1,
      Fits-true r (s + width (plan_of l)) (n - width (plan_of l)) covers.4 (omega (arith, few)) back is_true.2,
    )

-- every number of the tree of a series fits its field
pub Fits-tree : (n : ℕ) (t : SegTree) → IsTreeOver n t → Fits t
Fits-tree n t over = Fits-true t 0 n (subst (Covers 0 n) (sym over.shaped) (covers-plan 0 n over.some)) (omega (arith, over.long, over.few)) over.small over.all_true

pub tree-read : TreeReadsBack
tree-read n t rest over = ap (λ p. tree_in p (image t ++ rest)) (sym over.shaped) ∙ tree_in-image t rest (Fits-tree n t over)

pub tree-written : TreeWritesBack
tree-written n bytes some long are = (plan_of-tree_in (plan 0 n) bytes, image-tree_in (plan 0 n) bytes (long ∙ tree_size-plan n some) are)

pub tree-size : TreeHasSize
tree-size n t over = size-image t (Fits-tree n t over) ∙ ap size over.shaped ∙ sym (tree_size-plan n over.some)
