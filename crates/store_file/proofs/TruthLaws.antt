-- A tree has no bad node exactly where it is the tree of a series.
use Rattle.std.proofs.Common.{◌≡◌, ℕ, zero, suc, ◌+◌, ◌-◌, ◌^◌, ◌<◌, ◌≤◌, Bool, true, false, not, ℤ, List, [], ◌++◌, length, take, drop, Option, Some, None, cond, refl, sym, ap, ap₂, subst, ◌∙◌, arith, length-append, take-take, drop-drop, take_all}
use Rattle.std.proofs.Math.Seq.{drop-append_seam}
use Rattle.std.proofs.lemmas.List.{drop-take, take-append-le}
use Rattle.std.proofs.lemmas.List.Elements.{All-append, All-cons, All-nil}
use Rattle.std.proofs.lemmas.List.Folds.{find-append}
use Rattle.std.specs.List.{All, find}
use Rattle.std.specs.Option.{option_map, option_or}
use Rattle.segment.specs.declared.segments.Seg.{Seg}
use Rattle.segment.specs.Measure.{AreReadings, IsTrueOf}
use Rattle.segment.specs.Nodes.{IsSeriesTree}
use Rattle.segment.specs.Shape.{Plan, leaf, fork, plan}
use Rattle.segment.specs.Tree.{SegTree, tip, node, readings_of, segs_of, plan_of, width, all_readings, all_segs, AllTrue}
use Rattle.segment.proofs.ReadingLaws.{AreReadings-take, AreReadings-drop}
use Rattle.seg_tree.specs.Adopted.{IsTreeWith}
use Rattle.tree_file.specs.Image.{words_in, tree_in}
use Rattle.tree_file.specs.Record.{seg_in}
use Rattle.tree_file.proofs.ImageLaws.{plan_of-tree_in}
use Rattle.tree_file.proofs.PlanLaws.{Covers, covers-plan}
use Rattle.store_file.specs.Decoded.{bad_node, bad_in_tree, series_tree}
use Rattle.store_file.specs.Good.{is_good, own_readings, is_bad, IsOver}
use Rattle.store_file.proofs.GoodLaws.{is_good-IsGood, IsGood-is_good}

-- ---- where the readings of the nodes stand

-- each leaf has as many readings as its segment tells
abbrev AreFilled : SegTree → Type 0
AreFilled (tip g xs) = length xs ≡ g.len
AreFilled (node g l r) = AreFilled l × AreFilled r

length-words_in : (n : ℕ) (bytes : List ℕ) → length (words_in n bytes) ≡ n
length-words_in zero bytes = refl
length-words_in (suc n) bytes = ap suc (length-words_in n (drop 4 bytes))

filled-read : (p : Plan) (bytes : List ℕ) → AreFilled (tree_in p bytes)
unfolding seg_in
filled-read (leaf start len) bytes = length-words_in len (drop 56 bytes)
filled-read (fork start len l r) bytes = (filled-read l (drop 56 bytes), filled-read r _)

filled-true : (t : SegTree) → AllTrue t → AreFilled t
filled-true (tip g xs) h = sym (ap (λ (s : Seg). s.len) h.measured)
filled-true (node g l r) h = (filled-true l h.1, filled-true r h.2)

long-covers : (t : SegTree) (s n : ℕ) → Covers s n (plan_of t) → AreFilled t → length (readings_of t) ≡ n
long-covers (tip g xs) s n covers filled = filled ∙ covers.1
long-covers (node g l r) s n covers filled =
    let w = width (plan_of l) in
    omega (arith, length-append (readings_of l) (readings_of r), long-covers l s w covers.3 filled.0, long-covers r (s + w) (n - w) covers.4 filled.1, covers.2)

-- the readings of the nodes are those of the series where their segments tell
abbrev Lies : List ℤ → SegTree → Type 0
Lies xs (tip g ys) = own_readings xs g ≡ ys
Lies xs (node g l r) = (own_readings xs g ≡ readings_of l ++ readings_of r) × Lies xs l × Lies xs r

front_of : (xs ys : List ℤ) (n : ℕ) → length xs ≡ n → take n (xs ++ ys) ≡ xs
front_of xs ys n e = take-append-le n xs ys (omega arith) ∙ take_all n xs (omega arith)

back_of : (xs ys : List ℤ) (n : ℕ) → length xs ≡ n → drop n (xs ++ ys) ≡ ys
back_of xs ys n e = ap (λ k. drop k (xs ++ ys)) (sym e) ∙ drop-append_seam xs ys

right_readings : (xs : List ℤ) (s n w : ℕ) → w ≤ n → drop w (take n (drop s xs)) ≡ take (n - w) (drop (s + w) xs)
right_readings xs s n w le =
    let e : n ≡ w + (n - w) = omega arith in
    ap (λ k. drop w (take k (drop s xs))) e ∙ drop-take w (n - w) (drop s xs) ∙ ap (take (n - w)) (drop-drop w s xs)

lies-covers : (t : SegTree) (s n : ℕ) (xs : List ℤ) → Covers s n (plan_of t) → AreFilled t → take n (drop s xs) ≡ readings_of t → Lies xs t
lies-covers (tip g ys) s n xs covers filled e = ap₂ (λ a b. take b (drop a xs)) covers.0 covers.1 ∙ e
lies-covers (node g l r) s n xs covers filled e =
    let w = width (plan_of l) in
    let long = long-covers l s w covers.3 filled.0 in
    let front = sym (take-take w n (drop s xs) (omega (arith, covers.2))) ∙ ap (take w) e ∙ front_of (readings_of l) (readings_of r) w long in
    let back = sym (right_readings xs s n w (omega (arith, covers.2))) ∙ ap (drop w) e ∙ back_of (readings_of l) (readings_of r) w long in
    (ap₂ (λ a b. take b (drop a xs)) covers.0 covers.1 ∙ e, lies-covers l s w xs covers.3 filled.0 front, lies-covers r (s + w) (n - w) xs covers.4 filled.1 back)

covers-some : (p : Plan) (s n : ℕ) → Covers s n p → 0 < n
covers-some (leaf start len) s n covers = covers.2
covers-some (fork start len l r) s n covers = omega (arith, covers.2)

over-covers : (t : SegTree) (s n m : ℕ) → Covers s n (plan_of t) → AreFilled t → s + n ≤ m → 0 < n → All (IsOver m) (segs_of t)
over-covers (tip g xs) s n m covers filled within some =
    All-cons (IsOver m) g [] (record { some = omega (arith, covers.1, some); within = omega (arith, covers.0, covers.1, within) }) (All-nil (IsOver m))
over-covers (node g l r) s n m covers filled within some =
    let w = width (plan_of l) in
    All-cons (IsOver m) g (segs_of l ++ segs_of r) (record { some = omega (arith, covers.1, some); within = omega (arith, covers.0, covers.1, within) })
    (All-append (IsOver m) (segs_of l) (segs_of r)
    (over-covers l s w m covers.3 filled.0 (omega (arith, within, covers.2)) (covers-some (plan_of l) s w covers.3))
    (over-covers r (s + w) (n - w) m covers.4 filled.1 (omega (arith, within, covers.2)) (omega (arith, covers.2))))

-- ---- no bad node, and all nodes true

kept : (b : Bool) (g : Seg) (o : Option Seg) → cond (not b) (Some g) o ≡ None → (b ≡ true) × (o ≡ None)
kept true g o e = (refl, e)
kept false g o e = cc

neither : (o p : Option Seg) → option_or o p ≡ None → (o ≡ None) × (p ≡ None)
neither None p e = (refl, e)
neither (Some g) p e = cc

none-true : (xs : List ℤ) (t : SegTree) → Lies xs t → find (is_bad xs) (segs_of t) ≡ None → AllTrue t
none-true xs (tip g ys) lies e =
    subst (λ zs. IsTrueOf zs g) lies (is_good-IsGood (own_readings xs g) g (kept (is_good (own_readings xs g) g) g None e).0).true_of
none-true xs (node g l r) lies e =
    let (here, below) = kept (is_good (own_readings xs g) g) g (find (is_bad xs) (segs_of l ++ segs_of r)) e in
    let (left, right) = neither (find (is_bad xs) (segs_of l)) (find (is_bad xs) (segs_of r)) (sym (find-append (is_bad xs) (segs_of l) (segs_of r)) ∙ below) in
    (subst (λ zs. IsTrueOf zs g) lies.0 (is_good-IsGood (own_readings xs g) g here).true_of, none-true xs l lies.1 left, none-true xs r lies.2 right)

good-own : (xs ys : List ℤ) (g : Seg) → AreReadings xs → own_readings xs g ≡ ys → IsTrueOf ys g → is_good (own_readings xs g) g ≡ true
good-own xs ys g small is true_of =
    IsGood-is_good (own_readings xs g) g (record { small = AreReadings-take (drop g.start xs) g.len (AreReadings-drop xs g.start small); true_of = subst (λ zs. IsTrueOf zs g) (sym is) true_of })

true-none : (xs : List ℤ) (t : SegTree) → AreReadings xs → Lies xs t → AllTrue t → find (is_bad xs) (segs_of t) ≡ None
true-none xs (tip g ys) small lies h = rw (good-own xs ys g small lies h) refl
true-none xs (node g l r) small lies h =
    rw (good-own xs (readings_of l ++ readings_of r) g small lies.0 h.0, find-append (is_bad xs) (segs_of l) (segs_of r), true-none xs l small lies.1 h.1, true-none xs r small lies.2 h.2) refl

-- the root tells that all readings are small
none-small : (xs : List ℤ) (t : SegTree) → Lies xs t → find (is_bad xs) (segs_of t) ≡ None → AreReadings (readings_of t)
none-small xs (tip g ys) lies e = subst AreReadings lies (is_good-IsGood (own_readings xs g) g (kept (is_good (own_readings xs g) g) g None e).0).small
none-small xs (node g l r) lies e = subst AreReadings lies.0 (is_good-IsGood (own_readings xs g) g (kept (is_good (own_readings xs g) g) g (find (is_bad xs) (segs_of l ++ segs_of r)) e).0).small

-- ---- the tree of a series

own_lies : (t : SegTree) (n : ℕ) → Covers 0 n (plan_of t) → AreFilled t → Lies (readings_of t) t
own_lies t n covers filled = lies-covers t 0 n (readings_of t) covers filled (take_all n (readings_of t) (omega (arith, long-covers t 0 n covers filled)))

covers-read : (n : ℕ) (bytes : List ℕ) → 0 < n → Covers 0 n (plan_of (tree_in (plan 0 n) bytes))
covers-read n bytes some = subst (Covers 0 n) (sym (plan_of-tree_in (plan 0 n) bytes)) (covers-plan 0 n some)

pub length-series_tree : (n : ℕ) (bytes : List ℕ) → length (all_readings (series_tree n bytes)) ≡ n
length-series_tree zero bytes = refl
length-series_tree (suc n) bytes = long-covers (tree_in (plan 0 (suc n)) bytes) 0 (suc n) (covers-read (suc n) bytes (omega arith)) (filled-read (plan 0 (suc n)) bytes)

pub over-series_tree : (n : ℕ) (bytes : List ℕ) → All (IsOver n) (all_segs (series_tree n bytes))
over-series_tree zero bytes = All-nil (IsOver 0)
over-series_tree (suc n) bytes = over-covers (tree_in (plan 0 (suc n)) bytes) 0 (suc n) (suc n) (covers-read (suc n) bytes (omega arith)) (filled-read (plan 0 (suc n)) bytes) (omega arith) (omega arith)

-- the first bad node of a series, where it has nodes
abbrev bad_of : Option SegTree → Option Seg
bad_of t = find (is_bad (all_readings t)) (all_segs t)

good-series_tree : (n : ℕ) (bytes : List ℕ) → n ≤ 2 ^ 20 → bad_of (series_tree n bytes) ≡ None → IsSeriesTree n (series_tree n bytes)
good-series_tree zero bytes few e = refl
good-series_tree (suc n) bytes few e =
    let t = tree_in (plan 0 (suc n)) bytes in
    let covers = covers-read (suc n) bytes (omega arith) in
    let filled = filled-read (plan 0 (suc n)) bytes in
    let lies = own_lies t (suc n) covers filled in
    record {
      some = omega arith;
      few = few;
      shaped = plan_of-tree_in (plan 0 (suc n)) bytes;
      long = long-covers t 0 (suc n) covers filled;
      small = none-small (readings_of t) t lies e;
      all_true = none-true (readings_of t) t lies e;
    }

pub bad_in_tree-is : (name : List ℕ) (t : Option SegTree) → bad_in_tree name t ≡ option_map (bad_node name) (bad_of t)
bad_in_tree-is name None = refl
bad_in_tree-is name (Some t) = refl

unmapped : (name : List ℕ) (o : Option Seg) → option_map (bad_node name) o ≡ None → o ≡ None
unmapped name None e = refl
unmapped name (Some g) e = cc

-- a tree without a bad node is that of a series
pub series-good : (name : List ℕ) (n : ℕ) (bytes : List ℕ) → n ≤ 2 ^ 20 → bad_in_tree name (series_tree n bytes) ≡ None → IsSeriesTree n (series_tree n bytes)
series-good name n bytes few e = good-series_tree n bytes few (unmapped name (bad_of (series_tree n bytes)) (sym (bad_in_tree-is name (series_tree n bytes)) ∙ e))

-- the tree of a series has no bad node
pub tree-good : (name : List ℕ) (n : ℕ) (t : Option SegTree) → IsSeriesTree n t → bad_in_tree name t ≡ None
tree-good name n None h = refl
tree-good name n (Some t) h =
    let covers = subst (Covers 0 n) (sym h.shaped) (covers-plan 0 n h.some) in
    ap (option_map (bad_node name)) (true-none (readings_of t) t h.small (own_lies t n covers (filled-true t h.all_true)) h.all_true)

-- the segments and the readings of the tree of a series that bytes write
pub record AreNodesOf (n : ℕ) (bytes : List ℕ) (segs : List Seg) (xs : List ℤ) : Type 0 where
  pub segments : segs ≡ all_segs (series_tree n bytes)
  pub readings : xs ≡ all_readings (series_tree n bytes)

pub nodes-long : (n : ℕ) (bytes : List ℕ) (segs : List Seg) (xs : List ℤ) → AreNodesOf n bytes segs xs → length xs ≡ n
nodes-long n bytes segs xs are = ap length are.readings ∙ length-series_tree n bytes

pub nodes-over : (n : ℕ) (bytes : List ℕ) (segs : List Seg) (xs : List ℤ) → AreNodesOf n bytes segs xs → All (IsOver (length xs)) segs
nodes-over n bytes segs xs are = rw (nodes-long n bytes segs xs are, are.segments) (over-series_tree n bytes)

pub nodes-bad : (n : ℕ) (bytes : List ℕ) (segs : List Seg) (xs : List ℤ) (name : List ℕ) → AreNodesOf n bytes segs xs → bad_in_tree name (series_tree n bytes) ≡ option_map (bad_node name) (find (is_bad xs) segs)
nodes-bad n bytes segs xs name are = bad_in_tree-is name (series_tree n bytes) ∙ ap₂ (λ ys gs. option_map (bad_node name) (find (is_bad ys) gs)) (sym are.readings) (sym are.segments)

pub nodes-with : (n : ℕ) (bytes : List ℕ) (segs : List Seg) (xs : List ℤ) → AreNodesOf n bytes segs xs → n ≤ 2 ^ 20 → find (is_bad xs) segs ≡ None → IsTreeWith segs xs (series_tree n bytes)
nodes-with n bytes segs xs are few none =
    let same : bad_of (series_tree n bytes) ≡ None = ap₂ (λ ys gs. find (is_bad ys) gs) (sym are.readings) (sym are.segments) ∙ none in
    record {
      over = subst (λ k. IsSeriesTree k (series_tree n bytes)) (sym (nodes-long n bytes segs xs are)) (good-series_tree n bytes few same);
      segments = sym are.segments;
      readings = sym are.readings;
    }
