-- The rows of a series, one after the other.
use Rattle.std.proofs.Common.{◌≡◌, ℕ, zero, suc, ◌+◌, ◌-◌, ◌<◌, ◌≤◌, cond, Bool, true, false, inl, inr, ℤ, unsigned_abs, List, [], ◌∷◌, ◌++◌, length, map, take, drop, get_or, Option, Some, None, Vec, Global, refl, sym, ap, ap₂, subst, ◌∙◌, arith, append_assoc, append-nil, take_all}
use Rattle.std.specs.Prelude.{◌==◌, IfSome}
use Rattle.std.specs.List.{All}
use Rattle.std.specs.Option.{option_and_then, option_map}
use Rattle.std.proofs.lemmas.Bool.{cases_Bool, cases_lt, eq-eqb, eqb-true, ne_eqb}
use Rattle.std.proofs.lemmas.List.{drop_all, take-append-drop}
use Rattle.std.proofs.lemmas.List.Elements.{All-nil, All-cons}
use Rattle.std.proofs.Math.Seq.{drop-cons}
use Rattle.semantics.specs.Readings.{reading}
use Rattle.segment.specs.declared.segments.Seg.{Seg}
use Rattle.segment.specs.Measure.{greatest_reading, unit_seg}
use Rattle.segment.specs.Shape.{Range, leaf, fork, plan}
use Rattle.segment.specs.Tree.{SegTree, tip, node, readings_of, root_of, plan_of, IsPartOf, IsTreeOver}
use Rattle.segment.proofs.PartLaws.{part-over, root-true, span-plan}
use Rattle.segment.proofs.SanityLaws.{magnitude-le, greatest_reading-part}
use Rattle.segment.proofs.ShapeLaws.{plan-fork, split_exists}
use Rattle.bounds.specs.Segments.{TouchFrom}
use Rattle.error_prop.specs.Entries.{Touches}
use Rattle.descent.specs.Below.{readings_in}
use Rattle.descent.specs.Descents.{Node, closed, opened, row_of}
use Rattle.descent.specs.Rows.{segs_of_row, units}
use Rattle.descent.specs.Sound.{AreSmall, IsSoundRow, seg_of}
use Rattle.descent.proofs.SoundLaws.{rows-touch}
use Rattle.descent.proofs.SoundSteps.{are-small}
use Rattle.descent.proofs.Truth.{IsTrueFrom, AreTrueFrom, tree_true, true-root}
use Rattle.answer_check.specs.Certificate.{Triple}
use Rattle.answer_check.specs.Verdict.{as_node, before, node_for, nodes_from, part_with}
use Rattle.answer_check.specs.Walked.{segs_under}
use Rattle.answer_check.proofs.Walks.{part-is, part-shaped}

-- ---- what a row gives

-- what is known of the node of a row
pub record IsNodeFor (t : SegTree) (row : Triple) (n : Node) : Type 0 where
  pub part : IsPartOf n.tree t
  pub shaped : plan_of n.tree ≡ plan row.0 row.1
  pub short : n.opened ≡ true → row.1 ≤ 16

-- a leaf is short
leaf-short : (g : Seg) (xs : List ℤ) (start len : ℕ) → plan_of (tip g xs) ≡ plan start len → len ≤ 16
leaf-short g xs start len e = elim (cases_lt 16 len) [
  | inr low ↦ low
  | inl high ↦
      let k = split_exists len high in
      let bad : leaf g.start g.len ≡ fork start len (plan start k.0) (plan (start + k.0) (len - k.0)) = e ∙ plan-fork start len k.0 k.1 in
      cc
]

as-node : (t : SegTree) (row : Triple) (b : Bool) (part : SegTree) (n : Node) → IsPartOf part t → plan_of part ≡ plan row.0 row.1 → as_node b part ≡ Some n → IsNodeFor t row n
as-node t row false part n is shaped e =
    let same : closed part ≡ n = cc in
    let tree : n.tree ≡ part = ap (λ (m : Node). m.tree) (sym same) in
    let shut : n.opened ≡ false = ap (λ (m : Node). m.opened) (sym same) in
    record { part = subst (λ p. IsPartOf p t) (sym tree) is; shaped = ap plan_of tree ∙ shaped; short = λ o. let bad : true ≡ false = sym o ∙ shut in cc }
as-node t row true (tip g xs) n is shaped e =
    let same : opened (tip g xs) ≡ n = cc in
    let tree : n.tree ≡ tip g xs = ap (λ (m : Node). m.tree) (sym same) in
    record { part = subst (λ p. IsPartOf p t) (sym tree) is; shaped = ap plan_of tree ∙ shaped; short = λ o. leaf-short g xs row.0 row.1 shaped }
as-node t row true (node g l r) n is shaped e = cc

pub node-is : (start len : ℕ) (t : SegTree) (row : Triple) (n : Node) → plan_of t ≡ plan start len → node_for t row ≡ Some n → IsNodeFor t row n
node-is start len t row n shaped e = by (part_with row t) refl e
  where
    by : (o : Option SegTree) → part_with row t ≡ o → option_and_then (as_node row.2) o ≡ Some n → IsNodeFor t row n
    by None q f = cc
    by (Some part) q f = as-node t row row.2 part n (part-is row t part q) (part-shaped row start len t part shaped q) f

pub node-sound : (k : ℕ) (t : SegTree) (row : Triple) (n : Node) → IsTreeOver k t → IsNodeFor t row n → IsSoundRow (root_of t).d (row_of n)
node-sound k t row n over is =
    let r : Range = record { start = row.0; len = row.1 } in
    let p = part-over k t n.tree r over is.part is.shaped in
    let xs = readings_of n.tree in
    let most : (root_of t).d ≡ greatest_reading (readings_of t) = ap (λ (g : Seg). g.d) (root-true t over.all_true).measured in
    let whole = greatest_reading-part (readings_of t) row.0 row.1 in
    let same : greatest_reading (take row.1 (drop row.0 (readings_of t))) ≡ greatest_reading xs = ap greatest_reading p.readings in
    let long : length xs ≡ row.1 = p.long in
    let spans : (root_of n.tree).len ≡ row.1 = p.spans in
    let small : (i : ℕ) → i < row.1 → unsigned_abs (reading xs i) ≤ (root_of t).d = λ i lt. let m = magnitude-le xs i (omega arith) in omega arith in
    record { some = omega (arith, p.some, p.spans); sane = p.sane; read = by n.opened refl row.1 long spans small }
  where
    by : (b : Bool) → n.opened ≡ b → (m : ℕ) → length (readings_of n.tree) ≡ m → (root_of n.tree).len ≡ m → ((i : ℕ) → i < m → unsigned_abs (reading (readings_of n.tree) i) ≤ (root_of t).d)
        → (xs : List ℤ) → cond b (Some (readings_of n.tree)) None ≡ Some xs → AreSmall (root_of t).d (root_of n.tree).len xs
    by false o m long spans small xs e = cc
    by true o m long spans small xs e =
        let same : readings_of n.tree ≡ xs = cc in
        let all = take_all m (readings_of n.tree) (omega arith) in
        let few : row.1 ≤ 16 = is.short o in
        let p = part-over k t n.tree (record { start = row.0; len = row.1 }) over is.part is.shaped in
        let short : m ≤ 16 = omega (arith, p.long) in
        subst (AreSmall (root_of t).d (root_of n.tree).len) (all ∙ same) (subst (λ j. AreSmall (root_of t).d j (take m (readings_of n.tree))) (sym spans) (are-small (root_of t).d m (readings_of n.tree) short (omega arith) small))

-- a part of a tree that is true from a position on
itself : (s : ℕ) (t part : SegTree) → IsTrueFrom s t → part ≡ t → IsTrueFrom (root_of part).start part
itself s t part h e = rw e (subst (λ k. IsTrueFrom k t) (sym (true-root s t h).0) h)

part-true : (s : ℕ) (t part : SegTree) → IsTrueFrom s t → IsPartOf part t → IsTrueFrom (root_of part).start part
part-true s (tip g xs) part h e = itself s (tip g xs) part h e
part-true s (node g l r) part h (inl e) = itself s (node g l r) part h e
part-true s (node g l r) part h (inr (inl p)) = part-true s l part h.2 p
part-true s (node g l r) part h (inr (inr p)) = part-true (s + length (readings_of l)) r part h.3 p

-- ---- the nodes of rows

-- the first row gives a node, and the others the rest
pub record IsFirst (t : SegTree) (at : ℕ) (row : Triple) (rows : List Triple) (ns : List Node) : Type 0 where
  pub starts : row.0 ≡ at
  pub first : Node
  pub found : node_for t row ≡ Some first
  pub rest : List Node
  pub later : nodes_from t (at + row.1) rows ≡ Some rest
  pub are : ns ≡ first ∷ rest

pub cut-first : (t : SegTree) (at : ℕ) (row : Triple) (rows : List Triple) (ns : List Node) → nodes_from t at (row ∷ rows) ≡ Some ns → IsFirst t at row rows ns
cut-first t at row rows ns e = elim (cases_Bool (row.0 == at)) [
  | inr f ↦ let none : None ≡ Some ns = rw f at e in cc
  | inl s ↦ by (eqb-true row.0 at s) (node_for t row) (nodes_from t (at + row.1) rows) refl refl (rw s at e)
]
  where
    by : row.0 ≡ at → (o : Option Node) (later : Option (List Node)) → node_for t row ≡ o → nodes_from t (at + row.1) rows ≡ later → before o later ≡ Some ns → IsFirst t at row rows ns
    by s None later p q f = cc
    by s (Some m) None p q f = cc
    by s (Some m) (Some ms) p q f = let same : m ∷ ms ≡ ns = cc in record { starts = s; first = m; found = p; rest = ms; later = q; are = sym same }

pub record IsEnd (t : SegTree) (at : ℕ) (ns : List Node) : Type 0 where
  pub end : at ≡ (root_of t).len
  pub none : ns ≡ []

pub cut-end : (t : SegTree) (at : ℕ) (ns : List Node) → nodes_from t at [] ≡ Some ns → IsEnd t at ns
cut-end t at ns e = elim (cases_Bool (at == (root_of t).len)) [
  | inr f ↦ let none : None ≡ Some ns = rw f at e in cc
  | inl s ↦ let some : Some [] ≡ Some ns = rw s at e in let same : ns ≡ [] = cc in record { end = eqb-true at (root_of t).len s; none = same }
]

-- what is known of nodes that are a cut from a position on
pub record AreCut (k : ℕ) (t : SegTree) (at : ℕ) (ns : List Node) : Type 0 where
  pub sound : All (IsSoundRow (root_of t).d) (map row_of ns)
  pub touch : TouchFrom at (map seg_of (map row_of ns)) k
  pub true_from : AreTrueFrom at ns
  pub readings : readings_in ns ≡ drop at (readings_of t)

drop-more : (xs : List ℤ) (i k : ℕ) → drop (i + k) xs ≡ drop k (drop i xs)
drop-more xs zero k = let e : 0 + k ≡ k = omega arith in ap (λ n. drop n xs) e
drop-more [] (suc i) k = let a : drop (suc i + k) [] ≡ [] = drop_all (suc i + k) [] (omega arith) in let b : drop k [] ≡ [] = drop_all k [] (omega arith) in a ∙ sym b
drop-more (x ∷ xs) (suc i) k = let e : suc i + k ≡ suc (i + k) = omega arith in ap (λ n. drop n (x ∷ xs)) e ∙ drop-more xs i k

pub nodes-cut : (k : ℕ) (t : SegTree) (at : ℕ) (rows : List Triple) (ns : List Node) → IsTreeOver k t → nodes_from t at rows ≡ Some ns → AreCut k t at ns
nodes-cut k t at [] ns over e =
    let h = cut-end t at ns e in
    let spans = span-plan 0 k t over.shaped in
    let end : at ≡ k = h.end ∙ spans in
    let none : drop at (readings_of t) ≡ [] = drop_all at (readings_of t) (omega (arith, over.long)) in
    subst (AreCut k t at) (sym h.none) (record { sound = All-nil (IsSoundRow (root_of t).d); touch = end; true_from = tt; readings = sym none })
nodes-cut k t at (row ∷ rows) ns over e =
    let h = cut-first t at row rows ns e in
    let is = node-is 0 k t row h.first over.shaped h.found in
    let p = part-over k t h.first.tree (record { start = row.0; len = row.1 }) over is.part is.shaped in
    let rest = nodes-cut k t (at + row.1) rows h.rest over h.later in
    let starts : (root_of h.first.tree).start ≡ at = p.starts ∙ h.starts in
    let here = part-true 0 t h.first.tree (tree_true k t over) is.part in
    let front : readings_of h.first.tree ≡ take row.1 (drop at (readings_of t)) = sym p.readings ∙ ap (λ n. take row.1 (drop n (readings_of t))) h.starts in
    subst (AreCut k t at) (sym h.are) (record {
      sound = All-cons (IsSoundRow (root_of t).d) (row_of h.first) (map row_of h.rest) (node-sound k t row h.first over is) rest.sound;
      touch = (starts, subst (λ n. TouchFrom (at + n) (map seg_of (map row_of h.rest)) k) (sym p.spans) rest.touch);
      true_from = (subst (λ n. IsTrueFrom n h.first.tree) starts here, subst (λ n. AreTrueFrom (at + n) h.rest) (sym p.long) rest.true_from);
      readings = ap₂ ◌++◌ front (rest.readings ∙ drop-more (readings_of t) at row.1) ∙ take-append-drop row.1 (drop at (readings_of t));
    })

-- ---- the exact segments of readings

pub units-behind : (start i : ℕ) (xs : List ℤ) (x : ℤ) → i < length xs → x ≡ get_or xs i x → units start (take (suc i) xs) ≡ units start (take i xs) ++ unit_seg (start + i) x ∷ []
units-behind start i [] x lt e = absurd (omega arith)
units-behind start zero (y ∷ xs) x lt e = let z : start ≡ start + 0 = omega arith in ap₂ (λ (k : ℕ) (v : ℤ). unit_seg k v ∷ []) z (sym e)
units-behind start (suc i) (y ∷ xs) x lt e =
    let z : start + 1 + i ≡ start + suc i = omega arith in
    ap (λ gs. unit_seg start y ∷ gs) (units-behind (start + 1) i xs x (omega arith) e ∙ ap (λ k. units (start + 1) (take i xs) ++ unit_seg k x ∷ []) z)

-- ---- segments

-- segments before those that are there
abbrev pub onto : List Seg → Option (List Seg) → Option (List Seg)
onto gs o = option_map (λ hs. gs ++ hs) o

-- the segments of the rows that are passed, and those of the rows that are left
pub record IsCutTo (t : SegTree) (n : ℕ) (rows : List Triple) (i at : ℕ) (segs : List Seg) : Type 0 where
  pub cut : option_map segs_under (nodes_from t 0 rows) ≡ onto segs (option_map segs_under (nodes_from t at (drop i rows)))
  pub within : at ≤ n

onto-nil : (o : Option (List Seg)) → o ≡ onto [] o
onto-nil None = refl
onto-nil (Some gs) = refl

pub cut-init : (t : SegTree) (n : ℕ) (rows : List Triple) → IsCutTo t n rows 0 0 []
cut-init t n rows = record { cut = onto-nil (option_map segs_under (nodes_from t 0 rows)); within = omega arith }

pub front : (rows : List Triple) (i : ℕ) (row : Triple) → i < length rows → row ≡ get_or rows i row → drop i rows ≡ row ∷ drop (i + 1) rows
front rows i row lt e = let next : suc i ≡ i + 1 = omega arith in drop-cons rows i row lt ∙ ap₂ (λ (r : Triple) (k : ℕ). r ∷ drop k rows) (sym e) next

-- no cut
none-left : (t : SegTree) (n : ℕ) (rows : List Triple) (i at : ℕ) (segs : List Seg) → IsCutTo t n rows i at segs → nodes_from t at (drop i rows) ≡ None → option_map segs_under (nodes_from t 0 rows) ≡ None
none-left t n rows i at segs h e = h.cut ∙ ap (λ o. onto segs (option_map segs_under o)) e

pub cut-other : (t : SegTree) (n : ℕ) (rows : List Triple) (i at : ℕ) (segs : List Seg) (row : Triple) → IsCutTo t n rows i at segs → i < length rows → row ≡ get_or rows i row → (row.0 ≡ at → ⊥)
    → option_map segs_under (nodes_from t 0 rows) ≡ None
cut-other t n rows i at segs row h lt e other =
    none-left t n rows i at segs h (ap (nodes_from t at) (front rows i row lt e) ∙ rw (ne_eqb row.0 at other) refl)

pub cut-none : (t : SegTree) (n : ℕ) (rows : List Triple) (i at : ℕ) (segs : List Seg) (row : Triple) → IsCutTo t n rows i at segs → i < length rows → row ≡ get_or rows i row → row.0 ≡ at → node_for t row ≡ None
    → option_map segs_under (nodes_from t 0 rows) ≡ None
cut-none t n rows i at segs row h lt e starts none =
    none-left t n rows i at segs h (ap (nodes_from t at) (front rows i row lt e) ∙ rw (eq-eqb row.0 at starts) (ap (λ o. before o (nodes_from t (at + row.1) (drop (i + 1) rows))) none))

onto-first : (gs : List Seg) (m : Node) (o : Option (List Node)) → onto gs (option_map segs_under (before (Some m) o)) ≡ onto (gs ++ segs_of_row (row_of m)) (option_map segs_under o)
onto-first gs m None = refl
onto-first gs m (Some ms) = ap Some (sym (append_assoc gs (segs_of_row (row_of m)) (segs_under ms)))

pub cut-more : (t : SegTree) (n : ℕ) (rows : List Triple) (i at : ℕ) (segs more : List Seg) (row : Triple) (m : Node) → IsCutTo t n rows i at segs → i < length rows → row ≡ get_or rows i row → row.0 ≡ at → node_for t row ≡ Some m
    → row.0 + row.1 ≤ n → more ≡ segs ++ segs_of_row (row_of m) → IsCutTo t n rows (i + 1) (at + row.1) more
cut-more t n rows i at segs more row m h lt e starts found within put =
    let later = nodes_from t (at + row.1) (drop (i + 1) rows) in
    let here : nodes_from t at (drop i rows) ≡ before (Some m) later = ap (nodes_from t at) (front rows i row lt e) ∙ rw (eq-eqb row.0 at starts) (ap (λ o. before o later) found) in
    record {
      cut = h.cut ∙ ap (λ o. onto segs (option_map segs_under o)) here ∙ onto-first segs m later ∙ ap (λ gs. onto gs (option_map segs_under later)) (sym put);
      within = omega arith;
    }

past : (rows : List Triple) (i : ℕ) → length rows ≤ i → drop i rows ≡ []
past rows i le = drop_all i rows le

pub cut-short : (t : SegTree) (n : ℕ) (rows : List Triple) (i at : ℕ) (segs : List Seg) → IsTreeOver n t → IsCutTo t n rows i at segs → length rows ≤ i → (at ≡ n → ⊥) → option_map segs_under (nodes_from t 0 rows) ≡ None
cut-short t n rows i at segs over h le other =
    let spans = span-plan 0 n t over.shaped in
    none-left t n rows i at segs h (ap (nodes_from t at) (past rows i le) ∙ rw (ne_eqb at (root_of t).len (λ e. other (e ∙ spans))) refl)

pub cut-whole : (t : SegTree) (n : ℕ) (rows : List Triple) (i at : ℕ) (segs : List Seg) → IsTreeOver n t → IsCutTo t n rows i at segs → length rows ≤ i → at ≡ n → option_map segs_under (nodes_from t 0 rows) ≡ Some segs
cut-whole t n rows i at segs over h le end =
    let spans = span-plan 0 n t over.shaped in
    let here : nodes_from t at (drop i rows) ≡ Some [] = ap (nodes_from t at) (past rows i le) ∙ rw (eq-eqb at (root_of t).len (end ∙ sym spans)) refl in
    h.cut ∙ ap (λ o. onto segs (option_map segs_under o)) here ∙ ap Some (append-nil segs)

-- they touch
pub cut-touches : (n : ℕ) (t : SegTree) (rows : List Triple) (ns : List Node) → IsTreeOver n t → nodes_from t 0 rows ≡ Some ns → Touches (segs_under ns)
cut-touches n t rows ns over e =
    let c = nodes-cut n t 0 rows ns over e in
    record { to = n; touch = rows-touch (root_of t).d 0 n (map row_of ns) c.sound c.touch }

pub touch-of : (n : ℕ) (t : SegTree) (rows : List Triple) (o : Option (Vec Seg Global)) → IsTreeOver n t → option_map segs_under (nodes_from t 0 rows) ≡ option_map (λ (v : Vec Seg Global). v.items) o → IfSome o (λ v. Touches v.items)
touch-of n t rows None over e = tt
touch-of n t rows (Some v) over e = by (nodes_from t 0 rows) refl e
  where
    by : (o : Option (List Node)) → nodes_from t 0 rows ≡ o → option_map segs_under o ≡ Some v.items → Touches v.items
    by None q f = cc
    by (Some ns) q f = let same : segs_under ns ≡ v.items = cc in subst Touches same (cut-touches n t rows ns over q)
