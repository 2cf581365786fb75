-- A step on the rows of a series.
use Rattle.std.proofs.Common.{◌≡◌, ℕ, zero, suc, ◌+◌, ◌-◌, ◌*◌, ◌<◌, ◌≤◌, cond, Bool, true, false, inl, inr, ℤ, List, [], ◌∷◌, ◌++◌, length, map, take, get_or, Option, Some, None, arith, refl, sym, ap, ap₂, subst, ◌∙◌}
use Rattle.std.specs.Prelude.{is_some, ◌&&◌, not, ◌==◌, slice_index}
use Rattle.std.specs.Option.{option_map}
use Rattle.std.specs.List.{All}
use Rattle.std.proofs.lemmas.Bool.{cases_Bool, eqb-true, eq-eqb}
use Rattle.std.proofs.lemmas.List.Elements.{All-cons, All-head, All-tail, All-append, All-weaker}
use Rattle.segment.specs.declared.segments.Seg.{Seg}
use Rattle.segment.specs.Nodes.{Forest, IsForest, Place, left_of, right_of, seg_at, readings_at, tree_in, KeepsRoots, HandsOut}
use Rattle.segment.specs.Shape.{plan, IsSplit}
use Rattle.segment.specs.Tree.{SegTree, tip, node, readings_of, root_of, plan_of, IsPartOf, IsTreeOver}
use Rattle.segment.proofs.PartLaws.{IsPartOver, part-over, part_left, part_right}
use Rattle.segment.proofs.ShapeLaws.{plan-leaf, plan-fork}
use Rattle.descent.specs.declared.tables.Row.{Row as Held_row}
use Rattle.descent.specs.Rows.{Row, Track}
use Rattle.descent.specs.Choice.{Has}
use Rattle.descent.specs.Descents.{Node, closed, opened, below, row_of, is_at, expanded_row}
use Rattle.descent.specs.Held.{Held, row_in, place_of, StandsFor, IsTrackOf, IsNodeOf, is_closed_at, steps_below, steps_in}
use Rattle.descent.specs.Laid.{held, replaced, IsRowFrom}
use Rattle.descent.specs.Stepped.{IsClosedFrom, StepsTrack}

-- ---- lists

-- each element of a list has what all have
pub All-has : {A : Type 0} (P : A → Type 0) (xs : List A) (x : A) → All P xs → Has x xs → P x
All-has P [] x all h = absurd h
All-has P (y ∷ xs) x all (inl e) = subst P (sym e) (All-head P y xs all)
All-has P (y ∷ xs) x all (inr h) = All-has P xs x (All-tail P y xs all) h

pub All-replaced : {I : Type 0} (P : Held I → Type 0) (start : ℕ) (new hs : List (Held I)) → All P new → All P hs → All P (replaced start new hs)
All-replaced P start new [] n all = all
All-replaced P start new (h ∷ hs) n all =
    let here = All-head P h hs all in
    let rest = All-tail P h hs all in
    elim (cases_Bool (is_closed_at start h)) [
      | inl t ↦ rw t (All-append P new hs n rest)
      | inr f ↦ rw f (All-cons P h (replaced start new hs) here (All-replaced P start new hs n rest))
    ]

steps_in-append : {I : Type 0} → (xs ys : List (Held I)) → steps_in (xs ++ ys) ≡ steps_in xs + steps_in ys
steps_in-append [] ys = omega arith
steps_in-append (x ∷ xs) ys = omega (arith, steps_in-append xs ys)

-- where a closed row gives way to rows with fewer steps, fewer are left
pub replaced-less : {I : Type 0} → (start : ℕ) (new hs : List (Held I)) (h : Held I) → Has h hs → is_closed_at start h ≡ true
    → ((k : Held I) → Has k hs → is_closed_at start k ≡ true → steps_in new < steps_below k) → steps_in (replaced start new hs) < steps_in hs
replaced-less start new [] h there t less = absurd there
replaced-less start new (k ∷ hs) h there t less = elim (cases_Bool (is_closed_at start k)) [
  | inl c ↦ rw c (omega (arith, steps_in-append new hs, less k (inl refl) c))
  | inr f ↦ elim there [
    | inl e ↦ let bad : true ≡ false = sym t ∙ ap (is_closed_at start) e ∙ f in cc
    | inr rest ↦ rw f (omega (arith, replaced-less start new hs h rest t (λ q m c. less q (inr m) c)))
  ]
]

-- ---- the rows of nodes

closed-test : {I : Type 0} → (start : ℕ) (h : Held I) (n : Node) → row_in h ≡ row_of n → is_closed_at start h ≡ is_at start n
closed-test start h n e =
    let r : h.row.readings ≡ cond n.opened (Some (readings_of n.tree)) None = ap (λ (r : Row). r.readings) e in
    let s : h.row.seg.start ≡ (root_of n.tree).start = ap (λ (r : Row). r.seg.start) e in
    ap₂ (λ (o : Option (List ℤ)) (k : ℕ). not (is_some o) && (k == start)) r s ∙ by n.opened
  where
    by : (b : Bool) → (not (is_some (cond b (Some (readings_of n.tree)) None)) && ((root_of n.tree).start == start)) ≡ (not b && ((root_of n.tree).start == start))
    by true = refl
    by false = refl

map-append : {A B : Type 0} (f : A → B) (xs ys : List A) → map f (xs ++ ys) ≡ map f xs ++ map f ys
map-append f [] ys = refl
map-append f (x ∷ xs) ys = ap (λ zs. f x ∷ zs) (map-append f xs ys)

-- rows that give way as their nodes do
pub replaced-rows : {I : Type 0} → (P : Node → Type 0) (start : ℕ) (new hs : List (Held I)) (ns : List Node) → All P ns → map row_in hs ≡ map row_of ns
    → ((h : Held I) (n : Node) → Has h hs → is_at start n ≡ true → P n → row_in h ≡ row_of n → map row_in new ≡ map row_of (below n.tree))
    → map row_in (replaced start new hs) ≡ map row_of (expanded_row start ns)
replaced-rows P start new [] [] all e below_is = refl
replaced-rows P start new [] (n ∷ ns) all e below_is = cc
replaced-rows P start new (h ∷ hs) [] all e below_is = cc
replaced-rows P start new (h ∷ hs) (n ∷ ns) all e below_is =
    let first : row_in h ≡ row_of n = cc in
    let rest : map row_in hs ≡ map row_of ns = cc in
    let here = All-head P n ns all in
    let later = replaced-rows P start new hs ns (All-tail P n ns all) rest (λ k m t. below_is k m (inr t)) in
    let test = closed-test start h n first in
    elim (cases_Bool (is_at start n)) [
      | inl t ↦ let c : is_closed_at start h ≡ true = test ∙ t in
          rw (t, c) (map-append row_in new hs ∙ ap₂ ◌++◌ (below_is h n (inl refl) t here first) rest ∙ sym (map-append row_of (below n.tree) ns))
      | inr f ↦ let c : is_closed_at start h ≡ false = test ∙ f in rw (f, c) (ap₂ ◌∷◌ first later)
    ]

-- ---- a node of a forest

-- what is known of a closed node of a forest, by the lengths of the series
pub record IsLeafNode (forest : Forest) (series : ℕ) (n : Node) : Type 0 where
  pub seg : Seg
  pub readings : List ℤ
  pub is : n.tree ≡ tip seg readings

tree-over : (lengths : List ℕ) (forest : Forest) (k : ℕ) (t : SegTree) → IsForest lengths forest → tree_in forest k ≡ Some t → IsTreeOver (get_or lengths k 0) t
tree-over [] [] k t h e = cc
tree-over [] (t ∷ ts) k u h e = absurd h
tree-over (n ∷ ns) [] k t h e = absurd h
tree-over (n ∷ ns) (None ∷ ts) zero u h e = cc
tree-over (n ∷ ns) (Some t ∷ ts) zero u h e = let same : t ≡ u = cc in subst (IsTreeOver n) same h.0
tree-over (n ∷ ns) (t ∷ ts) (suc k) u h e = tree-over ns ts k u h.1 e

node-over : (lengths : List ℕ) (forest : Forest) (series : ℕ) (n : Node) → IsForest lengths forest → (is : IsNodeOf forest series n)
    → IsPartOver (get_or lengths series 0) is.whole n.tree (record { start = (root_of n.tree).start; len = (root_of n.tree).len })
node-over lengths forest series n h is =
    part-over (get_or lengths series 0) is.whole n.tree (record { start = (root_of n.tree).start; len = (root_of n.tree).len }) (tree-over lengths forest series is.whole h is.found) is.part is.shaped

-- a leaf has at most 16 readings, and gives them
leaf-is : (t : SegTree) → (root_of t).len ≤ 16 → plan_of t ≡ plan (root_of t).start (root_of t).len → t ≡ tip (root_of t) (readings_of t)
leaf-is (tip g xs) few shaped = refl
leaf-is (node g left right) few shaped = let p = shaped ∙ plan-leaf g.start g.len few in cc

pub leaf-below : {I : Type 0} → (lengths : List ℕ) (forest : Forest) (series : ℕ) (n : Node) (h new : Held I) → IsForest lengths forest → IsNodeOf forest series n → row_in h ≡ row_of n → h.row.seg.len ≤ 16
    → new.row.seg ≡ h.row.seg → new.row.readings ≡ Some (readings_at forest (place_of series h.row)) → map row_in (new ∷ []) ≡ map row_of (below n.tree)
leaf-below lengths forest series n h new fits is e few seg read =
    let s : h.row.seg ≡ root_of n.tree = ap (λ (r : Row). r.seg) e in
    let len : (root_of n.tree).len ≤ 16 = subst (λ (g : Seg). g.len ≤ 16) s few in
    let over = node-over lengths forest series n fits is in
    let t = leaf-is n.tree len is.shaped in
    let b : below n.tree ≡ opened n.tree ∷ [] = ap below t ∙ ap (λ u. opened u ∷ []) (sym t) in
    let xs : readings_at forest (place_of series h.row) ≡ readings_of n.tree = rw (is.found, s) over.readings in
    let r : new.row ≡ row_of (opened n.tree) = ap₂ (λ (g : Seg) (o : Option (List ℤ)). let row : Row = record { seg = g; readings = o } in row) (seg ∙ s) (read ∙ ap Some xs) in
    ap (λ (row : Row). row ∷ []) r ∙ sym (ap (map row_of) b)

-- the children of a node of more than 16 readings
pub fork-is : (t : SegTree) (s : ℕ) → IsSplit (root_of t).len s → plan_of t ≡ plan (root_of t).start (root_of t).len
    → (left : SegTree) × (right : SegTree) × (t ≡ node (root_of t) left right) × (plan_of left ≡ plan (root_of t).start s) × (plan_of right ≡ plan ((root_of t).start + s) ((root_of t).len - s))
fork-is (tip g xs) s split shaped = let p = shaped ∙ plan-fork g.start g.len s split in cc
fork-is (node g left right) s split shaped =
    let p = shaped ∙ plan-fork g.start g.len s split in
    let l : plan_of left ≡ plan g.start s = cc in
    let r : plan_of right ≡ plan (g.start + s) (g.len - s) = cc in
    (left, right, refl, l, r)

pub fork-below : {I : Type 0} → (lengths : List ℕ) (forest : Forest) (series s : ℕ) (n : Node) (h a b : Held I) → IsForest lengths forest → IsNodeOf forest series n → row_in h ≡ row_of n → IsSplit h.row.seg.len s
    → a.row.readings ≡ None → b.row.readings ≡ None
    → seg_at forest (left_of (place_of series h.row) s) ≡ Some a.row.seg → seg_at forest (right_of (place_of series h.row) s) ≡ Some b.row.seg
    → map row_in (a ∷ b ∷ []) ≡ map row_of (below n.tree)
fork-below lengths forest series s n h a b fits is e split an bn found_a found_b =
    let g : h.row.seg ≡ root_of n.tree = ap (λ (r : Row). r.seg) e in
    let sp : IsSplit (root_of n.tree).len s = subst (λ (q : Seg). IsSplit q.len s) g split in
    let f = fork-is n.tree s sp is.shaped in
    let whole = tree-over lengths forest series is.whole fits is.found in
    let part = subst (λ t. IsPartOf t is.whole) f.2 is.part in
    let l = part-over (get_or lengths series 0) is.whole f.0 (record { start = (root_of n.tree).start; len = s }) whole (part_left is.whole (root_of n.tree) f.0 f.1 part) f.3 in
    let r = part-over (get_or lengths series 0) is.whole f.1 (record { start = (root_of n.tree).start + s; len = (root_of n.tree).len - s }) whole (part_right is.whole (root_of n.tree) f.0 f.1 part) f.4 in
    let fa : seg_at forest (left_of (place_of series h.row) s) ≡ Some (root_of f.0) = rw (is.found, g) l.found in
    let fb : seg_at forest (right_of (place_of series h.row) s) ≡ Some (root_of f.1) = rw (is.found, g) r.found in
    let sa : a.row.seg ≡ root_of f.0 = let q : Some a.row.seg ≡ Some (root_of f.0) = sym found_a ∙ fa in cc in
    let sb : b.row.seg ≡ root_of f.1 = let q : Some b.row.seg ≡ Some (root_of f.1) = sym found_b ∙ fb in cc in
    let ra : a.row ≡ row_of (closed f.0) = ap₂ (λ (g : Seg) (o : Option (List ℤ)). let row : Row = record { seg = g; readings = o } in row) sa an in
    let rb : b.row ≡ row_of (closed f.1) = ap₂ (λ (g : Seg) (o : Option (List ℤ)). let row : Row = record { seg = g; readings = o } in row) sb bn in
    ap₂ (λ (x y : Row). x ∷ y ∷ []) ra rb ∙ sym (ap (λ t. map row_of (below t)) f.2)

-- ---- the row that was found

pub record IsTheRow {I : Type 0} (track : Track (Held I)) (start : ℕ) (r : Held_row I) : Type 0 where
  pub there : Has (held r) track.rows
  pub starts : r.seg.start ≡ start
  pub some : 0 < r.seg.len
  pub closed : r.readings ≡ None
  pub alone : (h : Held I) → Has h track.rows → is_closed_at start h ≡ true → h ≡ held r

none-of : (n : ℕ) (o : Option (List ℤ)) → option_map (take n) o ≡ None → o ≡ None
none-of n None e = refl
none-of n (Some xs) e = cc

closed-start : (o : Option (List ℤ)) (k start : ℕ) → (not (is_some o) && (k == start)) ≡ true → k ≡ start
closed-start None k start t = eqb-true k start t
closed-start (Some xs) k start t = cc

pub the-row : {I : Type 0} → (track : Track (Held I)) (start : ℕ) (r : Held_row I) → IsClosedFrom track start → IsRowFrom track.rows start r → IsTheRow track start r
the-row track start r at is =
    let e = is.alone at.held at.among at.starts in
    let z : option_map (take r.seg.len) r.readings ≡ None = ap (λ (h : Held _). h.row.readings) (sym e) ∙ at.closed in
    record {
      there = is.there;
      starts = is.starts;
      some = is.some;
      closed = none-of r.seg.len r.readings z;
      alone = λ h m t. is.alone h m (closed-start h.row.readings h.row.seg.start start t);
    }

the-closed : {I : Type 0} → (start : ℕ) (r : Held_row I) → r.seg.start ≡ start → r.readings ≡ None → is_closed_at start (held r) ≡ true
the-closed start r s c = rw (c, s) (eq-eqb start start refl)

-- ---- whose nodes they are

pub track-later : {I : Type 0} → (lengths lengths' : List ℕ) (roots roots' : List (Option Seg)) (before after : I → Place → Type 0)
    → lengths' ≡ lengths → KeepsRoots roots roots' → ((i : I) (p : Place) → before i p → after i p)
    → (track : Track (Held I)) → IsTrackOf lengths roots before track → IsTrackOf lengths' roots' after track
track-later lengths lengths' roots roots' before after same keeps later track of = record {
  within = subst (λ ls. track.series < length ls) (sym same) of.within;
  len = of.len ∙ ap (λ ls. slice_index ls track.series) (sym same);
  rooted = λ some. let r = of.rooted some in (r.0, keeps track.series r.0 r.1, r.2);
  stand = All-weaker (StandsFor before track.series) (StandsFor after track.series) (λ h s. later h.id (place_of track.series h.row) s) track.rows of.stand;
}

pub track-of : {I : Type 0} → (lengths lengths' : List ℕ) (roots roots' : List (Option Seg)) (before after : I → Place → Type 0) (track : Track (Held I)) (start : ℕ) (new : List (Held I))
    → IsTrackOf lengths roots before track → lengths' ≡ lengths → KeepsRoots roots roots'
    → ((i : I) (p : Place) → before i p → after i p) → All (StandsFor after track.series) new
    → IsTrackOf lengths' roots' after (record track { rows = replaced start new track.rows })
track-of lengths lengths' roots roots' before after track start new of same keeps later stand =
    let t = track-later lengths lengths' roots roots' before after same keeps later track of in
    record { within = t.within; len = t.len; rooted = t.rooted; stand = All-replaced (StandsFor after track.series) start new track.rows stand t.stand }

-- ---- fewer steps

below-some : {I : Type 0} → (r : Held_row I) → r.readings ≡ None → 0 < r.seg.len → 0 < steps_below (held r)
below-some r c some = rw c (omega arith)

pub open-less : {I : Type 0} → (track : Track (Held I)) (start : ℕ) (r : Held_row I) (new : Held I) (xs : List ℤ) → IsTheRow track start r → new.row.readings ≡ Some xs → steps_in (replaced start (new ∷ []) track.rows) < steps_in track.rows
open-less track start r new xs is e =
    replaced-less start (new ∷ []) track.rows (held r) is.there (the-closed start r is.starts is.closed)
    (λ k m t. let same = is.alone k m t in rw (same, e) (let b = below-some r is.closed is.some in omega arith))

pub split-less : {I : Type 0} → (track : Track (Held I)) (start half : ℕ) (r : Held_row I) (a b : Held I) → IsTheRow track start r → a.row.readings ≡ None → b.row.readings ≡ None
    → 0 < half → a.row.seg.len ≡ 16 * half → 0 < b.row.seg.len → a.row.seg.len + b.row.seg.len ≡ r.seg.len
    → steps_in (replaced start (a ∷ b ∷ []) track.rows) < steps_in track.rows
split-less track start half r a b is an bn some full rest whole =
    replaced-less start (a ∷ b ∷ []) track.rows (held r) is.there (the-closed start r is.starts is.closed)
    (λ k m t. let same = is.alone k m t in let c = is.closed in rw (same, an, bn, c) (omega arith))

-- ---- rows of a forest

pub open-step : {I : Type 0} → (lengths : List ℕ) (forest : Forest) (track : Track (Held I)) (start : ℕ) (r a : Held_row I) (xs : List ℤ) → IsForest lengths forest → IsTheRow track start r → r.seg.len ≤ 16
    → a.seg ≡ r.seg → a.readings ≡ Some xs → take r.seg.len xs ≡ readings_at forest (place_of track.series (held r).row)
    → StepsTrack forest start track (record track { rows = replaced start (held a ∷ []) track.rows })
open-step lengths forest track start r a xs fits is few seg e read ns all same =
    replaced-rows (IsNodeOf forest track.series) start (held a ∷ []) track.rows ns all same
    (λ h n m t p q.
    let one : h ≡ held r = is.alone h m (closed-test start h n q ∙ t) in
    let s : r.seg ≡ h.row.seg = ap (λ (k : Held _). k.row.seg) (sym one) in
    let place : readings_at forest (place_of track.series (held r).row) ≡ readings_at forest (place_of track.series h.row) = ap (λ (k : Held _). readings_at forest (place_of track.series k.row)) (sym one) in
    let readings : option_map (take a.seg.len) a.readings ≡ Some (readings_at forest (place_of track.series h.row)) = rw (e, seg) (ap Some (read ∙ place)) in
    leaf-below lengths forest track.series n h (held a) fits p q (subst (λ (g : Seg). g.len ≤ 16) s few) (seg ∙ s) readings)

pub split-step : {I : Type 0} → (lengths : List ℕ) (forest : Forest) (track : Track (Held I)) (start s : ℕ) (r a b : Held_row I) → IsForest lengths forest → IsTheRow track start r → IsSplit r.seg.len s
    → a.readings ≡ None → b.readings ≡ None
    → seg_at forest (left_of (place_of track.series (held r).row) s) ≡ Some a.seg → seg_at forest (right_of (place_of track.series (held r).row) s) ≡ Some b.seg
    → StepsTrack forest start track (record track { rows = replaced start (held a ∷ held b ∷ []) track.rows })
split-step lengths forest track start s r a b fits is split an bn fa fb ns all same =
    replaced-rows (IsNodeOf forest track.series) start (held a ∷ held b ∷ []) track.rows ns all same
    (λ h n m t p q.
    let one : held r ≡ h = sym (is.alone h m (closed-test start h n q ∙ t)) in
    let sp : IsSplit h.row.seg.len s = subst (λ (k : Held _). IsSplit k.row.seg.len s) one split in
    let ra : (held a).row.readings ≡ None = rw an refl in
    let rb : (held b).row.readings ≡ None = rw bn refl in
    let l = subst (λ (k : Held _). seg_at forest (left_of (place_of track.series k.row) s) ≡ Some a.seg) one fa in
    let u = subst (λ (k : Held _). seg_at forest (right_of (place_of track.series k.row) s) ≡ Some b.seg) one fb in
    fork-below lengths forest track.series s n h (held a) (held b) fits p q sp ra rb l u)

pub hands-out : (k most : ℕ) (before now : Option ℕ) → k ≤ most → HandsOut k before now → HandsOut most before now
hands-out k most before now le h b e = let r = h b e in let w = r.2 in (r.0, r.1, omega arith)

pub place-is : (series : ℕ) (g : Seg) (start len : ℕ) → g.start ≡ start → g.len ≡ len → (let p : Place = record { series = series; range = record { start = g.start; len = g.len } } in p) ≡ record { series = series; range = record { start = start; len = len } }
place-is series g start len s l = ap₂ (λ (a b : ℕ). let p : Place = record { series = series; range = record { start = a; len = b } } in p) s l
