-- Where the parts of a tree lie: their ranges, their readings, and their segments among those of the whole.
use Rattle.std.proofs.Common.{◌≡◌, ℕ, zero, suc, ◌+◌, ◌-◌, ◌<◌, ◌≤◌, ◌&&◌, inl, inr, false, List, [], ◌∷◌, ◌++◌, length, take, drop, Some, None, refl, ap, ap₂, ◌∙◌, sym, subst, arith, length-append, length-drop, take_all, pow_pos, eq-eqb, ne_eqb}
use Rattle.std.specs.Prelude.{◌==◌}
use Rattle.std.specs.List.{Contains}
use Rattle.std.proofs.lemmas.Bool.{cases_lt, cases_eq, cases_Bool}
use Rattle.std.proofs.lemmas.List.{take-append-le, drop-append-le}
use Rattle.std.proofs.Math.Seq.{drop-append-add}
use Rattle.std.proofs.lemmas.List.Elements.{Contains-append_left, Contains-append_right}
use Rattle.segment.specs.declared.segments.Seg.{Seg}
use Rattle.segment.specs.Measure.{IsTrueOf, IsSane, greatest_reading}
use Rattle.segment.specs.Nodes.{find_seg}
use Rattle.segment.specs.Shape.{Range, room, plan, plan_below, ranges, shape}
use Rattle.segment.specs.Tree.{SegTree, tip, node, readings_of, segs_of, root_of, plan_of, width, IsPartOf, AllTrue, IsTreeOver}
use Rattle.segment.proofs.SanityLaws.{true-sane}
use Rattle.segment.proofs.ShapeLaws.{plan_below_low, plan_below_high, room-suc, enough, shape-plan}
use Rattle.segment.proofs.TreeLaws.{width-below, width-plan}

-- the range of the whole
abbrev pub range_of : SegTree → Range
range_of t = record { start = (root_of t).start; len = (root_of t).len }

pub root-true : (t : SegTree) → AllTrue t → IsTrueOf (readings_of t) (root_of t)
root-true (tip g xs) h = h
root-true (node g left right) h = h.0

root-long : (t : SegTree) → AllTrue t → (root_of t).len ≡ length (readings_of t)
root-long t h = ap (λ (g : Seg). g.len) (root-true t h).measured

pub AllTrue-part : (t part : SegTree) → AllTrue t → IsPartOf part t → AllTrue part
AllTrue-part (tip g xs) part h e = subst AllTrue (sym e) h
AllTrue-part (node g left right) part h (inl e) = subst AllTrue (sym e) h
AllTrue-part (node g left right) part h (inr (inl p)) = AllTrue-part left part h.1 p
AllTrue-part (node g left right) part h (inr (inr p)) = AllTrue-part right part h.2 p

pub part_self : (t : SegTree) → IsPartOf t t
part_self (tip g xs) = refl
part_self (node g left right) = inl refl

-- the children of a part are parts
pub part_left : (t : SegTree) (g : Seg) (l r : SegTree) → IsPartOf (node g l r) t → IsPartOf l t
part_left (tip h xs) g l r e = cc
part_left (node h left right) g l r (inl e) = let same : l ≡ left = cc in inr (inl (subst (λ t. IsPartOf t left) (sym same) (part_self left)))
part_left (node h left right) g l r (inr (inl p)) = inr (inl (part_left left g l r p))
part_left (node h left right) g l r (inr (inr p)) = inr (inr (part_left right g l r p))

pub part_right : (t : SegTree) (g : Seg) (l r : SegTree) → IsPartOf (node g l r) t → IsPartOf r t
part_right (tip h xs) g l r e = cc
part_right (node h left right) g l r (inl e) = let same : r ≡ right = cc in inr (inr (subst (λ t. IsPartOf t right) (sym same) (part_self right)))
part_right (node h left right) g l r (inr (inl p)) = inr (inl (part_right left g l r p))
part_right (node h left right) g l r (inr (inr p)) = inr (inr (part_right right g l r p))

Contains-root : (t : SegTree) → Contains (ranges (plan_of t)) (range_of t)
Contains-root (tip g xs) = (0, omega arith, refl)
Contains-root (node g left right) = (0, omega arith, refl)

-- the range of a part is one of the whole's
Contains-part : (t part : SegTree) → IsPartOf part t → Contains (ranges (plan_of t)) (range_of part)
Contains-part (tip g xs) part e = subst (λ u. Contains (ranges (plan_of (tip g xs))) (range_of u)) (sym e) (Contains-root (tip g xs))
Contains-part (node g left right) part (inl e) = subst (λ u. Contains (ranges (plan_of (node g left right))) (range_of u)) (sym e) (Contains-root (node g left right))
Contains-part (node g left right) part (inr (inl p)) =
    Contains-append_right (record { start = g.start; len = g.len } ∷ []) (ranges (plan_of left) ++ ranges (plan_of right)) (range_of part) (Contains-append_left (ranges (plan_of left)) (ranges (plan_of right)) (range_of part) (Contains-part left part p))
Contains-part (node g left right) part (inr (inr p)) =
    Contains-append_right (record { start = g.start; len = g.len } ∷ []) (ranges (plan_of left) ++ ranges (plan_of right)) (range_of part) (Contains-append_right (ranges (plan_of left)) (ranges (plan_of right)) (range_of part) (Contains-part right part p))

-- ---- ranges lie as the readings do

abbrev IsLaid : ℕ → SegTree → Type 0
IsLaid start (tip g xs) = (g.start ≡ start) × (g.len ≡ length xs) × (0 < length xs)
IsLaid start (node g left right) =
    (g.start ≡ start) × (g.len ≡ length (readings_of left) + length (readings_of right)) × IsLaid start left × IsLaid (start + length (readings_of left)) right

laid-starts : (start : ℕ) (t : SegTree) → IsLaid start t → (root_of t).start ≡ start
laid-starts start (tip g xs) h = h.0
laid-starts start (node g left right) h = h.0

laid-spans : (start : ℕ) (t : SegTree) → IsLaid start t → (root_of t).len ≡ length (readings_of t)
laid-spans start (tip g xs) h = h.1
laid-spans start (node g left right) h = h.1 ∙ sym (length-append (readings_of left) (readings_of right))

laid-some : (start : ℕ) (t : SegTree) → IsLaid start t → 0 < length (readings_of t)
laid-some start (tip g xs) h = h.2
laid-some start (node g left right) h = omega (arith, length-append (readings_of left) (readings_of right), laid-some start left h.2)

width-plan_of : (t : SegTree) → width (plan_of t) ≡ (root_of t).len
width-plan_of (tip g xs) = refl
width-plan_of (node g left right) = refl

long-below : (h start len : ℕ) (t : SegTree) → plan_of t ≡ plan_below h start len → AllTrue t → length (readings_of t) ≡ len
long-below h start len t e all_true = sym (root-long t all_true) ∙ sym (width-plan_of t) ∙ ap width e ∙ width-below h start len

laid-below : (h start len : ℕ) (t : SegTree) → 0 < len → len ≤ room h → plan_of t ≡ plan_below h start len → AllTrue t → IsLaid start t
unfolding plan_below
laid-below zero start len (tip g xs) some fits_in e all_true =
    let starts : g.start ≡ start = cc in
    let spans : g.len ≡ len = cc in
    (starts, root-long (tip g xs) all_true, omega (arith, root-long (tip g xs) all_true))
laid-below zero start len (node g left right) some fits_in e all_true = cc
laid-below (suc h) start len (tip g xs) some fits_in e all_true = elim (cases_lt (room h) len) [
  | inr low ↦ laid-below h start len (tip g xs) some low (e ∙ plan_below_low h start len low) all_true
  | inl high ↦ let split = e ∙ plan_below_high h start len high in cc
]
laid-below (suc h) start len (node g left right) some fits_in e all_true = elim (cases_lt (room h) len) [
  | inr low ↦ laid-below h start len (node g left right) some low (e ∙ plan_below_low h start len low) all_true
  | inl high ↦
      let split = e ∙ plan_below_high h start len high in
      let starts : g.start ≡ start = cc in
      let l : plan_of left ≡ plan_below h start (room h) = cc in
      let r : plan_of right ≡ plan_below h (start + room h) (len - room h) = cc in
      let long = long-below h start (room h) left l all_true.1 in (
        starts,
        root-long (node g left right) all_true ∙ length-append (readings_of left) (readings_of right),
        laid-below h start (room h) left (omega (arith, pow_pos h)) (omega arith) l all_true.1,
        subst (λ n. IsLaid (start + n) right) (sym long) (laid-below h (start + room h) (len - room h) right (omega arith) (omega (arith, room-suc h)) r all_true.2),
      )
]

laid : (n : ℕ) (t : SegTree) → IsTreeOver n t → IsLaid 0 t
unfolding plan
laid n t over = laid-below n 0 n t over.some (omega (arith, enough n)) over.shaped over.all_true

-- ---- the segment of a part's range is the part's

differs : (g : Seg) (r : Range) → (g.start ≡ r.start → g.len ≡ r.len → ⊥) → ((g.start == r.start) && (g.len == r.len)) ≡ false
differs g r apart = elim (cases_eq g.start r.start) [
  | inr ne ↦ rw (ne_eqb g.start r.start ne) refl
  | inl eq ↦ rw (eq-eqb g.start r.start eq) (ne_eqb g.len r.len (apart eq))
]

find-first : (g : Seg) (gs : List Seg) → find_seg (g ∷ gs) (record { start = g.start; len = g.len }) ≡ Some g
find-first g gs = rw (eq-eqb g.start g.start refl, eq-eqb g.len g.len refl) refl

find-rest : (g : Seg) (gs : List Seg) (r : Range) → (g.start ≡ r.start → g.len ≡ r.len → ⊥) → find_seg (g ∷ gs) r ≡ find_seg gs r
find-rest g gs r apart = rw (differs g r apart) refl

find-past : (xs ys : List Seg) (r : Range) → find_seg xs r ≡ None → find_seg (xs ++ ys) r ≡ find_seg ys r
find-past [] ys r e = refl
find-past (g ∷ gs) ys r e = elim (cases_Bool ((g.start == r.start) && (g.len == r.len))) [
  | inl hit ↦ let bad : Some g ≡ None = rw hit at e in cc
  | inr miss ↦ rw miss (find-past gs ys r (rw miss at e))
]

find-front : (xs ys : List Seg) (r : Range) (x : Seg) → find_seg xs r ≡ Some x → find_seg (xs ++ ys) r ≡ Some x
find-front [] ys r x e = cc
find-front (g ∷ gs) ys r x e = elim (cases_Bool ((g.start == r.start) && (g.len == r.len))) [
  | inl hit ↦ rw hit (rw hit at e)
  | inr miss ↦ rw miss (find-front gs ys r x (rw miss at e))
]

-- no segment of a tree has a range behind it
find-behind : (start : ℕ) (t : SegTree) (r : Range) → IsLaid start t → start + length (readings_of t) ≤ r.start → find_seg (segs_of t) r ≡ None
find-behind start (tip g xs) r h behind = find-rest g [] r (λ a b. omega (arith, h.0, h.2))
find-behind start (node g left right) r h behind =
    let some = laid-some start left h.2 in
    let long = length-append (readings_of left) (readings_of right) in
    find-rest g (segs_of left ++ segs_of right) r (λ a b. omega (arith, h.0))
    ∙ find-past (segs_of left) (segs_of right) r (find-behind start left r h.2 (omega arith))
    ∙ find-behind (start + length (readings_of left)) right r h.3 (omega arith)

-- where a part lies in a tree from start on
pub record LiesIn (start : ℕ) (t part : SegTree) : Type 0 where
  pub from : start ≤ (root_of part).start
  pub to : (root_of part).start + length (readings_of part) ≤ start + length (readings_of t)
  pub spans : (root_of part).len ≡ length (readings_of part)
  pub some : 0 < length (readings_of part)
  pub readings : take (length (readings_of part)) (drop ((root_of part).start - start) (readings_of t)) ≡ readings_of part
  pub found : find_seg (segs_of t) (range_of part) ≡ Some (root_of part)

find-root : (t : SegTree) → find_seg (segs_of t) (range_of t) ≡ Some (root_of t)
find-root (tip g xs) = find-first g []
find-root (node g left right) = find-first g (segs_of left ++ segs_of right)

lies_itself : (start : ℕ) (t : SegTree) → IsLaid start t → LiesIn start t t
lies_itself start t h =
    let starts = laid-starts start t h in
    let none : (root_of t).start - start ≡ 0 = omega (arith, starts) in
    record {
      from = omega (arith, starts);
      to = omega (arith, starts);
      spans = laid-spans start t h;
      some = laid-some start t h;
      readings = rw none (take_all (length (readings_of t)) (readings_of t) (omega arith));
      found = find-root t;
    }

lies_left : (start : ℕ) (g : Seg) (left right part : SegTree) → IsLaid start (node g left right) → LiesIn start left part → LiesIn start (node g left right) part
lies_left start g left right part h p =
    let long = length-append (readings_of left) (readings_of right) in
    let some = laid-some (start + length (readings_of left)) right h.3 in
    let k = (root_of part).start - start in
    let n = length (readings_of part) in
    record {
      from = p.from;
      to = omega (arith, p.to);
      spans = p.spans;
      some = p.some;
      readings = ap (take n) (drop-append-le k (readings_of left) (readings_of right) (omega (arith, p.to, p.from)))
          ∙ take-append-le n (drop k (readings_of left)) (readings_of right) (omega (arith, p.to, p.from, length-drop k (readings_of left)))
          ∙ p.readings;
      found = find-rest g (segs_of left ++ segs_of right) (range_of part) (λ a b. omega (arith, h.1, p.spans, p.to, p.from))
          ∙ find-front (segs_of left) (segs_of right) (range_of part) (root_of part) p.found;
    }

lies_right : (start : ℕ) (g : Seg) (left right part : SegTree) → IsLaid start (node g left right) → LiesIn (start + length (readings_of left)) right part → LiesIn start (node g left right) part
lies_right start g left right part h p =
    let long = length-append (readings_of left) (readings_of right) in
    let some = laid-some start left h.2 in
    let k = (root_of part).start - (start + length (readings_of left)) in
    let n = length (readings_of part) in
    let e : (root_of part).start - start ≡ length (readings_of left) + k = omega (arith, p.from) in
    record {
      from = omega (arith, p.from);
      to = omega (arith, p.to);
      spans = p.spans;
      some = p.some;
      readings = ap (λ j. take n (drop j (readings_of left ++ readings_of right))) e
          ∙ ap (take n) (drop-append-add (readings_of left) (readings_of right) k)
          ∙ p.readings;
      found = find-rest g (segs_of left ++ segs_of right) (range_of part) (λ a b. omega (arith, h.0, p.from))
          ∙ find-past (segs_of left) (segs_of right) (range_of part) (find-behind start left (range_of part) h.2 p.from)
          ∙ p.found;
    }

part-lies : (start : ℕ) (t part : SegTree) → IsLaid start t → IsPartOf part t → LiesIn start t part
part-lies start (tip g xs) part h e = subst (LiesIn start (tip g xs)) (sym e) (lies_itself start (tip g xs) h)
part-lies start (node g left right) part h (inl e) = subst (LiesIn start (node g left right)) (sym e) (lies_itself start (node g left right) h)
part-lies start (node g left right) part h (inr (inl p)) = lies_left start g left right part h (part-lies start left part h.2 p)
part-lies start (node g left right) part h (inr (inr p)) = lies_right start g left right part h (part-lies (start + length (readings_of left)) right part h.3 p)

-- ---- the parts of the tree of a series

start-below : (h start len : ℕ) (t : SegTree) → plan_of t ≡ plan_below h start len → (root_of t).start ≡ start
unfolding plan_below
start-below zero start len (tip g xs) e = cc
start-below zero start len (node g left right) e = cc
start-below (suc h) start len (tip g xs) e = elim (cases_lt (room h) len) [
  | inr low ↦ start-below h start len (tip g xs) (e ∙ plan_below_low h start len low)
  | inl high ↦ let split = e ∙ plan_below_high h start len high in cc
]
start-below (suc h) start len (node g left right) e = elim (cases_lt (room h) len) [
  | inr low ↦ start-below h start len (node g left right) (e ∙ plan_below_low h start len low)
  | inl high ↦ let split = e ∙ plan_below_high h start len high in cc
]

pub start-plan : (start len : ℕ) (t : SegTree) → plan_of t ≡ plan start len → (root_of t).start ≡ start
unfolding plan
start-plan start len t e = start-below len start len t e

pub span-plan : (start len : ℕ) (t : SegTree) → plan_of t ≡ plan start len → (root_of t).len ≡ len
span-plan start len t e = sym (width-plan_of t) ∙ ap width e ∙ width-plan start len

-- what is known of a part over a range
pub record IsPartOver (n : ℕ) (t part : SegTree) (r : Range) : Type 0 where
  pub starts : (root_of part).start ≡ r.start
  pub spans : (root_of part).len ≡ r.len
  pub some : 0 < r.len
  pub within : r.start + r.len ≤ n
  pub long : length (readings_of part) ≡ r.len
  pub readings : take r.len (drop r.start (readings_of t)) ≡ readings_of part
  pub found : find_seg (segs_of t) r ≡ Some (root_of part)
  pub sane : IsSane (root_of part) (root_of t).d
  pub shaped : Contains (shape n) r

pub part-over : (n : ℕ) (t part : SegTree) (r : Range) → IsTreeOver n t → IsPartOf part t → plan_of part ≡ plan r.start r.len → IsPartOver n t part r
part-over n t part r over is_part shaped =
    let starts = start-plan r.start r.len part shaped in
    let spans = span-plan r.start r.len part shaped in
    let same : range_of part ≡ r = ap₂ (λ s l. let q : Range = record { start = s; len = l } in q) starts spans in
    let lies = part-lies 0 t part (laid n t over) is_part in
    let long : length (readings_of part) ≡ r.len = sym lies.spans ∙ spans in
    let from : r.start ≡ (root_of part).start - 0 = omega (arith, starts) in
    let readings : take r.len (drop r.start (readings_of t)) ≡ readings_of part = ap₂ (λ l s. take l (drop s (readings_of t))) (sym long) from ∙ lies.readings in
    let part_true = root-true part (AllTrue-part t part over.all_true is_part) in
    let most : (root_of t).d ≡ greatest_reading (readings_of t) = ap (λ (g : Seg). g.d) (root-true t over.all_true).measured in
    record {
      starts = starts;
      spans = spans;
      some = omega (arith, lies.some);
      within = omega (arith, lies.to, over.long);
      long = long;
      readings = readings;
      found = subst (λ q. find_seg (segs_of t) q ≡ Some (root_of part)) same lies.found;
      sane = subst (IsSane (root_of part)) (sym most) (true-sane (readings_of t) r.start r.len (root_of part) over.small (subst (λ ys. IsTrueOf ys (root_of part)) (sym readings) part_true));
      shaped = subst (λ q. Contains (shape n) q) same (subst (λ rs. Contains rs (range_of part)) (ap ranges over.shaped ∙ sym (shape-plan n over.some)) (Contains-part t part is_part));
    }

-- no segment of a tree has a range that ends behind it
find-beyond : (start : ℕ) (t : SegTree) (r : Range) → IsLaid start t → start + length (readings_of t) < r.start + r.len → find_seg (segs_of t) r ≡ None
find-beyond start (tip g xs) r h behind = find-rest g [] r (λ a b. omega (arith, h.0, h.1))
find-beyond start (node g left right) r h behind =
    let long = length-append (readings_of left) (readings_of right) in
    find-rest g (segs_of left ++ segs_of right) r (λ a b. omega (arith, h.0, h.1))
    ∙ find-past (segs_of left) (segs_of right) r (find-beyond start left r h.2 (omega arith))
    ∙ find-beyond (start + length (readings_of left)) right r h.3 (omega arith)

pub beyond-none : (n : ℕ) (t : SegTree) (r : Range) → IsTreeOver n t → n < r.start + r.len → find_seg (segs_of t) r ≡ None
beyond-none n t r over behind = find-beyond 0 t r (laid n t over) (omega (arith, over.long))

-- the segment of a part's range is the part's
pub part-found : (n : ℕ) (t part : SegTree) → IsTreeOver n t → IsPartOf part t → find_seg (segs_of t) (range_of part) ≡ Some (root_of part)
part-found n t part over is_part = (part-lies 0 t part (laid n t over) is_part).found

-- the readings of a part are those of its range
pub part-readings : (n : ℕ) (t part : SegTree) → IsTreeOver n t → IsPartOf part t → take (root_of part).len (drop (root_of part).start (readings_of t)) ≡ readings_of part
part-readings n t part over is_part =
    let lies = part-lies 0 t part (laid n t over) is_part in
    ap₂ (λ l s. take l (drop s (readings_of t))) lies.spans (let e : (root_of part).start ≡ (root_of part).start - 0 = omega arith in e) ∙ lies.readings
