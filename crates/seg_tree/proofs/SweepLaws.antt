-- Laws of marks and of the places that a sweep makes vacant.
use Rattle.std.proofs.Common.{◌≡◌, ℕ, zero, suc, ◌+◌, ◌^◌, ◌<◌, ◌≤◌, ◌⊎◌, ◌↔◌, List, [], ◌∷◌, ◌++◌, length, map, get_or, set, take, drop, Bool, true, false, Option, Some, None, refl, ap, ap₂, ◌∙◌, sym, subst, arith, inl, inr, length-set, get_or-set_same, get_or-set_other, length-take-le, get_or-drop, take_all, true≢false, unwrap_or}
use Rattle.std.proofs.lemmas.List.{map-set, set-get_or, get_or_past, take_more_set, take_more, map-append, drop-set-lt, drop-drop}
use Rattle.std.proofs.Math.ListN.{get_or-map}
use Rattle.std.proofs.lemmas.Bool.{cases_lt, cases_eq}
use Rattle.std.proofs.lemmas.List.Elements.{All-nil, All-cons, All-head, All-tail}
use Rattle.std.specs.List.{All}
use Rattle.segment.specs.Shape.{Plan, leaf, fork, plan}
use Rattle.seg_tree.specs.declared.nodes.Node.{Node}
use Rattle.seg_tree.specs.declared.nodes.Below.{Below}
use Rattle.seg_tree.specs.declared.nodes.Below.TheVariants.{Readings, Children}
use Rattle.seg_tree.specs.declared.arena.Tree.{Tree}
use Rattle.seg_tree.specs.declared.places.Slot.{Slot}
use Rattle.seg_tree.specs.declared.places.Slot.TheVariants.{Used, Vacant}
use Rattle.seg_tree.specs.Linked.{Places, no_node, held_at, node_at, tree_at, IsUsed, IsLeaf, IsFork, left_child, right_child, IsLinked, Reaches, used}
use Rattle.seg_tree.specs.Slots.{held, mark_of, last_vacant, AreLinked, vacancies_of, NoMarks, AreKept, no_slot, IsMarked, AreClosed, marked, settled, held_if_marked}
use Rattle.seg_tree.specs.Trees.{IsReached, ReachesAt, IsTreeAt, IsTreeOf, value_at, value_of}
use Rattle.segment.specs.Tree.{IsTreeOver}
use Rattle.seg_tree.proofs.SlotLaws.{held-at}

-- ---- marks

pub used-within : (ss : List Slot) (p : ℕ) → IsUsed (map held ss) p → p < length ss
used-within ss p h = elim (cases_lt p (length ss)) [
  | inl lt ↦ lt
  | inr le ↦ absurd (let gone : held_at (map held ss) p ≡ None = held-at ss p ∙ ap held (get_or_past ss p no_slot le) in cc)
]

mark-used : (s : Slot) (x : Node) → held s ≡ Some x → mark_of (marked s) ≡ true
mark-used (Used y mark) x e = refl
mark-used (Vacant before) x e = cc

held-marked : (s : Slot) → held (marked s) ≡ held s
held-marked (Used x mark) = refl
held-marked (Vacant before) = refl

-- the slots with one more mark
pub record IsSetAt (old new : List Slot) (p : ℕ) : Type 0 where
  pub nodes : map held new ≡ map held old
  pub marks : (q : ℕ) → IsMarked new q ↔ (IsMarked old q ⊎ (q ≡ p))

pub set_at_is : (ss new : List Slot) (p : ℕ) → IsUsed (map held ss) p → new ≡ set ss p (marked (get_or ss p no_slot)) → IsSetAt ss new p
set_at_is ss new p h e =
    let s = get_or ss p no_slot in
    let within = used-within ss p h in
    let on : mark_of (marked s) ≡ true = mark-used s (node_at (map held ss) p) (sym (held-at ss p) ∙ h) in
    let here : get_or new p no_slot ≡ marked s = ap (λ k. get_or k p no_slot) e ∙ get_or-set_same ss p (marked s) no_slot within in
    record {
      nodes = ap (map held) e ∙ map-set held ss p (marked s) ∙ ap (set (map held ss) p) (held-marked s) ∙ sym (map-set held ss p s) ∙ ap (map held) (set-get_or ss p no_slot);
      marks = λ q. (
        λ m. elim (cases_eq q p) [
          | inl same ↦ inr same
          | inr apart ↦ inl (ap mark_of (sym (ap (λ k. get_or k q no_slot) e ∙ get_or-set_other ss p q (marked s) no_slot apart)) ∙ m)
        ],
        λ m. elim (cases_eq q p) [
          | inl same ↦ ap (λ k. mark_of (get_or new k no_slot)) same ∙ ap mark_of here ∙ on
          | inr apart ↦ elim m [
            | inl was ↦ ap mark_of (ap (λ k. get_or k q no_slot) e ∙ get_or-set_other ss p q (marked s) no_slot apart) ∙ was
            | inr same ↦ absurd (apart same)
          ]
        ],
      );
    }

pub reaches-root : (nodes : Places) (p : ℕ) (q : Plan) → Reaches nodes p q p
reaches-root nodes p (leaf s n) = refl
reaches-root nodes p (fork s n l r) = inl refl

-- what a marked node reaches is marked
pub reached-marked : (ss : List Slot) (p : ℕ) (plan : Plan) → AreClosed ss → IsMarked ss p → IsLinked (map held ss) p plan → (q : ℕ) → Reaches (map held ss) p plan q → IsMarked ss q
reached-marked ss p (leaf s n) closed on linked q e = ap (λ k. mark_of (get_or ss k no_slot)) e ∙ on
reached-marked ss p (fork s n l r) closed on linked q (inl e) = ap (λ k. mark_of (get_or ss k no_slot)) e ∙ on
reached-marked ss p (fork s n l r) closed on linked q (inr (inl h)) =
    reached-marked ss (left_child (node_at (map held ss) p).below) l closed (closed p on linked.1).0 linked.2 q h
reached-marked ss p (fork s n l r) closed on linked q (inr (inr h)) =
    reached-marked ss (right_child (node_at (map held ss) p).below) r closed (closed p on linked.1).1 linked.3 q h

-- what a step of marking does
pub record AreMarked (old new : List Slot) (p : ℕ) (plan : Plan) : Type 0 where
  pub nodes : map held new ≡ map held old
  pub marks : (q : ℕ) → IsMarked new q ↔ (IsMarked old q ⊎ Reaches (map held old) p plan q)
  pub closed : AreClosed new

pub marked-before : (ss : List Slot) (p : ℕ) (plan : Plan) → AreClosed ss → IsMarked ss p → IsLinked (map held ss) p plan → AreMarked ss ss p plan
marked-before ss p plan closed on linked = record {
  nodes = refl;
  marks = λ q. (
    λ m. inl m,
    λ m. elim m [
      | inl was ↦ was
      | inr h ↦ reached-marked ss p plan closed on linked q h
    ],
  );
  closed = closed;
}

no_fork : (n : ℕ) (b : Below) → IsLeaf n b → IsFork b → ⊥
no_fork n (Readings xs) h f = f
no_fork n (Children l r) h f = h

pub marked-leaf : (ss new : List Slot) (p s n : ℕ) → AreClosed ss → IsLinked (map held ss) p (leaf s n) → new ≡ set ss p (marked (get_or ss p no_slot)) → AreMarked ss new p (leaf s n)
marked-leaf ss new p s n closed linked e =
    let at = set_at_is ss new p linked.0 e in
    record {
      nodes = at.nodes;
      marks = at.marks;
      closed = λ q on forks. elim ((at.marks q).0 on) [
        | inl was ↦
            let f : IsFork (node_at (map held ss) q).below = subst (λ ns. IsFork (node_at ns q).below) at.nodes forks in
            let both = closed q was f in
            let l : left_child (node_at (map held new) q).below ≡ left_child (node_at (map held ss) q).below = ap (λ ns. left_child (node_at ns q).below) at.nodes in
            let r : right_child (node_at (map held new) q).below ≡ right_child (node_at (map held ss) q).below = ap (λ ns. right_child (node_at ns q).below) at.nodes in
            (subst (IsMarked new) (sym l) ((at.marks _).1 (inl both.0)), subst (IsMarked new) (sym r) ((at.marks _).1 (inl both.1)))
        | inr same ↦
            let f : IsFork (node_at (map held ss) p).below = subst (λ k. IsFork (node_at (map held ss) k).below) same (subst (λ ns. IsFork (node_at ns q).below) at.nodes forks) in
            absurd (no_fork n (node_at (map held ss) p).below linked.1 f)
      ];
    }

pub marked-fork : (ss one two new : List Slot) (p s n : ℕ) (l r : Plan) → IsLinked (map held ss) p (fork s n l r)
    → AreMarked ss one (left_child (node_at (map held ss) p).below) l → AreMarked one two (right_child (node_at (map held ss) p).below) r
    → new ≡ set two p (marked (get_or two p no_slot)) → AreMarked ss new p (fork s n l r)
marked-fork ss one two new p s n l r linked a b e =
    let ns = map held ss in
    let lc = left_child (node_at ns p).below in
    let rc = right_child (node_at ns p).below in
    let same : map held two ≡ ns = b.nodes ∙ a.nodes in
    let at = set_at_is two new p (subst (λ k. IsUsed k p) (sym same) linked.0) e in
    let right_in : (q : ℕ) → IsMarked two q ↔ (IsMarked one q ⊎ Reaches ns rc r q) = subst (λ k. (q : ℕ) → IsMarked two q ↔ (IsMarked one q ⊎ Reaches k rc r q)) a.nodes b.marks in
    let left_on : IsMarked two lc = (right_in lc).1 (inl ((a.marks lc).1 (inr (reaches-root ns lc l)))) in
    let right_on : IsMarked two rc = (right_in rc).1 (inr (reaches-root ns rc r)) in
    let all : map held new ≡ ns = at.nodes ∙ same in
    record {
      nodes = all;
      marks = λ q. (
        λ m. elim ((at.marks q).0 m) [
          | inr here ↦ inr (inl here)
          | inl on ↦ elim ((right_in q).0 on) [
            | inr h ↦ inr (inr (inr h))
            | inl on' ↦ elim ((a.marks q).0 on') [
              | inl was ↦ inl was
              | inr h ↦ inr (inr (inl h))
            ]
          ]
        ],
        λ m. (at.marks q).1 (elim m [
          | inl was ↦ inl ((right_in q).1 (inl ((a.marks q).1 (inl was))))
          | inr (inl here) ↦ inr here
          | inr (inr (inl h)) ↦ inl ((right_in q).1 (inl ((a.marks q).1 (inr h))))
          | inr (inr (inr h)) ↦ inl ((right_in q).1 (inr h))
        ]),
      );
      closed = λ q on forks.
          let ln : left_child (node_at (map held new) q).below ≡ left_child (node_at (map held two) q).below = ap (λ k. left_child (node_at k q).below) at.nodes in
          let rn : right_child (node_at (map held new) q).below ≡ right_child (node_at (map held two) q).below = ap (λ k. right_child (node_at k q).below) at.nodes in
          let f : IsFork (node_at (map held two) q).below = subst (λ k. IsFork (node_at k q).below) at.nodes forks in
          elim ((at.marks q).0 on) [
            | inl was ↦
                let both = b.closed q was f in
                (subst (IsMarked new) (sym ln) ((at.marks _).1 (inl both.0)), subst (IsMarked new) (sym rn) ((at.marks _).1 (inl both.1)))
            | inr here ↦
                let lp : left_child (node_at (map held new) q).below ≡ lc = ln ∙ ap₂ (λ k j. left_child (node_at k j).below) same here in
                let rp : right_child (node_at (map held new) q).below ≡ rc = rn ∙ ap₂ (λ k j. right_child (node_at k j).below) same here in
                (subst (IsMarked new) (sym lp) ((at.marks lc).1 (inl left_on)), subst (IsMarked new) (sym rp) ((at.marks rc).1 (inl right_on)))
          ];
    }

-- ---- several trees

pub none-marked : (ss : List Slot) (q : ℕ) → NoMarks ss → IsMarked ss q → ⊥
none-marked [] q h e = cc
none-marked (s ∷ ss) zero h e = absurd (true≢false (sym e ∙ h.0))
none-marked (s ∷ ss) (suc q) h e = none-marked ss q h.1 e

pub unmarked-closed : (ss : List Slot) → NoMarks ss → AreClosed ss
unmarked-closed ss h = λ p on forks. absurd (none-marked ss p h on)

pub reached-push : (nodes : Places) (ts : List Tree) (t : Tree) (q : ℕ) → IsReached nodes (ts ++ t ∷ []) q ↔ (IsReached nodes ts q ⊎ ReachesAt nodes t.root t.n q)
reached-push nodes [] t q = (λ h. elim h [ inl a ↦ inr a | inr b ↦ absurd b ], λ h. elim h [ inl a ↦ absurd a | inr b ↦ inl b ])
reached-push nodes (u ∷ ts) t q =
    let rest = reached-push nodes ts t q in (
      λ h. elim h [
        | inl a ↦ inl (inl a)
        | inr b ↦ elim (rest.0 b) [ inl c ↦ inl (inr c) | inr d ↦ inr d ]
      ],
      λ h. elim h [
        | inl (inl a) ↦ inl a
        | inl (inr b) ↦ inr (rest.1 (inl b))
        | inr c ↦ inr (rest.1 (inr c))
      ],
    )

-- the trees before the i-th are marked
pub record TreesMarked (old new : List Slot) (ts : List Tree) : Type 0 where
  pub nodes : map held new ≡ map held old
  pub marks : (q : ℕ) → IsMarked new q ↔ IsReached (map held old) ts q
  pub closed : AreClosed new

pub trees-start : (ss : List Slot) → NoMarks ss → TreesMarked ss ss []
trees-start ss h = record { nodes = refl; marks = λ q. (λ m. absurd (none-marked ss q h m), λ m. absurd m); closed = unmarked-closed ss h }

pub trees-skip : (old ss : List Slot) (ts : List Tree) (t : Tree) → t.root ≡ None → TreesMarked old ss ts → TreesMarked old ss (ts ++ t ∷ [])
trees-skip old ss ts t none h = record {
  nodes = h.nodes;
  marks = λ q. (
    λ m. (reached-push (map held old) ts t q).1 (inl ((h.marks q).0 m)),
    λ m. elim ((reached-push (map held old) ts t q).0 m) [
      | inl a ↦ (h.marks q).1 a
      | inr b ↦ absurd (subst (λ o. ReachesAt (map held old) o t.n q) none b)
    ],
  );
  closed = h.closed;
}

pub trees-more : (old ss new : List Slot) (ts : List Tree) (t : Tree) (root : ℕ) → t.root ≡ Some root → TreesMarked old ss ts → AreMarked ss new root (plan 0 t.n) → TreesMarked old new (ts ++ t ∷ [])
trees-more old ss new ts t root is h a = record {
  nodes = a.nodes ∙ h.nodes;
  marks = λ q.
      let own : ReachesAt (map held old) t.root t.n q ≡ Reaches (map held old) root (plan 0 t.n) q = ap (λ o. ReachesAt (map held old) o t.n q) is in (
        λ m. (reached-push (map held old) ts t q).1 (elim ((a.marks q).0 m) [
          | inl was ↦ inl ((h.marks q).0 was)
          | inr r ↦ inr (subst (λ o. ReachesAt (map held old) o t.n q) (sym is) (subst (λ ns. Reaches ns root (plan 0 t.n) q) h.nodes r))
        ]),
        λ m. (a.marks q).1 (elim ((reached-push (map held old) ts t q).0 m) [
          | inl was ↦ inl ((h.marks q).1 was)
          | inr r ↦ inr (subst (λ ns. Reaches ns root (plan 0 t.n) q) (sym h.nodes) (subst (λ o. ReachesAt (map held old) o t.n q) is r))
        ]),
      );
  closed = a.closed;
}

-- ---- settling

last_vacant-used : (i : ℕ) (before : Option ℕ) (ss : List Slot) (x : Node) (m : Bool) → last_vacant i before (ss ++ Used x m ∷ []) ≡ last_vacant i before ss
last_vacant-used i before [] x m = refl
last_vacant-used i before (Used y mark ∷ ss) x m = last_vacant-used (i + 1) before ss x m
last_vacant-used i before (Vacant link ∷ ss) x m = last_vacant-used (i + 1) (Some i) ss x m

last_vacant-more : (i : ℕ) (before : Option ℕ) (ss : List Slot) (link : Option ℕ) → last_vacant i before (ss ++ Vacant link ∷ []) ≡ Some (i + length ss)
last_vacant-more i before [] link = ap Some (let e : i ≡ i + 0 = omega arith in e)
last_vacant-more i before (Used y mark ∷ ss) link = last_vacant-more (i + 1) before ss link ∙ ap Some (let e : (i + 1) + length ss ≡ i + suc (length ss) = omega arith in e)
last_vacant-more i before (Vacant l ∷ ss) link = last_vacant-more (i + 1) (Some i) ss link ∙ ap Some (let e : (i + 1) + length ss ≡ i + suc (length ss) = omega arith in e)

AreLinked-used : (i : ℕ) (before : Option ℕ) (ss : List Slot) (x : Node) (m : Bool) → AreLinked i before ss → AreLinked i before (ss ++ Used x m ∷ [])
AreLinked-used i before [] x m h = tt
AreLinked-used i before (Used y mark ∷ ss) x m h = AreLinked-used (i + 1) before ss x m h
AreLinked-used i before (Vacant link ∷ ss) x m h = (h.0, AreLinked-used (i + 1) (Some i) ss x m h.1)

AreLinked-more : (i : ℕ) (before : Option ℕ) (ss : List Slot) (link : Option ℕ) → link ≡ last_vacant i before ss → AreLinked i before ss → AreLinked i before (ss ++ Vacant link ∷ [])
AreLinked-more i before [] link e h = (e, tt)
AreLinked-more i before (Used y mark ∷ ss) link e h = AreLinked-more (i + 1) before ss link e h
AreLinked-more i before (Vacant l ∷ ss) link e h = (h.0, AreLinked-more (i + 1) (Some i) ss link e h.1)

vacancies-append : (ss ts : List Slot) → vacancies_of (ss ++ ts) ≡ vacancies_of ss + vacancies_of ts
vacancies-append [] ts = omega arith
vacancies-append (Used x m ∷ ss) ts = vacancies-append ss ts
vacancies-append (Vacant l ∷ ss) ts = omega (arith, vacancies-append ss ts)

NoMarks-more : (ss : List Slot) (s : Slot) → NoMarks ss → mark_of s ≡ false → NoMarks (ss ++ s ∷ [])
NoMarks-more [] s h e = (e, tt)
NoMarks-more (t ∷ ss) s h e = (h.0, NoMarks-more ss s h.1 e)

-- the first n slots are settled
pub record AreSettled (n : ℕ) (slots old : List Slot) (last : Option ℕ) (vacancies : ℕ) : Type 0 where
  pub long : length slots ≡ length old
  pub rest : drop n slots ≡ drop n old
  pub linked : AreLinked 0 None (take n slots)
  pub last_is : last ≡ last_vacant 0 None (take n slots)
  pub counted : vacancies ≡ vacancies_of (take n slots)
  pub unmarked : NoMarks (take n slots)
  pub nodes : map held (take n slots) ≡ map held_if_marked (take n old)
  pub few : vacancies ≤ n

pub settled-start : (old : List Slot) → AreSettled 0 old old None 0
settled-start old = record { long = refl; rest = refl; linked = tt; last_is = refl; counted = refl; unmarked = tt; nodes = refl; few = omega arith }

same_slot : (n : ℕ) (slots old : List Slot) → n < length old → drop n slots ≡ drop n old → get_or slots n no_slot ≡ get_or old n no_slot
same_slot n slots old lt e =
    let at : n ≡ n + 0 = omega arith in
    ap (λ k. get_or slots k no_slot) at ∙ sym (get_or-drop n slots 0 no_slot) ∙ ap (λ k. get_or k 0 no_slot) e ∙ get_or-drop n old 0 no_slot ∙ ap (λ k. get_or old k no_slot) (sym at)

rest-set : (n : ℕ) (slots old : List Slot) (y : Slot) → drop n slots ≡ drop n old → drop (n + 1) (set slots n y) ≡ drop (n + 1) old
rest-set n slots old y e =
    drop-set-lt (n + 1) slots n y (omega arith) ∙ sym (drop-drop 1 n slots) ∙ ap (drop 1) e ∙ drop-drop 1 n old

-- what a settled slot is
record SettledTo (s : Slot) (before : Option ℕ) : Type 0 where
  held_is : held (settled before s) ≡ held_if_marked s
  unmarked : mark_of (settled before s) ≡ false

settled-to : (s : Slot) (before : Option ℕ) → SettledTo s before
settled-to (Used x true) before = record { held_is = refl; unmarked = refl }
settled-to (Used x false) before = record { held_is = refl; unmarked = refl }
settled-to (Vacant link) before = record { held_is = refl; unmarked = refl }

record StaysUsed (s : Slot) (before : Option ℕ) : Type 0 where
  node : Node
  is : settled before s ≡ Used node false

stays_used : (s : Slot) (before : Option ℕ) → mark_of s ≡ true → StaysUsed s before
stays_used (Used x true) before e = record { node = x; is = refl }
stays_used (Used x false) before e = cc
stays_used (Vacant link) before e = cc

goes_vacant : (s : Slot) (before : Option ℕ) → mark_of s ≡ false → settled before s ≡ Vacant before
goes_vacant (Used x true) before e = cc
goes_vacant (Used x false) before e = refl
goes_vacant (Vacant link) before e = refl

more_nodes : (n : ℕ) (slots old : List Slot) (last : Option ℕ) (v : ℕ) → AreSettled n slots old last v → n < length old
    → map held (take (n + 1) (set slots n (settled last (get_or slots n no_slot)))) ≡ map held_if_marked (take (n + 1) old)
more_nodes n slots old last v h lt =
    let s = get_or slots n no_slot in
    let y = settled last s in
    let own = same_slot n slots old lt h.rest in
    ap (map held) (take_more_set slots n y (omega (arith, lt, h.long))) ∙ map-append held (take n slots) (y ∷ [])
    ∙ ap₂ (λ a b. a ++ b ∷ []) h.nodes ((settled-to s last).held_is ∙ ap held_if_marked own)
    ∙ sym (ap (map held_if_marked) (take_more old n no_slot lt) ∙ map-append held_if_marked (take n old) (get_or old n no_slot ∷ []))

pub settled-stay : (n : ℕ) (slots old : List Slot) (last : Option ℕ) (v : ℕ) → AreSettled n slots old last v → n < length old → mark_of (get_or slots n no_slot) ≡ true
    → AreSettled (n + 1) (set slots n (settled last (get_or slots n no_slot))) old last v
settled-stay n slots old last v h lt on =
    let s = get_or slots n no_slot in
    let y = settled last s in
    let stays = stays_used s last on in
    let front : take (n + 1) (set slots n y) ≡ take n slots ++ Used stays.node false ∷ [] = take_more_set slots n y (omega (arith, lt, h.long)) ∙ ap (λ k. take n slots ++ k ∷ []) stays.is in
    record {
      long = length-set slots n y ∙ h.long;
      rest = rest-set n slots old y h.rest;
      linked = rw front (AreLinked-used 0 None (take n slots) stays.node false h.linked);
      last_is = rw front (h.last_is ∙ sym (last_vacant-used 0 None (take n slots) stays.node false));
      counted = rw front (omega (arith, h.counted, vacancies-append (take n slots) (Used stays.node false ∷ [])));
      unmarked = rw front (NoMarks-more (take n slots) (Used stays.node false) h.unmarked refl);
      nodes = more_nodes n slots old last v h lt;
      few = omega (arith, h.few);
    }

pub settled-go : (n : ℕ) (slots old : List Slot) (last : Option ℕ) (v : ℕ) → AreSettled n slots old last v → n < length old → mark_of (get_or slots n no_slot) ≡ false
    → AreSettled (n + 1) (set slots n (settled last (get_or slots n no_slot))) old (Some n) (v + 1)
settled-go n slots old last v h lt off =
    let s = get_or slots n no_slot in
    let y = settled last s in
    let front : take (n + 1) (set slots n y) ≡ take n slots ++ Vacant last ∷ [] = take_more_set slots n y (omega (arith, lt, h.long)) ∙ ap (λ k. take n slots ++ k ∷ []) (goes_vacant s last off) in
    let long : length (take n slots) ≡ n = length-take-le n slots (omega (arith, lt, h.long)) in
    let end : n ≡ 0 + length (take n slots) = omega (arith, long) in
    record {
      long = length-set slots n y ∙ h.long;
      rest = rest-set n slots old y h.rest;
      linked = rw front (AreLinked-more 0 None (take n slots) last h.last_is h.linked);
      last_is = rw front (ap Some end ∙ sym (last_vacant-more 0 None (take n slots) last));
      counted = rw front (omega (arith, h.counted, vacancies-append (take n slots) (Vacant last ∷ [])));
      unmarked = rw front (NoMarks-more (take n slots) (Vacant last) h.unmarked refl);
      nodes = more_nodes n slots old last v h lt;
      few = omega (arith, h.few);
    }

pub record IsSettled (slots old : List Slot) (last : Option ℕ) (vacancies : ℕ) : Type 0 where
  pub kept : AreKept slots last vacancies
  pub nodes : map held slots ≡ map held_if_marked old

pub settled-end : (n : ℕ) (slots old : List Slot) (last : Option ℕ) (v : ℕ) → AreSettled n slots old last v → length old ≤ n → length old ≤ 2 ^ 24 → IsSettled slots old last v
settled-end n slots old last v h past few =
    let all : take n slots ≡ slots = take_all n slots (omega (arith, h.long, past)) in
    let all_old : take n old ≡ old = take_all n old past in
    record {
      kept = record {
        few = omega (arith, h.long, few);
        linked = subst (AreLinked 0 None) all h.linked;
        last_is = h.last_is ∙ ap (last_vacant 0 None) all;
        counted = h.counted ∙ ap vacancies_of all;
        unmarked = subst NoMarks all h.unmarked;
      };
      nodes = sym (ap (map held) all) ∙ h.nodes ∙ ap (map held_if_marked) all_old;
    }

-- ---- the whole sweep

if_marked : (s : Slot) (x : Node) → held_if_marked s ≡ Some x → (held s ≡ Some x) × (mark_of s ≡ true)
if_marked (Used y true) x e = (e, refl)
if_marked (Used y false) x e = cc
if_marked (Vacant before) x e = cc

is_marked_held : (s : Slot) (x : Node) → held s ≡ Some x → mark_of s ≡ true → held_if_marked s ≡ Some x
is_marked_held (Used y true) x e on = e
is_marked_held (Used y false) x e on = cc
is_marked_held (Vacant before) x e on = cc

marked_used : (s : Slot) → mark_of s ≡ true → (x : Node) × (held s ≡ Some x)
marked_used (Used y mark) on = (y, refl)
marked_used (Vacant before) on = cc

held-if-at : (ss : List Slot) (p : ℕ) → held_at (map held_if_marked ss) p ≡ held_if_marked (get_or ss p no_slot)
held-if-at ss p = get_or-map held_if_marked ss p no_slot

is-used : (ns : Places) (p : ℕ) (x : Node) → held_at ns p ≡ Some x → IsUsed ns p
is-used ns p x e = e ∙ ap Some (sym (ap (λ o. unwrap_or o no_node) e))

-- what becomes of each place
pub record IsSwept (old new : List Slot) (live : List Tree) : Type 0 where
  pub reached : (p : ℕ) → IsUsed (map held new) p ↔ IsReached (map held old) live p
  pub same : (p : ℕ) → IsUsed (map held new) p → held_at (map held new) p ≡ held_at (map held old) p
  pub fewer : used (map held new) ≤ used (map held old)

fewer-marked : (ss : List Slot) → used (map held_if_marked ss) ≤ used (map held ss)
fewer-marked [] = omega arith
fewer-marked (Used x true ∷ ss) = omega (arith, fewer-marked ss)
fewer-marked (Used x false ∷ ss) = omega (arith, fewer-marked ss)
fewer-marked (Vacant before ∷ ss) = fewer-marked ss

pub swept : (old on new : List Slot) (live : List Tree) → map held on ≡ map held old → ((q : ℕ) → IsMarked on q ↔ IsReached (map held old) live q) → map held new ≡ map held_if_marked on → IsSwept old new live
swept old on new live nodes marks e =
    let at : (p : ℕ) → held_at (map held new) p ≡ held_if_marked (get_or on p no_slot) = λ p. ap (λ ns. held_at ns p) e ∙ held-if-at on p in
    let was : (p : ℕ) → held (get_or on p no_slot) ≡ held_at (map held old) p = λ p. sym (held-at on p) ∙ ap (λ ns. held_at ns p) nodes in
    record {
      reached = λ p. (
        λ h. (marks p).0 (if_marked (get_or on p no_slot) _ (sym (at p) ∙ h)).1,
        λ r.
            let m = (marks p).1 r in
            let x = marked_used (get_or on p no_slot) m in
            is-used (map held new) p x.0 (at p ∙ is_marked_held (get_or on p no_slot) x.0 x.1 m),
      );
      same = λ p h. h ∙ sym (sym (was p) ∙ (if_marked (get_or on p no_slot) _ (sym (at p) ∙ h)).0);
      fewer = omega (arith, ap used e, ap used nodes, fewer-marked on);
    }

-- ---- what is left of the trees

-- every place that the nodes from p on have keeps its node
abbrev pub KeepsReached : Places → Places → ℕ → Plan → Type 0
KeepsReached old new p plan = (q : ℕ) → Reaches old p plan q → held_at new q ≡ held_at old q

pub linked-kept : (old new : Places) (p : ℕ) (plan : Plan) → KeepsReached old new p plan → IsLinked old p plan → IsLinked new p plan
linked-kept old new p (leaf s n) kept w =
    let same : held_at new p ≡ held_at old p = kept p refl in
    let node : node_at new p ≡ node_at old p = ap (λ o. unwrap_or o no_node) same in
    (is-used new p (node_at old p) (same ∙ w.0), subst (λ (x : Node). IsLeaf n x.below) (sym node) w.1)
linked-kept old new p (fork s n l r) kept w =
    let same : held_at new p ≡ held_at old p = kept p (inl refl) in
    let node : node_at new p ≡ node_at old p = ap (λ o. unwrap_or o no_node) same in (
      is-used new p (node_at old p) (same ∙ w.0),
      subst (λ (x : Node). IsFork x.below) (sym node) w.1,
      subst (λ (x : Node). IsLinked new (left_child x.below) l) (sym node) (linked-kept old new (left_child (node_at old p).below) l (λ q h. kept q (inr (inl h))) w.2),
      subst (λ (x : Node). IsLinked new (right_child x.below) r) (sym node) (linked-kept old new (right_child (node_at old p).below) r (λ q h. kept q (inr (inr h))) w.3),
    )

pub tree-kept : (old new : Places) (p : ℕ) (plan : Plan) → KeepsReached old new p plan → tree_at new p plan ≡ tree_at old p plan
tree-kept old new p (leaf s n) kept =
    let node : node_at new p ≡ node_at old p = ap (λ o. unwrap_or o no_node) (kept p refl) in
    rw node refl
tree-kept old new p (fork s n l r) kept =
    let node : node_at new p ≡ node_at old p = ap (λ o. unwrap_or o no_node) (kept p (inl refl)) in
    rw (node, tree-kept old new (left_child (node_at old p).below) l (λ q h. kept q (inr (inl h))), tree-kept old new (right_child (node_at old p).below) r (λ q h. kept q (inr (inr h)))) refl

-- the trees are of the nodes that are left, with the values that they had
record StaysTree (old new : Places) (t : Tree) : Type 0 where
  is_tree : IsTreeOf new t
  value : value_of new t ≡ value_of old t

stays_at : (old new : Places) (root : Option ℕ) (n : ℕ) → ((q : ℕ) → ReachesAt old root n q → held_at new q ≡ held_at old q) → IsTreeAt old root n → IsTreeAt new root n × (value_at new root n ≡ value_at old root n)
stays_at old new None n kept h = (h, refl)
stays_at old new (Some p) n kept h =
    let same = tree-kept old new p (plan 0 n) kept in
    ((linked-kept old new p (plan 0 n) kept h.0, subst (IsTreeOver n) (sym same) h.1), ap Some same)

pub record AreLeft (old new : Places) (live : List Tree) : Type 0 where
  pub trees : All (IsTreeOf new) live
  pub values : map (value_of new) live ≡ map (value_of old) live

pub trees-left : (old new : Places) (live : List Tree) → ((q : ℕ) → IsReached old live q → held_at new q ≡ held_at old q) → All (IsTreeOf old) live → AreLeft old new live
trees-left old new [] kept all = record { trees = All-nil (IsTreeOf new); values = refl }
trees-left old new (t ∷ ts) kept all =
    let own = stays_at old new t.root t.n (λ q h. kept q (inl h)) (All-head (IsTreeOf old) t ts all) in
    let rest = trees-left old new ts (λ q h. kept q (inr h)) (All-tail (IsTreeOf old) t ts all) in
    record { trees = All-cons (IsTreeOf new) t ts own.0 rest.trees; values = ap₂ ◌∷◌ own.1 rest.values }
