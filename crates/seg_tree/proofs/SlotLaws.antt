-- Laws of the places of an arena as they lie in memory.
use Rattle.std.proofs.Common.{◌≡◌, ℕ, zero, suc, ◌+◌, ◌^◌, ◌<◌, ◌≢◌, List, [], ◌∷◌, ◌++◌, length, map, get_or, set, false, Option, Some, None, refl, ap, ◌∙◌, sym, arith, length-append, length-set, get_or-set_same, get_or-set_other, inl, inr}
use Rattle.std.proofs.Math.ListN.{get_or-map}
use Rattle.std.proofs.Math.Seq.{get_or-append_seam}
use Rattle.std.proofs.lemmas.List.{get_or_append_left, get_or_past}
use Rattle.std.proofs.lemmas.Bool.{cases_lt, cases_eq}
use Rattle.seg_tree.specs.declared.nodes.Node.{Node}
use Rattle.seg_tree.specs.declared.places.Slot.{Slot}
use Rattle.seg_tree.specs.declared.places.Slot.TheVariants.{Used, Vacant}
use Rattle.seg_tree.specs.Linked.{held_at, IsPut, used}
use Rattle.seg_tree.specs.Slots.{held, last_vacant, AreLinked, vacancies_of, NoMarks, AreKept, no_slot, IsVacant, link_of}

pub held-at : (ss : List Slot) (p : ℕ) → held_at (map held ss) p ≡ held (get_or ss p no_slot)
held-at ss p = get_or-map held ss p no_slot

-- each place is used or vacant
pub used-and_vacant : (ss : List Slot) → used (map held ss) + vacancies_of ss ≡ length ss
used-and_vacant [] = refl
used-and_vacant (Used x mark ∷ ss) = omega (arith, used-and_vacant ss)
used-and_vacant (Vacant link ∷ ss) = omega (arith, used-and_vacant ss)

-- ---- the last vacant place

last_vacant-some : (i q : ℕ) (ss : List Slot) → last_vacant i (Some q) ss ≡ None → ⊥
last_vacant-some i q [] e = cc
last_vacant-some i q (Used x mark ∷ ss) e = last_vacant-some (i + 1) q ss e
last_vacant-some i q (Vacant link ∷ ss) e = last_vacant-some (i + 1) i ss e

pub none_vacant : (i : ℕ) (ss : List Slot) → last_vacant i None ss ≡ None → vacancies_of ss ≡ 0
none_vacant i [] e = refl
none_vacant i (Used x mark ∷ ss) e = none_vacant (i + 1) ss e
none_vacant i (Vacant link ∷ ss) e = absurd (last_vacant-some (i + 1) i ss e)

-- where the last vacant place stands before these, none of them is vacant
record AllUsed (before : Option ℕ) (p : ℕ) (ss : List Slot) : Type 0 where
  first : before ≡ Some p
  none : vacancies_of ss ≡ 0

all_used : (i : ℕ) (before : Option ℕ) (ss : List Slot) (p : ℕ) → last_vacant i before ss ≡ Some p → p < i → AllUsed before p ss
all_used i before [] p e lt = record { first = e; none = refl }
all_used i before (Used x mark ∷ ss) p e lt = let rest = all_used (i + 1) before ss p e (omega arith) in record { first = rest.first; none = rest.none }
all_used i before (Vacant link ∷ ss) p e lt =
    let rest = all_used (i + 1) (Some i) ss p e (omega arith) in
    let same : i ≡ p = grind (arith, rest.first) in
    absurd (omega arith)

-- what is so of slots of which none is vacant
record NoneVacant (i : ℕ) (before : Option ℕ) (ss : List Slot) : Type 0 where
  last : last_vacant i before ss ≡ before
  linked : AreLinked i before ss

no_vacancy : (i : ℕ) (before : Option ℕ) (ss : List Slot) → vacancies_of ss ≡ 0 → NoneVacant i before ss
no_vacancy i before [] e = record { last = refl; linked = tt }
no_vacancy i before (Used x mark ∷ ss) e = let rest = no_vacancy (i + 1) before ss e in record { last = rest.last; linked = rest.linked }
no_vacancy i before (Vacant link ∷ ss) e = absurd (omega arith)

-- ---- a node at the last vacant place

-- what becomes of slots from place i on when a node is put at the last vacant one, the k-th of them
pub record IsTaken (i : ℕ) (before : Option ℕ) (ss : List Slot) (k : ℕ) (x : Node) : Type 0 where
  pub within : k < length ss
  pub vacant : IsVacant (get_or ss k no_slot)
  pub linked : AreLinked i before (set ss k (Used x false))
  pub last : link_of (get_or ss k no_slot) ≡ last_vacant i before (set ss k (Used x false))
  pub counted : vacancies_of (set ss k (Used x false)) + 1 ≡ vacancies_of ss

pub taken : (k i : ℕ) (before : Option ℕ) (ss : List Slot) (p : ℕ) (x : Node) → p ≡ i + k → (before ≡ Some p → ⊥) → AreLinked i before ss → last_vacant i before ss ≡ Some p → IsTaken i before ss k x
taken k i before [] p x at apart h e = absurd (apart e)
taken zero i before (Used y mark ∷ ss) p x at apart h e = absurd (apart (all_used (i + 1) before ss p e (omega arith)).first)
taken (suc k) i before (Used y mark ∷ ss) p x at apart h e =
    let rest = taken k (i + 1) before ss p x (omega arith) apart h e in
    record { within = omega (arith, rest.within); vacant = rest.vacant; linked = rest.linked; last = rest.last; counted = rest.counted }
taken zero i before (Vacant link ∷ ss) p x at apart h e =
    let none = (all_used (i + 1) (Some i) ss p e (omega arith)).none in
    let rest = no_vacancy (i + 1) before ss none in
    record { within = omega arith; vacant = tt; linked = rest.linked; last = h.0 ∙ sym rest.last; counted = omega arith }
taken (suc k) i before (Vacant link ∷ ss) p x at apart h e =
    let rest = taken k (i + 1) (Some i) ss p x (omega arith) (λ f. let same : i ≡ p = grind (arith, f) in omega arith) h.1 e in
    record { within = omega (arith, rest.within); vacant = rest.vacant; linked = (h.0, rest.linked); last = rest.last; counted = omega (arith, rest.counted) }

NoMarks-set : (ss : List Slot) (k : ℕ) (x : Node) → NoMarks ss → NoMarks (set ss k (Used x false))
NoMarks-set [] k x h = tt
NoMarks-set (s ∷ ss) zero x h = (refl, h.1)
NoMarks-set (s ∷ ss) (suc k) x h = (h.0, NoMarks-set ss k x h.1)

held_vacant : (s : Slot) → IsVacant s → held s ≡ None
held_vacant (Used x mark) h = absurd h
held_vacant (Vacant link) h = refl

-- what a put at the last vacant place does
pub record IsPutAt (slots : List Slot) (p : ℕ) (x : Node) : Type 0 where
  pub within : p < length slots
  pub vacant : IsVacant (get_or slots p no_slot)
  pub some : 0 < vacancies_of slots
  pub kept : (v : ℕ) → v + 1 ≡ vacancies_of slots → AreKept (set slots p (Used x false)) (link_of (get_or slots p no_slot)) v
  pub put : IsPut (map held slots) (map held (set slots p (Used x false))) p x

pub put_at : (slots : List Slot) (last : Option ℕ) (v p : ℕ) (x : Node) → AreKept slots last v → last ≡ Some p → IsPutAt slots p x
put_at slots last v p x h e =
    let new : List Slot = set slots p (Used x false) in
    let take = taken p 0 None slots p x (omega arith) (λ f. cc) h.linked (sym h.last_is ∙ e) in
    let old_count = used-and_vacant slots in
    let new_count = used-and_vacant new in
    record {
      within = take.within;
      vacant = take.vacant;
      some = omega (arith, take.counted);
      kept = λ w f. record {
        few = omega (arith, h.few, length-set slots p (Used x false));
        linked = take.linked;
        last_is = take.last;
        counted = omega (arith, take.counted);
        unmarked = NoMarks-set slots p x h.unmarked;
      };
      put = record {
        vacant = held-at slots p ∙ held_vacant (get_or slots p no_slot) take.vacant;
        here = held-at new p ∙ ap held (get_or-set_same slots p (Used x false) no_slot take.within);
        others = λ q apart. held-at new q ∙ ap held (get_or-set_other slots p q (Used x false) no_slot apart) ∙ sym (held-at slots q);
        one_more = omega (arith, old_count, new_count, take.counted, length-set slots p (Used x false));
      };
    }

-- ---- a node behind all places

last_vacant-push : (i : ℕ) (before : Option ℕ) (ss : List Slot) (x : Node) → last_vacant i before (ss ++ Used x false ∷ []) ≡ last_vacant i before ss
last_vacant-push i before [] x = refl
last_vacant-push i before (Used y mark ∷ ss) x = last_vacant-push (i + 1) before ss x
last_vacant-push i before (Vacant link ∷ ss) x = last_vacant-push (i + 1) (Some i) ss x

AreLinked-push : (i : ℕ) (before : Option ℕ) (ss : List Slot) (x : Node) → AreLinked i before ss → AreLinked i before (ss ++ Used x false ∷ [])
AreLinked-push i before [] x h = tt
AreLinked-push i before (Used y mark ∷ ss) x h = AreLinked-push (i + 1) before ss x h
AreLinked-push i before (Vacant link ∷ ss) x h = (h.0, AreLinked-push (i + 1) (Some i) ss x h.1)

vacancies-push : (ss : List Slot) (x : Node) → vacancies_of (ss ++ Used x false ∷ []) ≡ vacancies_of ss
vacancies-push [] x = refl
vacancies-push (Used y mark ∷ ss) x = vacancies-push ss x
vacancies-push (Vacant link ∷ ss) x = ap (λ n. 1 + n) (vacancies-push ss x)

NoMarks-push : (ss : List Slot) (x : Node) → NoMarks ss → NoMarks (ss ++ Used x false ∷ [])
NoMarks-push [] x h = (refl, tt)
NoMarks-push (s ∷ ss) x h = (h.0, NoMarks-push ss x h.1)

get_or-push_other : (ss : List Slot) (s : Slot) (q : ℕ) → q ≢ length ss → get_or (ss ++ s ∷ []) q no_slot ≡ get_or ss q no_slot
get_or-push_other ss s q apart = elim (cases_lt q (length ss)) [
  | inl lt ↦ get_or_append_left ss (s ∷ []) no_slot q lt
  | inr le ↦
      let past : length ss < q = elim (cases_eq q (length ss)) [
        | inl e ↦ absurd (apart e)
        | inr ne ↦ omega arith
      ] in
      get_or_past (ss ++ s ∷ []) q no_slot (omega (arith, length-append ss (s ∷ []))) ∙ sym (get_or_past ss q no_slot (omega arith))
]

-- what a push does where no place is vacant
pub record IsPushed (slots : List Slot) (x : Node) : Type 0 where
  pub none : vacancies_of slots ≡ 0
  pub kept : length slots < 2 ^ 24 → AreKept (slots ++ Used x false ∷ []) None 0
  pub put : IsPut (map held slots) (map held (slots ++ Used x false ∷ [])) (length slots) x

pub pushed : (slots : List Slot) (last : Option ℕ) (v : ℕ) (x : Node) → AreKept slots last v → last ≡ None → IsPushed slots x
pushed slots last v x h e =
    let new : List Slot = slots ++ Used x false ∷ [] in
    let none = none_vacant 0 slots (sym h.last_is ∙ e) in
    let long = length-append slots (Used x false ∷ []) in
    record {
      none = none;
      kept = λ room. record {
        few = omega arith;
        linked = AreLinked-push 0 None slots x h.linked;
        last_is = sym e ∙ h.last_is ∙ sym (last_vacant-push 0 None slots x);
        counted = omega (arith, vacancies-push slots x);
        unmarked = NoMarks-push slots x h.unmarked;
      };
      put = record {
        vacant = held-at slots (length slots) ∙ ap held (get_or_past slots (length slots) no_slot (omega arith));
        here = held-at new (length slots) ∙ ap held (get_or-append_seam slots (Used x false) [] no_slot);
        others = λ q apart. held-at new q ∙ ap held (get_or-push_other slots (Used x false) q apart) ∙ sym (held-at slots q);
        one_more = omega (arith, used-and_vacant slots, used-and_vacant new, vacancies-push slots x);
      };
    }
