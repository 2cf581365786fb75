-- What the events of a hub do to its state.
use Rattle.std.proofs.Common.{◌≡◌, ℕ, zero, suc, ◌+◌, ◌≤◌, ◌⊎◌, ◌↔◌, Bool, true, false, cond, List, [], ◌∷◌, ◌++◌, length, length-set, set, get_or, get_or-set_same, Option, Some, None, Result, Ok, Err, is_some, replicate, ℤ, refl, sym, ap, ap₂, ◌∙◌, subst, arith, inl, inr}
use Rattle.std.specs.Prelude.{IfOk, IsErr}
use Rattle.std.specs.List.{All, flat_map}
use Rattle.std.specs.Option.{option_map, option_or}
use Rattle.std.proofs.lemmas.List.{get_or_default, length-replicate, set-get_or}
use Rattle.seg_tree.specs.Linked.{Extends, Places, IsUsed}
use Rattle.seg_tree.specs.Trees.{IsReached, IsTreeOf}
use Rattle.semantics.specs.Term.{QueryTerm}
use Rattle.sessions.specs.declared.events.Event.TheVariants.{Append}
use Rattle.sessions.specs.declared.replies.Cause.{Cause}
use Rattle.sessions.specs.declared.replies.Reply.{Reply}
use Rattle.sessions.specs.declared.replies.Reply.TheVariants as reply
use Rattle.sessions.specs.Applied.{Does, IsRefused, StepsSlot, slot_reply}
use Rattle.sessions.specs.Events.{last_slot}
use Rattle.sessions.specs.Hub.{Session, HubState, Outcome, appends, cause_of, closes, grows, is_done, opened, opens, opens_by, outcome, plain_in, shows, slot_at, stepped, steps}
use Rattle.sessions.specs.Kept.{Kept, HubView, IsHub, IsLive, Keeps, KeepsSlot, KeepSlots, StandsFor, is_full, live_trees, new_hub, trees_kept, trees_of}
use Rattle.sessions.specs.Places.{HasFewTrees, KeepsNodes, hub_view}
use Rattle.sessions.proofs.LiveLaws.{kept-few, kept-trees}
use Rattle.sessions.proofs.Later.{reached-left, reached-parts, reached-right, slots-later}
use Rattle.store_file.specs.Grown.{append_refusal, grown_length, grown_store, growth_refusal}
use Rattle.store_file.specs.declared.adding.SeriesErr.{SeriesErr}
use Rattle.store_file.specs.declared.adding.SeriesErr.TheVariants as refusal
use Rattle.store_file.specs.Stored.{StoreParts, store_value}

-- ---- slots

pub slot_kept : (nodes : Places) (ks : List (Option Kept)) (ss : List (Option Session)) (k : ℕ) → KeepSlots nodes ks ss
    → KeepsSlot nodes (get_or ks k None) (get_or ss k None)
slot_kept nodes [] [] k h = tt
slot_kept nodes [] (s ∷ ss) k h = absurd h
slot_kept nodes (x ∷ ks) [] k h = absurd h
slot_kept nodes (x ∷ ks) (s ∷ ss) zero h = h.0
slot_kept nodes (x ∷ ks) (s ∷ ss) (suc k) h = slot_kept nodes ks ss k h.1

pub slot_set : (nodes : Places) (ks : List (Option Kept)) (ss : List (Option Session)) (k : ℕ) (x : Option Kept) (s : Option Session) → KeepSlots nodes ks ss
    → KeepsSlot nodes x s → KeepSlots nodes (set ks k x) (set ss k s)
slot_set nodes [] [] k x s h own = h
slot_set nodes [] (t ∷ ss) k x s h own = absurd h
slot_set nodes (y ∷ ks) [] k x s h own = absurd h
slot_set nodes (y ∷ ks) (t ∷ ss) zero x s h own = (own, h.1)
slot_set nodes (y ∷ ks) (t ∷ ss) (suc k) x s h own = (h.0, slot_set nodes ks ss k x s h.1 own)

-- what was read of a slot
pub read-slot : (v : HubView) (k : ℕ) (x : Option Kept) → IsHub v → k ≤ last_slot → x ≡ get_or v.slots k x → x ≡ get_or v.slots k None
read-slot v k x is within read = read ∙ get_or_default v.slots k x None (omega (arith, is.slots))

pub read-set : (v : HubView) (k : ℕ) (x y : Option Kept) → IsHub v → k ≤ last_slot → y ≡ get_or (set v.slots k x) k y → y ≡ x
read-set v k x y is within read = read ∙ get_or-set_same v.slots k x y (omega (arith, is.slots))

pub slot-stands : (v : HubView) (k : ℕ) (x : Option Kept) → IsHub v → x ≡ get_or v.slots k None → (s : Option Session) × KeepsSlot v.store.arena.nodes x s
slot-stands v k x is read =
    (slot_at is.state k, subst (λ o. KeepsSlot v.store.arena.nodes o (slot_at is.state k)) (sym read) (slot_kept v.store.arena.nodes v.slots is.state.slots k is.stands.slots))

-- a slot that is free on one side is so on the other
free-state : (nodes : Places) (s : Option Session) → KeepsSlot nodes None s → s ≡ None
free-state nodes None h = refl
free-state nodes (Some s) h = absurd h

free-kept : (nodes : Places) (k : Option Kept) → KeepsSlot nodes k None → k ≡ None
free-kept nodes None h = refl
free-kept nodes (Some k) h = absurd h

-- ---- the trees of the slots

trees-same : (ks : List (Option Kept)) (k : ℕ) (x : Option Kept) → trees_kept x ≡ trees_kept (get_or ks k None) → flat_map trees_kept (set ks k x) ≡ flat_map trees_kept ks
trees-same [] k x e = refl
trees-same (y ∷ ks) zero x e = ap (λ ts. ts ++ flat_map trees_kept ks) e
trees-same (y ∷ ks) (suc k) x e = ap (λ ts. trees_kept y ++ ts) (trees-same ks k x e)

-- with a session in a slot no more is reached than what it reaches and what the others reach
reached-set : (nodes : Places) (ks : List (Option Kept)) (k : ℕ) (x : Option Kept) (q : ℕ) → IsReached nodes (flat_map trees_kept (set ks k x)) q
    → IsReached nodes (trees_kept x) q ⊎ IsReached nodes (flat_map trees_kept ks) q
reached-set nodes [] k x q h = inr h
reached-set nodes (y ∷ ks) zero x q h = elim (reached-parts nodes (trees_kept x) (flat_map trees_kept ks) q h) [
  | inl own ↦ inl own
  | inr rest ↦ inr (reached-right nodes (trees_kept y) (flat_map trees_kept ks) q rest)
]
reached-set nodes (y ∷ ks) (suc k) x q h = elim (reached-parts nodes (trees_kept y) (flat_map trees_kept (set ks k x)) q h) [
  | inl own ↦ inr (reached-left nodes (trees_kept y) (flat_map trees_kept ks) q own)
  | inr rest ↦ elim (reached-set nodes ks k x q rest) [
    | inl of ↦ inl of
    | inr others ↦ inr (reached-right nodes (trees_kept y) (flat_map trees_kept ks) q others)
  ]
]

-- and the others reach what they reached, where the slot was free
reached-free : (nodes : Places) (ks : List (Option Kept)) (k : ℕ) (x : Option Kept) (q : ℕ) → get_or ks k None ≡ None
    → IsReached nodes (flat_map trees_kept ks) q → IsReached nodes (flat_map trees_kept (set ks k x)) q
reached-free nodes [] k x q free h = h
reached-free nodes (y ∷ ks) zero x q free h =
    reached-right nodes (trees_kept x) (flat_map trees_kept ks) q (subst (λ o. IsReached nodes (trees_kept o ++ flat_map trees_kept ks) q) free h)
reached-free nodes (y ∷ ks) (suc k) x q free h = elim (reached-parts nodes (trees_kept y) (flat_map trees_kept ks) q h) [
  | inl own ↦ reached-left nodes (trees_kept y) (flat_map trees_kept (set ks k x)) q own
  | inr rest ↦ reached-right nodes (trees_kept y) (flat_map trees_kept (set ks k x)) q (reached-free nodes ks k x q free rest)
]

-- ---- a step

abbrev pub with_kept : HubView → ℕ → Option Kept → HubView
with_kept v k x = hub_view v.store (set v.slots k x)

steps-by : (v : HubView) (h : HubState) (k : ℕ) (x : Option Kept) (o : Option Session) → StandsFor v h → slot_at h k ≡ o
    → KeepsSlot v.store.arena.nodes x (option_map stepped o) → StandsFor (with_kept v k x) (steps h k o).hub
steps-by v h k x None st at kept = record {
  store = st.store;
  slots = subst (λ ss. KeepSlots v.store.arena.nodes (set v.slots k x) ss)
      (ap (λ o. set h.slots k o) (sym at) ∙ set-get_or h.slots k None)
      (slot_set v.store.arena.nodes v.slots h.slots k x None st.slots kept);
}
steps-by v h k x (Some s) st at kept = record {
  store = st.store;
  slots = slot_set v.store.arena.nodes v.slots h.slots k x (Some (stepped s)) st.slots kept;
}

pub step-stands : (v : HubView) (h : HubState) (k : ℕ) (x : Option Kept) → StepsSlot v.store.arena.nodes (get_or v.slots k None) x → StandsFor v h
    → StandsFor (with_kept v k x) (steps h k (slot_at h k)).hub
step-stands v h k x step st =
    steps-by v h k x (slot_at h k) st refl (step.stands (slot_at h k) (slot_kept v.store.arena.nodes v.slots h.slots k st.slots))

same-live : (v w : HubView) → v.store ≡ w.store → live_trees w ≡ live_trees v → IsLive v → IsLive w
same-live v w store trees is = record {
  live = λ p.
      let nodes : v.store.arena.nodes ≡ w.store.arena.nodes = ap (λ (s : StoreParts). s.arena.nodes) store in
      subst (λ ns. IsUsed ns p ↔ IsReached ns (live_trees w) p) nodes
      (subst (λ ts. IsUsed v.store.arena.nodes p ↔ IsReached v.store.arena.nodes ts p) (sym trees) (is.live p));
}

pub step-hub : (v : HubView) (k : ℕ) (x : Option Kept) → StepsSlot v.store.arena.nodes (get_or v.slots k None) x → IsHub v → IsHub (with_kept v k x)
step-hub v k x step is = record {
  slots = length-set v.slots k x ∙ is.slots;
  state = (steps is.state k (slot_at is.state k)).hub;
  stands = step-stands v is.state k x step is.stands;
  live = same-live v (with_kept v k x) refl (ap (λ ts. trees_of v.store ++ ts) (trees-same v.slots k x step.trees)) is.live;
}

-- what is said of a slot, for each session for which it stands
abbrev pub Tells : ℕ → Option Kept → Reply → Type 0
Tells k x r = (places : Places) (s : Option Session) → KeepsSlot places x s → r ≡ slot_reply k s

step-told : (h : HubState) (k : ℕ) (o : Option Session) → slot_reply k (option_map stepped o) ≡ (steps h k o).reply
step-told h k None = refl
step-told h k (Some s) = refl

pub step-does : (v : HubView) (k : ℕ) (x : Option Kept) (r : Reply) → StepsSlot v.store.arena.nodes (get_or v.slots k None) x → Tells k x r
    → Does v (with_kept v k x) r (λ h. steps h k (slot_at h k))
step-does v k x r step told = record {
  reply = λ h st.
      told v.store.arena.nodes (option_map stepped (slot_at h k)) (step.stands (slot_at h k) (slot_kept v.store.arena.nodes v.slots h.slots k st.slots))
      ∙ step-told h k (slot_at h k);
  hub = λ h st. step-stands v h k x step st;
}

-- what is told of a session is no refusal
told-accepts : (k : ℕ) (s : Session) (b : Bool) → IsRefused (cond b (reply.Done k s.running) (reply.Now k s.running)) → ⊥
told-accepts k s true h = h
told-accepts k s false h = h

refused-by : (v : HubView) (k : ℕ) (x : Option Kept) (o : Option Session) → KeepsSlot v.store.arena.nodes (get_or v.slots k None) o
    → KeepsSlot v.store.arena.nodes x (option_map stepped o) → IsRefused (slot_reply k (option_map stepped o)) → with_kept v k x ≡ v
refused-by v k x None old new r =
    let none : x ≡ None = free-kept v.store.arena.nodes x new in
    let was : get_or v.slots k None ≡ None = free-kept v.store.arena.nodes (get_or v.slots k None) old in
    ap (hub_view v.store) (ap (set v.slots k) (none ∙ sym was) ∙ set-get_or v.slots k None)
refused-by v k x (Some s) old new r = absurd (told-accepts k (stepped s) (is_done (stepped s)) r)

pub step-refused : (v : HubView) (k : ℕ) (x : Option Kept) (r : Reply) → IsHub v → StepsSlot v.store.arena.nodes (get_or v.slots k None) x → Tells k x r
    → IsRefused r → with_kept v k x ≡ v
step-refused v k x r is step told refused =
    let old = slot_kept v.store.arena.nodes v.slots is.state.slots k is.stands.slots in
    let new = step.stands (slot_at is.state k) old in
    refused-by v k x (slot_at is.state k) old new (subst IsRefused (told v.store.arena.nodes (option_map stepped (slot_at is.state k)) new) refused)

-- ---- a show

show-told : (h : HubState) (k : ℕ) (o : Option Session) → slot_reply k o ≡ (shows h k o).reply
show-told h k None = refl
show-told h k (Some s) = refl

show-stays : (v : HubView) (h : HubState) (k : ℕ) (o : Option Session) → StandsFor v h → StandsFor v (shows h k o).hub
show-stays v h k None st = st
show-stays v h k (Some s) st = st

pub show-does : (v : HubView) (k : ℕ) (r : Reply) → Tells k (get_or v.slots k None) r → Does v v r (λ h. shows h k (slot_at h k))
show-does v k r told = record {
  reply = λ h st. told v.store.arena.nodes (slot_at h k) (slot_kept v.store.arena.nodes v.slots h.slots k st.slots) ∙ show-told h k (slot_at h k);
  hub = λ h st. show-stays v h k (slot_at h k) st;
}

-- ---- an opening

-- a session was opened over the store
pub record Opens (s : StoreParts) (q : QueryTerm) (budget : ℕ) (x : Kept) : Type 0 where
  pub keeps : Keeps s.arena.nodes x (opened (store_value s) q budget)
  pub trees : x.trees ≡ trees_of s

open-stands : (v : HubView) (h : HubState) (k : ℕ) (q : QueryTerm) (budget : ℕ) (x : Kept) → Opens v.store q budget x → StandsFor v h
    → StandsFor (with_kept v k (Some x)) (opens_by h k budget (Ok q)).hub
open-stands v h k q budget x new st = record {
  store = st.store;
  slots = slot_set v.store.arena.nodes v.slots h.slots k (Some x) (Some (opened h.store q budget)) st.slots
      (subst (λ m. Keeps v.store.arena.nodes x (opened m q budget)) st.store new.keeps);
}

pub open-does : (v : HubView) (k : ℕ) (q : QueryTerm) (budget : ℕ) (x : Kept) → Opens v.store q budget x
    → Does v (with_kept v k (Some x)) (reply.Opened k x.running) (λ h. opens_by h k budget (Ok q))
open-does v k q budget x new = record {
  reply = λ h st. ap (reply.Opened k) (new.keeps.running ∙ ap (λ m. (opened m q budget).running) st.store);
  hub = λ h st. open-stands v h k q budget x new st;
}

open-live : (v : HubView) (k : ℕ) (x : Kept) → get_or v.slots k None ≡ None → x.trees ≡ trees_of v.store → IsLive v → IsLive (with_kept v k (Some x))
open-live v k x free trees is =
    let nodes = v.store.arena.nodes in
    let slots = flat_map trees_kept v.slots in
    let after = flat_map trees_kept (set v.slots k (Some x)) in
    record {
      live = λ p. (
        λ used. elim (reached-parts nodes (trees_of v.store) slots p ((is.live p).0 used)) [
          | inl own ↦ reached-left nodes (trees_of v.store) after p own
          | inr others ↦ reached-right nodes (trees_of v.store) after p (reached-free nodes v.slots k (Some x) p free others)
        ],
        λ to. (is.live p).1 (elim (reached-parts nodes (trees_of v.store) after p to) [
          | inl own ↦ reached-left nodes (trees_of v.store) slots p own
          | inr others ↦ elim (reached-set nodes v.slots k (Some x) p others) [
            | inl new ↦ reached-left nodes (trees_of v.store) slots p (subst (λ ts. IsReached nodes ts p) trees new)
            | inr rest ↦ reached-right nodes (trees_of v.store) slots p rest
          ]
        ]),
      );
    }

pub open-hub : (v : HubView) (k : ℕ) (q : QueryTerm) (budget : ℕ) (x : Kept) → get_or v.slots k None ≡ None → Opens v.store q budget x → IsHub v
    → IsHub (with_kept v k (Some x))
open-hub v k q budget x free new is = record {
  slots = length-set v.slots k (Some x) ∙ is.slots;
  state = (opens_by is.state k budget (Ok q)).hub;
  stands = open-stands v is.state k q budget x new is.stands;
  live = open-live v k x free new.trees is.live;
}

-- ---- slots that are free and slots that are not

pub free-slot : (v : HubView) (h : HubState) (k : ℕ) → get_or v.slots k None ≡ None → StandsFor v h → slot_at h k ≡ None
free-slot v h k free st =
    free-state v.store.arena.nodes (slot_at h k)
    (subst (λ o. KeepsSlot v.store.arena.nodes o (slot_at h k)) free (slot_kept v.store.arena.nodes v.slots h.slots k st.slots))

taken-state : (nodes : Places) (x : Option Kept) (s : Option Session) → is_some x ≡ true → KeepsSlot nodes x s → (t : Session) × (s ≡ Some t)
taken-state nodes None s e h = cc
taken-state nodes (Some x) None e h = absurd h
taken-state nodes (Some x) (Some t) e h = (t, refl)

pub taken-slot : (v : HubView) (h : HubState) (k : ℕ) → is_some (get_or v.slots k None) ≡ true → StandsFor v h → (t : Session) × (slot_at h k ≡ Some t)
taken-slot v h k taken st =
    taken-state v.store.arena.nodes (get_or v.slots k None) (slot_at h k) taken (slot_kept v.store.arena.nodes v.slots h.slots k st.slots)

pub none-free : {X : Type 0} (o : Option X) → is_some o ≡ false → o ≡ None
none-free None e = refl
none-free (Some x) e = cc

-- ---- openings that are refused, and those that are not

pub busy-does : (v : HubView) (k budget : ℕ) (text : List ℕ) → is_some (get_or v.slots k None) ≡ true
    → Does v v (reply.SlotBusy k) (λ h. opens h k budget text (slot_at h k))
busy-does v k budget text taken = record {
  reply = λ h st. ap (λ o. (opens h k budget text o).reply) (sym (taken-slot v h k taken st).1);
  hub = λ h st. subst (λ o. StandsFor v (opens h k budget text o).hub) (sym (taken-slot v h k taken st).1) st;
}

pub refuse-does : (v : HubView) (k budget : ℕ) (text : List ℕ) (c : Cause) → get_or v.slots k None ≡ None → plain_in (store_value v.store) text ≡ Err c
    → Does v v (reply.Refused c) (λ h. opens h k budget text (slot_at h k))
refuse-does v k budget text c free plain = record {
  reply = λ h st.
      let own : plain_in h.store text ≡ Err c = ap (λ m. plain_in m text) (sym st.store) ∙ plain in
      ap (λ r. (opens_by h k budget r).reply) (sym own) ∙ ap (λ o. (opens h k budget text o).reply) (sym (free-slot v h k free st));
  hub = λ h st.
      let own : plain_in h.store text ≡ Err c = ap (λ m. plain_in m text) (sym st.store) ∙ plain in
      subst (λ o. StandsFor v (opens h k budget text o).hub) (sym (free-slot v h k free st))
      (subst (λ r. StandsFor v (opens_by h k budget r).hub) (sym own) st);
}

pub accept-does : (v w : HubView) (r : Reply) (k budget : ℕ) (text : List ℕ) (q : QueryTerm) → get_or v.slots k None ≡ None → plain_in (store_value v.store) text ≡ Ok q
    → Does v w r (λ h. opens_by h k budget (Ok q)) → Does v w r (λ h. opens h k budget text (slot_at h k))
accept-does v w r k budget text q free plain does = record {
  reply = λ h st.
      let own : plain_in h.store text ≡ Ok q = ap (λ m. plain_in m text) (sym st.store) ∙ plain in
      does.reply h st ∙ ap (λ p. (opens_by h k budget p).reply) (sym own) ∙ ap (λ o. (opens h k budget text o).reply) (sym (free-slot v h k free st));
  hub = λ h st.
      let own : plain_in h.store text ≡ Ok q = ap (λ m. plain_in m text) (sym st.store) ∙ plain in
      subst (λ o. StandsFor w (opens h k budget text o).hub) (sym (free-slot v h k free st))
      (subst (λ p. StandsFor w (opens_by h k budget p).hub) (sym own) (does.hub h st));
}

-- ---- sweeps

-- what a sweep leaves of a store, for the sessions in these slots
pub record Sweeps (s t : StoreParts) (ks : List (Option Kept)) : Type 0 where
  pub live : IsLive (hub_view t ks)
  pub reached : KeepsNodes s.arena.nodes t.arena.nodes (live_trees (hub_view s ks))
  pub value : store_value t ≡ store_value s

swept-slots : (s t : StoreParts) (ks : List (Option Kept)) (ss : List (Option Session)) → Sweeps s t ks → KeepSlots s.arena.nodes ks ss → KeepSlots t.arena.nodes ks ss
swept-slots s t ks ss sweeps kept =
    slots-later s.arena.nodes t.arena.nodes ks ss (λ q to. sweeps.reached q (reached-right s.arena.nodes (trees_of s) (flat_map trees_kept ks) q to)) kept

-- ---- a close

pub free-does : (v : HubView) (k : ℕ) → get_or v.slots k None ≡ None → Does v v (reply.SlotFree k) (λ h. closes h k (slot_at h k))
free-does v k free = record {
  reply = λ h st. ap (λ o. (closes h k o).reply) (sym (free-slot v h k free st));
  hub = λ h st. subst (λ o. StandsFor v (closes h k o).hub) (sym (free-slot v h k free st)) st;
}

-- the slots without that session
pub closed-slots : (v : HubView) (h : HubState) (k : ℕ) → StandsFor v h → KeepSlots v.store.arena.nodes (set v.slots k None) (set h.slots k None)
closed-slots v h k st = slot_set v.store.arena.nodes v.slots h.slots k None None st.slots tt

close-stands : (v : HubView) (h : HubState) (k : ℕ) (t : StoreParts) → is_some (get_or v.slots k None) ≡ true → Sweeps v.store t (set v.slots k None) → StandsFor v h
    → StandsFor (hub_view t (set v.slots k None)) (closes h k (slot_at h k)).hub
close-stands v h k t taken sweeps st =
    subst (λ o. StandsFor (hub_view t (set v.slots k None)) (closes h k o).hub) (sym (taken-slot v h k taken st).1)
    (record {
      store = sweeps.value ∙ st.store;
      slots = swept-slots v.store t (set v.slots k None) (set h.slots k None) sweeps (closed-slots v h k st);
    })

pub close-does : (v : HubView) (k : ℕ) (t : StoreParts) → is_some (get_or v.slots k None) ≡ true → Sweeps v.store t (set v.slots k None)
    → Does v (hub_view t (set v.slots k None)) (reply.Closed k) (λ h. closes h k (slot_at h k))
close-does v k t taken sweeps = record {
  reply = λ h st. ap (λ o. (closes h k o).reply) (sym (taken-slot v h k taken st).1);
  hub = λ h st. close-stands v h k t taken sweeps st;
}

pub close-hub : (v : HubView) (k : ℕ) (t : StoreParts) → is_some (get_or v.slots k None) ≡ true → Sweeps v.store t (set v.slots k None) → IsHub v
    → IsHub (hub_view t (set v.slots k None))
close-hub v k t taken sweeps is = record {
  slots = length-set v.slots k None ∙ is.slots;
  state = (closes is.state k (slot_at is.state k)).hub;
  stands = close-stands v is.state k t taken sweeps is.stands;
  live = sweeps.live;
}

-- what a sweep asks for
pub record CanSweep (nodes : Places) (ks : List (Option Kept)) : Type 0 where
  pub few : All HasFewTrees ks
  pub trees : All (IsTreeOf nodes) (flat_map trees_kept ks)

pub can-sweep : (nodes : Places) (ks : List (Option Kept)) (ss : List (Option Session)) → KeepSlots nodes ks ss → CanSweep nodes ks
can-sweep nodes ks ss kept = record { few = kept-few nodes ks ss kept; trees = kept-trees nodes ks ss kept }

pub can-close : (v : HubView) (k : ℕ) → IsHub v → CanSweep v.store.arena.nodes (set v.slots k None)
can-close v k is = can-sweep v.store.arena.nodes (set v.slots k None) (set is.state.slots k None) (closed-slots v is.state k is.stands)

-- ---- a new hub

pub none-kept : (nodes : Places) (n : ℕ) → KeepSlots nodes (replicate n None) (replicate n None)
none-kept nodes zero = tt
none-kept nodes (suc n) = (tt, none-kept nodes n)

pub new-stands : (s t : StoreParts) → Sweeps s t (replicate (last_slot + 1) None) → StandsFor (hub_view t (replicate (last_slot + 1) None)) (new_hub (store_value s))
new-stands s t sweeps = record { store = sweeps.value; slots = none-kept t.arena.nodes (last_slot + 1) }

pub new-hub : (s t : StoreParts) → Sweeps s t (replicate (last_slot + 1) None) → IsHub (hub_view t (replicate (last_slot + 1) None))
new-hub s t sweeps = record {
  slots = length-replicate {A = Option Kept} (last_slot + 1) None;
  state = new_hub (store_value s);
  stands = new-stands s t sweeps;
  live = sweeps.live;
}

-- ---- an append

-- readings were put behind those of a series, and the places swept
pub record Appends (s grown t : StoreParts) (ks : List (Option Kept)) (name : List ℕ) (xs : List ℤ) : Type 0 where
  pub value : store_value grown ≡ grown_store (store_value s) name xs
  pub ok : append_refusal s name xs ≡ None
  pub extends : Extends s.arena.nodes grown.arena.nodes
  pub sweeps : Sweeps grown t ks

-- the sessions over the nodes with those that were put
pub grown-slots : (v : HubView) (grown : StoreParts) (ss : List (Option Session)) → Extends v.store.arena.nodes grown.arena.nodes → IsLive v
    → KeepSlots v.store.arena.nodes v.slots ss → KeepSlots grown.arena.nodes v.slots ss
grown-slots v grown ss ext is kept =
    slots-later v.store.arena.nodes grown.arena.nodes v.slots ss
    (λ q to. ext q ((is.live q).1 (reached-right v.store.arena.nodes (trees_of v.store) (flat_map trees_kept v.slots) q to))) kept

pub can-append : (v : HubView) (grown : StoreParts) → Extends v.store.arena.nodes grown.arena.nodes → IsHub v → CanSweep grown.arena.nodes v.slots
can-append v grown ext is = can-sweep grown.arena.nodes v.slots is.state.slots (grown-slots v grown is.state.slots ext is.live is.stands.slots)

-- whether it was accepted
accepted-by : (o : Option SeriesErr) (b : Bool) → option_or o (cond b (Some refusal.ArenaFull) None) ≡ None → (o ≡ None) × (b ≡ false)
accepted-by None true e = cc
accepted-by None false e = (refl, refl)
accepted-by (Some x) b e = cc

accepted : (s : StoreParts) (name : List ℕ) (xs : List ℤ) → append_refusal s name xs ≡ None
    → (growth_refusal (store_value s) name xs ≡ None) × (is_full s (Append name xs) ≡ false)
accepted s name xs e = accepted-by (growth_refusal (store_value s) name xs) (is_full s (Append name xs)) e

-- what it comes to
append-is : (v : HubView) (h : HubState) (name : List ℕ) (xs : List ℤ) → append_refusal v.store name xs ≡ None → StandsFor v h
    → appends h (is_full v.store (Append name xs)) name xs (growth_refusal h.store name xs) ≡ grows h false name xs
append-is v h name xs ok st =
    let (none, room) = accepted v.store name xs ok in
    ap₂ (λ b o. appends h b name xs o) room (ap (λ m. growth_refusal m name xs) (sym st.store) ∙ none)

append-stands : (v : HubView) (h : HubState) (grown t : StoreParts) (name : List ℕ) (xs : List ℤ) → Appends v.store grown t v.slots name xs → IsLive v → StandsFor v h
    → StandsFor (hub_view t v.slots) (appends h (is_full v.store (Append name xs)) name xs (growth_refusal h.store name xs)).hub
append-stands v h grown t name xs a is st =
    subst (λ (o : Outcome). StandsFor (hub_view t v.slots) o.hub) (sym (append-is v h name xs a.ok st))
    (record {
      store = a.sweeps.value ∙ a.value ∙ ap (λ m. grown_store m name xs) st.store;
      slots = swept-slots grown t v.slots h.slots a.sweeps (grown-slots v grown h.slots a.extends is st.slots);
    })

pub append-does : (v : HubView) (grown t : StoreParts) (name : List ℕ) (xs : List ℤ) (added total : ℕ) → Appends v.store grown t v.slots name xs → IsLive v
    → added ≡ length xs → total ≡ grown_length (store_value v.store) name xs
    → Does v (hub_view t v.slots) (reply.Appended name added total) (λ h. appends h (is_full v.store (Append name xs)) name xs (growth_refusal h.store name xs))
append-does v grown t name xs added total a is many all = record {
  reply = λ h st.
      ap₂ (reply.Appended name) many (all ∙ ap (λ m. grown_length m name xs) st.store)
      ∙ ap (λ (o : Outcome). o.reply) (sym (append-is v h name xs a.ok st));
  hub = λ h st. append-stands v h grown t name xs a is st;
}

pub append-hub : (v : HubView) (grown t : StoreParts) (name : List ℕ) (xs : List ℤ) → Appends v.store grown t v.slots name xs → IsHub v → IsHub (hub_view t v.slots)
append-hub v grown t name xs a is = record {
  slots = is.slots;
  state = (appends is.state (is_full v.store (Append name xs)) name xs (growth_refusal is.state.store name xs)).hub;
  stands = append-stands v is.state grown t name xs a is.live is.stands;
  live = a.sweeps.live;
}

-- a refused append
refused-at : (h : HubState) (b : Bool) (name : List ℕ) (xs : List ℤ) (o : Option SeriesErr) (e : SeriesErr) → option_or o (cond b (Some refusal.ArenaFull) None) ≡ Some e
    → appends h b name xs o ≡ outcome (reply.Refused (cause_of name e)) h
refused-at h true name xs None e is = let same : refusal.ArenaFull ≡ e = cc in ap (λ x. outcome (reply.Refused (cause_of name x)) h) same
refused-at h false name xs None e is = cc
refused-at h b name xs (Some x) e is = let same : x ≡ e = cc in ap (λ x. outcome (reply.Refused (cause_of name x)) h) same

append-refused : (v : HubView) (h : HubState) (name : List ℕ) (xs : List ℤ) (e : SeriesErr) → append_refusal v.store name xs ≡ Some e → StandsFor v h
    → appends h (is_full v.store (Append name xs)) name xs (growth_refusal h.store name xs) ≡ outcome (reply.Refused (cause_of name e)) h
append-refused v h name xs e is st =
    refused-at h (is_full v.store (Append name xs)) name xs (growth_refusal h.store name xs) e
    (ap (λ m. option_or (growth_refusal m name xs) (cond (is_full v.store (Append name xs)) (Some refusal.ArenaFull) None)) (sym st.store) ∙ is)

pub append-refuses : (v : HubView) (name : List ℕ) (xs : List ℤ) (e : SeriesErr) → append_refusal v.store name xs ≡ Some e
    → Does v v (reply.Refused (cause_of name e)) (λ h. appends h (is_full v.store (Append name xs)) name xs (growth_refusal h.store name xs))
append-refuses v name xs e is = record {
  reply = λ h st. ap (λ (o : Outcome). o.reply) (sym (append-refused v h name xs e is st));
  hub = λ h st. subst (λ (o : Outcome). StandsFor v o.hub) (sym (append-refused v h name xs e is st)) st;
}

-- what an append says and does
abbrev pub AppendDoes : HubView → HubView → Reply → List ℕ → List ℤ → Type 0
AppendDoes v w r name xs = Does v w r (λ h. appends h (is_full v.store (Append name xs)) name xs (growth_refusal h.store name xs))

pub refusal-does : {X : Type 0} (v w : HubView) (name : List ℕ) (xs : List ℤ) (e : SeriesErr) (r : Result Reply X) → w ≡ v → IfOk r (λ x. x ≡ reply.Refused (cause_of name e))
    → (IsErr r ↔ (e ≡ refusal.Memory)) → (e ≡ refusal.Memory) ⊎ (append_refusal v.store name xs ≡ Some e) → IfOk r (λ x. AppendDoes v w x name xs)
refusal-does v w name xs e (Err x) same said memory why = tt
refusal-does {X = X} v w name xs e (Ok x) same said memory (inl none) =
    let wrong : IsErr {T = Reply} {E = X} (Ok x) = memory.1 none in cc
refusal-does v w name xs e (Ok x) same said memory (inr is) =
    subst (λ y. AppendDoes v w y name xs) (sym said) (subst (λ u. AppendDoes v u (reply.Refused (cause_of name e)) name xs) (sym same) (append-refuses v name xs e is))
