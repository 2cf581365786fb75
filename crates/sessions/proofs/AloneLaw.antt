-- Each session is told what it would be told alone.
use Rattle.std.proofs.Common.{◌≡◌, ℕ, ◌<◌, ◌≢◌, Bool, true, false, ℤ, List, [], ◌∷◌, ◌++◌, length, Option, Some, None, Result, Ok, Err, refl, sym, ap, ap₂, subst, ◌∙◌, arith, inl, inr}
use Rattle.std.proofs.lemmas.List.{get_or-set_other, get_or-set_same}
use Rattle.std.proofs.Math.ListN.{length-set}
use Rattle.std.proofs.lemmas.Bool.Decides.{eqb_tells}
use Rattle.semantics.specs.Term.{QueryTerm}
use Rattle.sessions.specs.declared.events.Event.{Event}
use Rattle.sessions.specs.declared.events.Event.TheVariants.{OpenSlot, StepSlot, ShowSlot, CloseSlot, Append, Save}
use Rattle.sessions.specs.declared.replies.Cause.{Cause}
use Rattle.sessions.specs.declared.replies.Reply.{Reply}
use Rattle.sessions.specs.declared.replies.Reply.TheVariants.{Opened, Closed}
use Rattle.sessions.specs.Hub.{Session, HubState, Moment, Outcome, outcome, slot_at, with_slot, opened, stepped, shown, opens_by, opens, steps, shows, closes, appends, happens, plain_in, replies, hub_after}
use Rattle.sessions.specs.Alone.{Own, a_step, a_show, a_close, own_replies, alone, own_event, before_rest, own_or_close, own_of, told, after_append, store_after_event, store_after, EachAlone, RepliesFollow}
use Rattle.store_file.specs.Grown.{growth_refusal}
use Rattle.store_file.specs.StoreValue.{StoreValue}
use Rattle.store_file.specs.declared.adding.SeriesErr.{SeriesErr}

-- what an event means for a session: nothing, or one of its own, with the reply and the slot after it
abbrev pub Means : ℕ → Session → Option Own → Outcome → Type 0
Means k s None out = slot_at out.hub k ≡ Some s
Means k s (Some a_step) out = (out.reply ≡ shown k (stepped s)) × (slot_at out.hub k ≡ Some (stepped s))
Means k s (Some a_show) out = (out.reply ≡ shown k s) × (slot_at out.hub k ≡ Some s)
Means k s (Some a_close) out = (out.reply ≡ Closed k) × (slot_at out.hub k ≡ None)

-- ---- the slot stays at events that are not its own

apart : (h : HubState) (j k : ℕ) (s : Session) → slot_at h j ≡ None → slot_at h k ≡ Some s → k ≢ j
apart h j k s none some e = let clash : None ≡ Some s = sym none ∙ ap (slot_at h) (sym e) ∙ some in cc

opens_by-keeps : (h : HubState) (j budget k : ℕ) (s : Session) (r : Result QueryTerm Cause) → slot_at h j ≡ None → slot_at h k ≡ Some s
    → slot_at (opens_by h j budget r).hub k ≡ Some s
opens_by-keeps h j budget k s (Err c) none some = some
opens_by-keeps h j budget k s (Ok q) none some =
    get_or-set_other h.slots j k (Some (opened h.store q budget)) None (apart h j k s none some) ∙ some

opens-keeps : (h : HubState) (j budget : ℕ) (text : List ℕ) (k : ℕ) (s : Session) (o : Option Session) → slot_at h j ≡ o → slot_at h k ≡ Some s
    → slot_at (opens h j budget text o).hub k ≡ Some s
opens-keeps h j budget text k s (Some t) at some = some
opens-keeps h j budget text k s None at some = opens_by-keeps h j budget k s (plain_in h.store text) at some

steps-keeps : (h : HubState) (j k : ℕ) (s : Session) (o : Option Session) → k ≢ j → slot_at h k ≡ Some s → slot_at (steps h j o).hub k ≡ Some s
steps-keeps h j k s None ne some = some
steps-keeps h j k s (Some t) ne some = get_or-set_other h.slots j k (Some (stepped t)) None ne ∙ some

pub shows-same : (h : HubState) (j : ℕ) (o : Option Session) → (shows h j o).hub ≡ h
shows-same h j None = refl
shows-same h j (Some t) = refl

closes-keeps : (h : HubState) (j k : ℕ) (s : Session) (o : Option Session) → k ≢ j → slot_at h k ≡ Some s → slot_at (closes h j o).hub k ≡ Some s
closes-keeps h j k s None ne some = some
closes-keeps h j k s (Some t) ne some = get_or-set_other h.slots j k None None ne ∙ some

pub appends-slots : (h : HubState) (full : Bool) (name : List ℕ) (xs : List ℤ) (o : Option SeriesErr) → (appends h full name xs o).hub.slots ≡ h.slots
appends-slots h full name xs (Some e) = refl
appends-slots h true name xs None = refl
appends-slots h false name xs None = refl

-- ---- its own events

step-own : (h : HubState) (k : ℕ) (s : Session) (o : Option Session) → o ≡ Some s → k < length h.slots → Means k s (Some a_step) (steps h k o)
step-own h k s o e lt =
    subst (λ (p : Option Session). Means k s (Some a_step) (steps h k p)) (sym e)
    (refl, get_or-set_same h.slots k (Some (stepped s)) None lt)

show-own : (h : HubState) (k : ℕ) (s : Session) (o : Option Session) → o ≡ Some s → slot_at h k ≡ Some s → Means k s (Some a_show) (shows h k o)
show-own h k s o e some = subst (λ (p : Option Session). Means k s (Some a_show) (shows h k p)) (sym e) (refl, some)

close-own : (h : HubState) (k : ℕ) (s : Session) (o : Option Session) → o ≡ Some s → k < length h.slots → Means k s (Some a_close) (closes h k o)
close-own h k s o e lt =
    subst (λ (p : Option Session). Means k s (Some a_close) (closes h k p)) (sym e) (refl, get_or-set_same h.slots k None None lt)

step-means : (h : HubState) (k : ℕ) (s : Session) (j : ℕ) → k < length h.slots → slot_at h k ≡ Some s
    → Means k s (own_event k (StepSlot j)) (steps h j (slot_at h j))
step-means h k s j lt some = elim (eqb_tells j k) [
  | inl same ↦ rw same.0 (subst (λ i. Means k s (Some a_step) (steps h i (slot_at h i))) (sym same.1) (step-own h k s (slot_at h k) some lt))
  | inr other ↦ rw other.0 (steps-keeps h j k s (slot_at h j) (λ e. other.1 (sym e)) some)
]

show-means : (h : HubState) (k : ℕ) (s : Session) (j : ℕ) → slot_at h k ≡ Some s → Means k s (own_event k (ShowSlot j)) (shows h j (slot_at h j))
show-means h k s j some = elim (eqb_tells j k) [
  | inl same ↦ rw same.0 (subst (λ i. Means k s (Some a_show) (shows h i (slot_at h i))) (sym same.1) (show-own h k s (slot_at h k) some some))
  | inr other ↦ rw other.0 (ap (λ (g : HubState). slot_at g k) (shows-same h j (slot_at h j)) ∙ some)
]

close-means : (h : HubState) (k : ℕ) (s : Session) (j : ℕ) → k < length h.slots → slot_at h k ≡ Some s → Means k s (own_event k (CloseSlot j)) (closes h j (slot_at h j))
close-means h k s j lt some = elim (eqb_tells j k) [
  | inl same ↦ rw same.0 (subst (λ i. Means k s (Some a_close) (closes h i (slot_at h i))) (sym same.1) (close-own h k s (slot_at h k) some lt))
  | inr other ↦ rw other.0 (closes-keeps h j k s (slot_at h j) (λ e. other.1 (sym e)) some)
]

pub event-means : (h : HubState) (full : Bool) (k : ℕ) (s : Session) (e : Event) → k < length h.slots → slot_at h k ≡ Some s
    → Means k s (own_event k e) (happens h full e)
event-means h full k s (OpenSlot j budget text) lt some = opens-keeps h j budget text k s (slot_at h j) refl some
event-means h full k s (StepSlot j) lt some = step-means h k s j lt some
event-means h full k s (ShowSlot j) lt some = show-means h k s j some
event-means h full k s (CloseSlot j) lt some = close-means h k s j lt some
event-means h full k s (Append name xs) lt some =
    ap (λ (slots : List (Option Session)). slot_at (record { store = h.store; slots = slots }) k)
    (appends-slots h full name xs (growth_refusal h.store name xs)) ∙ some
event-means h full k s Save lt some = some

-- ---- the number of slots stays

opens_by-length : (h : HubState) (j budget : ℕ) (r : Result QueryTerm Cause) → length (opens_by h j budget r).hub.slots ≡ length h.slots
opens_by-length h j budget (Err c) = refl
opens_by-length h j budget (Ok q) = length-set h.slots j (Some (opened h.store q budget))

opens-length : (h : HubState) (j budget : ℕ) (text : List ℕ) (o : Option Session) → length (opens h j budget text o).hub.slots ≡ length h.slots
opens-length h j budget text (Some t) = refl
opens-length h j budget text None = opens_by-length h j budget (plain_in h.store text)

steps-length : (h : HubState) (j : ℕ) (o : Option Session) → length (steps h j o).hub.slots ≡ length h.slots
steps-length h j None = refl
steps-length h j (Some t) = length-set h.slots j (Some (stepped t))

closes-length : (h : HubState) (j : ℕ) (o : Option Session) → length (closes h j o).hub.slots ≡ length h.slots
closes-length h j None = refl
closes-length h j (Some t) = length-set h.slots j None

pub slots-happens : (h : HubState) (full : Bool) (e : Event) → length (happens h full e).hub.slots ≡ length h.slots
slots-happens h full (OpenSlot j budget text) = opens-length h j budget text (slot_at h j)
slots-happens h full (StepSlot j) = steps-length h j (slot_at h j)
slots-happens h full (ShowSlot j) = ap (λ (g : HubState). length g.slots) (shows-same h j (slot_at h j))
slots-happens h full (CloseSlot j) = closes-length h j (slot_at h j)
slots-happens h full (Append name xs) = ap length (appends-slots h full name xs (growth_refusal h.store name xs))
slots-happens h full Save = refl

pub slots-hub_after : (h : HubState) (es : List Moment) → length (hub_after h es).slots ≡ length h.slots
slots-hub_after h [] = refl
slots-hub_after h (e ∷ es) = slots-hub_after (happens h e.full e.event).hub es ∙ slots-happens h e.full e.event

-- ---- the store is what the accepted appends make of it

opens_by-store : (h : HubState) (j budget : ℕ) (r : Result QueryTerm Cause) → (opens_by h j budget r).hub.store ≡ h.store
opens_by-store h j budget (Err c) = refl
opens_by-store h j budget (Ok q) = refl

opens-store : (h : HubState) (j budget : ℕ) (text : List ℕ) (o : Option Session) → (opens h j budget text o).hub.store ≡ h.store
opens-store h j budget text (Some t) = refl
opens-store h j budget text None = opens_by-store h j budget (plain_in h.store text)

steps-store : (h : HubState) (j : ℕ) (o : Option Session) → (steps h j o).hub.store ≡ h.store
steps-store h j None = refl
steps-store h j (Some t) = refl

closes-store : (h : HubState) (j : ℕ) (o : Option Session) → (closes h j o).hub.store ≡ h.store
closes-store h j None = refl
closes-store h j (Some t) = refl

appends-store : (h : HubState) (full : Bool) (name : List ℕ) (xs : List ℤ) (o : Option SeriesErr) → (appends h full name xs o).hub.store ≡ after_append h.store full name xs o
appends-store h full name xs (Some e) = refl
appends-store h true name xs None = refl
appends-store h false name xs None = refl

pub store-happens : (h : HubState) (full : Bool) (e : Event) → (happens h full e).hub.store ≡ store_after_event h.store full e
store-happens h full (OpenSlot j budget text) = opens-store h j budget text (slot_at h j)
store-happens h full (StepSlot j) = steps-store h j (slot_at h j)
store-happens h full (ShowSlot j) = ap (λ (g : HubState). g.store) (shows-same h j (slot_at h j))
store-happens h full (CloseSlot j) = closes-store h j (slot_at h j)
store-happens h full (Append name xs) = appends-store h full name xs (growth_refusal h.store name xs)
store-happens h full Save = refl

pub store-hub_after : (h : HubState) (es : List Moment) → (hub_after h es).store ≡ store_after h.store es
store-hub_after h [] = refl
store-hub_after h (e ∷ es) = store-hub_after (happens h e.full e.event).hub es ∙ ap (λ m. store_after m es) (store-happens h e.full e.event)

-- ---- from any moment on, a session is told what it would be told alone

joined : (k : ℕ) (s : Session) (o : Option Own) (out : Outcome) (rest : List Reply) (own : List Own) → Means k s o out
    → ((t : Session) → slot_at out.hub k ≡ Some t → rest ≡ own_replies k t own)
    → before_rest o out.reply rest ≡ own_replies k s (before_rest o (own_or_close o) own)
joined k s None out rest own at more = more s at
joined k s (Some a_step) out rest own at more = ap₂ ◌∷◌ at.0 (more (stepped s) at.1)
joined k s (Some a_show) out rest own at more = ap₂ ◌∷◌ at.0 (more s at.1)
joined k s (Some a_close) out rest own at more = ap (λ r. r ∷ []) at.0

pub told_alone : (h : HubState) (k : ℕ) (s : Session) (es : List Moment) → k < length h.slots → slot_at h k ≡ Some s
    → told k es (replies h es) ≡ own_replies k s (own_of k es)
told_alone h k s [] lt some = refl
told_alone h k s (e ∷ es) lt some =
    joined k s (own_event k e.event) (happens h e.full e.event) (told k es (replies (happens h e.full e.event).hub es)) (own_of k es)
    (event-means h e.full k s e.event lt some)
    (λ t at. told_alone (happens h e.full e.event).hub k t es (omega (arith, lt, slots-happens h e.full e.event)) at)

opened-at : (h : HubState) (k budget : ℕ) (text : List ℕ) (q : QueryTerm) (o : Option Session) → o ≡ None → plain_in h.store text ≡ Ok q
    → opens h k budget text o ≡ outcome (Opened k (opened h.store q budget).running) (with_slot h k (Some (opened h.store q budget)))
opened-at h k budget text q o none query =
    subst (λ (p : Option Session). opens h k budget text p ≡ outcome (Opened k (opened h.store q budget).running) (with_slot h k (Some (opened h.store q budget)))) (sym none)
    (ap (opens_by h k budget) query)

pub each_alone : EachAlone
each_alone = λ h before after k budget text full q is.
    let g = hub_after h before in
    let store = store-hub_after h before in
    let query : plain_in g.store text ≡ Ok q = ap (λ (m : StoreValue). plain_in m text) store ∙ is.query in
    let s = opened g.store q budget in
    let here : opens g k budget text (slot_at g k) ≡ outcome (Opened k s.running) (with_slot g k (Some s)) = opened-at g k budget text q (slot_at g k) is.free query in
    let room : k < length g.slots = omega (arith, is.slot, slots-hub_after h before) in
    let rest = told_alone (with_slot g k (Some s)) k s after (omega (arith, room, length-set g.slots k (Some s))) (get_or-set_same g.slots k (Some s) None room) in
    ap (λ (out : Outcome). out.reply ∷ told k after (replies out.hub after)) here
    ∙ ap (λ (rs : List Reply). Opened k s.running ∷ rs) rest
    ∙ ap (λ (m : StoreValue). alone m k q budget (own_of k after)) store

follow : (h : HubState) (before after : List Moment) → replies h (before ++ after) ≡ replies h before ++ replies (hub_after h before) after
follow h [] after = refl
follow h (e ∷ es) after = ap (λ rs. (happens h e.full e.event).reply ∷ rs) (follow (happens h e.full e.event).hub es after)

pub replies_follow : RepliesFollow
replies_follow = λ h before after. follow h before after
