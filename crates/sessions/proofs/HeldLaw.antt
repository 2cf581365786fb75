-- Whatever happens at a hub, each session is one that steps alone brought about.
use Rattle.std.proofs.Common.{◌≡◌, ◌⊎◌, ℕ, zero, suc, ◌<◌, ◌^◌, Bool, true, false, cond, ltb, ℤ, List, [], ◌∷◌, length, set, get_or, Option, Some, None, Result, Ok, Err, refl, sym, ap, subst, ◌∙◌, arith, inl, inr}
use Rattle.std.proofs.lemmas.Bool.Decides.{nat_tests}
use Rattle.descent.specs.Laws.{EachCutHoldsTheValue}
use Rattle.expr_parse.specs.Parsed.{parsed}
use Rattle.expr_parse.specs.declared.error.ParseErr.{ParseErr}
use Rattle.interval.specs.Interval.{Has, IsWithin}
use Rattle.segment.specs.Measure.{AreReadings}
use Rattle.semantics.specs.Admission.{NotAdmitted, refusal_of}
use Rattle.semantics.specs.Plain.{IsPlain, plain}
use Rattle.semantics.specs.Term.{QueryTerm}
use Rattle.sessions.specs.declared.events.Event.{Event}
use Rattle.sessions.specs.declared.events.Event.TheVariants.{OpenSlot, StepSlot, ShowSlot, CloseSlot, Append, Save}
use Rattle.sessions.specs.declared.replies.Cause.{Cause}
use Rattle.sessions.specs.Alone.{Own, a_step, a_show, a_close, own_event, after_append, store_after_event}
use Rattle.sessions.specs.Events.{IsEvent}
use Rattle.sessions.specs.Hub.{Session, HubState, Moment, Outcome, slot_at, opened, is_done, expanded, stepped, opens_by, opens, steps, closes, happens, hub_after, plain_in, plain_by, unless_refused}
use Rattle.sessions.specs.Steady.{EachHolds, EachStays, IsNew, ArePossible, session_after, value_for}
use Rattle.sessions.proofs.AloneLaw.{Means, event-means, appends-slots, shows-same, store-happens}
use Rattle.sessions.proofs.SteadyLaw.{sound_running, steady, within_itself}
use Rattle.stats.specs.Expansion.{PlainIsPlain}
use Rattle.store_file.specs.Added.{names_in}
use Rattle.store_file.specs.Facts.{facts_in}
use Rattle.store_file.specs.Grown.{GrowingKeepsStores, IsGrowable, grown_length, growth_refusal}
use Rattle.store_file.specs.StoreValue.{StoreValue, IsStoreValue, has_name}
use Rattle.store_file.specs.declared.adding.SeriesErr.{SeriesErr}
use Rattle.store_file.specs.declared.adding.SeriesErr.TheVariants as series

-- ---- where a session comes from

-- it was there, or it is one more step of one that was there, or it was opened
pub data Origin (h : HubState) (k : ℕ) (t : Session) : Type 0 where
  stayed : slot_at h k ≡ Some t → Origin h k t
  went_on : (s : Session) → slot_at h k ≡ Some s → t ≡ stepped s → Origin h k t
  came : (text : List ℕ) (q : QueryTerm) (budget : ℕ) → plain_in h.store text ≡ Ok q → t ≡ opened h.store q budget → Origin h k t

-- a place that was written, or one that was not
set_some : (xs : List (Option Session)) (j : ℕ) (x : Option Session) (k : ℕ) (t : Session) → get_or (set xs j x) k None ≡ Some t
    → ((k ≡ j) × (x ≡ Some t)) ⊎ (get_or xs k None ≡ Some t)
set_some [] j x k t e = inr e
set_some (y ∷ ys) zero x zero t e = inl (refl, e)
set_some (y ∷ ys) zero x (suc k) t e = inr e
set_some (y ∷ ys) (suc j) x zero t e = inr e
set_some (y ∷ ys) (suc j) x (suc k) t e = elim (set_some ys j x k t e) [
  | inl h ↦ inl (ap suc h.0, h.1)
  | inr h ↦ inr h
]

some_same : (s t : Session) → Some s ≡ Some t → t ≡ s
some_same s t e = cc

opens_by-origin : (h : HubState) (j budget : ℕ) (text : List ℕ) (k : ℕ) (t : Session) (r : Result QueryTerm Cause) → plain_in h.store text ≡ r
    → slot_at (opens_by h j budget r).hub k ≡ Some t → Origin h k t
opens_by-origin h j budget text k t (Err c) is e = stayed e
opens_by-origin h j budget text k t (Ok q) is e = elim (set_some h.slots j (Some (opened h.store q budget)) k t e) [
  | inl new ↦ came text q budget is (some_same (opened h.store q budget) t new.1)
  | inr old ↦ stayed old
]

opens-origin : (h : HubState) (j budget : ℕ) (text : List ℕ) (k : ℕ) (t : Session) (o : Option Session) → slot_at (opens h j budget text o).hub k ≡ Some t → Origin h k t
opens-origin h j budget text k t (Some s) e = stayed e
opens-origin h j budget text k t None e = opens_by-origin h j budget text k t (plain_in h.store text) refl e

steps-origin : (h : HubState) (j k : ℕ) (t : Session) (o : Option Session) → slot_at h j ≡ o → slot_at (steps h j o).hub k ≡ Some t → Origin h k t
steps-origin h j k t None at e = stayed e
steps-origin h j k t (Some s) at e = elim (set_some h.slots j (Some (stepped s)) k t e) [
  | inl new ↦ went_on s (ap (slot_at h) new.0 ∙ at) (some_same (stepped s) t new.1)
  | inr old ↦ stayed old
]

closes-origin : (h : HubState) (j k : ℕ) (t : Session) (o : Option Session) → slot_at (closes h j o).hub k ≡ Some t → Origin h k t
closes-origin h j k t None e = stayed e
closes-origin h j k t (Some s) e = elim (set_some h.slots j None k t e) [
  | inl new ↦ absurd (no new.1)
  | inr old ↦ stayed old
]
  where
    no : None ≡ Some t → ⊥
    no e = cc

origin : (h : HubState) (full : Bool) (e : Event) (k : ℕ) (t : Session) → slot_at (happens h full e).hub k ≡ Some t → Origin h k t
origin h full (OpenSlot j budget text) k t at = opens-origin h j budget text k t (slot_at h j) at
origin h full (StepSlot j) k t at = steps-origin h j k t (slot_at h j) refl at
origin h full (ShowSlot j) k t at = stayed (ap (λ (g : HubState). slot_at g k) (sym (shows-same h j (slot_at h j))) ∙ at)
origin h full (CloseSlot j) k t at = closes-origin h j k t (slot_at h j) at
origin h full (Append name xs) k t at =
    stayed (ap (λ (slots : List (Option Session)). get_or slots k None) (sym (appends-slots h full name xs (growth_refusal h.store name xs))) ∙ at)
origin h full Save k t at = stayed at

-- ---- what is asked of stores and queries

pub record Laws : Type 0 where
  pub holds : EachCutHoldsTheValue
  pub plain : PlainIsPlain
  pub grows : GrowingKeepsStores

unless-plain : PlainIsPlain → (p q : QueryTerm) (o : Option NotAdmitted) → unless_refused (plain p) o ≡ Ok q → IsPlain q
unless-plain law p q None e = let same : plain p ≡ q = cc in subst IsPlain same (law p)
unless-plain law p q (Some r) e = cc

by-plain : PlainIsPlain → (m : StoreValue) (q : QueryTerm) (r : Result QueryTerm ParseErr) → plain_by m r ≡ Ok q → IsPlain q
by-plain law m q (Err x) e = cc
by-plain law m q (Ok p) e = unless-plain law p q (refusal_of (facts_in m) (plain p)) e

query-plain : PlainIsPlain → (m : StoreValue) (text : List ℕ) (q : QueryTerm) → plain_in m text ≡ Ok q → IsPlain q
unfolding plain_in
query-plain law m text q e = by-plain law m q (parsed text) e

growable : (m : StoreValue) (name : List ℕ) (xs : List ℤ) → AreReadings xs → growth_refusal m name xs ≡ None → IsGrowable m name xs
growable m name xs near e = by (has_name (names_in m) name) refl (ltb (2 ^ 20) (grown_length m name xs)) refl e
  where
    by : (there : Bool) → has_name (names_in m) name ≡ there → (long : Bool) → ltb (2 ^ 20) (grown_length m name xs) ≡ long
        → cond there (cond long (Some series.TooLong) None) (Some series.Unknown) ≡ None → IsGrowable m name xs
    by true at true long h = cc
    by true at false short h = record { there = at; readings = near; short = grind (arith, nat_tests) }
    by false at long is h = cc

append-store : GrowingKeepsStores → (m : StoreValue) (full : Bool) (name : List ℕ) (xs : List ℤ) (o : Option SeriesErr) → growth_refusal m name xs ≡ o
    → IsStoreValue m → AreReadings xs → IsStoreValue (after_append m full name xs o)
append-store law m full name xs (Some e) is store near = store
append-store law m true name xs None is store near = store
append-store law m false name xs None is store near = law m name xs store (growable m name xs near is)

event-store : GrowingKeepsStores → (m : StoreValue) (full : Bool) (e : Event) → IsStoreValue m → IsEvent e → IsStoreValue (store_after_event m full e)
event-store law m full (OpenSlot k budget text) store is = store
event-store law m full (StepSlot k) store is = store
event-store law m full (ShowSlot k) store is = store
event-store law m full (CloseSlot k) store is = store
event-store law m full (Append name xs) store is = append-store law m full name xs (growth_refusal m name xs) refl store is
event-store law m full Save store is = store

-- ---- each session is on the way of its descent

pub record IsSession (s : Session) : Type 0 where
  pub store : IsStoreValue s.store
  pub plain : IsPlain s.query
  pub steps : ℕ
  pub at : s ≡ session_after s.store s.query s.budget steps

pub record IsHub (h : HubState) : Type 0 where
  pub store : IsStoreValue h.store
  pub sessions : (k : ℕ) (s : Session) → slot_at h k ≡ Some s → IsSession s

stepped-store : (s : Session) (b : Bool) → (cond b s (expanded s)).store ≡ s.store
stepped-store s true = refl
stepped-store s false = refl

stepped-query : (s : Session) (b : Bool) → (cond b s (expanded s)).query ≡ s.query
stepped-query s true = refl
stepped-query s false = refl

stepped-budget : (s : Session) (b : Bool) → (cond b s (expanded s)).budget ≡ s.budget
stepped-budget s true = refl
stepped-budget s false = refl

step_session : (s : Session) → IsSession s → IsSession (stepped s)
step_session s h =
    let ms : (stepped s).store ≡ s.store = stepped-store s (is_done s) in
    let qs : (stepped s).query ≡ s.query = stepped-query s (is_done s) in
    let bs : (stepped s).budget ≡ s.budget = stepped-budget s (is_done s) in
    let back : session_after (stepped s).store (stepped s).query (stepped s).budget (suc h.steps) ≡ session_after s.store s.query s.budget (suc h.steps) =
    λ i. session_after (ms i) (qs i) (bs i) (suc h.steps) in
    record {
      store = subst IsStoreValue (sym ms) h.store;
      plain = subst IsPlain (sym qs) h.plain;
      steps = suc h.steps;
      at = ap stepped h.at ∙ sym back;
    }

event_hub : Laws → (h : HubState) (full : Bool) (e : Event) → IsHub h → IsEvent e → IsHub (happens h full e).hub
event_hub laws h full e hub is = record {
  store = subst IsStoreValue (sym (store-happens h full e)) (event-store laws.grows h.store full e hub.store is);
  sessions = λ k t at. elim (origin h full e k t at) [
    | stayed old ↦ hub.sessions k t old
    | went_on s old same ↦ subst IsSession (sym same) (step_session s (hub.sessions k s old))
    | came text q budget ok same ↦ subst IsSession (sym same) (record { store = hub.store; plain = query-plain laws.plain h.store text q ok; steps = 0; at = refl })
  ];
}

hub_on : Laws → (h : HubState) (es : List Moment) → IsHub h → ArePossible es → IsHub (hub_after h es)
hub_on laws h [] hub are = hub
hub_on laws h (e ∷ es) hub are = hub_on laws (happens h e.full e.event).hub es (event_hub laws h e.full e.event hub are.0) are.1

new_hub : (h : HubState) → IsNew h → IsHub h
new_hub h is = record { store = is.store; sessions = λ k s e. absurd (no k s (is.free k) e) }
  where
    no : (k : ℕ) (s : Session) → slot_at h k ≡ None → slot_at h k ≡ Some s → ⊥
    no k s none some = cc

pub each_holds : Laws → EachHolds
each_holds laws = λ h es k s is.
    let session = (hub_on laws h es (new_hub h is.new) is.possible).sessions k s is.there in
    subst (λ (t : Session). Has t.running (value_for s.store s.query)) (sym session.at)
    (sound_running laws.holds s.store s.query s.budget session.steps session.store session.plain)

-- ---- a session's interval stays inside of what it was

within_slots : (xs : List (Option Session)) (k : ℕ) (s : Session) → get_or xs k None ≡ Some s → k < length xs
within_slots [] k s e = cc
within_slots (x ∷ xs) zero s e = omega arith
within_slots (x ∷ xs) (suc k) s e = omega (arith, within_slots xs k s e)

own-within : (k : ℕ) (s t : Session) (o : Option Own) (out : Outcome) → Means k s o out → slot_at out.hub k ≡ Some t → IsWithin t.running s.running
own-within k s t None out means at = subst (λ (u : Session). IsWithin u.running s.running) (some_same t s (sym at ∙ means)) (within_itself s.running)
own-within k s t (Some a_step) out means at = subst (λ (u : Session). IsWithin u.running s.running) (some_same t (stepped s) (sym at ∙ means.1)) (steady s)
own-within k s t (Some a_show) out means at = subst (λ (u : Session). IsWithin u.running s.running) (some_same t s (sym at ∙ means.1)) (within_itself s.running)
own-within k s t (Some a_close) out means at = absurd (no (sym means.1 ∙ at))
  where
    no : None ≡ Some t → ⊥
    no e = cc

pub each_stays : EachStays
each_stays = λ h e k s t there at.
    own-within k s t (own_event k e.event) (happens h e.full e.event)
    (event-means h e.full k s e.event (within_slots h.slots k s there) there) at
