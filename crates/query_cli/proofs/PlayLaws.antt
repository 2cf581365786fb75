-- What the events of a session come to.
use Rattle.std.proofs.Common.{◌≡◌, ◌∙◌, ◌+◌, ◌^◌, ◌<◌, ◌≤◌, ℕ, ℤ, Bool, true, false, List, [], ◌∷◌, ◌++◌, length, Option, Some, None, Result, Ok, Err, refl, sym, ap, subst, inl, inr, add-zero, add_assoc, append-nil, append_assoc, arith}
use Rattle.std.specs.Prelude.{◌⊎◌, nat_lt, if◌then◌else◌}
use Rattle.std.proofs.lemmas.Bool.Decides.{nat_tests}
use Rattle.std.specs.Io.KnownBytes.{Appends}
use Rattle.std.proofs.KnownBytes.{Appends-nil, Appends-trans}
use Rattle.semantics.specs.Admission as admission
use Rattle.semantics.specs.Faults.{Rose}
use Rattle.semantics.specs.Files.{Files}
use Rattle.semantics.specs.Plain.{plain}
use Rattle.semantics.specs.Term.{QueryTerm}
use Rattle.expr_parse.specs.Parsed.{parsed}
use Rattle.expr_parse.specs.declared.error.ParseErr.{ParseErr}
use Rattle.interval.specs.Interval.{Interval}
use Rattle.seg_tree.specs.Linked.{used}
use Rattle.store_file.specs.Added.{names_in}
use Rattle.store_file.specs.Facts.{facts_in}
use Rattle.store_file.specs.Grown.{grown_length, growth_refusal, made_in}
use Rattle.store_file.specs.StoreValue.{StoreValue, has_name}
use Rattle.store_file.specs.Stored.{store_value}
use Rattle.store_file.specs.declared.adding.SeriesErr.{SeriesErr}
use Rattle.store_file.specs.declared.adding.SeriesErr.TheVariants as series
use Rattle.sessions.specs.Applied.{IsRefused, made_by as made_at_most}
use Rattle.sessions.specs.Events.{AreEvents}
use Rattle.sessions.specs.Hub.{HubState, Session, appends, cause_of, closes, happens, is_done, opens, opens_by, plain_by, plain_in, shows, slot_at, stepped, steps, unless_refused}
use Rattle.sessions.specs.Kept.{HubView, StandsFor, is_full}
use Rattle.sessions.specs.Replies.{reply_line}
use Rattle.sessions.specs.declared.events.Event.{Event}
use Rattle.sessions.specs.declared.events.Event.TheVariants.{OpenSlot, StepSlot, ShowSlot, CloseSlot, Append, Save}
use Rattle.sessions.specs.declared.replies.Cause.{Cause}
use Rattle.sessions.specs.declared.replies.Cause.TheVariants as cause
use Rattle.sessions.specs.declared.replies.Reply.{Reply}
use Rattle.sessions.specs.declared.replies.Reply.TheVariants as reply
use Rattle.query_cli.specs.Commands.Session.{EndsAt, EndsSo, IsCutAt, IsFront, IsFull, filled, files_behind, files_with, hub_behind, hub_with, is_save, line_at, lines_behind, made_behind, made_by, made_unless, saved_if}
use Rattle.query_cli.specs.Playing.{AtEach, Breaks, IsAt, IsLast, IsPartOf, MayFail, OnlySaves}
use Rattle.query_cli.specs.Run.{Grew}
use Rattle.query_cli.specs.declared.status.Status.{Status}
use Rattle.query_cli.specs.declared.status.Status.TheVariants as status

-- ---- one event more

pub hub-more : (h : HubState) (es : List Event) (e : Event) → hub_behind h (es ++ e ∷ []) ≡ hub_with (hub_behind h es) e
hub-more h [] e = refl
hub-more h (d ∷ es) e = hub-more (hub_with h d) es e

pub made-more : (h : HubState) (es : List Event) (e : Event) → made_behind h (es ++ e ∷ []) ≡ made_behind h es + made_by (hub_behind h es).store e
made-more h [] e = omega arith
made-more h (d ∷ es) e =
    let more : made_behind (hub_with h d) (es ++ e ∷ []) ≡ made_behind (hub_with h d) es + made_by (hub_behind (hub_with h d) es).store e = made-more (hub_with h d) es e in
    omega (arith, more)

pub lines-more : (h : HubState) (es : List Event) (e : Event) → lines_behind h (es ++ e ∷ []) ≡ lines_behind h es ++ line_at (hub_behind h es) e
lines-more h [] e = append-nil (line_at h e)
lines-more h (d ∷ es) e = ap (λ text. line_at h d ++ text) (lines-more (hub_with h d) es e) ∙ sym (append_assoc (line_at h d) (lines_behind (hub_with h d) es) (line_at (hub_behind (hub_with h d) es) e))

pub files-more : (name : List ℕ) (files : Option Files) (h : HubState) (es : List Event) (e : Event)
    → files_behind name files h (es ++ e ∷ []) ≡ files_with name (files_behind name files h es) (hub_behind h es) e
files-more name files h [] e = refl
files-more name files h (d ∷ es) e = files-more name (files_with name files h d) (hub_with h d) es e

pub save-is : (e : Event) → is_save e ≡ true → e ≡ Save
save-is (OpenSlot k budget text) h = cc
save-is (StepSlot k) h = cc
save-is (ShowSlot k) h = cc
save-is (CloseSlot k) h = cc
save-is (Append name xs) h = cc
save-is Save h = refl

-- ---- which events find the arena full

-- an append that is not refused else
pub record IsFilledBy (h : HubState) (full : Bool) (e : Event) : Type 0 where
  pub name : List ℕ
  pub readings : List ℤ
  pub event : e ≡ Append name readings
  pub accepted : growth_refusal h.store name readings ≡ None
  pub is_full : full ≡ true

abbrev full_reply : Reply
full_reply = reply.Refused cause.ArenaFull

not_admitted : (q : QueryTerm) (o : Option admission.NotAdmitted) → unless_refused q o ≡ Err cause.ArenaFull → ⊥
not_admitted q None e = cc
not_admitted q (Some r) e = cc

not_plain : (m : StoreValue) (r : Result QueryTerm ParseErr) → plain_by m r ≡ Err cause.ArenaFull → ⊥
not_plain m (Err p) e = cc
not_plain m (Ok q) e = not_admitted (plain q) (admission.refusal_of (facts_in m) (plain q)) e

no_full_query : (m : StoreValue) (text : List ℕ) → plain_in m text ≡ Err cause.ArenaFull → ⊥
unfolding plain_in
no_full_query m text e = not_plain m (parsed text) e

opening_by : (h : HubState) (k budget : ℕ) (r : Result QueryTerm Cause) → (r ≡ Err cause.ArenaFull → ⊥) → (opens_by h k budget r).reply ≡ full_reply → ⊥
opening_by h k budget (Err c) isnt e = let is : c ≡ cause.ArenaFull = cc in isnt (ap Err is)
opening_by h k budget (Ok q) isnt e = cc

opening : (h : HubState) (k budget : ℕ) (text : List ℕ) (o : Option Session) → (opens h k budget text o).reply ≡ full_reply → ⊥
opening h k budget text (Some s) e = cc
opening h k budget text None e = opening_by h k budget (plain_in h.store text) (no_full_query h.store text) e

shown_by : (b : Bool) (k : ℕ) (iv : Interval) → (if b then reply.Done k iv else reply.Now k iv) ≡ full_reply → ⊥
shown_by true k iv e = cc
shown_by false k iv e = cc

stepping : (h : HubState) (k : ℕ) (o : Option Session) → (steps h k o).reply ≡ full_reply → ⊥
stepping h k None e = cc
stepping h k (Some s) e = shown_by (is_done (stepped s)) k (stepped s).running e

showing : (h : HubState) (k : ℕ) (o : Option Session) → (shows h k o).reply ≡ full_reply → ⊥
showing h k None e = cc
showing h k (Some s) e = shown_by (is_done s) k s.running e

closing : (h : HubState) (k : ℕ) (o : Option Session) → (closes h k o).reply ≡ full_reply → ⊥
closing h k None e = cc
closing h k (Some s) e = cc

growth_by : (there long : Bool) (e : SeriesErr) → (if there then (if long then Some series.TooLong else None) else Some series.Unknown) ≡ Some e
    → (e ≡ series.TooLong) ⊎ (e ≡ series.Unknown)
growth_by true true e h = inl cc
growth_by true false e h = cc
growth_by false long e h = inr cc

growth_cause : (name : List ℕ) (e : SeriesErr) → (e ≡ series.TooLong) ⊎ (e ≡ series.Unknown) → cause_of name e ≡ cause.ArenaFull → ⊥
growth_cause name e (inl is) h = let long : cause.TooLong name ≡ cause.ArenaFull = subst (λ x. cause_of name x ≡ cause.ArenaFull) is h in cc
growth_cause name e (inr is) h = let unknown : cause.Unknown name ≡ cause.ArenaFull = subst (λ x. cause_of name x ≡ cause.ArenaFull) is h in cc

growing : (h : HubState) (full : Bool) (name : List ℕ) (xs : List ℤ) (o : Option SeriesErr) → growth_refusal h.store name xs ≡ o
    → (appends h full name xs o).reply ≡ full_reply → IsFilledBy h full (Append name xs)
growing h full name xs (Some e) was is =
    let same : cause_of name e ≡ cause.ArenaFull = cc in
    absurd (growth_cause name e (growth_by (has_name (names_in h.store) name) (nat_lt (2 ^ 20) (grown_length h.store name xs)) e was) same)
growing h true name xs None was is = record { name = name; readings = xs; event = refl; accepted = was; is_full = refl }
growing h false name xs None was is = cc

pub filled-by : (h : HubState) (full : Bool) (e : Event) → (happens h full e).reply ≡ full_reply → IsFilledBy h full e
filled-by h full (OpenSlot k budget text) is = absurd (opening h k budget text (slot_at h k) is)
filled-by h full (StepSlot k) is = absurd (stepping h k (slot_at h k) is)
filled-by h full (ShowSlot k) is = absurd (showing h k (slot_at h k) is)
filled-by h full (CloseSlot k) is = absurd (closing h k (slot_at h k) is)
filled-by h full (Append name xs) is = growing h full name xs (growth_refusal h.store name xs) refl is
filled-by h full Save is = cc

roomy_growth : (h : HubState) (full : Bool) (name : List ℕ) (xs : List ℤ) (o : Option SeriesErr) → ((appends h full name xs o).reply ≡ full_reply → ⊥)
    → appends h full name xs o ≡ appends h false name xs o
roomy_growth h full name xs (Some e) isnt = refl
roomy_growth h true name xs None isnt = absurd (isnt refl)
roomy_growth h false name xs None isnt = refl

-- an event that does not find the arena full does what it does in a roomy one
pub roomy-is : (h : HubState) (full : Bool) (e : Event) → ((happens h full e).reply ≡ full_reply → ⊥) → happens h full e ≡ happens h false e
roomy-is h full (OpenSlot k budget text) isnt = refl
roomy-is h full (StepSlot k) isnt = refl
roomy-is h full (ShowSlot k) isnt = refl
roomy-is h full (CloseSlot k) isnt = refl
roomy-is h full (Append name xs) isnt = roomy_growth h full name xs (growth_refusal h.store name xs) isnt
roomy-is h full Save isnt = refl

-- ---- counts of nodes

-- the limit is passed where an append finds the arena full
pub full-is : (v : HubView) (h : HubState) (made : ℕ) (name : List ℕ) (xs : List ℤ) → IsAt v h made → growth_refusal h.store name xs ≡ None
    → is_full v.store (Append name xs) ≡ true → IsFull h made name xs
full-is v h made name xs at accepted full =
    let more : nat_lt v.store.arena.limit (used v.store.arena.nodes + made_in (store_value v.store) name xs) ≡ true = full in
    let passed : v.store.arena.limit < used v.store.arena.nodes + made_in (store_value v.store) name xs = grind (arith, nat_tests) in
    let same : made_in (store_value v.store) name xs ≡ made_in h.store name xs = ap (λ m. made_in m name xs) at.stands.store in
    record { accepted = accepted; full = omega (arith, passed, same, at.limit, at.count) }

count_append : (v w : HubView) (h : HubState) (name : List ℕ) (xs : List ℤ) (r : Reply) (o : Option SeriesErr) → store_value v.store ≡ h.store
    → used w.store.arena.nodes ≤ used v.store.arena.nodes + made_in (store_value v.store) name xs
    → (IsRefused r → w ≡ v) → r ≡ (appends h false name xs o).reply
    → used w.store.arena.nodes ≤ used v.store.arena.nodes + made_unless o (made_in h.store name xs)
count_append v w h name xs r None same few refused is = subst (λ m. used w.store.arena.nodes ≤ used v.store.arena.nodes + made_in m name xs) same few
count_append v w h name xs r (Some e) same few refused is =
    let kept : w ≡ v = refused (subst IsRefused (sym is) tt) in
    let count : used w.store.arena.nodes ≡ used v.store.arena.nodes = ap (λ (x : HubView). used x.store.arena.nodes) kept in
    omega (arith, count)

pub count-is : (v w : HubView) (h : HubState) (e : Event) (r : Reply) → store_value v.store ≡ h.store
    → used w.store.arena.nodes ≤ used v.store.arena.nodes + made_at_most v.store e
    → (IsRefused r → w ≡ v) → r ≡ (happens h false e).reply
    → used w.store.arena.nodes ≤ used v.store.arena.nodes + made_by h.store e
count-is v w h (OpenSlot k budget text) r same few refused is = few
count-is v w h (StepSlot k) r same few refused is = few
count-is v w h (ShowSlot k) r same few refused is = few
count-is v w h (CloseSlot k) r same few refused is = few
count-is v w h (Append name xs) r same few refused is = count_append v w h name xs r (growth_refusal h.store name xs) same few refused is
count-is v w h Save r same few refused is = few

-- ---- one event

-- what is known of a hub's reply, and of the hub behind it
pub record Applies (v w : HubView) (e : Event) (r : Reply) : Type 0 where
  pub reply : (h : HubState) → StandsFor v h → r ≡ (happens h (is_full v.store e) e).reply
  pub hub : (h : HubState) → StandsFor v h → StandsFor w (happens h (is_full v.store e) e).hub
  pub refused : IsRefused r → w ≡ v
  pub count : used w.store.arena.nodes ≤ used v.store.arena.nodes + made_at_most v.store e
  pub limit : w.store.arena.limit ≡ v.store.arena.limit

-- an append finds the arena full, or the event does what it does in a roomy one
growth_kind : (h : HubState) (full : Bool) (name : List ℕ) (xs : List ℤ) (o : Option SeriesErr) → growth_refusal h.store name xs ≡ o
    → IsFilledBy h full (Append name xs) ⊎ (appends h full name xs o ≡ appends h false name xs o)
growth_kind h full name xs (Some e) was = inr refl
growth_kind h true name xs None was = inl (record { name = name; readings = xs; event = refl; accepted = was; is_full = refl })
growth_kind h false name xs None was = inr refl

filled-or-roomy : (h : HubState) (full : Bool) (e : Event) → IsFilledBy h full e ⊎ (happens h full e ≡ happens h false e)
filled-or-roomy h full (OpenSlot k budget text) = inr refl
filled-or-roomy h full (StepSlot k) = inr refl
filled-or-roomy h full (ShowSlot k) = inr refl
filled-or-roomy h full (CloseSlot k) = inr refl
filled-or-roomy h full (Append name xs) = growth_kind h full name xs (growth_refusal h.store name xs) refl
filled-or-roomy h full Save = inr refl

-- the reply to an append that finds it full
filled_outcome : (h : HubState) (name : List ℕ) (xs : List ℤ) (o : Option SeriesErr) → o ≡ None → (appends h true name xs o).reply ≡ full_reply
filled_outcome h name xs None e = refl
filled_outcome h name xs (Some x) e = cc

filled_reply : (h : HubState) (full : Bool) (e : Event) → IsFilledBy h full e → (happens h full e).reply ≡ full_reply
filled_reply h full e f =
    ap (λ x. (happens h full x).reply) f.event ∙ ap (λ b. (happens h b (Append f.name f.readings)).reply) f.is_full
    ∙ filled_outcome h f.name f.readings (growth_refusal h.store f.name f.readings) f.accepted

filled_ends : (v : HubView) (h : HubState) (made : ℕ) (e : Event) → IsAt v h made → IsFilledBy h (is_full v.store e) e → EndsAt h made e filled
filled_ends v h made e at f =
    let full : is_full v.store (Append f.name f.readings) ≡ true = sym (ap (is_full v.store) f.event) ∙ f.is_full in
    subst (λ x. EndsAt h made x filled) (sym f.event) (full-is v h made f.name f.readings at f.accepted full)

filled_saves : (h : HubState) (full : Bool) (e : Event) → IsFilledBy h full e → is_save e ≡ false
filled_saves h full e f = ap is_save f.event

-- the store that a save finds
saved_store : (name : List ℕ) (files : Option Files) (v w : HubView) (h : HubState) (e : Event) → StandsFor v h → StandsFor w (happens h (is_full v.store e) e).hub
    → saved_if (is_save e) name files (store_value w.store) ≡ files_with name files h e
saved_store name files v w h (OpenSlot k budget text) stands moved = refl
saved_store name files v w h (StepSlot k) stands moved = refl
saved_store name files v w h (ShowSlot k) stands moved = refl
saved_store name files v w h (CloseSlot k) stands moved = refl
saved_store name files v w h (Append series xs) stands moved = refl
saved_store name files v w h Save stands moved = ap (saved_if true name files) moved.store

roomy_at : (v w : HubView) (h : HubState) (made : ℕ) (e : Event) (r : Reply) → IsAt v h made → Applies v w e r → (r ≡ full_reply → ⊥) → happens h (is_full v.store e) e ≡ happens h false e
roomy_at v w h made e r at a isnt = roomy-is h (is_full v.store e) e (λ k. isnt (a.reply h at.stands ∙ k))

-- the hub goes on
pub hub-goes : (v w : HubView) (e : Event) (r : Reply) → Applies v w e r → (r ≡ full_reply → ⊥) → AtEach v (λ h made. IsAt w (hub_with h e) (made + made_by h.store e))
hub-goes v w e r a isnt h made at =
    let same = roomy_at v w h made e r at a isnt in
    let few : used w.store.arena.nodes ≤ used v.store.arena.nodes + made_by h.store e =
    count-is v w h e r at.stands.store a.count a.refused (a.reply h at.stands ∙ ap (λ o. o.reply) same) in
    record { stands = subst (λ o. StandsFor w o.hub) same (a.hub h at.stands); limit = a.limit ∙ at.limit; count = omega (arith, few, at.count) }

-- its line is written
pub line-goes : (v w : HubView) (e : Event) (r : Reply) (before between after : Option (List ℕ)) → Applies v w e r → (r ≡ full_reply → ⊥) → between ≡ before → Appends between after (reply_line r)
    → AtEach v (λ h made. Appends before after (line_at h e))
line-goes v w e r before between after a isnt silent written h made at =
    subst (λ b. Appends b after (line_at h e)) silent
    (subst (Appends between after) (ap reply_line (a.reply h at.stands ∙ ap (λ o. o.reply) (roomy_at v w h made e r at a isnt))) written)

-- STORE is saved
pub files-go : (name : List ℕ) (files now : Option Files) (v w : HubView) (e : Event) (r : Reply) (saves : Bool) → Applies v w e r → saves ≡ is_save e
    → now ≡ saved_if saves name files (store_value w.store) → AtEach v (λ h made. now ≡ files_with name files h e)
files-go name files now v w e r saves a is saved h made at =
    saved ∙ ap (λ b. saved_if b name files (store_value w.store)) is ∙ saved_store name files v w h e at.stands (a.hub h at.stands)

-- it found the arena full
pub full-ends : (name : List ℕ) (files now : Option Files) (v w : HubView) (e : Event) (r : Reply) (saves : Bool) (before between after : Option (List ℕ)) → Applies v w e r → r ≡ full_reply
    → saves ≡ is_save e → now ≡ saved_if saves name files (store_value w.store) → between ≡ before → Appends between after (reply_line r)
    → AtEach v (λ h made. Grew before after (EndsSo name files now h made e filled))
full-ends name files now v w e r saves before between after a full is saved silent written h made at =
    let f = filled-by h (is_full v.store e) e (sym (a.reply h at.stands) ∙ full) in (
      reply_line r,
      record {
        ends = filled_ends v h made e at f;
        line = ap reply_line full;
        kept = saved ∙ ap (λ b. saved_if b name files (store_value w.store)) (is ∙ filled_saves h (is_full v.store e) e f);
      },
      subst (λ b. Appends b after (reply_line r)) silent written,
    )

-- its line was cut short
cut_at : (name : List ℕ) (files now : Option Files) (v w : HubView) (h : HubState) (made : ℕ) (e : Event) (r : Reply) (text : List ℕ) → IsAt v h made
    → r ≡ (happens h (is_full v.store e) e).reply → StandsFor w (happens h (is_full v.store e) e).hub → now ≡ saved_if (is_save e) name files (store_value w.store)
    → IsFront text (reply_line r) → IsCutAt name files now h made e text
cut_at name files now v w h made e r text at replied moved left front = by (filled-or-roomy h (is_full v.store e) e)
  where
    by : IsFilledBy h (is_full v.store e) e ⊎ (happens h (is_full v.store e) e ≡ happens h false e) → IsCutAt name files now h made e text
    by (inl f) =
        inr (inr (
          filled,
          filled_ends v h made e at f,
          subst (λ (x : Reply). IsFront text (reply_line x)) (replied ∙ filled_reply h (is_full v.store e) e f) front,
          left ∙ ap (λ b. saved_if b name files (store_value w.store)) (filled_saves h (is_full v.store e) e f),
        ))
    by (inr same) =
        inr (inl (subst (λ (x : Reply). IsFront text (reply_line x)) (replied ∙ ap (λ o. o.reply) same) front, left ∙ saved_store name files v w h e at.stands moved))

cut-last : (name : List ℕ) (files now : Option Files) (v w : HubView) (h : HubState) (made : ℕ) (e : Event) (r : Reply) (s : Status) (text : List ℕ) → IsAt v h made
    → r ≡ (happens h (is_full v.store e) e).reply → StandsFor w (happens h (is_full v.store e) e).hub → now ≡ saved_if (is_save e) name files (store_value w.store)
    → IsPartOf (reply_line r) s text → IsLast name files now h made e s text
cut-last name files now v w h made e r status.Ok text at replied moved left part = absurd part
cut-last name files now v w h made e r status.Memory text at replied moved left part = cut_at name files now v w h made e r text at replied moved left part
cut-last name files now v w h made e r status.Usage text at replied moved left part = absurd part
cut-last name files now v w h made e r status.ReadFault text at replied moved left part = absurd part
cut-last name files now v w h made e r status.ReplaceFault text at replied moved left part = absurd part
cut-last name files now v w h made e r status.OutFault text at replied moved left part = cut_at name files now v w h made e r text at replied moved left part
cut-last name files now v w h made e r status.Absent text at replied moved left part = absurd part
cut-last name files now v w h made e r status.TooBig text at replied moved left part = absurd part
cut-last name files now v w h made e r status.BadCsv text at replied moved left part = absurd part
cut-last name files now v w h made e r status.BadStore text at replied moved left part = absurd part
cut-last name files now v w h made e r status.SeriesFault text at replied moved left part = absurd part
cut-last name files now v w h made e r status.BadQuery text at replied moved left part = absurd part
cut-last name files now v w h made e r status.Domain text at replied moved left part = absurd part
cut-last name files now v w h made e r status.Range text at replied moved left part = absurd part
cut-last name files now v w h made e r status.Rejected text at replied moved left part = absurd part
cut-last name files now v w h made e r status.BadCert text at replied moved left part = absurd part
cut-last name files now v w h made e r status.BadScript text at replied moved left part = absurd part
cut-last name files now v w h made e r status.ArenaFull text at replied moved left part = absurd part

pub line-cut : (name : List ℕ) (files now : Option Files) (v w : HubView) (e : Event) (r : Reply) (saves : Bool) (s : Status) (before between after : Option (List ℕ)) → Applies v w e r
    → saves ≡ is_save e → now ≡ saved_if saves name files (store_value w.store) → between ≡ before → Grew between after (IsPartOf (reply_line r) s)
    → AtEach v (λ h made. Grew before after (IsLast name files now h made e s))
line-cut name files now v w e r saves s before between after a is saved silent (text, part, grew) h made at = (
  text,
  cut-last name files now v w h made e r s text at (a.reply h at.stands) (a.hub h at.stands) (saved ∙ ap (λ b. saved_if b name files (store_value w.store)) is) part,
  subst (λ b. Appends b after text) silent grew,
)

-- ---- one after the other

-- some events were done
pub record SoFar (name : List ℕ) (files now : Option Files) (v w : HubView) (done : List Event) (before after : Option (List ℕ)) : Type 0 where
  pub hub : AtEach v (λ h made. IsAt w (hub_behind h done) (made + made_behind h done))
  pub lines : AtEach v (λ h made. Appends before after (lines_behind h done))
  pub files_are : AtEach v (λ h made. now ≡ files_behind name files h done)

pub so-far-none : (name : List ℕ) (files : Option Files) (v : HubView) (before : Option (List ℕ)) → SoFar name files files v v [] before before
so-far-none name files v before =
    record {
      hub = λ h made at. subst (IsAt v h) (sym (add-zero made)) at;
      lines = λ h made at. Appends-nil before;
      files_are = λ h made at. refl;
    }

pub so-far-more : (name : List ℕ) (files mid now : Option Files) (v w x : HubView) (done : List Event) (e : Event) (before between after : Option (List ℕ)) → SoFar name files mid v w done before between
    → AtEach w (λ h made. IsAt x (hub_with h e) (made + made_by h.store e)) → AtEach w (λ h made. Appends between after (line_at h e)) → AtEach w (λ h made. now ≡ files_with name mid h e)
    → SoFar name files now v x (done ++ e ∷ []) before after
so-far-more name files mid now v w x done e before between after so hub line left =
    record {
      hub = λ h made at.
          let next = hub (hub_behind h done) (made + made_behind h done) (so.hub h made at) in
          let count : made + made_behind h done + made_by (hub_behind h done).store e ≡ made + made_behind h (done ++ e ∷ []) =
          add_assoc made (made_behind h done) (made_by (hub_behind h done).store e) ∙ ap (λ n. made + n) (sym (made-more h done e)) in
          subst (λ k. IsAt x k (made + made_behind h (done ++ e ∷ []))) (sym (hub-more h done e)) (subst (IsAt x (hub_with (hub_behind h done) e)) count next);
      lines = λ h made at.
          subst (Appends before after) (sym (lines-more h done e))
          (Appends-trans before between after (lines_behind h done) (line_at (hub_behind h done) e) (so.lines h made at) (line (hub_behind h done) (made + made_behind h done) (so.hub h made at)));
      files_are = λ h made at.
          left (hub_behind h done) (made + made_behind h done) (so.hub h made at)
          ∙ ap (λ f. files_with name f (hub_behind h done) e) (so.files_are h made at) ∙ sym (files-more name files h done e);
    }

pub breaks-at : (name : List ℕ) (files mid now : Option Files) (v w : HubView) (events done rest : List Event) (e : Event) (s : Status) (before between after : Option (List ℕ))
    → SoFar name files mid v w done before between → done ++ e ∷ rest ≡ events → AtEach w (λ h made. Grew between after (IsLast name mid now h made e s))
    → AtEach v (λ h made. Grew before after (Breaks name files now h made events s))
breaks-at name files mid now v w events done rest e s before between after so all last h made at =
    let k = last (hub_behind h done) (made + made_behind h done) (so.hub h made at) in (
      lines_behind h done ++ k.0,
      record {
        done = done;
        next = e;
        rest = rest;
        all = all;
        line = k.0;
        lines = refl;
        last = subst (λ f. IsLast name f now (hub_behind h done) (made + made_behind h done) e s k.0) (so.files_are h made at) k.1;
      },
      Appends-trans before between after (lines_behind h done) k.0 (so.lines h made at) k.2,
    )

-- some events were done, and these are left
pub record Playing (name : List ℕ) (files now : Option Files) (v w : HubView) (all done left : List Event) (len : ℕ) (before after : Option (List ℕ)) : Type 0 where
  pub parts : done ++ left ≡ all
  pub count : len ≡ length left
  pub possible : AreEvents left
  pub so : SoFar name files now v w done before after

pub playing-begins : (name : List ℕ) (files : Option Files) (v : HubView) (all left : List Event) (len : ℕ) (before : Option (List ℕ)) → left ≡ all → len ≡ length left → AreEvents all
    → Playing name files files v v all [] left len before before
playing-begins name files v all left len before e count possible =
    record { parts = e; count = count; possible = subst AreEvents (sym e) possible; so = so-far-none name files v before }

pub playing-goes : (name : List ℕ) (files mid now : Option Files) (v w x : HubView) (all done left rest : List Event) (e : Event) (len short : ℕ) (before between after : Option (List ℕ))
    → Playing name files mid v w all done left len before between → left ≡ e ∷ rest → short ≡ length rest
    → AtEach w (λ h made. IsAt x (hub_with h e) (made + made_by h.store e)) → AtEach w (λ h made. Appends between after (line_at h e)) → AtEach w (λ h made. now ≡ files_with name mid h e)
    → Playing name files now v x all (done ++ e ∷ []) rest short before after
playing-goes name files mid now v w x all done left rest e len short before between after p steps count hub line kept =
    record {
      parts = append_assoc done (e ∷ []) rest ∙ ap (λ l. done ++ l) (sym steps) ∙ p.parts;
      count = count;
      possible = (subst AreEvents steps p.possible).1;
      so = so-far-more name files mid now v w x done e before between after p.so hub line kept;
    }

pub playing-breaks : (name : List ℕ) (files mid now : Option Files) (v w : HubView) (all done left rest : List Event) (e : Event) (len : ℕ) (s : Status) (before between after : Option (List ℕ))
    → Playing name files mid v w all done left len before between → left ≡ e ∷ rest → AtEach w (λ h made. Grew between after (IsLast name mid now h made e s))
    → AtEach v (λ h made. Grew before after (Breaks name files now h made all s))
playing-breaks name files mid now v w all done left rest e len s before between after p steps last =
    breaks-at name files mid now v w all done rest e s before between after p.so (ap (λ l. done ++ l) (sym steps) ∙ p.parts) last

nothing_left : (left : List Event) → length left ≡ 0 → left ≡ []
nothing_left [] h = refl
nothing_left (e ∷ left) h = absurd (omega arith)

pub playing-ends : (name : List ℕ) (files now : Option Files) (v w : HubView) (all done left : List Event) (len : ℕ) (before after : Option (List ℕ)) → Playing name files now v w all done left len before after
    → len ≡ 0 → SoFar name files now v w all before after
playing-ends name files now v w all done left len before after p none =
    let empty : left ≡ [] = nothing_left left (sym p.count ∙ none) in
    let whole : done ≡ all = sym (append-nil done) ∙ ap (λ l. done ++ l) (sym empty) ∙ p.parts in
    subst (λ l. SoFar name files now v w l before after) whole p.so

-- ---- counts of faults

pub rose-later : (a b c : ℕ) → a ≤ b → Rose b c → Rose a c
rose-later a b c h k = omega arith

pub saves-then : {W A B : Type 0} (files : W → Option Files) (reads replaces : W → ℕ) (fetches : W → Option ℕ) (a b c : W) (q : Result B Status) (r : Result A Status)
    → OnlySaves files reads replaces fetches a b q → OnlySaves files reads replaces fetches b c r → OnlySaves files reads replaces fetches a c r
saves-then files reads replaces fetches a b c q r first second =
    record {
      untold = λ e. second.untold (first.untold e);
      reads_stay = second.reads_stay ∙ first.reads_stay;
      replaces_rise = let one = first.replaces_rise in let two = second.replaces_rise in omega arith;
      replace_fault = λ e. rose-later (replaces a) (replaces b) (replaces c) first.replaces_rise (second.replace_fault e);
      fetches_stay = second.fetches_stay ∙ first.fetches_stay;
    }

pub fails-then : {W A B : Type 0} (faults : W → ℕ) (a b c : W) (q : Result B Status) (r : Result A Status) → MayFail faults a b q → MayFail faults b c r → MayFail faults a c r
fails-then faults a b c q r first second =
    record {
      rise = let one = first.rise in let two = second.rise in omega arith;
      out_fault = λ e. rose-later (faults a) (faults b) (faults c) first.rise (second.out_fault e);
    }
