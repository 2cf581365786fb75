-- What a session leaves of STORE.
use Rattle.std.proofs.Common.{◌≡◌, ◌∙◌, ◌^◌, ◌≤◌, ℕ, ℤ, Bool, true, false, List, [], ◌∷◌, ◌++◌, cond, Option, Some, None, Result, Ok, Err, refl, sym, ap, subst, inl, inr, append-nil, append_assoc, arith}
use Rattle.std.specs.Prelude.{◌⊎◌, nat_lt, if◌then◌else◌}
use Rattle.std.specs.Cmp.Lexicographic.{slice_cmp}
use Rattle.std.specs.FinMap as finite
use Rattle.std.specs.Ordering.{eq_by_cmp, nat_cmp}
use Rattle.std.proofs.lemmas.Cmp.{nat_list_cmp_total}
use Rattle.std.proofs.lemmas.Bool.Decides.{nat_tests}
use Rattle.segment.specs.Measure.{AreReadings}
use Rattle.semantics.specs.Files.{Files, file_of, with_file}
use Rattle.sessions.specs.Events.{AreEvents, IsEvent}
use Rattle.sessions.specs.Hub.{HubState, Session, appends, closes, opens, opens_by, plain_in, shows, slot_at, steps}
use Rattle.sessions.specs.Kept.{new_hub}
use Rattle.sessions.specs.Script.{script_of}
use Rattle.sessions.specs.declared.events.Event.{Event}
use Rattle.sessions.specs.declared.events.Event.TheVariants.{OpenSlot, StepSlot, ShowSlot, CloseSlot, Append, Save}
use Rattle.sessions.specs.declared.replies.Cause.{Cause}
use Rattle.semantics.specs.Term.{QueryTerm}
use Rattle.store_file.specs.Added.{names_in}
use Rattle.store_file.specs.Decoded.{decode_of}
use Rattle.store_file.specs.Grown.{grown_length, growth_refusal}
use Rattle.store_file.specs.StoreValue.{StoreValue, IsStoreValue, has_name, store_image}
use Rattle.store_file.specs.declared.adding.SeriesErr.{SeriesErr}
use Rattle.store_file.specs.declared.adding.SeriesErr.TheVariants as series
use Rattle.store_file.proofs.DecodedLaws.{decode-image}
use Rattle.query_cli.specs.Commands.Session.{Finds, SavesHistory, SavesStore, Scripted, SessionCommand, SessionReplays, accepted_by, accepted_in, accepted_unless, files_behind, files_with, hub_behind, hub_with, script_refusal, scripted_by, scripted_in}
use Rattle.query_cli.specs.Reading.{File, Reading, held, missing, most_script, most_store, oversized, reading_with}
use Rattle.query_cli.specs.Refusals.{Refusal, bad_store}
use Rattle.query_cli.specs.Replay.{Accepted, AreAccepted, IsHistory, grows, replay, replay_from, step}
use Rattle.query_cli.specs.Steps.{and_then, bytes_of, refused_as, script_bytes, store_bytes, store_in}
use Rattle.query_cli.proofs.ReplayLaws.{IsHistory-more, histories-make-stores, replay-more}
use Rattle.query_cli.proofs.StepLaws.{file_at-held, no_error}

-- ---- files written anew twice

twice : (b : Bool) (x y : List ℕ) (o : Option (List ℕ)) → cond b (Some y) (cond b (Some x) o) ≡ cond b (Some y) o
twice true x y o = refl
twice false x y o = refl

written-again : (files : Files) (name x y : List ℕ) → with_file (with_file files name x) name y ≡ with_file files name y
written-again files name x y =
    finite.same_map nat_list_cmp_total (finite.slice_cmp-IsAntisymmetric finite.nat_cmp-IsAntisymmetric) _ _ (λ q.
    finite.get-insert nat_list_cmp_total (with_file files name x) name y q
    ∙ ap (cond (eq_by_cmp (slice_cmp nat_cmp) q name) (Some y)) (finite.get-insert nat_list_cmp_total files name x q)
    ∙ twice (eq_by_cmp (slice_cmp nat_cmp) q name) x y (file_of files q)
    ∙ sym (finite.get-insert nat_list_cmp_total files name y q))

-- ---- STORE is as of the last save, or as it was

record SavedAt (name : List ℕ) (files : Files) (h : HubState) (es : List Event) : Type 0 where
  pub done : List Event
  pub more : List Event
  pub before : done ++ Save ∷ more ≡ es
  pub after : files_behind name (Some files) h es ≡ Some (with_file files name (store_image (hub_behind h done).store))

abbrev IsSaved : List ℕ → Files → HubState → List Event → Type 0
IsSaved name files h es = (files_behind name (Some files) h es ≡ Some files) ⊎ SavedAt name files h es

-- an event that saves nothing, before the others
other : (name : List ℕ) (files : Files) (h : HubState) (e : Event) (es : List Event) → files_with name (Some files) h e ≡ Some files → IsSaved name files (hub_with h e) es → IsSaved name files h (e ∷ es)
other name files h e es same (inl kept) = inl (ap (λ f. files_behind name f (hub_with h e) es) same ∙ kept)
other name files h e es same (inr s) =
    inr (record { done = e ∷ s.done; more = s.more; before = ap (λ l. e ∷ l) s.before; after = ap (λ f. files_behind name f (hub_with h e) es) same ∙ s.after })

-- a save before the others
saving : (name : List ℕ) (files : Files) (h : HubState) (es : List Event) → IsSaved name (with_file files name (store_image h.store)) (hub_with h Save) es → IsSaved name files h (Save ∷ es)
saving name files h es (inl kept) = inr (record { done = []; more = es; before = refl; after = kept })
saving name files h es (inr s) =
    inr (record {
      done = Save ∷ s.done;
      more = s.more;
      before = ap (λ l. Save ∷ l) s.before;
      after = s.after ∙ ap Some (written-again files name (store_image h.store) (store_image (hub_behind (hub_with h Save) s.done).store));
    })

saved_or_not : (name : List ℕ) (files : Files) (h : HubState) (es : List Event) → IsSaved name files h es
saved_or_not name files h [] = inl refl
saved_or_not name files h (OpenSlot k budget text ∷ es) = other name files h (OpenSlot k budget text) es refl (saved_or_not name files (hub_with h (OpenSlot k budget text)) es)
saved_or_not name files h (StepSlot k ∷ es) = other name files h (StepSlot k) es refl (saved_or_not name files (hub_with h (StepSlot k)) es)
saved_or_not name files h (ShowSlot k ∷ es) = other name files h (ShowSlot k) es refl (saved_or_not name files (hub_with h (ShowSlot k)) es)
saved_or_not name files h (CloseSlot k ∷ es) = other name files h (CloseSlot k) es refl (saved_or_not name files (hub_with h (CloseSlot k)) es)
saved_or_not name files h (Append series xs ∷ es) = other name files h (Append series xs) es refl (saved_or_not name files (hub_with h (Append series xs)) es)
saved_or_not name files h (Save ∷ es) = saving name files h es (saved_or_not name (with_file files name (store_image h.store)) (hub_with h Save) es)

-- ---- the store is that of the accepted appends

replay-append : (m : StoreValue) (cs ds : List Accepted) → replay_from m (cs ++ ds) ≡ replay_from (replay_from m cs) ds
replay-append m [] ds = refl
replay-append m (a ∷ cs) ds = replay-append (step m a) cs ds

AreAccepted-append : (m : StoreValue) (cs ds : List Accepted) → AreAccepted m cs → AreAccepted (replay_from m cs) ds → AreAccepted m (cs ++ ds)
AreAccepted-append m [] ds first second = second
AreAccepted-append m (a ∷ cs) ds first second = (first.0, AreAccepted-append (step m a) cs ds first.1 second)

-- what an event does to the store
record GoesBy (m : StoreValue) (now : StoreValue) (cs : List Accepted) : Type 0 where
  pub store : now ≡ replay_from m cs
  pub accepted : AreAccepted m cs

opened_by : (h : HubState) (k budget : ℕ) (r : Result QueryTerm Cause) → (opens_by h k budget r).hub.store ≡ h.store
opened_by h k budget (Err c) = refl
opened_by h k budget (Ok q) = refl

opened_in : (h : HubState) (k budget : ℕ) (text : List ℕ) (o : Option Session) → (opens h k budget text o).hub.store ≡ h.store
opened_in h k budget text (Some s) = refl
opened_in h k budget text None = opened_by h k budget (plain_in h.store text)

stepped_in : (h : HubState) (k : ℕ) (o : Option Session) → (steps h k o).hub.store ≡ h.store
stepped_in h k None = refl
stepped_in h k (Some s) = refl

shown_in : (h : HubState) (k : ℕ) (o : Option Session) → (shows h k o).hub.store ≡ h.store
shown_in h k None = refl
shown_in h k (Some s) = refl

closed_in : (h : HubState) (k : ℕ) (o : Option Session) → (closes h k o).hub.store ≡ h.store
closed_in h k None = refl
closed_in h k (Some s) = refl

short_by : (long : Bool) (most n : ℕ) → nat_lt most n ≡ long → (if long then Some series.TooLong else None) ≡ None → n ≤ most
short_by true most n is h = cc
short_by false most n is h = grind (arith, nat_tests)

growable_by : (there : Bool) (most n : ℕ) → (if there then (if nat_lt most n then Some series.TooLong else None) else Some series.Unknown) ≡ None → (there ≡ true) × (n ≤ most)
growable_by true most n h = (refl, short_by (nat_lt most n) most n refl h)
growable_by false most n h = cc

grown_by : (h : HubState) (name : List ℕ) (xs : List ℤ) (o : Option SeriesErr) → growth_refusal h.store name xs ≡ o → AreReadings xs
    → GoesBy h.store (appends h false name xs o).hub.store (accepted_unless o (grows name xs))
grown_by h name xs (Some e) was readings = record { store = refl; accepted = tt }
grown_by h name xs None was readings =
    let fits = growable_by (has_name (names_in h.store) name) (2 ^ 20) (grown_length h.store name xs) was in
    record { store = refl; accepted = (record { there = fits.0; readings = readings; short = fits.1 }, tt) }

goes_by : (h : HubState) (e : Event) → IsEvent e → GoesBy h.store (hub_with h e).store (accepted_by h.store e)
goes_by h (OpenSlot k budget text) is = record { store = opened_in h k budget text (slot_at h k); accepted = tt }
goes_by h (StepSlot k) is = record { store = stepped_in h k (slot_at h k); accepted = tt }
goes_by h (ShowSlot k) is = record { store = shown_in h k (slot_at h k); accepted = tt }
goes_by h (CloseSlot k) is = record { store = closed_in h k (slot_at h k); accepted = tt }
goes_by h (Append name xs) is = grown_by h name xs (growth_refusal h.store name xs) refl is
goes_by h Save is = record { store = refl; accepted = tt }

store_goes : (h : HubState) (es : List Event) → AreEvents es → GoesBy h.store (hub_behind h es).store (accepted_in h es)
store_goes h [] are = record { store = refl; accepted = tt }
store_goes h (e ∷ es) are =
    let first = goes_by h e are.0 in
    let rest = store_goes (hub_with h e) es are.1 in
    record {
      store = rest.store ∙ ap (λ m. replay_from m (accepted_in (hub_with h e) es)) first.store ∙ sym (replay-append h.store (accepted_by h.store e) (accepted_in (hub_with h e) es));
      accepted = AreAccepted-append h.store (accepted_by h.store e) (accepted_in (hub_with h e) es) first.accepted (subst (λ m. AreAccepted m (accepted_in (hub_with h e) es)) first.store rest.accepted);
    }

IsHistory-append : (h cs : List Accepted) → IsHistory h → AreAccepted (replay h) cs → IsHistory (h ++ cs)
IsHistory-append h [] history are = subst IsHistory (sym (append-nil h)) history
IsHistory-append h (a ∷ cs) history are =
    subst IsHistory (append_assoc h (a ∷ []) cs)
    (IsHistory-append (h ++ a ∷ []) cs (IsHistory-more h a history are.0) (subst (λ m. AreAccepted m cs) (sym (replay-more h a)) are.1))

-- ---- the script that was read

passed : {A B : Type 0} (x : Result A Refusal) (f : A → Result B Refusal) (b : B) → and_then x f ≡ Ok b → (a : A) × (x ≡ Ok a) × (f a ≡ Ok b)
passed (Ok a) f b h = (a, refl, h)
passed (Err e) f b h = cc

held-bytes : (name : List ℕ) (f : File) (bytes : List ℕ) → bytes_of name f ≡ Ok bytes → f ≡ held bytes
held-bytes name (held b) bytes h = let same : b ≡ bytes = cc in ap held same
held-bytes name missing bytes h = cc
held-bytes name oversized bytes h = cc

-- the bytes of both files, and what they stand for
record IsScriptOf (files : Files) (c : SessionCommand) (script : Scripted) : Type 0 where
  pub stored : List ℕ
  pub text : List ℕ
  pub store_held : file_of files c.store ≡ Some stored
  pub script_held : file_of files c.script ≡ Some text
  pub store : store_in stored ≡ Ok script.store
  pub events : script_of text ≡ Ok script.events

script_of_files : (files : Files) (c : SessionCommand) (script : Scripted) (reading : Reading) → reading ≡ reading_with files reading.shown → scripted_by reading c ≡ Ok script → IsScriptOf files c script
script_of_files files c script reading read found =
    let first = passed (store_bytes reading c.store) (λ stored. and_then (script_bytes reading c.script) (λ text. scripted_in stored text)) script found in
    let second = passed (script_bytes reading c.script) (λ text. scripted_in first.0 text) script first.2 in
    let third = passed (store_in first.0) (λ m. and_then (refused_as script_refusal (script_of second.0)) (λ events. Ok (record { store = m; events = events }))) script second.2 in
    let fourth = passed (refused_as script_refusal (script_of second.0)) (λ events. Ok (record { store = third.0; events = events })) script third.2 in
    let made : ◌≡◌ {A = Result Scripted Refusal} (Ok (record { store = third.0; events = fourth.0 })) (Ok script) = fourth.2 in
    let same : ◌≡◌ {A = Scripted} (record { store = third.0; events = fourth.0 }) script = cc in
    record {
      stored = first.0;
      text = second.0;
      store_held = file_at-held files most_store c.store first.0 (sym (ap (λ (r : Reading). r.store c.store) read) ∙ held-bytes c.store (reading.store c.store) first.0 first.1);
      script_held = file_at-held files most_script c.script second.0 (sym (ap (λ (r : Reading). r.script c.script) read) ∙ held-bytes c.script (reading.script c.script) second.0 second.1);
      store = third.1 ∙ ap (λ (s : Scripted). Ok s.store) same;
      events = no_error script_refusal (script_of second.0) fourth.0 fourth.1 ∙ ap (λ (s : Scripted). Ok s.events) same;
    }

-- the store that it found is the one for which STORE stood
store_is : (files : Files) (c : SessionCommand) (script : Scripted) (m : StoreValue) → IsScriptOf files c script → IsStoreValue m → file_of files c.store ≡ Some (store_image m) → script.store ≡ m
store_is files c script m k is stands =
    let there : Some k.stored ≡ Some (store_image m) = sym k.store_held ∙ stands in
    let bytes : k.stored ≡ store_image m = cc in
    let found : store_in k.stored ≡ Ok m = ap (λ b. refused_as bad_store (decode_of b)) bytes ∙ ap (refused_as bad_store) (decode-image m is) in
    let same : ◌≡◌ {A = Result StoreValue Refusal} (Ok script.store) (Ok m) = sym k.store ∙ found in
    cc

AreEvents-front : (es fs : List Event) → AreEvents (es ++ fs) → AreEvents es
AreEvents-front [] fs are = tt
AreEvents-front (e ∷ es) fs are = (are.0, AreEvents-front es fs are.1)

-- ---- what becomes of the store

saves_store : (files : Files) (c : SessionCommand) (script : Scripted) (now : Option Files) (done more : List Event) → IsScriptOf files c script → AreEvents script.events
    → done ++ Save ∷ more ≡ script.events → now ≡ Some (with_file files c.store (store_image (hub_behind (new_hub script.store) done).store))
    → (m : StoreValue) → script.store ≡ m → SavesStore files c m now
saves_store files c script now done more k are all after m same =
    let goes : GoesBy script.store (hub_behind (new_hub script.store) done).store (accepted_in (new_hub script.store) done) =
    store_goes (new_hub script.store) done (AreEvents-front done (Save ∷ more) (subst AreEvents (sym all) are)) in
    record {
      done = done;
      before = record { text = k.text; held = k.script_held; more = more; script = k.events ∙ ap Ok (sym all) };
      accepted = subst (λ s. AreAccepted s (accepted_in (new_hub s) done)) same goes.accepted;
      files = after ∙ ap (λ s. Some (with_file files c.store (store_image s))) goes.store
          ∙ ap (λ s. Some (with_file files c.store (store_image (replay_from s (accepted_in (new_hub s) done))))) same;
    }

saves_history : (files : Files) (c : SessionCommand) (h : List Accepted) (now : Option Files) → IsHistory h → SavesStore files c (replay h) now → SavesHistory files c h now
saves_history files c h now history s =
    record {
      done = s.done;
      before = s.before;
      stands = record {
        history = IsHistory-append h (accepted_in (new_hub (replay h)) s.done) history s.accepted;
        files = s.files ∙ ap (λ (x : StoreValue). Some (with_file files c.store (store_image x))) (sym (replay-append _ h (accepted_in (new_hub (replay h)) s.done)));
      };
    }

-- ---- a session leaves STORE as it was, or as of a save

pub left-replays : (files : Files) (c : SessionCommand) (script : Scripted) (now : Option Files) (done rest : List Event) → Finds (Some files) c script → AreEvents script.events
    → done ++ rest ≡ script.events → now ≡ files_behind c.store (Some files) (new_hub script.store) done → (now ≡ Some files) ⊎ SessionReplays files c now
left-replays files c script now done rest f are all left = by (saved_or_not c.store files (new_hub script.store) done)
  where
    k : IsScriptOf files c script
    k = script_of_files files c script f.reading f.read f.found

    by : IsSaved c.store files (new_hub script.store) done → (now ≡ Some files) ⊎ SessionReplays files c now
    by (inl kept) = inl (left ∙ kept)
    by (inr s) =
        let whole : s.done ++ Save ∷ (s.more ++ rest) ≡ script.events = sym (append_assoc s.done (Save ∷ s.more) rest) ∙ ap (λ l. l ++ rest) s.before ∙ all in
        let saves : (m : StoreValue) → script.store ≡ m → SavesStore files c m now = saves_store files c script now s.done (s.more ++ rest) k are whole (left ∙ s.after) in
        inr (record {
          store = λ m is stands. saves m (store_is files c script m k is stands);
          history = λ h history stands. saves_history files c h now history (saves (replay h) (store_is files c script (replay h) k (histories-make-stores h history) stands));
        })
