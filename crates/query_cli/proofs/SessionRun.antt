-- What a session comes to.
use Rattle.std.proofs.Common.{◌≡◌, ◌∙◌, ℕ, List, [], ◌∷◌, ◌++◌, Option, Some, None, refl, sym, ap, subst, inl, inr, append_assoc, append-nil, zero-add}
use Rattle.std.specs.Io.KnownBytes.{Appends}
use Rattle.std.specs.Prelude.{◌⊎◌, ◌≢◌}
use Rattle.semantics.specs.Files.{Files, IfTold}
use Rattle.sessions.specs.Hub.{HubState}
use Rattle.sessions.specs.Kept.{HubView, new_hub}
use Rattle.sessions.specs.declared.events.Event.{Event}
use Rattle.query_cli.specs.Commands.{Command, session}
use Rattle.query_cli.specs.Commands.Session.{Ending, EndsMidway, EndsSo, Finds, IsCutAt, PlaysAll, Scripted, SessionCommand, StopsMidway, Way, filled, files_behind, hub_behind, lines_behind, made_behind, unsaved}
use Rattle.query_cli.specs.Playing.{AtEach, BeginsOver, Breaks, ComesTo, EndsEarly, IsHaltText, IsLast, PlaysOn, PlaysThrough, Says}
use Rattle.query_cli.specs.Reading.{no_store}
use Rattle.query_cli.specs.Refusals.{Refusal, called_for, status_of}
use Rattle.query_cli.specs.Run.{Accepts, Grew, HidesEarly, IsCutShort, IsKeptOrReplayed, IsLeftOff, IsRefused, IsStatus, IsText, ending_of}
use Rattle.query_cli.specs.Stops.{IfStopped, fault_status}
use Rattle.query_cli.specs.declared.status.Status.{Status}
use Rattle.query_cli.specs.declared.status.Status.TheVariants as status
use Rattle.query_cli.specs.declared.stop.Fault.{Fault}
use Rattle.query_cli.specs.declared.stop.Fault.TheVariants as fault
use Rattle.query_cli.specs.declared.stop.Halt.{Halt}
use Rattle.query_cli.specs.declared.stop.Halt.TheVariants as halt
use Rattle.query_cli.specs.declared.stop.Stop.TheVariants as stop
use Rattle.query_cli.proofs.CommandLaws.Session.{finds, finds-accepts, refused-early, script_for}
use Rattle.query_cli.proofs.RunLaws.{plain_status, refusal_text, refused_status, fault_text}
use Rattle.query_cli.proofs.PlayLaws.{files-more}
use Rattle.query_cli.proofs.SavedLaws.{left-replays}
use Rattle.query_cli.proofs.StepLaws.{kept-files}

-- ---- the last event

-- the status for want of memory, or of a fault of the output
abbrev pub IsBroken : Status → Type 0
IsBroken s = (s ≡ status.Memory) ⊎ (s ≡ status.OutFault)

-- it ended a session, or was cut short
abbrev IsKind : List ℕ → Option Files → Option Files → HubState → ℕ → Event → Status → List ℕ → Type 0
IsKind name files now h made e s text =
    ((s ≡ status.ArenaFull) × EndsSo name files now h made e filled text)
    ⊎ (((s ≡ status.ReplaceFault) × EndsSo name files now h made e unsaved text)
    ⊎ (IsBroken s × IsCutAt name files now h made e text))

last-kind : (name : List ℕ) (files now : Option Files) (h : HubState) (made : ℕ) (e : Event) (s : Status) (text : List ℕ) → IsLast name files now h made e s text → IsKind name files now h made e s text
last-kind name files now h made e status.Ok text l = absurd l
last-kind name files now h made e status.Memory text l = inr (inr (inl refl, l))
last-kind name files now h made e status.Usage text l = absurd l
last-kind name files now h made e status.ReadFault text l = absurd l
last-kind name files now h made e status.ReplaceFault text l = inr (inl (refl, l))
last-kind name files now h made e status.OutFault text l = inr (inr (inr refl, l))
last-kind name files now h made e status.Absent text l = absurd l
last-kind name files now h made e status.TooBig text l = absurd l
last-kind name files now h made e status.BadCsv text l = absurd l
last-kind name files now h made e status.BadStore text l = absurd l
last-kind name files now h made e status.SeriesFault text l = absurd l
last-kind name files now h made e status.BadQuery text l = absurd l
last-kind name files now h made e status.Domain text l = absurd l
last-kind name files now h made e status.Range text l = absurd l
last-kind name files now h made e status.Rejected text l = absurd l
last-kind name files now h made e status.BadCert text l = absurd l
last-kind name files now h made e status.BadScript text l = absurd l
last-kind name files now h made e status.ArenaFull text l = inl (refl, l)

-- how far a session came that broke off
abbrev way_of : (files now : Option Files) (c : SessionCommand) (script : Scripted) (s : Status) (text : List ℕ) → Finds files c script → Breaks c.store files now (new_hub script.store) 0 script.events s text → Way files c
way_of files now c script s text f b = record { script = script; found = f; done = b.done; next = b.next; rest = b.rest; all = b.all }

kind_of : (files now : Option Files) (c : SessionCommand) (script : Scripted) (s : Status) (text : List ℕ) (b : Breaks c.store files now (new_hub script.store) 0 script.events s text)
    → IsKind c.store (files_behind c.store files (new_hub script.store) b.done) now (hub_behind (new_hub script.store) b.done) (made_behind (new_hub script.store) b.done) b.next s b.line
kind_of files now c script s text b =
    let name = c.store in
    let h = new_hub script.store in
    last-kind name (files_behind name files h b.done) now (hub_behind h b.done) (made_behind h b.done) b.next s b.line
    (subst (λ (n : ℕ). IsLast name (files_behind name files h b.done) now (hub_behind h b.done) n b.next s b.line) (zero-add (made_behind h b.done)) b.last)

-- ---- by the status

-- it ended so
broke_so : (files now : Option Files) (c : SessionCommand) (script : Scripted) (s : Status) (ending : Ending) (text : List ℕ) → Finds files c script
    → Breaks c.store files now (new_hub script.store) 0 script.events s text → ending_of s ≡ Some ending → EndsMidway files now c ending text
broke_so files now c script s ending text f b is = by (kind_of files now c script s text b)
  where
    way : Way files c
    way = way_of files now c script s text f b

    by : IsKind c.store (files_behind c.store files (new_hub script.store) b.done) now (hub_behind (new_hub script.store) b.done) (made_behind (new_hub script.store) b.done) b.next s b.line → EndsMidway files now c ending text
    by (inl (e, ends)) =
        let same : Some filled ≡ Some ending = sym (ap ending_of e) ∙ is in
        let which : filled ≡ ending = cc in
        subst (λ x. EndsMidway files now c x text) which (record { way = way; line = b.line; lines = b.lines; ends = ends })
    by (inr (inl (e, ends))) =
        let same : Some unsaved ≡ Some ending = sym (ap ending_of e) ∙ is in
        let which : unsaved ≡ ending = cc in
        subst (λ x. EndsMidway files now c x text) which (record { way = way; line = b.line; lines = b.lines; ends = ends })
    by (inr (inr (inl e, cut))) = let none : None ≡ Some ending = sym (ap ending_of e) ∙ is in cc
    by (inr (inr (inr e, cut))) = let none : None ≡ Some ending = sym (ap ending_of e) ∙ is in cc

-- it was cut short
broke_off : (files now : Option Files) (c : SessionCommand) (script : Scripted) (s : Status) (text : List ℕ) → Finds files c script
    → Breaks c.store files now (new_hub script.store) 0 script.events s text → IsBroken s → StopsMidway files now c text
broke_off files now c script s text f b broken = by (kind_of files now c script s text b) broken
  where
    by : IsKind c.store (files_behind c.store files (new_hub script.store) b.done) now (hub_behind (new_hub script.store) b.done) (made_behind (new_hub script.store) b.done) b.next s b.line → IsBroken s → StopsMidway files now c text
    by (inl (e, ends)) (inl k) = cc
    by (inl (e, ends)) (inr k) = cc
    by (inr (inl (e, ends))) (inl k) = cc
    by (inr (inl (e, ends))) (inr k) = cc
    by (inr (inr (any, cut))) k = record { way = way_of files now c script s text f b; part = b.line; lines = b.lines; stops = cut }

-- ---- before its events

-- the status and the text of a command that has no answer
halt_text : (files : Option Files) (command : Option Command) (h : Halt) (s : Status) (text : List ℕ) → IfStopped h (IsRefused files command) → IsHaltText h s text → IsText files command s text
halt_text files command (halt.Faulted f) s text refused said = subst (λ x. IsText files command x text) (sym said.0) (fault_text files command f text said.1)
halt_text files command (halt.Stopped stop.Memory) s text refused said = absurd said
halt_text files command (halt.Stopped (stop.Refused reply)) s text (r, refused, is) said =
    subst (λ x. IsText files command x text) (sym (said.0 ∙ is.status))
    (refusal_text files command r text (record { refusal = r; refused = refused; status_is = refl; line = said.1 ∙ is.text }))

-- it is that of a refusal, or of a fault of reading
pub record IsEarlyStatus (files : Option Files) (c : SessionCommand) (read : Type 0) (s : Status) : Type 0 where
  pub ok : s ≢ status.Ok
  pub memory : s ≢ status.Memory
  pub out : s ≢ status.OutFault
  pub words : s ≢ status.Usage
  pub midway : ending_of s ≡ None
  pub read_fault : s ≡ status.ReadFault → read
  pub exact : IfTold files (λ m. IsStatus m (Some (session c)) s)

read_status : (files : Option Files) (c : SessionCommand) → IfTold files (λ m. IsStatus m (Some (session c)) status.ReadFault)
read_status None c = tt
read_status (Some m) c = inr (inr (inr (inl (refl, refl))))

early_fault : (files : Option Files) (c : SessionCommand) (read : Type 0) (f : Fault) (s : Status) → halt.Faulted f ≢ halt.Faulted fault.Replacing → (halt.Faulted f ≡ halt.Faulted fault.Reading → read)
    → s ≡ fault_status f → IsEarlyStatus files c read s
early_fault files c read fault.Reading s isnt counted e =
    subst (IsEarlyStatus files c read) (sym e)
    (record { ok = λ k. cc; memory = λ k. cc; out = λ k. cc; words = λ k. cc; midway = refl; read_fault = λ k. counted refl; exact = read_status files c })
early_fault files c read fault.Replacing s isnt counted e = absurd (isnt refl)

early_refusal : (files : Option Files) (c : SessionCommand) (read : Type 0) (r : Refusal) (s : Status) → IsRefused files (Some (session c)) r → s ≡ status_of r → IsEarlyStatus files c read s
early_refusal files c read r s refused e =
    let early = refused-early files c r refused in
    let plain = plain_status r in
    record {
      ok = λ k. plain.ok (sym e ∙ k);
      memory = λ k. plain.memory (sym e ∙ k);
      out = λ k. plain.out (sym e ∙ k);
      words = λ k. early.words (sym e ∙ k);
      midway = ap ending_of e ∙ early.midway;
      read_fault = λ k. absurd (plain.read (sym e ∙ k));
      exact = refused_status files (Some (session c)) r s e refused;
    }

early_status : (files now : Option Files) (c : SessionCommand) (read : Type 0) (h : Halt) (s : Status) (text : List ℕ) → IfStopped h (IsRefused files (Some (session c)))
    → h ≢ halt.Faulted fault.Replacing → (h ≡ halt.Faulted fault.Reading → read) → IsHaltText h s text → IsEarlyStatus files c read s
early_status files now c read (halt.Faulted f) s text refused isnt counted said = early_fault files c read f s isnt counted said.0
early_status files now c read (halt.Stopped stop.Memory) s text refused isnt counted said = absurd said
early_status files now c read (halt.Stopped (stop.Refused reply)) s text (r, refused, is) isnt counted said = early_refusal files c read r s refused (said.0 ∙ is.status)

-- ---- what the steps come to

pub comes-early : (files now : Option Files) (read : Type 0) (c : SessionCommand) (h : Halt) (s : Status) (before after : Option (List ℕ)) → IfStopped h (IsRefused files (Some (session c)))
    → h ≢ halt.Faulted fault.Replacing → (h ≡ halt.Faulted fault.Reading → read) → now ≡ files → Says h s before after → ComesTo files now read c s before after
comes-early files now read c h s before after refused isnt counted kept said =
    inl (record { halt = h; refused = refused; reading = isnt; counted = counted; kept = kept; said = said })

pub comes-all : (files mid now : Option Files) (read : Type 0) (c : SessionCommand) (v : HubView) (events : List Event) (before after : Option (List ℕ)) → BeginsOver files c v events → mid ≡ files
    → AtEach v (λ h made. Appends before after (lines_behind h events)) → AtEach v (λ h made. now ≡ files_behind c.store mid h events) → ComesTo files now read c status.Ok before after
comes-all files mid now read c v events before after b same lines left =
    let h = new_hub b.begins.store in
    inr (record {
      script = script_for b.begins.store events;
      found = finds files c v events b;
      possible = b.begins.possible;
      comes = inl (record {
        status_is = refl;
        lines = lines h 0 b.begins.hub;
        files_are = left h 0 b.begins.hub ∙ ap (λ f. files_behind c.store f h events) same;
      });
    })

pub comes-broken : (files mid now : Option Files) (read : Type 0) (c : SessionCommand) (v : HubView) (events : List Event) (s : Status) (before after : Option (List ℕ)) → BeginsOver files c v events → mid ≡ files
    → AtEach v (λ h made. Grew before after (Breaks c.store mid now h made events s)) → ComesTo files now read c s before after
comes-broken files mid now read c v events s before after b same breaks =
    let h = new_hub b.begins.store in
    inr (record {
      script = script_for b.begins.store events;
      found = finds files c v events b;
      possible = b.begins.possible;
      comes = inr (subst (λ f. Grew before after (Breaks c.store f now h 0 events s)) same (breaks h 0 b.begins.hub));
    })

-- ---- the clauses

module _ (files now : Option Files) (read : Type 0) (c : SessionCommand) (s : Status) (before after : Option (List ℕ)) where
  abbrev Early : Type 0
  Early = EndsEarly files now read (Some (session c)) s before after

  abbrev On : Type 0
  On = PlaysOn files now c s before after

  early_at : (e : Early) → (text : List ℕ) → IsHaltText e.halt s text → IsEarlyStatus files c read s
  early_at e text said = early_status files now c read e.halt s text e.refused e.reading e.counted said

  -- a session that broke off has one of four statuses
  kind_at : (p : On) (text : List ℕ) → Breaks c.store files now (new_hub p.script.store) 0 p.script.events s text
      → ((s ≡ status.ArenaFull) ⊎ (s ≡ status.ReplaceFault)) ⊎ IsBroken s
  kind_at p text b = by (kind_of files now c p.script s text b)
    where
      by : IsKind c.store (files_behind c.store files (new_hub p.script.store) b.done) now (hub_behind (new_hub p.script.store) b.done) (made_behind (new_hub p.script.store) b.done) b.next s b.line
          → ((s ≡ status.ArenaFull) ⊎ (s ≡ status.ReplaceFault)) ⊎ IsBroken s
      by (inl (e, ends)) = inl (inl e)
      by (inr (inl (e, ends))) = inl (inr e)
      by (inr (inr (broken, cut))) = inr broken

  -- the status is a fact of the files where they are told
  told : ((m : Files) → files ≡ Some m → IsStatus m (Some (session c)) s) → IfTold files (λ m. IsStatus m (Some (session c)) s)
  told = told_by files
    where
      told_by : (f : Option Files) → ((m : Files) → f ≡ Some m → IsStatus m (Some (session c)) s) → IfTold f (λ m. IsStatus m (Some (session c)) s)
      told_by None h = tt
      told_by (Some m) h = h m refl

  early_exact : (e : Early) → Says e.halt s before after → IfTold files (λ m. IsStatus m (Some (session c)) s)
  early_exact e (inl (text, said, grew)) = (early_at e text said).exact
  early_exact e (inr (inl (out, grew))) = told (λ m is. inr (inr (inl out)))
  early_exact e (inr (inr (memory, grew))) = told (λ m is. inr (inl memory))

  accepted : On → (m : Files) → files ≡ Some m → Accepts m (Some (session c))
  accepted p m is = subst (λ f. IfTold f (λ k. Accepts k (Some (session c)))) is (finds-accepts files c p.script p.found)

  on_exact : (p : On) → PlaysThrough files now c p.script s before after ⊎ Grew before after (Breaks c.store files now (new_hub p.script.store) 0 p.script.events s)
      → IfTold files (λ m. IsStatus m (Some (session c)) s)
  on_exact p (inl through) = told (λ m is. inl (no_store, through.status_is ∙ sym (ap called_for (accepted p m is))))
  on_exact p (inr (text, b, grew)) = by (kind_at p text b)
    where
      by : ((s ≡ status.ArenaFull) ⊎ (s ≡ status.ReplaceFault)) ⊎ IsBroken s → IfTold files (λ m. IsStatus m (Some (session c)) s)
      by (inl (inl full)) = told (λ m is. inr (inr (inr (inr (inr (full, refl, accepted p m is))))))
      by (inl (inr failed)) = told (λ m is. inr (inr (inr (inr (inl (failed, refl, accepted p m is))))))
      by (inr (inl memory)) = told (λ m is. inr (inl memory))
      by (inr (inr out)) = told (λ m is. inr (inr (inl out)))

  pub session-exact : ComesTo files now read c s before after → IfTold files (λ m. IsStatus m (Some (session c)) s)
  session-exact (inl e) = early_exact e e.said
  session-exact (inr p) = on_exact p p.comes

  early_words : (e : Early) → Says e.halt s before after → s ≢ status.Usage
  early_words e (inl (text, said, grew)) = (early_at e text said).words
  early_words e (inr (inl (out, grew))) = λ k. cc
  early_words e (inr (inr (memory, grew))) = λ k. cc

  on_words : (p : On) → PlaysThrough files now c p.script s before after ⊎ Grew before after (Breaks c.store files now (new_hub p.script.store) 0 p.script.events s) → s ≢ status.Usage
  on_words p (inl through) = λ k. let e = through.status_is in cc
  on_words p (inr (text, b, grew)) = by (kind_at p text b)
    where
      by : ((s ≡ status.ArenaFull) ⊎ (s ≡ status.ReplaceFault)) ⊎ IsBroken s → s ≢ status.Usage
      by (inl (inl e)) = λ k. cc
      by (inl (inr e)) = λ k. cc
      by (inr (inl e)) = λ k. cc
      by (inr (inr e)) = λ k. cc

  pub session-words : ComesTo files now read c s before after → s ≢ status.Usage
  session-words (inl e) = early_words e e.said
  session-words (inr p) = on_words p p.comes

  -- where it did not end midway, and its events were not all done, it was refused or could not be read
  on_ended : (p : On) → PlaysThrough files now c p.script s before after ⊎ Grew before after (Breaks c.store files now (new_hub p.script.store) 0 p.script.events s)
      → s ≢ status.Ok → s ≢ status.Memory → s ≢ status.OutFault → ending_of s ≡ None → ⊥
  on_ended p (inl through) ok memory out none = ok through.status_is
  on_ended p (inr (text, b, grew)) ok memory out none = by (kind_at p text b)
    where
      by : ((s ≡ status.ArenaFull) ⊎ (s ≡ status.ReplaceFault)) ⊎ IsBroken s → ⊥
      by (inl (inl e)) = let some : Some filled ≡ None = sym (ap ending_of e) ∙ none in cc
      by (inl (inr e)) = let some : Some unsaved ≡ None = sym (ap ending_of e) ∙ none in cc
      by (inr (inl e)) = memory e
      by (inr (inr e)) = out e

  early_text : (e : Early) → Says e.halt s before after → s ≢ status.Memory → s ≢ status.OutFault → Grew before after (IsText files (Some (session c)) s)
  early_text e (inl (text, said, grew)) memory out = (text, halt_text files (Some (session c)) e.halt s text e.refused said, grew)
  early_text e (inr (inl (is, grew))) memory out = absurd (out is)
  early_text e (inr (inr (is, grew))) memory out = absurd (memory is)

  pub session-text : ComesTo files now read c s before after → s ≢ status.Ok → s ≢ status.Memory → s ≢ status.OutFault → ending_of s ≡ None
      → Grew before after (IsText files (Some (session c)) s)
  session-text (inl e) ok memory out none = early_text e e.said memory out
  session-text (inr p) ok memory out none = absurd (on_ended p p.comes ok memory out none)

  pub session-kept : ComesTo files now read c s before after → s ≢ status.Ok → s ≢ status.Memory → s ≢ status.OutFault → ending_of s ≡ None → now ≡ files
  session-kept (inl e) ok memory out none = e.kept
  session-kept (inr p) ok memory out none = absurd (on_ended p p.comes ok memory out none)

  -- all events were done
  early_isnt : (e : Early) → Says e.halt s before after → s ≡ status.Ok → ⊥
  early_isnt e (inl (text, said, grew)) ok = (early_at e text said).ok ok
  early_isnt e (inr (inl (is, grew))) ok = cc
  early_isnt e (inr (inr (is, grew))) ok = cc

  on_all : (p : On) → PlaysThrough files now c p.script s before after ⊎ Grew before after (Breaks c.store files now (new_hub p.script.store) 0 p.script.events s)
      → s ≡ status.Ok → Grew before after (PlaysAll files now c)
  on_all p (inl through) ok =
      (lines_behind (new_hub p.script.store) p.script.events, record { script = p.script; found = p.found; lines = refl; files_are = through.files_are }, through.lines)
  on_all p (inr (text, b, grew)) ok = by (kind_at p text b)
    where
      by : ((s ≡ status.ArenaFull) ⊎ (s ≡ status.ReplaceFault)) ⊎ IsBroken s → Grew before after (PlaysAll files now c)
      by (inl (inl e)) = cc
      by (inl (inr e)) = cc
      by (inr (inl e)) = cc
      by (inr (inr e)) = cc

  pub session-all : ComesTo files now read c s before after → s ≡ status.Ok → Grew before after (PlaysAll files now c)
  session-all (inl e) ok = absurd (early_isnt e e.said ok)
  session-all (inr p) ok = on_all p p.comes ok

  -- it ended midway
  early_never : (e : Early) → Says e.halt s before after → (ending : Ending) → ending_of s ≡ Some ending → ⊥
  early_never e (inl (text, said, grew)) ending is = let none : None ≡ Some ending = sym (early_at e text said).midway ∙ is in cc
  early_never e (inr (inl (out, grew))) ending is = let none : None ≡ Some ending = sym (ap ending_of out) ∙ is in cc
  early_never e (inr (inr (memory, grew))) ending is = let none : None ≡ Some ending = sym (ap ending_of memory) ∙ is in cc

  on_midway : (p : On) → PlaysThrough files now c p.script s before after ⊎ Grew before after (Breaks c.store files now (new_hub p.script.store) 0 p.script.events s)
      → (ending : Ending) → ending_of s ≡ Some ending → Grew before after (EndsMidway files now c ending)
  on_midway p (inl through) ending is = let none : None ≡ Some ending = sym (ap ending_of through.status_is) ∙ is in cc
  on_midway p (inr (text, b, grew)) ending is = (text, broke_so files now c p.script s ending text p.found b is, grew)

  pub session-ended : ComesTo files now read c s before after → (ending : Ending) → ending_of s ≡ Some ending → Grew before after (EndsMidway files now c ending)
  session-ended (inl e) ending is = absurd (early_never e e.said ending is)
  session-ended (inr p) ending is = on_midway p p.comes ending is

  -- it was cut short
  hides : (e : Early) (given : Status) (front rest : List ℕ) → IsHaltText e.halt given (front ++ rest) → HidesEarly files read (Some (session c)) front
  hides e given front rest said =
      let early = early_status files now c read e.halt given (front ++ rest) e.refused e.reading e.counted said in
      record {
        given = given;
        early = (early.ok, early.midway);
        rest = rest;
        text = halt_text files (Some (session c)) e.halt given (front ++ rest) e.refused said;
        counted = early.read_fault;
      }

  early_cut : (e : Early) → Says e.halt s before after → s ≡ status.OutFault → Grew before after (IsCutShort files now read c)
  early_cut e (inl (text, said, grew)) out = absurd ((early_at e text said).out out)
  early_cut e (inr (inl (is, (front, (given, rest, said), grew)))) out = (front, inl (hides e given front rest said, e.kept), grew)
  early_cut e (inr (inr (memory, grew))) out = cc

  on_broken : (p : On) → PlaysThrough files now c p.script s before after ⊎ Grew before after (Breaks c.store files now (new_hub p.script.store) 0 p.script.events s)
      → IsBroken s → Grew before after (StopsMidway files now c)
  on_broken p (inl through) (inl e) = let ok = through.status_is in cc
  on_broken p (inl through) (inr e) = let ok = through.status_is in cc
  on_broken p (inr (text, b, grew)) broken = (text, broke_off files now c p.script s text p.found b broken, grew)

  pub session-cut : ComesTo files now read c s before after → s ≡ status.OutFault → Grew before after (IsCutShort files now read c)
  session-cut (inl e) out = early_cut e e.said out
  session-cut (inr p) out = let stops = on_broken p p.comes (inr out) in (stops.0, inr stops.1, stops.2)

  early_left : (e : Early) → Says e.halt s before after → s ≡ status.Memory → Grew before after (IsLeftOff files now c)
  early_left e (inl (text, said, grew)) memory = absurd ((early_at e text said).memory memory)
  early_left e (inr (inl (out, grew))) memory = cc
  early_left e (inr (inr (is, grew))) memory = ([], inl (refl, e.kept), grew)

  pub session-left : ComesTo files now read c s before after → s ≡ status.Memory → Grew before after (IsLeftOff files now c)
  session-left (inl e) memory = early_left e e.said memory
  session-left (inr p) memory = let stops = on_broken p p.comes (inl memory) in (stops.0, inr stops.1, stops.2)

  -- a fault of reading
  early_read : (e : Early) → Says e.halt s before after → s ≡ status.ReadFault → read
  early_read e (inl (text, said, grew)) is = (early_at e text said).read_fault is
  early_read e (inr (inl (out, grew))) is = cc
  early_read e (inr (inr (memory, grew))) is = cc

  on_read : (p : On) → PlaysThrough files now c p.script s before after ⊎ Grew before after (Breaks c.store files now (new_hub p.script.store) 0 p.script.events s) → s ≡ status.ReadFault → read
  on_read p (inl through) is = let ok = through.status_is in cc
  on_read p (inr (text, b, grew)) is = by (kind_at p text b)
    where
      by : ((s ≡ status.ArenaFull) ⊎ (s ≡ status.ReplaceFault)) ⊎ IsBroken s → read
      by (inl (inl e)) = cc
      by (inl (inr e)) = cc
      by (inr (inl e)) = cc
      by (inr (inr e)) = cc

  pub session-read : ComesTo files now read c s before after → s ≡ status.ReadFault → read
  session-read (inl e) is = early_read e e.said is
  session-read (inr p) is = on_read p p.comes is

  -- no save fails before the events
  pub early-saves : (e : Early) → s ≡ status.ReplaceFault → ⊥
  early-saves e is = early_never e e.said unsaved (ap ending_of is)

-- ---- what becomes of STORE

-- the files are as after some of the events
record LeftBy (files now : Option Files) (c : SessionCommand) (script : Scripted) : Type 0 where
  pub done : List Event
  pub rest : List Event
  pub all : done ++ rest ≡ script.events
  pub left : now ≡ files_behind c.store files (new_hub script.store) done

left_by : (files now : Option Files) (c : SessionCommand) (script : Scripted) (s : Status) (text : List ℕ) → Breaks c.store files now (new_hub script.store) 0 script.events s text → LeftBy files now c script
left_by files now c script s text b = by (kind_of files now c script s text b)
  where
    h : HubState
    h = new_hub script.store

    at_next : now ≡ files_behind c.store files h b.done → LeftBy files now c script
    at_next left = record { done = b.done; rest = b.next ∷ b.rest; all = b.all; left = left }

    cut_at : IsCutAt c.store (files_behind c.store files h b.done) now (hub_behind h b.done) (made_behind h b.done) b.next b.line → LeftBy files now c script
    cut_at (inl (none, left)) = at_next left
    cut_at (inr (inl (front, left))) =
        record {
          done = b.done ++ b.next ∷ [];
          rest = b.rest;
          all = append_assoc b.done (b.next ∷ []) b.rest ∙ b.all;
          left = left ∙ sym (files-more c.store files h b.done b.next);
        }
    cut_at (inr (inr (ending, ends, front, left))) = at_next left

    by : IsKind c.store (files_behind c.store files h b.done) now (hub_behind h b.done) (made_behind h b.done) b.next s b.line → LeftBy files now c script
    by (inl (e, ends)) = at_next ends.kept
    by (inr (inl (e, ends))) = at_next ends.kept
    by (inr (inr (broken, cut))) = cut_at cut

on_left : (files now : Option Files) (c : SessionCommand) (s : Status) (before after : Option (List ℕ)) (p : PlaysOn files now c s before after)
    → PlaysThrough files now c p.script s before after ⊎ Grew before after (Breaks c.store files now (new_hub p.script.store) 0 p.script.events s) → LeftBy files now c p.script
on_left files now c s before after p (inl through) = record { done = p.script.events; rest = []; all = append-nil p.script.events; left = through.files_are }
on_left files now c s before after p (inr (text, b, grew)) = left_by files now c p.script s text b

pub session-replays : (files now : Option Files) (read : Type 0) (c : SessionCommand) (s : Status) (before after : Option (List ℕ)) → ComesTo files now read c s before after
    → IsKeptOrReplayed files (Some (session c)) now
session-replays files now read c s before after (inl e) = kept-files files now (Some (session c)) e.kept
session-replays None now read c s before after (inr p) = tt
session-replays (Some m) now read c s before after (inr p) =
    let l = on_left (Some m) now c s before after p p.comes in
    left-replays m c p.script now l.done l.rest p.found p.possible l.all l.left

-- a command that has no answer ends by no fault of the output
pub no-fault-said : (h : Halt) (s : Status) (text : List ℕ) → IfStopped h (λ r. Unit {0}) → IsHaltText h s text → s ≡ status.OutFault → ⊥
no-fault-said (halt.Faulted fault.Reading) s text refused said e = let is = said.0 in cc
no-fault-said (halt.Faulted fault.Replacing) s text refused said e = let is = said.0 in cc
no-fault-said (halt.Stopped stop.Memory) s text refused said e = said
no-fault-said (halt.Stopped (stop.Refused reply)) s text (r, any, is) said e = (plain_status r).out (sym (said.0 ∙ is.status) ∙ e)
