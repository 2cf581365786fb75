-- What is replied, by what a command comes to.
use Rattle.std.proofs.Common.{◌≡◌, ℕ, List, Option, Some, None, true, refl, sym, ap, subst, ◌∙◌, string_bytes, inl, inr, String}
use Rattle.std.specs.Prelude.{◌⊎◌, ◌++◌}
use Rattle.std.specs.declared.alloc.Global.{Global}
use Rattle.semantics.specs.Files.{Files, IfTold}
use Rattle.query_cli.specs.Commands.{Answers, Command, once, new_store, load, append, check, query, prove, verify, gen, session, is_reader, is_writer, refusal_of}
use Rattle.query_cli.specs.Reading.{Shown, reading_with}
use Rattle.query_cli.specs.Refusals.{Refusal, absent, arena_full, bad_cert, bad_csv, bad_query, bad_script, bad_store, called_for, domain, escapes, not_a_cut, query_rank, query_unknown, range, series_fault, status_of, store_fault, too_big, usage, wide}
use Rattle.query_cli.specs.Run.{Accepts, Hides, IsCounted, IsDone, IsRefusal, IsRefused, IsStatus, IsText, IsUnrefused, Replies}
use Rattle.query_cli.specs.Stops.{IfRefused, fault_line, fault_status}
use Rattle.query_cli.specs.declared.stop.Fault.{Fault}
use Rattle.query_cli.specs.declared.stop.Fault.TheVariants as fault
use Rattle.query_cli.specs.declared.stop.Reply.{Reply}
use Rattle.query_cli.specs.declared.stop.Stop.TheVariants as stop
use Rattle.query_cli.specs.declared.status.Status.{Status}
use Rattle.query_cli.specs.declared.status.Status.TheVariants as status
use Rattle.query_cli.proofs.QuestionLaws.{asked_still}
use Rattle.query_cli.proofs.StepLaws.{kept-files}
use Rattle.query_cli.proofs.UsageLaws.{usage_only}

-- ---- a refusal's status is that of no answer and of no fault

pub record IsPlain (s : Status) : Type 0 where
  pub ok : s ≡ status.Ok → ⊥
  pub memory : s ≡ status.Memory → ⊥
  pub out : s ≡ status.OutFault → ⊥
  pub read : s ≡ status.ReadFault → ⊥
  pub replace : s ≡ status.ReplaceFault → ⊥

pub plain_status : (r : Refusal) → IsPlain (status_of r)
plain_status usage = record { ok = λ e. cc; memory = λ e. cc; out = λ e. cc; read = λ e. cc; replace = λ e. cc }
plain_status (absent name) = record { ok = λ e. cc; memory = λ e. cc; out = λ e. cc; read = λ e. cc; replace = λ e. cc }
plain_status (too_big name) = record { ok = λ e. cc; memory = λ e. cc; out = λ e. cc; read = λ e. cc; replace = λ e. cc }
plain_status (bad_csv e) = record { ok = λ e. cc; memory = λ e. cc; out = λ e. cc; read = λ e. cc; replace = λ e. cc }
plain_status (bad_store e) = record { ok = λ e. cc; memory = λ e. cc; out = λ e. cc; read = λ e. cc; replace = λ e. cc }
plain_status (series_fault name e) = record { ok = λ e. cc; memory = λ e. cc; out = λ e. cc; read = λ e. cc; replace = λ e. cc }
plain_status (domain sum lo hi) = record { ok = λ e. cc; memory = λ e. cc; out = λ e. cc; read = λ e. cc; replace = λ e. cc }
plain_status (bad_query e) = record { ok = λ e. cc; memory = λ e. cc; out = λ e. cc; read = λ e. cc; replace = λ e. cc }
plain_status store_fault = record { ok = λ e. cc; memory = λ e. cc; out = λ e. cc; read = λ e. cc; replace = λ e. cc }
plain_status (query_unknown name) = record { ok = λ e. cc; memory = λ e. cc; out = λ e. cc; read = λ e. cc; replace = λ e. cc }
plain_status (query_rank sum) = record { ok = λ e. cc; memory = λ e. cc; out = λ e. cc; read = λ e. cc; replace = λ e. cc }
plain_status (range node) = record { ok = λ e. cc; memory = λ e. cc; out = λ e. cc; read = λ e. cc; replace = λ e. cc }
plain_status (not_a_cut place) = record { ok = λ e. cc; memory = λ e. cc; out = λ e. cc; read = λ e. cc; replace = λ e. cc }
plain_status (escapes lo hi) = record { ok = λ e. cc; memory = λ e. cc; out = λ e. cc; read = λ e. cc; replace = λ e. cc }
plain_status (wide width) = record { ok = λ e. cc; memory = λ e. cc; out = λ e. cc; read = λ e. cc; replace = λ e. cc }
plain_status (bad_cert e) = record { ok = λ e. cc; memory = λ e. cc; out = λ e. cc; read = λ e. cc; replace = λ e. cc }
plain_status (bad_script line) = record { ok = λ e. cc; memory = λ e. cc; out = λ e. cc; read = λ e. cc; replace = λ e. cc }
plain_status arena_full = record { ok = λ e. cc; memory = λ e. cc; out = λ e. cc; read = λ e. cc; replace = λ e. cc }

pub refusal_text : (files : Option Files) (command : Option Command) (r : Refusal) (text : List ℕ) → IsRefusal files command (status_of r) text → IsText files command (status_of r) text
refusal_text files command usage text h = h
refusal_text files command (absent name) text h = h
refusal_text files command (too_big name) text h = h
refusal_text files command (bad_csv e) text h = h
refusal_text files command (bad_store e) text h = h
refusal_text files command (series_fault name e) text h = h
refusal_text files command (domain sum lo hi) text h = h
refusal_text files command (bad_query e) text h = h
refusal_text files command store_fault text h = h
refusal_text files command (query_unknown name) text h = h
refusal_text files command (query_rank sum) text h = h
refusal_text files command (range node) text h = h
refusal_text files command (not_a_cut place) text h = h
refusal_text files command (escapes lo hi) text h = h
refusal_text files command (wide width) text h = h
refusal_text files command (bad_cert e) text h = h
refusal_text files command (bad_script line) text h = h
refusal_text files command arena_full text h = h

-- ---- a command that was done

done_status : (old now : Option Files) (command : Option Command) (text : List ℕ) → IsDone old now command text → IfTold old (λ m. IsStatus m command status.Ok)
done_status None now command text done = tt
done_status (Some m) now command text done =
    inl (done.answer.reading.shown, sym (ap called_for (subst (λ k. refusal_of k command ≡ None) done.answer.read done.answer.accepted)))

told_unrefused : (old : Option Files) (command : Option Command) (s : Status) → IsUnrefused s → IfTold old (λ m. Accepts m command → IsUnrefused s)
told_unrefused None command s is = tt
told_unrefused (Some m) command s is = λ accepts. is

pub replies_done : (old now : Option Files) (command : Option Command) (text : String Global) → IsDone old now command (string_bytes text)
    → Replies old now command (record { status = status.Ok; text = text })
replies_done old now command text done =
    record {
      exact = done_status old now command (string_bytes text) done;
      complete = told_unrefused old command status.Ok (inl refl);
      text = done.answer;
      files = record { done = λ e. done.files; kept = λ isnt. absurd (isnt refl) };
      replayed = done.replayed;
    }

pub no_command_done : (old now : Option Files) (command : Option Command) (text : List ℕ) (s : Status) → IsDone old now command text → command ≡ None → s ≡ status.Usage
no_command_done old now command text s done none = absurd (subst (λ k. Answers done.answer.reading k text) none done.answer.answer)

-- ---- a command that was refused

pub refused_status : (old : Option Files) (command : Option Command) (r : Refusal) (s : Status) → s ≡ status_of r → IsRefused old command r → IfTold old (λ m. IsStatus m command s)
refused_status None command r s is k = tt
refused_status (Some m) command r s is k =
    inl (k.reading.shown, is ∙ sym (ap called_for (subst (λ x. refusal_of x command ≡ Some r) k.read k.called)))

-- parts that stand for no store refuse nothing that is accepted
accepted_still : (m : Files) (shown : Shown) (command : Option Command) → Accepts m command → refusal_of (reading_with m shown) command ≡ None
accepted_still m shown None h = h
accepted_still m shown (Some (once c)) h = h
accepted_still m shown (Some (new_store c)) h = h
accepted_still m shown (Some (load c)) h = h
accepted_still m shown (Some (append c)) h = h
accepted_still m shown (Some (check c)) h = h
accepted_still m shown (Some (query c)) h = asked_still m shown c h
accepted_still m shown (Some (prove c)) h = asked_still m shown c h
accepted_still m shown (Some (verify c)) h = h
accepted_still m shown (Some (gen c)) h = h
accepted_still m shown (Some (session c)) h = h

unrefused : (old : Option Files) (command : Option Command) (r : Refusal) (s : Status) → IsRefused old command r → IfTold old (λ m. Accepts m command → IsUnrefused s)
unrefused None command r s k = tt
unrefused (Some m) command r s k = λ accepts.
    let called : refusal_of (reading_with m k.reading.shown) command ≡ Some r = subst (λ x. refusal_of x command ≡ Some r) k.read k.called in
    let none = accepted_still m k.reading.shown command accepts in
    cc

pub replies_refusal : (old now : Option Files) (command : Option Command) (given : Reply) → IfRefused (stop.Refused given) (IsRefused old command) → now ≡ old → Replies old now command given
replies_refusal old now command given (r, refused, reply) same =
    record {
      exact = refused_status old command r given.status reply.status refused;
      complete = unrefused old command r given.status refused;
      text =
          subst (λ s. IsText old command s (string_bytes given.text)) (sym reply.status)
          (refusal_text old command r (string_bytes given.text) (record { refusal = r; refused = refused; status_is = refl; line = reply.text }));
      files = record { done = λ e. absurd ((plain_status r).ok (sym reply.status ∙ e)); kept = λ isnt. same };
      replayed = kept-files old now command same;
    }

pub usage_refusal : (old : Option Files) (command : Option Command) (given : Reply) → IfRefused (stop.Refused given) (IsRefused old command) → given.status ≡ status.Usage → command ≡ None
usage_refusal old command given (r, refused, reply) e = usage_only old command r refused (sym reply.status ∙ e)

-- words that spell no command are refused so
pub no_command_refusal : (old : Option Files) (command : Option Command) (given : Reply) → IfRefused (stop.Refused given) (IsRefused old command) → command ≡ None → given.status ≡ status.Usage
no_command_refusal old command given (r, refused, reply) none =
    let called : Some usage ≡ Some r = sym (ap (refusal_of refused.reading) none) ∙ refused.called in
    let is : r ≡ usage = cc in
    reply.status ∙ ap status_of is

pub counted_refusal : (read replaced : Type 0) (old : Option Files) (command : Option Command) (given : Reply) → IfRefused (stop.Refused given) (IsRefused old command) → IsCounted read replaced given.status
counted_refusal read replaced old command given (r, refused, reply) =
    record {
      read_fault = λ e. absurd ((plain_status r).read (sym reply.status ∙ e));
      replace_fault = λ e. absurd ((plain_status r).replace (sym reply.status ∙ e));
    }

-- ---- a fault of the shelf

-- where a command may meet a fault
pub record IsMet (old : Option Files) (command : Option Command) (f : Fault) : Type 0 where
  pub reading : f ≡ fault.Reading → is_reader command ≡ true
  pub replacing : f ≡ fault.Replacing → is_writer command ≡ true
  pub unrefused : f ≡ fault.Replacing → IfTold old (λ m. Accepts m command)

fault_exact : (old : Option Files) (command : Option Command) (f : Fault) → IsMet old command f → IfTold old (λ m. IsStatus m command (fault_status f))
fault_exact None command f met = tt
fault_exact (Some m) command fault.Reading met = inr (inr (inr (inl (refl, met.reading refl))))
fault_exact (Some m) command fault.Replacing met = inr (inr (inr (inr (inl (refl, met.replacing refl, met.unrefused refl)))))

pub fault_text : (old : Option Files) (command : Option Command) (f : Fault) (text : List ℕ) → text ≡ fault_line f → IsText old command (fault_status f) text
fault_text old command fault.Reading text e = e
fault_text old command fault.Replacing text e = e

fault_isnt : (f : Fault) → fault_status f ≡ status.Ok → ⊥
fault_isnt fault.Reading e = cc
fault_isnt fault.Replacing e = cc

fault_unrefused : (f : Fault) → IsUnrefused (fault_status f)
fault_unrefused fault.Reading = inr (inl refl)
fault_unrefused fault.Replacing = inr (inr refl)

pub replies_fault : (old now : Option Files) (command : Option Command) (f : Fault) (given : Reply) → given.status ≡ fault_status f → string_bytes given.text ≡ fault_line f
    → IsMet old command f → now ≡ old → Replies old now command given
replies_fault old now command f given is line met same =
    record {
      exact = subst (λ s. IfTold old (λ m. IsStatus m command s)) (sym is) (fault_exact old command f met);
      complete = told_unrefused old command given.status (subst IsUnrefused (sym is) (fault_unrefused f));
      text = subst (λ s. IsText old command s (string_bytes given.text)) (sym is) (fault_text old command f (string_bytes given.text) line);
      files = record { done = λ e. absurd (fault_isnt f (sym is ∙ e)); kept = λ isnt. same };
      replayed = kept-files old now command same;
    }

pub no_command_fault : (old : Option Files) (command : Option Command) (f : Fault) (s : Status) → IsMet old command f → command ≡ None → s ≡ status.Usage
no_command_fault old command fault.Reading s met none = let e : is_reader None ≡ true = subst (λ k. is_reader k ≡ true) none (met.reading refl) in cc
no_command_fault old command fault.Replacing s met none = let e : is_writer None ≡ true = subst (λ k. is_writer k ≡ true) none (met.replacing refl) in cc

fault_usage : (f : Fault) → fault_status f ≡ status.Usage → ⊥
fault_usage fault.Reading e = cc
fault_usage fault.Replacing e = cc

pub usage_fault : (command : Option Command) (f : Fault) (given : Reply) → given.status ≡ fault_status f → given.status ≡ status.Usage → command ≡ None
usage_fault command f given is e = absurd (fault_usage f (sym is ∙ e))

counted_at : (read replaced : Type 0) (f : Fault) → (f ≡ fault.Reading → read) → (f ≡ fault.Replacing → replaced) → IsCounted read replaced (fault_status f)
counted_at read replaced fault.Reading a b = record { read_fault = λ e. a refl; replace_fault = λ e. cc }
counted_at read replaced fault.Replacing a b = record { read_fault = λ e. cc; replace_fault = λ e. b refl }

pub counted_fault : (read replaced : Type 0) (f : Fault) (s : Status) → s ≡ fault_status f → (f ≡ fault.Reading → read) → (f ≡ fault.Replacing → replaced) → IsCounted read replaced s
counted_fault read replaced f s is a b = subst (IsCounted read replaced) (sym is) (counted_at read replaced f a b)

-- ---- the status, once the text is written or cut

-- a front of a reply's text hides its status
pub hidden : (old now : Option Files) (read replaced : Type 0) (command : Option Command) (r : Reply) (front rest : List ℕ) → Replies old now command r → IsCounted read replaced r.status
    → string_bytes r.text ≡ front ++ rest → Hides old now read replaced command front
hidden old now read replaced command r front rest replies counted e =
    record { status = r.status; rest = rest; text = subst (IsText old command r.status) e replies.text; counted = counted; files = replies.files }

-- ---- what is accepted

-- where nothing is refused and no count of faults rose, it is Ok or want of memory
pub completed : (old : Option Files) (command : Option Command) (s : Status) (read replaced : Type 0)
    → IfTold old (λ m. Accepts m command → IsUnrefused s) → IsCounted read replaced s → (read → ⊥) → (replaced → ⊥)
    → IfTold old (λ m. Accepts m command → (s ≡ status.Ok) ⊎ (s ≡ status.Memory))
completed None command s read replaced unrefused counted none_read none_replaced = tt
completed (Some m) command s read replaced unrefused counted none_read none_replaced = λ accepts. by (unrefused accepts)
  where
    by : IsUnrefused s → (s ≡ status.Ok) ⊎ (s ≡ status.Memory)
    by (inl ok) = inl ok
    by (inr (inl fault)) = absurd (none_read (counted.read_fault fault))
    by (inr (inr fault)) = absurd (none_replaced (counted.replace_fault fault))
