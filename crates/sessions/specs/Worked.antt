-- Worked lines of scripts and of replies.
use Rattle.std.specs.Prelude.{◌≡◌, ℕ, pos, negsuc, List, [], ◌∷◌, ◌++◌, codes, Some, None, Ok, Err}
use Rattle.expr.specs.declared.admission.AdmitErr.TheVariants as admission
use Rattle.expr_parse.specs.declared.error.ParseErr.TheVariants as text
use Rattle.sessions.specs.declared.events.Event.TheVariants.{OpenSlot, StepSlot, ShowSlot, CloseSlot, Append, Save}
use Rattle.sessions.specs.declared.replies.Cause.TheVariants as cause
use Rattle.sessions.specs.declared.replies.Reply.TheVariants.{Saved, Refused}
use Rattle.sessions.specs.declared.scripts.ScriptErr.TheVariants.{Line}
use Rattle.sessions.specs.Replies.{reply_line}
use Rattle.sessions.specs.Script.{event_of, script_of}

abbrev pub x : List ℕ
x = codes "x"

pub record LinesAreWorked : Type 0 where
  pub opening : event_of (codes "open 0 319 sum(x)") ≡ Some (OpenSlot 0 319 (codes "sum(x)"))
  pub any_bytes : event_of (codes "open 15 007  a b ") ≡ Some (OpenSlot 15 7 (codes " a b "))
  pub no_query : event_of (codes "open 0 0 ") ≡ Some (OpenSlot 0 0 [])
  pub no_third_space : event_of (codes "open 0 0") ≡ None
  pub no_budget : event_of (codes "open 0 -1 1") ≡ None
  pub step : event_of (codes "step 015") ≡ Some (StepSlot 15)
  pub no_slot : event_of (codes "step 16") ≡ None
  pub slot_alone : event_of (codes "step") ≡ None
  pub two_spaces : event_of (codes "show  1") ≡ None
  pub show : event_of (codes "show 1") ≡ Some (ShowSlot 1)
  pub close : event_of (codes "close 2") ≡ Some (CloseSlot 2)
  pub behind_slot : event_of (codes "close 2 ") ≡ None
  pub append : event_of (codes "append x 1 -2") ≡ Some (Append x (pos 1 ∷ negsuc 1 ∷ []))
  pub greatest : event_of (codes "append x 1000000000") ≡ Some (Append x (pos 1000000000 ∷ []))
  pub too_great : event_of (codes "append x 1000000001") ≡ None
  pub no_readings : event_of (codes "append x") ≡ None
  pub no_number : event_of (codes "append x ") ≡ None
  pub no_name : event_of (codes "append sum 1") ≡ None
  pub save : event_of (codes "save") ≡ Some Save
  pub behind_save : event_of (codes "save ") ≡ None
  pub other : event_of (codes "Save") ≡ None

pub record ScriptsAreWorked : Type 0 where
  pub none : script_of [] ≡ Ok []
  pub ends : script_of (codes "step 0" ++ 13 ∷ 10 ∷ codes "save") ≡ Ok (StepSlot 0 ∷ Save ∷ [])
  pub last_end : script_of (codes "save" ++ 10 ∷ []) ≡ Ok (Save ∷ [])
  pub empty_lines : script_of (10 ∷ 10 ∷ codes "save" ++ 13 ∷ 10 ∷ 13 ∷ 10 ∷ []) ≡ Ok (Save ∷ [])
  pub numbered : script_of (codes "step 0" ++ 10 ∷ 10 ∷ codes "save ") ≡ Err (Line 3)
  pub first : script_of (codes "step 16" ++ 10 ∷ codes "save ") ≡ Err (Line 1)
  pub return_stays : script_of (codes "save" ++ 13 ∷ []) ≡ Err (Line 1)
  pub one_return : script_of (codes "save" ++ 13 ∷ 13 ∷ 10 ∷ []) ≡ Err (Line 1)

-- those without a number
pub record RepliesAreWorked : Type 0 where
  pub saved : reply_line Saved ≡ codes "saved\n"
  pub deep : reply_line (Refused (cause.Parse text.TooDeep)) ≡ codes "refused query too deep\n"
  pub unknown_name : reply_line (Refused (cause.Admit (admission.Unknown (codes "z"))))
      ≡ codes "refused query unknown z\n"
  pub unknown : reply_line (Refused (cause.Unknown x)) ≡ codes "refused series unknown x\n"
  pub too_long : reply_line (Refused (cause.TooLong x)) ≡ codes "refused series too long x\n"
  pub full : reply_line (Refused cause.ArenaFull) ≡ codes "refused arena full\n"
