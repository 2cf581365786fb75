-- The line of each reply.
use Rattle.std.specs.Prelude.{ℕ, List, [], ◌++◌, codes}
use Rattle.std.specs.Fmt.{decimal, signed_decimal}
use Rattle.interval.specs.Interval.{Interval}
use Rattle.expr.specs.declared.admission.AdmitErr.{AdmitErr}
use Rattle.expr.specs.declared.admission.AdmitErr.TheVariants as admission
use Rattle.expr_parse.specs.declared.error.ParseErr.{ParseErr}
use Rattle.expr_parse.specs.declared.error.ParseErr.TheVariants as text
use Rattle.sessions.specs.declared.replies.Cause.{Cause}
use Rattle.sessions.specs.declared.replies.Cause.TheVariants.{Parse, Admit, Unknown, TooLong, ArenaFull}
use Rattle.sessions.specs.declared.replies.Reply.{Reply}
use Rattle.sessions.specs.declared.replies.Reply.TheVariants.{Opened, Now, Done, Closed, Appended, Saved, SlotBusy, SlotFree, Refused}

-- why a text is no query; want of memory has no line
abbrev pub parse_line : ParseErr → List ℕ
parse_line (text.At place) = codes "query at " ++ decimal place ++ codes "\n"
parse_line text.TooLong = codes "query too long\n"
parse_line text.TooDeep = codes "query too deep\n"
parse_line text.TooManySums = codes "query too many sums\n"
parse_line text.TooManyNames = codes "query too many names\n"
parse_line text.Memory = []

-- why a query is not admitted
abbrev pub admit_line : AdmitErr → List ℕ
admit_line (admission.Unknown name) = codes "query unknown " ++ name ++ codes "\n"
admit_line (admission.Rank sum) = codes "query rank " ++ decimal sum ++ codes "\n"
admit_line (admission.Domain sum lo hi) =
    codes "domain " ++ decimal sum ++ codes " " ++ signed_decimal lo ++ codes " " ++ signed_decimal hi ++ codes "\n"
admit_line (admission.Range node) = codes "range " ++ decimal node ++ codes "\n"

abbrev pub cause_line : Cause → List ℕ
cause_line (Parse e) = parse_line e
cause_line (Admit e) = admit_line e
cause_line (Unknown name) = codes "series unknown " ++ name ++ codes "\n"
cause_line (TooLong name) = codes "series too long " ++ name ++ codes "\n"
cause_line ArenaFull = codes "arena full\n"

-- a word, a slot and an interval
abbrev pub interval_line : List ℕ → ℕ → Interval → List ℕ
interval_line word slot iv =
    word ++ codes " " ++ decimal slot ++ codes " " ++ signed_decimal iv.lo ++ codes " " ++ signed_decimal iv.hi
    ++ codes "\n"

abbrev pub slot_line : List ℕ → ℕ → List ℕ
slot_line word slot = word ++ codes " " ++ decimal slot ++ codes "\n"

abbrev pub reply_line : Reply → List ℕ
reply_line (Opened slot iv) = interval_line (codes "opened") slot iv
reply_line (Now slot iv) = interval_line (codes "now") slot iv
reply_line (Done slot iv) = interval_line (codes "done") slot iv
reply_line (Closed slot) = slot_line (codes "closed") slot
reply_line (Appended name added total) =
    codes "appended " ++ name ++ codes " " ++ decimal added ++ codes " " ++ decimal total ++ codes "\n"
reply_line Saved = codes "saved\n"
reply_line (SlotBusy slot) = slot_line (codes "busy") slot
reply_line (SlotFree slot) = slot_line (codes "free") slot
reply_line (Refused cause) = codes "refused " ++ cause_line cause
