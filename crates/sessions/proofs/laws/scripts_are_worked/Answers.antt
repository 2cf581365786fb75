use Rattle.std.proofs.Common.{refl}
use Rattle.sessions.specs.Script.{script_of}
use Rattle.sessions.proofs.laws.scripts_are_worked.Goals as goal

pub returns-clause-lines : goal.returns-clause-lines
returns-clause-lines c = record { opening = refl; any_bytes = refl; no_query = refl; no_third_space = refl; no_budget = refl; step = refl; no_slot = refl; slot_alone = refl; two_spaces = refl; show = refl; close = refl; behind_slot = refl; append = refl; greatest = refl; too_great = refl; no_readings = refl; no_number = refl; no_name = refl; save = refl; behind_save = refl; other = refl }

pub returns-clause-scripts : goal.returns-clause-scripts
unfolding script_of
returns-clause-scripts c = record { none = refl; ends = refl; last_end = refl; empty_lines = refl; numbered = refl; first = refl; return_stays = refl; one_return = refl }

pub returns-clause-replies : goal.returns-clause-replies
returns-clause-replies c = record { saved = refl; deep = refl; unknown_name = refl; unknown = refl; too_long = refl; full = refl }
