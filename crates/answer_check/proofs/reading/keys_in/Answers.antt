use Rattle.std.proofs.Common.{Some, ap, sym, ◌∙◌, option_map}
use Rattle.serde_json.specs.Events.{members_len}
use Rattle.serde_json.proofs.Views.{members_len-members_view}
use Rattle.answer_check.proofs.reading.keys_in.Goals as goal

pub returns-in-Some : goal.returns-in-Some
returns-in-Some c =
    ap Some (c.len.ensures.len ∙ sym (members_len-members_view c.in-Some.members.now.entries)) ∙ ap (option_map members_len) c.in-Some.ensures
