use Rattle.std.proofs.Common.{◌≡◌, Some, subst, ◌∙◌}
use Rattle.std.specs.BTreeMap.{Updates}
use Rattle.std.specs.String.{string_cmp}
use Rattle.outside.proofs.FileLaws.{files_of-updated}
use Rattle.outside.proofs.map_files.put.Goals as goal

pub returns-in-Ok-clause-ok : goal.returns-in-Ok-clause-ok
returns-in-Ok-clause-ok c =
    let held : c.of.result ≡ c.args.bytes.now = c.of.ensures ∙ c.in_ok-held.ensures.items in
    files_of-updated c.args.files.now c.insert.new.self c.in_ok-name.name c.args.name.now c.args.bytes.now c.in_ok-name.ensures.ok
    (subst (λ v. Updates string_cmp c.args.files.now c.insert.new.self c.in_ok-name.name (Some v)) held c.in-Ok.ensures.updates)
