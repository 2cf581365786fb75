-- `new` by its steps.
use Rattle.std.proofs.Common.{◌≡◌, ◌∙◌, ◌≤◌, ℕ, List, Option, Some, None, refl, ap, inr}
use Rattle.semantics.specs.Files.{Files, IfTold, with_file}
use Rattle.store_file.specs.StoreValue.{store_image}
use Rattle.query_cli.specs.Commands.{new_store}
use Rattle.query_cli.specs.Commands.New.{NewCommand, new_line}
use Rattle.query_cli.specs.Reading.{missing, reading_in}
use Rattle.query_cli.specs.Replay.{empty_store}
use Rattle.query_cli.specs.Run.{IsDone}
use Rattle.semantics.specs.Most.{most_scale}
use Rattle.query_cli.specs.Words.{most_degree}
use Rattle.query_cli.proofs.StepLaws.{came}

pub new_done : (c : NewCommand) (files now : Option Files) (bytes text : List ℕ) → c.scale ≤ most_scale → c.degree ≤ most_degree → text ≡ new_line
    → bytes ≡ store_image (empty_store c.scale c.degree) → IfTold files (λ m. now ≡ Some (with_file m c.store bytes)) → IsDone files now (Some (new_store c)) text
new_done c None now bytes text few square line is written =
    record { answer = record { reading = came None missing missing; read = tt; accepted = refl; answer = line }; files = tt; replayed = tt }
new_done c (Some m) now bytes text few square line is written =
    let replaced : now ≡ Some (with_file m c.store (store_image (empty_store c.scale c.degree))) = written ∙ ap (λ b. Some (with_file m c.store b)) is in
    record {
      answer = record { reading = reading_in m; read = refl; accepted = refl; answer = line };
      files = replaced;
      replayed = inr (record { history = ((few, square), tt); files = replaced });
    }
