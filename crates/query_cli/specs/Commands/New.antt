-- `new`: an empty store in a file.
use Rattle.std.specs.Prelude.{ℕ, List, codes, Option, Some, None, if◌then◌else◌}
use Rattle.semantics.specs.Files.{Files, with_file}
use Rattle.store_file.specs.StoreValue.{store_image}
use Rattle.query_cli.specs.Replay.{empty_store}
use Rattle.semantics.specs.Most.{most_scale}
use Rattle.query_cli.specs.Words.{digit_up_to, is_file, most_degree, word}

-- an empty store of a scale and a degree in a file
pub record NewCommand : Type 0 where
  pub store : List ℕ
  pub scale : ℕ
  pub degree : ℕ

-- the digits of `new`, where each is one
abbrev pub with_digits : List ℕ → Option ℕ → Option ℕ → Option NewCommand
with_digits store (Some scale) (Some degree) = Some (record { store = store; scale = scale; degree = degree })
with_digits store (Some scale) None = None
with_digits store None degree = None

-- `new STORE SCALE DEGREE`
abbrev pub new_of : List (List ℕ) → Option NewCommand
new_of words =
    if is_file (word words 1) then
    with_digits (word words 1) (digit_up_to most_scale (word words 2)) (digit_up_to most_degree (word words 3))
    else None

abbrev pub files_after_new : Files → NewCommand → Files
files_after_new files c = with_file files c.store (store_image (empty_store c.scale c.degree))

abbrev pub new_line : List ℕ
new_line = codes "new\n"
