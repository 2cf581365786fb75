-- Bytes that spell no value.
use Rattle.std.proofs.Common.{◌≡◌, ℕ, Bool, true, false, cond, List, refl}
use Rattle.std.specs.Prelude.{Option, None}
use Rattle.std.specs.Str.{IsUtf8, is_utf8}
use Rattle.std.proofs.lemmas.Str.{IsUtf8-from_is_utf8}
use Rattle.serde_json.specs.Data.{Data}
use Rattle.serde_json.specs.Read.{read}
use Rattle.answer_check.specs.Json.{json_in}

pub none_spelled : (bytes : List ℕ) → (IsUtf8 bytes → read bytes ≡ None) → json_in bytes ≡ None
none_spelled bytes h = by (is_utf8 bytes) refl
  where
    by : (b : Bool) → is_utf8 bytes ≡ b → cond {A = Option Data} b (read bytes) None ≡ None
    by true e = h (IsUtf8-from_is_utf8 bytes e)
    by false e = refl
