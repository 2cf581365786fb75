-- Texts whose records are their lines: those with no quote and no carriage return.
use Rattle.std.specs.Prelude.{ℕ, List, [], ◌∷◌, ◌++◌, Bool, not, ◌==◌, ◌||◌, if◌then◌else◌}
use Rattle.std.specs.List.{list_all}

abbrev pub is_comma : ℕ → Bool
is_comma byte = byte == 44

abbrev pub is_line_feed : ℕ → Bool
is_line_feed byte = byte == 10

-- neither a quote nor a carriage return
abbrev pub is_plain_byte : ℕ → Bool
is_plain_byte byte = not (byte == 34 || byte == 13)

abbrev pub is_plain_text : List ℕ → Bool
is_plain_text text = list_all is_plain_byte text

-- the fields of a line, behind the bytes of the field at hand
unfoldable pub fields_on : List ℕ → List ℕ → List (List ℕ)
fields_on field [] = field ∷ []
fields_on field (byte ∷ line) =
    if is_comma byte then field ∷ fields_on [] line else fields_on (field ++ byte ∷ []) line

-- the fields of a line, which stand between commas
abbrev pub fields_in : List ℕ → List (List ℕ)
fields_in line = fields_on [] line
