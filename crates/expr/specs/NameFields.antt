-- A name as its fields: a length, and bytes that are zero past it.
use Rattle.std.specs.Prelude.{ℕ, ◌≡◌, ◌≤◌, ◌-◌, List, ◌++◌, length, take, replicate, true, refl}
use Rattle.semantics.specs.Names.{is_name}
use Rattle.expr.specs.declared.name.Name.TheInside.{Inside}

abbrev pub text_of : Inside → List ℕ
text_of fields = take fields.len fields.bytes

abbrev pub padded : List ℕ → List ℕ
padded text = text ++ replicate (32 - length text) 0

pub record IsNameFields (fields : Inside) : Type 0 where
  pub few : fields.len ≤ 32
  pub len : length (take fields.len fields.bytes) ≡ fields.len
  pub zeros : padded (take fields.len fields.bytes) ≡ fields.bytes
  pub name : is_name (take fields.len fields.bytes) ≡ true

abbrev pub fields_of : List ℕ → Inside
fields_of text = record { len = length text; bytes = padded text }

pub fields_of-text_of : (fields : Inside) → IsNameFields fields → fields_of (text_of fields) ≡ fields
fields_of-text_of fields h = rw (h.zeros, h.len) refl
