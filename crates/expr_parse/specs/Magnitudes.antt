-- A magnitude as its field.
use Rattle.std.specs.Prelude.{ℕ, ◌≤◌, ◌≡◌, refl}
use Rattle.semantics.specs.Most.{most_number}
use Rattle.expr_parse.specs.declared.magnitude.Magnitude.TheInside.{Inside}

abbrev pub value_of : Inside → ℕ
value_of fields = fields.value

abbrev pub IsMagnitude : Inside → Type 0
IsMagnitude fields = fields.value ≤ most_number

abbrev pub fields_of : ℕ → Inside
fields_of n = record { value = n }

pub fields_of-value_of : (fields : Inside) → IsMagnitude fields → fields_of (value_of fields) ≡ fields
fields_of-value_of fields h = refl
