-- The canonical text of a query: no blanks, canonical digits, and parentheses only where the tree needs them.
use Rattle.std.specs.Prelude.{ℕ, Bool, true, false, List, [], ◌++◌, codes, Option, Some, None, if◌then◌else◌}
use Rattle.std.specs.Fmt.{signed_decimal}
use Rattle.semantics.specs.Term.{Term, base, constant, bare, plus, minus, times, shift, Range, QueryTerm, number, sum, variance, covariance, add, sub, mul}
use Rattle.expr_parse.specs.declared.canonical.Level.{Level}
use Rattle.expr_parse.specs.declared.canonical.Level.TheVariants.{OfSum, OfProduct, OfFactor}

-- a sum stands in parentheses but alone or as the left operand of a sum
abbrev pub groups_sum : Level → Bool
groups_sum OfSum = false
groups_sum OfProduct = true
groups_sum OfFactor = true

-- a product stands in parentheses as the right operand of a product
abbrev pub groups_product : Level → Bool
groups_product OfSum = false
groups_product OfProduct = false
groups_product OfFactor = true

abbrev pub opened : Bool → List ℕ
opened grouped = if grouped then codes "(" else []

abbrev pub closed : Bool → List ℕ
closed grouped = if grouped then codes ")" else []

-- the end of what has a range
abbrev pub range_text : Range → List ℕ
range_text range = codes "," ++ signed_decimal range.left ++ codes "," ++ signed_decimal range.right ++ codes ")"

abbrev pub series_text : Level → Term → List ℕ
series_text level (base name) = name
series_text level (bare v) = signed_decimal v
series_text level (constant v a b) = codes "const(" ++ signed_decimal v ++ range_text (record { left = a; right = b })
series_text level (shift u k) = codes "shift(" ++ series_text OfSum u ++ codes "," ++ signed_decimal k ++ codes ")"
series_text level (plus u v) =
    opened (groups_sum level) ++ series_text OfSum u ++ codes "+" ++ series_text OfProduct v
    ++ closed (groups_sum level)
series_text level (minus u v) =
    opened (groups_sum level) ++ series_text OfSum u ++ codes "-" ++ series_text OfProduct v
    ++ closed (groups_sum level)
series_text level (times u v) =
    opened (groups_product level) ++ series_text OfProduct u ++ codes "*" ++ series_text OfFactor v
    ++ closed (groups_product level)

-- how a sum ends, over its range or over its whole domain
abbrev pub ends_text : Option Range → List ℕ
ends_text (Some range) = range_text range
ends_text None = codes ")"

abbrev pub query_text : Level → QueryTerm → List ℕ
query_text level (number v) = signed_decimal v
query_text level (sum t range) = codes "sum(" ++ series_text OfSum t ++ ends_text range
query_text level (variance t range) = codes "varnum(" ++ series_text OfSum t ++ range_text range
query_text level (covariance t u range) =
    codes "covnum(" ++ series_text OfSum t ++ codes "," ++ series_text OfSum u ++ range_text range
query_text level (add p q) =
    opened (groups_sum level) ++ query_text OfSum p ++ codes "+" ++ query_text OfProduct q ++ closed (groups_sum level)
query_text level (sub p q) =
    opened (groups_sum level) ++ query_text OfSum p ++ codes "-" ++ query_text OfProduct q ++ closed (groups_sum level)
query_text level (mul p q) =
    opened (groups_product level) ++ query_text OfProduct p ++ codes "*" ++ query_text OfFactor q
    ++ closed (groups_product level)

abbrev pub canonical_text : QueryTerm → List ℕ
canonical_text q = query_text OfSum q
