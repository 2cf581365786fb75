-- The grammar of a series. `IsSeries ts rest t`: from the tokens ts a series is read that leaves the tokens rest, and
-- its term is t.
use Rattle.std.specs.Prelude.{ℕ, ◌≤◌, ℤ, pos, neg_ℤ, unsigned_abs, List, ◌∷◌}
use Rattle.semantics.specs.Most.{most_shift}
use Rattle.semantics.specs.Term.{Term, Range, base, constant, bare, plus, minus, times, shift}
use Rattle.expr_parse.specs.declared.lexeme.Lexeme.{Lexeme}
use Rattle.expr_parse.specs.declared.lexeme.Lexeme.TheVariants.{Number, Named, Const, Shift, Open, Close, Comma, Plus, Minus, Times}

-- whole = number | "-" number
pub data IsWhole : List Lexeme → List Lexeme → ℤ → Type 0 where
  positive : {n : ℕ} {rest : List Lexeme} → IsWhole (Number n ∷ rest) rest (pos n)
  negative : {n : ℕ} {rest : List Lexeme} → IsWhole (Minus ∷ Number n ∷ rest) rest (neg_ℤ (pos n))

-- place = number | "-" number, of magnitude at most 2^40
abbrev pub IsPlace : List Lexeme → List Lexeme → ℤ → Type 0
IsPlace ts rest v = IsWhole ts rest v × (unsigned_abs v ≤ most_shift)

-- the end of what has a range: "," place "," place ")"
pub data IsRange : List Lexeme → List Lexeme → Range → Type 0 where
  range : {ts mid rest : List Lexeme} {l r : ℤ} → IsPlace ts (Comma ∷ mid) l → IsPlace mid (Close ∷ rest) r
      → IsRange (Comma ∷ ts) rest (record { left = l; right = r })

mutual
  -- series = sterm { ("+" | "-") sterm }, from the left
  pub data IsSeries : List Lexeme → List Lexeme → Term → Type 0 where
    product : {ts rest : List Lexeme} {t : Term} → IsProduct ts rest t → IsSeries ts rest t
    plus_product : {ts mid rest : List Lexeme} {u v : Term} → IsSeries ts (Plus ∷ mid) u → IsProduct mid rest v
        → IsSeries ts rest (plus u v)
    minus_product : {ts mid rest : List Lexeme} {u v : Term} → IsSeries ts (Minus ∷ mid) u → IsProduct mid rest v
        → IsSeries ts rest (minus u v)

  -- sterm = sfactor { "*" sfactor }, from the left
  pub data IsProduct : List Lexeme → List Lexeme → Term → Type 0 where
    factor : {ts rest : List Lexeme} {t : Term} → IsFactor ts rest t → IsProduct ts rest t
    times_factor : {ts mid rest : List Lexeme} {u v : Term} → IsProduct ts (Times ∷ mid) u → IsFactor mid rest v
        → IsProduct ts rest (times u v)

  -- sfactor = name | number | "-" number | "(" series ")" | "const" "(" whole "," place "," place ")"
  --         | "shift" "(" series "," place ")"
  pub data IsFactor : List Lexeme → List Lexeme → Term → Type 0 where
    name : {n : List ℕ} {rest : List Lexeme} → IsFactor (Named n ∷ rest) rest (base n)
    whole : {ts rest : List Lexeme} {v : ℤ} → IsWhole ts rest v → IsFactor ts rest (bare v)
    grouped : {ts rest : List Lexeme} {t : Term} → IsSeries ts (Close ∷ rest) t → IsFactor (Open ∷ ts) rest t
    const : {ts mid rest : List Lexeme} {v : ℤ} {b : Range} → IsWhole ts mid v → IsRange mid rest b
        → IsFactor (Const ∷ Open ∷ ts) rest (constant v b.left b.right)
    shifted : {ts mid rest : List Lexeme} {t : Term} {k : ℤ} → IsSeries ts (Comma ∷ mid) t
        → IsPlace mid (Close ∷ rest) k → IsFactor (Shift ∷ Open ∷ ts) rest (shift t k)
