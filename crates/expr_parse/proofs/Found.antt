-- The rules of the grammar, by equations.
use Rattle.std.proofs.Common.{◌≡◌, ℕ, ◌≤◌, ◌^◌, ℤ, pos, unsigned_abs, List, ◌∷◌}
use Rattle.std.specs.Prelude.{neg_ℤ}
use Rattle.expr_parse.specs.declared.lexeme.Lexeme.{Lexeme}
use Rattle.semantics.specs.Term.{Term, Range, base, constant, bare, plus, minus, times, shift}
use Rattle.expr_parse.specs.declared.lexeme.Lexeme.TheVariants.{Number, Named, Minus, Open, Close, Comma, Const, Shift, Plus, Times}
use Rattle.expr_parse.specs.SeriesGrammar.{IsWhole, IsPlace, IsRange, IsSeries, IsProduct, IsFactor, plus_product, minus_product, times_factor, positive, negative, const, shifted, name, grouped, whole}

pub positive_at : (ts rest : List Lexeme) (v : ℤ) (n : ℕ) → ts ≡ Number n ∷ rest → v ≡ pos n → IsWhole ts rest v
positive_at ts rest v n e f = rw (e, f) positive

pub negative_at : (ts more rest : List Lexeme) (v : ℤ) (n : ℕ) → ts ≡ Minus ∷ more → more ≡ Number n ∷ rest → v ≡ neg_ℤ (pos n) → IsWhole ts rest v
negative_at ts more rest v n e f g = rw (e, f, g) negative

pub near_at : (v w : ℤ) → v ≡ w → unsigned_abs w ≤ 2 ^ 40 → unsigned_abs v ≤ 2 ^ 40
near_at v w e h = rw e h

pub constant_at : (ts first mid rest : List Lexeme) (v : ℤ) (b : Range) (t : Term) → ts ≡ Open ∷ first → IsWhole first mid v → IsRange mid rest b → t ≡ constant v b.left b.right → IsFactor (Const ∷ ts) rest t
constant_at ts first mid rest v b t e w r f = rw (e, f) (const w r)

pub shift_at : (ts first mid second last rest : List Lexeme) (t u : Term) (k : ℤ) → ts ≡ Open ∷ first → IsSeries first mid u → mid ≡ Comma ∷ second → IsPlace second last k → last ≡ Close ∷ rest → t ≡ shift u k → IsFactor (Shift ∷ ts) rest t
shift_at ts first mid second last rest t u k e s f p g h = rw (e, h) (shifted (rw f at s) (rw g at p))

pub name_at : (ts rest : List Lexeme) (t : Term) (n : List ℕ) → ts ≡ Named n ∷ rest → t ≡ base n → IsFactor ts rest t
name_at ts rest t n e f = rw (e, f) name

pub grouped_at : (ts first mid rest : List Lexeme) (t : Term) → ts ≡ Open ∷ first → IsSeries first mid t → mid ≡ Close ∷ rest → IsFactor ts rest t
grouped_at ts first mid rest t e s f = rw e (grouped (rw f at s))

pub whole_at : (ts rest : List Lexeme) (v : ℤ) (t : Term) → IsWhole ts rest v → t ≡ bare v → IsFactor ts rest t
whole_at ts rest v t w e = rw e (whole w)

pub word_at : (ts first rest : List Lexeme) (w : Lexeme) (t : Term) → ts ≡ w ∷ first → IsFactor (w ∷ first) rest t → IsFactor ts rest t
word_at ts first rest w t e f = rw e f

pub bare_at : (ts rest : List Lexeme) (v : ℤ) (t : Term) (n : ℕ) → ts ≡ Number n ∷ rest → v ≡ pos n → t ≡ bare v → IsFactor ts rest t
bare_at ts rest v t n e f g = rw (e, g, f) (whole positive)

pub plus_at : (ts rest more after : List Lexeme) (t u v : Term) → IsSeries ts rest u → rest ≡ Plus ∷ more → IsProduct more after v → t ≡ plus u v → IsSeries ts after t
plus_at ts rest more after t u v a e p f = rw f (plus_product (rw e at a) p)

pub minus_at : (ts rest more after : List Lexeme) (t u v : Term) → IsSeries ts rest u → rest ≡ Minus ∷ more → IsProduct more after v → t ≡ minus u v → IsSeries ts after t
minus_at ts rest more after t u v a e p f = rw f (minus_product (rw e at a) p)

pub times_at : (ts rest more after : List Lexeme) (t u v : Term) → IsProduct ts rest u → rest ≡ Times ∷ more → IsFactor more after v → t ≡ times u v → IsProduct ts after t
times_at ts rest more after t u v a e p f = rw f (times_factor (rw e at a) p)
