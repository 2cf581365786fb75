-- The tree of a list of tokens, read as the pending list goes, with what each entry came to.
use Rattle.std.specs.Prelude.{ℕ, ℤ, pos, neg_ℤ, List, [], ◌∷◌, Option, Some, None, option_map, nat_le, if◌then◌else◌}
use Rattle.semantics.specs.Most.{most_shift}
use Rattle.semantics.specs.Term as t
use Rattle.semantics.specs.Term.{Term, Range, QueryTerm}
use Rattle.expr_parse.specs.declared.lexeme.Lexeme.{Lexeme}
use Rattle.expr_parse.specs.declared.lexeme.Lexeme.TheVariants.{Number, Named, Sum, VarNum, CovNum, Const, Shift, Open, Close, Comma, Plus, Minus, Times}
use Rattle.expr_parse.specs.Pending.{Pending, query, more_query, series, more_series, ends, whole, place, number, near, name, open_sign, close_sign, comma_sign}

-- the operators behind a factor, each with its factor
pub data More (T : Type 0) : Type 0 where
  end : More T
  plus : T → More T → More T
  minus : T → More T → More T
  times : T → More T → More T

-- the tree of a factor and the operators behind it, where `sum` is what is done with a product: all from the left,
-- products first
abbrev pub query_chain : (QueryTerm → QueryTerm) → QueryTerm → More QueryTerm → QueryTerm
query_chain s q end = s q
query_chain s q (plus f more) = query_chain (t.add (s q)) f more
query_chain s q (minus f more) = query_chain (t.sub (s q)) f more
query_chain s q (times f more) = query_chain s (t.mul q f) more

abbrev pub series_chain : (Term → Term) → Term → More Term → Term
series_chain s u end = s u
series_chain s u (plus f more) = series_chain (t.plus (s u)) f more
series_chain s u (minus f more) = series_chain (t.minus (s u)) f more
series_chain s u (times f more) = series_chain s (t.times u f) more

abbrev pub query_tree : QueryTerm × More QueryTerm → QueryTerm
query_tree c = query_chain (λ q. q) c.0 c.1

abbrev pub series_tree : Term × More Term → Term
series_tree c = series_chain (λ u. u) c.0 c.1

-- what pending entries come to
abbrev pub Parts : List Pending → Type 0
Parts [] = Unit {0}
Parts (query ∷ es) = (QueryTerm × More QueryTerm) × Parts es
Parts (more_query ∷ es) = More QueryTerm × Parts es
Parts (series ∷ es) = (Term × More Term) × Parts es
Parts (more_series ∷ es) = More Term × Parts es
Parts (ends ∷ es) = Option Range × Parts es
Parts (whole ∷ es) = ℤ × Parts es
Parts (place ∷ es) = ℤ × Parts es
Parts (number ∷ es) = ℕ × Parts es
Parts (near ∷ es) = ℕ × Parts es
Parts (name ∷ es) = List ℕ × Parts es
Parts (_ ∷ es) = Parts es

-- where no token is left
abbrev pub at_end : (es : List Pending) → Option (Parts es)
at_end [] = Some tt
at_end (more_query ∷ es) = option_map (λ p. (end, p)) (at_end es)
at_end (more_series ∷ es) = option_map (λ p. (end, p)) (at_end es)
at_end (_ ∷ es) = None

abbrev pub range_from : ℤ → ℤ → Range
range_from l r = record { left = l; right = r }

-- at a token, where `rest` says what any entries come to behind it
abbrev pub step : Lexeme → ((es : List Pending) → Option (Parts es)) → (es : List Pending) → Option (Parts es)
step t rest [] = None
step (Number n) rest (query ∷ es) = option_map (λ p. ((t.number (pos n), p.0), p.1)) (rest (more_query ∷ es))
step Minus rest (query ∷ es) =
    option_map (λ p. ((t.number (neg_ℤ (pos p.0)), p.1.0), p.1.1)) (rest (number ∷ more_query ∷ es))
step Open rest (query ∷ es) =
    option_map (λ p. ((query_tree p.0, p.1.0), p.1.1)) (rest (query ∷ close_sign ∷ more_query ∷ es))
step Sum rest (query ∷ es) =
    option_map (λ p. ((t.sum (series_tree p.0) p.1.0, p.1.1.0), p.1.1.1))
    (rest (open_sign ∷ series ∷ ends ∷ more_query ∷ es))
step VarNum rest (query ∷ es) =
    option_map (λ p. ((t.variance (series_tree p.0) (range_from p.1.0 p.1.1.0), p.1.1.1.0), p.1.1.1.1))
    (rest (open_sign ∷ series ∷ comma_sign ∷ place ∷ comma_sign ∷ place ∷ close_sign ∷ more_query ∷ es))
step CovNum rest (query ∷ es) =
    option_map
    (λ p. (
      (t.covariance (series_tree p.0) (series_tree p.1.0) (range_from p.1.1.0 p.1.1.1.0), p.1.1.1.1.0),
      p.1.1.1.1.1,
    ))
    (rest (open_sign ∷ series ∷ comma_sign ∷ series ∷ comma_sign ∷ place ∷ comma_sign ∷ place
    ∷ close_sign ∷ more_query ∷ es))
step Plus rest (more_query ∷ es) = option_map (λ p. (plus p.0.0 p.0.1, p.1)) (rest (query ∷ es))
step Minus rest (more_query ∷ es) = option_map (λ p. (minus p.0.0 p.0.1, p.1)) (rest (query ∷ es))
step Times rest (more_query ∷ es) = option_map (λ p. (times p.0.0 p.0.1, p.1)) (rest (query ∷ es))
step t rest (more_query ∷ es) = option_map (λ p. (end, p)) (step t rest es)
step (Named n) rest (series ∷ es) = option_map (λ p. ((t.base n, p.0), p.1)) (rest (more_series ∷ es))
step (Number n) rest (series ∷ es) = option_map (λ p. ((t.bare (pos n), p.0), p.1)) (rest (more_series ∷ es))
step Minus rest (series ∷ es) =
    option_map (λ p. ((t.bare (neg_ℤ (pos p.0)), p.1.0), p.1.1)) (rest (number ∷ more_series ∷ es))
step Open rest (series ∷ es) =
    option_map (λ p. ((series_tree p.0, p.1.0), p.1.1)) (rest (series ∷ close_sign ∷ more_series ∷ es))
step Const rest (series ∷ es) =
    option_map (λ p. ((t.constant p.0 p.1.0 p.1.1.0, p.1.1.1.0), p.1.1.1.1))
    (rest (open_sign ∷ whole ∷ comma_sign ∷ place ∷ comma_sign ∷ place ∷ close_sign ∷ more_series ∷ es))
step Shift rest (series ∷ es) =
    option_map (λ p. ((t.shift (series_tree p.0) p.1.0, p.1.1.0), p.1.1.1))
    (rest (open_sign ∷ series ∷ comma_sign ∷ place ∷ close_sign ∷ more_series ∷ es))
step Plus rest (more_series ∷ es) = option_map (λ p. (plus p.0.0 p.0.1, p.1)) (rest (series ∷ es))
step Minus rest (more_series ∷ es) = option_map (λ p. (minus p.0.0 p.0.1, p.1)) (rest (series ∷ es))
step Times rest (more_series ∷ es) = option_map (λ p. (times p.0.0 p.0.1, p.1)) (rest (series ∷ es))
step t rest (more_series ∷ es) = option_map (λ p. (end, p)) (step t rest es)
step Comma rest (ends ∷ es) =
    option_map (λ p. (Some (range_from p.0 p.1.0), p.1.1))
    (rest (place ∷ comma_sign ∷ place ∷ close_sign ∷ es))
step Close rest (ends ∷ es) = option_map (λ p. (None, p)) (rest es)
step (Number n) rest (whole ∷ es) = option_map (λ p. (pos n, p)) (rest es)
step Minus rest (whole ∷ es) = option_map (λ p. (neg_ℤ (pos p.0), p.1)) (rest (number ∷ es))
step (Number n) rest (place ∷ es) = if nat_le n most_shift then option_map (λ p. (pos n, p)) (rest es) else None
step Minus rest (place ∷ es) = option_map (λ p. (neg_ℤ (pos p.0), p.1)) (rest (near ∷ es))
step (Number n) rest (number ∷ es) = option_map (λ p. (n, p)) (rest es)
step (Number n) rest (near ∷ es) = if nat_le n most_shift then option_map (λ p. (n, p)) (rest es) else None
step Open rest (open_sign ∷ es) = rest es
step Close rest (close_sign ∷ es) = rest es
step Comma rest (comma_sign ∷ es) = rest es
step t rest (_ ∷ es) = None

-- what entries come to on tokens, which they take all; None where they stick
abbrev pub read : List Lexeme → (es : List Pending) → Option (Parts es)
read [] es = at_end es
read (t ∷ ts) es = step t (read ts) es

-- the tree of a whole list of tokens
unfoldable pub tree_of : List Lexeme → Option QueryTerm
tree_of ts = option_map (λ p. query_tree p.0) (read ts (query ∷ []))
