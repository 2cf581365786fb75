-- Some texts, by the definitions alone.
use Rattle.std.proofs.Common.{◌≡◌, pos, refl}
use Rattle.std.specs.Prelude.{codes, Ok, Err, Some}
use Rattle.semantics.specs.Term.{number, sum, sub, mul, base}
use Rattle.expr_parse.specs.declared.error.ParseErr.TheVariants as refusal
use Rattle.expr_parse.specs.Tokens.{tokens_of, front}
use Rattle.expr_parse.specs.Reading.{tree_of}
use Rattle.expr_parse.specs.Parsed.{parsed}

two_numbers : parsed (codes "1 2") ≡ Err (refusal.At 2)
unfolding parsed tokens_of front tree_of
two_numbers = refl

closed_twice : parsed (codes "sum(x))") ≡ Err (refusal.At 6)
unfolding parsed tokens_of front tree_of
closed_twice = refl

no_series : parsed (codes "sum(,") ≡ Err (refusal.At 4)
unfolding parsed tokens_of front tree_of
no_series = refl

at_the_end : parsed (codes "sum(x,0,") ≡ Err (refusal.At 8)
unfolding parsed tokens_of front tree_of
at_the_end = refl

grouped : parsed (codes "2*(3 - 5)") ≡ Ok (mul (number (pos 2)) (sub (number (pos 3)) (number (pos 5))))
unfolding parsed tokens_of front tree_of
grouped = refl

from_the_left : parsed (codes "1-2-sum(x, 0, 4)") ≡ Ok (sub (sub (number (pos 1)) (number (pos 2))) (sum (base (codes "x")) (Some (record { left = pos 0; right = pos 4 }))))
unfolding parsed tokens_of front tree_of
from_the_left = refl
