-- Going over the series of a cut in order.
use Rattle.std.proofs.Common.{◌≡◌, ℕ, zero, suc, ◌<◌, List, [], ◌∷◌, ◌++◌, length, take, get_or, sym, ap, arith}
use Rattle.descent.specs.Held.{Held, row_in, shown}
use Rattle.descent.specs.Rows.{Track, with_rows}

pub shown-more : {I : Type 0} → (ts : List (Track (Held I))) (i : ℕ) (t : Track (Held I)) → i < length ts → t ≡ get_or ts i t → shown (take (suc i) ts) ≡ shown (take i ts) ++ with_rows row_in t ∷ []
shown-more [] i t lt e = absurd (omega arith)
shown-more (x ∷ ts) zero t lt e = ap (λ (u : Track (Held _)). with_rows row_in u ∷ []) (sym e)
shown-more (x ∷ ts) (suc i) t lt e = ap (λ us. with_rows row_in x ∷ us) (shown-more ts i t (omega arith) e)
