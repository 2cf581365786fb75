-- What an occurrence's segments miss, weighted, is at most the sum over the segments of their greatest weights times their l.
use Rattle.std.proofs.Common.{ℕ, ◌+◌, ◌*◌, ◌≤◌, ℤ, pos, ◌+ℤ◌, Bool, true, false, cond, List, [], ◌∷◌, arith}
use Rattle.std.specs.List.{sum_by}
use Rattle.std.proofs.Math.Nat.{mul-le-mul}
use Rattle.std.proofs.lemmas.List.Sums.{sum_by-cons}
use Rattle.semantics.specs.Sums.{sum_below}
use Rattle.semantics.proofs.SumLaws.{most_below-at}
use Rattle.segment.specs.declared.segments.Seg.{Seg}
use Rattle.bounds.specs.Cut.{most_weight}
use Rattle.bounds.specs.Segments.{covers}
use Rattle.bounds.proofs.Sums.{sum_below-mono, sum_below-add, sum_below-scale, sum_below-zero}
use Rattle.bounds.proofs.Windows.{window_sum}

-- what the segment that covers a position misses by, and 0 where none does
abbrev pub missed : (Seg → ℤ → ℕ) → List Seg → ℤ → ℕ
missed e [] i = 0
missed e (g ∷ gs) i = cond (covers g i) (e g i) (missed e gs i)

-- l is at least what each segment misses by in all
abbrev pub AllMeasured : (Seg → ℤ → ℕ) → List Seg → Type 0
AllMeasured e [] = Unit {0}
AllMeasured e (g ∷ gs) = (sum_below (λ k. e g (pos (g.start + k))) g.len ≤ g.l) × AllMeasured e gs

split_miss : (t : Bool) (w x y : ℕ) → w * cond t x y ≤ (cond t w 0) * (cond t x 0) + w * y
split_miss true w x y = omega arith
split_miss false w x y = omega arith

-- one segment: its greatest weight times its l
one_segment : (n : ℕ) (b : ℤ) (w : ℕ → ℕ) (e : Seg → ℤ → ℕ) (g : Seg) → sum_below (λ k. e g (pos (g.start + k))) g.len ≤ g.l → sum_below (λ j. cond (covers g (b +ℤ pos j)) (w j) 0 * cond (covers g (b +ℤ pos j)) (e g (b +ℤ pos j)) 0) n ≤ g.l * most_weight w n b g
one_segment n b w e g h =
    let f : ℕ → ℕ = λ j. cond (covers g (b +ℤ pos j)) (w j) 0 in
    let x : ℕ → ℕ = λ j. cond (covers g (b +ℤ pos j)) (e g (b +ℤ pos j)) 0 in
    let s1 : sum_below (λ j. f j * x j) n ≤ sum_below (λ j. most_weight w n b g * x j) n = sum_below-mono (λ j. f j * x j) (λ j. most_weight w n b g * x j) n (λ j lt. mul-le-mul (most_below-at f n j lt) (omega arith)) in
    let s2 : sum_below x n ≤ g.l = omega (arith, window_sum n b g.start g.len (e g), h) in
    let s3 : most_weight w n b g * sum_below x n ≤ most_weight w n b g * g.l = mul-le-mul (omega arith) s2 in
    omega (arith, s1, sum_below-scale (most_weight w n b g) x n, s3)

-- one occurrence: the sum over positions is at most the sum over segments
pub one_occurrence : (n : ℕ) (b : ℤ) (w : ℕ → ℕ) (e : Seg → ℤ → ℕ) (gs : List Seg) → AllMeasured e gs → sum_below (λ j. w j * missed e gs (b +ℤ pos j)) n ≤ sum_by (λ (g : Seg). g.l * most_weight w n b g) gs
one_occurrence n b w e [] h = omega (arith, sum_below-mono (λ j. w j * 0) (λ _. 0) n (λ j _. omega arith), sum_below-zero n)
one_occurrence n b w e (g ∷ gs) h =
    let f : ℕ → ℕ = λ j. cond (covers g (b +ℤ pos j)) (w j) 0 in
    let x : ℕ → ℕ = λ j. cond (covers g (b +ℤ pos j)) (e g (b +ℤ pos j)) 0 in
    let y : ℕ → ℕ = λ j. w j * missed e gs (b +ℤ pos j) in
    let c : Seg → ℕ = λ g. g.l * most_weight w n b g in
    let s : sum_below (λ j. w j * missed e (g ∷ gs) (b +ℤ pos j)) n ≤ sum_below (λ j. f j * x j + y j) n =
    sum_below-mono (λ j. w j * missed e (g ∷ gs) (b +ℤ pos j)) (λ j. f j * x j + y j) n (λ j _. split_miss (covers g (b +ℤ pos j)) (w j) (e g (b +ℤ pos j)) (missed e gs (b +ℤ pos j))) in
    omega (arith, s, sum_below-add (λ j. f j * x j) y n, one_segment n b w e g h.0, one_occurrence n b w e gs h.1, sum_by-cons c g gs)
