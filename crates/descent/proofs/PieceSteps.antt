-- The piece at a cell is cut off, said, and put right.
use Rattle.std.proofs.Common.{◌≡◌, ℕ, ◌+◌, ◌-◌, ◌<◌, ◌≤◌, inl, inr, ℤ, pos, List, length, get_or, set, sym, ap, subst, ◌∙◌, arith}
use Rattle.std.specs.Prelude.{◌⊎◌}
use Rattle.semantics.specs.Measures.{names_in}
use Rattle.semantics.specs.Term.{Term}
use Rattle.tops.specs.Tops.{number}
use Rattle.descent.specs.declared.kept.KeptSum.{KeptSum}
use Rattle.descent.specs.Cells.{offset_of}
use Rattle.descent.specs.Kept.{IsSaid}
use Rattle.descent.specs.KeptSums.{numbers_at}
use Rattle.descent.specs.Rows.{Cut}
use Rattle.descent.specs.Said.{AllStay, AreRead}
use Rattle.descent.specs.Settled.{lens_of, CanBeCharged, CanSay, HasOtherWeights, IsSameAt, IsSameSum, IsShaped, IsTrimmed}
use Rattle.descent.proofs.CutSteps.{are-read, piece-in}
use Rattle.descent.proofs.Settling.{said-right, same-at, shaped-estimate, shaped-trimmed, shaped-weights, OtherAt}
use Rattle.descent.proofs.SettleSteps.{IsSettledAt}
use Rattle.descent.proofs.Taking.{say-same}

-- a piece that was cut off
pub record IsCutOff (cut : Cut) (t : Term) (old new : KeptSum) (c n : ℕ) : Type 0 where
  pub shaped : IsShaped cut t new
  pub say : CanSay cut t new
  pub piece : 0 < lens_of new c
  pub size : n ≡ offset_of new.cells (c + lens_of new c) - offset_of new.cells c
  pub some : 0 < n
  pub within : offset_of new.cells c + n ≤ new.cells.count
  pub same : IsSameSum old new
  pub others : (d : ℕ) → (d < c) ⊎ (c + lens_of old c ≤ d) → IsSameAt old new d

abbrev pub Trims : KeptSum → KeptSum → ℕ → Type 0
Trims old new c = (len : ℕ) × (0 < len) × (len ≤ lens_of old c) × IsTrimmed (lens_of old) (lens_of new) c len

same-outside : (old new : KeptSum) (c len d : ℕ) → new ≡ record old { lens = new.lens } → IsTrimmed (lens_of old) (lens_of new) c len → 0 < lens_of old c → len ≤ lens_of old c
    → (d < c) ⊎ (c + lens_of old c ≤ d) → IsSameAt old new d
same-outside old new c len d same trimmed some le (inl lt) = record {
  lens = trimmed.others d (λ e. omega arith) (λ l e. omega arith);
  estimates = ap (λ (k : KeptSum). get_or k.estimates d (pos 0)) same;
  weights = λ o. ap (λ (k : KeptSum). number (numbers_at k.weights.items o) d) same;
}
same-outside old new c len d same trimmed some le (inr ge) = record {
  lens = trimmed.others d (λ e. omega arith) (λ l e. omega arith);
  estimates = ap (λ (k : KeptSum). get_or k.estimates d (pos 0)) same;
  weights = λ o. ap (λ (k : KeptSum). number (numbers_at k.weights.items o) d) same;
}

pub is-cut-off : (cut : Cut) (t : Term) (old new : KeptSum) (c n : ℕ) → CanSay cut t old → IsShaped cut t old → 0 < lens_of old c → Trims old new c
    → n ≡ offset_of new.cells (c + lens_of new c) - offset_of new.cells c → 0 < n → length new.lens ≡ length old.lens → new ≡ record old { lens = new.lens } → IsCutOff cut t old new c n
is-cut-off cut t old new c n say shaped some (len, more, le, trimmed) size left long same =
    let sums : IsSameSum old new = record { cells = ap (λ (k : KeptSum). k.cells) same; first = ap (λ (k : KeptSum). k.first) same; readers = ap (λ (k : KeptSum). k.readers) same } in
    let shape = shaped-trimmed cut t old new c len same shaped long trimmed more le in
    let here = trimmed.here in
    let piece : 0 < lens_of new c = omega arith in
    let lies = piece-in cut t new c shape piece in
    let low = lies.low in
    let high = lies.high in
    record {
      shaped = shape;
      say = say-same cut t old new sums say;
      piece = piece;
      size = size;
      some = left;
      within = omega arith;
      same = sums;
      others = λ d out. same-outside old new c len d same trimmed some le out;
    }

pub cut-read : (cut : Cut) (t : Term) (old new : KeptSum) (c n : ℕ) → (is : IsCutOff cut t old new c n) → AreRead cut is.say.sum t new.first new.readers.items (offset_of new.cells c) n
cut-read cut t old new c n is = are-read cut t new c n is.say is.shaped is.piece is.some is.within

-- an estimate is put
pub can-estimate : (cut : Cut) (t : Term) (k : KeptSum) (c : ℕ) (e : ℤ) (es : List ℤ) → IsShaped cut t k → 0 < lens_of k c → es ≡ set k.estimates c e → CanBeCharged cut (record k { estimates = es })
can-estimate cut t k c e es shaped some put = subst (λ (xs : List ℤ). CanBeCharged cut (record k { estimates = xs })) (sym put) (shaped-estimate cut t k c e shaped some).can

both-same : (old mid new : KeptSum) (d : ℕ) → IsSameAt old mid d → IsSameAt mid new d → IsSameAt old new d
both-same old mid new d h k = record { lens = k.lens ∙ h.lens; estimates = k.estimates ∙ h.estimates; weights = λ o. k.weights o ∙ h.weights o }

settled-by : (cut : Cut) (t : Term) (old k new : KeptSum) (c n : ℕ) (e : ℤ) (ws : List ℕ) → IsCutOff cut t old k c n → 0 < lens_of old c → IsSaid cut t k.first (offset_of k.cells c) n e (λ o. get_or ws o 0)
    → AllStay cut k.readers.items (offset_of k.cells c) n → length ws ≡ names_in t → CanBeCharged cut new → ((o : ℕ) → o < length ws → number (numbers_at new.weights.items o) c ≡ get_or ws o 0)
    → OtherAt k new c → HasOtherWeights (record k { estimates = set k.estimates c e }) new → IsSettledAt cut t c old new
settled-by cut t old k new c n e ws is began said still count can here others same =
    let lies = piece-in cut t k c is.shaped is.piece in
    let w = lies.within in
    let p = is.piece in
    let listed : c < length k.estimates = let l = is.shaped.estimates in omega arith in
    let lens : lens_of new c ≡ lens_of k c = ap (λ (v : List ℕ). get_or v c 0) same.lens in
    record {
      shaped = shaped-weights cut t (record k { estimates = set k.estimates c e }) new c (shaped-estimate cut t k c e is.shaped is.piece) same others can is.piece;
      piece = omega arith;
      right = said-right cut t k new c n e ws same listed is.size said still is.shaped.readers.count count here;
      others = λ d out. both-same old k new d (is.others d out) (same-at k new c d e same others (apart d out));
      same = record { cells = same.cells ∙ is.same.cells; first = same.first ∙ is.same.first; readers = same.readers ∙ is.same.readers };
    }
  where
    apart : (d : ℕ) → (d < c) ⊎ (c + lens_of old c ≤ d) → d ≡ c → ⊥
    apart d (inl lt) e = omega arith
    apart d (inr ge) e = omega arith

pub settled-at : (cut : Cut) (t : Term) (old k new : KeptSum) (c n : ℕ) (e : ℤ) (ws : List ℕ) (es : List ℤ) → IsCutOff cut t old k c n → 0 < lens_of old c → es ≡ set k.estimates c e
    → IsSaid cut t k.first (offset_of k.cells c) n e (λ o. get_or ws o 0) → AllStay cut k.readers.items (offset_of k.cells c) n → length ws ≡ names_in t → CanBeCharged cut new
    → ((o : ℕ) → o < length ws → number (numbers_at new.weights.items o) c ≡ get_or ws o 0) → OtherAt k new c → HasOtherWeights (record k { estimates = es }) new → IsSettledAt cut t c old new
settled-at cut t old k new c n e ws es is began put said still count can here others same =
    settled-by cut t old k new c n e ws is began said still count can here others (subst (λ (xs : List ℤ). HasOtherWeights (record k { estimates = xs }) new) put same)
