-- A piece of a kept sum is cut off and put right; all else stays.
use Rattle.std.proofs.Common.{◌≡◌, ℕ, zero, suc, ◌+◌, ◌-◌, ◌<◌, ◌≤◌, true, false, inl, inr, ℤ, pos, negsuc, ◌+ℤ◌, List, [], ◌∷◌, ◌++◌, length, take, get_or, set, get_or-set_same, get_or-set_other, length-set, refl, sym, ap, subst, ◌∙◌, arith}
use Rattle.std.specs.Prelude.{◌≤ℤ◌, ◌&&◌, nat_le, nat_lt}
use Rattle.std.proofs.lemmas.Bool.{cases_lt}
use Rattle.std.proofs.lemmas.Bool.Decides.{nat_tests}
use Rattle.std.proofs.lemmas.Int.{ints}
use Rattle.semantics.specs.Measures.{names_in}
use Rattle.semantics.specs.Readings.{reading}
use Rattle.semantics.specs.Term.{Term}
use Rattle.segment.specs.declared.segments.Seg.{Seg}
use Rattle.bounds.specs.Segments.{covers}
use Rattle.tops.specs.Tops.{number}
use Rattle.descent.specs.declared.cells.Cells.{Cells}
use Rattle.descent.specs.declared.kept.KeptSum.{KeptSum}
use Rattle.descent.specs.Cells.{cells_in, offset_of, IsBorder}
use Rattle.descent.specs.Kept.{IsSaid}
use Rattle.descent.specs.KeptSums.{numbers_at}
use Rattle.descent.specs.Readers.{reader_at}
use Rattle.descent.specs.Rows.{Cut}
use Rattle.descent.specs.Said.{AllStay}
use Rattle.descent.specs.Settled.{lens_of, AreReadIn, CanBeCharged, HasOtherWeights, IsRightAt, IsSameAt, IsShaped, IsTrimmed}
use Rattle.descent.proofs.Tiles.{trimmed-stays, trimmed-tiled}

-- ---- the cells that are read in a segment

covers-in : (g : Seg) (z : ℤ) → pos g.start ≤ℤ z → (z +ℤ pos 1) ≤ℤ pos (g.start + g.len) → covers g z ≡ true
covers-in g (pos n) low high = in-range g.start (g.start + g.len) n (omega (arith, ints)) (omega (arith, ints))
  where
    in-range : (s e n : ℕ) → s ≤ n → n < e → (nat_le s n && nat_lt n e) ≡ true
    in-range s e n a b = grind (arith, nat_tests)
covers-in g (negsuc n) low high = absurd (omega (arith, ints))

covers-before : (g : Seg) (z : ℤ) → (z +ℤ pos 1) ≤ℤ pos g.start → covers g z ≡ false
covers-before g (pos n) high = before-range g.start (g.start + g.len) n (omega (arith, ints))
  where
    before-range : (s e n : ℕ) → n < s → (nat_le s n && nat_lt n e) ≡ false
    before-range s e n a = grind (arith, nat_tests)
covers-before g (negsuc n) high = refl

covers-behind : (g : Seg) (z : ℤ) → pos (g.start + g.len) ≤ℤ z → covers g z ≡ false
covers-behind g (pos n) low = behind-range g.start (g.start + g.len) n (omega (arith, ints))
  where
    behind-range : (s e n : ℕ) → e ≤ n → (nat_le s n && nat_lt n e) ≡ false
    behind-range s e n a = grind (arith, nat_tests)
covers-behind g (negsuc n) low = refl

step : (at : ℤ) (j : ℕ) → (at +ℤ pos (j + 1)) ≡ ((at +ℤ pos j) +ℤ pos 1)
step at j = omega (arith, ints)

ordered : (g : Cells) (at : ℤ) (s : Seg) (a b : ℕ) → IsBorder g at s.start a → IsBorder g at (s.start + s.len) b → a ≤ b
ordered g at s a b low high = elim (cases_lt b a) [
  | inr ge ↦ ge
  | inl lt ↦
      let w = low.within in
      let l = low.low b lt in
      let h = high.high b (omega arith) (omega arith) in
      absurd (omega (arith, ints, l, h))
]

pub read-between : (g : Cells) (at : ℤ) (s : Seg) (a b : ℕ) → IsBorder g at s.start a → IsBorder g at (s.start + s.len) b → AreReadIn g at s a b
read-between g at s a b low high = record {
  order = ordered g at s a b low high;
  within = high.within;
  inside = λ c from until.
      let w = high.within in
      covers-in s (at +ℤ pos (offset_of g c)) (low.high c from (omega arith))
      (subst (λ z. z ≤ℤ pos (s.start + s.len)) (step at (offset_of g c)) (high.low c until));
  before = λ c lt. covers-before s (at +ℤ pos (offset_of g c)) (subst (λ z. z ≤ℤ pos s.start) (step at (offset_of g c)) (low.low c lt));
  behind = λ c from lt. covers-behind s (at +ℤ pos (offset_of g c)) (high.high c from lt);
}

-- ---- a piece is cut off

pub shaped-trimmed : (cut : Cut) (t : Term) (old new : KeptSum) (c len : ℕ) → new ≡ record old { lens = new.lens } → IsShaped cut t old
    → length new.lens ≡ length old.lens → IsTrimmed (lens_of old) (lens_of new) c len → 0 < len → len ≤ lens_of old c → IsShaped cut t new
shaped-trimmed cut t old new c len same h long trimmed some le = subst (IsShaped cut t) (sym same) (record {
  can = record {
    sound = h.can.sound;
    read = record { cells = h.can.read.cells; count = h.can.read.count; room = h.can.read.room; near = h.can.read.near };
    inside = h.can.inside;
    charged = record { room = h.can.charged.room; borders = h.can.charged.borders; each = h.can.charged.each; others = h.can.charged.others };
  };
  readers = h.readers;
  aligned = h.aligned;
  lens = long ∙ h.lens;
  estimates = h.estimates;
  tiled = trimmed-tiled (lens_of old) (lens_of new) (cells_in old.cells) c len h.tiled trimmed some le;
  blank = λ d none. let b = h.blank d (was-none d none) in record { estimate = b.estimate; weights = b.weights };
})
  where
    was-none : (d : ℕ) → lens_of new d ≡ 0 → lens_of old d ≡ 0
    was-none d none = elim (cases_lt 0 (lens_of old d)) [
      | inl is ↦ let n = trimmed-stays (lens_of old) (lens_of new) c len d trimmed some is in absurd (omega arith)
      | inr ge ↦ omega arith
    ]

-- ---- an estimate is put

pub shaped-estimate : (cut : Cut) (t : Term) (k : KeptSum) (c : ℕ) (e : ℤ) → IsShaped cut t k → 0 < lens_of k c → IsShaped cut t (record k { estimates = set k.estimates c e })
shaped-estimate cut t k c e h some = record {
  can = record {
    sound = h.can.sound;
    read = record { cells = h.can.read.cells; count = h.can.read.count; room = h.can.read.room; near = h.can.read.near };
    inside = h.can.inside;
    charged = record { room = h.can.charged.room; borders = h.can.charged.borders; each = h.can.charged.each; others = h.can.charged.others };
  };
  readers = h.readers;
  aligned = h.aligned;
  lens = h.lens;
  estimates = length-set k.estimates c e ∙ h.estimates;
  tiled = h.tiled;
  blank = λ d none.
      let b = h.blank d none in
      let ne : d ≡ c → ⊥ = λ q. let z : lens_of k d ≡ lens_of k c = ap (lens_of k) q in omega arith in
      record { estimate = get_or-set_other k.estimates c d e (pos 0) ne ∙ b.estimate; weights = b.weights };
}

-- ---- weights are put

-- other weights at one cell alone
abbrev pub OtherAt : KeptSum → KeptSum → ℕ → Type 0
OtherAt old new c = (o d : ℕ) → (d ≡ c → ⊥) → number (numbers_at new.weights.items o) d ≡ number (numbers_at old.weights.items o) d

pub shaped-weights : (cut : Cut) (t : Term) (old new : KeptSum) (c : ℕ) → IsShaped cut t old → HasOtherWeights old new → OtherAt old new c → CanBeCharged cut new → 0 < lens_of old c
    → IsShaped cut t new
shaped-weights cut t old new c h same others can some = record {
  can = can;
  readers = rw (same.readers, same.first, same.cells) h.readers;
  aligned = rw (same.readers, same.cells) h.aligned;
  lens = rw (same.lens, same.cells) h.lens;
  estimates = rw (same.estimates, same.cells) h.estimates;
  tiled = rw (same.lens, same.cells) h.tiled;
  blank = λ d none.
      let e : lens_of new d ≡ lens_of old d = ap (λ (v : List ℕ). get_or v d 0) same.lens in
      let b = h.blank d (sym e ∙ none) in
      let ne : d ≡ c → ⊥ = λ q. let z : lens_of old d ≡ lens_of old c = ap (lens_of old) q in omega arith in
      record {
        estimate = ap (λ (es : List ℤ). reading es d) same.estimates ∙ b.estimate;
        weights = λ o. others o d ne ∙ b.weights o;
      };
}

-- ---- the piece is right

pub said-right : (cut : Cut) (t : Term) (k new : KeptSum) (c n : ℕ) (e : ℤ) (ws : List ℕ) → HasOtherWeights (record k { estimates = set k.estimates c e }) new
    → c < length k.estimates → n ≡ offset_of k.cells (c + lens_of k c) - offset_of k.cells c
    → IsSaid cut t k.first (offset_of k.cells c) n e (λ o. get_or ws o 0) → AllStay cut k.readers.items (offset_of k.cells c) n
    → length k.readers.items ≡ names_in t → length ws ≡ names_in t
    → ((o : ℕ) → o < length ws → number (numbers_at new.weights.items o) c ≡ get_or ws o 0) → IsRightAt cut t new c
said-right cut t k new c n e ws same lt size said still readers count here =
    rw (same.first, same.readers, same.cells) (record {
      said = subst (λ m. IsSaid cut t k.first (offset_of k.cells c) m (reading new.estimates c) (λ o. number (numbers_at new.weights.items o) c)) wide (record {
        estimate = ap (λ (es : List ℤ). reading es c) same.estimates ∙ get_or-set_same k.estimates c e (pos 0) lt ∙ said.estimate;
        greatest = λ o below. here o (omega arith) ∙ said.greatest o below;
      });
      still = λ o row below there. subst (λ m. (i : ℕ) → i < m → covers row.seg ((reader_at k.readers.items o).at +ℤ pos (offset_of k.cells c + i)) ≡ covers row.seg ((reader_at k.readers.items o).at +ℤ pos (offset_of k.cells c))) wide (still o row (omega arith) there);
    })
  where
    lens : lens_of new c ≡ lens_of k c
    lens = ap (λ (v : List ℕ). get_or v c 0) same.lens

    wide : n ≡ offset_of k.cells (c + lens_of new c) - offset_of k.cells c
    wide = size ∙ ap (λ m. offset_of k.cells (c + m) - offset_of k.cells c) (sym lens)

-- what stands at another cell
pub same-at : (k new : KeptSum) (c d : ℕ) (e : ℤ) → HasOtherWeights (record k { estimates = set k.estimates c e }) new → OtherAt k new c → (d ≡ c → ⊥) → IsSameAt k new d
same-at k new c d e same others ne = record {
  lens = ap (λ (v : List ℕ). get_or v d 0) same.lens;
  estimates = ap (λ (es : List ℤ). reading es d) same.estimates ∙ get_or-set_other k.estimates c d e (pos 0) ne;
  weights = λ o. others o d ne;
}

-- a list in front of others
pub taken-whole : (xs ys : List ℕ) (n : ℕ) → n ≡ length xs → take n (xs ++ ys) ≡ xs
taken-whole [] ys n e = rw e refl
taken-whole (x ∷ xs) ys zero e = absurd (omega arith)
taken-whole (x ∷ xs) ys (suc n) e = ap (λ zs. x ∷ zs) (taken-whole xs ys n (omega arith))
