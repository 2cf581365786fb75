-- Pieces of a kept sum are put right one after the other.
use Rattle.std.proofs.Common.{◌≡◌, ℕ, ◌+◌, ◌-◌, ◌<◌, ◌≤◌, inl, inr, pos, ◌+ℤ◌, refl, sym, ap, subst, ◌∙◌, arith}
use Rattle.std.specs.Prelude.{◌⊎◌}
use Rattle.std.proofs.lemmas.Bool.{cases_lt, cases_eq}
use Rattle.semantics.specs.Readings.{reading}
use Rattle.semantics.specs.Term.{Term}
use Rattle.bounds.specs.Segments.{covers}
use Rattle.tops.specs.Tops.{number}
use Rattle.descent.specs.declared.kept.KeptSum.{KeptSum}
use Rattle.descent.specs.Cells.{cells_in, offset_of}
use Rattle.descent.specs.Kept.{IsSaid}
use Rattle.descent.specs.KeptSums.{numbers_at}
use Rattle.descent.specs.Readers.{reader_at}
use Rattle.descent.specs.Rows.{Cut}
use Rattle.descent.specs.Settled.{lens_of, IsJointOf, IsRightAt, IsSameAt, IsSameSum, IsSettledTo, IsShaped}
use Rattle.descent.proofs.Tiles.{joint-behind, none-inside}

-- what stays at a cell stays right
pub right-same : (cut : Cut) (t : Term) (old new : KeptSum) (c : ℕ) → IsSameSum old new → IsSameAt old new c → IsRightAt cut t old c → IsRightAt cut t new c
right-same cut t old new c sum at is =
    rw (sum.first, sum.readers, sum.cells) (record {
      said = subst (λ m. IsSaid cut t old.first (offset_of old.cells c) m (reading new.estimates c) (λ o. number (numbers_at new.weights.items o) c)) wide (record {
        estimate = at.estimates ∙ is.said.estimate;
        greatest = λ o below. at.weights o ∙ is.said.greatest o below;
      });
      still = λ o row below there. subst (λ m. (i : ℕ) → i < m → covers row.seg ((reader_at old.readers.items o).at +ℤ pos (offset_of old.cells c + i)) ≡ covers row.seg ((reader_at old.readers.items o).at +ℤ pos (offset_of old.cells c))) wide (is.still o row below there);
    })
  where
    wide : offset_of old.cells (c + lens_of old c) - offset_of old.cells c ≡ offset_of old.cells (c + lens_of new c) - offset_of old.cells c
    wide = ap (λ m. offset_of old.cells (c + m) - offset_of old.cells c) (sym at.lens)

pub same-sums : (a b c : KeptSum) → IsSameSum a b → IsSameSum b c → IsSameSum a c
same-sums a b c h k = record { cells = k.cells ∙ h.cells; first = k.first ∙ h.first; readers = k.readers ∙ h.readers }

same-both : (a b c : KeptSum) (d : ℕ) → IsSameAt a b d → IsSameAt b c d → IsSameAt a c d
same-both a b c d h k = record { lens = k.lens ∙ h.lens; estimates = k.estimates ∙ h.estimates; weights = λ o. k.weights o ∙ h.weights o }

-- what a step does
pub record IsSettledAt (cut : Cut) (t : Term) (c : ℕ) (old new : KeptSum) : Type 0 where
  pub shaped : IsShaped cut t new
  pub piece : 0 < lens_of new c
  pub right : IsRightAt cut t new c
  pub others : (d : ℕ) → (d < c) ⊎ (c + lens_of old c ≤ d) → IsSameAt old new d
  pub same : IsSameSum old new

-- where the next step begins
pub record IsNext (cut : Cut) (t : Term) (from until c : ℕ) (old new : KeptSum) : Type 0 where
  pub high : c ≤ until
  pub begins : c < until → 0 < lens_of new c
  pub settled : IsSettledTo cut t from until c old new

keeps-joints : (cut : Cut) (t : Term) (c : ℕ) (old new : KeptSum) → IsShaped cut t old → 0 < lens_of old c → IsSettledAt cut t c old new → (d : ℕ) → 0 < lens_of old d → 0 < lens_of new d
keeps-joints cut t c old new shaped some is d h = elim (cases_lt d c) [
  | inl lt ↦ let e = (is.others d (inl lt)).lens in omega arith
  | inr ge ↦ elim (cases_eq d c) [
    | inl e ↦ subst (λ k. 0 < lens_of new k) (sym e) is.piece
    | inr ne ↦ elim (cases_lt d (c + lens_of old c)) [
      | inl below ↦ let n = none-inside (lens_of old) (cells_in old.cells) c d shaped.tiled some (omega arith) below in absurd (omega arith)
      | inr behind ↦ let e = (is.others d (inr behind)).lens in omega arith
    ]
  ]
]

joint-later : (old new : KeptSum) (u : ℕ) → IsSameSum old new → ((d : ℕ) → 0 < lens_of old d → 0 < lens_of new d) → IsJointOf old u → IsJointOf new u
joint-later old new u same joints (inl end) = inl (end ∙ ap cells_in (sym same.cells))
joint-later old new u same joints (inr some) = inr (joints u some)

pub settle-step : (cut : Cut) (t : Term) (from until c : ℕ) (old mid new : KeptSum) → IsSettledTo cut t from until c old mid → from ≤ c → c < until → until ≤ cells_in old.cells
    → IsJointOf old until → 0 < lens_of mid c → IsSettledAt cut t c mid new → IsNext cut t from until (c + lens_of new c) old new
settle-step cut t from until c old mid new was low lt within joint some is = record {
  high = high;
  begins = λ l. elim (is.shaped.tiled.each c is.piece).next [
    | inl end ↦ let e : cells_in new.cells ≡ cells_in old.cells = ap cells_in same.cells in absurd (omega arith)
    | inr s ↦ s
  ];
  settled = record {
    shaped = is.shaped;
    same = same;
    right = right;
    others = others;
    joints = joints;
  };
}
  where
    same : IsSameSum old new
    same = same-sums old mid new was.same is.same

    step : (d : ℕ) → 0 < lens_of mid d → 0 < lens_of new d
    step = keeps-joints cut t c mid new was.shaped some is

    joints : (d : ℕ) → 0 < lens_of old d → 0 < lens_of new d
    joints d h = step d (was.joints d h)

    high : c + lens_of new c ≤ until
    high = joint-behind (lens_of new) (cells_in new.cells) c until is.shaped.tiled is.piece lt (joint-later old new until same joints joint)

    before : c + lens_of mid c ≤ until
    before = joint-behind (lens_of mid) (cells_in mid.cells) c until was.shaped.tiled some lt (joint-later old mid until was.same was.joints joint)

    right : (d : ℕ) → from ≤ d → d < c + lens_of new c → 0 < lens_of new d → IsRightAt cut t new d
    right d f l h = elim (cases_lt d c) [
      | inl less ↦
          let at = is.others d (inl less) in
          let e = at.lens in
          right-same cut t mid new d is.same at (was.right d f less (omega arith))
      | inr ge ↦ elim (cases_eq d c) [
        | inl e ↦ subst (IsRightAt cut t new) (sym e) is.right
        | inr ne ↦ let n = none-inside (lens_of new) (cells_in new.cells) c d is.shaped.tiled is.piece (omega arith) l in absurd (omega arith)
      ]
    ]

    later : (d : ℕ) → (d < from) ⊎ (until ≤ d) → (d < c) ⊎ (c + lens_of mid c ≤ d)
    later d (inl less) = inl (omega arith)
    later d (inr more) = let b = before in inr (omega arith)

    others : (d : ℕ) → (d < from) ⊎ (until ≤ d) → IsSameAt old new d
    others d out = same-both old mid new d (was.others d out) (is.others d (later d out))

-- before the first step
pub settled-none : (cut : Cut) (t : Term) (from until : ℕ) (k : KeptSum) → IsShaped cut t k → IsSettledTo cut t from until from k k
settled-none cut t from until k shaped = record {
  shaped = shaped;
  same = record { cells = refl; first = refl; readers = refl };
  right = λ d low high some. absurd (omega arith);
  others = λ d out. record { lens = refl; estimates = refl; weights = λ o. refl };
  joints = λ d h. h;
}
