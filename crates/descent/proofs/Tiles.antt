-- Pieces one behind the other, of which one is cut in two.
use Rattle.std.proofs.Common.{◌≡◌, ℕ, zero, suc, ◌+◌, ◌-◌, ◌<◌, ◌≤◌, inl, inr, sym, ap, subst, ◌∙◌, arith}
use Rattle.std.specs.Prelude.{◌⊎◌}
use Rattle.std.proofs.lemmas.Bool.{cases_lt, cases_eq}
use Rattle.descent.specs.Kept.{IsPieceAt, AreTiled, IsJoint}
use Rattle.descent.specs.Settled.{IsTrimmed}

-- no piece begins inside of another one
pub none-inside : (lens : ℕ → ℕ) (cells c d : ℕ) → AreTiled lens cells → 0 < lens c → c < d → d < c + lens c → lens d ≡ 0
none-inside lens cells c d tiled some low high =
    let e : c + (d - c) ≡ d = omega arith in
    let i = (tiled.each c some).inside (d - c) (omega arith) (omega arith) in
    ap lens (sym e) ∙ i

-- a piece ends at a joint, and no joint lies inside of it
pub joint-behind : (lens : ℕ → ℕ) (cells c u : ℕ) → AreTiled lens cells → 0 < lens c → c < u → IsJoint lens cells u → c + lens c ≤ u
joint-behind lens cells c u tiled some lt joint = elim (cases_lt u (c + lens c)) [
  | inr ge ↦ ge
  | inl below ↦
      let n = none-inside lens cells c u tiled some lt below in
      let w = (tiled.each c some).within in
      elim joint [ inl end ↦ absurd (omega arith) | inr begins ↦ absurd (omega arith) ]
]

-- the piece over a cell
pub record PieceOver (lens : ℕ → ℕ) (b : ℕ) : Type 0 where
  pub c : ℕ
  pub some : 0 < lens c
  pub low : c ≤ b
  pub high : b < c + lens c

next-over : (lens : ℕ → ℕ) (cells b : ℕ) → AreTiled lens cells → suc b < cells → PieceOver lens b → PieceOver lens (suc b)
next-over lens cells b tiled lt p = elim (cases_lt (suc b) (p.c + lens p.c)) [
  | inl in_it ↦ let l = p.low in record { c = p.c; some = p.some; low = omega arith; high = in_it }
  | inr ge ↦
      let h = p.high in
      let e : p.c + lens p.c ≡ suc b = omega arith in
      elim (tiled.each p.c p.some).next [
        | inl end ↦ absurd (omega arith)
        | inr some ↦ let s : 0 < lens (suc b) = subst (λ k. 0 < lens k) e some in record { c = suc b; some = s; low = omega arith; high = omega arith }
      ]
]

pub piece-over : (lens : ℕ → ℕ) (cells b : ℕ) → AreTiled lens cells → b < cells → PieceOver lens b
piece-over lens cells zero tiled lt = let s = tiled.first lt in record { c = 0; some = s; low = omega arith; high = omega arith }
piece-over lens cells (suc b) tiled lt = next-over lens cells b tiled lt (piece-over lens cells b tiled (omega arith))

-- ---- the piece at a cell keeps some of its cells

-- whether a cell is the first of the piece, or the first of its rest, or another one
piece-first : (old new : ℕ → ℕ) (cells c len : ℕ) → AreTiled old cells → IsTrimmed old new c len → 0 < len → 0 < cells → 0 < new 0
piece-first old new cells c len tiled t some lt = elim (cases_eq 0 c) [
  | inl e ↦ let h : new 0 ≡ len = ap new e ∙ t.here in omega arith
  | inr ne ↦ let h : new 0 ≡ old 0 = t.others 0 ne (λ p q. omega arith) in let f = tiled.first lt in omega arith
]

-- a joint stays one
stays : (old new : ℕ → ℕ) (cells c len d : ℕ) → IsTrimmed old new c len → 0 < len → 0 < old d → 0 < new d
stays old new cells c len d t some is = elim (cases_eq d c) [
  | inl e ↦ let h : new d ≡ len = ap new e ∙ t.here in omega arith
  | inr ne ↦ elim (cases_lt len (old c)) [
    | inr ge ↦ let h : new d ≡ old d = t.others d ne (λ p q. omega arith) in omega arith
    | inl lt ↦ elim (cases_eq d (c + len)) [
      | inl e ↦ let h : new d ≡ old c - len = ap new e ∙ t.rest lt in omega arith
      | inr other ↦ let h : new d ≡ old d = t.others d ne (λ p. other) in omega arith
    ]
  ]
]

pub trimmed-stays : (old new : ℕ → ℕ) (c len d : ℕ) → IsTrimmed old new c len → 0 < len → 0 < old d → 0 < new d
trimmed-stays old new c len d t some is = stays old new 0 c len d t some is

end-stays : (old new : ℕ → ℕ) (cells c len e : ℕ) → IsTrimmed old new c len → 0 < len → (e ≡ cells) ⊎ (0 < old e) → (e ≡ cells) ⊎ (0 < new e)
end-stays old new cells c len e t some (inl end) = inl end
end-stays old new cells c len e t some (inr is) = inr (stays old new cells c len e t some is)

-- inside of a piece nothing begins that did not before, but the rest of the cut one
still-none : (old new : ℕ → ℕ) (c len d : ℕ) → IsTrimmed old new c len → 0 < old c → (len < old c → d ≡ c + len → ⊥) → old d ≡ 0 → new d ≡ 0
still-none old new c len d t some other none = t.others d (λ e. let h : old d ≡ old c = ap old e in omega arith) other ∙ none

pieces-here : (old new : ℕ → ℕ) (cells c len : ℕ) → AreTiled old cells → IsTrimmed old new c len → 0 < len → len ≤ old c → IsPieceAt new cells c
pieces-here old new cells c len tiled t some le =
    let p = tiled.each c (omega arith) in
    let h = t.here in
    let w = p.within in
    record {
      within = omega arith;
      next = subst (λ k. (c + k ≡ cells) ⊎ (0 < new (c + k))) (sym h) (elim (cases_lt len (old c)) [
        | inl lt ↦ let r = t.rest lt in inr (omega arith)
        | inr ge ↦ let e : len ≡ old c = omega arith in subst (λ k. (c + k ≡ cells) ⊎ (0 < new (c + k))) (sym e) (end-stays old new cells c len (c + old c) t some p.next)
      ]);
      inside = λ i low high. still-none old new c len (c + i) t (omega arith) (λ lt e. omega arith) (p.inside i low (omega arith));
    }

pieces-rest : (old new : ℕ → ℕ) (cells c len : ℕ) → AreTiled old cells → IsTrimmed old new c len → 0 < len → len < old c → IsPieceAt new cells (c + len)
pieces-rest old new cells c len tiled t some lt =
    let p = tiled.each c (omega arith) in
    let r = t.rest lt in
    let w = p.within in
    let e : c + len + new (c + len) ≡ c + old c = omega arith in
    record {
      within = omega arith;
      next = subst (λ k. (k ≡ cells) ⊎ (0 < new k)) (sym e) (end-stays old new cells c len (c + old c) t some p.next);
      inside = λ i low high.
          let f : c + (len + i) ≡ c + len + i = omega arith in
          still-none old new c len (c + len + i) t (omega arith) (λ l q. omega arith) (ap old (sym f) ∙ p.inside (len + i) (omega arith) (omega arith));
    }

pieces-other : (old new : ℕ → ℕ) (cells c len d : ℕ) → AreTiled old cells → IsTrimmed old new c len → 0 < len → len ≤ old c → (d ≡ c → ⊥) → (len < old c → d ≡ c + len → ⊥) → 0 < new d
    → IsPieceAt new cells d
pieces-other old new cells c len d tiled t some le ne other is =
    let h : new d ≡ old d = t.others d ne other in
    let old-some : 0 < old d = omega arith in
    let p = tiled.each d old-some in
    let w = p.within in
    record {
      within = omega arith;
      next = subst (λ k. (d + k ≡ cells) ⊎ (0 < new (d + k))) (sym h) (end-stays old new cells c len (d + old d) t some p.next);
      inside = λ i low high. still-none old new c len (d + i) t (omega arith) (λ lt e. clash i low (omega arith) lt e) (p.inside i low (omega arith));
    }
  where
    clash : (i : ℕ) → 0 < i → i < old d → len < old c → d + i ≡ c + len → ⊥
    clash i low high lt e = elim (cases_lt d c) [
      | inl before ↦
          let n = none-inside old cells d c tiled (omega arith) before (omega arith) in omega arith
      | inr ge ↦
          let os : 0 < old d = omega arith in
          let n = none-inside old cells c d tiled (omega arith) (let k = ne in omega arith) (omega arith) in omega arith
    ]

pub trimmed-tiled : (old new : ℕ → ℕ) (cells c len : ℕ) → AreTiled old cells → IsTrimmed old new c len → 0 < len → len ≤ old c → AreTiled new cells
trimmed-tiled old new cells c len tiled t some le = record {
  first = piece-first old new cells c len tiled t some;
  each = λ d is. elim (cases_eq d c) [
    | inl e ↦ subst (IsPieceAt new cells) (sym e) (pieces-here old new cells c len tiled t some le)
    | inr ne ↦ elim (cases_lt len (old c)) [
      | inr ge ↦ pieces-other old new cells c len d tiled t some le ne (λ lt. absurd (omega arith)) is
      | inl lt ↦ elim (cases_eq d (c + len)) [
        | inl e ↦ subst (IsPieceAt new cells) (sym e) (pieces-rest old new cells c len tiled t some lt)
        | inr other ↦ pieces-other old new cells c len d tiled t some le ne (λ _. other) is
      ]
    ]
  ];
}
