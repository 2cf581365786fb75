-- Of segments that lie one behind the other, one covers a position, and it is found there.
use Rattle.std.proofs.Common.{◌≡◌, ◌≢◌, ℕ, zero, suc, ◌+◌, ◌≤◌, ◌<◌, ◌⊎◌, ℤ, pos, negsuc, true, false, cond, nat_le, nat_lt, ◌&&◌, List, [], ◌∷◌, length, get_or, refl, ap, ◌∙◌, arith, inl, inr}
use Rattle.std.proofs.lemmas.Bool.Decides.{nat_tests}
use Rattle.segment.specs.declared.segments.Seg.{Seg}
use Rattle.bounds.specs.Segments.{covers, no_seg, seg_at, SegsAreFound, TouchFrom}

-- segments that touch start one behind another
starts_from : (gs : List Seg) (from to : ℕ) (k : ℕ) → TouchFrom from gs to → k < length gs → from ≤ (get_or gs k no_seg).start
starts_from [] from to k t lt = absurd (omega arith)
starts_from (g ∷ gs) from to zero t lt = omega (arith, t.0)
starts_from (g ∷ gs) from to (suc k) t lt = omega (arith, starts_from gs (from + g.len) to k t.1 (omega arith))

starts_behind : (gs : List Seg) (from to j k : ℕ) → TouchFrom from gs to → j < k → k < length gs → (get_or gs j no_seg).start + (get_or gs j no_seg).len ≤ (get_or gs k no_seg).start
starts_behind [] from to j k t lt h = absurd (omega arith)
starts_behind (g ∷ gs) from to j zero t lt h = absurd (omega arith)
starts_behind (g ∷ gs) from to zero (suc k) t lt h = omega (arith, t.0, starts_from gs (from + g.len) to k t.1 (omega arith))
starts_behind (g ∷ gs) from to (suc j) (suc k) t lt h = starts_behind gs (from + g.len) to j k t.1 (omega arith) (omega arith)

only_first : (a m b n p : ℕ) → a + m ≤ b → (nat_le a p && nat_lt p (a + m)) ≡ true → (nat_le b p && nat_lt p (b + n)) ≡ false
only_first a m b n p le h = grind (arith, nat_tests)

only_second : (a m b n p : ℕ) → a + m ≤ b → (nat_le b p && nat_lt p (b + n)) ≡ true → (nat_le a p && nat_lt p (a + m)) ≡ false
only_second a m b n p le h = grind (arith, nat_tests)

not_second : (g h : Seg) (i : ℤ) → g.start + g.len ≤ h.start → covers g i ≡ true → covers h i ≡ false
not_second g h (pos p) le c = only_first g.start g.len h.start h.len p le c
not_second g h (negsuc p) le c = refl

not_first : (g h : Seg) (i : ℤ) → g.start + g.len ≤ h.start → covers h i ≡ true → covers g i ≡ false
not_first g h (pos p) le c = only_second g.start g.len h.start h.len p le c
not_first g h (negsuc p) le c = refl

-- of segments that touch only one covers a position
covered_once : (gs : List Seg) (from to j k : ℕ) (i : ℤ) → TouchFrom from gs to → k < length gs → j < length gs → j ≢ k → covers (get_or gs k no_seg) i ≡ true → covers (get_or gs j no_seg) i ≡ false
covered_once gs from to j k i t hk hj ne c = so (two j k ne)
  where
    so : (j < k) ⊎ (k < j) → covers (get_or gs j no_seg) i ≡ false
    so (inl lt) = not_first (get_or gs j no_seg) (get_or gs k no_seg) i (starts_behind gs from to j k t lt hk) c
    so (inr lt) = not_second (get_or gs k no_seg) (get_or gs j no_seg) i (starts_behind gs from to k j t lt hj) c

    two : (j k : ℕ) → j ≢ k → (j < k) ⊎ (k < j)
    two zero zero ne = absurd (ne refl)
    two zero (suc k) ne = inl (omega arith)
    two (suc j) zero ne = inr (omega arith)
    two (suc j) (suc k) ne = elim (two j k (λ e. ne (ap suc e))) [ inl h ↦ inl (omega arith) | inr h ↦ inr (omega arith) ]

-- of segments that touch the one that covers a position is found there
found_at : (gs : List Seg) (from to k : ℕ) (i : ℤ) → TouchFrom from gs to → k < length gs → covers (get_or gs k no_seg) i ≡ true → seg_at gs i ≡ get_or gs k no_seg
found_at [] from to k i t lt c = absurd (omega arith)
found_at (g ∷ gs) from to zero i t lt c = ap (λ b. cond b g (seg_at gs i)) c
found_at (g ∷ gs) from to (suc k) i t lt c =
    ap (λ b. cond b g (seg_at gs i)) (not_first g (get_or gs k no_seg) i (starts_behind (g ∷ gs) from to 0 (suc k) t (omega arith) lt) c)
    ∙ found_at gs (from + g.len) to k i t.1 (omega arith) c

pub segs_found : SegsAreFound
segs_found gs from to k i t lt c = record { found = found_at gs from to k i t lt c; alone = λ j below ne. covered_once gs from to j k i t lt below ne c }
