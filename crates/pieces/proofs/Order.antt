use Rattle.std.specs.Prelude.{◌≡◌, ℕ, zero, suc, ◌≤◌, ◌<◌, ◌+◌, ◌-◌, ℤ, pos, ◌+ℤ◌, List}
use Rattle.std.proofs.Common.{arith, ap}
use Rattle.std.proofs.lemmas.Int.{ints}
use Rattle.pieces.specs.declared.spans.Span.{Span}
use Rattle.pieces.specs.declared.spans.Occ.{Occ}
use Rattle.pieces.specs.Refinement.{span_at, end_of, IsWithinSpans, IsReadAt}

-- a later span starts behind an earlier one
later_starts : (spans : List Span) (o : Occ) (c n : ℕ) → IsWithinSpans spans o → o.from ≤ c → c + suc n < o.to → end_of (span_at spans c) ≤ (span_at spans (c + suc n)).start
later_starts spans o c zero h f t = let e = h.touch c f t in omega (arith, e)
later_starts spans o c (suc n) h f t =
    let e : end_of (span_at spans (c + suc n)) ≡ (span_at spans (c + suc n + 1)).start = h.touch (c + suc n) (omega arith) (omega arith) in
    let g : (span_at spans (c + suc n + 1)).start ≡ (span_at spans (c + suc (suc n))).start = ap (λ s. (span_at spans s).start) (omega arith) in
    omega (arith, later_starts spans o c n h f (omega arith), e, g)

pub starts_behind : (spans : List Span) (o : Occ) (c s : ℕ) → IsWithinSpans spans o → o.from ≤ c → c < s → s < o.to → end_of (span_at spans c) ≤ (span_at spans s).start
starts_behind spans o c s h f lt t =
    let g : (span_at spans (c + suc (s - suc c))).start ≡ (span_at spans s).start = ap (λ s. (span_at spans s).start) (omega arith) in
    omega (arith, later_starts spans o c (s - suc c) h f (omega arith), g)

-- a span that ends by a position is not the one that is read there
pub read_later : (spans : List Span) (o : Occ) (i : ℤ) (place c s : ℕ) → i ≡ (pos place +ℤ o.shift) → IsReadAt spans o i s → c ≤ s → end_of (span_at spans c) ≤ place → c + 1 ≤ s
read_later spans o i place c s e h k b =
    at (λ q. let g : end_of (span_at spans c) ≡ end_of (span_at spans s) = ap (λ x. end_of (span_at spans x)) q in omega (arith, ints, g, h.behind, e))
  where
    at : (c ≡ s → ⊥) → c + 1 ≤ s
    at n = omega (arith, n)

-- a cursor at or before the segment that is read, whose span ends behind the place, is that segment
pub read_here : (spans : List Span) (o : Occ) (i : ℤ) (place c s : ℕ) → IsWithinSpans spans o → i ≡ (pos place +ℤ o.shift) → IsReadAt spans o i s → o.from ≤ c → c ≤ s → place < end_of (span_at spans c) → c ≡ s
read_here spans o i place c s w e h f k b =
    at (λ lt. let g : end_of (span_at spans c) ≤ (span_at spans s).start = starts_behind spans o c s w f lt h.to in omega (arith, ints, g, h.start, e))
  where
    at : (c < s → ⊥) → c ≡ s
    at n = omega (arith, n)
