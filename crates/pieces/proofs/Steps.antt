use Rattle.std.specs.Prelude.{◌≡◌, ◌≢◌, ℕ, zero, suc, ◌≤◌, ◌<◌, ◌+◌, min, ℤ, pos, ◌-ℤ◌, List, length, get_or, slice_set, ◌⊎◌}
use Rattle.std.proofs.Common.{refl, arith, ◌∙◌, inl, inr, get_or-set_other, get_or-set_same, length-set, below_more}
use Rattle.std.proofs.lemmas.Int.{ints}
use Rattle.pieces.specs.declared.spans.Span.{Span}
use Rattle.pieces.specs.declared.spans.Occ.{Occ}
use Rattle.pieces.specs.Refinement.{span_at, occ_at, end_of, IsReadAt}
use Rattle.pieces.specs.Cursors.{StaysIn, EndsBehind, IsStepped}

pub le_or_lt : (a b : ℕ) → (a ≤ b) ⊎ (b < a)
le_or_lt zero b = inl (omega arith)
le_or_lt (suc a) zero = inr (omega arith)
le_or_lt (suc a) (suc b) = elim (le_or_lt a b) [ inl h ↦ inl (omega arith) | inr h ↦ inr (omega arith) ]

shorter_stays : (spans : List Span) (o : Occ) (at : ℤ) (m n s : ℕ) → n ≤ m → StaysIn spans o at m s → StaysIn spans o at n s
shorter_stays spans o at m n s h k = record { read = k.read; room = omega (arith, ints, k.room) }

-- the first k stay, the next one too
done_more : (spans : List Span) (occs : List Occ) (at : ℤ) (cursors : List ℕ) (len k s n : ℕ) → k < length cursors → n ≤ len
    → ((o : ℕ) → o < k → StaysIn spans (occ_at occs o) at len (get_or cursors o 0)) → StaysIn spans (occ_at occs k) at n s
    → (o : ℕ) → o < k + 1 → StaysIn spans (occ_at occs o) at n (get_or (slice_set cursors k s) o 0)
done_more spans occs at cursors len k s n lt le h g =
    below_more (λ o. StaysIn spans (occ_at occs o) at n (get_or (slice_set cursors k s) o 0)) k
    (λ o below. let ne : o ≢ k = omega arith in rw get_or-set_other (shorter_stays spans (occ_at occs o) at len n (get_or cursors o 0) le (h o below)))
    (rw get_or-set_same g)

ends_more : (spans : List Span) (occs : List Occ) (at : ℤ) (most : ℕ) (cursors : List ℕ) (len k s rest : ℕ) → k < length cursors
    → pos rest ≡ (pos (end_of (span_at spans s)) -ℤ (at -ℤ (occ_at occs k).shift))
    → (len ≡ most) ⊎ ((o : ℕ) × (o < k) × EndsBehind spans (occ_at occs o) at len (get_or cursors o 0))
    → (min len rest ≡ most) ⊎ ((o : ℕ) × (o < k + 1) × EndsBehind spans (occ_at occs o) at (min len rest) (get_or (slice_set cursors k s) o 0))
ends_more spans occs at most cursors len k s rest lt e h = elim (le_or_lt len rest) [ inl le ↦ kept le h | inr less ↦ inr (k, omega arith, ended less) ]
  where
    kept : len ≤ rest → (len ≡ most) ⊎ ((o : ℕ) × (o < k) × EndsBehind spans (occ_at occs o) at len (get_or cursors o 0))
        → (min len rest ≡ most) ⊎ ((o : ℕ) × (o < k + 1) × EndsBehind spans (occ_at occs o) at (min len rest) (get_or (slice_set cursors k s) o 0))
    kept le (inl q) = inl (omega arith)
    kept le (inr q) = inr (
      q.0,
      omega (arith, q.1),
      let ne : q.0 ≢ k = omega (arith, q.1) in
          let m : min len rest ≡ len = omega arith in
          rw (m, get_or-set_other cursors k q.0 s 0 ne) q.2,
    )

    ended : rest < len → EndsBehind spans (occ_at occs k) at (min len rest) (get_or (slice_set cursors k s) k 0)
    ended less =
        let m : min len rest ≡ rest = omega arith in
        let g : get_or (slice_set cursors k s) k 0 ≡ s = get_or-set_same cursors k s 0 lt in
        rw (m, g) (omega (arith, ints, e))

pub step_more : (spans : List Span) (occs : List Occ) (at : ℤ) (most : ℕ) (before cursors : List ℕ) (len k s rest : ℕ) → IsStepped spans occs at most before cursors len k → k < length occs
    → IsReadAt spans (occ_at occs k) at s → 1 ≤ rest → pos rest ≡ (pos (end_of (span_at spans s)) -ℤ (at -ℤ (occ_at occs k).shift))
    → IsStepped spans occs at most before (slice_set cursors k s) (min len rest) (k + 1)
step_more spans occs at most before cursors len k s rest h lt read some e =
    let place : k < length cursors = omega (arith, h.count) in
    record {
      count = length-set cursors k s ∙ h.count;
      some = omega (arith, h.some);
      within = omega (arith, h.within);
      stay = done_more spans occs at cursors len k s (min len rest) place (omega arith) h.stay (record { read = read; room = omega (arith, ints, e) });
      rest = λ o le. let ne : o ≢ k = omega arith in rw get_or-set_other (h.rest o (omega arith));
      ends = ends_more spans occs at most cursors len k s rest place e h.ends;
    }

pub step_none : (spans : List Span) (occs : List Occ) (at : ℤ) (most : ℕ) (cursors : List ℕ) → length cursors ≡ length occs → 1 ≤ most → IsStepped spans occs at most cursors cursors most 0
step_none spans occs at most cursors e some = record {
  count = e;
  some = some;
  within = omega arith;
  stay = λ o lt. absurd (omega arith);
  rest = λ o le. refl;
  ends = inl refl;
}
