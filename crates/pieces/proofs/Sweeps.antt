use Rattle.std.specs.Prelude.{◌≡◌, ℕ, zero, suc, ◌≤◌, ◌<◌, ◌+◌, ◌-◌, ℤ, pos, ◌+ℤ◌, ◌≤ℤ◌, List, [], ◌∷◌, ◌++◌, map, take, length, get_or, ◌⊎◌}
use Rattle.std.proofs.Common.{refl, arith, ap, sym, ◌∙◌, subst, inl, inr, length-append, below_more}
use Rattle.std.proofs.lemmas.Int.{ints}
use Rattle.std.proofs.lemmas.List.{get_or_append_left, get_or_push, get_or-map, length-map}
use Rattle.pieces.specs.declared.spans.Span.{Span}
use Rattle.pieces.specs.declared.spans.Occ.{Occ}
use Rattle.pieces.specs.View.{PieceView}
use Rattle.pieces.specs.Refinement.{span_at, occ_at, piece_at, no_piece, no_occ, end_of, first_of, IsWithinSpans, IsReadAt, AreReadAt, AllWithin, RunFrom, IsRefinement}
use Rattle.pieces.specs.Cursors.{StaysIn, EndsBehind, IsStepped, AreBehind}
use Rattle.pieces.proofs.Order.{starts_behind}
use Rattle.pieces.proofs.Steps.{le_or_lt}

-- the pieces of a range up to a position, and cursors for what is left of it
pub record Swept (spans : List Span) (occs : List Occ) (l r at : ℤ) (left : ℕ) (cursors : List ℕ) (ps : List PieceView) : Type 0 where
  pub whole : (at +ℤ pos left) ≡ r
  pub low : l ≤ℤ at
  pub runs : RunFrom l ps at
  pub reads : (k : ℕ) → k < length ps → (j : ℕ) → j < (piece_at ps k).len → AreReadAt spans occs ((piece_at ps k).start +ℤ pos j) (piece_at ps k).segs
  pub differ : (k : ℕ) → k + 1 < length ps → (piece_at ps k).segs ≡ (piece_at ps (k + 1)).segs → ⊥
  pub behind : AreBehind spans occs at cursors
  pub last : 0 < left → (k : ℕ) → k + 1 ≡ length ps → (segs : List ℕ) → AreReadAt spans occs at segs → (piece_at ps k).segs ≡ segs → ⊥

RunFrom-push : (from to : ℤ) (ps : List PieceView) (p : PieceView) → RunFrom from ps to → p.start ≡ to → 1 ≤ p.len → RunFrom from (ps ++ p ∷ []) (to +ℤ pos p.len)
RunFrom-push from to [] p h e some = (e ∙ sym h, some, ap (λ x. x +ℤ pos p.len) h)
RunFrom-push from to (q ∷ ps) p h e some = (h.0, h.1, RunFrom-push (from +ℤ pos q.len) to ps p h.2 e some)

stays_reads : (spans : List Span) (o : Occ) (at : ℤ) (len s j : ℕ) → StaysIn spans o at len s → j < len → IsReadAt spans o (at +ℤ pos j) s
stays_reads spans o at len s j h lt = record { from = h.read.from; to = h.read.to; start = omega (arith, ints, h.read.start); behind = omega (arith, ints, h.room) }

step_reads : (spans : List Span) (occs : List Occ) (at : ℤ) (most : ℕ) (before cursors : List ℕ) (len : ℕ) → IsStepped spans occs at most before cursors len (length occs) → (j : ℕ) → j < len → AreReadAt spans occs (at +ℤ pos j) cursors
step_reads spans occs at most before cursors len h j lt = record { count = h.count; each = λ o below. stays_reads spans (occ_at occs o) at len (get_or cursors o 0) j (h.stay o below) lt }

-- later positions read later segments
read_order : (spans : List Span) (o : Occ) (at : ℤ) (len s t : ℕ) → IsWithinSpans spans o → IsReadAt spans o at s → IsReadAt spans o (at +ℤ pos len) t → s ≤ t
read_order spans o at len s t w h k =
    so (λ lt. let g : end_of (span_at spans t) ≤ (span_at spans s).start = starts_behind spans o t s w k.from lt h.to in omega (arith, ints, g, h.start, k.behind))
  where
    so : (t < s → ⊥) → s ≤ t
    so n = omega (arith, n)

zero_later : (at : ℤ) → (at +ℤ pos 0) ≡ at
zero_later at = omega (arith, ints)

-- what holds at each place of a list, and of one more, holds at each place of both
all_push : (P : PieceView → Type 0) (ps : List PieceView) (p : PieceView) → ((k : ℕ) → k < length ps → P (piece_at ps k)) → P p → (k : ℕ) → k < length (ps ++ p ∷ []) → P (piece_at (ps ++ p ∷ []) k)
all_push P ps p h g k lt =
    below_more (λ k. P (piece_at (ps ++ p ∷ []) k)) (length ps)
    (λ k below. rw (get_or_append_left ps (p ∷ []) no_piece k below) (h k below))
    (rw (get_or_push ps p no_piece (length ps) refl) g)
    k (omega (arith, length-append ps (p ∷ [])))

differ_more : (spans : List Span) (occs : List Occ) (at : ℤ) (ps : List PieceView) (p : PieceView)
    → ((k : ℕ) → k + 1 < length ps → (piece_at ps k).segs ≡ (piece_at ps (k + 1)).segs → ⊥)
    → ((k : ℕ) → k + 1 ≡ length ps → (piece_at ps k).segs ≡ p.segs → ⊥)
    → (k : ℕ) → k + 1 < length (ps ++ p ∷ []) → (piece_at (ps ++ p ∷ []) k).segs ≡ (piece_at (ps ++ p ∷ []) (k + 1)).segs → ⊥
differ_more spans occs at ps p h g k lt = so (le_or_lt (length ps) (k + 1))
  where
    n : length (ps ++ p ∷ []) ≡ length ps + 1
    n = length-append ps (p ∷ [])

    so : (length ps ≤ k + 1) ⊎ (k + 1 < length ps) → (piece_at (ps ++ p ∷ []) k).segs ≡ (piece_at (ps ++ p ∷ []) (k + 1)).segs → ⊥
    so (inr below) e =
        h k below (ap (λ (q : PieceView). q.segs) (sym (get_or_append_left ps (p ∷ []) no_piece k (omega arith))) ∙ e ∙ ap (λ (q : PieceView). q.segs) (get_or_append_left ps (p ∷ []) no_piece (k + 1) below))
    so (inl at) e =
        let here : k + 1 ≡ length ps = omega (arith, n) in
        g k here (ap (λ (q : PieceView). q.segs) (sym (get_or_append_left ps (p ∷ []) no_piece k (omega arith))) ∙ e ∙ ap (λ (q : PieceView). q.segs) (get_or_push ps p no_piece (k + 1) (sym here)))

-- cursors that cannot all stay are not read at the next position
moves_on : (spans : List Span) (occs : List Occ) (at : ℤ) (most : ℕ) (before cursors : List ℕ) (len : ℕ) → IsStepped spans occs at most before cursors len (length occs) → 0 < most - len
    → (segs : List ℕ) → AreReadAt spans occs (at +ℤ pos len) segs → cursors ≡ segs → ⊥
moves_on spans occs at most before cursors len h more segs r e = so h.ends
  where
    so : (len ≡ most) ⊎ ((o : ℕ) × (o < length occs) × EndsBehind spans (occ_at occs o) at len (get_or cursors o 0)) → ⊥
    so (inl q) = omega arith
    so (inr q) =
        let g = r.each q.0 q.1 in
        let same : end_of (span_at spans (get_or cursors q.0 0)) ≡ end_of (span_at spans (get_or segs q.0 0)) = ap (λ xs. end_of (span_at spans (get_or xs q.0 0))) e in
        omega (arith, ints, g.behind, q.2, same)

pub sweep_more : (spans : List Span) (occs : List Occ) (l r at : ℤ) (left : ℕ) (cursors : List ℕ) (ps : List PieceView) (before new : List ℕ) (len : ℕ)
    → Swept spans occs l r at left cursors ps → AllWithin spans occs → 1 ≤ left → IsStepped spans occs at left before new len (length occs)
    → Swept spans occs l r (at +ℤ pos len) (left - len) new (ps ++ record { start = at; len = len; segs = new } ∷ [])
sweep_more spans occs l r at left cursors ps before new len h within some s =
    let p : PieceView = record { start = at; len = len; segs = new } in
    let here : AreReadAt spans occs (at +ℤ pos 0) new = step_reads spans occs at left before new len s 0 (omega (arith, s.some)) in
    record {
      whole = omega (arith, ints, h.whole, s.within);
      low = omega (arith, ints, h.low);
      runs = RunFrom-push l at ps (record { start = at; len = len; segs = new }) h.runs refl s.some;
      reads = all_push (λ (q : PieceView). (j : ℕ) → j < q.len → AreReadAt spans occs (q.start +ℤ pos j) q.segs) ps (record { start = at; len = len; segs = new }) h.reads (λ j lt. step_reads spans occs at left before new len s j lt);
      differ = differ_more spans occs at ps (record { start = at; len = len; segs = new }) h.differ (λ k e. h.last (omega arith) k e new (subst (λ i. AreReadAt spans occs i new) (zero_later at) here));
      behind = record {
        count = s.count;
        from = λ o lt. (s.stay o lt).read.from;
        behind = λ o lt t q. read_order spans (occ_at occs o) at len (get_or new o 0) t (within o lt) (s.stay o lt).read q;
      };
      last = λ more k e segs q same.
          let n : k ≡ length ps = omega (arith, length-append ps (record { start = at; len = len; segs = new } ∷ [])) in
          moves_on spans occs at left before new len s more segs q
          (ap (λ (q : PieceView). q.segs) (sym (get_or_push ps (record { start = at; len = len; segs = new }) no_piece k (sym n))) ∙ same);
    }

pub sweep_none : (spans : List Span) (occs : List Occ) (l r : ℤ) (left : ℕ) (cursors : List ℕ) → (l +ℤ pos left) ≡ r → cursors ≡ map first_of occs → Swept spans occs l r l left cursors []
sweep_none spans occs l r left cursors e c =
    let at : (o : ℕ) → o < length occs → get_or cursors o 0 ≡ (occ_at occs o).from = λ o lt. ap (λ xs. get_or xs o 0) c ∙ get_or-map first_of occs o no_occ 0 lt in
    record {
      whole = e;
      low = omega (arith, ints);
      runs = refl;
      reads = λ k lt. absurd (omega arith);
      differ = λ k lt. absurd (omega arith);
      behind = record {
        count = ap length c ∙ length-map occs first_of;
        from = λ o lt. omega (arith, at o lt);
        behind = λ o lt s h. omega (arith, at o lt, h.from);
      };
      last = λ more k n. absurd (omega arith);
    }

pub sweep_done : (spans : List Span) (occs : List Occ) (l r at : ℤ) (cursors : List ℕ) (ps : List PieceView) → Swept spans occs l r at 0 cursors ps → IsRefinement spans occs l r ps
sweep_done spans occs l r at cursors ps h =
    let e : at ≡ r = omega (arith, ints, h.whole) in
    record { runs = subst (λ i. RunFrom l ps i) e h.runs; reads = h.reads; differ = h.differ }

pub sweep_same : (spans : List Span) (occs : List Occ) (l r at at' : ℤ) (left : ℕ) (cursors cursors' : List ℕ) (ps ps' : List PieceView) → at' ≡ at → cursors' ≡ cursors → ps' ≡ ps
    → Swept spans occs l r at left cursors ps → Swept spans occs l r at' left cursors' ps'
sweep_same spans occs l r at at' left cursors cursors' ps ps' a b c h = rw (a, b, c) h

-- a slice written back into a list of its length is the list
pub written_back : (xs ys : List ℕ) (n : ℕ) → length xs ≡ n → take n (xs ++ ys) ≡ xs
written_back [] ys zero h = refl
written_back [] ys (suc n) h = absurd (omega arith)
written_back (x ∷ xs) ys zero h = absurd (omega arith)
written_back (x ∷ xs) ys (suc n) h = ap (λ zs. x ∷ zs) (written_back xs ys n (omega arith))
