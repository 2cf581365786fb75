-- The rows of tables begin at borders of blocks.
use Rattle.std.proofs.Common.{◌≡◌, ℕ, ◌+◌, ◌*◌, ◌/◌, ◌<◌, inl, inr, List, [], ◌∷◌, length, map, get_or, refl, ap, subst, ◌∙◌, arith}
use Rattle.std.proofs.lemmas.Bool.{cases_lt}
use Rattle.descent.specs.Choice.{Has}
use Rattle.descent.specs.Held.{Held, row_in, shown}
use Rattle.descent.specs.Readers.{track_at}
use Rattle.descent.specs.Rows.{Row, Track}
use Rattle.descent.specs.Settled.{AreAtBorders}
use Rattle.descent.proofs.Anew.{shown-at}

has-shown : {I : Type 0} → (hs : List (Held I)) (row : Row) → Has row (map row_in hs) → (h : Held I) × Has h hs × (row ≡ row_in h)
has-shown [] row there = absurd there
has-shown (h ∷ hs) row (inl e) = (h, inl refl, e)
has-shown (h ∷ hs) row (inr there) = let s = has-shown hs row there in (s.0, inr s.1, s.2)

pub borders-more : {I : Type 0} → (tables : List (Track (Held I))) (j : ℕ) (t : Track (Held I)) → j < length tables → t ≡ get_or tables j t
    → ((h : Held I) → Has h t.rows → h.row.seg.start ≡ 16 * (h.row.seg.start / 16)) → AreAtBorders (shown tables) j → AreAtBorders (shown tables) (j + 1)
borders-more tables j t lt e own below = λ i row less there. elim (cases_lt i j) [
  | inl before ↦ below i row before there
  | inr ge ↦
      let same : i ≡ j = omega arith in
      let at : (track_at (shown tables) i).rows ≡ map row_in t.rows = ap (λ k. (track_at (shown tables) k).rows) same ∙ ap (λ (k : Track Row). k.rows) (shown-at tables j t lt e) in
      let h = has-shown t.rows row (subst (Has row) at there) in
      let start = ap (λ (r : Row). r.seg.start) h.2 in
      (h.0.row.seg.start / 16, start ∙ own h.0 h.1)
]
