-- The tracks of a sound cut: their names are apart, and the segments of a name are those of the rows of its track.
use Rattle.std.proofs.Common.{◌≡◌, ℕ, zero, suc, ◌+◌, ◌<◌, true, false, cond, inl, inr, ℤ, Option, Some, None, List, [], ◌∷◌, ◌++◌, length, map, refl, sym, ap, subst, ◌∙◌, arith}
use Rattle.std.specs.List.{All}
use Rattle.std.proofs.lemmas.Bool.{cases_Bool}
use Rattle.std.proofs.lemmas.List.Elements.{All-head, All-tail}
use Rattle.std.proofs.lemmas.Slice.Eq.{bytes_eq-Decides}
use Rattle.semantics.specs.Names.{same_name}
use Rattle.segment.specs.declared.segments.Seg.{Seg}
use Rattle.bounds.specs.Cut.{segs_of, AreDistinct, IsNew}
use Rattle.descent.specs.Choice.{Has}
use Rattle.descent.specs.Known.{AreApart}
use Rattle.descent.specs.Readers.{track_at}
use Rattle.descent.specs.Rows.{entries, segs_given, segs_of_rows, units, Cut, Row}
use Rattle.descent.specs.Sound.{name_of, IsSoundTrack}

-- ---- names

pub same-itself : (name : List ℕ) → same_name name name ≡ true
same-itself name = (bytes_eq-Decides name name).1 refl

pub flipped : (xs ys : List ℕ) → same_name ys xs ≡ false → same_name xs ys ≡ false
flipped xs ys f = elim (cases_Bool (same_name xs ys)) [
  | inr n ↦ n
  | inl t ↦ let bad = sym ((bytes_eq-Decides ys xs).1 (sym ((bytes_eq-Decides xs ys).0 t))) ∙ f in cc
]

others-apart : (name : List ℕ) (cut : Cut) (j : ℕ) → All (λ other. same_name other name ≡ false) (map name_of cut)
    → j < length cut → same_name (track_at cut j).name name ≡ false
others-apart name [] j all lt = absurd (omega arith)
others-apart name (track ∷ cut) zero all lt =
    All-head (λ other. same_name other name ≡ false) track.name (map name_of cut) all
others-apart name (track ∷ cut) (suc j) all lt =
    others-apart name cut j (All-tail (λ other. same_name other name ≡ false) track.name (map name_of cut) all)
    (omega arith)

pub names-apart : (cut : Cut) (i j : ℕ) → AreApart (map name_of cut) → i < length cut → j < length cut
    → (i ≡ j → ⊥) → same_name (track_at cut i).name (track_at cut j).name ≡ false
names-apart [] i j apart lt mt ne = absurd (omega arith)
names-apart (track ∷ cut) zero zero apart lt mt ne = absurd (ne refl)
names-apart (track ∷ cut) zero (suc j) apart lt mt ne =
    flipped track.name (track_at cut j).name (others-apart track.name cut j apart.0 (omega arith))
names-apart (track ∷ cut) (suc i) zero apart lt mt ne = others-apart track.name cut i apart.0 (omega arith)
names-apart (track ∷ cut) (suc i) (suc j) apart lt mt ne =
    names-apart cut i j apart.1 (omega arith) (omega arith) (λ e. ne (ap suc e))

is-new : (name : List ℕ) (cut : Cut) → All (λ other. same_name other name ≡ false) (map name_of cut)
    → IsNew name (entries cut)
is-new name [] all = tt
is-new name (track ∷ cut) all = (
  All-head (λ other. same_name other name ≡ false) track.name (map name_of cut) all,
  is-new name cut (All-tail (λ other. same_name other name ≡ false) track.name (map name_of cut) all),
)

pub distinct : (cut : Cut) → AreApart (map name_of cut) → AreDistinct (entries cut)
distinct [] h = tt
distinct (track ∷ cut) h = (is-new track.name cut h.0, distinct cut h.1)

-- ---- segments

pub segs-of-track : (cut : Cut) (k : ℕ) → AreApart (map name_of cut) → k < length cut
    → segs_of (entries cut) (track_at cut k).name ≡ segs_of_rows (track_at cut k).rows
segs-of-track [] k apart lt = absurd (omega arith)
segs-of-track (track ∷ cut) zero apart lt =
    ap (λ b. cond b (segs_of_rows track.rows) (segs_of (entries cut) track.name)) (same-itself track.name)
segs-of-track (track ∷ cut) (suc k) apart lt =
    let other = flipped track.name (track_at cut k).name (others-apart track.name cut k apart.0 (omega arith)) in
    ap (λ b. cond b (segs_of_rows track.rows) (segs_of (entries cut) (track_at cut k).name)) other
    ∙ segs-of-track cut k apart.1 (omega arith)

pub sound-at : (cut : Cut) (k : ℕ) → All IsSoundTrack cut → k < length cut → IsSoundTrack (track_at cut k)
sound-at [] k all lt = absurd (omega arith)
sound-at (track ∷ cut) zero all lt = All-head IsSoundTrack track cut all
sound-at (track ∷ cut) (suc k) all lt = sound-at cut k (All-tail IsSoundTrack track cut all) (omega arith)

pub all-has : {A : Type 0} → (P : A → Type 0) (xs : List A) (x : A) → All P xs → Has x xs → P x
all-has P [] x all h = absurd h
all-has P (y ∷ xs) x all (inl e) = subst P (sym e) (All-head P y xs all)
all-has P (y ∷ xs) x all (inr h) = all-has P xs x (All-tail P y xs all) h

-- ---- a segment that misses something is that of a closed row

-- a row with this segment
pub record IsOfRow (rows : List Row) (g : Seg) : Type 0 where
  pub row : Row
  pub there : Has row rows
  pub same : g ≡ row.seg

units-free : (start : ℕ) (xs : List ℤ) (g : Seg) → Has g (units start xs) → g.l ≡ 0
units-free start [] g h = absurd h
units-free start (x ∷ xs) g (inl e) = ap (λ (s : Seg). s.l) e
units-free start (x ∷ xs) g (inr h) = units-free (start + 1) xs g h

given-row : (row : Row) (o : Option (List ℤ)) (rows : List Row) (gs : List Seg) (g : Seg)
    → (Has g gs → IsOfRow rows g) → Has row rows → 0 < g.l → Has g (segs_given row.seg o ++ gs) → IsOfRow rows g
given-row row None rows gs g rest here some (inl e) = record { row = row; there = here; same = e }
given-row row None rows gs g rest here some (inr h) = rest h
given-row row (Some xs) rows gs g rest here some h = go row.seg.start xs h
  where
    go : (start : ℕ) (ys : List ℤ) → Has g (units start ys ++ gs) → IsOfRow rows g
    go start [] k = rest k
    go start (y ∷ ys) (inl e) = let z : g.l ≡ 0 = ap (λ (s : Seg). s.l) e in absurd (omega arith)
    go start (y ∷ ys) (inr k) = go (start + 1) ys k

more-rows : (row : Row) (rows : List Row) (g : Seg) → IsOfRow rows g → IsOfRow (row ∷ rows) g
more-rows row rows g is = record { row = is.row; there = inr is.there; same = is.same }

pub row-of : (rows : List Row) (g : Seg) → 0 < g.l → Has g (segs_of_rows rows) → IsOfRow rows g
row-of [] g some h = absurd h
row-of (row ∷ rows) g some h =
    given-row row row.readings (row ∷ rows) (segs_of_rows rows) g (λ k. more-rows row rows g (row-of rows g some k))
    (inl refl) some h
