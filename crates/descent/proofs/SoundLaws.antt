-- The segments of a sound cut make a frame.
use Rattle.std.proofs.Common.{◌≡◌, ℕ, suc, ◌+◌, ◌*◌, ◌^◌, ◌<◌, ◌≤◌, false, inl, inr, ℤ, pos, unsigned_abs, Option, Some, None, List, [], ◌∷◌, ◌++◌, length, map, refl, sym, ap, subst, ◌∙◌, arith, length-append}
use Rattle.std.specs.List.{All, AllByRecursion, sum_by}
use Rattle.std.proofs.lemmas.Bool.{cases_Bool}
use Rattle.std.proofs.lemmas.Int.{unsigned_abs-mul}
use Rattle.std.proofs.lemmas.List.Sums.{sum_by-cons}
use Rattle.std.proofs.lemmas.List.Elements.{All-head, All-tail}
use Rattle.semantics.specs.Admission.{Fact, count_at}
use Rattle.semantics.specs.Admitted.{IsAdmitted}
use Rattle.semantics.specs.Names.{same_name}
use Rattle.semantics.specs.Readings.{reading}
use Rattle.semantics.specs.Term.{QueryTerm}
use Rattle.segment.specs.declared.segments.Seg.{Seg}
use Rattle.segment.specs.Measure.{unit, unit_seg, IsSane}
use Rattle.bounds.specs.Cut.{IsNew, AreDistinct}
use Rattle.bounds.specs.Segments.{len_of, IsSaneFor, AreSaneFor, TouchFrom}
use Rattle.error_prop.specs.Entries.{end_from, AllTouch}
use Rattle.error_prop.specs.Places.{end_of_name, flat}
use Rattle.error_prop.specs.QueryOver.{IsAsKnown}
use Rattle.error_prop.proofs.FrameLaws.{touch-end}
use Rattle.std.proofs.lemmas.List.{length-map}
use Rattle.descent.specs.Rows.{Row, Track, Cut, units, segs_given, segs_of_row, segs_of_rows, entries, with_rows}
use Rattle.descent.specs.Held.{Held, row_in, shown}
use Rattle.descent.specs.Known.{fact_of, facts_in, AreApart}
use Rattle.descent.specs.Sound.{AreSmall, IsSoundRow, seg_of, IsSoundTrack, name_of, IsFrameFor, CutsAreFrames}
use Rattle.descent.proofs.Admits.{each-sum}

-- ---- the segments of rows

pub touch-append : (gs hs : List Seg) (a b c : ℕ) → TouchFrom a gs b → TouchFrom b hs c → TouchFrom a (gs ++ hs) c
touch-append [] hs a b c g h = subst (λ k. TouchFrom k hs c) (sym g) h
touch-append (x ∷ gs) hs a b c g h = (g.0, touch-append gs hs (a + x.len) b c g.1 h)

units-touch : (start : ℕ) (xs : List ℤ) → TouchFrom start (units start xs) (start + length xs)
units-touch start [] = omega arith
units-touch start (x ∷ xs) = let e : start + 1 + length xs ≡ start + suc (length xs) = omega arith in (refl, subst (TouchFrom (start + 1) (units (start + 1) xs)) e (units-touch (start + 1) xs))

pub row-touch : (d from : ℕ) (row : Row) → IsSoundRow d row → row.seg.start ≡ from → TouchFrom from (segs_of_row row) (from + row.seg.len)
row-touch d from row s at = by row.readings s.read
  where
    by : (o : Option (List ℤ)) → ((xs : List ℤ) → o ≡ Some xs → AreSmall d row.seg.len xs) → TouchFrom from (segs_given row.seg o) (from + row.seg.len)
    by None r = (at, refl)
    by (Some xs) r = rw (← at, ← (r xs refl).long) (units-touch row.seg.start xs)

pub rows-touch : (d from to : ℕ) (rows : List Row) → All (IsSoundRow d) rows → TouchFrom from (map seg_of rows) to → TouchFrom from (segs_of_rows rows) to
rows-touch d from to [] all t = t
rows-touch d from to (row ∷ rows) all t =
    touch-append (segs_of_row row) (segs_of_rows rows) from (from + row.seg.len) to (row-touch d from row (All-head (IsSoundRow d) row rows all) t.0)
    (rows-touch d (from + row.seg.len) to rows (All-tail (IsSoundRow d) row rows all) t.1)

-- the exact segment of a small reading is sane
unit-sane : (d start : ℕ) (x : ℤ) → unsigned_abs x ≤ d → d ≤ 10 ^ 9 → IsSane (unit_seg start x) d
unit-sane d start x small root = record {
  bounded = record { constant = omega (arith, unsigned_abs-mul (pos unit) x); linear = omega arith; square = omega arith };
  below_root = small;
  root = root;
  estimates = omega arith;
  misses = omega arith;
}

-- segments of some length that are sane
abbrev pub AreSomeSane : ℕ → List Seg → Type 0
AreSomeSane d [] = Unit {0}
AreSomeSane d (g ∷ gs) = (0 < g.len) × IsSane g d × AreSomeSane d gs

some-append : (d : ℕ) (gs hs : List Seg) → AreSomeSane d gs → AreSomeSane d hs → AreSomeSane d (gs ++ hs)
some-append d [] hs g h = h
some-append d (x ∷ gs) hs g h = (g.0, g.1, some-append d gs hs g.2 h)

units-sane : (d start : ℕ) (xs : List ℤ) → ((i : ℕ) → unsigned_abs (reading xs i) ≤ d) → d ≤ 10 ^ 9 → AreSomeSane d (units start xs)
units-sane d start [] small root = tt
units-sane d start (x ∷ xs) small root = (omega arith, unit-sane d start x (small 0) root, units-sane d (start + 1) xs (λ i. small (suc i)) root)

row-sane : (d : ℕ) (row : Row) → IsSoundRow d row → AreSomeSane d (segs_of_row row)
row-sane d row s = by row.readings s.read
  where
    by : (o : Option (List ℤ)) → ((xs : List ℤ) → o ≡ Some xs → AreSmall d row.seg.len xs) → AreSomeSane d (segs_given row.seg o)
    by None r = (s.some, s.sane, tt)
    by (Some xs) r = units-sane d row.seg.start xs (r xs refl).small s.sane.root

pub rows-sane : (d : ℕ) (rows : List Row) → All (IsSoundRow d) rows → AreSomeSane d (segs_of_rows rows)
rows-sane d [] all = tt
rows-sane d (row ∷ rows) all = some-append d (segs_of_row row) (segs_of_rows rows) (row-sane d row (All-head (IsSoundRow d) row rows all)) (rows-sane d rows (All-tail (IsSoundRow d) row rows all))

each-sane : (d : ℕ) (gs : List Seg) → AreSomeSane d gs → AllByRecursion (IsSaneFor d) gs
each-sane d [] h = tt
each-sane d (g ∷ gs) h = (h.1, each-sane d gs h.2)

-- segments that touch have as many positions as lie between the ends, and are no more
lens-between : (from to : ℕ) (gs : List Seg) → TouchFrom from gs to → from + sum_by len_of gs ≡ to
lens-between from to [] t = let e : from ≡ to = t in omega arith
lens-between from to (g ∷ gs) t = let i = lens-between (from + g.len) to gs t.1 in let s = sum_by-cons len_of g gs in omega arith

few-between : (d from to : ℕ) (gs : List Seg) → AreSomeSane d gs → TouchFrom from gs to → from + length gs ≤ to
few-between d from to [] h t = let e : from ≡ to = t in omega arith
few-between d from to (g ∷ gs) h t = let i = few-between d (from + g.len) to gs h.2 t.1 in let s = h.0 in omega arith

-- ---- the segments of a name

pub as-known : (cut : Cut) (name : List ℕ) → All IsSoundTrack cut → IsAsKnown (facts_in cut) (entries cut) name
as-known [] name all = record { count = refl; sane = record { each = tt; few = omega arith } }
as-known (track ∷ cut) name all =
    let s = All-head IsSoundTrack track cut all in
    let touch = rows-touch track.greatest 0 track.len track.rows s.rows s.touch in
    let sane = rows-sane track.greatest track.rows s.rows in
    let rest = as-known cut name (All-tail IsSoundTrack track cut all) in
    let end = touch-end 0 track.len (segs_of_rows track.rows) touch in
    let few = lens-between 0 track.len (segs_of_rows track.rows) touch in
    let own : AreSaneFor track.greatest track.len (segs_of_rows track.rows) = record { each = each-sane track.greatest (segs_of_rows track.rows) sane; few = omega arith } in
    elim (cases_Bool (same_name track.name name)) [
      | inl t ↦ record { count = rw t end; sane = rw t own }
      | inr f ↦ record { count = rw f rest.count; sane = rw f rest.sane }
    ]

-- ---- the frame

is-new : (name : List ℕ) (cut : Cut) → All (λ other. same_name other name ≡ false) (map name_of cut) → IsNew name (entries cut)
is-new name [] all = tt
is-new name (track ∷ cut) all = (All-head (λ other. same_name other name ≡ false) track.name (map name_of cut) all, is-new name cut (All-tail (λ other. same_name other name ≡ false) track.name (map name_of cut) all))

distinct : (cut : Cut) → AreApart (map name_of cut) → AreDistinct (entries cut)
distinct [] h = tt
distinct (track ∷ cut) h = (is-new track.name cut h.0, distinct cut h.1)

all-touch : (cut : Cut) → All IsSoundTrack cut → AllTouch (entries cut)
all-touch [] all = tt
all-touch (track ∷ cut) all =
    let s = All-head IsSoundTrack track cut all in
    (record { to = track.len; touch = rows-touch track.greatest 0 track.len track.rows s.rows s.touch }, all-touch cut (All-tail IsSoundTrack track cut all))

flat-few : (cut : Cut) → All IsSoundTrack cut → length (flat (entries cut)) ≤ length cut * 2 ^ 20
flat-few [] all = omega arith
flat-few (track ∷ cut) all =
    let s = All-head IsSoundTrack track cut all in
    let touch = rows-touch track.greatest 0 track.len track.rows s.rows s.touch in
    let few = few-between track.greatest 0 track.len (segs_of_rows track.rows) (rows-sane track.greatest track.rows s.rows) touch in
    let rest = flat-few cut (All-tail IsSoundTrack track cut all) in
    let short = s.few in
    omega (arith, length-append (segs_of_rows track.rows) (flat (entries cut)))

ends : (cut : Cut) (name : List ℕ) → All IsSoundTrack cut → end_of_name (entries cut) name ≤ 2 ^ 20
ends [] name all = omega arith
ends (track ∷ cut) name all =
    let s = All-head IsSoundTrack track cut all in
    let touch = rows-touch track.greatest 0 track.len track.rows s.rows s.touch in
    let end = touch-end 0 track.len (segs_of_rows track.rows) touch in
    let rest = ends cut name (All-tail IsSoundTrack track cut all) in
    let short = s.few in
    let here : end_from 0 (segs_of_rows track.rows) ≤ 2 ^ 20 = omega arith in
    elim (cases_Bool (same_name track.name name)) [
      | inl t ↦ rw t here
      | inr f ↦ rw f rest
    ]

pub cuts_are_frames : CutsAreFrames
cuts_are_frames = λ cut q s admitted.
    let many = flat-few cut s.tracks in
    let few = s.few in
    record {
      frame = record { distinct = distinct cut s.apart; touch = all-touch cut s.tracks };
      short = record { few = omega arith; ends = λ name. ends cut name s.tracks };
      admitted = record { facts = facts_in cut; admitted = admitted; known = each-sum (IsAsKnown (facts_in cut) (entries cut)) q (λ name h. as-known cut name s.tracks) };
    }

-- for the tracks of a cut with their ids
pub shown-names : {I : Type 0} → (ts : List (Track (Held I))) → map name_of (shown ts) ≡ map name_of ts
shown-names [] = refl
shown-names (t ∷ ts) = ap (λ ns. t.name ∷ ns) (shown-names ts)

pub shown-facts : {I : Type 0} → (ts : List (Track (Held I))) → facts_in (shown ts) ≡ facts_in ts
shown-facts [] = refl
shown-facts (t ∷ ts) = ap (λ fs. fact_of t ∷ fs) (shown-facts ts)

pub frames-for : {I : Type 0} → (ts : List (Track (Held I))) (q : QueryTerm) → length ts ≤ 16 → All IsSoundTrack (shown ts) → AreApart (map name_of ts) → IsAdmitted (facts_in ts) q → IsFrameFor (shown ts) q
frames-for ts q few sound apart admitted =
    let n = length-map ts (with_rows row_in) in
    cuts_are_frames (shown ts) q (record { few = omega arith; tracks = sound; apart = subst AreApart (sym (shown-names ts)) apart }) (subst (λ fs. IsAdmitted fs q) (sym (shown-facts ts)) admitted)

pub lengths-known : {I : Type 0} → (ts : List (Track (Held I))) (fs : List Fact) → fs ≡ facts_in ts → All IsSoundTrack (shown ts) → (name : List ℕ) → count_at fs name ≡ end_of_name (entries (shown ts)) name
lengths-known ts fs e sound name = ap (λ gs. count_at gs name) (e ∙ sym (shown-facts ts)) ∙ sym (as-known (shown ts) name sound).count
