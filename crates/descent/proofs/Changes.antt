-- A step that can be taken back changed the cut as `HasChanged` says.
use Rattle.std.proofs.Common.{◌≡◌, ℕ, zero, suc, ◌+◌, ◌<◌, ◌≤◌, inl, inr, Some, None, List, [], ◌∷◌, ◌++◌, length, map, refl, sym, ap, subst, ◌∙◌, arith}
use Rattle.std.specs.Prelude.{take}
use Rattle.std.specs.Option.{option_map}
use Rattle.std.specs.List.{All}
use Rattle.std.proofs.lemmas.Bool.{eq-eqb, ne_eqb, cases_lt}
use Rattle.std.proofs.lemmas.List.{length-map}
use Rattle.std.proofs.lemmas.List.Elements.{All-head, All-tail}
use Rattle.bounds.specs.Segments.{TouchFrom}
use Rattle.descent.specs.declared.tables.Row.{Row as TableRow}
use Rattle.descent.specs.Changed.{AreHalvesOfRow, GaveWay, HasChanged}
use Rattle.descent.specs.Choice.{Has}
use Rattle.descent.specs.CutFields.{restored_at, CanGoBackAt}
use Rattle.descent.specs.Held.{Held, head_of, row_in, shown}
use Rattle.descent.specs.Laid.{held, restored, CanGoBack, AreHalvesOf, IsOpeningOf}
use Rattle.descent.specs.Readers.{track_at}
use Rattle.descent.specs.Rows.{Row, Track, with_rows}
use Rattle.descent.specs.Sound.{seg_of, IsSoundRow, IsSoundTrack}

-- ---- the rows of a series

-- rows that follow one another from a position on, each with positions of its own
abbrev FollowFrom : {I : Type 0} → ℕ → List (Held I) → Type 0
FollowFrom from [] = Unit {0}
FollowFrom from (h ∷ hs) = (h.row.seg.start ≡ from) × (0 < h.row.seg.len) × FollowFrom (from + h.row.seg.len) hs

follow : {I : Type 0} → (d from to : ℕ) (hs : List (Held I)) → All (IsSoundRow d) (map row_in hs) → TouchFrom from (map seg_of (map row_in hs)) to → FollowFrom from hs
follow d from to [] all t = tt
follow d from to (h ∷ hs) all t =
    let s = All-head (IsSoundRow d) h.row (map row_in hs) all in
    (t.0, s.some, follow d (from + h.row.seg.len) to hs (All-tail (IsSoundRow d) h.row (map row_in hs) all) t.1)

start-from : {I : Type 0} → (from : ℕ) (hs : List (Held I)) (x : Held I) → FollowFrom from hs → Has x hs → from ≤ x.row.seg.start
start-from from [] x f has = absurd has
start-from from (h ∷ hs) x f (inl e) = let s : x.row.seg.start ≡ from = ap (λ (k : Held _). k.row.seg.start) e ∙ f.0 in omega arith
start-from from (h ∷ hs) x f (inr m) = let i = start-from (from + h.row.seg.len) hs x f.2 m in omega arith

-- the first row is the one that begins there
first-is : {I : Type 0} → (from : ℕ) (h : Held I) (hs : List (Held I)) (x : Held I) → FollowFrom from (h ∷ hs) → Has x (h ∷ hs) → x.row.seg.start ≡ from → x ≡ h
first-is from h hs x f (inl e) s = e
first-is from h hs x f (inr m) s =
    let i = start-from (from + h.row.seg.len) hs x f.2 m in
    let some = f.1 in
    absurd (omega arith)

-- a row that begins elsewhere is a later one
later-is : {I : Type 0} → (from : ℕ) (h : Held I) (hs : List (Held I)) (x : Held I) → FollowFrom from (h ∷ hs) → Has x (h ∷ hs) → (x.row.seg.start ≡ from → ⊥) → Has x hs
later-is from h hs x f (inl e) ne = absurd (ne (ap (λ (k : Held _). k.row.seg.start) e ∙ f.0))
later-is from h hs x f (inr m) ne = m

record IsGivenUp (old : Row) (before now : List Row) : Type 0 where
  front : List Row
  new : List Row
  back : List Row
  was : before ≡ front ++ old ∷ back
  is : now ≡ front ++ new ++ back
  gave : GaveWay old new

-- the row stands in front
front-up : {I : Type 0} → (r : TableRow I) (h : Held I) (hs : List (Held I)) (before : List (Held I)) (new back : List Row) → restored (held r) (h ∷ hs) ≡ before → map row_in before ≡ row_in (held r) ∷ back
    → map row_in (h ∷ hs) ≡ new ++ back → GaveWay (row_in (held r)) new → IsGivenUp (row_in (held r)) (map row_in (restored (held r) (h ∷ hs))) (map row_in (h ∷ hs))
front-up r h hs before new back e was is gave = record { front = []; new = new; back = back; was = ap (map row_in) e ∙ was; is = is; gave = gave }

-- or behind another one
behind-up : {I : Type 0} → (old : Row) (r : TableRow I) (h : Held I) (hs : List (Held I)) → IsGivenUp old (map row_in (restored (held r) hs)) (map row_in hs) → restored (held r) (h ∷ hs) ≡ h ∷ restored (held r) hs
    → IsGivenUp old (map row_in (restored (held r) (h ∷ hs))) (map row_in (h ∷ hs))
behind-up old r h hs up e = record {
  front = h.row ∷ up.front;
  new = up.new;
  back = up.back;
  was = ap (map row_in) e ∙ ap (λ rows. h.row ∷ rows) up.was;
  is = ap (λ rows. h.row ∷ rows) up.is;
  gave = up.gave;
}

restored-apart : {I : Type 0} → (r : TableRow I) (h : Held I) (hs : List (Held I)) → (h.row.seg.start ≡ r.seg.start → ⊥) → restored (held r) (h ∷ hs) ≡ h ∷ restored (held r) hs
restored-apart r h hs ne = rw (ne_eqb h.row.seg.start r.seg.start ne) refl

restored-one : {I : Type 0} → (r : TableRow I) (h : Held I) (hs : List (Held I)) → h.row.seg ≡ r.seg → restored (held r) (h ∷ hs) ≡ held r ∷ hs
restored-one r h hs e = rw (eq-eqb h.row.seg.start r.seg.start (ap (λ g. g.start) e), eq-eqb h.row.seg.len r.seg.len (ap (λ g. g.len) e)) refl

restored-two : {I : Type 0} → (r : TableRow I) (h k : Held I) (hs : List (Held I)) → h.row.seg.start ≡ r.seg.start → (h.row.seg.len ≡ r.seg.len → ⊥) → restored (held r) (h ∷ k ∷ hs) ≡ held r ∷ hs
restored-two r h k hs e ne = rw (eq-eqb h.row.seg.start r.seg.start e, ne_eqb h.row.seg.len r.seg.len ne) refl

up-opened : {I : Type 0} → (from : ℕ) (r : TableRow I) (hs : List (Held I)) → FollowFrom from hs → IsOpeningOf r hs → IsGivenUp (row_in (held r)) (map row_in (restored (held r) hs)) (map row_in hs)
up-opened from r [] f is = absurd is.there
up-opened from r (h ∷ hs) f is = elim (cases_lt from is.new.row.seg.start) [
  | inr le ↦
      let low = start-from from (h ∷ hs) is.new f is.there in
      let same : is.new ≡ h = first-is from h hs is.new f is.there (omega arith) in
      let seg : h.row.seg ≡ r.seg = ap (λ (k : Held _). k.row.seg) (sym same) ∙ is.same in
      let read : h.row.readings ≡ Some is.readings = ap (λ (k : Held _). k.row.readings) (sym same) ∙ is.opened in
      front-up r h hs (held r ∷ hs) (h.row ∷ []) (map row_in hs) (restored-one r h hs seg) refl refl (record { seg = seg; readings = is.readings; opened = read })
  | inl lt ↦
      let seg : is.new.row.seg.start ≡ r.seg.start = ap (λ g. g.start) is.same in
      let s = f.0 in
      let there : Has is.new hs = later-is from h hs is.new f is.there (λ e. omega arith) in
      behind-up (row_in (held r)) r h hs (up-opened (from + h.row.seg.len) r hs f.2 (record { new = is.new; there = there; same = is.same; readings = is.readings; opened = is.opened })) (restored-apart r h hs (λ e. omega arith))
]

halves-up : {I : Type 0} → (from : ℕ) (r : TableRow I) (h : Held I) (hs : List (Held I)) → FollowFrom from (h ∷ hs) → (is : AreHalvesOf r (h ∷ hs)) → is.left ≡ h → Has is.right hs
    → IsGivenUp (row_in (held r)) (map row_in (restored (held r) (h ∷ hs))) (map row_in (h ∷ hs))
halves-up from r h [] f is same there = absurd there
halves-up from r h (k ∷ ks) f is same there =
    let low = is.next in
    let start : is.left.row.seg.start ≡ h.row.seg.start = ap (λ (x : Held _). x.row.seg.start) same in
    let len : is.left.row.seg.len ≡ h.row.seg.len = ap (λ (x : Held _). x.row.seg.len) same in
    let at = f.0 in
    let right : is.right ≡ k = first-is (from + h.row.seg.len) k ks is.right f.2 there (omega arith) in
    let starts = is.starts in
    let whole = is.whole in
    let rest = is.rest in
    let ne : h.row.seg.len ≡ r.seg.len → ⊥ = λ e. omega arith in
    let gave : AreHalvesOfRow (row_in (held r)) is.left.row is.right.row = record {
      left_closed = is.left_closed;
      right_closed = is.right_closed;
      starts = is.starts;
      half = is.half;
      some = is.some;
      full = is.full;
      next = is.next;
      rest = is.rest;
      whole = is.whole;
    } in
    let one : AreHalvesOfRow (row_in (held r)) h.row is.right.row = subst (λ (x : Held _). AreHalvesOfRow (row_in (held r)) x.row is.right.row) same gave in
    front-up r h (k ∷ ks) (held r ∷ ks) (h.row ∷ k.row ∷ []) (map row_in ks) (restored-two r h k ks (sym start ∙ starts) ne) refl refl
    (subst (λ (x : Held _). AreHalvesOfRow (row_in (held r)) h.row x.row) right one)

up-split : {I : Type 0} → (from : ℕ) (r : TableRow I) (hs : List (Held I)) → FollowFrom from hs → AreHalvesOf r hs → IsGivenUp (row_in (held r)) (map row_in (restored (held r) hs)) (map row_in hs)
up-split from r [] f is = absurd is.left_there
up-split from r (h ∷ hs) f is = elim (cases_lt from is.left.row.seg.start) [
  | inr le ↦
      let low = start-from from (h ∷ hs) is.left f is.left_there in
      let same : is.left ≡ h = first-is from h hs is.left f is.left_there (omega arith) in
      let next = is.next in
      let some = is.some in
      let full = is.full in
      let there : Has is.right hs = later-is from h hs is.right f is.right_there (λ e. omega arith) in
      halves-up from r h hs f is same there
  | inl lt ↦
      let s = f.0 in
      let starts = is.starts in
      let next = is.next in
      let left : Has is.left hs = later-is from h hs is.left f is.left_there (λ e. omega arith) in
      let right : Has is.right hs = later-is from h hs is.right f is.right_there (λ e. omega arith) in
      let halves : AreHalvesOf r hs = record {
        left = is.left;
        right = is.right;
        left_there = left;
        right_there = right;
        left_closed = is.left_closed;
        right_closed = is.right_closed;
        starts = is.starts;
        half = is.half;
        some = is.some;
        full = is.full;
        next = is.next;
        rest = is.rest;
        whole = is.whole;
      } in
      behind-up (row_in (held r)) r h hs (up-split (from + h.row.seg.len) r hs f.2 halves) (restored-apart r h hs (λ e. omega arith))
]

given-up : {I : Type 0} → (r : TableRow I) (track : Track (Held I)) → CanGoBack r track.rows → IsSoundTrack (with_rows row_in track) → IsGivenUp (row_in (held r)) (map row_in (restored (held r) track.rows)) (map row_in track.rows)
given-up r track can sound = let f = follow track.greatest 0 track.len track.rows sound.rows sound.touch in elim can.by [
  | inl one ↦ up-opened 0 r track.rows f one
  | inr two ↦ up-split 0 r track.rows f two
]

closed-before : {I : Type 0} → (r : TableRow I) → r.readings ≡ None → (row_in (held r)).readings ≡ None
closed-before r e = ap (option_map (take r.seg.len)) e

-- ---- the tracks

restored-length : {I : Type 0} → (k : ℕ) (h : Held I) (ts : List (Track (Held I))) → length (restored_at k h ts) ≡ length ts
restored-length k h [] = refl
restored-length zero h (t ∷ ts) = refl
restored-length (suc k) h (t ∷ ts) = ap suc (restored-length k h ts)

-- what is said of the k-th track
record IsChangedAt (k : ℕ) (old : Row) (before now : List (Track Row)) : Type 0 where
  within : k < length now
  others : (i : ℕ) → (i ≡ k → ⊥) → track_at now i ≡ track_at before i
  head : head_of (track_at now k) ≡ head_of (track_at before k)
  rows : IsGivenUp old (track_at before k).rows (track_at now k).rows

changed-at : {I : Type 0} → (k : ℕ) (r : TableRow I) (ts : List (Track (Held I))) → CanGoBackAt k r ts → All IsSoundTrack (shown ts) → IsChangedAt k (row_in (held r)) (shown (restored_at k (held r) ts)) (shown ts)
changed-at k r [] can all = absurd can
changed-at zero r (t ∷ ts) can all = record {
  within = omega arith;
  others = λ i ne. other i ne;
  head = refl;
  rows = given-up r t can.0 (All-head IsSoundTrack (with_rows row_in t) (shown ts) all);
}
  where
    other : (i : ℕ) → (i ≡ 0 → ⊥) → track_at (shown (t ∷ ts)) i ≡ track_at (shown (restored_at zero (held r) (t ∷ ts))) i
    other zero ne = absurd (ne refl)
    other (suc i) ne = refl
changed-at (suc k) r (t ∷ ts) can all =
    let c = changed-at k r ts can (All-tail IsSoundTrack (with_rows row_in t) (shown ts) all) in
    let lt = c.within in
    record { within = omega arith; others = λ i ne. other c.others i ne; head = c.head; rows = c.rows }
  where
    other : ((i : ℕ) → (i ≡ k → ⊥) → track_at (shown ts) i ≡ track_at (shown (restored_at k (held r) ts)) i) → (i : ℕ) → (i ≡ suc k → ⊥) → track_at (shown (t ∷ ts)) i ≡ track_at (shown (restored_at (suc k) (held r) (t ∷ ts))) i
    other h zero ne = refl
    other h (suc i) ne = h i (λ e. ne (ap suc e))

closed-at : {I : Type 0} → (k : ℕ) (r : TableRow I) (ts : List (Track (Held I))) → CanGoBackAt k r ts → r.readings ≡ None
closed-at k r [] can = absurd can
closed-at zero r (t ∷ ts) can = can.0.closed
closed-at (suc k) r (t ∷ ts) can = closed-at k r ts can

pub has-changed : {I : Type 0} → (k : ℕ) (r : TableRow I) (ts : List (Track (Held I))) → CanGoBackAt k r ts → All IsSoundTrack (shown ts) → HasChanged k (row_in (held r)) (shown (restored_at k (held r) ts)) (shown ts)
has-changed k r ts can all =
    let c = changed-at k r ts can all in
    record {
      within = c.within;
      count = length-map (restored_at k (held r) ts) (with_rows row_in) ∙ restored-length k (held r) ts ∙ sym (length-map ts (with_rows row_in));
      others = c.others;
      head = c.head;
      closed = closed-before r (closed-at k r ts can);
      front = c.rows.front;
      new = c.rows.new;
      back = c.rows.back;
      was = c.rows.was;
      is = c.rows.is;
      gave = c.rows.gave;
    }
