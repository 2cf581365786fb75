-- A row gave way: what was read of it is put right, one occurrence after the other.
use Rattle.std.proofs.Common.{◌≡◌, ℕ, ◌+◌, ◌-◌, ◌^◌, ◌<◌, ◌≤◌, true, false, inl, inr, ℤ, pos, ◌+ℤ◌, List, [], ◌∷◌, ◌++◌, length, refl, sym, ap, subst, ◌∙◌, arith}
use Rattle.std.specs.Prelude.{◌⊎◌, ◌≤ℤ◌, unsigned_abs}
use Rattle.std.proofs.lemmas.Bool.{cases_lt, cases_eq}
use Rattle.std.proofs.lemmas.Int.{ints}
use Rattle.semantics.specs.Admission.{SumTerm}
use Rattle.semantics.specs.Measures.{names_in}
use Rattle.semantics.specs.Term.{Range, Term}
use Rattle.semantics.specs.Readings.{positions_in}
use Rattle.segment.specs.declared.segments.Seg.{Seg}
use Rattle.bounds.specs.Segments.{covers}
use Rattle.descent.specs.declared.cells.Cells.{Cells}
use Rattle.descent.specs.declared.kept.KeptSum.{KeptSum}
use Rattle.descent.specs.declared.readers.Reader.{Reader}
use Rattle.descent.specs.Cells.{cells_in, offset_of, AreCells}
use Rattle.descent.specs.Charges.{AreRecharged}
use Rattle.descent.specs.Choice.{Has}
use Rattle.descent.specs.Kept.{AreTiled}
use Rattle.descent.specs.KeptSums.{IsKeptBut, IsKeptSum}
use Rattle.descent.specs.Readers.{reader_at, rows_read, track_at, AreReadersOf}
use Rattle.descent.specs.Rows.{Row, Cut}
use Rattle.descent.specs.Settled.{lens_of, AreJointsFor, AreReadIn, AreRightIn, CanSay, IsInside, IsJointOf, IsKeptBefore, IsOfSum, IsRest, IsRightAt, IsSameSum, IsSettled, IsShaped}
use Rattle.descent.specs.Sound.{IsSound}
use Rattle.descent.specs.Sums.{count_of, first_of, range_of}
use Rattle.descent.proofs.CellLaws.{offsets}
use Rattle.descent.proofs.RowLaws.{sound-track}
use Rattle.descent.proofs.SettleSteps.{right-same, same-sums}
use Rattle.descent.proofs.Tiles.{none-inside, piece-over}
use Rattle.descent.proofs.GivenUp.{same-range}
use Rattle.descent.proofs.Untouched.{taken-in, IsTouched}

-- ---- shape and pieces make up all that is kept

near-reader : (at : ℤ) (n len : ℕ) → pos 0 ≤ℤ at → (at +ℤ pos n) ≤ℤ pos len → len ≤ 2 ^ 20 → unsigned_abs at ≤ 2 ^ 60
near-reader at n len low high few = omega (arith, ints)

pub readers-inside : (cut : Cut) (t : Term) (l : ℤ) (n : ℕ) (rs : List Reader) → AreReadersOf cut t l n rs → (o : ℕ) → o < length rs → IsInside cut n (reader_at rs o)
readers-inside cut t l n rs are o lt =
    let r = are.each o (let c = are.count in omega arith) in
    record { track = r.track; from = r.from; until = r.until }

pub readers-near : (cut : Cut) (n : ℕ) (rs : List Reader) → IsSound cut → ((o : ℕ) → o < length rs → IsInside cut n (reader_at rs o))
    → (o : ℕ) → o < length rs → 0 < n → unsigned_abs (reader_at rs o).at ≤ 2 ^ 60
readers-near cut n rs sound inside o lt some =
    let r = inside o lt in
    near-reader (reader_at rs o).at n (track_at cut (reader_at rs o).track).len (r.from some) (r.until some) (sound-track cut (reader_at rs o).track sound r.track).few

pub shape-of : (doubt : ℕ → Type 0) (cut : Cut) (s : SumTerm) (k : KeptSum) → IsSound cut → IsKeptBut doubt cut s k → IsShaped cut s.series k
shape-of doubt cut s k sound is =
    let readers : AreReadersOf cut s.series k.first k.cells.count k.readers.items = rw (is.first, is.count) is.readers in
    let inside = readers-inside cut s.series k.first k.cells.count k.readers.items readers in
    record {
      can = record {
        sound = sound;
        read = record { cells = is.cells; count = is.weights; room = is.room; near = readers-near cut k.cells.count k.readers.items sound inside };
        inside = inside;
        charged = is.charged;
      };
      readers = readers;
      aligned = is.aligned;
      lens = is.lens;
      estimates = is.estimates;
      tiled = is.tiled;
      blank = is.blank;
    }

pub kept-of-shape : (cut : Cut) (s : SumTerm) (k : KeptSum) → IsShaped cut s.series k → IsOfSum cut s k → ((c : ℕ) → 0 < lens_of k c → IsRightAt cut s.series k c) → IsKeptSum cut s k
kept-of-shape cut s k shaped of right = record {
  cells = shaped.can.read.cells;
  count = of.count;
  first = of.first;
  readers = rw (← of.count, ← of.first) shaped.readers;
  aligned = shaped.aligned;
  lens = shaped.lens;
  estimates = shaped.estimates;
  weights = shaped.can.read.count;
  room = shaped.can.read.room;
  tiled = shaped.tiled;
  blank = shaped.blank;
  charged = shaped.can.charged;
  pieces = λ c some. inr (rw (← of.first) (right c some));
}

-- ---- pieces begin and end where an occurrence goes from one row to another

same-side : (k : KeptSum) (cut : Cut) (t : Term) (p c b : ℕ) (row : Row) → AreCells k.cells → AreTiled (lens_of k) (cells_in k.cells) → p < names_in t → Has row (rows_read cut (reader_at k.readers.items p))
    → 0 < lens_of k c → c < b → b < c + lens_of k c → IsRightAt cut t k c
    → covers row.seg ((reader_at k.readers.items p).at +ℤ pos (offset_of k.cells b)) ≡ covers row.seg ((reader_at k.readers.items p).at +ℤ pos (offset_of k.cells c))
same-side k cut t p c b row cells tiled below there some low high right =
    let g = k.cells in
    let at = (reader_at k.readers.items p).at in
    let w = (tiled.each c some).within in
    let os = offsets g cells in
    let up = os.rising c b low (omega arith) in
    let end = os.rising b (c + lens_of k c) high w in
    let e : offset_of g c + (offset_of g b - offset_of g c) ≡ offset_of g b = omega arith in
    let still = right.still p row below there (offset_of g b - offset_of g c) (omega arith) in
    ap (λ m. covers row.seg (at +ℤ pos m)) (sym e) ∙ still

joint-first : (k : KeptSum) (cut : Cut) (t : Term) (p from until : ℕ) (row : Row) → AreCells k.cells → AreTiled (lens_of k) (cells_in k.cells) → ((c : ℕ) → 0 < lens_of k c → IsRightAt cut t k c)
    → p < names_in t → Has row (rows_read cut (reader_at k.readers.items p)) → AreReadIn k.cells (reader_at k.readers.items p).at row.seg from until → from < until → 0 < lens_of k from
joint-first k cut t p from until row cells tiled right below there is lt = elim (cases_lt 0 (lens_of k from)) [
  | inl some ↦ some
  | inr none ↦
      let w = is.within in
      let over = piece-over (lens_of k) (cells_in k.cells) from tiled (omega arith) in
      let low = over.low in
      let some = over.some in
      let before : over.c < from = elim (cases_eq over.c from) [ inl e ↦ let z = ap (lens_of k) e in absurd (omega arith) | inr ne ↦ omega arith ] in
      let s = same-side k cut t p over.c from row cells tiled below there some before over.high (right over.c some) in
      let bad : true ≡ false = sym (is.inside from (omega arith) lt) ∙ s ∙ is.before over.c before in
      let n : ⊥ = cc in
      absurd n
]

joint-last : (k : KeptSum) (cut : Cut) (t : Term) (p from until : ℕ) (row : Row) → AreCells k.cells → AreTiled (lens_of k) (cells_in k.cells) → ((c : ℕ) → 0 < lens_of k c → IsRightAt cut t k c)
    → p < names_in t → Has row (rows_read cut (reader_at k.readers.items p)) → AreReadIn k.cells (reader_at k.readers.items p).at row.seg from until → from < until → IsJointOf k until
joint-last k cut t p from until row cells tiled right below there is lt = elim (cases_lt 0 (lens_of k until)) [
  | inl some ↦ inr some
  | inr none ↦ elim (cases_lt until (cells_in k.cells)) [
    | inr ge ↦ let w = is.within in inl (omega arith)
    | inl inner ↦
        let over = piece-over (lens_of k) (cells_in k.cells) until tiled inner in
        let low = over.low in
        let high = over.high in
        let some = over.some in
        let before : over.c < until = elim (cases_eq over.c until) [ inl e ↦ let z = ap (lens_of k) e in absurd (omega arith) | inr ne ↦ omega arith ] in
        let first = joint-first k cut t p from until row cells tiled right below there is lt in
        let behind : from ≤ over.c = elim (cases_lt over.c from) [ inl less ↦ let n = none-inside (lens_of k) (cells_in k.cells) over.c from tiled some less (omega arith) in absurd (omega arith) | inr ge ↦ ge ] in
        let s = same-side k cut t p over.c until row cells tiled below there some before high (right over.c some) in
        let bad : false ≡ true = sym (is.behind until (omega arith) inner) ∙ s ∙ is.inside over.c behind before in
        let n : ⊥ = cc in
        absurd n
  ]
]

pub joints-for : (k : KeptSum) (cut : Cut) (t : Term) (p : ℕ) (row : Row) → AreCells k.cells → AreTiled (lens_of k) (cells_in k.cells) → ((c : ℕ) → 0 < lens_of k c → IsRightAt cut t k c)
    → p < names_in t → Has row (rows_read cut (reader_at k.readers.items p)) → AreJointsFor k p row.seg
joints-for k cut t p row cells tiled right below there = record {
  first = λ from until is lt. joint-first k cut t p from until row cells tiled right below there is lt;
  last = λ from until is lt. joint-last k cut t p from until row cells tiled right below there is lt;
}

joints-stay : (old new : KeptSum) (p : ℕ) (s : Seg) → IsSameSum old new → ((d : ℕ) → 0 < lens_of old d → 0 < lens_of new d) → AreJointsFor old p s → AreJointsFor new p s
joints-stay old new p s same joints are = record {
  first = λ from until is lt. joints from (are.first from until (back from until is) lt);
  last = λ from until is lt. later until (are.last from until (back from until is) lt);
}
  where
    back : (from until : ℕ) → AreReadIn new.cells (reader_at new.readers.items p).at s from until → AreReadIn old.cells (reader_at old.readers.items p).at s from until
    back from until is = rw (← same.cells, ← same.readers) is

    later : (u : ℕ) → IsJointOf old u → IsJointOf new u
    later u (inl end) = inl (end ∙ ap cells_in (sym same.cells))
    later u (inr some) = inr (joints u some)

-- ---- one occurrence after the other

-- a cell where an occurrence from the o-th on read the row that gave way
pub record IsLeftAt (i : ℕ) (row : Row) (o : ℕ) (k : KeptSum) (c : ℕ) : Type 0 where
  pub p : ℕ
  pub from : o ≤ p
  pub below : p < length k.readers.items
  pub track : (reader_at k.readers.items p).track ≡ i
  pub covered : covers row.seg ((reader_at k.readers.items p).at +ℤ pos (offset_of k.cells c)) ≡ true

-- what was read by the occurrences before the o-th is right
pub record IsTakenTo (now : Cut) (t : Term) (i : ℕ) (row : Row) (o : ℕ) (old new : KeptSum) : Type 0 where
  pub shaped : IsShaped now t new
  pub say : CanSay now t new
  pub same : IsSameSum old new
  pub joints : (p : ℕ) → p < length new.readers.items → (reader_at new.readers.items p).track ≡ i → AreJointsFor new p row.seg
  pub pieces : (c : ℕ) → 0 < lens_of new c → IsLeftAt i row o new c ⊎ IsRightAt now t new c

pub say-same : (cut : Cut) (t : Term) (old new : KeptSum) → IsSameSum old new → CanSay cut t old → CanSay cut t new
say-same cut t old new same say = record {
  sum = say.sum;
  can = say.can;
  series = say.series;
  of = record { first = same.first ∙ say.of.first; count = ap (λ (g : Cells). g.count) same.cells ∙ say.of.count };
}

-- an occurrence that reads another track
pub taken-other : (now : Cut) (t : Term) (i : ℕ) (row : Row) (o : ℕ) (old new : KeptSum) → IsTakenTo now t i row o old new → ((reader_at new.readers.items o).track ≡ i → ⊥)
    → IsTakenTo now t i row (o + 1) old new
taken-other now t i row o old new is ne = record {
  shaped = is.shaped;
  say = is.say;
  same = is.same;
  joints = is.joints;
  pieces = λ c some. elim (is.pieces c some) [
    | inr right ↦ inr right
    | inl left ↦ elim (cases_eq left.p o) [
      | inl e ↦ absurd (ne (subst (λ q. (reader_at new.readers.items q).track ≡ i) e left.track))
      | inr other ↦ let f = left.from in inl (record { p = left.p; from = omega arith; below = left.below; track = left.track; covered = left.covered })
    ]
  ];
}

-- nothing is right yet
pub none-right : (cut : Cut) (t : Term) (k : KeptSum) → AreRightIn cut t k 0 0
none-right cut t k = record { first = λ some. absurd (omega arith); last = λ some. absurd (omega arith); right = λ c low high some. absurd (omega arith) }

left-after : (i : ℕ) (row : Row) (o from until c : ℕ) (old new : KeptSum) → IsSameSum old new → AreReadIn old.cells (reader_at old.readers.items o).at row.seg from until → c < cells_in old.cells
    → (c < from) ⊎ (until ≤ c) → IsLeftAt i row o old c → IsLeftAt i row (o + 1) new c
left-after i row o from until c old new same read within out left = elim (cases_eq left.p o) [
  | inl e ↦
      let cov : covers row.seg ((reader_at old.readers.items o).at +ℤ pos (offset_of old.cells c)) ≡ true = subst (λ q. covers row.seg ((reader_at old.readers.items q).at +ℤ pos (offset_of old.cells c)) ≡ true) e left.covered in
      let not : covers row.seg ((reader_at old.readers.items o).at +ℤ pos (offset_of old.cells c)) ≡ false = elim out [ inl lt ↦ read.before c lt | inr ge ↦ read.behind c ge within ] in
      let bad : true ≡ false = sym cov ∙ not in
      let n : ⊥ = cc in
      absurd n
  | inr other ↦
      let f = left.from in
      record {
        p = left.p;
        from = omega arith;
        below = rw same.readers left.below;
        track = rw same.readers left.track;
        covered = rw (same.readers, same.cells) left.covered;
      }
]

-- what is left of the cells that an occurrence reads begins and ends where a piece does
pub rest-first : (cut : Cut) (t : Term) (k : KeptSum) (from until a b f u : ℕ) → (from < until → 0 < lens_of k from) → until ≤ cells_in k.cells → AreRightIn cut t k a b → IsRest from until a b f u → f < u → 0 < lens_of k f
rest-first cut t k from until a b f u first within right rest lt =
    let high = rest.high in
    let low = rest.low in
    elim (rest.begins lt) [
      | inl same ↦ subst (λ c. 0 < lens_of k c) (sym same) (first (omega arith))
      | inr (some, same) ↦ elim (right.last some) [
        | inl end ↦ absurd (omega arith)
        | inr piece ↦ subst (λ c. 0 < lens_of k c) (sym same) piece
      ]
    ]

pub rest-last : (cut : Cut) (t : Term) (k : KeptSum) (from until a b f u : ℕ) → (from < until → IsJointOf k until) → AreRightIn cut t k a b → IsRest from until a b f u → f < u → IsJointOf k u
rest-last cut t k from until a b f u last right rest lt =
    let high = rest.high in
    let low = rest.low in
    elim (rest.ends lt) [
      | inl same ↦ subst (IsJointOf k) (sym same) (last (omega arith))
      | inr (some, same) ↦ subst (IsJointOf k) (sym same) (inr (right.first some))
    ]

right-in : (now : Cut) (t : Term) (mid new : KeptSum) (from until a b f u : ℕ) → IsShaped now t mid → AreRightIn now t mid a b → IsRest from until a b f u → IsSettled now t f u mid new
    → (c : ℕ) → from ≤ c → c < until → 0 < lens_of new c → IsRightAt now t new c
right-in now t mid new from until a b f u shaped right rest is c low high some = elim (cases_lt c f) [
  | inl before ↦ beside (inl before) (rest.before c low before)
  | inr ge ↦ elim (cases_lt c u) [
    | inl inner ↦ is.right c ge inner some
    | inr behind ↦ beside (inr behind) (rest.behind c behind high)
  ]
]
  where
    beside : (c < f) ⊎ (u ≤ c) → (a ≤ c) × (c < b) → IsRightAt now t new c
    beside out there =
        let at = is.others c out in
        let e = at.lens in
        right-same now t mid new c is.same at (right.right c there.0 there.1 (omega arith))

pub taken-right : (now : Cut) (t : Term) (i : ℕ) (row : Row) (o from until a b f u : ℕ) (old mid new : KeptSum) → IsTakenTo now t i row o old mid → o < length mid.readers.items → (reader_at mid.readers.items o).track ≡ i
    → AreReadIn mid.cells (reader_at mid.readers.items o).at row.seg from until → AreRightIn now t mid a b → IsRest from until a b f u → IsSettled now t f u mid new → AreRightIn now t new from until
taken-right now t i row o from until a b f u old mid new was below track read right rest is = record {
  first = λ some. is.joints from ((was.joints o below track).first from until read some);
  last = λ some. elim ((was.joints o below track).last from until read some) [
    | inl end ↦ inl (end ∙ ap cells_in (sym is.same.cells))
    | inr piece ↦ inr (is.joints until piece)
  ];
  right = right-in now t mid new from until a b f u was.shaped right rest is;
}

pub taken-step : (now : Cut) (t : Term) (i : ℕ) (row : Row) (o from until a b f u : ℕ) (old mid new : KeptSum) → IsTakenTo now t i row o old mid
    → AreReadIn mid.cells (reader_at mid.readers.items o).at row.seg from until → AreRightIn now t mid a b → IsRest from until a b f u → IsSettled now t f u mid new → IsTakenTo now t i row (o + 1) old new
taken-step now t i row o from until a b f u old mid new was read right rest is = record {
  shaped = is.shaped;
  say = say-same now t mid new is.same was.say;
  same = same-sums old mid new was.same is.same;
  joints = λ p below track. joints-stay mid new p row.seg is.same is.joints (was.joints p (rw (← is.same.readers) below) (rw (← is.same.readers) track));
  pieces = pieces;
}
  where
    outside : (c : ℕ) → (c < from) ⊎ (until ≤ c) → (c < f) ⊎ (u ≤ c) → 0 < lens_of new c → IsLeftAt i row (o + 1) new c ⊎ IsRightAt now t new c
    outside c out beside some =
        let at = is.others c beside in
        let e = at.lens in
        let was-some : 0 < lens_of mid c = omega arith in
        let w = (was.shaped.tiled.each c was-some).within in
        elim (was.pieces c was-some) [
          | inr same ↦ inr (right-same now t mid new c is.same at same)
          | inl left ↦ inl (left-after i row o from until c mid new is.same read (omega arith) out left)
        ]

    pieces : (c : ℕ) → 0 < lens_of new c → IsLeftAt i row (o + 1) new c ⊎ IsRightAt now t new c
    pieces c some =
        let low = rest.low in
        let high = rest.high in
        elim (cases_lt c from) [
          | inl before ↦ outside c (inl before) (inl (omega arith)) some
          | inr ge ↦ elim (cases_lt c until) [
            | inl inner ↦ inr (right-in now t mid new from until a b f u was.shaped right rest is c ge inner some)
            | inr behind ↦ outside c (inr behind) (inr (omega arith)) some
          ]
        ]

-- ---- the first, and the last

has-middle : {A : Type 0} → (xs ys : List A) (x : A) → Has x (xs ++ x ∷ ys)
has-middle [] ys x = inl refl
has-middle (y ∷ xs) ys x = inr (has-middle xs ys x)

right-before : (before now : Cut) (s : SumTerm) (k : KeptSum) → IsKeptSum before s k → (c : ℕ) → 0 < lens_of k c → IsRightAt before s.series k c
right-before before now s k is c some = elim (is.pieces c some) [
  | inl never ↦ absurd never
  | inr right ↦ rw is.first right
]

pub taken-first : (now : Cut) (t : Term) (i : ℕ) (row : Row) (s : SumTerm) (old new : KeptSum) → (b : IsKeptBefore i row now t s old) → AreRecharged now i b.changed.new old new.charges
    → new ≡ record old { charges = new.charges } → IsTakenTo now t i row 0 old new
taken-first now t i row s old new b recharged same = subst (λ u. IsTakenTo now u i row 0 old new) b.series (record {
  shaped = shape-of (IsTouched i row s old) now s new b.can.sound kept;
  say = record { sum = s; can = b.can; series = refl; of = record { first = kept.first; count = kept.count } };
  same = sums;
  joints = λ p below track.
      let was : p < length old.readers.items = rw (← sums.readers) below in
      let read : (reader_at old.readers.items p).track ≡ i = rw (← sums.readers) track in
      let there : Has row (rows_read b.before (reader_at old.readers.items p)) = subst (λ j. Has row (track_at b.before j).rows) (sym read) (subst (Has row) (sym b.changed.was) (has-middle b.changed.front b.changed.back row)) in
      joints-stay old new p row.seg sums (λ d some. subst (λ k. 0 < lens_of k d) (sym same) some)
      (joints-for old b.before s.series p row b.kept.cells b.kept.tiled (right-before b.before now s old b.kept) (let c = b.kept.readers.count in omega arith) there);
  pieces = λ c some. elim (kept.pieces c some) [
    | inr right ↦ inr (rw kept.first right)
    | inl touched ↦ inl (left c touched)
  ];
})
  where
    kept : IsKeptBut (IsTouched i row s old) now s new
    kept = subst (IsKeptBut (IsTouched i row s old) now s) (sym same) (taken-in i row b.before now s old new.charges b.changed b.kept b.can recharged)

    sums : IsSameSum old new
    sums = record { cells = ap (λ (k : KeptSum). k.cells) same; first = ap (λ (k : KeptSum). k.first) same; readers = ap (λ (k : KeptSum). k.readers) same }

    left : (c : ℕ) → IsTouched i row s old c → IsLeftAt i row 0 new c
    left c touched = rw same (record {
      p = touched.o;
      from = omega arith;
      below = let n = b.kept.readers.count in let l = touched.below in omega arith;
      track = touched.track;
      covered = touched.covered;
    })

pub taken-last : (now : Cut) (t : Term) (i : ℕ) (row : Row) (s : SumTerm) (o : ℕ) (old new : KeptSum) → IsKeptBefore i row now t s old → IsTakenTo now t i row o old new
    → length new.readers.items ≤ o → IsKeptSum now s new
taken-last now t i row s o old new b is done =
    kept-of-shape now s new (rw b.series is.shaped) (record { first = first; count = count }) (λ c some. rw b.series (elim (is.pieces c some) [
      | inr right ↦ right
      | inl left ↦ let f = left.from in let l = left.below in absurd (omega arith)
    ]))
  where
    range : range_of b.before s ≡ range_of now s
    range = sym (same-range i row b.before now s b.changed b.can.sound)

    first : new.first ≡ first_of now s
    first = is.same.first ∙ b.kept.first ∙ ap (λ (r : Range). r.left) range

    count : new.cells.count ≡ count_of now s
    count = ap (λ (g : Cells). g.count) is.same.cells ∙ b.kept.count ∙ ap (λ (r : Range). positions_in r.left r.right) range
