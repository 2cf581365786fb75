-- The cut of the lists of a certificate is sound, and its segments are true.
use Rattle.std.proofs.Common.{◌≡◌, ℕ, zero, suc, ◌+◌, ◌≤◌, ◌⊎◌, cond, Bool, true, false, inl, inr, List, [], ◌∷◌, length, map, drop, get_or, Option, Some, None, Result, Ok, Err, refl, sym, ap, ap₂, subst, ◌∙◌, arith}
use Rattle.std.specs.Prelude.{◌||◌}
use Rattle.std.specs.List.{All, list_any}
use Rattle.std.specs.Option.{option_map}
use Rattle.std.proofs.lemmas.Bool.{cases_Bool}
use Rattle.std.proofs.lemmas.List.{length-map}
use Rattle.std.proofs.lemmas.List.Elements.{All-nil, All-cons, All-head, All-tail}
use Rattle.semantics.specs.Admission.{Fact, query_names}
use Rattle.semantics.specs.Admitted.{IsAdmitted}
use Rattle.semantics.specs.Names.{same_name}
use Rattle.semantics.specs.Plain.{IsPlain}
use Rattle.semantics.specs.Term.{QueryTerm}
use Rattle.segment.specs.declared.segments.Seg.{Seg}
use Rattle.segment.specs.Measure.{greatest_reading}
use Rattle.segment.specs.Nodes.{Forest, IsSeriesTree, tree_in}
use Rattle.segment.specs.Tree.{SegTree, all_readings, readings_of}
use Rattle.segment.proofs.PartLaws.{root-true}
use Rattle.bounds.specs.Cut.{Entry}
use Rattle.interval.specs.Interval.{Interval}
use Rattle.error_prop.specs.Places.{IsShort}
use Rattle.error_prop.specs.Queries.{interval_over}
use Rattle.error_prop.specs.QueryOver.{sums_over, AdmitsQuery}
use Rattle.store_file.specs.Facts.{fact_in, facts_in}
use Rattle.store_file.specs.StoreValue.{AreNames, EachTree, IsStoreValue, Series, StoreValue, count_of, has_name, name_of}
use Rattle.descent.specs.Choice.{Has}
use Rattle.descent.specs.Descents.{Node, Nodes, cut_of, greatest_of, root_track, row_of}
use Rattle.descent.specs.Known.{AreApart, fact_of, facts_in as cut_facts}
use Rattle.descent.specs.Rows.{Track, with_rows}
use Rattle.descent.specs.Sound.{IsSoundRow, IsSoundTrack, IsSound, name_of as track_name}
use Rattle.descent.proofs.Admits.{SayTheSame, admitted-too, each-sum, named-any}
use Rattle.descent.proofs.SoundLaws.{cuts_are_frames}
use Rattle.descent.proofs.Truth.{AreTrueFrom, AreTrueTracks, is-there}
use Rattle.answer_check.specs.declared.certificate.CertList.{CertList}
use Rattle.answer_check.specs.Certificate.{Triple}
use Rattle.answer_check.specs.Verdict.{and_then, cut_from, nodes_of, track_by, tree_of, with_nodes}
use Rattle.answer_check.specs.Walked.{IsFrameOf}
use Rattle.answer_check.proofs.Cuts.{nodes-cut}

-- ---- the track of a series

-- each tree is that of a series
abbrev pub AreTrees : Forest → Type 0
AreTrees forest = (k : ℕ) → IsSeriesTree (length (all_readings (tree_in forest k))) (tree_in forest k)

-- the first list gives a track
pub record IsTrackFor (k : ℕ) (name : List ℕ) (t : Option SegTree) (lists : List CertList) (track : Track Node) : Type 0 where
  pub list : CertList
  pub rest : List CertList
  pub first : lists ≡ list ∷ rest
  pub nodes : List Node
  pub cut : nodes_of t list.rows ≡ Some nodes
  pub is : track ≡ with_nodes (root_track k name t) nodes

pub track-for : (k : ℕ) (name : List ℕ) (t : Option SegTree) (lists : List CertList) (track : Track Node) → track_by k name t lists ≡ Some track → IsTrackFor k name t lists track
track-for k name t [] track e = cc
track-for k name t (list ∷ lists) track e = elim (cases_Bool (same_name list.name name)) [
  | inr f ↦ let none : None ≡ Some track = rw f at e in cc
  | inl s ↦ by (nodes_of t list.rows) refl (rw s at e)
]
  where
    by : (o : Option (List Node)) → nodes_of t list.rows ≡ o → option_map (with_nodes (root_track k name t)) o ≡ Some track → IsTrackFor k name t (list ∷ lists) track
    by None p q = cc
    by (Some ns) p q = let same : with_nodes (root_track k name t) ns ≡ track = cc in record { list = list; rest = lists; first = refl; nodes = ns; cut = p; is = sym same }

pub none-of : (rows : List Triple) (ns : List Node) → nodes_of None rows ≡ Some ns → ns ≡ []
none-of [] ns e = cc
none-of (row ∷ rows) ns e = cc

with-sound : (k : ℕ) (name : List ℕ) (t : Option SegTree) (rows : List Triple) (ns : List Node) → IsSeriesTree (length (all_readings t)) t → nodes_of t rows ≡ Some ns
    → IsSoundTrack (with_rows row_of (with_nodes (root_track k name t) ns))
with-sound k name None rows ns is e =
    let none = none-of rows ns e in
    rw none (record { few = omega arith; rows = All-nil (IsSoundRow 0); touch = refl })
with-sound k name (Some t) rows ns is e =
    let c = nodes-cut (length (readings_of t)) t 0 rows ns is e in
    record { few = is.few; rows = c.sound; touch = c.touch }

pub track-sound : (k : ℕ) (name : List ℕ) (t : Option SegTree) (lists : List CertList) (track : Track Node) → IsSeriesTree (length (all_readings t)) t → IsTrackFor k name t lists track → IsSoundTrack (with_rows row_of track)
track-sound k name t lists track is h = subst (λ x. IsSoundTrack (with_rows row_of x)) (sym h.is) (with-sound k name t h.list.rows h.nodes is h.cut)

with-true : (t : Option SegTree) (rows : List Triple) (ns : List Node) → IsSeriesTree (length (all_readings t)) t → nodes_of t rows ≡ Some ns → AreTrueFrom 0 ns
with-true None rows ns is e = let none = none-of rows ns e in rw none tt
with-true (Some t) rows ns is e = (nodes-cut (length (readings_of t)) t 0 rows ns is e).true_from

pub track-true : (k : ℕ) (name : List ℕ) (t : Option SegTree) (lists : List CertList) (track : Track Node) → IsSeriesTree (length (all_readings t)) t → IsTrackFor k name t lists track → AreTrueFrom 0 track.rows
track-true k name t lists track is h = subst (λ (x : Track Node). AreTrueFrom 0 x.rows) (sym h.is) (with-true t h.list.rows h.nodes is h.cut)

-- ---- the lists one after the other

-- the first series is named, and has the first list
pub record IsNamed (q : QueryTerm) (forest : Forest) (k place : ℕ) (name : List ℕ) (names : List (List ℕ)) (lists : List CertList) (nodes : Nodes) : Type 0 where
  pub named : list_any (same_name name) (query_names q) ≡ true
  pub track : Track Node
  pub found : IsTrackFor k name (tree_in forest k) lists track
  pub rest : Nodes
  pub later : cut_from q forest (k + 1) (place + 1) names (drop 1 lists) ≡ Ok rest
  pub are : nodes ≡ track ∷ rest

-- or it is passed
pub record IsPassed (q : QueryTerm) (forest : Forest) (k place : ℕ) (name : List ℕ) (names : List (List ℕ)) (lists : List CertList) (nodes : Nodes) : Type 0 where
  pub passed : list_any (same_name name) (query_names q) ≡ false
  pub later : cut_from q forest (k + 1) place names lists ≡ Ok nodes

pub cut-next : (q : QueryTerm) (forest : Forest) (k place : ℕ) (name : List ℕ) (names : List (List ℕ)) (lists : List CertList) (nodes : Nodes) → cut_from q forest k place (name ∷ names) lists ≡ Ok nodes
    → IsNamed q forest k place name names lists nodes ⊎ IsPassed q forest k place name names lists nodes
cut-next q forest k place name names lists nodes e = elim (cases_Bool (list_any (same_name name) (query_names q))) [
  | inr f ↦ inr (record { passed = f; later = rw f at e })
  | inl s ↦ inl (by s (track_by k name (tree_in forest k) lists) (cut_from q forest (k + 1) (place + 1) names (drop 1 lists)) refl refl (rw s at e))
]
  where
    by : list_any (same_name name) (query_names q) ≡ true → (o : Option (Track Node)) (later : Result Nodes ℕ) → track_by k name (tree_in forest k) lists ≡ o
        → cut_from q forest (k + 1) (place + 1) names (drop 1 lists) ≡ later → and_then o place later ≡ Ok nodes → IsNamed q forest k place name names lists nodes
    by s None later p r f = cc
    by s (Some track) (Err later) p r f = cc
    by s (Some track) (Ok rest) p r f =
        let same : track ∷ rest ≡ nodes = cc in
        record { named = s; track = track; found = track-for k name (tree_in forest k) lists track p; rest = rest; later = r; are = sym same }

pub none-last : (q : QueryTerm) (forest : Forest) (k place : ℕ) (lists : List CertList) (nodes : Nodes) → cut_from q forest k place [] lists ≡ Ok nodes → nodes ≡ []
none-last q forest k place [] nodes e = cc
none-last q forest k place (list ∷ lists) nodes e = cc

-- ---- what holds of the cut

pub cut-sound : (q : QueryTerm) (forest : Forest) (k place : ℕ) (names : List (List ℕ)) (lists : List CertList) (nodes : Nodes) → AreTrees forest → cut_from q forest k place names lists ≡ Ok nodes → All IsSoundTrack (cut_of nodes)
cut-sound q forest k place [] lists nodes trees e = let none = none-last q forest k place lists nodes e in rw none (All-nil IsSoundTrack)
cut-sound q forest k place (name ∷ names) lists nodes trees e = elim (cut-next q forest k place name names lists nodes e) [
  | inl n ↦ rw n.are (All-cons IsSoundTrack (with_rows row_of n.track) (cut_of n.rest) (track-sound k name (tree_in forest k) lists n.track (trees k) n.found) (cut-sound q forest (k + 1) (place + 1) names (drop 1 lists) n.rest trees n.later))
  | inr p ↦ cut-sound q forest (k + 1) place names lists nodes trees p.later
]

pub cut-true : (q : QueryTerm) (forest : Forest) (k place : ℕ) (names : List (List ℕ)) (lists : List CertList) (nodes : Nodes) → AreTrees forest → cut_from q forest k place names lists ≡ Ok nodes → AreTrueTracks nodes
cut-true q forest k place [] lists nodes trees e = let none = none-last q forest k place lists nodes e in rw none tt
cut-true q forest k place (name ∷ names) lists nodes trees e = elim (cut-next q forest k place name names lists nodes e) [
  | inl n ↦ rw n.are (track-true k name (tree_in forest k) lists n.track (trees k) n.found, cut-true q forest (k + 1) (place + 1) names (drop 1 lists) n.rest trees n.later)
  | inr p ↦ cut-true q forest (k + 1) place names lists nodes trees p.later
]

cut-few : (q : QueryTerm) (forest : Forest) (k place : ℕ) (names : List (List ℕ)) (lists : List CertList) (nodes : Nodes) → cut_from q forest k place names lists ≡ Ok nodes → length nodes ≤ length names
cut-few q forest k place [] lists nodes e = let none = none-last q forest k place lists nodes e in rw none (omega arith)
cut-few q forest k place (name ∷ names) lists nodes e = elim (cut-next q forest k place name names lists nodes e) [
  | inl n ↦ let rest = cut-few q forest (k + 1) (place + 1) names (drop 1 lists) n.rest n.later in rw n.are (omega arith)
  | inr p ↦ let rest = cut-few q forest (k + 1) place names lists nodes p.later in omega arith
]

track-named : (k : ℕ) (name : List ℕ) (t : Option SegTree) (lists : List CertList) (track : Track Node) → IsTrackFor k name t lists track → track.name ≡ name
track-named k name t lists track h = ap (λ (x : Track Node). x.name) h.is

cut-names : (P : List ℕ → Type 0) (q : QueryTerm) (forest : Forest) (k place : ℕ) (names : List (List ℕ)) (lists : List CertList) (nodes : Nodes) → cut_from q forest k place names lists ≡ Ok nodes → All P names
    → All P (map track_name (cut_of nodes))
cut-names P q forest k place [] lists nodes e all = let none = none-last q forest k place lists nodes e in rw none (All-nil P)
cut-names P q forest k place (name ∷ names) lists nodes e all = elim (cut-next q forest k place name names lists nodes e) [
  | inl n ↦
      let own : P n.track.name = subst P (sym (track-named k name (tree_in forest k) lists n.track n.found)) (All-head P name names all) in
      rw n.are (All-cons P n.track.name (map track_name (cut_of n.rest)) own (cut-names P q forest (k + 1) (place + 1) names (drop 1 lists) n.rest n.later (All-tail P name names all)))
  | inr p ↦ cut-names P q forest (k + 1) place names lists nodes p.later (All-tail P name names all)
]

cut-apart : (q : QueryTerm) (forest : Forest) (k place : ℕ) (names : List (List ℕ)) (lists : List CertList) (nodes : Nodes) → cut_from q forest k place names lists ≡ Ok nodes → AreApart names → AreApart (map track_name (cut_of nodes))
cut-apart q forest k place [] lists nodes e h = let none = none-last q forest k place lists nodes e in rw none tt
cut-apart q forest k place (name ∷ names) lists nodes e h = elim (cut-next q forest k place name names lists nodes e) [
  | inl n ↦
      let same = track-named k name (tree_in forest k) lists n.track n.found in
      let differ : All (λ other. same_name other n.track.name ≡ false) names = subst (λ m. All (λ other. same_name other m ≡ false) names) (sym same) h.0 in
      rw n.are (cut-names (λ other. same_name other n.track.name ≡ false) q forest (k + 1) (place + 1) names (drop 1 lists) n.rest n.later differ, cut-apart q forest (k + 1) (place + 1) names (drop 1 lists) n.rest n.later h.1)
  | inr p ↦ cut-apart q forest (k + 1) place names lists nodes p.later h.1
]

-- ---- what is known of its series

abbrev pub known_at : Forest → ℕ → List ℕ → Fact
known_at forest k name = record { name = name; count = length (all_readings (tree_in forest k)); greatest = greatest_of (tree_in forest k) }

abbrev pub known_from : Forest → ℕ → List (List ℕ) → List Fact
known_from forest k [] = []
known_from forest k (name ∷ names) = known_at forest k name ∷ known_from forest (k + 1) names

cut-known : (q : QueryTerm) (forest : Forest) (k place : ℕ) (names : List (List ℕ)) (lists : List CertList) (nodes : Nodes) (name : List ℕ) → Has name (query_names q) → cut_from q forest k place names lists ≡ Ok nodes
    → SayTheSame (cut_facts (cut_of nodes)) (known_from forest k names) name
cut-known q forest k place [] lists nodes name has e = let none = none-last q forest k place lists nodes e in rw none refl
cut-known q forest k place (m ∷ names) lists nodes name has e = elim (cut-next q forest k place m names lists nodes e) [
  | inl n ↦
      let fact : fact_of (with_rows row_of n.track) ≡ known_at forest k m = ap (λ (x : Track Node). fact_of (with_rows row_of x)) n.found.is in
      rw n.are (named (fact_of (with_rows row_of n.track)) (known_at forest k m) fact (cut_facts (cut_of n.rest)) (known_from forest (k + 1) names) (cut-known q forest (k + 1) (place + 1) names (drop 1 lists) n.rest name has n.later))
  | inr p ↦ passed (same_name m name) refl p.passed (cut-known q forest (k + 1) place names lists nodes name has p.later)
]
  where
    named : (f g : Fact) → f ≡ g → (fs gs : List Fact) → SayTheSame fs gs name → SayTheSame (f ∷ fs) (g ∷ gs) name
    named f g same fs gs i = ap₂ (λ (x : Fact) (o : Option Fact). cond (same_name x.name name) (Some x) o) same i

    passed : (b : Bool) → same_name m name ≡ b → list_any (same_name m) (query_names q) ≡ false → SayTheSame (cut_facts (cut_of nodes)) (known_from forest (k + 1) names) name
        → SayTheSame (cut_facts (cut_of nodes)) (known_at forest k m ∷ known_from forest (k + 1) names) name
    passed true eb other i = let t = named-any m name (query_names q) has eb in let bad : false ≡ true = sym other ∙ t in cc
    passed false eb other i = rw eb i

cut-admitted : (q : QueryTerm) (forest : Forest) (names : List (List ℕ)) (lists : List CertList) (nodes : Nodes) → cut_from q forest 0 0 names lists ≡ Ok nodes → IsAdmitted (known_from forest 0 names) q → IsAdmitted (cut_facts (cut_of nodes)) q
cut-admitted q forest names lists nodes e a =
    admitted-too (cut_facts (cut_of nodes)) (known_from forest 0 names) q
    (each-sum (SayTheSame (cut_facts (cut_of nodes)) (known_from forest 0 names)) q (λ name has. cut-known q forest 0 0 names lists nodes name has e)) a

-- ---- over a store

left-false : (a b : Bool) → (a || b) ≡ false → a ≡ false
left-false true b h = h
left-false false b h = refl

right-false : (a b : Bool) → (a || b) ≡ false → b ≡ false
right-false true b h = cc
right-false false b h = h

differ : (seen : List (List ℕ)) (name : List ℕ) (ns : List (List ℕ)) → ((n : List ℕ) → has_name seen n ≡ false → same_name n name ≡ false) → AreNames seen ns
    → All (λ other. same_name other name ≡ false) ns
differ seen name [] new are = All-nil (λ other. same_name other name ≡ false)
differ seen name (n ∷ ns) new are =
    All-cons (λ other. same_name other name ≡ false) n ns (new n are.1)
    (differ (n ∷ seen) name ns (λ k h. new k (right-false (same_name k n) (has_name seen k) h)) are.2)

pub names-apart : (seen names : List (List ℕ)) → AreNames seen names → AreApart names
names-apart seen [] are = tt
names-apart seen (n ∷ ns) are =
    (differ (n ∷ seen) n ns (λ k h. left-false (same_name k n) (has_name seen k) h) are.2, names-apart (n ∷ seen) ns are.2)

pub at-drop : {X : Type 0} (xs : List X) (k : ℕ) (d x : X) (rest : List X) → drop k xs ≡ x ∷ rest → get_or xs k d ≡ x
at-drop [] zero d x rest h = cc
at-drop [] (suc k) d x rest h = cc
at-drop (y ∷ xs) zero d x rest h = cc
at-drop (y ∷ xs) (suc k) d x rest h = at-drop xs k d x rest h

behind-drop : {X : Type 0} (xs : List X) (k : ℕ) (x : X) (rest : List X) → drop k xs ≡ x ∷ rest → drop (suc k) xs ≡ rest
behind-drop [] zero x rest h = cc
behind-drop [] (suc k) x rest h = cc
behind-drop (y ∷ xs) zero x rest h = cc
behind-drop (y ∷ xs) (suc k) x rest h = behind-drop xs k x rest h

next-drop : {X : Type 0} (xs : List X) (k : ℕ) (x : X) (rest : List X) → drop k xs ≡ x ∷ rest → drop (k + 1) xs ≡ rest
next-drop xs k x rest h = let e : k + 1 ≡ suc k = omega arith in ap (λ n. drop n xs) e ∙ behind-drop xs k x rest h

pub trees-each : (ss : List Series) → EachTree ss → AreTrees (map tree_of ss)
trees-each [] each k = refl
trees-each (s ∷ ss) each zero = each.0
trees-each (s ∷ ss) each (suc k) = trees-each ss each.1 k

greatest-none : greatest_reading [] ≡ 0
unfolding greatest_reading
greatest-none = refl

greatest-is : (n : ℕ) (t : Option SegTree) → IsSeriesTree n t → greatest_of t ≡ greatest_reading (all_readings t)
greatest-is n None is = sym greatest-none
greatest-is n (Some t) is = ap (λ (g : Seg). g.d) (root-true t is.all_true).measured

known-facts : (forest : Forest) (k : ℕ) (ss : List Series) → drop k forest ≡ map tree_of ss → EachTree ss → known_from forest k (map name_of ss) ≡ map fact_in ss
known-facts forest k [] at each = refl
known-facts forest k (s ∷ ss) at each =
    let tree : tree_in forest k ≡ s.tree = at-drop forest k None s.tree (map tree_of ss) at in
    let count : length (all_readings (tree_in forest k)) ≡ count_of s = ap (λ t. length (all_readings t)) tree in
    let most : greatest_of (tree_in forest k) ≡ greatest_reading (all_readings s.tree) = ap greatest_of tree ∙ greatest-is (count_of s) s.tree each.0 in
    let rest = known-facts forest (k + 1) ss (next-drop forest k s.tree (map tree_of ss) at) each.1 in
    λ i. record { name = s.name; count = count i; greatest = most i } ∷ rest i

-- what a frame of a cut gives
pub record IsReady (q : QueryTerm) (es : List Entry) : Type 0 where
  pub short : IsShort es
  pub admitted : AdmitsQuery es q
  pub there : (iv : Interval) × (interval_over q (sums_over es q) ≡ Some iv)

pub ready : (m : StoreValue) (q : QueryTerm) (lists : List CertList) (es : List Entry) → IsStoreValue m → IsPlain q → IsAdmitted (facts_in m) q → IsFrameOf m.series q lists es → IsReady q es
ready m q lists es is plain admitted f =
    let forest : Forest = map tree_of m.series in
    let names = map name_of m.series in
    let trees = trees-each m.series is.trees in
    let few = cut-few q forest 0 0 names lists f.nodes f.cut in
    let many = length-map m.series name_of in
    let tracks = length-map f.nodes (with_rows row_of) in
    let sound : IsSound (cut_of f.nodes) = record {
      few = omega (arith, is.few);
      tracks = cut-sound q forest 0 0 names lists f.nodes trees f.cut;
      apart = cut-apart q forest 0 0 names lists f.nodes f.cut (names-apart [] names is.names);
    } in
    let known : IsAdmitted (known_from forest 0 names) q = subst (λ fs. IsAdmitted fs q) (sym (known-facts forest 0 m.series refl is.trees)) admitted in
    let frame = cuts_are_frames (cut_of f.nodes) q sound (cut-admitted q forest names lists f.nodes f.cut known) in
    rw f.same (record { short = frame.short; admitted = frame.admitted; there = is-there f.nodes q (cut-true q forest 0 0 names lists f.nodes trees f.cut) plain })
