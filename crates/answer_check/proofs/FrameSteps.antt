-- Series that are added to a frame one after the other.
use Rattle.std.proofs.Common.{◌≡◌, ℕ, zero, suc, ◌+◌, ◌<◌, ◌≤◌, Bool, true, false, List, [], ◌∷◌, ◌++◌, length, map, take, drop, get_or, Option, Some, None, Result, Ok, Err, refl, sym, ap, ap₂, subst, ◌∙◌, arith, append_assoc, append-nil}
use Rattle.std.specs.List.{All, list_any}
use Rattle.std.specs.Option.{option_map}
use Rattle.std.proofs.lemmas.List.{drop_all, take_more}
use Rattle.std.proofs.lemmas.List.Elements.{All-head, All-tail}
use Rattle.std.proofs.lemmas.Slice.Eq.{bytes_eq-Decides}
use Rattle.semantics.specs.Admission.{query_names}
use Rattle.semantics.specs.Names.{same_name}
use Rattle.semantics.specs.Term.{QueryTerm}
use Rattle.segment.specs.declared.segments.Seg.{Seg}
use Rattle.segment.specs.Nodes.{Forest, tree_in}
use Rattle.segment.specs.Tree.{SegTree}
use Rattle.bounds.specs.Cut.{Entry, IsNew}
use Rattle.bounds.specs.Segments.{TouchFrom}
use Rattle.error_prop.specs.Entries.{Touches, end_from, last_end, pushed}
use Rattle.seg_tree.specs.Linked.{Places}
use Rattle.seg_tree.specs.Trees.{value_of}
use Rattle.store_file.specs.StoreValue.{AreNames, name_of}
use Rattle.store_file.specs.Stored.{AreOf, series_of}
use Rattle.store_file.specs.declared.store.Stored.{Stored}
use Rattle.store_file.proofs.StoredLaws.{names-series}
use Rattle.std.specs.Map.{keys_of}
use Rattle.descent.specs.Descents.{Node, Nodes, cut_of, row_of}
use Rattle.descent.specs.Known.{AreApart}
use Rattle.descent.specs.Rows.{Track, entries, entry_of, with_rows}
use Rattle.answer_check.specs.declared.certificate.CertList.{CertList}
use Rattle.answer_check.specs.Verdict.{and_then, cut_from, track_by, tree_of}
use Rattle.answer_check.specs.Walked.{cut_in, segs_of_track, IsFrameOf}
use Rattle.answer_check.proofs.SoundCuts.{at-drop, names-apart, track-for}

-- ---- the segments of a series

-- an entry behind others, with the first segments
abbrev pub with_segs : List Entry → List ℕ → List Seg → List Entry
with_segs es name gs = es ++ record { name = name; segs = gs } ∷ []

pushed-last : (es : List Entry) (name : List ℕ) (gs : List Seg) (g : Seg) → pushed (with_segs es name gs) g ≡ with_segs es name (gs ++ g ∷ [])
pushed-last [] name gs g = refl
pushed-last (x ∷ []) name gs g = refl
pushed-last (x ∷ y ∷ es) name gs g = ap (λ zs. x ∷ zs) (pushed-last (y ∷ es) name gs g)

pub last-end : (es : List Entry) (name : List ℕ) (gs : List Seg) → last_end (with_segs es name gs) ≡ end_from 0 gs
last-end [] name gs = refl
last-end (x ∷ []) name gs = refl
last-end (x ∷ y ∷ es) name gs = last-end (y ∷ es) name gs

pub some-last : (es : List Entry) (name : List ℕ) (gs : List Seg) (now : List Entry) → now ≡ with_segs es name gs → 0 < length now
some-last [] name gs now h = rw h (omega arith)
some-last (x ∷ es) name gs now h = rw h (omega arith)

touch-front : (from to : ℕ) (gs : List Seg) (i : ℕ) (g : Seg) → TouchFrom from gs to → i < length gs → g ≡ get_or gs i g → g.start ≡ end_from from (take i gs)
touch-front from to [] i g t lt e = absurd (omega arith)
touch-front from to (x ∷ gs) zero g t lt e = ap (λ (h : Seg). h.start) e ∙ t.0
touch-front from to (x ∷ gs) (suc i) g t lt e = touch-front (from + x.len) to gs i g t.1 (omega arith) e

pub starts-next : (es : List Entry) (name : List ℕ) (gs : List Seg) (i : ℕ) (g : Seg) → Touches gs → i < length gs → g ≡ get_or gs i g → g.start ≡ last_end (with_segs es name (take i gs))
starts-next es name gs i g t lt e = touch-front 0 t.to gs i g t.touch lt e ∙ sym (last-end es name (take i gs))

pub segs-more : (es now : List Entry) (name : List ℕ) (gs : List Seg) (i : ℕ) (g : Seg) → i < length gs → g ≡ get_or gs i g → now ≡ pushed (with_segs es name (take i gs)) g → now ≡ with_segs es name (take (i + 1) gs)
segs-more es now name gs i g lt e put =
    put ∙ pushed-last es name (take i gs) g ∙ ap (with_segs es name) (sym (take_more gs i g lt ∙ ap (λ y. take i gs ++ y ∷ []) (sym e)))

-- ---- names

not-same : (xs ys : List ℕ) → same_name xs ys ≡ false → same_name ys xs ≡ false
not-same xs ys h = at (same_name ys xs) refl
  where
    at : (b : Bool) → same_name ys xs ≡ b → b ≡ false
    at false e = refl
    at true e =
        let q : ys ≡ xs = (bytes_eq-Decides ys xs).0 e in
        let r : same_name xs ys ≡ true = (bytes_eq-Decides xs ys).1 (sym q) in
        sym r ∙ h

new-behind : (name : List ℕ) (es : List Entry) (f : Entry) → IsNew name es → same_name f.name name ≡ false → IsNew name (es ++ f ∷ [])
new-behind name [] f h k = (k, tt)
new-behind name (e ∷ es) f h k = (h.0, new-behind name es f h.1 k)

abbrev pub AreNew : List Entry → List (List ℕ) → Type 0
AreNew es [] = Unit {0}
AreNew es (name ∷ names) = IsNew name es × AreNew es names

all-new : (names : List (List ℕ)) → AreNew [] names
all-new [] = tt
all-new (name ∷ names) = (tt, all-new names)

news-behind : (es : List Entry) (f : Entry) (names : List (List ℕ)) → AreNew es names → All (λ other. same_name other f.name ≡ false) names → AreNew (es ++ f ∷ []) names
news-behind es f [] n all = tt
news-behind es f (name ∷ names) n all = (
  new-behind name es f n.0 (not-same name f.name (All-head (λ other. same_name other f.name ≡ false) name names all)),
  news-behind es f names n.1 (All-tail (λ other. same_name other f.name ≡ false) name names all),
)

-- ---- the series one after the other

abbrev pub Entries : Type 0
Entries = List (List ℕ × Stored)

abbrev pub names_left : Places → Entries → ℕ → List (List ℕ)
names_left nodes es k = map name_of (series_of nodes (drop k es))

-- tracks before those that are there
abbrev pub behind : Nodes → Result Nodes ℕ → Result Nodes ℕ
behind ns (Ok rest) = Ok (ns ++ rest)
behind ns (Err place) = Err place

abbrev pub left_of : Places → Entries → QueryTerm → List CertList → ℕ → ℕ → Result Nodes ℕ
left_of nodes es q lists k place = cut_from q (map tree_of (series_of nodes es)) k place (names_left nodes es k) (drop place lists)

-- the tracks of the series that are passed, and those of the series that are left
pub record IsFrameTo (nodes : Places) (es : Entries) (q : QueryTerm) (lists : List CertList) (k place : ℕ) (frame : List Entry) : Type 0 where
  pub tracks : Nodes
  pub same : frame ≡ entries (cut_of tracks)
  pub cut : cut_in (series_of nodes es) q lists ≡ behind tracks (left_of nodes es q lists k place)
  pub new : AreNew frame (names_left nodes es k)
  pub apart : AreApart (names_left nodes es k)
  pub are : AreOf nodes (drop k es)
  pub few : place ≤ k

behind-nil : (r : Result Nodes ℕ) → r ≡ behind [] r
behind-nil (Ok ns) = refl
behind-nil (Err place) = refl

pub frame-init : (nodes : Places) (es : Entries) (q : QueryTerm) (lists : List CertList) (frame : List Entry) → frame ≡ [] → AreNames [] (keys_of es) → AreOf nodes es → IsFrameTo nodes es q lists 0 0 frame
frame-init nodes es q lists frame none names are =
    let named : AreNames [] (map name_of (series_of nodes es)) = subst (AreNames []) (sym (names-series nodes es)) names in
    record {
      tracks = [];
      same = none;
      cut = behind-nil (cut_in (series_of nodes es) q lists);
      new = subst (λ f. AreNew f (names_left nodes es 0)) (sym none) (all-new (names_left nodes es 0));
      apart = names-apart [] (map name_of (series_of nodes es)) named;
      are = are;
      few = omega arith;
    }

drop-trees : (nodes : Places) (es : Entries) (k : ℕ) → drop k (map tree_of (series_of nodes es)) ≡ map tree_of (series_of nodes (drop k es))
drop-trees nodes es zero = refl
drop-trees nodes [] (suc k) = refl
drop-trees nodes (e ∷ es) (suc k) = drop-trees nodes es k

tree-here : (nodes : Places) (es : Entries) (k : ℕ) (name : List ℕ) (stored : Stored) → drop k es ≡ (name, stored) ∷ drop (k + 1) es → tree_in (map tree_of (series_of nodes es)) k ≡ value_of nodes stored.tree
tree-here nodes es k name stored at =
    at-drop (map tree_of (series_of nodes es)) k None (value_of nodes stored.tree) (map tree_of (series_of nodes (drop (k + 1) es)))
    (drop-trees nodes es k ∙ ap (λ ds. map tree_of (series_of nodes ds)) at)

names-here : (nodes : Places) (es : Entries) (k : ℕ) (name : List ℕ) (stored : Stored) → drop k es ≡ (name, stored) ∷ drop (k + 1) es → names_left nodes es k ≡ name ∷ names_left nodes es (k + 1)
names-here nodes es k name stored at = ap (λ ds. map name_of (series_of nodes ds)) at

-- the series at the place is of the nodes, and new
pub tree-is : (nodes : Places) (es : Entries) (q : QueryTerm) (lists : List CertList) (k place : ℕ) (frame : List Entry) (name : List ℕ) (stored : Stored) → IsFrameTo nodes es q lists k place frame → drop k es ≡ (name, stored) ∷ drop (k + 1) es
    → Rattle.seg_tree.specs.Trees.IsTreeOf nodes stored.tree
tree-is nodes es q lists k place frame name stored h at = (subst (AreOf nodes) at h.are).0

pub name-new : (nodes : Places) (es : Entries) (q : QueryTerm) (lists : List CertList) (k place : ℕ) (frame : List Entry) (name : List ℕ) (stored : Stored) → IsFrameTo nodes es q lists k place frame → drop k es ≡ (name, stored) ∷ drop (k + 1) es → IsNew name frame
name-new nodes es q lists k place frame name stored h at = (subst (AreNew frame) (names-here nodes es k name stored at) h.new).0

-- it is passed
pub frame-passed : (nodes : Places) (es : Entries) (q : QueryTerm) (lists : List CertList) (k place : ℕ) (frame : List Entry) (name : List ℕ) (stored : Stored) → IsFrameTo nodes es q lists k place frame → drop k es ≡ (name, stored) ∷ drop (k + 1) es
    → list_any (same_name name) (query_names q) ≡ false → IsFrameTo nodes es q lists (k + 1) place frame
frame-passed nodes es q lists k place frame name stored h at other =
    let names = names-here nodes es k name stored at in
    let forest : Forest = map tree_of (series_of nodes es) in
    let here : left_of nodes es q lists k place ≡ left_of nodes es q lists (k + 1) place = ap (λ ns. cut_from q forest k place ns (drop place lists)) names ∙ rw other refl in
    record {
      tracks = h.tracks;
      same = h.same;
      cut = h.cut ∙ ap (behind h.tracks) here;
      new = (subst (AreNew frame) names h.new).1;
      apart = (subst AreApart names h.apart).1;
      are = (subst (AreOf nodes) at h.are).1;
      few = omega (arith, h.few);
    }

drop-one : (ls : List CertList) (p : ℕ) → drop 1 (drop p ls) ≡ drop (p + 1) ls
drop-one ls zero = refl
drop-one [] (suc p) = let none : List CertList = [] in sym (drop_all (suc p + 1) none (omega arith))
drop-one (l ∷ ls) (suc p) = let e : suc p + 1 ≡ suc (p + 1) = omega arith in drop-one ls p ∙ ap (λ n. drop n (l ∷ ls)) (sym e)

-- it is named
left-named : (nodes : Places) (es : Entries) (q : QueryTerm) (lists : List CertList) (k place : ℕ) (name : List ℕ) (stored : Stored) → drop k es ≡ (name, stored) ∷ drop (k + 1) es
    → list_any (same_name name) (query_names q) ≡ true
    → left_of nodes es q lists k place ≡ and_then (track_by k name (value_of nodes stored.tree) (drop place lists)) place (left_of nodes es q lists (k + 1) (place + 1))
left-named nodes es q lists k place name stored at named =
    let forest : Forest = map tree_of (series_of nodes es) in
    let names = names-here nodes es k name stored at in
    let tree = tree-here nodes es k name stored at in
    ap (λ ns. cut_from q forest k place ns (drop place lists)) names
    ∙ rw named (ap₂ (λ (t : Option SegTree) (ls : List CertList). and_then (track_by k name t (drop place lists)) place (cut_from q forest (k + 1) (place + 1) (names_left nodes es (k + 1)) ls)) tree (drop-one lists place))

no-track : (o : Option (Track Node)) → option_map segs_of_track o ≡ None → o ≡ None
no-track None e = refl
no-track (Some track) e = cc

pub frame-none : (nodes : Places) (es : Entries) (q : QueryTerm) (lists : List CertList) (k place : ℕ) (frame : List Entry) (name : List ℕ) (stored : Stored) → IsFrameTo nodes es q lists k place frame → drop k es ≡ (name, stored) ∷ drop (k + 1) es
    → list_any (same_name name) (query_names q) ≡ true → option_map segs_of_track (track_by k name (value_of nodes stored.tree) (drop place lists)) ≡ None
    → cut_in (series_of nodes es) q lists ≡ Err place
frame-none nodes es q lists k place frame name stored h at named none =
    let here = left-named nodes es q lists k place name stored at named in
    let no = no-track (track_by k name (value_of nodes stored.tree) (drop place lists)) none in
    h.cut ∙ ap (behind h.tracks) (here ∙ ap (λ o. and_then o place (left_of nodes es q lists (k + 1) (place + 1))) no)

-- a track with these segments
record HasTrack (o : Option (Track Node)) (gs : List Seg) : Type 0 where
  track : Track Node
  found : o ≡ Some track
  segs : segs_of_track track ≡ gs

has-track : (o : Option (Track Node)) (gs : List Seg) → option_map segs_of_track o ≡ Some gs → HasTrack o gs
has-track None gs e = cc
has-track (Some track) gs e = let same : segs_of_track track ≡ gs = cc in record { track = track; found = refl; segs = same }

behind-first : (ns : Nodes) (track : Track Node) (place : ℕ) (r : Result Nodes ℕ) → behind ns (and_then (Some track) place r) ≡ behind (ns ++ track ∷ []) r
behind-first ns track place (Ok rest) = ap Ok (sym (append_assoc ns (track ∷ []) rest))
behind-first ns track place (Err later) = refl

entries-more : (ns : Nodes) (track : Track Node) → entries (cut_of (ns ++ track ∷ [])) ≡ entries (cut_of ns) ++ entry_of (with_rows row_of track) ∷ []
entries-more [] track = refl
entries-more (n ∷ ns) track = ap (λ es. entry_of (with_rows row_of n) ∷ es) (entries-more ns track)

pub frame-more : (nodes : Places) (es : Entries) (q : QueryTerm) (lists : List CertList) (k place : ℕ) (frame now : List Entry) (name : List ℕ) (stored : Stored) (gs : List Seg) → IsFrameTo nodes es q lists k place frame
    → drop k es ≡ (name, stored) ∷ drop (k + 1) es → list_any (same_name name) (query_names q) ≡ true
    → option_map segs_of_track (track_by k name (value_of nodes stored.tree) (drop place lists)) ≡ Some gs → now ≡ with_segs frame name gs → IsFrameTo nodes es q lists (k + 1) (place + 1) now
frame-more nodes es q lists k place frame now name stored gs h at named some put =
    let names = names-here nodes es k name stored at in
    let here = left-named nodes es q lists k place name stored at named in
    let t = value_of nodes stored.tree in
    let has = has-track (track_by k name t (drop place lists)) gs some in
    let later = left_of nodes es q lists (k + 1) (place + 1) in
    let is = track-for k name t (drop place lists) has.track has.found in
    let called : has.track.name ≡ name = ap (λ (x : Track Node). x.name) is.is in
    let e : Entry = record { name = name; segs = gs } in
    let own : entry_of (with_rows row_of has.track) ≡ e = λ i. record { name = called i; segs = has.segs i } in
    let new = subst (AreNew frame) names h.new in
    let apart = subst AreApart names h.apart in
    record {
      tracks = h.tracks ++ has.track ∷ [];
      same = put ∙ ap₂ (λ (xs : List Entry) (x : Entry). xs ++ x ∷ []) h.same (sym own) ∙ sym (entries-more h.tracks has.track);
      cut = h.cut ∙ ap (behind h.tracks) (here ∙ ap (λ o. and_then o place later) has.found) ∙ behind-first h.tracks has.track place later;
      new = subst (λ f. AreNew f (names_left nodes es (k + 1))) (sym put) (news-behind frame e (names_left nodes es (k + 1)) new.1 apart.0);
      apart = apart.1;
      are = (subst (AreOf nodes) at h.are).1;
      few = omega (arith, h.few);
    }

-- ---- the end

none-left : (nodes : Places) (es : Entries) (k : ℕ) → length es ≤ k → names_left nodes es k ≡ []
none-left nodes es k le = ap (λ ds. map name_of (series_of nodes ds)) (drop_all k es le)

pub frame-further : (nodes : Places) (es : Entries) (q : QueryTerm) (lists : List CertList) (k place : ℕ) (frame : List Entry) → IsFrameTo nodes es q lists k place frame → length es ≤ k → place < length lists
    → cut_in (series_of nodes es) q lists ≡ Err place
frame-further nodes es q lists k place frame h le lt =
    let forest : Forest = map tree_of (series_of nodes es) in
    h.cut ∙ ap (behind h.tracks) (ap (λ ns. cut_from q forest k place ns (drop place lists)) (none-left nodes es k le) ∙ further lists place lt)
  where
    further : (ls : List CertList) (p : ℕ) → p < length ls → cut_from q (map tree_of (series_of nodes es)) k place [] (drop p ls) ≡ Err place
    further [] p l = absurd (omega arith)
    further (x ∷ ls) zero l = refl
    further (x ∷ ls) (suc p) l = further ls p (omega arith)

pub frame-whole : (nodes : Places) (es : Entries) (q : QueryTerm) (lists : List CertList) (k place : ℕ) (frame : List Entry) → IsFrameTo nodes es q lists k place frame → length es ≤ k → length lists ≤ place
    → IsFrameOf (series_of nodes es) q lists frame
frame-whole nodes es q lists k place frame h le past =
    let forest : Forest = map tree_of (series_of nodes es) in
    let none : drop place lists ≡ [] = drop_all place lists past in
    let here : left_of nodes es q lists k place ≡ Ok [] = ap₂ (λ (ns : List (List ℕ)) (ls : List CertList). cut_from q forest k place ns ls) (none-left nodes es k le) none in
    record { nodes = h.tracks; cut = h.cut ∙ ap (behind h.tracks) here ∙ ap Ok (append-nil h.tracks); same = h.same }
