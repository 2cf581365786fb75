-- A store with more readings behind those of a series.
use Rattle.std.proofs.Common.{◌≡◌, ◌⊎◌, ◌↔◌, ℕ, ◌+◌, ◌<◌, ◌≤◌, ◌^◌, Bool, true, false, nat_lt, ℤ, List, [], ◌∷◌, ◌++◌, length, map, Option, Some, None, Result, Ok, Err, is_some, refl, sym, ap, ap₂, subst, ◌∙◌, inl, inr, arith, length-append}
use Rattle.std.specs.Prelude.{◌||◌, IfErr}
use Rattle.std.specs.Result.{IsErrAnd}
use Rattle.std.specs.Map.{lookup, keys_of}
use Rattle.std.proofs.lemmas.Bool.{cases_Bool, cases_lt}
use Rattle.std.proofs.lemmas.Bool.Decides.{nat_tests}
use Rattle.std.proofs.lemmas.Slice.Eq.{bytes_eq-Decides}
use Rattle.indexmap.specs.IndexMap.{insert_entry}
use Rattle.semantics.specs.Names.{same_name}
use Rattle.segment.specs.Growth.{made, lacking, is_among}
use Rattle.segment.specs.Measure.{AreReadings}
use Rattle.segment.specs.Nodes.{IsSeriesTree}
use Rattle.segment.specs.Shape.{Range, shape}
use Rattle.segment.specs.Tree.{SegTree, all_readings, fitted_series}
use Rattle.segment.proofs.ShapeLaws.{shape-counted}
use Rattle.segment.proofs.TreeLaws.{all_readings-fitted_series}
use Rattle.seg_tree.specs.Grown.{grown_tree}
use Rattle.seg_tree.specs.Held.{Held}
use Rattle.seg_tree.specs.Linked.{Places, Extends, used}
use Rattle.seg_tree.specs.Trees.{IsTreeOf, value_of}
use Rattle.seg_tree.specs.declared.arena.Tree.{Tree}
use Rattle.seg_tree.specs.declared.arena.TreeErr.{TreeErr}
use Rattle.seg_tree.specs.declared.arena.TreeErr.TheVariants as tree
use Rattle.seg_tree.proofs.Extended.{value_of-Extends, IsTreeOf-Extends}
use Rattle.seg_tree.proofs.GrownSeries.{fitted-trees-grow, trees-grow}
use Rattle.seg_tree.proofs.GrownTrees.{tree-long}
use Rattle.store_file.specs.StoreValue.{Series, StoreValue, EachTree, count_of, has_name, name_of}
use Rattle.store_file.specs.Stored.{series_of, AreOf, StoreParts, IsSound, store_value}
use Rattle.store_file.specs.Added.{names_in, series_err_of, HasRoom}
use Rattle.store_file.specs.Grown.{readings_named, grown_series, grown_store, grown_length, made_in, room_refusal, append_refusal, IsGrowable, GrowingKeepsStores, GrowthHasRoom, AreFitted, FittedStoresStay, FittedStoresAreOne, AppendsAreLoads, NamedReadings, named_readings}
use Rattle.store_file.specs.declared.adding.SeriesErr.TheVariants as refusal
use Rattle.store_file.specs.declared.store.Stored.{Stored}
use Rattle.store_file.proofs.AddedLaws.{there}

-- ---- names and lengths stay

names-grown : (degree : ℕ) (ss : List Series) (name : List ℕ) (more : List ℤ) → map name_of (grown_series degree ss name more) ≡ map name_of ss
names-grown degree [] name more = refl
names-grown degree (s ∷ ss) name more = elim (cases_Bool (same_name name s.name)) [
  | inl here ↦ rw here refl
  | inr other ↦ rw other (ap (λ q. s.name ∷ q) (names-grown degree ss name more))
]

length-grown : (degree : ℕ) (ss : List Series) (name : List ℕ) (more : List ℤ) → length (grown_series degree ss name more) ≡ length ss
length-grown degree [] name more = refl
length-grown degree (s ∷ ss) name more = elim (cases_Bool (same_name name s.name)) [
  | inl here ↦ rw here refl
  | inr other ↦ rw other (omega (arith, length-grown degree ss name more))
]

-- ---- it is a store again

tree-grows : (degree : ℕ) (s : Series) (more : List ℤ) → IsSeriesTree (count_of s) s.tree → AreReadings more → count_of s + length more ≤ 2 ^ 20
    → IsSeriesTree (length (all_readings (grown_tree degree s.tree more))) (grown_tree degree s.tree more)
tree-grows degree s more is small short =
    let grown = trees-grow degree (count_of s) s.tree more is small (omega (arith, length-append (all_readings s.tree) more, short)) in
    rw grown.readings grown.tree

EachTree-grown : (degree : ℕ) (ss : List Series) (name : List ℕ) (more : List ℤ) → EachTree ss → AreReadings more
    → length (readings_named ss name) + length more ≤ 2 ^ 20 → EachTree (grown_series degree ss name more)
EachTree-grown degree [] name more each small short = tt
EachTree-grown degree (s ∷ ss) name more each small short = elim (cases_Bool (same_name name s.name)) [
  | inl here ↦ rw here (tree-grows degree s more each.0 small (rw here at short), each.1)
  | inr other ↦ rw other (each.0, EachTree-grown degree ss name more each.1 small (rw other at short))
]

pub growing-keeps : GrowingKeepsStores
growing-keeps m name more is can = record {
  scale = is.scale;
  degree = is.degree;
  few = omega (arith, length-grown m.degree m.series name more, is.few);
  names = rw (names-grown m.degree m.series name more) is.names;
  trees = EachTree-grown m.degree m.series name more is.trees can.readings can.short;
}

-- ---- fitted stores

push-fitted : (degree : ℕ) (ss : List Series) (name : List ℕ) (xs : List ℤ) → AreFitted degree ss → AreFitted degree (ss ++ record { name = name; tree = fitted_series degree xs } ∷ [])
push-fitted degree [] name xs are = (ap (fitted_series degree) (sym (all_readings-fitted_series degree xs)), tt)
push-fitted degree (s ∷ ss) name xs are = (are.0, push-fitted degree ss name xs are.1)

-- a fitted tree stays one
tree-fitted : (degree : ℕ) (t : Option SegTree) (more : List ℤ) → t ≡ fitted_series degree (all_readings t)
    → grown_tree degree t more ≡ fitted_series degree (all_readings (grown_tree degree t more))
tree-fitted degree t more is =
    let whole : grown_tree degree t more ≡ fitted_series degree (all_readings t ++ more) =
    ap (λ o. grown_tree degree o more) is ∙ fitted-trees-grow degree (all_readings t) more in
    let readings : all_readings (grown_tree degree t more) ≡ all_readings t ++ more = ap all_readings whole ∙ all_readings-fitted_series degree (all_readings t ++ more) in
    whole ∙ ap (fitted_series degree) (sym readings)

grown-fitted : (degree : ℕ) (ss : List Series) (name : List ℕ) (more : List ℤ) → AreFitted degree ss → AreFitted degree (grown_series degree ss name more)
grown-fitted degree [] name more are = tt
grown-fitted degree (s ∷ ss) name more are = elim (cases_Bool (same_name name s.name)) [
  | inl here ↦ rw here (tree-fitted degree s.tree more are.0, are.1)
  | inr other ↦ rw other (are.0, grown-fitted degree ss name more are.1)
]

pub fitted-stay : FittedStoresStay
fitted-stay m name xs is = (push-fitted m.degree m.series name xs is, grown-fitted m.degree m.series name xs is)

same-series : (degree : ℕ) (s t : Series) → s.tree ≡ fitted_series degree (all_readings s.tree) → t.tree ≡ fitted_series degree (all_readings t.tree) → named_readings s ≡ named_readings t → s ≡ t
same-series degree s t a b e =
    let names : s.name ≡ t.name = ap (λ (c : NamedReadings). c.name) e in
    let readings : all_readings s.tree ≡ all_readings t.tree = ap (λ (c : NamedReadings). c.readings) e in
    let trees : s.tree ≡ t.tree = a ∙ ap (fitted_series degree) readings ∙ sym b in
    ap₂ (λ (n : List ℕ) (o : Option SegTree). let x : Series = record { name = n; tree = o } in x) names trees

all-same : (degree : ℕ) (ss ts : List Series) → AreFitted degree ss → AreFitted degree ts → map named_readings ss ≡ map named_readings ts → ss ≡ ts
all-same degree [] [] a b e = refl
all-same degree [] (t ∷ ts) a b e = cc
all-same degree (s ∷ ss) [] a b e = cc
all-same degree (s ∷ ss) (t ∷ ts) a b e =
    let first : named_readings s ≡ named_readings t = cc in
    let rest : map named_readings ss ≡ map named_readings ts = cc in
    ap₂ ◌∷◌ (same-series degree s t a.0 b.0 first) (all-same degree ss ts a.1 b.1 rest)

pub fitted-one : FittedStoresAreOne
fitted-one m n a b scale degree contents =
    let b_here : AreFitted m.degree n.series = subst (λ d. AreFitted d n.series) (sym degree) b in
    let series = all-same m.degree m.series n.series a b_here contents in
    rw (scale, degree, series) refl

-- ---- a load and an append are a load

isnt : (a b : Bool) → (a || b) ≡ false → (a ≡ false) × (b ≡ false)
isnt true b h = cc
isnt false b h = (refl, h)

grown-last : (degree : ℕ) (ss : List Series) (name : List ℕ) (s : Series) (more : List ℤ) → has_name (map name_of ss) name ≡ false → same_name name s.name ≡ true
    → grown_series degree (ss ++ s ∷ []) name more ≡ ss ++ record { name = s.name; tree = grown_tree degree s.tree more } ∷ []
grown-last degree [] name s more none here = rw here refl
grown-last degree (x ∷ ss) name s more none here =
    let parts = isnt (same_name name x.name) (has_name (map name_of ss) name) none in
    rw parts.0 (ap (λ q. x ∷ q) (grown-last degree ss name s more parts.1 here))

pub appends-loads : AppendsAreLoads
appends-loads m name xs more new =
    let s : Series = record { name = name; tree = fitted_series m.degree xs } in
    let own : same_name name name ≡ true = (bytes_eq-Decides name name).1 refl in
    let last = grown-last m.degree m.series name s more new own in
    let tree = fitted-trees-grow m.degree xs more in
    ap (λ (ss : List Series). let x : StoreValue = record { scale = m.scale; degree = m.degree; series = ss } in x)
    (last ∙ ap (λ (o : Option SegTree). m.series ++ record { name = name; tree = o } ∷ []) tree)

-- ---- refusals

is_above : (a b : ℕ) → b < a → nat_lt b a ≡ true
is_above a b h = grind (arith, nat_tests)

isnt_above : (a b : ℕ) → a ≤ b → nat_lt b a ≡ false
isnt_above a b h = grind (arith, nat_tests)

-- a series that is there
pub record IsThere (s : StoreParts) (name : List ℕ) (t : Tree) : Type 0 where
  pub there : has_name (names_in (store_value s)) name ≡ true
  pub of_arena : IsTreeOf s.arena.nodes t
  pub readings : readings_named (store_value s).series name ≡ all_readings (value_of s.arena.nodes t)
  pub long : length (readings_named (store_value s).series name) ≡ t.n

found-tree : (nodes : Places) (es : List (List ℕ × Stored)) (name : List ℕ) (v : Stored) → AreOf nodes es → lookup (same_name name) es ≡ Some v
    → IsTreeOf nodes v.tree × (readings_named (series_of nodes es) name ≡ all_readings (value_of nodes v.tree))
found-tree nodes [] name v are e = cc
found-tree nodes (x ∷ es) name v are e = elim (cases_Bool (same_name name x.0)) [
  | inl here ↦
      let some : Some x.1 ≡ Some v = rw here at e in
      let same : x.1 ≡ v = cc in
      rw here (subst (λ (y : Stored). IsTreeOf nodes y.tree × (all_readings (value_of nodes x.1.tree) ≡ all_readings (value_of nodes y.tree))) same (are.0, refl))
  | inr other ↦ rw other (found-tree nodes es name v are.1 (rw other at e))
]

pub is-there : (v s : StoreParts) (name : List ℕ) (x : Stored) → v ≡ s → IsSound v → Some x ≡ lookup (same_name name) v.entries → IsThere v name x.tree
is-there v s name x is sound found =
    let tree = found-tree v.arena.nodes v.entries name x sound.trees (sym found) in
    record {
      there = sym (there v name) ∙ ap is_some (sym found);
      of_arena = tree.0;
      readings = tree.1;
      long = ap length tree.1 ∙ tree-long v.arena.nodes x.tree tree.0;
    }

-- a series that isn't there
pub unknown : (v s : StoreParts) (name : List ℕ) (more : List ℤ) → v ≡ s → None ≡ lookup (same_name name) v.entries → append_refusal s name more ≡ Some refusal.Unknown
unknown v s name more is none =
    let absent : has_name (names_in (store_value v)) name ≡ false = sym (there v name) ∙ ap is_some (sym none) in
    subst (λ p. append_refusal p name more ≡ Some refusal.Unknown) is (rw absent refl)

-- what an arena's answer says of a store's refusal
pub record AppendRefuses (s : StoreParts) (t : Tree) (more : List ℤ) (e : TreeErr) : Type 0 where
  pub too_long : (◌≡◌ {A = Result Tree TreeErr} (Err e) (Err tree.TooLong)) ↔ (2 ^ 20 < t.n + length more)
  pub full : (◌≡◌ {A = Result Tree TreeErr} (Err e) (Err tree.ArenaFull)) ↔ ((t.n + length more ≤ 2 ^ 20) × (s.arena.limit < used s.arena.nodes + made t.n (t.n + length more)))

refused-here : (v : StoreParts) (name : List ℕ) (t : Tree) (more : List ℤ) (e : TreeErr) → IsThere v name t → AppendRefuses v t more e
    → (series_err_of e ≡ refusal.Memory) ⊎ (append_refusal v name more ≡ Some (series_err_of e))
refused-here v name t more tree.TooLong is h =
    inr (rw (is.there, is.long, is_above (t.n + length more) (2 ^ 20) (h.too_long.0 refl)) refl)
refused-here v name t more tree.ArenaFull is h =
    let (short, over) = h.full.0 refl in
    inr (rw (is.there, is.long, isnt_above (t.n + length more) (2 ^ 20) short, is_above (used v.arena.nodes + made t.n (t.n + length more)) v.arena.limit over) refl)
refused-here v name t more tree.Memory is h = inl refl

pub append_refused : (v s : StoreParts) (name : List ℕ) (t : Tree) (more : List ℤ) (e : TreeErr) → v ≡ s → IsThere v name t → AppendRefuses v t more e
    → (series_err_of e ≡ refusal.Memory) ⊎ (append_refusal s name more ≡ Some (series_err_of e))
append_refused v s name t more e is there h =
    subst (λ p. (series_err_of e ≡ refusal.Memory) ⊎ (append_refusal p name more ≡ Some (series_err_of e))) is (refused-here v name t more e there h)

-- ---- what is stored

AreOf-Extends : (old new : Places) (es : List (List ℕ × Stored)) → Extends old new → AreOf old es → AreOf new es
AreOf-Extends old new [] ext are = tt
AreOf-Extends old new (e ∷ es) ext are = (IsTreeOf-Extends old new e.1.tree ext are.0, AreOf-Extends old new es ext are.1)

series_of-Extends : (old new : Places) (es : List (List ℕ × Stored)) → Extends old new → AreOf old es → series_of new es ≡ series_of old es
series_of-Extends old new [] ext are = refl
series_of-Extends old new (e ∷ es) ext are =
    ap₂ (λ (k : Option SegTree) (q : List Series). record { name = e.0; tree = k } ∷ q) (value_of-Extends old new e.1.tree ext are.0) (series_of-Extends old new es ext are.1)

-- the entries of a map in which the tree of a name was replaced
record GrownEntries (degree : ℕ) (old new : Places) (es after : List (List ℕ × Stored)) (name : List ℕ) (more : List ℤ) : Type 0 where
  series : series_of new after ≡ grown_series degree (series_of old es) name more
  trees : AreOf new after
  names : keys_of after ≡ keys_of es
  long : length after ≡ length es

grown-entries : (degree : ℕ) (old new : Places) (es : List (List ℕ × Stored)) (name : List ℕ) (x : Stored) (t : Tree) (more : List ℤ) → Extends old new → AreOf old es
    → lookup (same_name name) es ≡ Some x → IsTreeOf new t → value_of new t ≡ grown_tree degree (value_of old x.tree) more
    → GrownEntries degree old new es (insert_entry same_name es name (record { tree = t })) name more
grown-entries degree old new [] name x t more ext are found is grown = cc
grown-entries degree old new (e ∷ es) name x t more ext are found is grown = elim (cases_Bool (same_name name e.0)) [
  | inl here ↦
      let some : Some e.1 ≡ Some x = rw here at found in
      let same : e.1 ≡ x = cc in
      let tree : value_of new t ≡ grown_tree degree (value_of old e.1.tree) more = grown ∙ ap (λ (y : Stored). grown_tree degree (value_of old y.tree) more) (sym same) in
      record {
        series = rw here (ap₂ (λ (k : Option SegTree) (q : List Series). record { name = e.0; tree = k } ∷ q) tree (series_of-Extends old new es ext are.1));
        trees = rw here (is, AreOf-Extends old new es ext are.1);
        names = rw here refl;
        long = rw here refl;
      }
  | inr other ↦
      let rest = grown-entries degree old new es name x t more ext are.1 (rw other at found) is grown in
      record {
        series = rw other (ap₂ (λ (k : Option SegTree) (q : List Series). record { name = e.0; tree = k } ∷ q) (value_of-Extends old new e.1.tree ext are.0) rest.series);
        trees = rw other (IsTreeOf-Extends old new e.1.tree ext are.0, rest.trees);
        names = rw other (ap (λ q. e.0 ∷ q) rest.names);
        long = rw other (omega (arith, rest.long));
      }
]

-- the arena's answer for the tree of the series
pub record TreeGrows (old new : Held) (t grown : Tree) (more : List ℤ) : Type 0 where
  pub tree : IsTreeOf new.nodes grown
  pub value : value_of new.nodes grown ≡ grown_tree old.degree (value_of old.nodes t) more
  pub extends : Extends old.nodes new.nodes
  pub degree : new.degree ≡ old.degree

-- the store with the map's entries after it
abbrev pub with_entries : StoreParts → List (List ℕ × Stored) → Held → StoreParts
with_entries v entries arena = record { scale = v.scale; degree = v.degree; entries = entries; arena = arena }

entries-of : (v : StoreParts) (name : List ℕ) (x : Stored) (arena : Held) (t : Tree) (more : List ℤ) → IsSound v → Some x ≡ lookup (same_name name) v.entries → TreeGrows v.arena arena x.tree t more
    → GrownEntries v.arena.degree v.arena.nodes arena.nodes v.entries (insert_entry same_name v.entries name (record { tree = t })) name more
entries-of v name x arena t more sound found grows =
    grown-entries v.arena.degree v.arena.nodes arena.nodes v.entries name x t more grows.extends sound.trees (sym found) grows.tree grows.value

pub sound-grown : (v : StoreParts) (name : List ℕ) (x : Stored) (entries : List (List ℕ × Stored)) (arena : Held) (t : Tree) (more : List ℤ) → IsSound v
    → Some x ≡ lookup (same_name name) v.entries → entries ≡ insert_entry same_name v.entries name (record { tree = t }) → TreeGrows v.arena arena x.tree t more
    → IsSound (with_entries v entries arena)
sound-grown v name x entries arena t more sound found put grows =
    let after = entries-of v name x arena t more sound found grows in
    rw put (record {
      scale = sound.scale;
      degree = sound.degree;
      fitted = grows.degree ∙ sound.fitted;
      few = omega (arith, after.long, sound.few);
      names = rw after.names sound.names;
      trees = after.trees;
    })

pub value-grown : (v s : StoreParts) (name : List ℕ) (x : Stored) (entries : List (List ℕ × Stored)) (arena : Held) (t : Tree) (more : List ℤ) → v ≡ s → IsSound v
    → Some x ≡ lookup (same_name name) v.entries → entries ≡ insert_entry same_name v.entries name (record { tree = t }) → TreeGrows v.arena arena x.tree t more
    → store_value (with_entries v entries arena) ≡ grown_store (store_value s) name more
value-grown v s name x entries arena t more is sound found put grows =
    let after = entries-of v name x arena t more sound found grows in
    let series : series_of arena.nodes entries ≡ grown_series v.degree (series_of v.arena.nodes v.entries) name more =
    ap (series_of arena.nodes) put ∙ after.series ∙ ap (λ d. grown_series d (series_of v.arena.nodes v.entries) name more) sound.fitted in
    subst (λ p. store_value (with_entries v entries arena) ≡ grown_store (store_value p) name more) is
    (ap (λ (ss : List Series). let m : StoreValue = record { scale = v.scale; degree = v.degree; series = ss } in m) series)

-- ---- what is known where readings were added

-- the arena's answer says that there is room
pub record AppendFits (s : StoreParts) (t grown : Tree) (more : List ℤ) (nodes : Places) : Type 0 where
  pub len : grown.n ≡ t.n + length more
  pub count : used nodes ≡ used s.arena.nodes + made t.n (t.n + length more)
  pub too_long : (◌≡◌ {A = Result Tree TreeErr} (Ok grown) (Err tree.TooLong)) ↔ (2 ^ 20 < t.n + length more)
  pub full : (◌≡◌ {A = Result Tree TreeErr} (Ok grown) (Err tree.ArenaFull)) ↔ ((t.n + length more ≤ 2 ^ 20) × (s.arena.limit < used s.arena.nodes + made t.n (t.n + length more)))

-- what the store's contract says of it
pub record IsAppended (s : StoreParts) (name : List ℕ) (more : List ℤ) (n : ℕ) (nodes : Places) : Type 0 where
  pub growable : IsGrowable (store_value s) name more
  pub len : n ≡ grown_length (store_value s) name more
  pub ok : append_refusal s name more ≡ None
  pub count : used nodes ≡ used s.arena.nodes + made_in (store_value s) name more

fits-short : (s : StoreParts) (t grown : Tree) (more : List ℤ) (nodes : Places) → AppendFits s t grown more nodes → t.n + length more ≤ 2 ^ 20
fits-short s t grown more nodes h = elim (cases_lt (2 ^ 20) (t.n + length more)) [
  | inl long ↦ let wrong = h.too_long.1 long in cc
  | inr short ↦ short
]

fits-room : (s : StoreParts) (t grown : Tree) (more : List ℤ) (nodes : Places) → AppendFits s t grown more nodes → used s.arena.nodes + made t.n (t.n + length more) ≤ s.arena.limit
fits-room s t grown more nodes h = elim (cases_lt s.arena.limit (used s.arena.nodes + made t.n (t.n + length more))) [
  | inl over ↦ let wrong = h.full.1 (fits-short s t grown more nodes h, over) in cc
  | inr room ↦ room
]

appended-here : (v : StoreParts) (name : List ℕ) (t grown : Tree) (more : List ℤ) (nodes : Places) → IsThere v name t → AreReadings more → AppendFits v t grown more nodes
    → IsAppended v name more grown.n nodes
appended-here v name t grown more nodes is small h =
    let short = fits-short v t grown more nodes h in
    let room = fits-room v t grown more nodes h in
    record {
      growable = record { there = is.there; readings = small; short = rw is.long short };
      len = rw is.long h.len;
      ok = rw (is.there, is.long, isnt_above (t.n + length more) (2 ^ 20) short, isnt_above (used v.arena.nodes + made t.n (t.n + length more)) v.arena.limit room) refl;
      count = rw is.long h.count;
    }

pub appended : (v s : StoreParts) (name : List ℕ) (t grown : Tree) (more : List ℤ) (nodes : Places) → v ≡ s → IsThere v name t → AreReadings more → AppendFits v t grown more nodes
    → IsAppended s name more grown.n nodes
appended v s name t grown more nodes is there small h =
    subst (λ p. IsAppended p name more grown.n nodes) is (appended-here v name t grown more nodes there small h)

-- ---- with room for the longest series

lacking-le : (old rs : List Range) → lacking old rs ≤ length rs
lacking-le old [] = omega arith
lacking-le old (r ∷ rs) = elim (cases_Bool (is_among old r)) [
  | inl among ↦ rw among (omega (arith, lacking-le old rs))
  | inr new ↦ rw new (omega (arith, lacking-le old rs))
]

made-le : (n m : ℕ) → m ≤ 2 ^ 20 → made n m ≤ 2 ^ 17
made-le n m few = omega (arith, lacking-le (shape n) (shape m), shape-counted m)

room-none : (s : StoreParts) (name : List ℕ) (more : List ℤ) → HasRoom s → grown_length (store_value s) name more ≤ 2 ^ 20 → room_refusal s name more ≡ None
room-none s name more room short =
    let few = made-le (length (readings_named (store_value s).series name)) (grown_length (store_value s) name more) short in
    rw (isnt_above (used s.arena.nodes + made_in (store_value s) name more) s.arena.limit (omega (arith, few, room))) refl

pub growth-has-room : GrowthHasRoom
growth-has-room s name more room = elim (cases_Bool (has_name (names_in (store_value s)) name)) [
  | inl here ↦ elim (cases_lt (2 ^ 20) (grown_length (store_value s) name more)) [
    | inl long ↦ rw (here, is_above (grown_length (store_value s) name more) (2 ^ 20) long) refl
    | inr short ↦ rw (here, isnt_above (grown_length (store_value s) name more) (2 ^ 20) short) (room-none s name more room short)
  ]
  | inr absent ↦ rw absent refl
]

-- ---- refusals that are handed on

pub handed_on : {T E : Type 0} (r : Result T E) (P Q : E → Type 0) → IsErrAnd r P → ((e : E) → P e → Q e) → IfErr r Q
handed_on (Ok x) P Q h f = tt
handed_on (Err e) P Q h f = f e h
