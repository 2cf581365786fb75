-- A store with one more series.
use Rattle.std.proofs.Common.{◌≡◌, ◌⊎◌, ◌↔◌, ℕ, ◌+◌, ◌<◌, ◌≤◌, ◌^◌, Bool, true, false, nat_le, nat_lt, if◌then◌else◌, ℤ, List, [], ◌∷◌, ◌++◌, length, map, Option, Some, None, Result, Err, is_some, refl, sym, ap, ap₂, subst, ◌∙◌, inl, inr, arith, length-append}
use Rattle.std.specs.Prelude.{◌||◌}
use Rattle.std.specs.Map.{lookup, keys_of}
use Rattle.std.specs.Option.{option_or}
use Rattle.std.proofs.lemmas.Bool.Decides.{nat_tests}
use Rattle.std.proofs.lemmas.Map.Made.{is_some-lookup}
use Rattle.indexmap.specs.IndexMap.{IndexMap, insert_entry}
use Rattle.indexmap.proofs.CallerLemmas.{insert_entry-new}
use Rattle.semantics.specs.Names.{is_name, same_name}
use Rattle.segment.specs.Measure.{AreReadings}
use Rattle.segment.specs.Nodes.{IsSeriesTree}
use Rattle.segment.specs.Shape.{node_count}
use Rattle.segment.specs.Tree.{SegTree, fitted_series}
use Rattle.segment.proofs.TreeLaws.{fitted-is, all_readings-fitted_series}
use Rattle.seg_tree.specs.Held.{Held}
use Rattle.seg_tree.specs.Linked.{Places, Extends, used}
use Rattle.seg_tree.specs.Trees.{IsTreeOf, value_of}
use Rattle.seg_tree.specs.declared.arena.Tree.{Tree}
use Rattle.seg_tree.specs.declared.arena.TreeErr.{TreeErr}
use Rattle.seg_tree.specs.declared.arena.TreeErr.TheVariants as tree
use Rattle.seg_tree.proofs.Extended.{value_of-Extends, IsTreeOf-Extends}
use Rattle.store_file.specs.StoreValue.{Series, AreNames, EachTree, count_of, has_name, name_of}
use Rattle.store_file.specs.Stored.{series_of, AreOf, StoreParts, IsSound, store_value}
use Rattle.store_file.specs.Added.{names_in, with_series, name_refusal, readings_refusal, add_refusal, series_err_of, AddingKeepsStores, RoomIsEnough}
use Rattle.store_file.specs.declared.adding.SeriesErr.{SeriesErr}
use Rattle.store_file.specs.declared.adding.SeriesErr.TheVariants as refusal
use Rattle.store_file.specs.declared.store.Stored.{Stored}
use Rattle.store_file.proofs.StoredLaws.{names-series, length-series}

-- ---- names

no_part : (a b : Bool) → (a || b) ≡ false → (a ≡ false) × (b ≡ false)
no_part true b h = cc
no_part false b h = (refl, h)

new_also : (a b : Bool) → a ≡ false → b ≡ false → (a || b) ≡ false
new_also a b first second = rw first second

pub AreNames-push : (seen ns : List (List ℕ)) (name : List ℕ) → AreNames seen ns → is_name name ≡ true → has_name seen name ≡ false → has_name ns name ≡ false
    → AreNames seen (ns ++ name ∷ [])
AreNames-push seen [] name are is unseen new = (is, unseen, tt)
AreNames-push seen (n ∷ ns) name are is unseen new =
    let parts = no_part (same_name name n) (has_name ns name) new in
    (are.0, are.1, AreNames-push (n ∷ seen) ns name are.2 is (new_also (same_name name n) (has_name seen name) parts.0 unseen) parts.1)

names-push : (ss : List Series) (s : Series) → map name_of (ss ++ s ∷ []) ≡ map name_of ss ++ s.name ∷ []
names-push [] s = refl
names-push (x ∷ ss) s = ap (λ q. x.name ∷ q) (names-push ss s)

-- ---- the value

EachTree-push : (ss : List Series) (s : Series) → EachTree ss → IsSeriesTree (count_of s) s.tree → EachTree (ss ++ s ∷ [])
EachTree-push [] s each is = (is, tt)
EachTree-push (x ∷ ss) s each is = (each.0, EachTree-push ss s each.1 is)

fitted-series : (degree : ℕ) (xs : List ℤ) → AreReadings xs → length xs ≤ 2 ^ 20 → IsSeriesTree (length xs) (fitted_series degree xs)
fitted-series degree [] readings short = refl
fitted-series degree (x ∷ xs) readings short = fitted-is degree (x ∷ xs) (omega arith) short readings

-- with one more series it is a store again
pub adding-keeps : AddingKeepsStores
adding-keeps m name xs is can =
    let s : Series = record { name = name; tree = fitted_series m.degree xs } in
    let count : count_of s ≡ length xs = ap length (all_readings-fitted_series m.degree xs) in
    record {
      scale = is.scale;
      degree = is.degree;
      few = omega (arith, length-append m.series (s ∷ []), can.few);
      names = rw (names-push m.series s) (AreNames-push [] (map name_of m.series) name is.names can.spelled refl can.new);
      trees = EachTree-push m.series s is.trees (rw count (fitted-series m.degree xs can.readings can.short));
    }

-- ---- refusals

at_least_16 : (n : ℕ) → 16 ≤ n → nat_le 16 n ≡ true
at_least_16 n h = grind (arith, nat_tests)

below_16 : (n : ℕ) → n < 16 → nat_le 16 n ≡ false
below_16 n h = grind (arith, nat_tests)

not_16 : (n : ℕ) → nat_le 16 n ≡ false → n < 16
not_16 n h = grind (arith, nat_tests)

is_above : (a b : ℕ) → b < a → nat_lt b a ≡ true
is_above a b h = grind (arith, nat_tests)

isnt_above : (a b : ℕ) → a ≤ b → nat_lt b a ≡ false
isnt_above a b h = grind (arith, nat_tests)

-- a name is among the entries where it is one of the store
pub there : (s : StoreParts) (name : List ℕ) → is_some (lookup (same_name name) s.entries) ≡ has_name (names_in (store_value s)) name
there s name = is_some-lookup (same_name name) s.entries ∙ ap (λ ns. has_name ns name) (sym (names-series s.arena.nodes s.entries))

pub name_refusal-there : (v s : StoreParts) (name : List ℕ) → v ≡ s → is_some (lookup (same_name name) v.entries) ≡ true → Some refusal.Exists ≡ name_refusal (store_value s) name
name_refusal-there v s name is found = subst (λ p. Some refusal.Exists ≡ name_refusal (store_value p) name) is (rw (sym (there v name) ∙ found) refl)

pub name_refusal-many : (v s : StoreParts) (name : List ℕ) → v ≡ s → is_some (lookup (same_name name) v.entries) ≡ false → 16 ≤ length v.entries → Some refusal.TooMany ≡ name_refusal (store_value s) name
name_refusal-many v s name is absent many =
    let long : nat_le 16 (length (store_value v).series) ≡ true = rw (length-series v.arena.nodes v.entries) (at_least_16 (length v.entries) many) in
    subst (λ p. Some refusal.TooMany ≡ name_refusal (store_value p) name) is (rw (sym (there v name) ∙ absent, long) refl)

pub name_refusal-none : (v s : StoreParts) (name : List ℕ) → v ≡ s → is_some (lookup (same_name name) v.entries) ≡ false → length v.entries < 16 → None ≡ name_refusal (store_value s) name
name_refusal-none v s name is absent few =
    let short : nat_le 16 (length (store_value v).series) ≡ false = rw (length-series v.arena.nodes v.entries) (below_16 (length v.entries) few) in
    subst (λ p. None ≡ name_refusal (store_value p) name) is (rw (sym (there v name) ∙ absent, short) refl)

-- where no name refuses, the name is new and there are fewer than 16 series
pub record IsNewName (s : StoreParts) (name : List ℕ) : Type 0 where
  pub absent : has_name (names_in (store_value s)) name ≡ false
  pub few : length (store_value s).series < 16

pub name_refusal-passed : (s : StoreParts) (name : List ℕ) → None ≡ name_refusal (store_value s) name → IsNewName s name
name_refusal-passed s name h = by (has_name (names_in (store_value s)) name) (nat_le 16 (length (store_value s).series)) refl refl h
  where
    by : (a b : Bool) → has_name (names_in (store_value s)) name ≡ a → nat_le 16 (length (store_value s).series) ≡ b
        → None ≡ (if a then Some refusal.Exists else (if b then Some refusal.TooMany else None)) → IsNewName s name
    by true b first second h = cc
    by false true first second h = cc
    by false false first second h = record { absent = first; few = not_16 (length (store_value s).series) second }

pub add_refusal-name : (s : StoreParts) (name : List ℕ) (xs : List ℤ) (e : SeriesErr) → Some e ≡ name_refusal (store_value s) name → add_refusal s name xs ≡ Some e
add_refusal-name s name xs e h = ap (λ o. option_or o (readings_refusal s xs)) (sym h)

pub add_refusal-readings : (s : StoreParts) (name : List ℕ) (xs : List ℤ) → None ≡ name_refusal (store_value s) name → add_refusal s name xs ≡ readings_refusal s xs
add_refusal-readings s name xs h = ap (λ o. option_or o (readings_refusal s xs)) (sym h)

-- what an arena's answer says of a store's refusal
pub record BuildRefuses (s : StoreParts) (xs : List ℤ) (e : TreeErr) : Type 0 where
  pub too_long : (◌≡◌ {A = Result Tree TreeErr} (Err e) (Err tree.TooLong)) ↔ (2 ^ 20 < length xs)
  pub full : (◌≡◌ {A = Result Tree TreeErr} (Err e) (Err tree.ArenaFull)) ↔ ((length xs ≤ 2 ^ 20) × (s.arena.limit < used s.arena.nodes + node_count (length xs)))

readings_refusal-built : (s : StoreParts) (xs : List ℤ) (e : TreeErr) → BuildRefuses s xs e → (series_err_of e ≡ refusal.Memory) ⊎ (readings_refusal s xs ≡ Some (series_err_of e))
readings_refusal-built s xs tree.TooLong h = inr (rw (is_above (length xs) (2 ^ 20) (h.too_long.0 refl)) refl)
readings_refusal-built s xs tree.ArenaFull h =
    let (short, over) = h.full.0 refl in
    inr (rw (isnt_above (length xs) (2 ^ 20) short, is_above (used s.arena.nodes + node_count (length xs)) s.arena.limit over) refl)
readings_refusal-built s xs tree.Memory h = inl refl

pub add_refusal-built : (s : StoreParts) (name : List ℕ) (xs : List ℤ) (e : TreeErr) → None ≡ name_refusal (store_value s) name → BuildRefuses s xs e
    → (series_err_of e ≡ refusal.Memory) ⊎ (add_refusal s name xs ≡ Some (series_err_of e))
add_refusal-built s name xs e new h = rw (add_refusal-readings s name xs new) (readings_refusal-built s xs e h)

pub readings_refusal-none : (s : StoreParts) (xs : List ℤ) → length xs ≤ 2 ^ 20 → used s.arena.nodes + node_count (length xs) ≤ s.arena.limit → readings_refusal s xs ≡ None
readings_refusal-none s xs short room = rw (isnt_above (length xs) (2 ^ 20) short, isnt_above (used s.arena.nodes + node_count (length xs)) s.arena.limit room) refl

nodes_few : (n : ℕ) → n ≤ 2 ^ 20 → node_count n ≤ 2 ^ 17
nodes_few n h = omega arith

pub room-is-enough : RoomIsEnough
room-is-enough s name xs room short =
    let none = readings_refusal-none s xs short (omega (arith, nodes_few (length xs) short, room)) in
    rw none (first (name_refusal (store_value s) name))
  where
    first : (o : Option SeriesErr) → option_or o None ≡ o
    first None = refl
    first (Some e) = refl

-- ---- what is stored

pub AreOf-push : (old new : Places) (es : List (List ℕ × Stored)) (name : List ℕ) (t : Tree) → Extends old new → AreOf old es → IsTreeOf new t
    → AreOf new (es ++ (name, record { tree = t }) ∷ [])
AreOf-push old new [] name t ext are is = (is, tt)
AreOf-push old new (e ∷ es) name t ext are is = (IsTreeOf-Extends old new e.1.tree ext are.0, AreOf-push old new es name t ext are.1 is)

pub series_of-push : (old new : Places) (es : List (List ℕ × Stored)) (name : List ℕ) (t : Tree) → Extends old new → AreOf old es
    → series_of new (es ++ (name, record { tree = t }) ∷ []) ≡ series_of old es ++ record { name = name; tree = value_of new t } ∷ []
series_of-push old new [] name t ext are = refl
series_of-push old new (e ∷ es) name t ext are =
    ap₂ (λ (k : Option SegTree) (q : List Series). record { name = e.0; tree = k } ∷ q) (value_of-Extends old new e.1.tree ext are.0) (series_of-push old new es name t ext are.1)

pub keys-push : (es : List (List ℕ × Stored)) (name : List ℕ) (v : Stored) → keys_of (es ++ (name, v) ∷ []) ≡ keys_of es ++ name ∷ []
keys-push [] name v = refl
keys-push (e ∷ es) name v = ap (λ q. e.0 ∷ q) (keys-push es name v)

-- what stays and what is new where a series is added
pub record IsAdded (v n : StoreParts) (name : List ℕ) (t : Tree) : Type 0 where
  pub scale : n.scale ≡ v.scale
  pub degree : n.degree ≡ v.degree
  pub fitted : n.arena.degree ≡ v.arena.degree
  pub extends : Extends v.arena.nodes n.arena.nodes
  pub entries : n.entries ≡ v.entries ++ (name, record { tree = t }) ∷ []
  pub tree : IsTreeOf n.arena.nodes t

pub sound-added : (v s n : StoreParts) (name : List ℕ) (t : Tree) → v ≡ s → IsSound v → is_name name ≡ true → None ≡ name_refusal (store_value s) name → IsAdded v n name t → IsSound n
sound-added v s n name t is sound spelled new add =
    let passed : IsNewName v name = subst (λ p. IsNewName p name) (sym is) (name_refusal-passed s name new) in
    let absent : has_name (keys_of v.entries) name ≡ false = ap (λ ns. has_name ns name) (sym (names-series v.arena.nodes v.entries)) ∙ passed.absent in
    record {
      scale = rw add.scale sound.scale;
      degree = rw add.degree sound.degree;
      fitted = add.fitted ∙ sound.fitted ∙ sym add.degree;
      few = rw add.entries (omega (arith, length-append v.entries ((name, record { tree = t }) ∷ []), length-series v.arena.nodes v.entries, passed.few));
      names = rw add.entries (rw (keys-push v.entries name (record { tree = t })) (AreNames-push [] (keys_of v.entries) name sound.names spelled refl absent));
      trees = rw add.entries (AreOf-push v.arena.nodes n.arena.nodes v.entries name t add.extends sound.trees add.tree);
    }

-- the value with one more series
pub value-added : (v s n : StoreParts) (name : List ℕ) (xs : List ℤ) (t : Tree) → v ≡ s → IsSound v → IsAdded v n name t
    → value_of n.arena.nodes t ≡ fitted_series v.arena.degree xs → store_value n ≡ with_series (store_value s) name xs
value-added v s n name xs t is sound add built =
    let tree : value_of n.arena.nodes t ≡ fitted_series v.degree xs = built ∙ ap (λ k. fitted_series k xs) sound.fitted in
    let all : series_of n.arena.nodes n.entries ≡ series_of v.arena.nodes v.entries ++ record { name = name; tree = fitted_series v.degree xs } ∷ [] =
    ap (series_of n.arena.nodes) add.entries ∙ series_of-push v.arena.nodes n.arena.nodes v.entries name t add.extends sound.trees
    ∙ ap (λ (k : Option SegTree). series_of v.arena.nodes v.entries ++ record { name = name; tree = k } ∷ []) tree in
    subst (λ p. store_value n ≡ with_series (store_value p) name xs) is (rw (add.scale, add.degree, all) refl)

-- a name that no entry has
pub absent-entry : (v s : StoreParts) (name : List ℕ) → v ≡ s → None ≡ name_refusal (store_value s) name → lookup (same_name name) v.entries ≡ None
absent-entry v s name is new =
    let passed : IsNewName v name = subst (λ p. IsNewName p name) (sym is) (name_refusal-passed s name new) in
    none_of (lookup (same_name name) v.entries) (there v name ∙ passed.absent)
  where
    none_of : {T : Type 0} (o : Option T) → is_some o ≡ false → o ≡ None
    none_of None e = refl
    none_of (Some x) e = cc

-- the parts after an insert of a new name, into a map that has made room
pub inserted : {S : Type 0} (v s : StoreParts) (map : IndexMap (List ℕ) Stored S) (entries : List (List ℕ × Stored)) (arena : Held) (name : List ℕ) (t : Tree)
    → v ≡ s → None ≡ name_refusal (store_value s) name → map.entries ≡ v.entries → entries ≡ insert_entry same_name map.entries name (record { tree = t })
    → arena.degree ≡ v.arena.degree → Extends v.arena.nodes arena.nodes → IsTreeOf arena.nodes t → IsAdded v (record { scale = v.scale; degree = v.degree; entries = entries; arena = arena }) name t
inserted v s map entries arena name t is new kept put degree extends tree =
    let stored : Stored = record { tree = t } in
    let absent : lookup (same_name name) map.entries ≡ None = rw kept (absent-entry v s name is new) in
    record {
      scale = refl;
      degree = refl;
      fitted = degree;
      extends = extends;
      entries = put ∙ insert_entry-new same_name map name stored absent ∙ ap (λ (es : List (List ℕ × Stored)). es ++ (name, stored) ∷ []) kept;
      tree = tree;
    }
