-- The series of a store, as they are read one by one.
use Rattle.std.proofs.Common.{◌≡◌, ◌⊎◌, ℕ, ◌+◌, ◌*◌, ◌^◌, ◌≤◌, Bool, true, false, ◌||◌, if◌then◌else◌, List, [], ◌∷◌, ◌++◌, length, drop, Option, Some, None, refl, sym, ap, ap₂, subst, ◌∙◌, inl, inr, arith, append_assoc, append-nil, drop-drop, length-drop}
use Rattle.std.proofs.lemmas.List.{drop_all}
use Rattle.std.proofs.lemmas.List.Elements.{All-head, All-tail}
use Rattle.std.specs.List.{All}
use Rattle.std.specs.Map.{keys_of}
use Rattle.std.specs.Option.{option_or}
use Rattle.indexmap.specs.IndexMap.{insert_entry}
use Rattle.semantics.specs.Names.{same_name}
use Rattle.segment.specs.Tree.{SegTree}
use Rattle.seg_tree.specs.Linked.{Places, Extends, used}
use Rattle.seg_tree.specs.Trees.{IsTreeOf, value_of}
use Rattle.seg_tree.specs.declared.arena.Tree.{Tree}
use Rattle.tree_file.specs.Image.{tree_size}
use Rattle.store_file.specs.Decoded.{IsShort, names_of, trees_size, series_tree, series_in, bad_in_tree, bad_in}
use Rattle.store_file.specs.Restored.{HoldsSeries}
use Rattle.store_file.specs.StoreValue.{Series, has_name, AreNames}
use Rattle.store_file.specs.Stored.{series_of, AreOf}
use Rattle.store_file.specs.declared.decoding.StoreErr.{StoreErr}
use Rattle.store_file.specs.declared.decoding.StoreErr.TheVariants.{Memory}
use Rattle.store_file.specs.declared.header.Entry.{Entry}
use Rattle.store_file.specs.declared.store.Stored.{Stored}
use Rattle.store_file.proofs.AddedLaws.{AreOf-push, series_of-push, keys-push}

neither : (a b : Bool) → (a || b) ≡ false → (a ≡ false) × (b ≡ false)
neither true b e = cc
neither false b e = (refl, e)

-- a new name goes last
pub insert-new : (es : List (List ℕ × Stored)) (name : List ℕ) (v : Stored) → has_name (keys_of es) name ≡ false → insert_entry same_name es name v ≡ es ++ (name, v) ∷ []
insert-new [] name v new = refl
insert-new (e ∷ es) name v new =
    let (here, below) = neither (same_name name e.0) (has_name (keys_of es) name) new in
    ap (λ b. if b then (e.0, v) ∷ es else e ∷ insert_entry same_name es name v) here ∙ ap (λ q. e ∷ q) (insert-new es name v below)

-- a name differs from those before it
names-new : (seen ks : List (List ℕ)) (name : List ℕ) (ns : List (List ℕ)) → AreNames seen (ks ++ name ∷ ns) → (has_name ks name ≡ false) × (has_name seen name ≡ false)
names-new seen [] name ns are = (refl, are.1)
names-new seen (k ∷ ks) name ns are =
    let (among, before) = names-new (k ∷ seen) ks name ns are.2 in
    let (here, seen_new) = neither (same_name name k) (has_name seen name) before in
    (rw (here, among) refl, seen_new)

-- what is held of the series that are read, and what is left
pub record SoFar (nodes : Places) (stored : List (List ℕ × Stored)) (es : List Entry) (bytes : List ℕ) (i place : ℕ) : Type 0 where
  pub trees : AreOf nodes stored
  pub series : series_of nodes stored ++ series_in (drop i es) (drop place bytes) ≡ series_in es bytes
  pub names : keys_of stored ++ names_of (drop i es) ≡ names_of es
  pub good : bad_in (series_in es bytes) ≡ bad_in (series_in (drop i es) (drop place bytes))
  pub room : place + trees_size (drop i es) ≡ length bytes
  pub short : All IsShort (drop i es)
  pub few : used nodes ≤ i * 2 ^ 17

pub series-start : (nodes : Places) (stored : List (List ℕ × Stored)) (es : List Entry) (bytes : List ℕ) → nodes ≡ [] → stored ≡ [] → All IsShort es → length bytes ≡ trees_size es → SoFar nodes stored es bytes 0 0
series-start nodes stored es bytes no_nodes no_series short room = rw (no_nodes, no_series) (record {
  trees = tt;
  series = refl;
  names = refl;
  good = refl;
  room = omega (arith, room);
  short = short;
  few = omega arith;
})

-- what is known of the next entry
pub record IsNext (nodes : Places) (stored : List (List ℕ × Stored)) (e : Entry) (bytes : List ℕ) (place : ℕ) : Type 0 where
  pub short : e.n ≤ 2 ^ 20
  pub room : tree_size e.n ≤ length (drop place bytes)
  pub new : has_name (keys_of stored) e.name ≡ false

pub series-next : (nodes : Places) (stored : List (List ℕ × Stored)) (es : List Entry) (bytes : List ℕ) (i place : ℕ) (e : Entry) → AreNames [] (names_of es) → drop i es ≡ e ∷ drop (i + 1) es → SoFar nodes stored es bytes i place
    → IsNext nodes stored e bytes place
series-next nodes stored es bytes i place e names next far =
    let size = ap trees_size next in
    record {
      short = All-head IsShort e (drop (i + 1) es) (subst (All IsShort) next far.short);
      room = omega (arith, far.room, size, length-drop place bytes);
      new = (names-new [] (keys_of stored) e.name (names_of (drop (i + 1) es)) (subst (AreNames []) (sym far.names ∙ ap (λ q. keys_of stored ++ names_of q) next) names)).0;
    }

-- a refusal of the next tree is the first one
pub series-bad : (nodes : Places) (stored : List (List ℕ × Stored)) (es : List Entry) (bytes : List ℕ) (i place : ℕ) (e : Entry) (error : StoreErr) → drop i es ≡ e ∷ drop (i + 1) es → SoFar nodes stored es bytes i place
    → (error ≡ Memory) ⊎ (bad_in_tree e.name (series_tree e.n (drop place bytes)) ≡ Some error) → (error ≡ Memory) ⊎ (bad_in (series_in es bytes) ≡ Some error)
series-bad nodes stored es bytes i place e error next far (inl memory) = inl memory
series-bad nodes stored es bytes i place e error next far (inr bad) =
    inr (far.good ∙ ap (λ q. bad_in (series_in q (drop place bytes))) next ∙ ap (λ o. option_or o (bad_in (series_in (drop (i + 1) es) (drop (tree_size e.n) (drop place bytes))))) bad)

-- one more series
pub series-step : (old new : Places) (stored grown : List (List ℕ × Stored)) (es : List Entry) (bytes : List ℕ) (i place : ℕ) (e : Entry) (t : Tree) → drop i es ≡ e ∷ drop (i + 1) es → SoFar old stored es bytes i place
    → Extends old new → IsTreeOf new t → value_of new t ≡ series_tree e.n (drop place bytes) → bad_in_tree e.name (series_tree e.n (drop place bytes)) ≡ None → used new ≤ used old + 2 ^ 17
    → grown ≡ stored ++ (e.name, record { tree = t }) ∷ [] → SoFar new grown es bytes (i + 1) (place + tree_size e.n)
series-step old new stored grown es bytes i place e t next far extends tree value good few put =
    let rest = drop (i + 1) es in
    let behind : drop (place + tree_size e.n) bytes ≡ drop (tree_size e.n) (drop place bytes) = sym (drop-drop (tree_size e.n) place bytes) in
    let s : Series = record { name = e.name; tree = series_tree e.n (drop place bytes) } in
    let v : Stored = record { tree = t } in
    rw put (record {
      trees = AreOf-push old new stored e.name t extends far.trees tree;
      series = ap₂ ◌++◌ (series_of-push old new stored e.name t extends far.trees ∙ ap (λ (k : Option SegTree). let q : Series = record { name = e.name; tree = k } in series_of old stored ++ q ∷ []) value) (ap (series_in rest) behind)
          ∙ append_assoc (series_of old stored) (s ∷ []) (series_in rest (drop (tree_size e.n) (drop place bytes)))
          ∙ ap (λ q. series_of old stored ++ series_in q (drop place bytes)) (sym next) ∙ far.series;
      names = ap (λ q. q ++ names_of rest) (keys-push stored e.name v) ∙ append_assoc (keys_of stored) (e.name ∷ []) (names_of rest) ∙ ap (λ q. keys_of stored ++ names_of q) (sym next) ∙ far.names;
      good = far.good ∙ ap (λ q. bad_in (series_in q (drop place bytes))) next ∙ ap (λ o. option_or o (bad_in (series_in rest (drop (tree_size e.n) (drop place bytes))))) good ∙ ap (λ q. bad_in (series_in rest q)) (sym behind);
      room = omega (arith, far.room, ap trees_size next);
      short = All-tail IsShort e rest (subst (All IsShort) next far.short);
      few = omega (arith, few, far.few);
    })

pub series-end : (nodes : Places) (stored : List (List ℕ × Stored)) (es : List Entry) (bytes : List ℕ) (i place : ℕ) → length es ≤ i → SoFar nodes stored es bytes i place → HoldsSeries nodes stored es bytes
series-end nodes stored es bytes i place past far =
    let none : drop i es ≡ [] = drop_all i es past in
    record {
      series = sym (append-nil (series_of nodes stored)) ∙ ap (λ q. series_of nodes stored ++ series_in q (drop place bytes)) (sym none) ∙ far.series;
      trees = far.trees;
      names = sym (append-nil (keys_of stored)) ∙ ap (λ q. keys_of stored ++ names_of q) (sym none) ∙ far.names;
      good = far.good ∙ ap (λ q. bad_in (series_in q (drop place bytes))) none;
    }
