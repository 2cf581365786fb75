-- Bytes decode exactly where they are those of a store, and then to that one.
use Rattle.std.proofs.Common.{◌≡◌, ◌⊎◌, ℕ, zero, suc, ◌+◌, ◌^◌, ◌<◌, ◌≤◌, Bool, true, false, not, ◌==◌, ◌&&◌, nat_lt, nat_le, if◌then◌else◌, List, [], ◌∷◌, ◌++◌, length, map, take, drop, Option, Some, None, Result, Ok, Err, refl, sym, ap, ap₂, subst, ◌∙◌, inl, inr, arith, true≢false, take-append-drop, length-append, length-drop, append_assoc, append-nil, drop-cons, take_all, take-add, drop-drop}
use Rattle.std.specs.Prelude.{codes, MatchResult, IfOk, IfErr}
use Rattle.std.proofs.lemmas.Bool.Decides.{nat_tests, Decides-eqb}
use Rattle.std.proofs.lemmas.List.{length-take-le, drop_all}
use Rattle.std.proofs.lemmas.List.Elements.{All-cons, All-nil, All-head, All-tail}
use Rattle.std.specs.List.{All}
use Rattle.std.specs.Option.{option_or}
use lib.Pointwise.{bytes_decides}
use Rattle.semantics.specs.Names.{is_name, same_name}
use Rattle.segment.specs.Nodes.{IsSeriesTree}
use Rattle.segment.specs.Shape.{plan}
use Rattle.segment.specs.Tree.{SegTree}
use Rattle.tree_file.specs.Bytes.{IsBytes, bytes_of, number_of}
use Rattle.tree_file.specs.Image.{image, tree_size}
use Rattle.tree_file.proofs.Digits.{bytes_of-number_of, drop_bytes, take_bytes}
use Rattle.tree_file.proofs.ImageLaws.{take_front, drop_front, image_part}
use Rattle.tree_file.proofs.RecordLaws.{length-bytes_of}
use Rattle.tree_file.proofs.TrueTrees.{tree-read, tree-size}
use Rattle.store_file.specs.Decoded.{entry_size, first_entry, if_new, before, with_entry, entries_in, names_of, IsShort, entries_size, trees_size, series_tree, series_in, bad_in_tree, bad_in, header_size, store_with, by_nodes, by_series, by_entries, by_fixed, decode_of}
use Rattle.store_file.specs.Header.{byte_at, fixed_of, is_entry, entry_of}
use Rattle.store_file.specs.StoreValue.{Series, StoreValue, count_of, name_of, has_name, AreNames, EachTree, IsStoreValue, entry_bytes, entries_bytes, tree_image, trees_image, fixed_bytes, header_of, store_image}
use Rattle.store_file.specs.Stored.{StoreParts, store_value}
use Rattle.store_file.specs.declared.header.Fixed.{Fixed}
use Rattle.store_file.specs.declared.header.Entry.{Entry}
use Rattle.store_file.specs.declared.decoding.StoreErr.{StoreErr}
use Rattle.store_file.specs.declared.decoding.StoreErr.TheVariants.{NotAStore, Memory}
use Rattle.store_file.proofs.HeaderLaws.{fixed-read, entry-read}
use Rattle.store_file.proofs.TruthLaws.{length-series_tree, series-good, tree-good}

-- ---- tests

not_below : (a b : ℕ) → b ≤ a → nat_lt a b ≡ false
not_below a b h = grind (arith, nat_tests)

at_least : (a b : ℕ) → nat_lt a b ≡ false → b ≤ a
at_least a b e = grind (arith, nat_tests)

le_of : (a b : ℕ) → nat_le a b ≡ true → a ≤ b
le_of a b e = grind (arith, nat_tests)

both : (a b : Bool) → a && b ≡ true → (a ≡ true) × (b ≡ true)
both true b e = (refl, e)
both false b e = absurd (true≢false (sym e))

isnt : (b : Bool) → not b ≡ false → b ≡ true
isnt true e = refl
isnt false e = cc

past : {A E : Type 0} (b : Bool) (r : Result A E) (x : E) (m : A) → (if b then Err x else r) ≡ Ok m → (b ≡ false) × (r ≡ Ok m)
past true r x m e = cc
past false r x m e = (refl, e)

tested : {A E : Type 0} (b : Bool) (r : Result A E) (x : E) (m : A) → (if b then r else Err x) ≡ Ok m → (b ≡ true) × (r ≡ Ok m)
tested true r x m e = (refl, e)
tested false r x m e = cc

chosen : {A : Type 0} (b : Bool) (x y : A) → (if b then Some x else None) ≡ Some y → (b ≡ true) × (x ≡ y)
chosen true x y e = (refl, cc)
chosen false x y e = cc

-- ---- the fixed part

last_four : (bytes : List ℕ) → length bytes ≡ 8 → drop 4 bytes ≡ byte_at bytes 4 ∷ byte_at bytes 5 ∷ byte_at bytes 6 ∷ byte_at bytes 7 ∷ []
last_four bytes len =
    drop-cons bytes 4 0 (omega arith) ∙ ap (λ k. byte_at bytes 4 ∷ k) (
    drop-cons bytes 5 0 (omega arith) ∙ ap (λ k. byte_at bytes 5 ∷ k) (
    drop-cons bytes 6 0 (omega arith) ∙ ap (λ k. byte_at bytes 6 ∷ k) (
    drop-cons bytes 7 0 (omega arith) ∙ ap (λ k. byte_at bytes 7 ∷ k) (drop_all 8 bytes (omega arith)))))

-- bytes that are a fixed part
pub record IsFixed (bytes : List ℕ) (f : Fixed) : Type 0 where
  pub written : bytes ≡ fixed_bytes f.scale f.degree f.count
  pub scale : f.scale ≤ 6
  pub degree : f.degree ≤ 2
  pub count : f.count ≤ 16

pub fixed-written : (bytes : List ℕ) (f : Fixed) → length bytes ≡ 8 → fixed_of bytes ≡ Ok f → IsFixed bytes f
fixed-written bytes f len e =
    let (magic, e1) = past (not (same_name (take 4 bytes) (codes "PLAT"))) _ 0 f e in
    let (version, e2) = past (not (byte_at bytes 4 == 1)) _ 4 f e1 in
    let (scale, e3) = past (nat_lt 6 (byte_at bytes 5)) _ 5 f e2 in
    let (degree, e4) = past (nat_lt 2 (byte_at bytes 6)) _ 6 f e3 in
    let (count, e5) = past (nat_lt 16 (byte_at bytes 7)) _ 7 f e4 in
    let x : record { version = byte_at bytes 4; scale = byte_at bytes 5; degree = byte_at bytes 6; count = byte_at bytes 7 } ≡ f = cc in
    let front : take 4 bytes ≡ codes "PLAT" = (bytes_decides (take 4 bytes) (codes "PLAT")).0 (isnt (same_name (take 4 bytes) (codes "PLAT")) magic) in
    let one : byte_at bytes 4 ≡ 1 = (Decides-eqb (byte_at bytes 4) 1).0 (isnt (byte_at bytes 4 == 1) version) in
    let whole : bytes ≡ fixed_bytes (byte_at bytes 5) (byte_at bytes 6) (byte_at bytes 7) =
    sym (take-append-drop 4 bytes) ∙ ap₂ ◌++◌ front (last_four bytes len ∙ ap (λ v. v ∷ byte_at bytes 5 ∷ byte_at bytes 6 ∷ byte_at bytes 7 ∷ []) one) in
    subst (IsFixed bytes) x (record {
      written = whole;
      scale = at_least 6 (byte_at bytes 5) scale;
      degree = at_least 2 (byte_at bytes 6) degree;
      count = at_least 16 (byte_at bytes 7) count;
    })

-- ---- an entry

first_entry-read : (name : List ℕ) (n : ℕ) (rest : List ℕ) → is_name name ≡ true → n ≤ 2 ^ 20
    → first_entry (entry_bytes name n ++ rest) ≡ Some (record { name = name; n = n })
first_entry-read name n rest named few =
    let r : List ℕ = name ++ bytes_of 4 n in
    let long : length r ≡ length name + 4 = omega (arith, length-append name (bytes_of 4 n), length-bytes_of 4 n) in
    ap (λ k. entry_of (length name ∷ k)) (take_front r rest (length name + 4) long) ∙ entry-read name n named few

record EntryParts (k : ℕ) (r : List ℕ) (e : Entry) : Type 0 where
  name : is_name e.name ≡ true
  few : e.n ≤ 2 ^ 20
  written : entry_bytes e.name e.n ≡ k ∷ r
  size : entry_size e ≡ k + 5

entry_parts : (k : ℕ) (r : List ℕ) (e : Entry) → IsBytes r → entry_of (k ∷ r) ≡ Some e → EntryParts k r e
entry_parts k r e are h =
    let (test, x) = chosen (is_entry k r) (record { name = take k r; n = number_of 4 (drop k r) }) e h in
    let (len, more) = both (length r == k + 4) _ test in
    let (named, few) = both (is_name (take k r)) _ more in
    let long : length r ≡ k + 4 = (Decides-eqb (length r) (k + 4)).0 len in
    let front : length (take k r) ≡ k = length-take-le k r (omega (arith, long)) in
    let back : length (drop k r) ≡ 4 = omega (arith, length-drop k r, long) in
    let number : bytes_of 4 (number_of 4 (drop k r)) ≡ drop k r =
    bytes_of-number_of 4 (drop k r) (omega (arith, back)) (drop_bytes k r are) ∙ take_all 4 (drop k r) (omega (arith, back)) in
    subst (EntryParts k r) x (record {
      name = named;
      few = le_of (number_of 4 (drop k r)) (2 ^ 20) few;
      written = ap₂ (λ (a : ℕ) (b : List ℕ). a ∷ b) front (ap (λ b. take k r ++ b) number ∙ take-append-drop k r);
      size = omega (arith, front);
    })

-- bytes that begin with an entry
record BeginsWith (bytes : List ℕ) (e : Entry) : Type 0 where
  name : is_name e.name ≡ true
  few : e.n ≤ 2 ^ 20
  written : entry_bytes e.name e.n ++ drop (entry_size e) bytes ≡ bytes

first_entry-written : (bytes : List ℕ) (e : Entry) → IsBytes bytes → first_entry bytes ≡ Some e → BeginsWith bytes e
first_entry-written [] e are h = cc
first_entry-written (k ∷ rest) e are h =
    let r : List ℕ = take (k + 4) rest in
    let parts = entry_parts k r e (take_bytes (k + 4) rest (λ i. are (suc i))) h in
    let size : entry_size e ≡ suc (k + 4) = omega (arith, parts.size) in
    record {
      name = parts.name;
      few = parts.few;
      written = ap₂ ◌++◌ parts.written (ap (λ n. drop n (k ∷ rest)) size) ∙ ap (λ q. k ∷ q) (take-append-drop (k + 4) rest);
    }

-- ---- all entries

-- the entries of series
abbrev entries_of : List Series → List Entry
entries_of [] = []
entries_of (s ∷ ss) = record { name = s.name; n = count_of s } ∷ entries_of ss

few-series : (n : ℕ) (t : Option SegTree) → IsSeriesTree n t → n ≤ 2 ^ 20
few-series n None h = omega (arith, h)
few-series n (Some t) h = h.few

length-entry_bytes : (name : List ℕ) (n : ℕ) → length (entry_bytes name n) ≡ length name + 5
length-entry_bytes name n = omega (arith, length-append name (bytes_of 4 n), length-bytes_of 4 n)

entries-read : (ss : List Series) (place : ℕ) (seen : List (List ℕ)) (rest : List ℕ) → EachTree ss → AreNames seen (map name_of ss)
    → entries_in (length ss) place seen (entries_bytes ss ++ rest) ≡ Ok (entries_of ss)
entries-read [] place seen rest each names = refl
entries-read (s ∷ ss) place seen rest each names =
    let e : Entry = record { name = s.name; n = count_of s } in
    let split = append_assoc (entry_bytes s.name (count_of s)) (entries_bytes ss) rest in
    let first = ap first_entry split ∙ first_entry-read s.name (count_of s) (entries_bytes ss ++ rest) names.0 (few-series (count_of s) s.tree each.0) in
    let more = ap (drop (length s.name + 5)) split ∙ drop_front (entry_bytes s.name (count_of s)) (entries_bytes ss ++ rest) (length s.name + 5) (length-entry_bytes s.name (count_of s)) in
    rw (first, names.1, more, entries-read ss (place + entry_size e) (s.name ∷ seen) rest each.1 names.2) refl

abbrev entry_list_bytes : List Entry → List ℕ
entry_list_bytes [] = []
entry_list_bytes (e ∷ es) = entry_bytes e.name e.n ++ entry_list_bytes es

pub record AreEntries (k : ℕ) (seen : List (List ℕ)) (bytes : List ℕ) (es : List Entry) : Type 0 where
  pub count : length es ≡ k
  pub names : AreNames seen (names_of es)
  pub short : All IsShort es
  pub written : entry_list_bytes es ++ drop (entries_size es) bytes ≡ bytes

opened_by : (e : Entry) (b : Bool) (place : ℕ) (f : Entry → Result (List Entry) ℕ) (es : List Entry)
    → with_entry place f (if b then None else Some e) ≡ Ok es → (b ≡ false) × (before e (f e) ≡ Ok es)
opened_by e true place f es h = cc
opened_by e false place f es h = (refl, h)

opened : (seen : List (List ℕ)) (o : Option Entry) (place : ℕ) (f : Entry → Result (List Entry) ℕ) (es : List Entry) → with_entry place f (if_new seen o) ≡ Ok es
    → (e : Entry) × (o ≡ Some e) × (has_name seen e.name ≡ false) × (before e (f e) ≡ Ok es)
opened seen None place f es h = cc
opened seen (Some e) place f es h = let (new, more) = opened_by e (has_name seen e.name) place f es h in (e, refl, new, more)

rest_of : (e : Entry) (r : Result (List Entry) ℕ) (es : List Entry) → before e r ≡ Ok es → (ds : List Entry) × (r ≡ Ok ds) × (es ≡ e ∷ ds)
rest_of e (Ok ds) es h = (ds, refl, cc)
rest_of e (Err p) es h = cc

pub entries-written : (k place : ℕ) (seen : List (List ℕ)) (bytes : List ℕ) (es : List Entry) → IsBytes bytes → entries_in k place seen bytes ≡ Ok es → AreEntries k seen bytes es
entries-written zero place seen bytes es are h =
    let x : [] ≡ es = cc in
    subst (AreEntries zero seen bytes) x (record { count = refl; names = tt; short = All-nil IsShort; written = refl })
entries-written (suc k) place seen bytes es are h =
    let (e, first, new, more) = opened seen (first_entry bytes) place (λ e. entries_in k (place + entry_size e) (e.name ∷ seen) (drop (entry_size e) bytes)) es h in
    let (ds, rest, x) = rest_of e (entries_in k (place + entry_size e) (e.name ∷ seen) (drop (entry_size e) bytes)) es more in
    let head = first_entry-written bytes e are first in
    let part = entries-written k (place + entry_size e) (e.name ∷ seen) (drop (entry_size e) bytes) ds (drop_bytes (entry_size e) bytes are) rest in
    subst (AreEntries (suc k) seen bytes) (sym x) (record {
      count = ap suc part.count;
      names = (head.name, new, part.names);
      short = All-cons IsShort e ds head.few part.short;
      written = append_assoc (entry_bytes e.name e.n) (entry_list_bytes ds) (drop (entry_size e + entries_size ds) bytes)
          ∙ ap (λ q. entry_bytes e.name e.n ++ (entry_list_bytes ds ++ q)) (sym (drop-drop (entries_size ds) (entry_size e) bytes))
          ∙ ap (λ q. entry_bytes e.name e.n ++ q) part.written ∙ head.written;
    })

-- ---- the trees

series_tree-read : (n : ℕ) (t : Option SegTree) (rest : List ℕ) → IsSeriesTree n t → series_tree n (tree_image t ++ rest) ≡ t
series_tree-read zero None rest h = refl
series_tree-read (suc n) None rest h = absurd (omega (arith, h))
series_tree-read zero (Some t) rest h = absurd (let some = h.some in omega (arith, some))
series_tree-read (suc n) (Some t) rest h = ap Some (tree-read (suc n) t rest h)

length-tree_image : (n : ℕ) (t : Option SegTree) → IsSeriesTree n t → length (tree_image t) ≡ tree_size n
length-tree_image zero None h = refl
length-tree_image (suc n) None h = absurd (omega (arith, h))
length-tree_image n (Some t) h = tree-size n t h

series-read : (ss : List Series) (rest : List ℕ) → EachTree ss → series_in (entries_of ss) (trees_image ss ++ rest) ≡ ss
series-read [] rest each = refl
series-read (s ∷ ss) rest each =
    let n : ℕ = count_of s in
    let split = append_assoc (tree_image s.tree) (trees_image ss) rest in
    let first = ap (series_tree n) split ∙ series_tree-read n s.tree (trees_image ss ++ rest) each.0 in
    let more = ap (drop (tree_size n)) split ∙ drop_front (tree_image s.tree) (trees_image ss ++ rest) (tree_size n) (length-tree_image n s.tree each.0) in
    ap₂ (λ (t : Option SegTree) (q : List Series). record { name = s.name; tree = t } ∷ q) first (ap (series_in (entries_of ss)) more ∙ series-read ss rest each.1)

no_bad : (ss : List Series) → EachTree ss → bad_in ss ≡ None
no_bad [] each = refl
no_bad (s ∷ ss) each = rw (tree-good s.name (count_of s) s.tree each.0, no_bad ss each.1) refl

length-entries_bytes : (ss : List Series) → length (entries_bytes ss) ≡ entries_size (entries_of ss)
length-entries_bytes [] = refl
length-entries_bytes (s ∷ ss) =
    omega (arith, length-append (entry_bytes s.name (count_of s)) (entries_bytes ss), length-entry_bytes s.name (count_of s), length-entries_bytes ss)

length-trees_image : (ss : List Series) → EachTree ss → length (trees_image ss) ≡ trees_size (entries_of ss)
length-trees_image [] each = refl
length-trees_image (s ∷ ss) each =
    omega (arith, length-append (tree_image s.tree) (trees_image ss), length-tree_image (count_of s) s.tree each.0, length-trees_image ss each.1)

-- ---- the bytes of a store decode to it

decode_from : (s d k : ℕ) (more : List ℕ) → s ≤ 6 → d ≤ 2 → k ≤ 16
    → decode_of (fixed_bytes s d k ++ more) ≡ by_entries (fixed_bytes s d k ++ more) (record { version = 1; scale = s; degree = d; count = k }) (entries_in k 8 [] more)
unfolding decode_of
decode_from s d k more hs hd hk =
    let long : nat_lt (length (fixed_bytes s d k ++ more)) 8 ≡ false = not_below _ 8 (omega (arith, length-append (fixed_bytes s d k) more)) in
    let front : take 8 (fixed_bytes s d k ++ more) ≡ fixed_bytes s d k = take_front (fixed_bytes s d k) more 8 refl in
    let back : drop 8 (fixed_bytes s d k ++ more) ≡ more = drop_front (fixed_bytes s d k) more 8 refl in
    ap (λ b. if b then Err (NotAStore 0) else by_fixed (fixed_bytes s d k ++ more) (fixed_of (take 8 (fixed_bytes s d k ++ more)))) long
    ∙ ap (by_fixed (fixed_bytes s d k ++ more)) (ap fixed_of front ∙ fixed-read s d k hs hd hk)
    ∙ ap (λ q. by_entries (fixed_bytes s d k ++ more) (record { version = 1; scale = s; degree = d; count = k }) (entries_in k 8 [] q)) back

pub decode-image : (m : StoreValue) → IsStoreValue m → decode_of (store_image m) ≡ Ok m
unfolding store_image header_of
decode-image m h =
    let k : ℕ = length m.series in
    let es : List Entry = entries_of m.series in
    let f : Fixed = record { version = 1; scale = m.scale; degree = m.degree; count = k } in
    let head : List ℕ = fixed_bytes m.scale m.degree k ++ entries_bytes m.series in
    let bytes : List ℕ = fixed_bytes m.scale m.degree k ++ (entries_bytes m.series ++ trees_image m.series) in
    let split : head ++ trees_image m.series ≡ bytes = append_assoc (fixed_bytes m.scale m.degree k) (entries_bytes m.series) (trees_image m.series) in
    let head_len : length head ≡ header_size es = omega (arith, length-append (fixed_bytes m.scale m.degree k) (entries_bytes m.series), length-entries_bytes m.series) in
    let len : length bytes ≡ header_size es + trees_size es = sym (ap length split) ∙ omega (arith, length-append head (trees_image m.series), head_len, length-trees_image m.series h.trees) in
    let back : drop (header_size es) bytes ≡ trees_image m.series ++ [] =
    ap (drop (header_size es)) (sym split) ∙ drop_front head (trees_image m.series) (header_size es) head_len ∙ sym (append-nil (trees_image m.series)) in
    ap decode_of split
    ∙ decode_from m.scale m.degree k (entries_bytes m.series ++ trees_image m.series) h.scale h.degree h.few
    ∙ ap (by_entries bytes f) (entries-read m.series 8 [] (trees_image m.series) h.trees h.names)
    ∙ ap (λ b. if b then by_series f (series_in es (drop (header_size es) bytes)) else Err (NotAStore (header_size es))) ((Decides-eqb (length bytes) (header_size es + trees_size es)).1 len)
    ∙ ap (by_series f) (ap (series_in es) back ∙ series-read m.series [] h.trees)
    ∙ ap (by_nodes f m.series) (no_bad m.series h.trees)

-- ---- what decodes is the bytes of a store

series_tree-written : (n : ℕ) (bytes : List ℕ) → tree_size n ≤ length bytes → IsBytes bytes → tree_image (series_tree n bytes) ≡ take (tree_size n) bytes
series_tree-written zero bytes room are = refl
series_tree-written (suc n) bytes room are = image_part (plan 0 (suc n)) bytes room are

series-written : (es : List Entry) (bytes : List ℕ) → trees_size es ≤ length bytes → IsBytes bytes → trees_image (series_in es bytes) ≡ take (trees_size es) bytes
series-written [] bytes room are = refl
series-written (e ∷ es) bytes room are =
    ap₂ ◌++◌ (series_tree-written e.n bytes (omega (arith, room)) are)
    (series-written es (drop (tree_size e.n) bytes) (omega (arith, room, length-drop (tree_size e.n) bytes)) (drop_bytes (tree_size e.n) bytes are))
    ∙ sym (take-add (tree_size e.n) (trees_size es) bytes)

entries_bytes-series_in : (es : List Entry) (bytes : List ℕ) → entries_bytes (series_in es bytes) ≡ entry_list_bytes es
entries_bytes-series_in [] bytes = refl
entries_bytes-series_in (e ∷ es) bytes =
    ap₂ (λ (n : ℕ) (q : List ℕ). entry_bytes e.name n ++ q) (length-series_tree e.n bytes) (entries_bytes-series_in es (drop (tree_size e.n) bytes))

length-series_in : (es : List Entry) (bytes : List ℕ) → length (series_in es bytes) ≡ length es
length-series_in [] bytes = refl
length-series_in (e ∷ es) bytes = ap suc (length-series_in es (drop (tree_size e.n) bytes))

names-series_in : (es : List Entry) (bytes : List ℕ) → map name_of (series_in es bytes) ≡ names_of es
names-series_in [] bytes = refl
names-series_in (e ∷ es) bytes = ap (λ q. e.name ∷ q) (names-series_in es (drop (tree_size e.n) bytes))

neither : (o p : Option StoreErr) → option_or o p ≡ None → (o ≡ None) × (p ≡ None)
neither None p e = (refl, e)
neither (Some x) p e = cc

EachTree-read : (es : List Entry) (bytes : List ℕ) → All IsShort es → bad_in (series_in es bytes) ≡ None → EachTree (series_in es bytes)
EachTree-read [] bytes short e = tt
EachTree-read (d ∷ es) bytes short e =
    let (here, more) = neither (bad_in_tree d.name (series_tree d.n bytes)) (bad_in (series_in es (drop (tree_size d.n) bytes))) e in (
      subst (λ k. IsSeriesTree k (series_tree d.n bytes)) (sym (length-series_tree d.n bytes)) (series-good d.name d.n bytes (All-head IsShort d es short) here),
      EachTree-read es (drop (tree_size d.n) bytes) (All-tail IsShort d es short) more,
    )

fixed_case : (bytes : List ℕ) (r : Result Fixed ℕ) (m : StoreValue) → by_fixed bytes r ≡ Ok m
    → (f : Fixed) × (r ≡ Ok f) × (by_entries bytes f (entries_in f.count 8 [] (drop 8 bytes)) ≡ Ok m)
fixed_case bytes (Ok f) m e = (f, refl, e)
fixed_case bytes (Err p) m e = cc

entries_case : (bytes : List ℕ) (f : Fixed) (r : Result (List Entry) ℕ) (m : StoreValue) → by_entries bytes f r ≡ Ok m
    → (es : List Entry) × (r ≡ Ok es) × ((if length bytes == header_size es + trees_size es then by_series f (series_in es (drop (header_size es) bytes)) else Err (NotAStore (header_size es))) ≡ Ok m)
entries_case bytes f (Ok es) m e = (es, refl, e)
entries_case bytes f (Err p) m e = cc

nodes_case : (f : Fixed) (ss : List Series) (o : Option StoreErr) (m : StoreValue) → by_nodes f ss o ≡ Ok m → (o ≡ None) × (m ≡ store_with f ss)
nodes_case f ss None m e = (refl, cc)
nodes_case f ss (Some x) m e = cc

-- the bytes stand for the store
pub record StandFor (bytes : List ℕ) (m : StoreValue) : Type 0 where
  pub image : store_image m ≡ bytes
  pub store : IsStoreValue m

image_of : (bytes : List ℕ) (f : Fixed) (es : List Entry) → IsBytes bytes → 8 ≤ length bytes → IsFixed (take 8 bytes) f → AreEntries f.count [] (drop 8 bytes) es
    → length bytes ≡ header_size es + trees_size es → bad_in (series_in es (drop (header_size es) bytes)) ≡ None
    → StandFor bytes (store_with f (series_in es (drop (header_size es) bytes)))
unfolding store_image header_of
image_of bytes f es are room fixed header len good =
    let trees : List ℕ = drop (header_size es) bytes in
    let ss : List Series = series_in es trees in
    let trees_are = drop_bytes (header_size es) bytes are in
    let trees_len : length trees ≡ trees_size es = omega (arith, length-drop (header_size es) bytes, len) in
    let count : length ss ≡ f.count = length-series_in es trees ∙ header.count in
    let same_trees : trees_image ss ≡ trees = series-written es trees (omega (arith, trees_len)) trees_are ∙ take_all (trees_size es) trees (omega (arith, trees_len)) in
    let same_entries : entries_bytes ss ≡ entry_list_bytes es = entries_bytes-series_in es trees in
    let joined : entry_list_bytes es ++ trees ≡ drop 8 bytes = ap (λ q. entry_list_bytes es ++ q) (sym (drop-drop (entries_size es) 8 bytes)) ∙ header.written in
    record {
      image = append_assoc (fixed_bytes f.scale f.degree (length ss)) (entries_bytes ss) (trees_image ss)
          ∙ ap₂ ◌++◌ (ap (fixed_bytes f.scale f.degree) count ∙ sym fixed.written) (ap₂ ◌++◌ same_entries same_trees ∙ joined)
          ∙ take-append-drop 8 bytes;
      store = record {
        scale = fixed.scale;
        degree = fixed.degree;
        few = omega (arith, count, fixed.count);
        names = subst (AreNames []) (sym (names-series_in es trees)) header.names;
        trees = EachTree-read es trees header.short good;
      };
    }

pub image-decode : (bytes : List ℕ) (m : StoreValue) → IsBytes bytes → decode_of bytes ≡ Ok m → StandFor bytes m
unfolding decode_of
image-decode bytes m are e =
    let (long, e1) = past (nat_lt (length bytes) 8) (by_fixed bytes (fixed_of (take 8 bytes))) (NotAStore 0) m e in
    let room : 8 ≤ length bytes = at_least (length bytes) 8 long in
    let (f, fixed, e2) = fixed_case bytes (fixed_of (take 8 bytes)) m e1 in
    let (es, header, e3) = entries_case bytes f (entries_in f.count 8 [] (drop 8 bytes)) m e2 in
    let (len, e4) = tested (length bytes == header_size es + trees_size es) (by_series f (series_in es (drop (header_size es) bytes))) (NotAStore (header_size es)) m e3 in
    let (good, is) = nodes_case f (series_in es (drop (header_size es) bytes)) (bad_in (series_in es (drop (header_size es) bytes))) m e4 in
    subst (StandFor bytes) (sym is)
    (image_of bytes f es are room (fixed-written (take 8 bytes) f (length-take-le 8 bytes room) fixed)
    (entries-written f.count 8 [] (drop 8 bytes) es (drop_bytes 8 bytes are) header)
    ((Decides-eqb (length bytes) (header_size es + trees_size es)).0 len) good)

-- ---- step by step, as it is read

below : (a b : ℕ) → a < b → nat_lt a b ≡ true
below a b h = grind (arith, nat_tests)

pub decode-short : (bytes : List ℕ) → length bytes < 8 → decode_of bytes ≡ Err (NotAStore 0)
unfolding decode_of
decode-short bytes short = ap (λ b. if b then Err (NotAStore 0) else by_fixed bytes (fixed_of (take 8 bytes))) (below (length bytes) 8 short)

decode-long : (bytes : List ℕ) → 8 ≤ length bytes → decode_of bytes ≡ by_fixed bytes (fixed_of (take 8 bytes))
unfolding decode_of
decode-long bytes long = ap (λ b. if b then Err (NotAStore 0) else by_fixed bytes (fixed_of (take 8 bytes))) (not_below (length bytes) 8 long)

pub decode-unfixed : (bytes : List ℕ) (place : ℕ) → 8 ≤ length bytes → fixed_of (take 8 bytes) ≡ Err place → decode_of bytes ≡ Err (NotAStore place)
decode-unfixed bytes place long e = decode-long bytes long ∙ ap (by_fixed bytes) e

pub decode-fixed : (bytes : List ℕ) (f : Fixed) → 8 ≤ length bytes → fixed_of (take 8 bytes) ≡ Ok f → decode_of bytes ≡ by_entries bytes f (entries_in f.count 8 [] (drop 8 bytes))
decode-fixed bytes f long e = decode-long bytes long ∙ ap (by_fixed bytes) e

pub decode-refused : (bytes : List ℕ) (f : Fixed) (place : ℕ) → 8 ≤ length bytes → fixed_of (take 8 bytes) ≡ Ok f → entries_in f.count 8 [] (drop 8 bytes) ≡ Err place → decode_of bytes ≡ Err (NotAStore place)
decode-refused bytes f place long fixed e = decode-fixed bytes f long fixed ∙ ap (by_entries bytes f) e

pub decode-entries : (bytes : List ℕ) (f : Fixed) (es : List Entry) → 8 ≤ length bytes → fixed_of (take 8 bytes) ≡ Ok f → entries_in f.count 8 [] (drop 8 bytes) ≡ Ok es → length bytes ≡ header_size es + trees_size es
    → decode_of bytes ≡ by_series f (series_in es (drop (header_size es) bytes))
decode-entries bytes f es long fixed header len =
    decode-fixed bytes f long fixed ∙ ap (by_entries bytes f) header
    ∙ ap (λ b. if b then by_series f (series_in es (drop (header_size es) bytes)) else Err (NotAStore (header_size es))) ((Decides-eqb (length bytes) (header_size es + trees_size es)).1 len)

differs : (a b : ℕ) → (a ≡ b → ⊥) → (a == b) ≡ false
differs a b h = grind (arith, nat_tests)

pub decode-length : (bytes : List ℕ) (f : Fixed) (es : List Entry) → 8 ≤ length bytes → fixed_of (take 8 bytes) ≡ Ok f → entries_in f.count 8 [] (drop 8 bytes) ≡ Ok es → (length bytes ≡ header_size es + trees_size es → ⊥)
    → decode_of bytes ≡ Err (NotAStore (header_size es))
decode-length bytes f es long fixed header other =
    decode-fixed bytes f long fixed ∙ ap (by_entries bytes f) header
    ∙ ap (λ b. if b then by_series f (series_in es (drop (header_size es) bytes)) else Err (NotAStore (header_size es))) (differs (length bytes) (header_size es + trees_size es) other)

-- what is known of a header that was read
pub record IsHeader (f : Fixed) (es : List Entry) : Type 0 where
  pub scale : f.scale ≤ 6
  pub degree : f.degree ≤ 2
  pub few : length es ≤ 16
  pub names : AreNames [] (names_of es)
  pub short : All IsShort es

pub header-read : (bytes : List ℕ) (f : Fixed) (es lent : List Entry) → IsBytes bytes → 8 ≤ length bytes → fixed_of (take 8 bytes) ≡ Ok f → entries_in f.count 8 [] (drop 8 bytes) ≡ Ok es → lent ≡ es → IsHeader f lent
header-read bytes f es lent are long fixed header same =
    let front = fixed-written (take 8 bytes) f (length-take-le 8 bytes long) fixed in
    let entries = entries-written f.count 8 [] (drop 8 bytes) es (drop_bytes 8 bytes are) header in
    rw same (record { scale = front.scale; degree = front.degree; few = omega (arith, entries.count, front.count); names = entries.names; short = entries.short })

-- a store that was read has these bytes
pub read-stands : (bytes : List ℕ) (r : Result StoreParts StoreErr) → IsBytes bytes → IfOk r (λ s. decode_of bytes ≡ Ok (store_value s)) → IfOk r (λ s. store_image (store_value s) ≡ bytes)
read-stands bytes (Ok s) are h = (image-decode bytes (store_value s) are h).image
read-stands bytes (Err e) are h = tt

pub read-store : (bytes : List ℕ) (r : Result StoreParts StoreErr) → IsBytes bytes → IfOk r (λ s. decode_of bytes ≡ Ok (store_value s)) → IfOk r (λ s. IsStoreValue (store_value s))
read-store bytes (Ok s) are h = (image-decode bytes (store_value s) are h).store
read-store bytes (Err e) are h = tt

not_refused : (e : StoreErr) (m : StoreValue) (d : Result StoreValue StoreErr) → d ≡ Ok m → (e ≡ Memory) ⊎ (d ≡ Err e) → e ≡ Memory
not_refused e m d is (inl memory) = memory
not_refused e m d is (inr refused) = let no : Ok m ≡ Err e = sym is ∙ refused in cc

same_ok : (m n : StoreValue) (d : Result StoreValue StoreErr) → d ≡ Ok m → d ≡ Ok n → n ≡ m
same_ok m n d e f = let same : Ok n ≡ Ok m = sym f ∙ e in cc

-- a store that has these bytes is found
pub read-found : (bytes : List ℕ) (r : Result StoreParts StoreErr) → IfOk r (λ s. decode_of bytes ≡ Ok (store_value s)) → IfErr r (λ e. (e ≡ Memory) ⊎ (decode_of bytes ≡ Err e))
    → (m : StoreValue) → IsStoreValue m → store_image m ≡ bytes → MatchResult r (λ s. store_value s ≡ m) (λ e. e ≡ Memory)
read-found bytes (Ok s) ok err m is image = same_ok m (store_value s) (decode_of bytes) (ap decode_of (sym image) ∙ decode-image m is) ok
read-found bytes (Err e) ok err m is image = not_refused e m (decode_of bytes) (ap decode_of (sym image) ∙ decode-image m is) err

pub refused-entries : (bytes : List ℕ) (f : Fixed) (e : StoreErr) → 8 ≤ length bytes → fixed_of (take 8 bytes) ≡ Ok f → (e ≡ Memory) ⊎ ((place : ℕ) × (e ≡ NotAStore place) × (entries_in f.count 8 [] (drop 8 bytes) ≡ Err place))
    → (e ≡ Memory) ⊎ (decode_of bytes ≡ Err e)
refused-entries bytes f e long fixed (inl memory) = inl memory
refused-entries bytes f e long fixed (inr refused) = inr (decode-refused bytes f refused.0 long fixed refused.2 ∙ ap Err (sym refused.1))

-- the entries that were read, and how many bytes their header and their trees have
pub record IsMeasured (es : List Entry) (h t : ℕ) : Type 0 where
  pub header : h ≡ header_size es
  pub trees : t ≡ trees_size es

pub measured : (es lent again : List Entry) (h t : ℕ) → lent ≡ es → again ≡ es → h ≡ header_size lent → t ≡ trees_size again → IsMeasured es h t
measured es lent again h t one two header trees = record { header = header ∙ ap header_size one; trees = trees ∙ ap trees_size two }

pub read-length : (bytes : List ℕ) (f : Fixed) (es : List Entry) (h t : ℕ) → 8 ≤ length bytes → fixed_of (take 8 bytes) ≡ Ok f → entries_in f.count 8 [] (drop 8 bytes) ≡ Ok es → IsMeasured es h t → (length bytes ≡ h + t → ⊥)
    → decode_of bytes ≡ Err (NotAStore h)
read-length bytes f es h t long fixed header sizes other =
    decode-length bytes f es long fixed header (λ e. other (e ∙ ap₂ ◌+◌ (sym sizes.header) (sym sizes.trees))) ∙ ap (λ k. Err (NotAStore k)) (sym sizes.header)

pub read-behind : (bytes rest : List ℕ) (f : Fixed) (es lent : List Entry) (h t : ℕ) → 8 ≤ length bytes → fixed_of (take 8 bytes) ≡ Ok f → entries_in f.count 8 [] (drop 8 bytes) ≡ Ok es → IsMeasured es h t → length bytes ≡ h + t → lent ≡ es → rest ≡ drop h bytes
    → decode_of bytes ≡ by_series f (series_in lent rest)
read-behind bytes rest f es lent h t long fixed header sizes same lent_is rest_is =
    decode-entries bytes f es long fixed header (same ∙ ap₂ ◌+◌ sizes.header sizes.trees)
    ∙ ap₂ (λ ds q. by_series f (series_in ds q)) (sym lent_is) (ap (λ k. drop k bytes) (sym sizes.header) ∙ sym rest_is)

pub room-behind : (bytes rest : List ℕ) (es lent : List Entry) (h t : ℕ) → IsMeasured es h t → length bytes ≡ h + t → lent ≡ es → rest ≡ drop h bytes → length rest ≡ trees_size lent
room-behind bytes rest es lent h t sizes same lent_is rest_is = omega (arith, ap length rest_is, length-drop h bytes, same, sizes.trees, ap trees_size lent_is)
