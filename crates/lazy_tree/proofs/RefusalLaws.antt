-- A header is refused as the whole store is.
use Rattle.std.proofs.Common.{◌≡◌, ◌+◌, ℕ, Bool, true, false, cond, List, [], ◌∷◌, length, take, drop, Option, Some, None, Result, Ok, Err, refl}
use Rattle.std.specs.Prelude.{nat_lt, ◌==◌}
use Rattle.store_file.specs.Decoded.{entries_in, entries_size, header_size, trees_size, series_in, bad_in, bad_in_tree, bad_node, by_nodes, by_series, by_entries, by_fixed, decode_of}
use Rattle.store_file.specs.Good.{first_bad}
use Rattle.store_file.specs.Header.{fixed_of}
use Rattle.store_file.specs.StoreValue.{Series, StoreValue}
use Rattle.store_file.specs.declared.header.Fixed.{Fixed}
use Rattle.store_file.specs.declared.header.Entry.{Entry}
use Rattle.store_file.specs.declared.decoding.StoreErr.{StoreErr}
use Rattle.store_file.specs.declared.decoding.StoreErr.TheVariants.{NotAStore, BadNode}
use Rattle.segment.specs.declared.segments.Seg.{Seg}
use Rattle.segment.specs.Tree.{SegTree}
use Rattle.std.specs.Option.{option_map, option_or}
use Rattle.lazy_tree.specs.HeaderIn.{Header, header_in, by_length, by_fixed_part}
use Rattle.lazy_tree.specs.Laws.{RefusalIsDecoded, DecodedIsRefusal}

length_step : (b : Bool) (h : Header) (other : Result StoreValue StoreErr) (size place : ℕ) → cond b (Ok h) (Err size) ≡ Err place
    → cond b other (Err (NotAStore size)) ≡ Err (NotAStore place)
length_step true h other size place e = cc
length_step false h other size place e = cc

entries_step : (bytes : List ℕ) (f : Fixed) (r : Result (List Entry) ℕ) (place : ℕ) → by_length bytes f r ≡ Err place → by_entries bytes f r ≡ Err (NotAStore place)
entries_step bytes f (Err p) place e = cc
entries_step bytes f (Ok es) place e =
    length_step (length bytes == header_size es + trees_size es) (record { fixed = f; entries = es }) (by_series f (series_in es (drop (header_size es) bytes))) (header_size es) place e

fixed_step : (bytes : List ℕ) (r : Result Fixed ℕ) (place : ℕ) → by_fixed_part bytes r ≡ Err place → by_fixed bytes r ≡ Err (NotAStore place)
fixed_step bytes (Err p) place e = cc
fixed_step bytes (Ok f) place e = entries_step bytes f (entries_in f.count 8 [] (drop 8 bytes)) place e

short_step : (b : Bool) (h : Result Header ℕ) (s : Result StoreValue StoreErr) (place : ℕ) → (h ≡ Err place → s ≡ Err (NotAStore place))
    → cond b (Err 0) h ≡ Err place → cond b (Err (NotAStore 0)) s ≡ Err (NotAStore place)
short_step true h s place step e = cc
short_step false h s place step e = step e

pub refusal-decoded : RefusalIsDecoded
unfolding header_in decode_of
refusal-decoded bytes place e =
    short_step (nat_lt (length bytes) 8) (by_fixed_part bytes (fixed_of (take 8 bytes))) (by_fixed bytes (fixed_of (take 8 bytes))) place
    (fixed_step bytes (fixed_of (take 8 bytes)) place) e

-- ---- the other way round

-- no node is refused as no store
not_of_tree : (name : List ℕ) (o : Option Seg) (place : ℕ) → option_map (bad_node name) o ≡ Some (NotAStore place) → ⊥
not_of_tree name None place e = cc
not_of_tree name (Some g) place e = cc

not_in_tree : (name : List ℕ) (t : Option SegTree) (place : ℕ) → bad_in_tree name t ≡ Some (NotAStore place) → ⊥
not_in_tree name None place e = cc
not_in_tree name (Some t) place e = not_of_tree name (first_bad t) place e

first_or : (a b : Option StoreErr) (place : ℕ) → (a ≡ Some (NotAStore place) → ⊥) → (b ≡ Some (NotAStore place) → ⊥) → option_or a b ≡ Some (NotAStore place) → ⊥
first_or None b place na nb e = nb e
first_or (Some x) b place na nb e = na e

not_in : (ss : List Series) (place : ℕ) → bad_in ss ≡ Some (NotAStore place) → ⊥
not_in [] place e = cc
not_in (s ∷ ss) place e = first_or (bad_in_tree s.name s.tree) (bad_in ss) place (not_in_tree s.name s.tree place) (not_in ss place) e

not_by_nodes : (f : Fixed) (ss : List Series) (o : Option StoreErr) (place : ℕ) → (o ≡ Some (NotAStore place) → ⊥) → by_nodes f ss o ≡ Err (NotAStore place) → ⊥
not_by_nodes f ss None place never e = cc
not_by_nodes f ss (Some x) place never e = never (cc)

length_back : (b : Bool) (h : Header) (other : Result StoreValue StoreErr) (size place : ℕ) → (other ≡ Err (NotAStore place) → ⊥)
    → cond b other (Err (NotAStore size)) ≡ Err (NotAStore place) → cond b (Ok h) (Err size) ≡ Err place
length_back true h other size place never e = absurd (never e)
length_back false h other size place never e = cc

entries_back : (bytes : List ℕ) (f : Fixed) (r : Result (List Entry) ℕ) (place : ℕ) → by_entries bytes f r ≡ Err (NotAStore place) → by_length bytes f r ≡ Err place
entries_back bytes f (Err p) place e = cc
entries_back bytes f (Ok es) place e =
    let ss = series_in es (drop (header_size es) bytes) in
    length_back (length bytes == header_size es + trees_size es) (record { fixed = f; entries = es }) (by_series f ss) (header_size es) place
    (not_by_nodes f ss (bad_in ss) place (not_in ss place)) e

fixed_back : (bytes : List ℕ) (r : Result Fixed ℕ) (place : ℕ) → by_fixed bytes r ≡ Err (NotAStore place) → by_fixed_part bytes r ≡ Err place
fixed_back bytes (Err p) place e = cc
fixed_back bytes (Ok f) place e = entries_back bytes f (entries_in f.count 8 [] (drop 8 bytes)) place e

short_back : (b : Bool) (h : Result Header ℕ) (s : Result StoreValue StoreErr) (place : ℕ) → (s ≡ Err (NotAStore place) → h ≡ Err place)
    → cond b (Err (NotAStore 0)) s ≡ Err (NotAStore place) → cond b (Err 0) h ≡ Err place
short_back true h s place step e = cc
short_back false h s place step e = step e

pub decoded-refusal : DecodedIsRefusal
unfolding header_in decode_of
decoded-refusal bytes place e =
    short_back (nat_lt (length bytes) 8) (by_fixed_part bytes (fixed_of (take 8 bytes))) (by_fixed bytes (fixed_of (take 8 bytes))) place
    (fixed_back bytes (fixed_of (take 8 bytes)) place) e
