-- Two stores never have the same bytes.
use Rattle.std.proofs.Common.{◌≡◌, ℕ, ◌≤◌, ◌^◌, List, [], ◌∷◌, ◌++◌, length, map, take, drop, get_or, Option, Some, None, refl, sym, ap, ap₂, subst, ◌∙◌, arith, length-append, append-nil, append_assoc}
use Rattle.segment.specs.Nodes.{IsSeriesTree}
use Rattle.segment.specs.Shape.{plan}
use Rattle.segment.specs.Tree.{SegTree}
use Rattle.tree_file.specs.Bytes.{bytes_of, number_of}
use Rattle.tree_file.specs.Image.{image, tree_in}
use Rattle.tree_file.proofs.Digits.{number_of-bytes_of}
use Rattle.tree_file.proofs.ImageLaws.{take_front, drop_front}
use Rattle.tree_file.proofs.RecordLaws.{length-bytes_of}
use Rattle.tree_file.proofs.TrueTrees.{tree-read, tree-size}
use Rattle.store_file.specs.StoreValue.{Series, StoreValue, count_of, name_of, EachTree, entry_bytes, entries_bytes, tree_image, trees_image, fixed_bytes, header_of, store_image, ImagesDiffer}

-- fronts of one length are the same, and so is what follows
cancel : (xs ys a b : List ℕ) → length xs ≡ length ys → xs ++ a ≡ ys ++ b → (xs ≡ ys) × (a ≡ b)
cancel xs ys a b long e =
    let n = length ys in (
      sym (take_front xs a n long) ∙ ap (take n) e ∙ take_front ys b n refl,
      sym (drop_front xs a n long) ∙ ap (drop n) e ∙ drop_front ys b n refl,
    )

fixed-same : (s d k s' d' k' : ℕ) → fixed_bytes s d k ≡ fixed_bytes s' d' k' → (s ≡ s') × (d ≡ d') × (k ≡ k')
fixed-same s d k s' d' k' e = (ap (λ q. get_or q 5 0) e, ap (λ q. get_or q 6 0) e, ap (λ q. get_or q 7 0) e)

few-series : (n : ℕ) (t : Option SegTree) → IsSeriesTree n t → n ≤ 2 ^ 20
few-series n None h = omega (arith, h)
few-series n (Some t) h = h.few

pub count-read : (n : ℕ) → n ≤ 2 ^ 20 → number_of 4 (bytes_of 4 n) ≡ n
count-read n few = ap (number_of 4) (sym (append-nil (bytes_of 4 n))) ∙ number_of-bytes_of 4 n [] (omega (arith, few))

-- an entry, and what follows it
record SameEntry (text text' : List ℕ) (n n' : ℕ) (a b : List ℕ) : Type 0 where
  name : text ≡ text'
  count : n ≡ n'
  rest : a ≡ b

entry-same : (name name' : List ℕ) (n n' : ℕ) (a b : List ℕ) → n ≤ 2 ^ 20 → n' ≤ 2 ^ 20 → entry_bytes name n ++ a ≡ entry_bytes name' n' ++ b → SameEntry name name' n n' a b
entry-same name name' n n' a b few few' e =
    let long : length name ≡ length name' = ap (λ q. get_or q 0 0) e in
    let behind : (name ++ bytes_of 4 n) ++ a ≡ (name' ++ bytes_of 4 n') ++ b = ap (drop 1) e in
    let parts = cancel (name ++ bytes_of 4 n) (name' ++ bytes_of 4 n') a b (omega (arith, long, length-append name (bytes_of 4 n), length-append name' (bytes_of 4 n'), length-bytes_of 4 n, length-bytes_of 4 n')) behind in
    let inner = cancel name name' (bytes_of 4 n) (bytes_of 4 n') long parts.0 in
    record {
      name = inner.0;
      count = sym (count-read n few) ∙ ap (number_of 4) inner.1 ∙ count-read n' few';
      rest = parts.1;
    }

record SameEntries (ss tt : List Series) (a b : List ℕ) : Type 0 where
  names : map name_of ss ≡ map name_of tt
  counts : map count_of ss ≡ map count_of tt
  rest : a ≡ b

entries-same : (ss us : List Series) (a b : List ℕ) → EachTree ss → EachTree us → length ss ≡ length us → entries_bytes ss ++ a ≡ entries_bytes us ++ b → SameEntries ss us a b
entries-same [] [] a b h k long e = record { names = refl; counts = refl; rest = e }
entries-same [] (u ∷ us) a b h k long e = absurd (omega (arith, long))
entries-same (s ∷ ss) [] a b h k long e = absurd (omega (arith, long))
entries-same (s ∷ ss) (u ∷ us) a b h k long e =
    let cut : entry_bytes s.name (count_of s) ++ (entries_bytes ss ++ a) ≡ entry_bytes u.name (count_of u) ++ (entries_bytes us ++ b) =
    sym (append_assoc (entry_bytes s.name (count_of s)) (entries_bytes ss) a) ∙ e ∙ append_assoc (entry_bytes u.name (count_of u)) (entries_bytes us) b in
    let first = entry-same s.name u.name (count_of s) (count_of u) (entries_bytes ss ++ a) (entries_bytes us ++ b) (few-series (count_of s) s.tree h.0) (few-series (count_of u) u.tree k.0) cut in
    let more = entries-same ss us a b h.1 k.1 (omega (arith, long)) first.rest in
    record { names = ap₂ ◌∷◌ first.name more.names; counts = ap₂ ◌∷◌ first.count more.counts; rest = more.rest }

tree-same : (n : ℕ) (t u : Option SegTree) (a b : List ℕ) → IsSeriesTree n t → IsSeriesTree n u → tree_image t ++ a ≡ tree_image u ++ b → (t ≡ u) × (a ≡ b)
tree-same n None None a b h k e = (refl, e)
tree-same n None (Some u) a b h k e = absurd (let some = k.some in omega (arith, h, some))
tree-same n (Some t) None a b h k e = absurd (let some = h.some in omega (arith, k, some))
tree-same n (Some t) (Some u) a b h k e = (
  ap Some (sym (tree-read n t a h) ∙ ap (tree_in (plan 0 n)) e ∙ tree-read n u b k),
  (cancel (image t) (image u) a b (tree-size n t h ∙ sym (tree-size n u k)) e).1,
)

heads : {A : Type 0} (x y : A) (xs ys : List A) → x ∷ xs ≡ y ∷ ys → (x ≡ y) × (xs ≡ ys)
heads x y xs ys e = (ap (λ q. get_or q 0 x) e, ap (drop 1) e)

trees-same : (ss us : List Series) → EachTree ss → EachTree us → map name_of ss ≡ map name_of us → map count_of ss ≡ map count_of us → trees_image ss ≡ trees_image us → ss ≡ us
trees-same [] [] h k names counts e = refl
trees-same [] (u ∷ us) h k names counts e = cc
trees-same (s ∷ ss) [] h k names counts e = cc
trees-same (s ∷ ss) (u ∷ us) h k names counts e =
    let name = heads s.name u.name (map name_of ss) (map name_of us) names in
    let count = heads (count_of s) (count_of u) (map count_of ss) (map count_of us) counts in
    let tree = tree-same (count_of s) s.tree u.tree (trees_image ss) (trees_image us) h.0 (subst (λ n. IsSeriesTree n u.tree) (sym count.0) k.0) e in
    let same : s ≡ u = ap₂ (λ a b. let q : Series = record { name = a; tree = b } in q) name.0 tree.0 in
    ap₂ ◌∷◌ same (trees-same ss us h.1 k.1 name.1 count.1 tree.1)

pub images-differ : ImagesDiffer
unfolding store_image header_of
images-differ m n hm hn e =
    let f : ℕ → ℕ → List Series → StoreValue = λ a b c. record { scale = a; degree = b; series = c } in
    let fixed_m = fixed_bytes m.scale m.degree (length m.series) in
    let fixed_n = fixed_bytes n.scale n.degree (length n.series) in
    let cut : fixed_m ++ (entries_bytes m.series ++ trees_image m.series) ≡ fixed_n ++ (entries_bytes n.series ++ trees_image n.series) =
    sym (append_assoc fixed_m (entries_bytes m.series) (trees_image m.series)) ∙ e ∙ append_assoc fixed_n (entries_bytes n.series) (trees_image n.series) in
    let parts = cancel fixed_m fixed_n (entries_bytes m.series ++ trees_image m.series) (entries_bytes n.series ++ trees_image n.series) refl cut in
    let fixed = fixed-same m.scale m.degree (length m.series) n.scale n.degree (length n.series) parts.0 in
    let entries = entries-same m.series n.series (trees_image m.series) (trees_image n.series) hm.trees hn.trees fixed.2 parts.1 in
    let series = trees-same m.series n.series hm.trees hn.trees entries.names entries.counts entries.rest in
    ap (λ a. f a m.degree m.series) fixed.0 ∙ ap (λ b. f n.scale b m.series) fixed.1 ∙ ap (f n.scale n.degree) series
