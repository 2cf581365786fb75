-- A query over a store's file that is read in parts.
use Rattle.std.proofs.Common.{◌≡◌, ◌∙◌, ◌^◌, ◌+◌, ◌*◌, ◌<◌, ◌≤◌, ℕ, zero, suc, Bool, true, false, List, [], ◌∷◌, length, Option, Some, None, Result, Ok, Err, refl, ap, sym, subst, arith}
use Rattle.std.specs.Option.{option_map}
use Rattle.std.specs.Prelude.{◌≢◌, ◌&&◌, ◌↔◌, nat_lt, if◌then◌else◌}
use Rattle.std.proofs.lemmas.Bool.{le-ltb, ltb-false, ltb-true}
use Rattle.std.proofs.lemmas.List.{length-map}
use Rattle.descent.specs.Descents.{cut_of, roots}
use Rattle.descent.specs.Known.{node_facts}
use Rattle.descent.specs.Spent as spent
use Rattle.descent.specs.Spent.{HasSpent}
use Rattle.descent.specs.Told.{Tells, told}
use Rattle.descent.specs.declared.descents.Answer.{Answer}
use Rattle.lazy_tree.specs.HeaderIn as header
use Rattle.lazy_tree.specs.HeaderIn.{Header, header_in}
use Rattle.lazy_tree.specs.Opened.{Means, Opened, header_len}
use Rattle.lazy_tree.specs.OpenedLaws.{forest_fits}
use Rattle.lazy_tree.proofs.RefusalLaws.{decoded-refusal, refusal-decoded}
use Rattle.segment.specs.Nodes.{Forest, HandsOut}
use Rattle.semantics.specs.Admission.{Fact, refusal_of}
use Rattle.semantics.specs.Files.{Files, IfTold, file_of}
use Rattle.semantics.specs.Plain.{plain}
use Rattle.semantics.specs.Term.{QueryTerm}
use Rattle.semantics.proofs.PlainLaws.{IsPlain-plain}
use Rattle.store_file.specs.Added.{names_in}
use Rattle.store_file.specs.Decoded.{decode_of}
use Rattle.store_file.specs.Facts.{facts_in}
use Rattle.store_file.specs.StoreValue.{StoreValue, IsStoreValue, name_of, store_image}
use Rattle.store_file.specs.declared.decoding.StoreErr.{StoreErr}
use Rattle.store_file.specs.declared.decoding.StoreErr.TheVariants.{BadNode, Memory, NotAStore}
use Rattle.store_file.proofs.DecodedLaws.{image-decode}
use Rattle.tree_file.specs.Bytes.{IsBytes}
use Rattle.query_cli.specs.Asked.{Asked, forest_of, opened_in, roots_in}
use Rattle.query_cli.specs.Commands.Query.{are_bytes, asked_in, asked_of, asked_of_none, parts_size}
use Rattle.query_cli.specs.Parted.{AreBad, HandsOver, IsRootKnown, HasHeader, IfStands, IsAnsweredAs, IsAnsweredFor, IsAnsweredOver, IsBad, IsShown, IsThere, IsTold, IsUnopened, Shows}
use Rattle.query_cli.specs.Reading.{File, Shown, answered, file_at, file_within, held, most_store, no_store, oversized, refused}
use Rattle.query_cli.specs.Refusals.{Refusal, query_refusal, store_fault}
use Rattle.query_cli.specs.Steps.{and_then, unless_refused}
use Rattle.query_cli.specs.Stops.{HasCause, IfRefused, IfStopped, IsNotAdmitted, IsUnread}
use Rattle.query_cli.specs.declared.stop.Halt.{Halt}
use Rattle.query_cli.specs.declared.stop.Stop.{Stop}
use Rattle.query_cli.proofs.AskedLaws as whole
use Rattle.query_cli.proofs.PartFacts.{facts_told, header_of, root_rows}
use Rattle.query_cli.proofs.StepLaws.{file_at-held, refused-map, stopped-map}

-- ---- the file

not_over : (most : ℕ) (o : Option (List ℕ)) (bytes : List ℕ) → file_within most o ≡ held bytes → length bytes ≤ most
not_over most None bytes h = cc
not_over most (Some b) bytes h = by (nat_lt most (length b)) refl h
  where
    by : (t : Bool) → nat_lt most (length b) ≡ t → ◌≡◌ {A = File} (if t then oversized else held b) (held bytes) → length bytes ≤ most
    by true e k = cc
    by false e k = let same : b ≡ bytes = cc in subst (λ x. length x ≤ most) same (ltb-false most (length b) e)

within : (m : Files) (name bytes : List ℕ) → file_at m most_store name ≡ held bytes → length bytes ≤ 2 ^ 28
within m name bytes h = not_over most_store (file_of m name) bytes h

-- the file of a length that is told
pub size_there : (files : Option Files) (name : List ℕ) (o : Option ℕ) (size : ℕ) → o ≡ Some size → size ≤ most_store → IfTold files (λ m. o ≡ option_map length (file_of m name))
    → IfTold files (λ m. IsThere m name)
size_there None name o size some few told = tt
size_there (Some k) name o size some few told = by (file_of k name) refl
  where
    by : (f : Option (List ℕ)) → file_of k name ≡ f → IsThere k name
    by None e = let none : o ≡ None = told ∙ ap (option_map length) e in cc
    by (Some bytes) e =
        let same : Some size ≡ Some (length bytes) = sym some ∙ told ∙ ap (option_map length) e in
        let long : size ≡ length bytes = cc in
        let short : nat_lt most_store (length bytes) ≡ false = le-ltb most_store (length bytes) (omega (arith, few, long)) in
        record { bytes = bytes; held = ap (file_within most_store) e ∙ rw short refl }

both_true : (a b : Bool) → (a && b) ≡ true → (a ≡ true) × (b ≡ true)
both_true true true h = (refl, refl)
both_true true false h = cc
both_true false b h = cc

pub is_bytes : (xs : List ℕ) → are_bytes xs ≡ true → IsBytes xs
is_bytes [] h i = omega arith
is_bytes (x ∷ xs) h zero = ltb-true x 256 (both_true (nat_lt x 256) (are_bytes xs) h).0
is_bytes (x ∷ xs) h (suc i) = is_bytes xs (both_true (nat_lt x 256) (are_bytes xs) h).1 i

fault-cause : HasCause store_fault
fault-cause = record { csv = λ e. cc; store = λ e. cc; query = λ e. cc; cert = λ e. cc }

-- a list that is no file's, where nothing is told
abbrev pub no_bytes : List ℕ
no_bytes = 256 ∷ []

pub of_decoded : (P : Result (Option Asked) Refusal → Type 0) (shown : Shown) (q : QueryTerm) (bytes : List ℕ) (r : Result StoreValue StoreErr) → decode_of bytes ≡ r
    → ((place : ℕ) → header_in bytes ≢ Err place) → P (asked_of_none shown) → ((m : StoreValue) → decode_of bytes ≡ Ok m → P (asked_of shown q (Ok m))) → P (asked_of shown q r)
of_decoded P shown q bytes (Ok m) e header none some = some m e
of_decoded P shown q bytes (Err (NotAStore place)) e header none some = absurd (header place (decoded-refusal bytes place e))
of_decoded P shown q bytes (Err (BadNode name start len)) e header none some = none
of_decoded P shown q bytes (Err Memory) e header none some = none

pub of_bytes : (P : Result (Option Asked) Refusal → Type 0) (shown : Shown) (q : QueryTerm) (bytes : List ℕ) (t : Bool) → are_bytes bytes ≡ t
    → ((place : ℕ) → header_in bytes ≢ Err place) → P (asked_of_none shown)
    → ((m : StoreValue) → IsStoreValue m → store_image m ≡ bytes → P (asked_of shown q (Ok m))) → P (if t then asked_of shown q (decode_of bytes) else asked_of_none shown)
of_bytes P shown q bytes true e header none some =
    of_decoded P shown q bytes (decode_of bytes) refl header none
    (λ m d. let s = image-decode bytes m (is_bytes bytes e) d in some m s.store s.image)
of_bytes P shown q bytes false e header none some = none

-- what a query over the file shows: that of its store, or of parts that are of none
pub by_parts : (P : Result (Option Asked) Refusal → Type 0) (files : Option Files) (name : List ℕ) (q : QueryTerm) (shown : Shown) → IfTold files (λ m. HasHeader m name)
    → P (asked_of_none shown) → IfStands files name (λ m. P (asked_of shown q (Ok m))) → (x : Result (Option Asked) Refusal) × Shows files name q x × P x
by_parts P None name q shown header none some =
    (asked_of_none shown, record { shown = shown; file = held no_bytes; told = tt; found = refl }, none)
by_parts P (Some k) name q shown header none some =
    let stands : (m : StoreValue) → IsStoreValue m → store_image m ≡ header.bytes → P (asked_of shown q (Ok m)) =
    λ m is image. some k m refl (file_at-held k most_store name header.bytes header.held ∙ ap Some (sym image)) is in (
      asked_in shown q header.bytes,
      record { shown = shown; file = held header.bytes; told = header.held; found = refl },
      of_bytes P shown q header.bytes (are_bytes header.bytes) refl header.header none stands,
    )

pub shows : (files : Option Files) (name : List ℕ) (q : QueryTerm) (shown : Shown) (x : Result (Option Asked) Refusal) → IfTold files (λ m. HasHeader m name)
    → asked_of_none shown ≡ x → IfStands files name (λ m. asked_of shown q (Ok m) ≡ x) → Shows files name q x
shows files name q shown x header none some =
    let k = by_parts (λ y. y ≡ x) files name q shown header none some in subst (Shows files name q) k.2 k.1

-- ---- a file that isn't opened

pub unread : (files : Option Files) (name : List ℕ) (h : Halt) → IfStopped h (IsUnread files most_store name) → IfStopped h (IsUnopened files name)
unread files name h =
    stopped-map h (IsUnread files most_store name) (IsUnopened files name)
    (λ r k q. record {
      shows = record { shown = no_store; file = k.file; told = k.told; found = ap (λ x. and_then x (λ bytes. asked_in no_store q bytes)) k.refused.called };
      cause = k.refused.cause;
    })

seen : (q : QueryTerm) (bytes : List ℕ) (place : ℕ) (t : Bool) → decode_of bytes ≡ Err (NotAStore place) → (if t then asked_of no_store q (decode_of bytes) else asked_of_none no_store) ≡ Err store_fault
seen q bytes place true e = ap (asked_of no_store q) e
seen q bytes place false e = refl

no_header_shown : (files : Option Files) (name : List ℕ) (place : ℕ) (q : QueryTerm) → IfTold files (λ m. IsThere m name)
    → IfTold files (λ m. (bytes : List ℕ) → file_of m name ≡ Some bytes → header_in bytes ≡ Err place) → Shows files name q (Err store_fault)
no_header_shown None name place q there none = record { shown = no_store; file = held no_bytes; told = tt; found = refl }
no_header_shown (Some k) name place q there none =
    let refused = none there.bytes (file_at-held k most_store name there.bytes there.held) in
    record {
      shown = no_store;
      file = held there.bytes;
      told = there.held;
      found = seen q there.bytes place (are_bytes there.bytes) (refusal-decoded there.bytes place refused);
    }

-- the header or the length is refused
pub no_header : (files : Option Files) (name : List ℕ) (place : ℕ) (s : Stop) → IfTold files (λ m. IsThere m name)
    → IfTold files (λ m. (bytes : List ℕ) → file_of m name ≡ Some bytes → header_in bytes ≡ Err place) → IfRefused s (λ r. r ≡ store_fault) → IfRefused s (IsUnopened files name)
no_header files name place s there none =
    refused-map s (λ r. r ≡ store_fault) (IsUnopened files name)
    (λ r e q. record {
      shows = subst (λ x. Shows files name q (Err x)) (sym e) (no_header_shown files name place q there none);
      cause = subst HasCause (sym e) fault-cause;
    })

-- what was opened has a header of a store
pub header_there : (files : Option Files) (name : List ℕ) (nodes : Opened) → IfTold files (λ m. IsThere m name)
    → IfTold files (λ m. (bytes : List ℕ) → file_of m name ≡ Some bytes → (h : Header) × (header_in bytes ≡ Ok h) × header.HasHeader nodes h)
    → IfTold files (λ m. HasHeader m name)
header_there None name nodes there known = tt
header_there (Some k) name nodes there known =
    let h = known there.bytes (file_at-held k most_store name there.bytes there.held) in
    record { bytes = there.bytes; held = there.held; header = λ place e. cc }

pub moved_there : (a b : Option Files) (name : List ℕ) → b ≡ a → IfTold a (λ m. IsThere m name) → IfTold b (λ m. IsThere m name)
moved_there a b name same h = subst (λ f. IfTold f (λ m. IsThere m name)) (sym same) h

pub there_for : (files : Option Files) (name : List ℕ) → IfTold files (λ m. IsThere m name) → IfTold files (λ m. (bytes : List ℕ) × (file_of m name ≡ Some bytes) × (length bytes ≤ 2 ^ 28))
there_for None name there = tt
there_for (Some k) name there = (there.bytes, file_at-held k most_store name there.bytes there.held, within k name there.bytes there.held)

-- a part shows that the nodes are of no trees
pub bad_shown : (files : Option Files) (name : List ℕ) (nodes : Opened) (r : Refusal) → IfTold files (λ m. HasHeader m name)
    → IfStands files name (λ m. Means nodes files (forest_of m)) → IsBad nodes files r → IsUnopened files name r
bad_shown files name nodes r header means b q = record {
  shows =
      subst (λ x. Shows files name q (Err x)) (sym b.refusal)
      (shows files name q no_store (Err store_fault) header refl (λ k m e there is. absurd (b.bad (forest_of m) (means k m e there is))));
  cause = subst HasCause (sym b.refusal) fault-cause;
}

-- the refusal of a part that showed it
pub bad_part : (nodes : Opened) (files : Option Files) (s : Stop) → AreBad nodes files → IfRefused s (λ r. r ≡ store_fault) → IfRefused s (IsBad nodes files)
bad_part nodes files s bad = refused-map s (λ r. r ≡ store_fault) (IsBad nodes files) (λ r e. record { refusal = e; bad = bad })

pub bad_nodes : (files : Option Files) (name : List ℕ) (nodes : Opened) (h : Halt) → IfTold files (λ m. HasHeader m name)
    → IfStands files name (λ m. Means nodes files (forest_of m)) → IfStopped h (IsBad nodes files) → IfStopped h (IsUnopened files name)
bad_nodes files name nodes h header means =
    stopped-map h (IsBad nodes files) (IsUnopened files name) (λ r b. bad_shown files name nodes r header means b)

-- nodes that are of no trees are of none after more of them were read
pub bad_before : (old new : Opened) (a b : Option Files) (h : Halt) → ((forest : Forest) → Means old a forest → Means new b forest) → IfStopped h (IsBad new b) → IfStopped h (IsBad old a)
bad_before old new a b h on =
    stopped-map h (IsBad new b) (IsBad old a)
    (λ r k. record { refusal = k.refusal; bad = λ forest means. k.bad forest (on forest means) })

pub opened_for : (files : Option Files) (name : List ℕ) (q : QueryTerm) (h : Halt) → IfStopped h (IsUnopened files name) → IfStopped h (IsShown files name q)
opened_for files name q h = stopped-map h (IsUnopened files name) (IsShown files name q) (λ r k. k q)

-- what is told by nodes that were opened, and whose roots were read
pub told_of : (a b c : Option Files) (name : List ℕ) (opened nodes : Opened) (names : List (List ℕ)) (facts : List Fact) → b ≡ a → c ≡ a → opened.file ≡ name
    → IfStands a name (λ m. Means opened a (forest_of m)) → ((forest : Forest) → Means opened b forest ↔ Means nodes c forest) → nodes.lengths ≡ opened.lengths
    → names ≡ opened.names → facts ≡ node_facts names nodes.lengths nodes.roots → ((k : ℕ) → k < length names → IsRootKnown nodes.lengths nodes.roots k)
    → IfStands a name (IsTold nodes a names facts)
told_of a b c name opened nodes names facts first second file means on lengths named facts_are some k m told stands is =
    let before : Means opened a (forest_of m) = means k m told stands is in
    let of = header_of opened a k name m before told file stands is in
    let after : Means nodes a (forest_of m) = subst (λ f. Means nodes f (forest_of m)) second ((on (forest_of m)).0 (subst (λ f. Means opened f (forest_of m)) (sym first) before)) in
    let all : names ≡ names_in m = named ∙ of.names in
    record { means = after; names_are = all; facts_are = facts_are ∙ facts_told nodes a m names after is all (lengths ∙ of.lengths) some }

-- ---- a query that is not admitted

pub not_admitted : (files : Option Files) (name : List ℕ) (q : QueryTerm) (facts : List Fact) (s : Stop) → IfTold files (λ m. HasHeader m name)
    → IfStands files name (λ m. facts ≡ facts_in m) → IfRefused s (IsNotAdmitted (refusal_of facts (plain q))) → IfRefused s (IsShown files name q)
not_admitted files name q facts s header same =
    refused-map s (IsNotAdmitted (refusal_of facts (plain q))) (IsShown files name q)
    (λ r k. record {
      shows =
          subst (λ x. Shows files name q (Err x)) (sym k.refusal)
          (shows files name q (refused k.why) (Err (query_refusal k.why)) header refl (λ f m e there is.
          ap (λ o. and_then (unless_refused query_refusal (record { store = m; query = q }) o) (λ asked. Ok (Some asked)))
          (ap (λ fs. refusal_of fs (plain q)) (sym (same f m e there is)) ∙ k.called)));
      cause = subst HasCause (sym k.refusal) (whole.caused k.why);
    })

-- ---- a query that is answered

-- what the steps found
pub record Found (files : Option Files) (name : List ℕ) (q : QueryTerm) (nodes : Opened) (names : List (List ℕ)) (facts : List Fact) (budget : ℕ) (a : Answer) : Type 0 where
  pub header : IfTold files (λ m. HasHeader m name)
  pub told : IfStands files name (IsTold nodes files names facts)
  pub admitted : refusal_of facts (plain q) ≡ None
  pub tells : (forest : Forest) → Means nodes files forest → Tells (plain q) (roots (plain q) forest names) budget a

tells_store : (files : Option Files) (name : List ℕ) (q : QueryTerm) (nodes : Opened) (names : List (List ℕ)) (facts : List Fact) (budget : ℕ) (a : Answer)
    → Found files name q nodes names facts budget a → IfStands files name (λ m. Tells (plain q) (roots_in (plain q) m) budget a)
tells_store files name q nodes names facts budget a f k m e there is =
    let t = f.told k m e there is in
    subst (λ ns. Tells (plain q) (roots (plain q) (forest_of m) ns) budget a) t.names_are (f.tells (forest_of m) t.means)

is_answered : (files : Option Files) (name : List ℕ) (q : QueryTerm) (nodes : Opened) (names : List (List ℕ)) (facts : List Fact) (budget : ℕ) (a : Answer)
    → Found files name q nodes names facts budget a → IfStands files name (λ m. IsAnsweredFor q budget names a (record { store = m; query = q }))
is_answered files name q nodes names facts budget a f k m e there is =
    let t = f.told k m e there is in
    let tells = tells_store files name q nodes names facts budget a f k m e there is in
    let fits = forest_fits nodes files (forest_of m) t.means in
    record {
      query_is = refl;
      names_are = t.names_are;
      is_answer = whole.is_answer q m budget a tells (whole.holds (plain q) m nodes.lengths budget a fits (IsPlain-plain q) tells);
    }

is_admitted : (q : QueryTerm) (m : StoreValue) (facts : List Fact) → facts ≡ facts_in m → refusal_of facts (plain q) ≡ None
    → asked_of answered q (Ok m) ≡ Ok (Some (record { store = m; query = q }))
is_admitted q m facts same none =
    let asked : Asked = record { store = m; query = q } in
    ap (λ o. and_then (unless_refused query_refusal asked o) (λ a. Ok (Some a))) (ap (λ fs. refusal_of fs (plain q)) (sym same) ∙ none)

pub answered_over : (files : Option Files) (name : List ℕ) (q : QueryTerm) (nodes : Opened) (names : List (List ℕ)) (facts : List Fact) (budget : ℕ) (a : Answer)
    → Found files name q nodes names facts budget a → IsAnsweredOver files name q budget names a
answered_over files name q nodes names facts budget a f =
    let P : Result (Option Asked) Refusal → Type 0 = λ x. (asked : Option Asked) × (x ≡ Ok asked) × IsAnsweredAs q budget names a asked in
    let k = by_parts P files name q answered f.header (None, refl, tt)
    (λ s m e there is. (
      Some (record { store = m; query = q }),
      is_admitted q m facts (f.told s m e there is).facts_are f.admitted,
      is_answered files name q nodes names facts budget a f s m e there is,
    )) in
    record { asked = k.2.0; shows = subst (Shows files name q) k.2.1 k.1; answer = k.2.2 }

-- ---- the bytes that are handed out

sum_of : (header series names splits opened : ℕ) (a b c : Option ℕ) → names ≡ series → HandsOut (header + 56 * names) a b → HandsOut (112 * splits + 64 * opened) b c
    → HandsOut (header + 56 * (series + 2 * splits) + 64 * opened) a c
sum_of header series names splits opened a b c same first second = λ now e.
    let k = second now e in let j = first k.0 k.1 in (j.0, j.1, omega (arith, same, j.2, k.2))

pub hands_over : (files : Option Files) (name : List ℕ) (q : QueryTerm) (nodes : Opened) (names : List (List ℕ)) (facts : List Fact) (budget : ℕ) (a : Answer) (before between now : Option ℕ)
    → Found files name q nodes names facts budget a → HandsOut (header_len names + 56 * length names) before between
    → HasSpent (spent.roots_in (plain q) nodes.lengths 0 names) (length a.cut) a.opened between now → HandsOver files name q budget names a before now
hands_over None name q nodes names facts budget a before between now f first second = tt
hands_over (Some k) name q nodes names facts budget a before between now f first second = λ m is there.
    let t = f.told k m refl there is in
    let answer = is_answered (Some k) name q nodes names facts budget a f k m refl there is in
    let tells = answer.is_answer.tells in
    let fits = forest_fits nodes (Some k) (forest_of m) t.means in
    let opened : a.opened ≡ opened_in a.cut = tells.opened ∙ ap opened_in (sym tells.rows) in
    let series : length names ≡ length m.series = ap length t.names_are ∙ length-map m.series name_of in
    let rows : spent.roots_in (plain q) nodes.lengths 0 names ≡ length (told (cut_of (roots_in (plain q) m))) =
    root_rows (plain q) nodes.lengths (forest_of m) names fits ∙ ap (λ ns. length (told (cut_of (roots (plain q) (forest_of m) ns)))) t.names_are in
    record {
      answer = answer;
      parts = record {
        splits = second.splits;
        more = second.more ∙ ap (λ n. n + second.splits) rows;
        handed =
            subst (λ n. HandsOut (parts_size m second.splits n) before now) opened
            (subst (λ h. HandsOut (h + 56 * (length m.series + 2 * second.splits) + 64 * a.opened) before now) (ap header_len t.names_are)
            (sum_of (header_len names) (length m.series) (length names) second.splits a.opened before between now series first second.handed));
      };
    }

-- ---- over the same files

pub tells_for : (a b : Option Files) (nodes : Opened) (names : List (List ℕ)) (p q : QueryTerm) (budget : ℕ) (x : Answer) → b ≡ a → p ≡ q
    → ((forest : Forest) → Means nodes b forest → Tells p (roots p forest names) budget x) → (forest : Forest) → Means nodes a forest → Tells q (roots q forest names) budget x
tells_for a b nodes names p q budget x same is tells forest means =
    subst (λ t. Tells t (roots t forest names) budget x) is (tells forest (subst (λ f. Means nodes f forest) (sym same) means))

pub unopened_moved : (a b : Option Files) (name : List ℕ) (h : Halt) → b ≡ a → IfStopped h (IsUnopened b name) → IfStopped h (IsUnopened a name)
unopened_moved a b name h same k = subst (λ f. IfStopped h (IsUnopened f name)) same k

pub bad_moved : (a b : Option Files) (nodes : Opened) (h : Halt) → b ≡ a → IfStopped h (IsBad nodes b) → IfStopped h (IsBad nodes a)
bad_moved a b nodes h same k = subst (λ f. IfStopped h (IsBad nodes f)) same k

pub header_moved : (a b : Option Files) (name : List ℕ) → b ≡ a → IfTold b (λ m. HasHeader m name) → IfTold a (λ m. HasHeader m name)
header_moved a b name same k = subst (λ f. IfTold f (λ m. HasHeader m name)) same k

pub means_moved : (a b : Option Files) (name : List ℕ) (nodes : Opened) → b ≡ a → IfStands b name (λ m. Means nodes b (forest_of m)) → IfStands a name (λ m. Means nodes a (forest_of m))
means_moved a b name nodes same k = subst (λ f. IfStands f name (λ m. Means nodes f (forest_of m))) same k
