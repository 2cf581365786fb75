-- What is kept of all sums of a query.
use Rattle.std.proofs.Common.{◌≡◌, ℕ, zero, suc, ◌+◌, ◌<◌, ◌≤◌, ◌^◌, Option, Some, None, List, [], ◌∷◌, ◌++◌, length, map, take, get_or, set, refl, sym, ap, ap₂, subst, ◌∙◌, arith, unsigned_abs}
use Rattle.std.specs.List.{All}
use Rattle.std.proofs.lemmas.List.{map-append, length-map, take_all}
use Rattle.semantics.specs.Admission.{SumTerm, sums_of}
use Rattle.semantics.specs.Admitted.{IsAdmitted, IsAdmittedSum}
use Rattle.semantics.specs.Limits.{most_names_in, query_depth, IsNearQuery, IsWithinLimits}
use Rattle.semantics.specs.Plain.{IsPlain}
use Rattle.semantics.specs.Readings.{positions_in}
use Rattle.semantics.specs.Term.{Term, Range, QueryTerm, number, sum, variance, covariance, add, sub, mul}
use Rattle.error_prop.specs.declared.query.SumIn.{SumIn}
use Rattle.semantics.specs.Value.{domain_of}
use Rattle.error_prop.specs.declared.query.SumLine.{SumLine}
use Rattle.error_prop.specs.Places.{end_of_name, IsShort}
use Rattle.error_prop.specs.Queries.{lines_of, IsAdmittedWith}
use Rattle.error_prop.specs.QueryOver.{range_over, sums_over, EachAdmitted}
use Rattle.error_prop.proofs.QueryOverLaws.{admitted_over, each_admitted, near_sum}
use Rattle.descent.specs.declared.Pick.{Pick}
use Rattle.descent.specs.declared.cuts.Change.{Change}
use Rattle.descent.specs.declared.cuts.State.{State}
use Rattle.descent.specs.declared.cuts.State.TheVariants.{Old, Noted, Current}
use Rattle.descent.specs.declared.kept.KeptSum.{KeptSum}
use Rattle.descent.specs.Changed.{CanKeep}
use Rattle.descent.specs.Charging.{weight_in, IsFirst}
use Rattle.descent.specs.Choice.{charge, charged_rows, choice, heaviest, pick_if, row_of, At}
use Rattle.descent.specs.CutFields.{restored_at, IsKeptAs}
use Rattle.descent.specs.Held.{row_in, shown, Held}
use Rattle.descent.specs.Keeping.{state_after, state_back, AreTakenOver, CanKeepAll}
use Rattle.descent.specs.KeptSums.{AreKeptSums, IsKeptSum}
use Rattle.descent.specs.Known.{facts_in, AreApart}
use Rattle.descent.specs.Laid.{held}
use Rattle.descent.specs.Rows.{Cut, Track, entries, with_rows}
use Rattle.descent.specs.Sound.{name_of, IsFrameFor, IsSound, IsSoundTrack}
use Rattle.descent.specs.Sums.{count_of, first_of, sum_in}
use Rattle.descent.proofs.ChoiceLaws.{first-at, whole-count}
use Rattle.descent.proofs.SoundLaws.{frames-for, shown-facts, shown-names}
use Rattle.descent.proofs.Works.{counts}

-- ---- an element at a place

pub at-front : {A : Type 0} → (k : ℕ) (x : A) (us vs : List A) → At k x us → At k x (us ++ vs)
at-front k x [] vs h = absurd h
at-front zero x (u ∷ us) vs h = h
at-front (suc k) x (u ∷ us) vs h = at-front k x us vs h

pub at-behind : {A : Type 0} → (k m : ℕ) (x : A) (us vs : List A) → k ≡ length us + m → At m x vs → At k x (us ++ vs)
at-behind k m x [] vs e h = subst (λ j. At j x vs) (omega arith) h
at-behind zero m x (u ∷ us) vs e h = absurd (omega arith)
at-behind (suc k) m x (u ∷ us) vs e h = at-behind k m x us vs (omega arith) h

pub at-within : {A : Type 0} → (k : ℕ) (x : A) (us : List A) → At k x us → k < length us
at-within k x [] h = absurd h
at-within zero x (u ∷ us) h = omega arith
at-within (suc k) x (u ∷ us) h = let i = at-within k x us h in omega arith

-- ---- sums that are kept, one after the other

pub kept-length : (cut : Cut) (ss : List SumTerm) (ks : List KeptSum) → AreKeptSums cut ss ks → length ks ≡ length ss
kept-length cut [] [] h = refl
kept-length cut [] (k ∷ ks) h = absurd h
kept-length cut (s ∷ ss) [] h = absurd h
kept-length cut (s ∷ ss) (k ∷ ks) h = ap suc (kept-length cut ss ks h.1)

pub kept-more : (cut : Cut) (i : ℕ) (s : SumTerm) (ss : List SumTerm) (ks : List KeptSum) (k : KeptSum) → At i s ss → AreKeptSums cut (take i ss) ks → IsKeptSum cut s k → AreKeptSums cut (take (suc i) ss) (ks ++ k ∷ [])
kept-more cut i s [] ks k at h is = absurd at
kept-more cut zero s (t ∷ ss) [] k at h is = (subst (λ u. IsKeptSum cut u k) at is, λ z. z)
kept-more cut zero s (t ∷ ss) (l ∷ ks) k at h is = absurd h
kept-more cut (suc i) s (t ∷ ss) [] k at h is = absurd h
kept-more cut (suc i) s (t ∷ ss) (l ∷ ks) k at h is = (h.0, kept-more cut i s ss ks k at h.1 is)

pub kept-at : (cut : Cut) (i : ℕ) (s : SumTerm) (ss : List SumTerm) (ks : List KeptSum) (k : KeptSum) → At i s ss → AreKeptSums cut ss ks → k ≡ get_or ks i k → IsKeptSum cut s k
kept-at cut i s [] ks k at h e = absurd at
kept-at cut i s (t ∷ ss) [] k at h e = absurd h
kept-at cut zero s (t ∷ ss) (l ∷ ks) k at h e = subst (λ u. IsKeptSum cut u k) (sym at) (subst (IsKeptSum cut t) (sym e) h.0)
kept-at cut (suc i) s (t ∷ ss) (l ∷ ks) k at h e = kept-at cut i s ss ks k at h.1 e

pub can-at : (cut : Cut) (i : ℕ) (s : SumTerm) (ss : List SumTerm) → At i s ss → CanKeepAll cut ss → CanKeep cut s
can-at cut i s [] at h = absurd at
can-at cut zero s (t ∷ ss) at h = subst (CanKeep cut) (sym at) h.0
can-at cut (suc i) s (t ∷ ss) at h = can-at cut i s ss at h.1

-- ---- sums that take over a change, one after the other

pub taken-length : (i : ℕ) (before now : Cut) (ss : List SumTerm) (ks : List KeptSum) → AreTakenOver i before now ss ks → length ks ≡ length ss
taken-length zero before now ss ks h = kept-length before ss ks h
taken-length (suc i) before now [] [] h = refl
taken-length (suc i) before now [] (k ∷ ks) h = absurd h
taken-length (suc i) before now (s ∷ ss) [] h = absurd h
taken-length (suc i) before now (s ∷ ss) (k ∷ ks) h = ap suc (taken-length i before now ss ks h.1)

pub taken-at : (i : ℕ) (before now : Cut) (s : SumTerm) (ss : List SumTerm) (ks : List KeptSum) (k : KeptSum) → At i s ss → AreTakenOver i before now ss ks → k ≡ get_or ks i k → IsKeptSum before s k
taken-at zero before now s ss ks k at h e = kept-at before zero s ss ks k at h e
taken-at (suc i) before now s [] ks k at h e = absurd at
taken-at (suc i) before now s (t ∷ ss) [] k at h e = absurd h
taken-at (suc i) before now s (t ∷ ss) (l ∷ ks) k at h e = taken-at i before now s ss ks k at h.1 e

pub taken-more : (i : ℕ) (before now : Cut) (s : SumTerm) (ss : List SumTerm) (ks : List KeptSum) (k : KeptSum) → At i s ss → AreTakenOver i before now ss ks → IsKeptSum now s k → AreTakenOver (suc i) before now ss (set ks i k)
taken-more i before now s [] ks k at h is = absurd at
taken-more zero before now s (t ∷ ss) [] k at h is = absurd h
taken-more zero before now s (t ∷ ss) (l ∷ ks) k at h is = (subst (λ u. IsKeptSum now u k) at is, h.1)
taken-more (suc i) before now s (t ∷ ss) [] k at h is = absurd h
taken-more (suc i) before now s (t ∷ ss) (l ∷ ks) k at h is = (h.0, taken-more i before now s ss ks k at h.1 is)

pub taken-all : (i : ℕ) (before now : Cut) (ss : List SumTerm) (ks : List KeptSum) → length ss ≤ i → AreTakenOver i before now ss ks → AreKeptSums now ss ks
taken-all i before now [] [] le h = λ z. z
taken-all zero before now [] (k ∷ ks) le h = absurd h
taken-all (suc i) before now [] (k ∷ ks) le h = absurd h
taken-all zero before now (s ∷ ss) ks le h = absurd (omega arith)
taken-all (suc i) before now (s ∷ ss) [] le h = absurd h
taken-all (suc i) before now (s ∷ ss) (k ∷ ks) le h = (h.0, taken-all i before now ss ks (omega arith) h.1)

-- ---- their estimates

pub says-more : (cut : Cut) (i : ℕ) (ss : List SumTerm) (ks : List KeptSum) (k : KeptSum) (x : SumIn) → CanKeepAll cut ss → AreKeptSums cut ss ks → i < length ks → k ≡ get_or ks i k
    → ((s : SumTerm) → CanKeep cut s → IsKeptSum cut s k → x ≡ sum_in cut s) → take i (map (sum_in cut) ss) ++ x ∷ [] ≡ take (suc i) (map (sum_in cut) ss)
says-more cut i [] [] k x can h lt e says = absurd (omega arith)
says-more cut i [] (l ∷ ks) k x can h lt e says = absurd h
says-more cut i (s ∷ ss) [] k x can h lt e says = absurd h
says-more cut zero (s ∷ ss) (l ∷ ks) k x can h lt e says = ap (λ y. y ∷ []) (says s can.0 (subst (IsKeptSum cut s) (sym e) h.0))
says-more cut (suc i) (s ∷ ss) (l ∷ ks) k x can h lt e says = ap (λ ys. sum_in cut s ∷ ys) (says-more cut i ss ks k x can.1 h.1 (omega arith) e says)

pub says-all : (cut : Cut) (i : ℕ) (ss : List SumTerm) (ks : List KeptSum) → AreKeptSums cut ss ks → length ks ≤ i → take i (map (sum_in cut) ss) ≡ map (sum_in cut) ss
says-all cut i ss ks h le =
    let n = kept-length cut ss ks h in
    let m = length-map ss (sum_in cut) in
    take_all i (map (sum_in cut) ss) (omega arith)

pub sums-are : (cut : Cut) (q : QueryTerm) → IsPlain q → map (sum_in cut) (sums_of q) ≡ sums_over (entries cut) q
sums-are cut (number v) h = refl
sums-are cut (sum t range) h = refl
sums-are cut (variance t range) h = absurd h
sums-are cut (covariance t u range) h = absurd h
sums-are cut (add p q) h = map-append (sum_in cut) (sums_of p) (sums_of q) ∙ ap₂ (λ (us vs : List SumIn). us ++ vs) (sums-are cut p h.0) (sums-are cut q h.1)
sums-are cut (sub p q) h = map-append (sum_in cut) (sums_of p) (sums_of q) ∙ ap₂ (λ (us vs : List SumIn). us ++ vs) (sums-are cut p h.0) (sums-are cut q h.1)
sums-are cut (mul p q) h = map-append (sum_in cut) (sums_of p) (sums_of q) ∙ ap₂ (λ (us vs : List SumIn). us ++ vs) (sums-are cut p h.0) (sums-are cut q h.1)

-- ---- of which sums something can be kept

pub can-append : (cut : Cut) (us vs : List SumTerm) → CanKeepAll cut us → CanKeepAll cut vs → CanKeepAll cut (us ++ vs)
can-append cut [] vs a b = b
can-append cut (u ∷ us) vs a b = (a.0, can-append cut us vs a.1 b)

first-over : (cut : Cut) (t : Term) (range : Option Range) → first_of cut (record { series = t; range = range }) ≡ (range_over (entries cut) t range).left
first-over cut t (Some range) = refl
first-over cut t None = refl

count-over : (cut : Cut) (t : Term) (range : Option Range) → count_of cut (record { series = t; range = range }) ≡ positions_in (range_over (entries cut) t range).left (range_over (entries cut) t range).right
count-over cut t (Some range) = refl
count-over cut t None = sym (whole-count (domain_of (end_of_name (entries cut)) t))

can-keep : (cut : Cut) (t : Term) (range : Option Range) → IsSound cut → IsShort (entries cut) → IsAdmittedSum (facts_in cut) t range → EachAdmitted (entries cut) (sum t range)
    → most_names_in (sum t range) ≤ 32 → query_depth (sum t range) ≤ 64 → IsNearQuery (sum t range) → CanKeep cut (record { series = t; range = range })
can-keep cut t range sound short known each names depth near =
    let n = near_sum (entries cut) t range short near.0 (omega arith) near.1 in
    record {
      sound = sound;
      limits = record { names = names; rank = each.1; depth = omega arith; near = near.0 };
      admitted = each.0;
      known = known.known;
      near = subst (λ i. unsigned_abs i ≤ 2 ^ 46) (sym (first-over cut t range)) n.left;
      end = n.right;
      room = subst (λ k. k ≤ 2 ^ 41) (sym (count-over cut t range)) n.room;
    }

can-all : (cut : Cut) (q : QueryTerm) → IsSound cut → IsShort (entries cut) → IsPlain q → IsAdmitted (facts_in cut) q → EachAdmitted (entries cut) q → most_names_in q ≤ 32 → query_depth q ≤ 64 → IsNearQuery q
    → CanKeepAll cut (sums_of q)
can-all cut (number v) sound short plain adm each names depth near = tt
can-all cut (sum t range) sound short plain adm each names depth near = (can-keep cut t range sound short adm each names depth near, tt)
can-all cut (variance t range) sound short plain adm each names depth near = absurd plain
can-all cut (covariance t u range) sound short plain adm each names depth near = absurd plain
can-all cut (add p q) sound short plain adm each names depth near =
    can-append cut (sums_of p) (sums_of q) (can-all cut p sound short plain.0 adm.0 each.0 (omega arith) (omega arith) near.0) (can-all cut q sound short plain.1 adm.1 each.1 (omega arith) (omega arith) near.1)
can-all cut (sub p q) sound short plain adm each names depth near =
    can-append cut (sums_of p) (sums_of q) (can-all cut p sound short plain.0 adm.0 each.0 (omega arith) (omega arith) near.0) (can-all cut q sound short plain.1 adm.1 each.1 (omega arith) (omega arith) near.1)
can-all cut (mul p q) sound short plain adm each names depth near =
    can-append cut (sums_of p) (sums_of q) (can-all cut p sound short plain.0 adm.0 each.0 (omega arith) (omega arith) near.0) (can-all cut q sound short plain.1 adm.1 each.1 (omega arith) (omega arith) near.1)

pub can-keep-all : (cut : Cut) (q : QueryTerm) → IsSound cut → IsPlain q → IsWithinLimits q → IsAdmitted (facts_in cut) q → IsFrameFor cut q → CanKeepAll cut (sums_of q)
can-keep-all cut q sound plain limits adm f =
    can-all cut q sound f.short plain adm (each_admitted f.admitted.facts (entries cut) q f.admitted.admitted f.admitted.known) limits.names limits.depth limits.near

pub can-be-kept : {I : Type 0} → (ts : List (Track (Held I))) (q : QueryTerm) → length ts ≤ 16 → All IsSoundTrack (shown ts) → AreApart (map name_of ts) → IsPlain q → IsWithinLimits q → IsAdmitted (facts_in ts) q
    → CanKeepAll (shown ts) (sums_of q) × IsAdmittedWith q (sums_over (entries (shown ts)) q)
can-be-kept ts q few sound apart plain limits adm =
    let f = frames-for ts q few sound apart adm in
    let n = length-map ts (with_rows row_in) in
    let is : IsSound (shown ts) = record { few = omega arith; tracks = sound; apart = subst AreApart (sym (shown-names ts)) apart } in
    let a = subst (λ fs. IsAdmitted fs q) (sym (shown-facts ts)) adm in
    (can-keep-all (shown ts) q is plain limits a f, admitted_over (entries (shown ts)) q f.frame plain f.admitted)

-- ---- of which rows they are kept

pub kept-after : {I : Type 0} → (s : State) (xs ys : List (Track (Held I))) (last : Option (Change I)) (change : Change I) (ss : List SumTerm) (ks : List KeptSum) → restored_at change.table (held change.row) ys ≡ xs → IsKeptAs s xs last ss ks
    → IsKeptAs (state_after s) ys (Some change) ss ks
kept-after Old xs ys last change ss ks e h = tt
kept-after Noted xs ys last change ss ks e h = tt
kept-after Current xs ys last change ss ks e h = subst (λ (ts : List (Track (Held _))). AreKeptSums (shown ts) ss ks) (sym e) h

pub kept-back : {I : Type 0} → (s : State) (xs ys : List (Track (Held I))) (last : Option (Change I)) (change : Change I) (ss : List SumTerm) (ks : List KeptSum) → last ≡ Some change → restored_at change.table (held change.row) xs ≡ ys
    → IsKeptAs s xs last ss ks → IsKeptAs (state_back s) ys None ss ks
kept-back Old xs ys last change ss ks is e h = tt
kept-back Noted xs ys last change ss ks is e h = subst (λ (ts : List (Track (Held _))). AreKeptSums (shown ts) ss ks) e (subst (λ (o : Option (Change _)). IsKeptAs Noted xs o ss ks) is h)
kept-back Current xs ys last change ss ks is e h = tt

-- the same tracks and the same query, by other names
pub same-kept : {I : Type 0} → (s : State) (xs ys : List (Track (Held I))) (last : Option (Change I)) (p q : QueryTerm) (ks : List KeptSum) → xs ≡ ys → p ≡ q → IsKeptAs s xs last (sums_of p) ks → IsKeptAs s ys last (sums_of q) ks
same-kept s xs ys last p q ks tracks query h =
    subst (λ (ts : List (Track (Held _))). IsKeptAs s ts last (sums_of q) ks) tracks (subst (λ (t : QueryTerm). IsKeptAs s xs last (sums_of t) ks) query h)

-- ---- the choice

pub chosen : (cut : Cut) (q : QueryTerm) (sums : List SumLine) (k : ℕ) (row : Option Pick) → IsPlain q → sums ≡ lines_of q (sums_over (entries cut) q) (counts cut q) → IsFirst (weight_in sums) (length sums) k
    → ((s : SumTerm) → At k s (sums_of q) → row ≡ pick_if (heaviest charge (charged_rows cut s))) → row ≡ choice q cut
chosen cut q sums k row p e is found =
    let l = first-at cut q sums k p e is in
    found l.line.sum l.sum ∙ sym (ap (λ o. pick_if (row_of cut o)) l.found)
