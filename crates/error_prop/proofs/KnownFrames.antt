-- Frames whose series are all known admit what is admitted over what is known.
use Rattle.std.proofs.Common.{◌≡◌, ℕ, ◌+◌, ◌*◌, ◌≤◌, ◌^◌, pos, Bool, true, false, cond, List, [], ◌∷◌, Option, Some, refl, sym, subst, arith}
use Rattle.std.specs.Prelude.{codes}
use Rattle.std.specs.Option.{option_map_or}
use Rattle.semantics.specs.Admission.{fact_at, Fact}
use Rattle.semantics.specs.Admitted.{IsAdmitted, IsAdmittedSum}
use Rattle.semantics.specs.Names.{same_name}
use Rattle.semantics.specs.Term.{Term, base, constant, bare, plus, minus, times, shift, Range, QueryTerm, number, sum, variance, covariance, add, sub, mul}
use Rattle.segment.specs.declared.segments.Seg.{Seg}
use Rattle.segment.specs.Measure.{IsSane}
use Rattle.bounds.specs.Cut.{segs_of, Entry}
use Rattle.bounds.specs.Segments.{AreSaneFor, OfEachName}
use Rattle.error_prop.specs.Entries.{end_from, IsFrame}
use Rattle.error_prop.specs.Places.{end_of_name, IsShort}
use Rattle.error_prop.specs.QueryOver.{AdmitsQuery, AllEnd, IsAsKnown, OfEachSum}
use Rattle.error_prop.specs.Sums.{AdmitsSum}
use Rattle.error_prop.proofs.QueryOverLaws.{sum_admitted}

-- ---- what holds of every name

each_name : (P : List ℕ → Type 0) → ((name : List ℕ) → P name) → (t : Term) → OfEachName P t
each_name P h (base name) = h name
each_name P h (constant v a b) = tt
each_name P h (bare v) = tt
each_name P h (plus u v) = (each_name P h u, each_name P h v)
each_name P h (minus u v) = (each_name P h u, each_name P h v)
each_name P h (times u v) = (each_name P h u, each_name P h v)
each_name P h (shift u k) = each_name P h u

each_sum : (P : Term → Type 0) → ((t : Term) → P t) → (q : QueryTerm) → OfEachSum P q
each_sum P h (number v) = tt
each_sum P h (sum t range) = h t
each_sum P h (variance t range) = tt
each_sum P h (covariance t u range) = tt
each_sum P h (add p q) = (each_sum P h p, each_sum P h q)
each_sum P h (sub p q) = (each_sum P h p, each_sum P h q)
each_sum P h (mul p q) = (each_sum P h p, each_sum P h q)

pub admits_sum : (facts : List Fact) (es : List Entry) (t : Term) (range : Range) → IsAdmittedSum facts t (Some range) → ((name : List ℕ) → IsAsKnown facts es name) → AdmitsSum es t range.left range.right
admits_sum facts es t range a h = sum_admitted facts es t (Some range) a (each_name (IsAsKnown facts es) h t)

pub admits_query : (facts : List Fact) (es : List Entry) (q : QueryTerm) → IsAdmitted facts q → ((name : List ℕ) → IsAsKnown facts es name) → AdmitsQuery es q
admits_query facts es q a h = record {
  facts = facts;
  admitted = a;
  known = each_sum (OfEachName (IsAsKnown facts es)) (each_name (IsAsKnown facts es) h) q;
}

-- ---- facts and entries side by side

pub record IsOf (f : Fact) (e : Entry) : Type 0 where
  pub name : f.name ≡ e.name
  pub count : end_from 0 e.segs ≡ f.count
  pub sane : AreSaneFor f.greatest f.count e.segs

abbrev pub AreOf : List Fact → List Entry → Type 0
AreOf [] [] = Unit {0}
AreOf [] (e ∷ es) = ⊥
AreOf (f ∷ fs) [] = ⊥
AreOf (f ∷ fs) (e ∷ es) = IsOf f e × AreOf fs es

abbrev picked : Bool → Fact → List Fact → List ℕ → Option Fact
picked b f fs name = cond b (Some f) (fact_at fs name)

-- the fact and the segments that are picked for a name belong together
abbrev ArePicked : Bool → Bool → Fact → Entry → List Fact → List Entry → List ℕ → Type 0
ArePicked b c f e fs es name =
    (end_from 0 (cond c e.segs (segs_of es name)) ≡ option_map_or (λ (x : Fact). x.count) (picked b f fs name) 0)
    × AreSaneFor (option_map_or (λ (x : Fact). x.greatest) (picked b f fs name) 0) (option_map_or (λ (x : Fact). x.count) (picked b f fs name) 0) (cond c e.segs (segs_of es name))

pick : (b : Bool) (f : Fact) (e : Entry) (fs : List Fact) (es : List Entry) (name : List ℕ) → IsOf f e → IsAsKnown fs es name → ArePicked b b f e fs es name
pick true f e fs es name h k = (h.count, h.sane)
pick false f e fs es name h k = (k.count, k.sane)

pub known : (fs : List Fact) (es : List Entry) → AreOf fs es → (name : List ℕ) → IsAsKnown fs es name
known [] [] h name = record { count = refl; sane = record { each = tt; few = omega arith } }
known [] (e ∷ es) h name = absurd h
known (f ∷ fs) [] h name = absurd h
known (f ∷ fs) (e ∷ es) h name =
    let both : ArePicked (same_name f.name name) (same_name e.name name) f e fs es name =
    subst (λ n. ArePicked (same_name f.name name) (same_name n name) f e fs es name) h.0.name
    (pick (same_name f.name name) f e fs es name h.0 (known fs es h.1 name)) in
    record { count = both.0; sane = both.1 }

-- ---- frames that end early

pub ends_early : (es : List Entry) → AllEnd es → (name : List ℕ) → end_of_name es name ≤ 2 ^ 20
ends_early [] h name = omega arith
ends_early (e ∷ es) h name = at (same_name e.name name) (ends_early es h.1 name)
  where
    at : (b : Bool) → end_of_name es name ≤ 2 ^ 20 → end_from 0 (cond b e.segs (segs_of es name)) ≤ 2 ^ 20
    at true k = h.0
    at false k = k

-- ---- a first series, and a second one of three readings

abbrev pub steps : Seg
steps = record { start = 0; len = 3; a = pos 32768; b = pos 0; c = pos 0; l = 32768; d = 3; f = 32768 }

abbrev pub with_steps : List Seg → List Entry
with_steps gs = record { name = codes "x"; segs = gs } ∷ record { name = codes "y"; segs = steps ∷ [] } ∷ []

abbrev pub facts_of_two : ℕ → List Fact
facts_of_two n = record { name = codes "x"; count = n; greatest = 10 } ∷ record { name = codes "y"; count = 3; greatest = 3 } ∷ []

steps_sane : IsSane steps 3
steps_sane = record {
  bounded = record { constant = omega arith; linear = omega arith; square = omega arith };
  below_root = omega arith;
  root = omega arith;
  estimates = omega arith;
  misses = omega arith;
}

steps_are : IsOf (record { name = codes "y"; count = 3; greatest = 3 }) (record { name = codes "y"; segs = steps ∷ [] })
steps_are = record { name = refl; count = refl; sane = record { each = (steps_sane, tt); few = omega arith } }

pub roots_known : (g : Seg) → IsSane g 10 → (name : List ℕ) → IsAsKnown (facts_of_two g.len) (with_steps (g ∷ [])) name
roots_known g h = known (facts_of_two g.len) (with_steps (g ∷ [])) (record { name = refl; count = omega arith; sane = record { each = (h, tt); few = omega arith } }, (steps_are, tt))

pub roots_short : (g : Seg) → g.len ≤ 2 ^ 20 → IsShort (with_steps (g ∷ []))
roots_short g h = record { few = omega arith; ends = ends_early (with_steps (g ∷ [])) (omega arith, (omega arith, tt)) }

-- ---- the same where the first one is opened

abbrev pub exact : ℕ → ℕ → Seg
exact start reading = record { start = start; len = 1; a = pos (16384 * reading); b = pos 0; c = pos 0; l = 0; d = reading; f = 16384 * reading }

abbrev pub three : List Seg
three = exact 0 0 ∷ exact 1 10 ∷ exact 2 0 ∷ []

exact_sane : (start reading : ℕ) → reading ≤ 10 → IsSane (exact start reading) 10
exact_sane start reading h = record {
  bounded = record { constant = omega arith; linear = omega arith; square = omega arith };
  below_root = omega arith;
  root = omega arith;
  estimates = omega arith;
  misses = omega arith;
}

pub opened_known : (name : List ℕ) → IsAsKnown (facts_of_two 3) (with_steps three) name
opened_known = known (facts_of_two 3) (with_steps three)
    (record { name = refl; count = refl; sane = record { each = (exact_sane 0 0 (omega arith), (exact_sane 1 10 (omega arith), (exact_sane 2 0 (omega arith), tt))); few = omega arith } }, (steps_are, tt))

pub opened_short : IsShort (with_steps three)
opened_short = record { few = omega arith; ends = ends_early (with_steps three) (omega arith, (omega arith, tt)) }

-- ---- frames and facts that are known to be these

pub admits : (facts : List Fact) (es : List Entry) (u t : Term) (range : Range) → u ≡ t → IsAdmitted facts (sum u (Some range)) → ((name : List ℕ) → IsAsKnown facts es name) → AdmitsSum es t range.left range.right
admits facts es u t range e a h = subst (λ s. AdmitsSum es s range.left range.right) e (admits_sum facts es u range a h)

pub are_known : (facts : List Fact) (es : List Entry) (n : ℕ) (gs : List Seg) → facts ≡ facts_of_two n → es ≡ with_steps gs → ((name : List ℕ) → IsAsKnown (facts_of_two n) (with_steps gs) name) → (name : List ℕ) → IsAsKnown facts es name
are_known facts es n gs p q h name =
    subst (λ fs. IsAsKnown fs es name) (sym p) (subst (λ (xs : List Entry). IsAsKnown (facts_of_two n) xs name) (sym q) (h name))

pub roots_frame : (g : Seg) → g.start ≡ 0 → IsFrame (with_steps (g ∷ []))
roots_frame g h = record {
  distinct = ((refl, tt), (tt, tt));
  touch = (record { to = 0 + g.len; touch = (h, refl) }, (record { to = 3; touch = (refl, refl) }, tt));
}

pub opened_frame : IsFrame (with_steps three)
opened_frame = record {
  distinct = ((refl, tt), (tt, tt));
  touch = (record { to = 3; touch = (refl, (refl, (refl, refl))) }, (record { to = 3; touch = (refl, refl) }, tt));
}
