-- The first greatest of numbers at the places of elements is that of the heaviest element.
use Rattle.std.proofs.Common.{◌≡◌, ℕ, ◌+◌, ◌<◌, ◌≤◌, cond, true, false, inl, inr, Option, Some, None, List, [], ◌∷◌, refl, sym, ap, subst, ◌∙◌, arith}
use Rattle.std.specs.Prelude.{nat_le, ◌==◌}
use Rattle.std.proofs.lemmas.Bool.{eq-eqb}
use Rattle.std.proofs.lemmas.Bool.Decides.{nat_tests}
use Rattle.tops.specs.Tops.{number, IsTop}
use Rattle.descent.specs.Charges.{AreChargesOf, GoUp, TopIsHeaviest}
use Rattle.descent.specs.Choice.{Has, heavier, heaviest}
use Rattle.descent.proofs.Heaviest.{heaviest-found}
use Rattle.descent.proofs.SumLaws.{up-low}

heavier-none : {A : Type 0} → (w : A → ℕ) (x : A) → 0 < w x → heavier w x None ≡ Some x
heavier-none w x some = let b : (w x == 0) ≡ false = grind (arith, nat_tests) in rw b refl

heavier-first : {A : Type 0} → (w : A → ℕ) (x y : A) → w y ≤ w x → heavier w x (Some y) ≡ Some x
heavier-first w x y le = let b : nat_le (w y) (w x) ≡ true = grind (arith, nat_tests) in rw b refl

heavier-second : {A : Type 0} → (w : A → ℕ) (x y : A) → w x < w y → heavier w x (Some y) ≡ Some y
heavier-second w x y lt = let b : nat_le (w y) (w x) ≡ false = grind (arith, nat_tests) in rw b refl

at-front : {A : Type 0} → (w : A → ℕ) (x : A) (xs : List A) (o : Option A) → heaviest w xs ≡ o → 0 < w x
    → ((y : A) → Has y xs → w y ≤ w x) → heavier w x o ≡ Some x
at-front w x xs None e some all = heavier-none w x some
at-front w x xs (Some y) e some all = heavier-first w x y (all y ((heaviest-found w xs y e).there))

-- the heaviest of the elements from a place on
heaviest-at : {A : Type 0} → (place w : A → ℕ) (from : ℕ) (xs : List A) (x : A) → GoUp place from xs → Has x xs
    → 0 < w x → ((y : A) → Has y xs → w y ≤ w x) → ((y : A) → Has y xs → place y < place x → w y < w x)
    → heaviest w xs ≡ Some x
heaviest-at place w from [] x u h some most first = absurd h
heaviest-at place w from (y ∷ xs) x u (inl e) some most first =
    rw e (at-front w y xs (heaviest w xs) refl (rw (← e) some) (λ z m. rw (← e) (most z (inr m))))
heaviest-at place w from (y ∷ xs) x u (inr h) some most first =
    let low = up-low place (place y + 1) xs x u.1 h in
    let lt = first y (inl refl) (omega arith) in
    ap (heavier w y) (heaviest-at place w (place y + 1) xs x u.1 h some (λ z m. most z (inr m))
    (λ z m p. first z (inr m) p))
    ∙ heavier-second w y x lt

pub none-at : {A : Type 0} → (w : A → ℕ) (xs : List A) → ((x : A) → Has x xs → w x ≡ 0) → heaviest w xs ≡ None
none-at w [] h = refl
none-at w (x ∷ xs) h =
    let z = h x (inl refl) in
    let b : (w x == 0) ≡ true = eq-eqb (w x) 0 z in
    ap (heavier w x) (none-at w xs (λ y m. h y (inr m))) ∙ ap (λ t. cond t None (Some x)) b

pub top-is-heaviest : {A : Type 0} → (place w : A → ℕ) (xs : List A) (ns : List ℕ) (at : ℕ)
    → AreChargesOf place w xs ns → IsTop ns at → TopIsHeaviest place w xs ns at
top-is-heaviest place w xs ns at is top = record {
  some = λ some.
      let x = is.others at some in
      let own : number ns at ≡ w x.0 = ap (number ns) (sym x.2) ∙ is.each x.0 x.1 in (
        x.0,
        x.1,
        x.2,
        heaviest-at place w 0 xs x.0 is.order x.1 (omega arith)
            (λ y m. omega (arith, top.most (place y), is.each y m))
            (λ y m lt. let p : place y < at = subst (λ k. place y < k) x.2 lt in
            omega (arith, top.first (place y) p, is.each y m)),
      );
  none = λ z. none-at w xs (λ y m. omega (arith, top.most (place y), is.each y m));
}
