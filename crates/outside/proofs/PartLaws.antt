-- A list of which a part was written.
use Rattle.std.proofs.Common.{◌≡◌, ◌≤◌, ◌+◌, ◌++◌, ℕ, List, length, take, ap, sym, ◌∙◌, arith}
use Rattle.std.proofs.lemmas.List.{append_assoc, take-take, take_all, take-append-le, length-take}
use Rattle.std.proofs.Math.Seq.{take-append-add}

-- its front, up to n places behind the place where the part begins
pub take-written : (front base part rest more : List ℕ) (start n long : ℕ) → take start base ≡ front → length front ≡ start → n ≤ length part → start + n ≤ long
    → take (start + n) (take long ((take start base ++ (part ++ rest)) ++ more)) ≡ front ++ take n part
take-written front base part rest more start n long kept begins within fits =
    take-take (start + n) long _ fits
    ∙ ap (λ f. take (start + n) ((f ++ (part ++ rest)) ++ more)) kept
    ∙ ap (take (start + n)) (append_assoc front (part ++ rest) more)
    ∙ ap (λ s. take (s + n) (front ++ ((part ++ rest) ++ more))) (sym begins)
    ∙ take-append-add front ((part ++ rest) ++ more) n
    ∙ ap (λ xs. front ++ xs) (ap (take n) (append_assoc part rest more) ∙ take-append-le n part (rest ++ more) within)

-- what stood there before it was made longer
pub take-lengthened : (old filling : List ℕ) (start long : ℕ) → length old ≡ start → start ≤ long → take start (take long old ++ filling) ≡ old
take-lengthened old filling start long begins longer =
    take-append-le start (take long old) filling (omega (arith, length-take long old)) ∙ ap (take start) (take_all long old (omega arith)) ∙ take_all start old (omega arith)
