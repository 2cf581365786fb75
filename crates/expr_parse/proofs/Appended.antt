-- What is put behind a text in several steps.
use Rattle.std.proofs.Common.{◌≡◌, ℕ, List, ◌++◌, ◌∙◌, ap, append_assoc}

pub two : (a b c x y : List ℕ) → b ≡ a ++ x → c ≡ b ++ y → c ≡ a ++ (x ++ y)
two a b c x y e f = f ∙ ap (λ t. t ++ y) e ∙ append_assoc a x y

pub three : (a b c d x y z : List ℕ) → b ≡ a ++ x → c ≡ b ++ y → d ≡ c ++ z → d ≡ a ++ (x ++ y ++ z)
three a b c d x y z e f g = two a c d (x ++ y) z (two a b c x y e f) g

pub five : (a b c d e f x y z v w : List ℕ) → b ≡ a ++ x → c ≡ b ++ y → d ≡ c ++ z → e ≡ d ++ v → f ≡ e ++ w → f ≡ a ++ (x ++ y ++ z ++ v ++ w)
five a b c d e f x y z v w h i j k l = three a d e f (x ++ y ++ z) v w (three a b c d x y z h i j) k l
