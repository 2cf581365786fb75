-- Scanning a text.
use Rattle.std.proofs.Common.{◌≡◌, ℕ, ℤ, unsigned_abs, leb, ◌+◌, ◌-◌, ◌<◌, ◌≤◌, ◌^◌, Bool, true, false, cond, List, [], ◌∷◌, ◌++◌, drop, length, refl, sym, ap, ◌∙◌, arith, append_assoc, add-zero}
use Rattle.std.specs.Prelude.{◌&&◌, suc, zero, Some, None, Result, Ok, Err}
use Rattle.std.proofs.Common.{map, take, zero-add}
use Rattle.expr_parse.specs.declared.lexeme.Lexeme.{Lexeme}
use Rattle.expr_parse.specs.Lexemes.{lexeme_of, lexeme_of_bytes}
use Rattle.expr_parse.specs.declared.token.Kind.{Kind}
use Rattle.expr_parse.specs.declared.token.Token.{Token}
use Rattle.expr_parse.specs.Tokens.{front, at_front, before, tokens_from, tokens_of, AreInOrder}
use Rattle.num_text.specs.Cells.{is_blank}
use Rattle.semantics.specs.Names.{is_word_byte}
use Rattle.semantics.specs.Most.{most_number}
use Rattle.semantics.specs.Numbers.{are_digits, has_minus, number_in, number_of, with_sign, without_minus}
use Rattle.std.specs.Char.{is_ascii_digit}
use Rattle.std.specs.List.{prefix_len}
use Rattle.std.proofs.lemmas.Bool.Decides.{nat_tests}
use Rattle.std.proofs.lemmas.Int.{ints}
use Rattle.std.proofs.lemmas.List.Sums.{prefix_len-le-length}

-- tokens before others
abbrev pub after : List Token → Result (List Token) ℕ → Result (List Token) ℕ
after ts (Ok us) = Ok (ts ++ us)
after ts (Err place) = Err place

pub word_within : (text : List ℕ) → prefix_len is_word_byte text ≤ length text
word_within text = prefix_len-le-length is_word_byte text

pub digits_within : (text : List ℕ) → prefix_len is_ascii_digit text ≤ length text
digits_within text = prefix_len-le-length is_ascii_digit text

-- a number in text is not too large
pub number_in_small : (text : List ℕ) (v : ℤ) → number_in text ≡ Some v → unsigned_abs v < 2 ^ 127
number_in_small text v h = by (are_digits (without_minus text)) (leb (number_of (without_minus text)) most_number) refl h
  where
    signed : (negative : Bool) (n : ℕ) → with_sign negative n ≡ v → n ≤ most_number → unsigned_abs v < 2 ^ 127
    signed true n e small = omega (arith, ints)
    signed false n e small = omega (arith, ints)

    by : (digits small : Bool) → leb (number_of (without_minus text)) most_number ≡ small
        → cond (digits && small) (Some (with_sign (has_minus text) (number_of (without_minus text)))) None ≡ Some v → unsigned_abs v < 2 ^ 127
    by true true e h =
        let same : with_sign (has_minus text) (number_of (without_minus text)) ≡ v = cc in
        signed (has_minus text) (number_of (without_minus text)) same (grind (arith, nat_tests))
    by true false e h = cc
    by false small e h = cc

-- ---- tokens in order

in_order_further : (from to further : ℕ) (ts : List Token) → AreInOrder from ts to → to ≤ further → AreInOrder from ts further
in_order_further from to further [] h k = omega arith
in_order_further from to further (t ∷ ts) h k = (h.0, h.1, in_order_further t.to to further ts h.2 k)

pub order_further : (ts : List Token) (to further : ℕ) → AreInOrder 0 ts to → to ≤ further → AreInOrder 0 ts further
order_further ts to further h k = in_order_further 0 to further ts h k

in_order_more : (from to : ℕ) (ts : List Token) (t : Token) → AreInOrder from ts to → to ≤ t.from → t.from < t.to → AreInOrder from (ts ++ t ∷ []) t.to
in_order_more from to [] t h k some = (omega arith, some, omega arith)
in_order_more from to (u ∷ ts) t h k some = (h.0, h.1, in_order_more u.to to ts t h.2 k some)

pub order_more : (out new : List Token) (kind : Kind) (place n : ℕ) → new ≡ out ++ (record { kind = kind; from = place; to = place + n }) ∷ [] → AreInOrder 0 out place → 0 < n → AreInOrder 0 new (place + n)
order_more out new kind place n e h some = rw e (in_order_more 0 place out (record { kind = kind; from = place; to = place + n }) h (omega arith) (omega arith))

-- ---- scanning

drop_all : (xs : List ℕ) (i : ℕ) → length xs ≤ i → drop i xs ≡ []
drop_all [] zero h = refl
drop_all [] (suc i) h = refl
drop_all (x ∷ xs) zero h = absurd (omega arith)
drop_all (x ∷ xs) (suc i) h = drop_all xs i (omega arith)

pub after_none : (r : Result (List Token) ℕ) → after [] r ≡ r
after_none (Ok ts) = refl
after_none (Err p) = refl

pub after_one : (ts : List Token) (t : Token) (r : Result (List Token) ℕ) → after (ts ++ t ∷ []) r ≡ after ts (before t r)
after_one ts t (Ok us) = ap Ok (append_assoc ts (t ∷ []) us)
after_one ts t (Err p) = refl

pub skip : (left place : ℕ) (text : List ℕ) → left ≤ length text → tokens_from left place text ≡ tokens_from 0 (place + left) (drop left text)
skip zero place text h = ap (λ q. tokens_from 0 q text) (sym (add-zero place))
skip (suc left) place [] h = absurd (omega arith)
skip (suc left) place (c ∷ text) h =
    let e : suc place + left ≡ place + suc left = omega arith in
    skip left (suc place) text (omega arith) ∙ ap (λ q. tokens_from 0 q (drop left text)) e

choose_second : (b : Bool) (x y : Result (List Token) ℕ) → b ≡ false → cond b x y ≡ y
choose_second b x y e = rw e refl

-- one token
pub scan_token : (c : ℕ) (cs : List ℕ) (place n : ℕ) (kind : Kind) → is_blank c ≡ false → front (c ∷ cs) ≡ Some (kind, n) → 0 < n → n ≤ length (c ∷ cs) → tokens_from 0 place (c ∷ cs) ≡ before (record { kind = kind; from = place; to = place + n }) (tokens_from 0 (place + n) (drop n (c ∷ cs)))
scan_token c cs place zero kind b f some within = absurd (omega arith)
scan_token c cs place (suc left) kind b f some within =
    let d : suc left - 1 ≡ left = omega arith in
    let e : suc place + left ≡ place + suc left = omega arith in
    choose_second _ _ _ b
    ∙ ap (λ o. at_front place o (λ l. tokens_from l (suc place) cs)) f
    ∙ ap (λ l. before (record { kind = kind; from = place; to = place + suc left }) (tokens_from l (suc place) cs)) d
    ∙ ap (before (record { kind = kind; from = place; to = place + suc left })) (skip left (suc place) cs (omega arith) ∙ ap (λ q. tokens_from 0 q (drop left cs)) e)

pub scan_token_at : (rest : List ℕ) (c : ℕ) (cs : List ℕ) (place n : ℕ) (kind : Kind) → rest ≡ c ∷ cs → is_blank c ≡ false → front rest ≡ Some (kind, n) → 0 < n → n ≤ length rest → tokens_from 0 place rest ≡ before (record { kind = kind; from = place; to = place + n }) (tokens_from 0 (place + n) (drop n rest))
scan_token_at rest c cs place n kind e b f some within = rw e (scan_token c cs place n kind b (rw e at f) some (rw e at within))

-- one more token is put behind those so far
pub scanned : (out new : List Token) (t : Token) (place next : ℕ) (text rest behind : List ℕ) → new ≡ out ++ t ∷ [] → tokens_from 0 place rest ≡ before t (tokens_from 0 next behind) → after out (tokens_from 0 place rest) ≡ tokens_of text → after new (tokens_from 0 next behind) ≡ tokens_of text
scanned out new t place next text rest behind put step so_far =
    ap (λ ts. after ts (tokens_from 0 next behind)) put ∙ after_one out t _ ∙ ap (after out) (sym step) ∙ so_far

choose_first : (b : Bool) (x y : Result (List Token) ℕ) → b ≡ true → cond b x y ≡ x
choose_first b x y e = rw e refl

-- a blank is passed over
pub blank_at : (rest : List ℕ) (c : ℕ) (cs : List ℕ) (place : ℕ) → rest ≡ c ∷ cs → is_blank c ≡ true → tokens_from 0 place rest ≡ tokens_from 0 (place + 1) cs
blank_at rest c cs place e b =
    let n : suc place ≡ place + 1 = omega arith in
    rw e (choose_first _ _ _ b ∙ ap (λ q. tokens_from 0 q cs) n)

pub drop_behind : (place n : ℕ) (text : List ℕ) → drop n (drop place text) ≡ drop (place + n) text
drop_behind zero n text = ap (λ k. drop k text) (sym (zero-add n))
drop_behind (suc place) n [] = drop_all [] n (omega arith) ∙ sym (drop_all [] (suc place + n) (omega arith))
drop_behind (suc place) n (x ∷ xs) =
    let e : suc (place + n) ≡ suc place + n = omega arith in
    drop_behind place n xs ∙ ap (λ k. drop k (x ∷ xs)) e

map_more : (f : Token → Lexeme) (out : List Token) (t : Token) → map f (out ++ t ∷ []) ≡ map f out ++ f t ∷ []
map_more f [] t = refl
map_more f (u ∷ out) t = ap (λ ls. f u ∷ ls) (map_more f out t)

pub said_more : (text : List ℕ) (out new : List Token) (t : Token) (said after_said : List Lexeme) (l : Lexeme) → new ≡ out ++ t ∷ [] → after_said ≡ said ++ l ∷ [] → said ≡ map (lexeme_of text) out → l ≡ lexeme_of text t → after_said ≡ map (lexeme_of text) new
said_more text out new t said after_said l put put_lexeme so_far is =
    put_lexeme ∙ (λ i. so_far i ++ is i ∷ []) ∙ sym (map_more (lexeme_of text) out t) ∙ ap (map (lexeme_of text)) (sym put)

pub lexeme_is : (text rest bytes : List ℕ) (kind : Kind) (place n : ℕ) (l : Lexeme) → l ≡ lexeme_of_bytes kind bytes → bytes ≡ take n rest → rest ≡ drop place text → l ≡ lexeme_of text (record { kind = kind; from = place; to = place + n })
lexeme_is text rest bytes kind place n l is front behind =
    let d : n ≡ place + n - place = omega arith in
    is ∙ ap (lexeme_of_bytes kind) (front ∙ (λ i. take (d i) (behind i)))

pub behind_more : (text rest further : List ℕ) (place n : ℕ) → further ≡ drop n rest → rest ≡ drop place text → further ≡ drop (place + n) text
behind_more text rest further place n f e = f ∙ ap (drop n) e ∙ drop_behind place n text

pub behind_one : (text rest cs : List ℕ) (c place : ℕ) → rest ≡ c ∷ cs → rest ≡ drop place text → cs ≡ drop (place + 1) text
behind_one text rest cs c place e b = behind_more text rest cs place 1 (rw e refl) b
