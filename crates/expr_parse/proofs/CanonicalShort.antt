-- No text of a query is shorter than its canonical text.
use Rattle.std.proofs.Common.{◌≡◌, ◌≤◌, ◌<◌, ◌+◌, ◌-◌, ℕ, suc, zero, ℤ, unsigned_abs, Bool, true, false, cond, leb, ltb, List, [], ◌∷◌, ◌++◌, length, take, drop, map, ◌∙◌, refl, sym, ap, subst, arith, length-append, length-drop}
use Rattle.std.specs.Prelude.{codes, not, ◌&&◌, ◌||◌, Option, Some, None, Result, Ok, Err}
use Rattle.std.specs.Char.{is_ascii_alphabetic, is_ascii_digit}
use Rattle.std.specs.Fmt.{decimal, signed_decimal}
use Rattle.std.specs.List.{list_all, prefix_len}
use Rattle.std.specs.Str.{bytes_eq}
use Rattle.std.proofs.lemmas.Bool.Decides.{nat_tests}
use Rattle.std.proofs.lemmas.Fmt.{length-decimal-le_wide}
use Rattle.std.proofs.lemmas.List.Folds.{length-prefix_len}
use Rattle.std.proofs.lemmas.List.Sums.{prefix_len-le-length}
use Rattle.std.proofs.lemmas.Slice.Eq.{bytes_eq-Decides}
use Rattle.num_text.specs.Cells.{is_blank}
use Rattle.semantics.specs.Names.{begins_with_letter, is_reserved, is_word, is_word_byte}
use Rattle.semantics.specs.Most.{most_number}
use Rattle.semantics.specs.Numbers.{are_digits, has_minus, is_number, number_in, number_of, with_sign, without_minus}
use Rattle.semantics.specs.Term as t
use Rattle.semantics.specs.Term.{Term, Range, QueryTerm}
use Rattle.semantics.proofs.NumberLaws.{number_of-small}
use Rattle.expr_parse.specs.declared.canonical.Level.TheVariants.{OfSum, OfProduct, OfFactor}
use Rattle.expr_parse.specs.declared.error.ParseErr.TheVariants as refusal
use Rattle.expr_parse.specs.declared.lexeme.Lexeme.{Lexeme}
use Rattle.expr_parse.specs.declared.lexeme.Lexeme.TheVariants.{Number, Named, Sum, VarNum, CovNum, Const, Shift, Open, Close, Comma, Plus, Minus, Times}
use Rattle.expr_parse.specs.declared.token.Kind.{Kind}
use Rattle.expr_parse.specs.declared.token.Kind.TheVariants as kind
use Rattle.expr_parse.specs.declared.token.Token.{Token}
use Rattle.expr_parse.specs.Canonical.{closed, opened, query_text, range_text, series_text}
use Rattle.expr_parse.specs.Lexemes.{lexeme_of, lexeme_of_bytes, magnitude_in, reserved_lexeme, sign_lexeme, word_lexeme}
use Rattle.expr_parse.specs.Printed.{CanonicalIsShortest}
use Rattle.expr_parse.specs.QueryGrammar as q
use Rattle.expr_parse.specs.SeriesGrammar as s
use Rattle.expr_parse.specs.SeriesGrammar.{IsWhole, IsRange, positive, negative, range}
use Rattle.expr_parse.specs.Tokens.{at_front, at_place, before, front, is_sign, number_of_length, tokenized, tokens_from, tokens_of, word_of_length}
use Rattle.expr_parse.proofs.Scanned.{behind_one, lexeme_is}

-- ---- the fewest bytes that say this

abbrev width : Lexeme → ℕ
width (Number n) = length (decimal n)
width (Named name) = length name
width Sum = 3
width VarNum = 6
width CovNum = 6
width Const = 5
width Shift = 5
width _ = 1

abbrev widths : List Lexeme → ℕ
widths [] = 0
widths (l ∷ ls) = width l + widths ls

-- ---- by the grammar

operator_length : (b : Bool) (u v : List ℕ) (sign : ℕ) → length (opened b ++ u ++ (sign ∷ []) ++ v ++ closed b) ≡ cond b 2 0 + length u + 1 + length v
operator_length true u v sign = simp length-append (omega arith)
operator_length false u v sign = simp length-append (omega arith)

range_length : (b : Range) → length (range_text b) ≡ 3 + length (signed_decimal b.left) + length (signed_decimal b.right)
range_length b = simp length-append (omega arith)

shift_length : (u k : List ℕ) → length (codes "shift(" ++ u ++ codes "," ++ k ++ codes ")") ≡ 8 + length u + length k
shift_length u k = simp length-append (omega arith)

-- parentheses are two bytes, and stand at most once
record AreLevels (sum product factor : ℕ) : Type 0 where
  pub as_product : sum ≤ product
  pub as_factor : product ≤ factor
  pub grouped : factor ≤ 2 + sum

sum_levels : (u v : List ℕ) (sign : ℕ) → AreLevels (length (opened false ++ u ++ (sign ∷ []) ++ v ++ closed false)) (length (opened true ++ u ++ (sign ∷ []) ++ v ++ closed true)) (length (opened true ++ u ++ (sign ∷ []) ++ v ++ closed true))
sum_levels u v sign = record { as_product = omega (arith, operator_length true u v sign, operator_length false u v sign); as_factor = omega arith; grouped = omega (arith, operator_length true u v sign, operator_length false u v sign) }

product_levels : (u v : List ℕ) (sign : ℕ) → AreLevels (length (opened false ++ u ++ (sign ∷ []) ++ v ++ closed false)) (length (opened false ++ u ++ (sign ∷ []) ++ v ++ closed false)) (length (opened true ++ u ++ (sign ∷ []) ++ v ++ closed true))
product_levels u v sign = record { as_product = omega arith; as_factor = omega (arith, operator_length true u v sign, operator_length false u v sign); grouped = omega (arith, operator_length true u v sign, operator_length false u v sign) }

one_level : (n : ℕ) → AreLevels n n n
one_level n = record { as_product = omega arith; as_factor = omega arith; grouped = omega arith }

series_levels : (u : Term) → AreLevels (length (series_text OfSum u)) (length (series_text OfProduct u)) (length (series_text OfFactor u))
series_levels (t.base n) = one_level _
series_levels (t.bare v) = one_level _
series_levels (t.constant v a b) = one_level _
series_levels (t.shift u k) = one_level _
series_levels (t.plus u v) = sum_levels (series_text OfSum u) (series_text OfProduct v) 43
series_levels (t.minus u v) = sum_levels (series_text OfSum u) (series_text OfProduct v) 45
series_levels (t.times u v) = product_levels (series_text OfProduct u) (series_text OfFactor v) 42

query_levels : (q : QueryTerm) → AreLevels (length (query_text OfSum q)) (length (query_text OfProduct q)) (length (query_text OfFactor q))
query_levels (t.number v) = one_level _
query_levels (t.sum u b) = one_level _
query_levels (t.variance u b) = one_level _
query_levels (t.covariance u v b) = one_level _
query_levels (t.add p q) = sum_levels (query_text OfSum p) (query_text OfProduct q) 43
query_levels (t.sub p q) = sum_levels (query_text OfSum p) (query_text OfProduct q) 45
query_levels (t.mul p q) = product_levels (query_text OfProduct p) (query_text OfFactor q) 42

whole_width : {ts rest : List Lexeme} {v : ℤ} → IsWhole ts rest v → length (signed_decimal v) + widths rest ≤ widths ts
whole_width positive = omega arith
whole_width (negative {n = zero}) = omega arith
whole_width (negative {n = suc n}) = omega arith

range_width : {ts rest : List Lexeme} {b : Range} → IsRange ts rest b → length (range_text b) + widths rest ≤ widths ts
range_width (range {l = l} {r = r} a b) = omega (arith, range_length (record { left = l; right = r }), whole_width a.0, whole_width b.0)

mutual
  series_width : {ts rest : List Lexeme} {u : Term} → s.IsSeries ts rest u → length (series_text OfSum u) + widths rest ≤ widths ts
  series_width (s.product {t = u} p) = omega (arith, product_width p, (series_levels u).as_product)
  series_width (s.plus_product {u = u} {v = v} a p) = omega (arith, series_width a, product_width p, operator_length false (series_text OfSum u) (series_text OfProduct v) 43)
  series_width (s.minus_product {u = u} {v = v} a p) = omega (arith, series_width a, product_width p, operator_length false (series_text OfSum u) (series_text OfProduct v) 45)

  product_width : {ts rest : List Lexeme} {u : Term} → s.IsProduct ts rest u → length (series_text OfProduct u) + widths rest ≤ widths ts
  product_width (s.factor {t = u} f) = omega (arith, factor_width f, (series_levels u).as_factor)
  product_width (s.times_factor {u = u} {v = v} p f) = omega (arith, product_width p, factor_width f, operator_length false (series_text OfProduct u) (series_text OfFactor v) 42)

  factor_width : {ts rest : List Lexeme} {u : Term} → s.IsFactor ts rest u → length (series_text OfFactor u) + widths rest ≤ widths ts
  factor_width s.name = omega arith
  factor_width (s.whole w) = whole_width w
  factor_width (s.grouped {t = u} a) = omega (arith, series_width a, (series_levels u).grouped)
  factor_width (s.const {v = v} {b = b} w r) = omega (arith, whole_width w, range_width r, length-append (signed_decimal v) (range_text b))
  factor_width (s.shifted {t = u} {k = k} a w) = omega (arith, series_width a, whole_width w.0, shift_length (series_text OfSum u) (signed_decimal k))

covariance_length : (u v b : List ℕ) → length (codes "covnum(" ++ u ++ codes "," ++ v ++ b) ≡ 8 + length u + length v + length b
covariance_length u v b = simp length-append (omega arith)

mutual
  query_width : {ts rest : List Lexeme} {u : QueryTerm} → q.IsQuery ts rest u → length (query_text OfSum u) + widths rest ≤ widths ts
  query_width (q.product {q = u} p) = omega (arith, term_width p, (query_levels u).as_product)
  query_width (q.plus_product {p = u} {q = v} a p) = omega (arith, query_width a, term_width p, operator_length false (query_text OfSum u) (query_text OfProduct v) 43)
  query_width (q.minus_product {p = u} {q = v} a p) = omega (arith, query_width a, term_width p, operator_length false (query_text OfSum u) (query_text OfProduct v) 45)

  term_width : {ts rest : List Lexeme} {u : QueryTerm} → q.IsProduct ts rest u → length (query_text OfProduct u) + widths rest ≤ widths ts
  term_width (q.factor {q = u} f) = omega (arith, operand_width f, (query_levels u).as_factor)
  term_width (q.times_factor {p = u} {q = v} p f) = omega (arith, term_width p, operand_width f, operator_length false (query_text OfProduct u) (query_text OfFactor v) 42)

  operand_width : {ts rest : List Lexeme} {u : QueryTerm} → q.IsFactor ts rest u → length (query_text OfFactor u) + widths rest ≤ widths ts
  operand_width (q.whole w) = whole_width w
  operand_width (q.grouped {q = u} a) = omega (arith, query_width a, (query_levels u).grouped)
  operand_width (q.sum_of {t = u} a) = omega (arith, series_width a, length-append (series_text OfSum u) (codes ")"))
  operand_width (q.sum_over {t = u} {b = b} a r) = omega (arith, series_width a, range_width r, length-append (series_text OfSum u) (range_text b))
  operand_width (q.varnum {t = u} {b = b} a r) = omega (arith, series_width a, range_width r, length-append (series_text OfSum u) (range_text b))
  operand_width (q.covnum {t = u} {u = v} {b = b} a c r) = omega (arith, series_width a, series_width c, range_width r, covariance_length (series_text OfSum u) (series_text OfSum v) (range_text b))

-- ---- by the tokens

sign_width : (bytes : List ℕ) → width (sign_lexeme bytes) ≡ 1
sign_width bytes = by (bytes_eq bytes (codes "(")) (bytes_eq bytes (codes ")")) (bytes_eq bytes (codes ",")) (bytes_eq bytes (codes "+")) (bytes_eq bytes (codes "-"))
  where
    by : (a b c d e : Bool) → width (cond a Open (cond b Close (cond c Comma (cond d Plus (cond e Minus Times))))) ≡ 1
    by true b c d e = refl
    by false true c d e = refl
    by false false true d e = refl
    by false false false true e = refl
    by false false false false true = refl
    by false false false false false = refl

long_as : (bytes word : List ℕ) → bytes_eq bytes word ≡ true → length word ≤ length bytes
long_as bytes word h = let e : bytes ≡ word = grind (arith, bytes_eq-Decides bytes word, h) in rw e (omega arith)

reserved_width : (bytes : List ℕ) → is_reserved bytes ≡ true → width (reserved_lexeme bytes) ≤ length bytes
reserved_width bytes h = by (bytes_eq bytes (codes "sum")) (bytes_eq bytes (codes "varnum")) (bytes_eq bytes (codes "covnum")) (bytes_eq bytes (codes "const")) (bytes_eq bytes (codes "shift"))
    (long_as bytes (codes "sum")) (long_as bytes (codes "varnum")) (long_as bytes (codes "covnum")) (long_as bytes (codes "const")) (long_as bytes (codes "shift")) h
  where
    by : (a b c d e : Bool) → (a ≡ true → 3 ≤ length bytes) → (b ≡ true → 6 ≤ length bytes) → (c ≡ true → 6 ≤ length bytes) → (d ≡ true → 5 ≤ length bytes) → (e ≡ true → 5 ≤ length bytes)
        → a || (b || (c || (d || (e || false)))) ≡ true → width (cond a Sum (cond b VarNum (cond c CovNum (cond d Const Shift)))) ≤ length bytes
    by true b c d e sum varnum covnum const shift k = sum refl
    by false true c d e sum varnum covnum const shift k = varnum refl
    by false false true d e sum varnum covnum const shift k = covnum refl
    by false false false true e sum varnum covnum const shift k = const refl
    by false false false false true sum varnum covnum const shift k = shift refl
    by false false false false false sum varnum covnum const shift k = cc k

pub word_width : (bytes : List ℕ) → is_word bytes ≡ true → width (word_lexeme bytes) ≤ length bytes
word_width bytes word = by (is_word bytes) (is_reserved bytes) word (reserved_width bytes)
  where
    by : (a b : Bool) → a ≡ true → (b ≡ true → width (reserved_lexeme bytes) ≤ length bytes) → width (cond (a && not b) (Named bytes) (reserved_lexeme bytes)) ≤ length bytes
    by true true e h = h refl
    by true false e h = omega arith
    by false b e h = cc e

-- what is taken of a text all passes
passed : (p : ℕ → Bool) (xs : List ℕ) → list_all p (take (prefix_len p xs) xs) ≡ true
passed p [] = refl
passed p (x ∷ xs) = by (p x) refl (passed p xs)
  where
    by : (b : Bool) → p x ≡ b → list_all p (take (prefix_len p xs) xs) ≡ true → list_all p (take (cond b (1 + prefix_len p xs) 0) (x ∷ xs)) ≡ true
    by true e h =
        let one_more : 1 + prefix_len p xs ≡ suc (prefix_len p xs) = omega arith in
        rw (one_more, e) h
    by false e h = refl

-- a front of which the first passes has that
begins : (p : ℕ → Bool) (x : ℕ) (xs : List ℕ) → p x ≡ true → (0 < prefix_len p (x ∷ xs)) × (take (prefix_len p (x ∷ xs)) (x ∷ xs) ≡ x ∷ take (prefix_len p xs) xs)
begins p x xs h =
    let one_more : prefix_len p (x ∷ xs) ≡ suc (prefix_len p xs) = rw h (omega arith) in
    (omega (arith, one_more), ap (λ k. take k (x ∷ xs)) one_more)

decimal_width : (digits : List ℕ) → are_digits digits ≡ true → number_of digits ≤ most_number → length (decimal (number_of digits)) ≤ length digits
decimal_width digits h small =
    let some : 0 < length digits = grind (arith, nat_tests, h) in
    let all : list_all is_ascii_digit digits ≡ true = grind (arith, nat_tests, h) in
    length-decimal-le_wide (length digits) (number_of digits) some (number_of-small digits all) (omega arith)

without_minus_length : (text : List ℕ) → length (without_minus text) ≤ length text
without_minus_length text = by (has_minus text)
  where
    by : (b : Bool) → length (cond b (drop 1 text) text) ≤ length text
    by true = omega (arith, length-drop 1 text)
    by false = omega arith

magnitude_is : (text : List ℕ) → is_number text ≡ true → magnitude_in text ≡ number_of (without_minus text)
magnitude_is text h = ap (λ o. elim o [ None ↦ 0 | Some v ↦ unsigned_abs v ]) number ∙ signed (has_minus text) (number_of (without_minus text))
  where
    number : number_in text ≡ Some (with_sign (has_minus text) (number_of (without_minus text)))
    number = rw h refl

    signed : (b : Bool) (n : ℕ) → unsigned_abs (with_sign b n) ≡ n
    signed true zero = refl
    signed true (suc n) = refl
    signed false n = refl

number_width : (text : List ℕ) → is_number text ≡ true → length (decimal (magnitude_in text)) ≤ length text
number_width text h =
    let digits : are_digits (without_minus text) ≡ true = grind (arith, nat_tests, h) in
    let small : number_of (without_minus text) ≤ most_number = grind (arith, nat_tests, h) in
    omega (arith, ap (λ n. length (decimal n)) (magnitude_is text h), decimal_width (without_minus text) digits small, without_minus_length text)

-- the token at the front is as long as what it says, at least
pub record IsWide (text : List ℕ) (k : Kind) (n : ℕ) : Type 0 where
  pub some : 0 < n
  pub within : n ≤ length text
  pub wide : width (lexeme_of_bytes k (take n text)) ≤ n

abbrev IsWideAt : List ℕ → Option (Kind × ℕ) → Type 0
IsWideAt text (Some found) = IsWide text found.0 found.1
IsWideAt text None = Unit {0}

word_wide : (c : ℕ) (cs : List ℕ) → is_ascii_alphabetic c ≡ true → leb (prefix_len is_word_byte (c ∷ cs)) 32 ≡ true → IsWide (c ∷ cs) kind.Word (prefix_len is_word_byte (c ∷ cs))
word_wide c cs letter few =
    let m : ℕ = prefix_len is_word_byte (c ∷ cs) in
    let word_byte : is_word_byte c ≡ true = rw letter refl in
    let front_is = begins is_word_byte c cs word_byte in
    let long : length (take m (c ∷ cs)) ≡ m = length-prefix_len is_word_byte (c ∷ cs) in
    let letters : begins_with_letter (take m (c ∷ cs)) ≡ true = ap begins_with_letter front_is.1 ∙ letter in
    let all : list_all is_word_byte (take m (c ∷ cs)) ≡ true = passed is_word_byte (c ∷ cs) in
    let short : leb (length (take m (c ∷ cs))) 32 ≡ true = ap (λ k. leb k 32) long ∙ few in
    let word : is_word (take m (c ∷ cs)) ≡ true = λ i. letters i && all i && short i in
    record { some = front_is.0; within = prefix_len-le-length is_word_byte (c ∷ cs); wide = omega (arith, word_width (take m (c ∷ cs)) word, long) }

word_is_wide : (c : ℕ) (cs : List ℕ) → is_ascii_alphabetic c ≡ true → IsWideAt (c ∷ cs) (word_of_length (prefix_len is_word_byte (c ∷ cs)))
word_is_wide c cs letter = by (leb (prefix_len is_word_byte (c ∷ cs)) 32) refl
  where
    by : (b : Bool) → leb (prefix_len is_word_byte (c ∷ cs)) 32 ≡ b → IsWideAt (c ∷ cs) (cond {A = Option (Kind × ℕ)} b (Some (kind.Word, prefix_len is_word_byte (c ∷ cs))) None)
    by true few = word_wide c cs letter few
    by false few = tt

number_wide : (c : ℕ) (cs : List ℕ) → is_ascii_digit c ≡ true → is_number (take (prefix_len is_ascii_digit (c ∷ cs)) (c ∷ cs)) ≡ true → IsWide (c ∷ cs) kind.Number (prefix_len is_ascii_digit (c ∷ cs))
number_wide c cs digit number =
    let m : ℕ = prefix_len is_ascii_digit (c ∷ cs) in
    let front_is = begins is_ascii_digit c cs digit in
    let long : length (take m (c ∷ cs)) ≡ m = length-prefix_len is_ascii_digit (c ∷ cs) in
    record { some = front_is.0; within = prefix_len-le-length is_ascii_digit (c ∷ cs); wide = omega (arith, number_width (take m (c ∷ cs)) number, long) }

number_is_wide : (c : ℕ) (cs : List ℕ) → is_ascii_digit c ≡ true → IsWideAt (c ∷ cs) (number_of_length (c ∷ cs) (prefix_len is_ascii_digit (c ∷ cs)))
number_is_wide c cs digit = by (is_number (take (prefix_len is_ascii_digit (c ∷ cs)) (c ∷ cs))) refl
  where
    by : (b : Bool) → is_number (take (prefix_len is_ascii_digit (c ∷ cs)) (c ∷ cs)) ≡ b → IsWideAt (c ∷ cs) (cond {A = Option (Kind × ℕ)} b (Some (kind.Number, prefix_len is_ascii_digit (c ∷ cs))) None)
    by true number = number_wide c cs digit number
    by false number = tt

sign_is_wide : (c : ℕ) (cs : List ℕ) → IsWide (c ∷ cs) kind.Sign 1
sign_is_wide c cs = record { some = omega arith; within = omega arith; wide = omega (arith, sign_width (c ∷ [])) }

front_is_wide : (c : ℕ) (cs : List ℕ) → IsWideAt (c ∷ cs) (front (c ∷ cs))
unfolding front
front_is_wide c cs = by (is_ascii_alphabetic c) (is_ascii_digit c) (is_sign c) refl refl
  where
    by : (a b d : Bool) → is_ascii_alphabetic c ≡ a → is_ascii_digit c ≡ b
        → IsWideAt (c ∷ cs) (cond a (word_of_length (prefix_len is_word_byte (c ∷ cs))) (cond b (number_of_length (c ∷ cs) (prefix_len is_ascii_digit (c ∷ cs))) (cond {A = Option (Kind × ℕ)} d (Some (kind.Sign, 1)) None)))
    by true b d letter digit = word_is_wide c cs letter
    by false true d letter digit = number_is_wide c cs digit
    by false false true letter digit = sign_is_wide c cs
    by false false false letter digit = tt

drop_next : (place : ℕ) (whole : List ℕ) (c : ℕ) (cs : List ℕ) → drop place whole ≡ c ∷ cs → drop (suc place) whole ≡ cs
drop_next place whole c cs at =
    let e : place + 1 ≡ suc place = omega arith in
    ap (λ k. drop k whole) (sym e) ∙ sym (behind_one whole (c ∷ cs) cs c place refl (sym at))

-- one more token
wide_more : (whole : List ℕ) (c : ℕ) (cs : List ℕ) (place : ℕ) (k : Kind) (n : ℕ) (r : Result (List Token) ℕ) (ts : List Token) → drop place whole ≡ c ∷ cs → IsWide (c ∷ cs) k n
    → ((us : List Token) → r ≡ Ok us → n - 1 + widths (map (lexeme_of whole) us) ≤ length cs) → before (record { kind = k; from = place; to = place + n }) r ≡ Ok ts → widths (map (lexeme_of whole) ts) ≤ length (c ∷ cs)
wide_more whole c cs place k n (Err stuck) ts at wide further e = cc e
wide_more whole c cs place k n (Ok us) ts at wide further e =
    let token : Token = record { kind = k; from = place; to = place + n } in
    let are : token ∷ us ≡ ts = cc e in
    let said : lexeme_of_bytes k (take n (c ∷ cs)) ≡ lexeme_of whole token = lexeme_is whole (c ∷ cs) (take n (c ∷ cs)) k place n (lexeme_of_bytes k (take n (c ∷ cs))) refl refl (sym at) in
    let all : widths (map (lexeme_of whole) (token ∷ us)) ≤ length (c ∷ cs) = omega (arith, further us refl, ap width said, wide.some, wide.wide) in
    subst (λ xs. widths (map (lexeme_of whole) xs) ≤ length (c ∷ cs)) are all

-- what the tokens say is no longer than the text
tokens_width : (whole text : List ℕ) (left place : ℕ) (ts : List Token) → drop place whole ≡ text → left ≤ length text → tokens_from left place text ≡ Ok ts → left + widths (map (lexeme_of whole) ts) ≤ length text
tokens_width whole [] left place ts at within e =
    let none : ts ≡ [] = cc e in
    rw none (omega arith)
tokens_width whole (c ∷ cs) (suc left) place ts at within e =
    let next : drop (suc place) whole ≡ cs = drop_next place whole c cs at in
    omega (arith, tokens_width whole cs left (suc place) ts next (omega arith) e)
tokens_width whole (c ∷ cs) zero place ts at within e =
    let next : drop (suc place) whole ≡ cs = drop_next place whole c cs at in
    by_blank (is_blank c) (λ k us. tokens_width whole cs k (suc place) us next) e
  where
    by_front : (o : Option (Kind × ℕ)) → front (c ∷ cs) ≡ o → ((k : ℕ) (us : List Token) → k ≤ length cs → tokens_from k (suc place) cs ≡ Ok us → k + widths (map (lexeme_of whole) us) ≤ length cs)
        → at_front place o (λ k. tokens_from k (suc place) cs) ≡ Ok ts → widths (map (lexeme_of whole) ts) ≤ length (c ∷ cs)
    by_front None is further f = cc f
    by_front (Some found) is further f =
        let wide : IsWide (c ∷ cs) found.0 found.1 = subst (IsWideAt (c ∷ cs)) is (front_is_wide c cs) in
        wide_more whole c cs place found.0 found.1 (tokens_from (found.1 - 1) (suc place) cs) ts at wide (λ us. further (found.1 - 1) us (omega (arith, wide.some, wide.within))) f

    by_blank : (b : Bool) → ((k : ℕ) (us : List Token) → k ≤ length cs → tokens_from k (suc place) cs ≡ Ok us → k + widths (map (lexeme_of whole) us) ≤ length cs)
        → cond b (tokens_from zero (suc place) cs) (at_front place (front (c ∷ cs)) (λ k. tokens_from k (suc place) cs)) ≡ Ok ts → 0 + widths (map (lexeme_of whole) ts) ≤ length (c ∷ cs)
    by_blank true further f = omega (arith, further 0 ts (omega arith) f)
    by_blank false further f = omega (arith, by_front (front (c ∷ cs)) refl further f)

tokens_of_width : (text : List ℕ) (ts : List Token) → tokenized text ≡ Ok ts → widths (map (lexeme_of text) ts) ≤ length text
unfolding tokens_of
tokens_of_width text ts h = by (ltb 4096 (length text)) (tokens_from 0 0 text) refl h
  where
    by : (b : Bool) (r : Result (List Token) ℕ) → tokens_from 0 0 text ≡ r → cond b (Err refusal.TooLong) (at_place r) ≡ Ok ts → widths (map (lexeme_of text) ts) ≤ length text
    by true r is e = cc e
    by false (Err place) is e = cc e
    by false (Ok us) is e =
        let same : us ≡ ts = cc e in
        omega (arith, tokens_width text text 0 0 ts refl (omega arith) (is ∙ ap Ok same))

pub canonical_is_shortest : CanonicalIsShortest
canonical_is_shortest text u is = omega (arith, query_width is.grammar, tokens_of_width text is.tokens is.are)
