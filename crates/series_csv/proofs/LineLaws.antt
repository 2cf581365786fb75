-- The records of a text with no quote and no carriage return are its lines.
use Rattle.std.proofs.Common.{◌≡◌, ◌≤◌, ◌<◌, ◌+◌, ◌-◌, ℕ, zero, suc, List, [], ◌∷◌, ◌++◌, length, drop, Option, Some, None, Bool, true, false, refl, sym, ap, ap₂, ◌∙◌, arith, append_assoc}
use Rattle.std.specs.Prelude.{◌&&◌, ◌||◌, ◌==◌, not}
use Rattle.std.specs.List.{after_first, before_first, position_or_len, prefix_len}
use Rattle.std.proofs.lemmas.Bool.Decides.{nat_tests}
use Rattle.std.proofs.lemmas.List.{append-nil}
use Rattle.std.proofs.lemmas.List.Sums.{prefix_len-le-length}
use Rattle.csv.specs.Machine.{Read, next_record, step, in_field}
use Rattle.csv.specs.Reading.{default_config, records}
use Rattle.csv.specs.Records.{field_at}
use Rattle.csv.specs.declared.parser.Action.TheVariants as act
use Rattle.csv.specs.declared.parser.State.{State}
use Rattle.csv.specs.declared.parser.State.TheVariants as st
use Rattle.series_csv.specs.Lines.{fields_in, fields_on, is_comma, is_line_feed, is_plain_byte, is_plain_text}
use Rattle.series_csv.proofs.RowLaws.{records-over, records-some}

pub feeds_within : (text : List ℕ) → prefix_len is_line_feed text ≤ length text
feeds_within text = prefix_len-le-length is_line_feed text

pub end_within : (text : List ℕ) → position_or_len is_line_feed text ≤ length text
end_within text = prefix_len-le-length (λ x. not (is_line_feed x)) text

pub comma_within : (text : List ℕ) → position_or_len is_comma text ≤ length text
comma_within text = prefix_len-le-length (λ x. not (is_comma x)) text

both : (a b : Bool) → (a && b) ≡ true → (a ≡ true) × (b ≡ true)
both true true h = (refl, refl)
both true false h = cc
both false b h = cc

neither : (a b : Bool) → not (a || b) ≡ true → (a ≡ false) × (b ≡ false)
neither true b h = cc
neither false true h = cc
neither false false h = (refl, refl)

-- the tests of a byte of a plain text
no_quote : (c : ℕ) (text : List ℕ) → is_plain_text (c ∷ text) ≡ true → (c == 34) ≡ false
no_quote c text h = (neither (c == 34) (c == 13) (both (is_plain_byte c) (is_plain_text text) h).0).0

no_return : (c : ℕ) (text : List ℕ) → is_plain_text (c ∷ text) ≡ true → (c == 13) ≡ false
no_return c text h = (neither (c == 34) (c == 13) (both (is_plain_byte c) (is_plain_text text) h).0).1

plain-rest : (c : ℕ) (text : List ℕ) → is_plain_text (c ∷ text) ≡ true → is_plain_text text ≡ true
plain-rest c text h = (both (is_plain_byte c) (is_plain_text text) h).1

comma-no_feed : (c : ℕ) → (c == 44) ≡ true → (c == 10) ≡ false
comma-no_feed c h = grind (arith, nat_tests)

pub plain-drop : (i : ℕ) (text : List ℕ) → is_plain_text text ≡ true → is_plain_text (drop i text) ≡ true
plain-drop zero text h = h
plain-drop (suc i) [] h = refl
plain-drop (suc i) (c ∷ text) h = plain-drop i text (plain-rest c text h)

-- ---- the steps of the machine

-- at the start of a field, or behind it
abbrev inside : Bool → State
inside true = st.StartField
inside false = st.InField

-- what reading a record gives
abbrev read_of : List (List ℕ) → List ℕ → Option Read
read_of fields rest = Some (fields, st.StartRecord, rest)

step-inside : (b : Bool) (c : ℕ) → (c == 34) ≡ false → step default_config (inside b) c ≡ in_field default_config c
step-inside true c h = rw h refl
step-inside false c h = refl

in_field-comma : (c : ℕ) → (c == 44) ≡ true → in_field default_config c ≡ (st.StartField, act.EndField)
in_field-comma c h = rw h refl

in_field-feed : (c : ℕ) → (c == 44) ≡ false → (c == 13) ≡ false → (c == 10) ≡ true → in_field default_config c ≡ (st.StartRecord, act.EndRecord)
in_field-feed c g h f = rw (g, h, f) refl

in_field-other : (c : ℕ) → (c == 44) ≡ false → (c == 13) ≡ false → (c == 10) ≡ false → in_field default_config c ≡ (st.InField, act.Copy)
in_field-other c g h f = rw (g, h, f) refl

step-feed : (c : ℕ) → (c == 13) ≡ false → (c == 10) ≡ true → step default_config st.StartRecord c ≡ (st.StartRecord, act.Skip)
step-feed c h f = rw (h, f) refl

step-start : (c : ℕ) → (c == 13) ≡ false → (c == 10) ≡ false → step default_config st.StartRecord c ≡ step default_config st.StartField c
step-start c h f = rw (h, f) refl

on-comma : (s : State) (fields : List (List ℕ)) (field : List ℕ) (c : ℕ) (text : List ℕ) → step default_config s c ≡ (st.StartField, act.EndField)
    → next_record default_config s fields field (c ∷ text) ≡ next_record default_config st.StartField (fields ++ field ∷ []) [] text
unfolding next_record
on-comma s fields field c text e = rw e refl

on-feed : (s : State) (fields : List (List ℕ)) (field : List ℕ) (c : ℕ) (text : List ℕ) → step default_config s c ≡ (st.StartRecord, act.EndRecord)
    → next_record default_config s fields field (c ∷ text) ≡ read_of (fields ++ field ∷ []) text
unfolding next_record
on-feed s fields field c text e = rw e refl

on-other : (s : State) (fields : List (List ℕ)) (field : List ℕ) (c : ℕ) (text : List ℕ) → step default_config s c ≡ (st.InField, act.Copy)
    → next_record default_config s fields field (c ∷ text) ≡ next_record default_config st.InField fields (field ++ c ∷ []) text
unfolding next_record
on-other s fields field c text e = rw e refl

on-skip : (fields : List (List ℕ)) (field : List ℕ) (c : ℕ) (text : List ℕ) → step default_config st.StartRecord c ≡ (st.StartRecord, act.Skip)
    → next_record default_config st.StartRecord fields field (c ∷ text) ≡ next_record default_config st.StartRecord fields field text
unfolding next_record
on-skip fields field c text e = rw e refl

on-start : (fields : List (List ℕ)) (field : List ℕ) (c : ℕ) (text : List ℕ) → step default_config st.StartRecord c ≡ step default_config st.StartField c
    → next_record default_config st.StartRecord fields field (c ∷ text) ≡ next_record default_config st.StartField fields field (c ∷ text)
unfolding next_record
on-start fields field c text e = rw e refl

at-end : (b : Bool) (fields : List (List ℕ)) (field : List ℕ) → next_record default_config (inside b) fields field [] ≡ read_of (fields ++ field ∷ []) []
unfolding next_record
at-end true fields field = refl
at-end false fields field = refl

none-at_end : next_record default_config st.StartRecord [] [] [] ≡ None
unfolding next_record
none-at_end = refl

-- ---- parts of a line

one-more : (n : ℕ) → 1 + n ≡ suc n
one-more n = omega arith

two-more : (n : ℕ) → 1 + n + 1 ≡ suc (n + 1)
two-more n = omega arith

less-one : (n : ℕ) → n ≡ suc n - 1
less-one n = omega arith

pub none-left : (text : List ℕ) → (length text == 0) ≡ true → text ≡ []
none-left [] h = refl
none-left (c ∷ text) h = let none : length (c ∷ text) ≡ 0 = grind (arith, nat_tests) in absurd (omega arith)

pub some-left : (text : List ℕ) → (length text == 0) ≡ false → 0 < length text
some-left [] h = cc
some-left (c ∷ text) h = omega arith

before-feed : (c : ℕ) (text : List ℕ) → (c == 10) ≡ true → before_first is_line_feed (c ∷ text) ≡ []
before-feed c text f = rw f refl

behind-feed : (c : ℕ) (text : List ℕ) → (c == 10) ≡ true → after_first is_line_feed (c ∷ text) ≡ text
behind-feed c text f = rw f refl

before-more : (c : ℕ) (text : List ℕ) → (c == 10) ≡ false → before_first is_line_feed (c ∷ text) ≡ c ∷ before_first is_line_feed text
before-more c text f = rw (f, one-more (position_or_len is_line_feed text)) refl

behind-more : (c : ℕ) (text : List ℕ) → (c == 10) ≡ false → after_first is_line_feed (c ∷ text) ≡ after_first is_line_feed text
behind-more c text f = rw (f, two-more (position_or_len is_line_feed text)) refl

feeds-more : (c : ℕ) (text : List ℕ) → (c == 10) ≡ true → drop (prefix_len is_line_feed (c ∷ text)) (c ∷ text) ≡ drop (prefix_len is_line_feed text) text
feeds-more c text f = rw (f, one-more (prefix_len is_line_feed text)) refl

feeds-none : (c : ℕ) (text : List ℕ) → (c == 10) ≡ false → drop (prefix_len is_line_feed (c ∷ text)) (c ∷ text) ≡ c ∷ text
feeds-none c text f = rw f refl

fields_on-end : (field : List ℕ) → fields_on field [] ≡ field ∷ []
unfolding fields_on
fields_on-end field = refl

fields_on-comma : (field : List ℕ) (c : ℕ) (line : List ℕ) → (c == 44) ≡ true → fields_on field (c ∷ line) ≡ field ∷ fields_on [] line
unfolding fields_on
fields_on-comma field c line e = rw e refl

fields_on-other : (field : List ℕ) (c : ℕ) (line : List ℕ) → (c == 44) ≡ false → fields_on field (c ∷ line) ≡ fields_on (field ++ c ∷ []) line
unfolding fields_on
fields_on-other field c line e = rw e refl

-- ---- the record of a line

in_line : (b : Bool) (fields : List (List ℕ)) (field text : List ℕ) → is_plain_text text ≡ true
    → next_record default_config (inside b) fields field text ≡ read_of (fields ++ fields_on field (before_first is_line_feed text)) (after_first is_line_feed text)
in_line b fields field [] h = at-end b fields field ∙ ap (λ (fs : List (List ℕ)). read_of (fields ++ fs) []) (sym (fields_on-end field))
in_line b fields field (c ∷ text) h =
    by (c == 44) (c == 10) refl refl (step-inside b c (no_quote c text h)) (no_return c text h) (λ d f g. in_line d f g text (plain-rest c text h))
  where
    by : (comma feed : Bool) → (c == 44) ≡ comma → (c == 10) ≡ feed → step default_config (inside b) c ≡ in_field default_config c → (c == 13) ≡ false
        → ((d : Bool) (f : List (List ℕ)) (g : List ℕ) → next_record default_config (inside d) f g text ≡ read_of (f ++ fields_on g (before_first is_line_feed text)) (after_first is_line_feed text))
        → next_record default_config (inside b) fields field (c ∷ text)
        ≡ read_of (fields ++ fields_on field (before_first is_line_feed (c ∷ text))) (after_first is_line_feed (c ∷ text))
    by true feed e f step_is cr more =
        let no = comma-no_feed c e in
        on-comma (inside b) fields field c text (step_is ∙ in_field-comma c e)
        ∙ more true (fields ++ field ∷ []) []
        ∙ ap₂ read_of
        (append_assoc fields (field ∷ []) (fields_on [] (before_first is_line_feed text))
        ∙ ap (λ (fs : List (List ℕ)). fields ++ fs) (sym (fields_on-comma field c (before_first is_line_feed text) e) ∙ ap (fields_on field) (sym (before-more c text no))))
        (sym (behind-more c text no))
    by false true e f step_is cr more =
        on-feed (inside b) fields field c text (step_is ∙ in_field-feed c e cr f)
        ∙ ap₂ read_of
        (ap (λ (fs : List (List ℕ)). fields ++ fs) (sym (fields_on-end field) ∙ ap (fields_on field) (sym (before-feed c text f))))
        (sym (behind-feed c text f))
    by false false e f step_is cr more =
        on-other (inside b) fields field c text (step_is ∙ in_field-other c e cr f)
        ∙ more false fields (field ++ c ∷ [])
        ∙ ap₂ read_of
        (ap (λ (fs : List (List ℕ)). fields ++ fs) (sym (fields_on-other field c (before_first is_line_feed text) e) ∙ ap (fields_on field) (sym (before-more c text f))))
        (sym (behind-more c text f))

no_line : (text : List ℕ) → is_plain_text text ≡ true → drop (prefix_len is_line_feed text) text ≡ [] → next_record default_config st.StartRecord [] [] text ≡ None
no_line [] h e = none-at_end
no_line (c ∷ text) h e = by (c == 10) refl (λ more. no_line text (plain-rest c text h) more)
  where
    by : (feed : Bool) → (c == 10) ≡ feed → (drop (prefix_len is_line_feed text) text ≡ [] → next_record default_config st.StartRecord [] [] text ≡ None)
        → next_record default_config st.StartRecord [] [] (c ∷ text) ≡ None
    by true f more = on-skip [] [] c text (step-feed c (no_return c text h) f) ∙ more (sym (feeds-more c text f) ∙ e)
    by false f more = let none : c ∷ text ≡ [] = sym (feeds-none c text f) ∙ e in cc

-- what is read of a text that begins with a line
abbrev line_read : List ℕ → Option Read
line_read ys = read_of (fields_in (before_first is_line_feed ys)) (after_first is_line_feed ys)

some_line : (text : List ℕ) → is_plain_text text ≡ true → 0 < length (drop (prefix_len is_line_feed text) text)
    → next_record default_config st.StartRecord [] [] text ≡ line_read (drop (prefix_len is_line_feed text) text)
some_line [] h some = absurd (omega arith)
some_line (c ∷ text) h some = by (c == 10) refl (λ more. some_line text (plain-rest c text h) more)
  where
    by : (feed : Bool) → (c == 10) ≡ feed
        → (0 < length (drop (prefix_len is_line_feed text) text) → next_record default_config st.StartRecord [] [] text ≡ line_read (drop (prefix_len is_line_feed text) text))
        → next_record default_config st.StartRecord [] [] (c ∷ text) ≡ line_read (drop (prefix_len is_line_feed (c ∷ text)) (c ∷ text))
    by true f more =
        on-skip [] [] c text (step-feed c (no_return c text h) f) ∙ more (omega (arith, some, ap length (feeds-more c text f))) ∙ ap line_read (sym (feeds-more c text f))
    by false f more =
        on-start [] [] c text (step-start c (no_return c text h) f) ∙ in_line true [] [] (c ∷ text) h ∙ ap line_read (sym (feeds-none c text f))

-- a text of line feeds has no records
pub lines-none : (text : List ℕ) → is_plain_text text ≡ true → drop (prefix_len is_line_feed text) text ≡ [] → records default_config text ≡ []
lines-none text h e = records-over default_config st.StartRecord text (no_line text h e)

-- any other has that of its first line, and those of what stands behind it
pub lines-some : (text ys : List ℕ) → is_plain_text text ≡ true → ys ≡ drop (prefix_len is_line_feed text) text → 0 < length ys
    → records default_config text ≡ fields_in (before_first is_line_feed ys) ∷ records default_config (after_first is_line_feed ys)
lines-some text ys h at some =
    let read : next_record default_config st.StartRecord [] [] text ≡ line_read ys = some_line text h (omega (arith, some, ap length at)) ∙ ap line_read (sym at) in
    records-some default_config st.StartRecord text (fields_in (before_first is_line_feed ys), st.StartRecord, after_first is_line_feed ys) read

-- ---- the fields of a line

comma-before : (c : ℕ) (line : List ℕ) → (c == 44) ≡ true → before_first is_comma (c ∷ line) ≡ []
comma-before c line e = rw e refl

comma-behind : (c : ℕ) (line : List ℕ) → (c == 44) ≡ true → after_first is_comma (c ∷ line) ≡ line
comma-behind c line e = rw e refl

comma-at : (c : ℕ) (line : List ℕ) → (c == 44) ≡ true → position_or_len is_comma (c ∷ line) ≡ 0
comma-at c line e = rw e refl

other-before : (c : ℕ) (line : List ℕ) → (c == 44) ≡ false → before_first is_comma (c ∷ line) ≡ c ∷ before_first is_comma line
other-before c line e = rw (e, one-more (position_or_len is_comma line)) refl

other-behind : (c : ℕ) (line : List ℕ) → (c == 44) ≡ false → after_first is_comma (c ∷ line) ≡ after_first is_comma line
other-behind c line e = rw (e, two-more (position_or_len is_comma line)) refl

other-at : (c : ℕ) (line : List ℕ) → (c == 44) ≡ false → position_or_len is_comma (c ∷ line) ≡ 1 + position_or_len is_comma line
other-at c line e = rw e refl

field-first : (fields : List (List ℕ)) (field : List ℕ) → field_at (field ∷ fields) 0 ≡ Some field
unfolding field_at
field-first fields field = refl

field-later : (fields : List (List ℕ)) (field : List ℕ) (i : ℕ) → field_at (field ∷ fields) (suc i) ≡ field_at fields i
unfolding field_at
field-later fields field i = refl

field-past : (i : ℕ) → field_at [] i ≡ None
unfolding field_at
field-past zero = refl
field-past (suc i) = refl

on-first : (field line : List ℕ) → field_at (fields_on field line) 0 ≡ Some (field ++ before_first is_comma line)
on-first field [] = ap (λ (fs : List (List ℕ)). field_at fs 0) (fields_on-end field) ∙ field-first [] field ∙ ap Some (sym (append-nil field))
on-first field (c ∷ line) = by (c == 44) refl (on-first (field ++ c ∷ []) line)
  where
    by : (comma : Bool) → (c == 44) ≡ comma → field_at (fields_on (field ++ c ∷ []) line) 0 ≡ Some ((field ++ c ∷ []) ++ before_first is_comma line)
        → field_at (fields_on field (c ∷ line)) 0 ≡ Some (field ++ before_first is_comma (c ∷ line))
    by true e more =
        ap (λ (fs : List (List ℕ)). field_at fs 0) (fields_on-comma field c line e) ∙ field-first (fields_on [] line) field
        ∙ ap Some (sym (append-nil field) ∙ ap (λ (xs : List ℕ). field ++ xs) (sym (comma-before c line e)))
    by false e more =
        ap (λ (fs : List (List ℕ)). field_at fs 0) (fields_on-other field c line e) ∙ more
        ∙ ap Some (append_assoc field (c ∷ []) (before_first is_comma line) ∙ ap (λ (xs : List ℕ). field ++ xs) (sym (other-before c line e)))

on-later : (field line : List ℕ) (i : ℕ) → position_or_len is_comma line < length line
    → field_at (fields_on field line) (suc i) ≡ field_at (fields_in (after_first is_comma line)) i
on-later field [] i h = absurd (omega arith)
on-later field (c ∷ line) i h = by (c == 44) refl (λ more. on-later (field ++ c ∷ []) line i more)
  where
    by : (comma : Bool) → (c == 44) ≡ comma
        → (position_or_len is_comma line < length line → field_at (fields_on (field ++ c ∷ []) line) (suc i) ≡ field_at (fields_in (after_first is_comma line)) i)
        → field_at (fields_on field (c ∷ line)) (suc i) ≡ field_at (fields_in (after_first is_comma (c ∷ line))) i
    by true e more =
        ap (λ (fs : List (List ℕ)). field_at fs (suc i)) (fields_on-comma field c line e) ∙ field-later (fields_on [] line) field i
        ∙ ap (λ (xs : List ℕ). field_at (fields_in xs) i) (sym (comma-behind c line e))
    by false e more =
        ap (λ (fs : List (List ℕ)). field_at fs (suc i)) (fields_on-other field c line e) ∙ more (omega (arith, h, other-at c line e))
        ∙ ap (λ (xs : List ℕ). field_at (fields_in xs) i) (sym (other-behind c line e))

on-none : (field line : List ℕ) (i : ℕ) → position_or_len is_comma line ≡ length line → field_at (fields_on field line) (suc i) ≡ None
on-none field [] i h = ap (λ (fs : List (List ℕ)). field_at fs (suc i)) (fields_on-end field) ∙ field-later [] field i ∙ field-past i
on-none field (c ∷ line) i h = by (c == 44) refl (λ more. on-none (field ++ c ∷ []) line i more)
  where
    by : (comma : Bool) → (c == 44) ≡ comma
        → (position_or_len is_comma line ≡ length line → field_at (fields_on (field ++ c ∷ []) line) (suc i) ≡ None)
        → field_at (fields_on field (c ∷ line)) (suc i) ≡ None
    by true e more = absurd (omega (arith, h, comma-at c line e))
    by false e more =
        ap (λ (fs : List (List ℕ)). field_at fs (suc i)) (fields_on-other field c line e) ∙ more (omega (arith, h, other-at c line e))

-- the field at hand
pub field-here : (line : List ℕ) → field_at (fields_in line) 0 ≡ Some (before_first is_comma line)
field-here line = on-first [] line

-- those behind the first comma
pub field-behind : (line : List ℕ) (left : ℕ) → 0 < left → position_or_len is_comma line < length line
    → field_at (fields_in line) left ≡ field_at (fields_in (after_first is_comma line)) (left - 1)
field-behind line zero some h = absurd (omega arith)
field-behind line (suc i) some h = on-later [] line i h ∙ ap (field_at (fields_in (after_first is_comma line))) (less-one i)

-- a line without a comma has one field
pub field-none : (line : List ℕ) (left : ℕ) → 0 < left → position_or_len is_comma line ≡ length line → field_at (fields_in line) left ≡ None
field-none line zero some h = absurd (omega arith)
field-none line (suc i) some h = on-none [] line i h
