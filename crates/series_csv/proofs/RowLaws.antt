-- The records that a reader has left, one read after another.
use Rattle.std.proofs.Common.{◌≡◌, ◌≤◌, ◌+◌, ℕ, zero, suc, List, [], ◌∷◌, ◌++◌, length, Option, Some, None, Bool, true, false, cond, inl, add-one, unwrap_or, IsSome, refl, sym, ap, ◌∙◌, arith, Bor}
use Rattle.std.proofs.lemmas.Bool.{false≢true}
use Rattle.csv.specs.Machine.{Read, next_record, step, is_end, ends_at_end, fields_after, field_after}
use Rattle.csv.specs.Reading.{Reached, records_from, records_next, ReadRecord, default_config, source_of, reader_state, took_first, is_flexible}
use Rattle.csv.specs.declared.parser.Config.{Config}
use Rattle.csv.specs.declared.parser.State.{State}
use Rattle.csv.specs.declared.parser.State.TheVariants as st
use Rattle.csv.proofs.ReadFacts.{rows-end, rows-more}
use Rattle.series_csv.specs.Left.{IsPlain, BytesReader, bytes_left, rows_left}

-- the last record of a text leaves nothing
pub record-at_end : (cfg : Config) (s : State) (fields : List (List ℕ)) (field : List ℕ) (p : Read)
    → next_record cfg s fields field [] ≡ Some p → (p.1 ≡ st.StartRecord) × (p.2 ≡ [])
unfolding next_record
record-at_end cfg s fields field p e = by (ends_at_end s) e
  where
    by : (b : Bool) → cond b (Some (fields ++ (field ∷ []), st.StartRecord, [])) None ≡ Some p → (p.1 ≡ st.StartRecord) × (p.2 ≡ [])
    by true e = let same : (fields ++ (field ∷ []), st.StartRecord, []) ≡ p = cc in (ap (λ (q : Read). q.1) (sym same), ap (λ (q : Read). q.2) (sym same))
    by false e = cc

-- a record takes at least one byte, where there is one
pub record-shrinks : (cfg : Config) (s : State) (fields : List (List ℕ)) (field : List ℕ) (c : ℕ) (xs : List ℕ) (p : Read)
    → next_record cfg s fields field (c ∷ xs) ≡ Some p → length p.2 ≤ length xs
unfolding next_record
record-shrinks cfg s fields field c [] p e =
    by (is_end (step cfg s c).1) e (record-at_end cfg (step cfg s c).0 (fields_after (step cfg s c).1 fields field) (field_after (step cfg s c).1 c field) p)
  where
    by : (b : Bool)
        → cond b (Some (fields_after (step cfg s c).1 fields field, (step cfg s c).0, [])) (next_record cfg (step cfg s c).0 (fields_after (step cfg s c).1 fields field) (field_after (step cfg s c).1 c field) []) ≡ Some p
        → (next_record cfg (step cfg s c).0 (fields_after (step cfg s c).1 fields field) (field_after (step cfg s c).1 c field) [] ≡ Some p → (p.1 ≡ st.StartRecord) × (p.2 ≡ []))
        → length p.2 ≤ 0
    by true e more = let same : (fields_after (step cfg s c).1 fields field, (step cfg s c).0, []) ≡ p = cc in omega (arith, ap (λ (q : Read). length q.2) same)
    by false e more = omega (arith, ap length (more e).1)
record-shrinks cfg s fields field c (d ∷ ds) p e =
    by (is_end (step cfg s c).1) e (record-shrinks cfg (step cfg s c).0 (fields_after (step cfg s c).1 fields field) (field_after (step cfg s c).1 c field) d ds p)
  where
    by : (b : Bool)
        → cond b (Some (fields_after (step cfg s c).1 fields field, (step cfg s c).0, d ∷ ds)) (next_record cfg (step cfg s c).0 (fields_after (step cfg s c).1 fields field) (field_after (step cfg s c).1 c field) (d ∷ ds)) ≡ Some p
        → (next_record cfg (step cfg s c).0 (fields_after (step cfg s c).1 fields field) (field_after (step cfg s c).1 c field) (d ∷ ds) ≡ Some p → length p.2 ≤ length ds)
        → length p.2 ≤ suc (length ds)
    by true e more = let same : (fields_after (step cfg s c).1 fields field, (step cfg s c).0, d ∷ ds) ≡ p = cc in omega (arith, ap (λ (q : Read). length q.2) same)
    by false e more = omega (arith, more e)

-- no text, no record
pub records-none : (cfg : Config) (n : ℕ) → records_from cfg n st.StartRecord [] ≡ []
unfolding records_from next_record
records-none cfg zero = refl
records-none cfg (suc n) = refl

-- more turns than bytes give no more records
pub records-enough : (cfg : Config) (n m : ℕ) (s : State) (xs : List ℕ) → length xs + 1 ≤ n → length xs + 1 ≤ m → records_from cfg n s xs ≡ records_from cfg m s xs
unfolding records_from
records-enough cfg zero m s xs h k = absurd (omega arith)
records-enough cfg (suc n) zero s xs h k = absurd (omega arith)
records-enough cfg (suc n) (suc m) s xs h k = by xs h k (next_record cfg s [] [] xs) refl (records-enough cfg n m)
  where
    by : (xs : List ℕ) → length xs + 1 ≤ suc n → length xs + 1 ≤ suc m → (o : Option Read) → next_record cfg s [] [] xs ≡ o
        → ((s : State) (xs : List ℕ) → length xs + 1 ≤ n → length xs + 1 ≤ m → records_from cfg n s xs ≡ records_from cfg m s xs)
        → records_next (records_from cfg n) o ≡ records_next (records_from cfg m) o
    by xs h k None e more = refl
    by [] h k (Some p) e more =
        let end = record-at_end cfg s [] [] p e in
        ap (λ rest. p.0 ∷ rest) (rw (end.0, end.1) (records-none cfg n ∙ sym (records-none cfg m)))
    by (c ∷ xs) h k (Some p) e more =
        let less = record-shrinks cfg s [] [] c xs p e in
        ap (λ rest. p.0 ∷ rest) (more p.1 p.2 (omega arith) (omega arith))

records-turn : (cfg : Config) (n : ℕ) (s : State) (xs : List ℕ) → records_from cfg (n + 1) s xs ≡ records_next (records_from cfg n) (next_record cfg s [] [] xs)
unfolding records_from
records-turn cfg n s xs = rw add-one refl

-- the records from a state on, by the next one
pub records-some : (cfg : Config) (s : State) (xs : List ℕ) (p : Read) → next_record cfg s [] [] xs ≡ Some p
    → records_from cfg (length xs + 1) s xs ≡ p.0 ∷ records_from cfg (length p.2 + 1) p.1 p.2
records-some cfg s xs p e = records-turn cfg (length xs) s xs ∙ ap (records_next (records_from cfg (length xs))) e ∙ ap (λ rest. p.0 ∷ rest) (rest xs e)
  where
    rest : (xs : List ℕ) → next_record cfg s [] [] xs ≡ Some p → records_from cfg (length xs) p.1 p.2 ≡ records_from cfg (length p.2 + 1) p.1 p.2
    rest [] e =
        let end = record-at_end cfg s [] [] p e in
        rw (end.0, end.1) (records-none cfg 0 ∙ sym (records-none cfg 1))
    rest (c ∷ xs) e =
        let less = record-shrinks cfg s [] [] c xs p e in
        records-enough cfg _ _ p.1 p.2 (omega arith) (omega arith)

pub records-over : (cfg : Config) (s : State) (xs : List ℕ) → next_record cfg s [] [] xs ≡ None → records_from cfg (length xs + 1) s xs ≡ []
records-over cfg s xs e = records-turn cfg (length xs) s xs ∙ ap (records_next (records_from cfg (length xs))) e

known-bytes : (o : Option (List ℕ)) → IsSome o → o ≡ Some (unwrap_or o [])
known-bytes None h = cc
known-bytes (Some xs) h = refl

known-some : (o : Option (List ℕ)) (xs : List ℕ) → o ≡ Some xs → IsSome o × (unwrap_or o [] ≡ xs)
known-some o xs e = rw e (refl, refl)

-- a read that found a record took the first of those that were left
pub row-found : (old new : BytesReader) (fields : List (List ℕ))
    → IsPlain old → ReadRecord (λ (s : Bor (List ℕ)). Some s.now) old new true fields
    → (rows_left old ≡ fields ∷ rows_left new) × IsSome (source_of (λ (s : Bor (List ℕ)). Some s.now) new)
unfolding Reached
row-found old new fields plain r =
    let source = known-bytes _ plain.known in
    let g = rows-more (λ (s : Bor (List ℕ)). Some s.now) old new fields default_config (reader_state old) (bytes_left old) (bytes_left old) [] plain.config source (refl, refl) r in
    let p = g.2.0 in
    let left = known-some _ _ g.1 in
    let next = records-some default_config (reader_state old) (bytes_left old) p g.2.1 in
    (next ∙ rw (left.1, ← g.2.2, g.2.3.0, g.2.3.1) refl, left.0)

-- a read that found none had none left
pub row-none : (old new : BytesReader) (fields : List (List ℕ))
    → IsPlain old → ReadRecord (λ (s : Bor (List ℕ)). Some s.now) old new false fields → rows_left old ≡ []
row-none old new fields plain r =
    records-over default_config (reader_state old) (bytes_left old) (rows-end (λ (s : Bor (List ℕ)). Some s.now) old new fields default_config (bytes_left old) plain.config (known-bytes _ plain.known) r)

-- what a read of a row shows
pub row-read : (old new : BytesReader) (found : Bool) (fields : List (List ℕ))
    → IsPlain old → ReadRecord (λ (s : Bor (List ℕ)). Some s.now) old new found fields
    → (rows_left old ≡ cond found (fields ∷ rows_left new) []) × (found ≡ true → IsSome (source_of (λ (s : Bor (List ℕ)). Some s.now) new))
row-read old new true fields plain r =
    let g = row-found old new fields plain r in
    (g.0, λ e. g.1)
row-read old new false fields plain r = (row-none old new fields plain r, λ e. absurd (false≢true e))

-- the reader goes on as it was
pub plain-after : (old new : BytesReader) (found : Bool) (fields : List (List ℕ))
    → IsPlain old → ReadRecord (λ (s : Bor (List ℕ)). Some s.now) old new found fields
    → took_first new ≡ true → is_flexible new ≡ is_flexible old → found ≡ true → IsPlain new
plain-after old new found fields plain r first flexible e = record {
  plain = r.3 ∙ plain.plain;
  ready = inl first;
  config = r.2 ∙ plain.config;
  flexible = flexible ∙ plain.flexible;
  known = (row-read old new found fields plain r).1 e;
}
