-- The verdict, by what its steps find.
use Rattle.std.proofs.Common.{◌≡◌, ◌∙◌, ◌⊎◌, inl, inr, ℕ, List, Some, Ok, Err, sym, ap}
use Rattle.std.specs.Prelude.{unwrap_or}
use Rattle.bounds.specs.Cut.{Entry}
use Rattle.interval.specs.Interval.{Interval}
use Rattle.semantics.specs.Term.{QueryTerm}
use Rattle.error_prop.specs.Queries.{interval_over}
use Rattle.error_prop.specs.QueryOver.{sums_over}
use Rattle.expr_parse.specs.Parsed.{parsed}
use Rattle.store_file.specs.StoreValue.{Series, StoreValue}
use Rattle.answer_check.specs.declared.certificate.Cert.{Cert}
use Rattle.answer_check.specs.declared.verdict.Verdict.{Verdict}
use Rattle.answer_check.specs.declared.verdict.Verdict.TheVariants.{NotACut}
use Rattle.answer_check.specs.declared.verdict.VerifyErr.{VerifyErr}
use Rattle.answer_check.specs.declared.verdict.VerifyErr.TheVariants.{Memory as no_memory}
use Rattle.answer_check.specs.Verdict.{answer_of, cut_by, interval_of, judged, judged_over, no_interval, plain_by, plain_in, verdict_for, verdict_of}
use Rattle.answer_check.specs.Walked.{cut_in, IsFrameOf}

interval-is : (q : QueryTerm) (ss : List Series) (c : Cert) (es : List Entry) (f : IsFrameOf ss q c.cut es) (iv : Interval) → interval_over q (sums_over es q) ≡ Some iv
    → interval_of q f.nodes ≡ iv
unfolding interval_of
interval-is q ss c es f iv e = ap (λ o. unwrap_or o no_interval) (ap (λ xs. interval_over q (sums_over xs q)) (sym f.same) ∙ e)

pub judged-is : (m : StoreValue) (c : Cert) (q : QueryTerm) (es : List Entry) (iv : Interval) → IsFrameOf m.series q c.cut es → interval_over q (sums_over es q) ≡ Some iv → judged c iv ≡ verdict_of m q c
unfolding cut_by
judged-is m c q es iv f e = sym (ap (judged_over c q) f.cut ∙ ap (judged c) (interval-is q m.series c es f iv e))

pub no-cut : (m : StoreValue) (c : Cert) (q : QueryTerm) (place : ℕ) → cut_in m.series q c.cut ≡ Err place → NotACut place ≡ verdict_of m q c
unfolding cut_by
no-cut m c q place e = sym (ap (judged_over c q) e)

pub verdict-is : (m : StoreValue) (c : Cert) (q : QueryTerm) (v : Verdict) → plain_by m (parsed c.query) ≡ Ok q → v ≡ verdict_of m q c → answer_of m c ≡ Ok v
unfolding answer_of plain_in
verdict-is m c q v plain e = ap (verdict_for m c) plain ∙ ap Ok (sym e)

pub refused-is : (m : StoreValue) (c : Cert) (e : VerifyErr) → (e ≡ no_memory) ⊎ (plain_by m (parsed c.query) ≡ Err e) → (e ≡ no_memory) ⊎ (answer_of m c ≡ Err e)
unfolding answer_of plain_in
refused-is m c e (inl h) = inl h
refused-is m c e (inr h) = inr (ap (verdict_for m c) h)
