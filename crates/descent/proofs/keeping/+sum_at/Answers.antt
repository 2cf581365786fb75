use Rattle.std.proofs.Common.{◌≡◌, ◌-◌, ◌++◌, inl, inr, length, ap, sym, subst, arith}
use Rattle.std.specs.Option.{option_map}
use Rattle.semantics.specs.Admission.{SumTerm, sums_of}
use Rattle.semantics.specs.Limits.{sums_in}
use Rattle.semantics.specs.Plain.{IsPlain}
use Rattle.expr.specs.declared.expression.Query.{Query}
use Rattle.expr.specs.Terms.{query_term_of, range_of, term_of}
use Rattle.descent.specs.Choice.{At}
use Rattle.descent.proofs.ChoiceLaws.{sums-length}
use Rattle.descent.proofs.KeepingLaws.{at-front, at-behind}
use Rattle.descent.proofs.keeping.+sum_at.Goals as goal

pub returns-then-k-first : goal.returns-then-k-first
returns-then-k-first t c =
    let p = query_term_of c.in-Add.p.value in
    let q = query_term_of c.in-Add.q.value in
    let e : sums_of (query_term_of c.args.q.now) ≡ sums_of p ++ sums_of q = elim c.in-Add.is [
      | inl e ↦ ap (λ (x : Query). sums_of (query_term_of x)) e
      | inr o ↦ elim o [
        | inl e ↦ ap (λ (x : Query). sums_of (query_term_of x)) e
        | inr e ↦ ap (λ (x : Query). sums_of (query_term_of x)) e
      ]
    ] in
    let s : SumTerm = record { series = term_of c.sum_at.result.0.now; range = option_map range_of c.sum_at.result.1 } in
    let h : At c.args.k s (sums_of p) = subst (λ (x : Query). At c.args.k s (sums_of (query_term_of x))) c.deref-then-k-first.ensures c.sum_at.ensures in
    subst (At c.args.k s) (sym e) (at-front c.args.k s (sums_of p) (sums_of q) h)

pub returns-else-k-first : goal.returns-else-k-first
returns-else-k-first t c =
    let p = query_term_of c.in-Add.p.value in
    let q = query_term_of c.in-Add.q.value in
    let e : sums_of (query_term_of c.args.q.now) ≡ sums_of p ++ sums_of q = elim c.in-Add.is [
      | inl e ↦ ap (λ (x : Query). sums_of (query_term_of x)) e
      | inr o ↦ elim o [
        | inl e ↦ ap (λ (x : Query). sums_of (query_term_of x)) e
        | inr e ↦ ap (λ (x : Query). sums_of (query_term_of x)) e
      ]
    ] in
    let plain : IsPlain p = elim c.in-Add.is [
      | inl e ↦ (subst (λ (x : Query). IsPlain (query_term_of x)) e c.requires.plain).0
      | inr o ↦ elim o [
        | inl e ↦ (subst (λ (x : Query). IsPlain (query_term_of x)) e c.requires.plain).0
        | inr e ↦ (subst (λ (x : Query). IsPlain (query_term_of x)) e c.requires.plain).0
      ]
    ] in
    let s : SumTerm = record { series = term_of c.sum_at-else-k-first.result.0.now; range = option_map range_of c.sum_at-else-k-first.result.1 } in
    let m = c.args.k - c.count-first.result in
    let h : At m s (sums_of q) = subst (λ (x : Query). At m s (sums_of (query_term_of x))) c.deref-else-k-first.ensures c.sum_at-else-k-first.ensures in
    let n : c.count-first.result ≡ sums_in p = subst (λ (x : Query). c.count-first.result ≡ sums_in (query_term_of x)) c.deref.ensures c.count-first.ensures in
    let long : length (sums_of p) ≡ sums_in p = sums-length p plain in
    let le = c.if-k-first.false in
    subst (At c.args.k s) (sym e) (at-behind c.args.k m s (sums_of p) (sums_of q) (omega arith) h)
