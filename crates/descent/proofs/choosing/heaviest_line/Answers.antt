use Rattle.std.proofs.Common.{◌≡◌, inl, inr, length, sym, ◌∙◌, arith}
use Rattle.std.proofs.lemmas.Bool.{cases_lt}
use Rattle.descent.specs.Charging.{weight_in}
use Rattle.descent.proofs.ChoiceLaws.{weight-at, weight-beyond, most-more}
use Rattle.descent.proofs.choosing.heaviest_line.Goals as goal
use Rattle.descent.proofs.choosing.heaviest_line.Goals.{then-next-most, else-next-most}

pub loop-i-preserved : goal.loop-i-preserved
loop-i-preserved c =
    let ls = c.args.lines.now in
    let i = c.loop-i.i in
    let inv = c.loop-i.invariant in
    let here : weight_in ls i ≡ c.weight-next.result = weight-at ls i c.index-lines-i.result c.loop-i-test.true c.index-lines-i.is ∙ sym c.weight-next.ensures in
    elim c.if-next-most.branch [
      | then-next-most w ↦
          let more = w.if-next-most in
          rw (w.most-is, w.at-is) (record {
            most = most-more (weight_in ls) i c.loop-i.most c.weight-next.result inv.most (omega arith) (omega arith);
            is = λ some. here;
            within = λ some. omega arith;
            lighter = λ j lt. let a = inv.most j lt in omega arith;
          })
      | else-next-most w ↦
          let less = w.if-next-most in
          rw (w.most-is, w.at-is) (record {
            most = most-more (weight_in ls) i c.loop-i.most c.loop-i.most inv.most (omega arith) (omega arith);
            is = inv.is;
            within = λ some. let lt = inv.within some in omega arith;
            lighter = inv.lighter;
          })
    ]

pub returns-then-most-eq0 : goal.returns-then-most-eq0
returns-then-most-eq0 c =
    λ j. elim (cases_lt j (length c.args.lines.now)) [
      | inl lt ↦ let a = c.loop-i.invariant.most j (omega arith) in let z = c.if-most-eq0.true in omega arith
      | inr ge ↦ weight-beyond c.args.lines.now j ge
    ]
