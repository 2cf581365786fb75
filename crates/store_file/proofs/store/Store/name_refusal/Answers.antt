use Rattle.std.proofs.Common.{sym, arith}
use Rattle.store_file.proofs.AddedLaws.{name_refusal-there, name_refusal-many, name_refusal-none}
use Rattle.store_file.proofs.store.Store.name_refusal.Goals as goal

pub returns-then-contains_key : goal.returns-then-contains_key
returns-then-contains_key c = name_refusal-there _ c.args.self.now c.args.name.now c.self.view_is (sym c.if-contains_key.ensures)

pub returns-then-len-ge16 : goal.returns-then-len-ge16
returns-then-len-ge16 c = name_refusal-many _ c.args.self.now c.args.name.now c.self.view_is (sym c.if-contains_key.ensures) (omega (arith, c.len.ensures.len, c.if-len-ge16.true))

pub returns : goal.returns
returns c = name_refusal-none _ c.args.self.now c.args.name.now c.self.view_is (sym c.if-contains_key.ensures) (omega (arith, c.len.ensures.len, c.if-len-ge16.false))
