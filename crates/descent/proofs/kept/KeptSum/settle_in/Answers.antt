use Rattle.std.proofs.Common.{sym, subst}
use Rattle.expr.specs.Terms.{term_of}
use Rattle.descent.specs.Held.{shown}
use Rattle.descent.specs.declared.readers.Reader.{Reader}
use Rattle.descent.specs.Settled.{AreReadIn}
use Rattle.descent.proofs.PutSteps.{reader-is}
use Rattle.descent.proofs.Taking.{rest-first, rest-last}
use Rattle.descent.proofs.kept.KeptSum.settle_in.Goals as goal

pub settle-requires-clause-begins : goal.settle-requires-clause-begins
settle-requires-clause-begins g c = λ lt.
    let k = c.args.self.now in
    let cells = c.cells_read-cells.result in
    let read = subst (λ (r : Reader). AreReadIn k.cells r.at c.args.seg.now cells.0 cells.1) (sym (reader-is k.readers.items c.args.o c.index.result.now c.requires.occurrence c.index.ensures)) c.cells_read-cells.ensures in
    rest-first (shown c.args.tables.now) (term_of c.args.t.now) k cells.0 cells.1 c.args.right.0 c.args.right.1 c.rest_of-from.result.0 c.rest_of-from.result.1
    (c.requires.joints.first cells.0 cells.1 read) read.within c.requires.right c.rest_of-from.ensures lt

pub settle-requires-clause-ends : goal.settle-requires-clause-ends
settle-requires-clause-ends g c = λ lt.
    let k = c.args.self.now in
    let cells = c.cells_read-cells.result in
    let read = subst (λ (r : Reader). AreReadIn k.cells r.at c.args.seg.now cells.0 cells.1) (sym (reader-is k.readers.items c.args.o c.index.result.now c.requires.occurrence c.index.ensures)) c.cells_read-cells.ensures in
    rest-last (shown c.args.tables.now) (term_of c.args.t.now) k cells.0 cells.1 c.args.right.0 c.args.right.1 c.rest_of-from.result.0 c.rest_of-from.result.1
    (c.requires.joints.last cells.0 cells.1 read) c.requires.right c.rest_of-from.ensures lt
