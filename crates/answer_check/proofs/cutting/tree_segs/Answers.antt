use Rattle.std.proofs.Common.{subst}
use Rattle.std.proofs.lemmas.Result.{IfOk-weaker}
use Rattle.seg_tree.specs.Trees.{IsTreeAt}
use Rattle.answer_check.specs.Walked.{tree_over}
use Rattle.answer_check.proofs.Cuts.{touch-of}
use Rattle.answer_check.proofs.cutting.tree_segs.Goals as goal

pub returns-in-Some-clause-touch : goal.returns-in-Some-clause-touch
returns-in-Some-clause-touch c =
    let nodes = c.args.arena.now.nodes in
    let is = subst (λ o. IsTreeAt nodes o c.args.tree.n) c.in-Some.is c.requires in
    IfOk-weaker c.cut_segs.result _ _ (λ o h. touch-of c.args.tree.n (tree_over nodes c.in-Some.root 0 c.args.tree.n) c.args.rows.now o is.1 h) c.cut_segs.ensures
