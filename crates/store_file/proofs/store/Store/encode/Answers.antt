use Rattle.store_file.proofs.StoredLaws.{AreShort-of, view-value, view-image}
use Rattle.store_file.proofs.store.Store.encode.Goals as goal

pub trees_len-size-requires-clause-short : goal.trees_len-size-requires-clause-short
trees_len-size-requires-clause-short c = AreShort-of _ c.self.inside.series.entries c.self.invariant.trees

pub returns-in_err-bytes-clause-value : goal.returns-in_err-bytes-clause-value
returns-in_err-bytes-clause-value c = view-value _ c.args.self.now c.self.view_is c.self.invariant

pub returns-in_err-push_header-clause-value : goal.returns-in_err-push_header-clause-value
returns-in_err-push_header-clause-value c = view-value _ c.args.self.now c.self.view_is c.self.invariant

pub returns-in_err-push_trees-clause-value : goal.returns-in_err-push_trees-clause-value
returns-in_err-push_trees-clause-value c = view-value _ c.args.self.now c.self.view_is c.self.invariant

pub returns-clause-bytes : goal.returns-clause-bytes
returns-clause-bytes c =
    view-image _ c.args.self.now c.in_ok-bytes.bytes.items c.push_header.new.into.items c.push_trees.new.into.items c.self.view_is c.self.invariant c.in_ok-bytes.ensures.items c.in_ok-push_header.ensures c.in_ok-push_trees.ensures

pub returns-clause-value : goal.returns-clause-value
returns-clause-value c = view-value _ c.args.self.now c.self.view_is c.self.invariant
