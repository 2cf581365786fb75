use Rattle.store_file.proofs.StoredLaws.{view-header}
use Rattle.store_file.proofs.store.Store.header.Goals as goal

pub returns : goal.returns
returns c = view-header _ c.args.self.now c.in_ok-bytes.bytes.items c.push_header.new.into.items c.self.view_is c.self.invariant c.in_ok-bytes.ensures.items c.in_ok-push_header.ensures
