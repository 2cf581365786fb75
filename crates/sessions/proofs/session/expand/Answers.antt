use Rattle.std.proofs.Common.{◌∙◌, sym}
use Rattle.sessions.specs.Kept.{reached_from}
use Rattle.sessions.proofs.SessionLaws.{same_reached, still_tracks}
use Rattle.sessions.proofs.session.expand.Goals as goal

pub returns-clause-tracks : goal.returns-clause-tracks
returns-clause-tracks c =
    let r = c.new-nodes.result in
    let same = same_reached r c.new-source.result (c.new-nodes.ensures.nodes ∙ sym c.new-source.ensures.nodes) (c.new-nodes.ensures.trees ∙ sym c.new-source.ensures.trees) in
    let is = same_reached r (reached_from c.args.arena.now.nodes c.args.trees.now) c.new-nodes.ensures.nodes c.new-nodes.ensures.trees in
    still_tracks c.args.arena.now.nodes c.args.trees.now r c.expand.new.nodes c.new-source.result c.expand.new.source c.expand.new.self.tracks is same c.expand.ensures.lasting
    c.requires.nodes.all c.expand.ensures.means c.in-Ok.ensures.of
