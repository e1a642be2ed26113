use Rattle.ref_world.proofs.Cut.{cut_checkpoint}
use Rattle.ref_world.proofs.booked.Booked.checkpoint.Goals as goal

pub invariant_of-self-clause-cut : goal.invariant_of-self-clause-cut
invariant_of-self-clause-cut g c =
    let b = c.args.self.now in
    cut_checkpoint g.M.Meaning.means c.checkpoint.result b.history b.world c.checkpoint.new.self c.args.point b.cut c.checkpoint.ensures.folded c.checkpoint.ensures.rest c.checkpoint.ensures.err
