use Rattle.ref_shared.proofs.Learned.{committed, conflicted}
use Rattle.ref_shared.proofs.shared.Shared.commit.Goals as goal

pub returns-clause-share : goal.returns-clause-share
returns-clause-share g c =
    let found = c.deref_mut.result.now.booked in
    let made = c.commit_with-committed in
    committed made.result g.M.Meaning.means c.args.stamp c.args.tx c.args.share.now made.new.share c.inform.new.share found.world made.new.self.world found.history made.new.self.history
    made.ensures.entry made.ensures.receipt made.ensures.share made.ensures.history made.ensures.known made.ensures.began made.ensures.unchanged
    c.inform.ensures.share c.inform.ensures.legal c.inform.ensures.point

pub returns-clause-conflict : goal.returns-clause-conflict
returns-clause-conflict g c =
    let found = c.deref_mut.result.now.booked in
    let made = c.commit_with-committed in
    conflicted made.result g.M.Meaning.means c.args.tx made.new.share c.inform.new.share found.world made.new.self.world found.history made.new.self.history
    made.ensures.conflict made.ensures.err c.inform.ensures.share c.inform.ensures.lasts
