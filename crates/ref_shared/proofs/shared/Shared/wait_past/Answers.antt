use Rattle.std.proofs.Common.{subst}
use Rattle.ref_shared.specs.Commits.{HasLearned}
use Rattle.ref_shared.proofs.Learned.{informed}
use Rattle.ref_shared.proofs.shared.Shared.wait_past.Goals as goal

pub returns-then-has_come-clause-learned : goal.returns-then-has_come-clause-learned
returns-then-has_come-clause-learned g c =
    subst (λ s. HasLearned g.M.Meaning.means s c.inform.new.share) c.loop.invariant
    (informed _ _ _ _ c.inform.ensures.share c.inform.ensures.known c.inform.ensures.legal)
