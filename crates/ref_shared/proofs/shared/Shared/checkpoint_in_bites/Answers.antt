use Rattle.ref_world.specs.HistoryLaws.{begins_itself, begins_then}
use Rattle.ref_shared.proofs.shared.Shared.checkpoint_in_bites.Goals as goal

pub loop-init : goal.loop-init
loop-init g c = begins_itself _

pub loop-preserved : goal.loop-preserved
loop-preserved g c = begins_then _ _ _ c.loop.invariant c.fold_bite.ensures.learned.known

pub returns-in-Ok-eq0-clause-learned : goal.returns-in-Ok-eq0-clause-learned
returns-in-Ok-eq0-clause-learned g c =
    record { known = begins_then _ _ _ c.loop.invariant c.fold_bite.ensures.learned.known; legal = c.fold_bite.ensures.learned.legal }

pub returns-in-Err-clause-learned : goal.returns-in-Err-clause-learned
returns-in-Err-clause-learned g c =
    record { known = begins_then _ _ _ c.loop.invariant c.fold_bite.ensures.learned.known; legal = c.fold_bite.ensures.learned.legal }
