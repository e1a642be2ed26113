use Rattle.std.proofs.Common.{◌∙◌, ap, map, sym}
use Rattle.ref_shared.proofs.Looks.{names_one, of_targets}
use Rattle.ref_shared.proofs.shared.Shared.await_agents.Goals as goal
use Rattle.ref_shared.specs.declared.waiters.Target.{Target}

pub loop-init : goal.loop-init
loop-init g c = ap (map (λ (t : Target). t.g)) c.in_ok-targets.ensures.targets ∙ of_targets _ _ _

pub returns-in-Failed : goal.returns-in-Failed
returns-in-Failed g c = record { fault = names_one _ _ _ _ _ c.loop.invariant (rw c.as_slice.ensures.value at (sym c.in-Failed.ensures)) }
