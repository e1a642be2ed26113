use Rattle.ref_world.specs.History.{Begins}
use Rattle.ref_shared.proofs.shared.Shared.checkpoint_in_bites.Given as goal

abbrev pub invariant-loop : goal.invariant-loop
invariant-loop g l = Begins l.fn.front l.front
