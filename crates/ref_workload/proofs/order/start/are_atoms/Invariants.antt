use Rattle.std.proofs.Common.{◌≡◌, map, take}
use Rattle.ref_agents.specs.declared.starts.AtomStart.{AtomStart}
use Rattle.ref_workload.proofs.order.start.are_atoms.Given as goal

abbrev pub invariant-loop-i : goal.invariant-loop-i
invariant-loop-i l = take l.i l.values ≡ map (λ (a : AtomStart). a.value) (take l.i l.atoms)
