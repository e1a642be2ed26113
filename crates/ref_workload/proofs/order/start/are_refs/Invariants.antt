use Rattle.std.proofs.Common.{◌≡◌, map, take}
use Rattle.ref_agents.specs.declared.starts.RefStart.{RefStart}
use Rattle.ref_workload.proofs.order.start.are_refs.Given as goal

abbrev pub invariant-loop-i : goal.invariant-loop-i
invariant-loop-i l = take l.i l.values ≡ map (λ (r : RefStart). r.value) (take l.i l.refs)
