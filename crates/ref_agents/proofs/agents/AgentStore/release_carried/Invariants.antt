use Rattle.std.proofs.Common.{◌≡◌, length, take}
use Rattle.ref_agents.specs.Agents.{carries_at, with_agents, with_each_released}
use Rattle.ref_agents.proofs.agents.AgentStore.release_carried.Given as goal

-- those before are released
abbrev pub invariant-loop-i : goal.invariant-loop-i
invariant-loop-i g l =
    let old = l.fn.self in
    record {
      released : l.self ≡ with_agents old (with_each_released l.g (take l.i (carries_at old.agents l.g)) old.agents);
      all : l.i-end ≡ length (carries_at old.agents l.g);
    }
