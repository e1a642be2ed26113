-- Making an agent.
use Rattle.std.specs.Prelude.{ℕ, Bool, false, [], ◌∷◌, ◌++◌, length, Option, None}
use Rattle.ref_value.specs.Edn.{Edn}
use Rattle.ref_fun.specs.Rule.{Accepts}
use Rattle.ref_fun.specs.declared.rules.Rule.{Rule}
use Rattle.ref_log.specs.Guards.{with_guard}
use Rattle.ref_log.specs.Make.{make_refusal}
use Rattle.ref_log.specs.declared.faults.MakeFault.{MakeFault}
use Rattle.ref_agents.specs.Agents.{AgentsSeen}
use Rattle.ref_agents.specs.declared.agents.Agent.{Agent}
use Rattle.ref_agents.specs.declared.agents.ErrorMode.{ErrorMode}

-- The first fault of making an agent with this state and this rule, if any. It is no tally, and has no point.
abbrev pub agent_refusal : Accepts → (ℕ → Bool) → AgentsSeen → Edn → Option Rule → Option MakeFault
agent_refusal accepts knows store start rule = make_refusal accepts knows (length store.agents) false 0 start rule

-- an agent that was just made
abbrev pub new_agent : Edn → ErrorMode → Agent
new_agent start mode =
    record { value = start; mode = mode; error = None; account = record { start = start; past = 0; handled = []; queue = [] }; is_out = false; is_carrying = false }

-- The store with an agent more, whose number is the next one.
abbrev pub with_agent : AgentsSeen → Edn → Option Rule → ErrorMode → AgentsSeen
with_agent store start rule mode =
    record store { agents = store.agents ++ new_agent start mode ∷ []; guards = with_guard store.guards rule }
