-- One turn of the loops of a report.
use Rattle.std.proofs.Common.{◌≡◌, ℕ, ◌+◌, ◌<◌, Bool, List, ◌++◌, Option, None, Some, sym, ap, ◌∙◌, drop, get_or, length}
use Rattle.std.specs.Prelude.{is_some}
use Rattle.ref_value.specs.Edn.{Edn}
use Rattle.ref_agents.specs.Agents.{error_at, error_if_here}
use Rattle.ref_agents.specs.declared.faults.AgentError.{AgentError}
use Rattle.ref_log.specs.declared.notices.Who.{Who}
use Rattle.ref_log.specs.declared.notices.Who.TheVariants as whos
use Rattle.ref_world.specs.Seen.{WorldSeen}
use Rattle.ref_world.specs.References.{value_at, values_of}
use Rattle.ref_audit.specs.Made.{who_of}
use Rattle.ref_audit.specs.Report.{agent_line, agent_lines, value_line, value_lines}
use Rattle.ref_audit.specs.declared.kinds.RefOrAtom.{RefOrAtom}
use Rattle.ref_audit.proofs.Left.{there_at}
use Rattle.ref_audit.proofs.Numbered.{value_there}
use Rattle.ref_audit.proofs.References.{agent_of_state, no_state}
use Rattle.ref_audit.proofs.ReportLines.{agent_lines_at, agent_lines_end, line_more, lines_all, value_lines_at, value_lines_end}

-- ---- refs and atoms

pub values_turn : (world : WorldSeen) (kind : RefOrAtom) (text : List ℕ) (names : List (List ℕ)) (i n : ℕ) (who : Who) (name : List ℕ) (v : Edn) (all out next : List ℕ)
    → i < length names → name ≡ get_or names i name → n ≡ i → who ≡ who_of kind n → Some v ≡ value_at world who
    → out ++ value_lines text (drop i names) (drop i (values_of world (who_of kind 0))) ≡ all → next ≡ out ++ value_line text name v
    → next ++ value_lines text (drop (i + 1) names) (drop (i + 1) (values_of world (who_of kind 0))) ≡ all
values_turn world kind text names i n who name v all out next below is same at told whole more =
    let values = values_of world (who_of kind 0) in
    let there = value_there world kind i who (Some v) (at ∙ ap (who_of kind) same) told in
    line_more all out next _ _ _ whole (value_lines_at text names values i name v (there_at names i name below is) there) more

pub values_end : (world : WorldSeen) (kind : RefOrAtom) (text : List ℕ) (names : List (List ℕ)) (i n : ℕ) (who : Who) (all out : List ℕ)
    → n ≡ i → who ≡ who_of kind n → None ≡ value_at world who
    → out ++ value_lines text (drop i names) (drop i (values_of world (who_of kind 0))) ≡ all → out ≡ all
values_end world kind text names i n who all out same at told whole =
    let none = value_there world kind i who None (at ∙ ap (who_of kind) same) told in
    lines_all all out _ whole (value_lines_end text names (values_of world (who_of kind 0)) i none)

-- ---- agents

pub agents_turn : (world : WorldSeen) (names : List (List ℕ)) (i n : ℕ) (name : List ℕ) (state : Edn) (error : Option AgentError) (failed : Bool) (all out next : List ℕ)
    → i < length names → name ≡ get_or names i name → n ≡ i → Some state ≡ value_at world (whos.Agent n) → error ≡ error_at world.agents.agents n → failed ≡ is_some error
    → out ++ agent_lines (drop i names) (drop i world.agents.agents) ≡ all → next ≡ out ++ agent_line name state failed
    → next ++ agent_lines (drop (i + 1) names) (drop (i + 1) world.agents.agents) ≡ all
agents_turn world names i n name state error failed all out next below is same told erred fails whole more =
    let agents = world.agents.agents in
    let found = agent_of_state agents i state (sym (told ∙ ap (λ g. value_at world (whos.Agent g)) same)) in
    let agent = found.0 in
    let same_error : is_some agent.error ≡ failed = ap is_some (sym (ap error_if_here found.1)) ∙ (ap (λ g. is_some (error_at agents g)) (sym same) ∙ (ap is_some (sym erred) ∙ sym fails)) in
    let rest = agent_lines (drop (i + 1) names) (drop (i + 1) agents) in
    let line : agent_line name agent.value (is_some agent.error) ++ rest ≡ agent_line name state failed ++ rest =
    ap (λ s. agent_line name s (is_some agent.error) ++ rest) found.2 ∙ ap (λ f. agent_line name state f ++ rest) same_error in
    line_more all out next _ _ _ whole (agent_lines_at names agents i name agent (there_at names i name below is) found.1 ∙ line) more

pub agents_end : (world : WorldSeen) (names : List (List ℕ)) (i n : ℕ) (all out : List ℕ)
    → n ≡ i → None ≡ value_at world (whos.Agent n)
    → out ++ agent_lines (drop i names) (drop i world.agents.agents) ≡ all → out ≡ all
agents_end world names i n all out same told whole =
    let none = no_state world.agents.agents i (sym (told ∙ ap (λ g. value_at world (whos.Agent g)) same)) in
    lines_all all out _ whole (agent_lines_end names world.agents.agents i none)
