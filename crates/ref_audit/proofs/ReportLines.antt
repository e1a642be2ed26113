-- Lines of a report from a place on.
use Rattle.std.proofs.Common.{◌≡◌, ℕ, ◌+◌, List, [], ◌∷◌, ◌++◌, None, Some, refl, sym, ◌∙◌, drop, append_assoc, ap}
use Rattle.std.specs.Prelude.{is_some, slice_get}
use Rattle.std.proofs.lemmas.List.{append-nil}
use Rattle.ref_agents.specs.declared.agents.Agent.{Agent}
use Rattle.ref_value.specs.Edn.{Edn}
use Rattle.ref_audit.specs.Report.{agent_line, agent_lines, value_line, value_lines}
use Rattle.ref_audit.proofs.Left.{left_at, left_end}

-- One more line is written, or none is left.
pub line_more : (all out next rest left line : List ℕ) → out ++ rest ≡ all → rest ≡ line ++ left → next ≡ out ++ line → next ++ left ≡ all
line_more all out next rest left line whole first more = rw more (append_assoc out line left ∙ (ap (λ r. out ++ r) (sym first) ∙ whole))

pub lines_all : (all out rest : List ℕ) → out ++ rest ≡ all → rest ≡ [] → out ≡ all
lines_all all out rest whole none = sym (append-nil out) ∙ (ap (λ r. out ++ r) (sym none) ∙ whole)

-- ---- values

pub value_lines_at : (kind : List ℕ) (names : List (List ℕ)) (values : List Edn) (i : ℕ) (name : List ℕ) (v : Edn) → slice_get names i ≡ Some name → slice_get values i ≡ Some v
    → value_lines kind (drop i names) (drop i values) ≡ value_line kind name v ++ value_lines kind (drop (i + 1) names) (drop (i + 1) values)
value_lines_at kind names values i name v named there = rw (left_at names i name named, left_at values i v there) refl

no_values : (kind : List ℕ) (names : List (List ℕ)) → value_lines kind names [] ≡ []
no_values kind [] = refl
no_values kind (name ∷ names) = refl

pub value_lines_end : (kind : List ℕ) (names : List (List ℕ)) (values : List Edn) (i : ℕ) → slice_get values i ≡ None → value_lines kind (drop i names) (drop i values) ≡ []
value_lines_end kind names values i none = rw (left_end values i none) (no_values kind (drop i names))

-- ---- agents

pub agent_lines_at : (names : List (List ℕ)) (agents : List Agent) (i : ℕ) (name : List ℕ) (agent : Agent) → slice_get names i ≡ Some name → slice_get agents i ≡ Some agent
    → agent_lines (drop i names) (drop i agents) ≡ agent_line name agent.value (is_some agent.error) ++ agent_lines (drop (i + 1) names) (drop (i + 1) agents)
agent_lines_at names agents i name agent named there = rw (left_at names i name named, left_at agents i agent there) refl

no_agents : (names : List (List ℕ)) → agent_lines names [] ≡ []
no_agents [] = refl
no_agents (name ∷ names) = refl

pub agent_lines_end : (names : List (List ℕ)) (agents : List Agent) (i : ℕ) → slice_get agents i ≡ None → agent_lines (drop i names) (drop i agents) ≡ []
agent_lines_end names agents i none = rw (left_end agents i none) (no_agents (drop i names))
