-- The references of a world by kind and number.
use Rattle.std.specs.Prelude.{ℕ, Bool, ◌&&◌, List, Option, slice_get}
use Rattle.ref_value.specs.Edn.{Edn}
use Rattle.ref_fun.specs.Rule.{Accepts}
use Rattle.ref_fun.specs.declared.rules.Rule.{Rule}
use Rattle.ref_log.specs.Guards as guards
use Rattle.ref_log.specs.declared.guards.Guard.{Guard}
use Rattle.ref_log.specs.declared.faults.RuleFault.{RuleFault}
use Rattle.ref_log.specs.declared.notices.Who.{Who}
use Rattle.ref_log.specs.declared.notices.Who.TheVariants.{Ref, Atom, Agent}
use Rattle.ref_agents.specs.Agents as agents
use Rattle.ref_atoms.specs.Atoms as atoms
use Rattle.ref_refs.specs.Seen as refs
use Rattle.ref_world.specs.Seen.{WorldSeen}
use Rattle.ref_world.specs.World.{with_agents, with_atoms, with_refs}

-- the number of a reference
abbrev pub number_of : Who → ℕ
number_of (Ref r) = r
number_of (Atom a) = a
number_of (Agent g) = g

-- the values of its kind: those of agents are their states
abbrev pub values_of : WorldSeen → Who → List Edn
values_of world (Ref r) = world.refs.values
values_of world (Atom a) = world.atoms.values
values_of world (Agent g) = agents.values_of world.agents.agents

-- the rules and the watches of its kind
abbrev pub guards_of : WorldSeen → Who → List Guard
guards_of world (Ref r) = world.refs.guards
guards_of world (Atom a) = world.atoms.guards
guards_of world (Agent g) = world.agents.guards

abbrev pub with_guards : WorldSeen → Who → List Guard → WorldSeen
with_guards world (Ref r) gs = with_refs world (refs.with_guards world.refs gs)
with_guards world (Atom a) gs = with_atoms world (atoms.with_guards world.atoms gs)
with_guards world (Agent g) gs = with_agents world (agents.with_guards world.agents gs)

-- the value of a reference, if it is there
abbrev pub value_at : WorldSeen → Who → Option Edn
value_at world who = slice_get (values_of world who) (number_of who)

-- its rule, if it has one
abbrev pub rule_at : WorldSeen → Who → Option Rule
rule_at world who = guards.rule_at (guards_of world who) (number_of who)

-- whether the rule, if there is one, accepts the value
abbrev pub is_accepted_at : Accepts → WorldSeen → Who → Bool
is_accepted_at accepts world who = guards.is_accepted_at accepts (guards_of world who) (values_of world who) (number_of who)

-- the keys of its watches
abbrev pub keys_at : WorldSeen → Who → List Edn
keys_at world who = guards.keys_at (guards_of world who) (number_of who)

-- why it can't be given another rule
abbrev pub rule_refusal : Accepts → (ℕ → Bool) → WorldSeen → Who → Option Rule → Option RuleFault
rule_refusal accepts knows world who rule = guards.rule_refusal accepts knows (value_at world who) rule

abbrev pub with_rule : WorldSeen → Who → Option Rule → WorldSeen
with_rule world who rule = with_guards world who (guards.with_rule (guards_of world who) (number_of who) rule)

abbrev pub with_watch : WorldSeen → Who → Edn → WorldSeen
with_watch world who key = with_guards world who (guards.with_watch (guards_of world who) (number_of who) key)

abbrev pub without_watch : WorldSeen → Who → Edn → WorldSeen
without_watch world who key = with_guards world who (guards.without_watch (guards_of world who) (number_of who) key)

-- Whether a table knows the predicate of each rule here.
abbrev pub are_known : (ℕ → Bool) → WorldSeen → Bool
are_known knows world = guards.are_known knows world.refs.guards && (guards.are_known knows world.atoms.guards && guards.are_known knows world.agents.guards)
