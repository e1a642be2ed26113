-- The dump of a world: one map, with which a program can replay the world's log on its base and compare the values.
-- docs/DUMPS.md shows each form with an example.
use Rattle.std.specs.Prelude.{ℕ, Bool, true, false, min, nat_lt, if◌then◌else◌, is_some, List, [], ◌∷◌, map, Option, None, Some}
use Rattle.std.specs.List.{enumerate_from, zip}
use Rattle.std.specs.Option.{option_map, option_or}
use Rattle.ref_value.specs.Edn as edn
use Rattle.ref_value.specs.Edn.{Edn, nil, keyword, entries_of, nesting}
use Rattle.ref_fun.specs.declared.actions.Action.{Action}
use Rattle.ref_fun.specs.declared.carries.Carry.{Carry}
use Rattle.ref_fun.specs.declared.rules.Rule.{Rule}
use Rattle.ref_fun.specs.Names.{is_function}
use Rattle.ref_agents.specs.Account.{AccountSeen}
use Rattle.ref_agents.specs.declared.accounts.Handled.{Handled}
use Rattle.ref_agents.specs.declared.accounts.Mark.{Mark}
use Rattle.ref_agents.specs.declared.accounts.Mark.TheVariants as marks
use Rattle.ref_agents.specs.declared.accounts.Queued.{Queued}
use Rattle.ref_agents.specs.declared.agents.Agent.{Agent}
use Rattle.ref_log.specs.Guards.{rule_at}
use Rattle.ref_log.specs.declared.entries.Entry.{Entry}
use Rattle.ref_log.specs.declared.entries.Entry.TheVariants.{Trans, Atom, MadeRef, MadeAtom}
use Rattle.ref_log.specs.declared.guards.Guard.{Guard}
use Rattle.ref_log.specs.declared.operations.Done.{Done}
use Rattle.ref_log.specs.declared.operations.Op.{Op}
use Rattle.ref_log.specs.declared.operations.Op.TheVariants.{Set, Alter, Commute, Ensure}
use Rattle.ref_log.specs.declared.sends.Sent.{Sent}
use Rattle.ref_log.specs.declared.states.Base.{Base}
use Rattle.ref_world.specs.Seen.{WorldSeen}
use Rattle.ref_verdict.specs.Words.{added_key, agents_key, atoms_key, base_atoms_key, base_refs_key, commits_key, dump_key, entries_key, folded_key, point_key, refs_key, taken_key, tally_key, tx_tag, reset_tag, swap_tag, made_ref_tag, made_atom_tag, set_tag, alter_tag, commute_tag, ensure_tag, done_mark, failed_mark, passed_mark, ready_status, failed_status, number_form, vector_form, name_form, action_forms, carries_form, rule_form}
use Rattle.ref_audit.specs.declared.faults.DumpMakeFault.{DumpMakeFault}
use Rattle.ref_audit.specs.declared.faults.DumpMakeFault.TheVariants as faults
use Rattle.ref_value.specs.Limits.{most_nested}

-- ---- entries

-- [WORD N F [ARG ..] ANSWER]: a function that was called for the reference of this number
abbrev pub call_form : List ℕ → ℕ → ℕ → List Edn → Edn → Edn
call_form word n code args answer = vector_form (keyword word ∷ number_form n ∷ name_form code ∷ vector_form args ∷ answer ∷ [])

-- [:set R V ANSWER], [:alter R F [ARG ..] ANSWER], [:commute R F [ARG ..] ANSWER] or [:ensure R ANSWER]
abbrev pub op_form : ℕ → Edn → Op → Edn
op_form r answer (Set v) = vector_form (keyword set_tag ∷ number_form r ∷ v ∷ answer ∷ [])
op_form r answer (Alter code args) = call_form alter_tag r code args answer
op_form r answer (Commute code args) = call_form commute_tag r code args answer
op_form r answer Ensure = vector_form (keyword ensure_tag ∷ number_form r ∷ answer ∷ [])

abbrev pub done_form : Done → Edn
done_form d = op_form d.r d.answer d.op

-- [G F [ARG ..] [CARRY ..]]
abbrev pub sent_form : Sent → Edn
sent_form s = vector_form (number_form s.agent ∷ action_forms s.action)

-- [:reset A V]
abbrev pub reset_form : ℕ → Edn → Edn
reset_form a v = vector_form (keyword reset_tag ∷ number_form a ∷ v ∷ [])

-- [:reset A V] or [:swap A F [ARG ..] ANSWER]. An atom's entry has no other operation than the first two.
abbrev pub atom_form : ℕ → Edn → Op → Edn
atom_form a answer (Set v) = reset_form a v
atom_form a answer (Alter code args) = call_form swap_tag a code args answer
atom_form a answer (Commute code args) = call_form swap_tag a code args answer
atom_form a answer Ensure = reset_form a answer

-- [:made-ref V] or [:made-atom V]
abbrev pub made_form : List ℕ → Edn → Edn
made_form word v = vector_form (keyword word ∷ v ∷ [])

-- [:tx W S READ [DONE ..] [SEND ..]], the entry of an atom, or that of a reference that was made
abbrev pub entry_form : Entry → Edn
entry_form (Trans t) =
    vector_form (keyword tx_tag ∷ number_form t.stamp.worker ∷ number_form t.stamp.step ∷ number_form t.read_point
    ∷ vector_form (map done_form t.dones) ∷ vector_form (map sent_form t.sends) ∷ [])
entry_form (Atom a op answer) = atom_form a answer op
entry_form (MadeRef v) = made_form made_ref_tag v
entry_form (MadeAtom v) = made_form made_atom_tag v

-- ---- the base

-- [VALUE LAST]: a ref's value and the point of its last change
abbrev pub base_ref_form : Edn × ℕ → Edn
base_ref_form e = vector_form (e.0 ∷ number_form e.1 ∷ [])

abbrev pub base_refs_form : Base → Edn
base_refs_form base = vector_form (map base_ref_form (zip base.refs base.last))

-- [COMMITS ADDED TAKEN]
abbrev pub folded_form : Base → Edn
folded_form base = vector_form (number_form base.commits ∷ number_form base.added ∷ number_form base.taken ∷ [])

-- the number of the tally, or nil
abbrev pub tally_form : Option ℕ → Edn
tally_form None = nil
tally_form (Some t) = number_form t

-- ---- references now

-- [VALUE RULE], of the reference of this number
abbrev pub value_form : List Guard → ℕ × Edn → Edn
value_form guards e = vector_form (e.1 ∷ rule_form (rule_at guards e.0) ∷ [])

abbrev pub mark_word : Mark → List ℕ
mark_word marks.Done = done_mark
mark_word marks.Failed = failed_mark
mark_word marks.Passed = passed_mark

-- [F [ARG ..] [CARRY ..] MARK]
abbrev pub handled_form : Handled → Edn
handled_form h =
    vector_form (name_form h.action.code ∷ vector_form h.action.args ∷ carries_form h.action.carries ∷ keyword (mark_word h.mark) ∷ [])

-- [F [ARG ..] [CARRY ..]]
abbrev pub queued_form : Queued → Edn
queued_form q = vector_form (action_forms q.action)

abbrev pub status_word : Bool → List ℕ
status_word true = failed_status
status_word false = ready_status

-- [START HANDLED QUEUE VALUE STATUS RULE]
abbrev pub agent_parts : AccountSeen → Edn → Bool → Option Rule → Edn
agent_parts account state failed rule =
    vector_form (account.start ∷ vector_form (map handled_form account.handled) ∷ vector_form (map queued_form account.queue)
    ∷ state ∷ keyword (status_word failed) ∷ rule_form rule ∷ [])

-- that of the agent of this number
abbrev pub agent_form : List Guard → ℕ × Agent → Edn
agent_form guards e = agent_parts e.1.account e.1.value (is_some e.1.error) (rule_at guards e.0)

-- those of all refs or of all atoms, and of all agents
abbrev pub values_form : List Guard → List Edn → Edn
values_form guards values = vector_form (map (value_form guards) (enumerate_from 0 values))

abbrev pub agents_form : List Guard → List Agent → Edn
agents_form guards agents = vector_form (map (agent_form guards) (enumerate_from 0 agents))

-- ---- all of it

abbrev pub dump_entries : WorldSeen → List (Edn × Edn)
dump_entries world =
    (keyword added_key, number_form world.books.added)
    ∷ (keyword agents_key, agents_form world.agents.guards world.agents.agents)
    ∷ (keyword atoms_key, values_form world.atoms.guards world.atoms.values)
    ∷ (keyword base_atoms_key, vector_form world.base.atoms)
    ∷ (keyword base_refs_key, base_refs_form world.base)
    ∷ (keyword commits_key, number_form world.books.commits)
    ∷ (keyword dump_key, number_form 3)
    ∷ (keyword entries_key, vector_form (map entry_form world.log))
    ∷ (keyword folded_key, folded_form world.base)
    ∷ (keyword point_key, number_form world.base.point)
    ∷ (keyword refs_key, values_form world.refs.guards world.refs.values)
    ∷ (keyword taken_key, number_form world.books.taken)
    ∷ (keyword tally_key, tally_form world.base.tally)
    ∷ []

abbrev pub dumped : WorldSeen → Edn
dumped world = edn.map (entries_of (dump_entries world))

-- ---- why a world has no dump

-- the lesser of two numbers, of those that are there
abbrev pub lesser : Option ℕ → Option ℕ → Option ℕ
lesser None n = n
lesser (Some m) None = Some m
lesser (Some m) (Some n) = Some (min m n)

-- the least number that one of these has
abbrev pub least : {X : Type 0} → (X → Option ℕ) → List X → Option ℕ
least number [] = None
least number (x ∷ xs) = lesser (number x) (least number xs)

-- a code, where it isn't that of a function of Core
abbrev pub unnamed_code : ℕ → Option ℕ
unnamed_code code = if is_function code then None else Some code

abbrev pub unnamed_in_carry : Carry → Option ℕ
unnamed_in_carry c = unnamed_code c.code

-- of an action's own code and those of what it carries
abbrev pub unnamed_in_action : Action → Option ℕ
unnamed_in_action action = lesser (unnamed_code action.code) (least unnamed_in_carry action.carries)

abbrev pub unnamed_in_sent : Sent → Option ℕ
unnamed_in_sent s = unnamed_in_action s.action

abbrev pub unnamed_in_handled : Handled → Option ℕ
unnamed_in_handled h = unnamed_in_action h.action

abbrev pub unnamed_in_queued : Queued → Option ℕ
unnamed_in_queued q = unnamed_in_action q.action

abbrev pub unnamed_in_entry : Entry → Option ℕ
unnamed_in_entry (Trans t) = least unnamed_in_sent t.sends
unnamed_in_entry (Atom a op answer) = None
unnamed_in_entry (MadeRef v) = None
unnamed_in_entry (MadeAtom v) = None

abbrev pub unnamed_in_account : AccountSeen → Option ℕ
unnamed_in_account account = lesser (least unnamed_in_handled account.handled) (least unnamed_in_queued account.queue)

abbrev pub unnamed_in_agent : Agent → Option ℕ
unnamed_in_agent agent = unnamed_in_account agent.account

-- the least code in the log's sends and in the agents' accounts, with what they carry, that no function of Core has
abbrev pub unnamed : WorldSeen → Option ℕ
unnamed world = lesser (least unnamed_in_entry world.log) (least unnamed_in_agent world.agents.agents)

-- It is a value only where it isn't deeper than values are.
abbrev pub depth_refusal : Edn → Option DumpMakeFault
depth_refusal form = if nat_lt most_nested (nesting form) then Some faults.TooDeep else None

abbrev pub unnamed_refusal : WorldSeen → Option DumpMakeFault
unnamed_refusal world = option_map faults.Unnamed (unnamed world)

abbrev pub dump_refusal : WorldSeen → Option DumpMakeFault
dump_refusal world = option_or (unnamed_refusal world) (depth_refusal (dumped world))
