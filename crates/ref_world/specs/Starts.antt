-- A world at its start: the declared references are made one by one, refs before atoms before agents, at point 0.
use Rattle.std.specs.Prelude.{ℕ, Bool, false, List, [], ◌∷◌, length, Option, None, Some, Result, Ok, Err}
use Rattle.std.specs.Option.{option_or}
use Rattle.ref_fun.specs.Rule.{Accepts}
use Rattle.ref_agents.specs.Agents.{AgentsSeen}
use Rattle.ref_agents.specs.Make as agents
use Rattle.ref_atoms.specs.Atoms as atoms
use Rattle.ref_atoms.specs.Atoms.{AtomsSeen}
use Rattle.ref_log.specs.Make as makes
use Rattle.ref_log.specs.Tally.{start_of}
use Rattle.ref_log.specs.declared.faults.MakeFault.{MakeFault}
use Rattle.ref_log.specs.declared.notices.Who.{Who}
use Rattle.ref_log.specs.declared.notices.Who.TheVariants.{Ref, Atom, Agent}
use Rattle.ref_log.specs.declared.states.Base.{Base}
use Rattle.ref_refs.specs.Make as refs
use Rattle.ref_refs.specs.Seen.{RefsSeen}
use Rattle.ref_world.specs.Seen.{BooksSeen}
use Rattle.ref_agents.specs.declared.starts.AgentStart.{AgentStart}
use Rattle.ref_agents.specs.declared.starts.AtomStart.{AtomStart}
use Rattle.ref_agents.specs.declared.starts.RefStart.{RefStart}
use Rattle.ref_agents.specs.declared.starts.Start.{Start}

-- A store's fault is returned with the number that the reference would have.
abbrev pub or_refused : {Store : Type 0} → Who → Option MakeFault → Store → Result Store (Who × MakeFault)
or_refused who (Some fault) store = Err (who, fault)
or_refused who None store = Ok store

abbrev pub and_made : {S Store : Type 0} → (S → Store → Result Store (Who × MakeFault)) → S → Result Store (Who × MakeFault) → Result Store (Who × MakeFault)
and_made make s (Ok store) = make s store
and_made make s (Err refused) = Err refused

-- a store in which these are made, one at a time
abbrev pub made_all : {S Store : Type 0} → (S → Store → Result Store (Who × MakeFault)) → List S → Result Store (Who × MakeFault) → Result Store (Who × MakeFault)
made_all make [] store = store
made_all make (s ∷ ss) store = made_all make ss (and_made make s store)

abbrev pub with_ref : Accepts → (ℕ → Bool) → RefStart → RefsSeen → Result RefsSeen (Who × MakeFault)
with_ref accepts knows s store =
    or_refused (Ref (length store.values)) (refs.make_refusal accepts knows store 0 s.value s.rule s.tally)
    (refs.with_ref store 0 s.value s.rule s.tally)

abbrev pub with_atom : Accepts → (ℕ → Bool) → AtomStart → AtomsSeen → Result AtomsSeen (Who × MakeFault)
with_atom accepts knows s store =
    or_refused (Atom (length store.values)) (makes.make_refusal accepts knows (length store.values) false 0 s.value s.rule)
    (atoms.with_atom store s.value s.rule)

abbrev pub with_agent : Accepts → (ℕ → Bool) → AgentStart → AgentsSeen → Result AgentsSeen (Who × MakeFault)
with_agent accepts knows s store =
    or_refused (Agent (length store.agents)) (agents.agent_refusal accepts knows store s.value s.rule)
    (agents.with_agent store s.value s.rule s.mode)

-- stores without references
abbrev pub no_refs : RefsSeen
no_refs = record { values = []; lasts = []; tally = None; guards = [] }

abbrev pub no_atoms : AtomsSeen
no_atoms = record { values = []; guards = [] }

abbrev pub no_agents : AgentsSeen
no_agents = record { agents = []; guards = []; unreleased = [] }

-- the stores of the references that are declared, or the first of them that can't be made, and why
abbrev pub declared_refs : Accepts → (ℕ → Bool) → List RefStart → Result RefsSeen (Who × MakeFault)
declared_refs accepts knows starts = made_all (with_ref accepts knows) starts (Ok no_refs)

abbrev pub declared_atoms : Accepts → (ℕ → Bool) → List AtomStart → Result AtomsSeen (Who × MakeFault)
declared_atoms accepts knows starts = made_all (with_atom accepts knows) starts (Ok no_atoms)

abbrev pub declared_agents : Accepts → (ℕ → Bool) → List AgentStart → Result AgentsSeen (Who × MakeFault)
declared_agents accepts knows starts = made_all (with_agent accepts knows) starts (Ok no_agents)

-- the base of a world that begins with these
abbrev pub base_of : RefsSeen → AtomsSeen → Base
base_of refs atoms = record { point = 0; refs = refs.values; last = refs.lasts; atoms = atoms.values; tally = refs.tally; commits = 0; added = 0; taken = 0 }

-- and its books, in which only the tally's start stands
abbrev pub books_of : RefsSeen → BooksSeen
books_of refs = record { commits = 0; added = 0; taken = 0; start = start_of refs.tally refs.values }

-- Why a world can't begin with these references: the first that can't be made.
abbrev pub refusal_of : {Store : Type 0} → Result Store (Who × MakeFault) → Option (Who × MakeFault)
refusal_of (Ok store) = None
refusal_of (Err refused) = Some refused

abbrev pub start_refusal : Accepts → (ℕ → Bool) → Start → Option (Who × MakeFault)
start_refusal accepts knows start =
    option_or (refusal_of (declared_refs accepts knows start.refs.items))
    (option_or (refusal_of (declared_atoms accepts knows start.atoms.items))
    (refusal_of (declared_agents accepts knows start.agents.items)))

-- Why the first of these can't be made; where there is none, what comes next decides.
abbrev pub first_refused : {S Store : Type 0} → (S → Store → Result Store (Who × MakeFault)) → List S → Store → Option (Who × MakeFault) → Option (Who × MakeFault)
first_refused make [] store next = next
first_refused make (s ∷ ss) store next = refusal_of (make s store)

-- Why the first of all references that are declared can't be made. Before it is asked for, a world takes no memory.
abbrev pub first_refusal : Accepts → (ℕ → Bool) → Start → Option (Who × MakeFault)
first_refusal accepts knows start =
    first_refused (with_ref accepts knows) start.refs.items no_refs
    (first_refused (with_atom accepts knows) start.atoms.items no_atoms
    (first_refused (with_agent accepts knows) start.agents.items no_agents None))
