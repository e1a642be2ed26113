-- What an event says, `[ACTOR ACT ARG ..]`: ACTOR is the number of the actor and ACT the keyword of the act. NAME is the name of a
-- reference that is declared, or `[:ref N]`, `[:atom N]` or `[:agent N]`; R, X and G name a ref, an atom and an agent.
--
--   :begin, :read-point, :commit, :abort      the actor's transaction
--   :deref R, :ref-set R V, :alter R F ARG .., :commute R F ARG .., :ensure R, :require R P ARG .., :send-in-tx G F ARG ..
--                                             in it
--   :send-carry-in-tx G [F ARG ..] [H F ARG ..] ..
--                                             in it, an action that carries 1 to 8 sends
--   :take, :run, :put-back, :finish           the actor's job
--   :swap X F ARG .., :reset X V, :cas X OLD NEW
--   :send G F ARG .., :send-carry G [F ARG ..] [H F ARG ..] .., :release-carried G
--   :restart G V, :restart G V :clear, :set-error-mode G :fail or :continue, :error-of G, :fold G
--   :set-validator NAME RULE or nil, :add-watch NAME KEY, :remove-watch NAME KEY, :value-of NAME, :rule-of NAME
--   :release P, :checkpoint P                 at the point P
--   :make-ref V, :make-atom V, :make-agent V  then RULE or nil, then, for a ref, :tally, or, for an agent, :fail or :continue
--
-- RULE is `[P ARG ..]`. ref_calls has the words. What a form doesn't say is None here.
use Rattle.std.specs.Prelude.{ℕ, ◌+◌, Bool, true, false, if◌then◌else◌, nat_le, List, [], ◌∷◌, Option, None, Some, option_map, option_and_then}
use Rattle.ref_value.specs.Edn.{Edn, symbol, vector, list_of, nesting, keyword_of}
use Rattle.ref_value.specs.Names.{bytes_eq}
use Rattle.ref_fun.specs.declared.actions.Action.{Action}
use Rattle.ref_fun.specs.declared.rules.Rule.{Rule}
use Rattle.ref_log.specs.declared.entries.Stamp.{Stamp}
use Rattle.ref_log.specs.declared.notices.Who.{Who}
use Rattle.ref_log.specs.declared.notices.Who.TheVariants.{Ref, Atom, Agent}
use Rattle.ref_agents.specs.declared.agents.ErrorMode.{ErrorMode}
use Rattle.ref_agents.specs.declared.agents.ErrorMode.TheVariants as modes
use Rattle.ref_forms.specs.Names.{NamesSeen}
use Rattle.ref_forms.specs.Calls.{action_said, any, mode_said, rule_of, rule_said, value_said}
use Rattle.ref_forms.specs.Plain.{alone_said, and_said, elements_of, mark_said, number_of, one_said, only_if, stamp_number, then_said, two_said}
use Rattle.ref_forms.specs.References.{carrying_said, number_said, state_said}
use Rattle.ref_forms.specs.declared.kinds.Kind.{Kind}
use Rattle.ref_forms.specs.declared.kinds.Kind.TheVariants as kinds
use Rattle.ref_plan.specs.Named.{who_named}
use Rattle.ref_plan.specs.Words.{tally_word}
use Rattle.ref_play.specs.declared.events.Act.{Act}
use Rattle.ref_play.specs.declared.events.Act.TheVariants as acts
use Rattle.ref_play.specs.declared.events.Event.{Event}
use Rattle.ref_events.specs.Words.{agent_word, atom_word, ref_word}
use Rattle.ref_calls.specs.Words.{act_named}
use Rattle.ref_calls.specs.declared.words.ActWord.{ActWord}
use Rattle.ref_calls.specs.declared.words.ActWord.TheVariants as words
use Rattle.ref_calls.specs.declared.words.AgentWord.{AgentWord}
use Rattle.ref_calls.specs.declared.words.AgentWord.TheVariants as agents
use Rattle.ref_calls.specs.declared.words.AtomWord.{AtomWord}
use Rattle.ref_calls.specs.declared.words.AtomWord.TheVariants as atoms
use Rattle.ref_calls.specs.declared.words.JobWord.{JobWord}
use Rattle.ref_calls.specs.declared.words.JobWord.TheVariants as jobs
use Rattle.ref_calls.specs.declared.words.MakingWord.{MakingWord}
use Rattle.ref_calls.specs.declared.words.MakingWord.TheVariants as makings
use Rattle.ref_calls.specs.declared.words.ReferenceWord.{ReferenceWord}
use Rattle.ref_calls.specs.declared.words.ReferenceWord.TheVariants as references
use Rattle.ref_calls.specs.declared.words.TxWord.{TxWord}
use Rattle.ref_calls.specs.declared.words.TxWord.TheVariants as txs
use Rattle.ref_calls.specs.declared.words.WorldWord.{WorldWord}
use Rattle.ref_calls.specs.declared.words.WorldWord.TheVariants as worlds
use Rattle.ref_fun.specs.Limits.{most_nested_result}

-- ---- references

-- the reference of a kind that has this number
abbrev pub who_at : List ℕ → ℕ → Option Who
who_at kind n =
    if bytes_eq kind ref_word then Some (Ref n) else
    if bytes_eq kind atom_word then Some (Atom n) else
    if bytes_eq kind agent_word then Some (Agent n) else
    None

-- `KIND N`
abbrev pub numbered_said : List Edn → Option Who
numbered_said (kind ∷ n ∷ []) = option_and_then (λ word. option_and_then (who_at word) (stamp_number n)) (keyword_of kind)
numbered_said parts = None

-- a name, or a kind and a number
abbrev pub who_said : NamesSeen → Edn → Option Who
who_said names (symbol name) = who_named names name
who_said names (vector xs) = numbered_said (list_of xs)
who_said names x = None

-- the number of a reference of a kind
abbrev pub place_said : NamesSeen → Kind → Edn → Option ℕ
place_said names kind x = number_said (who_said names) kind x

-- ---- what stands behind the word

-- a point
abbrev pub point_said : List Edn → Option ℕ
point_said xs = one_said number_of xs

-- a reference of a kind, a function and its arguments
abbrev pub call_said : NamesSeen → Kind → List Edn → Option (ℕ × Action)
call_said names kind xs = then_said (place_said names kind) (action_said any) xs

-- an agent, an action in a vector, and what it carries, each in one
abbrev pub carried_said : NamesSeen → List Edn → Option (ℕ × Action)
carried_said names xs = carrying_said (who_said names) any xs

-- a ref, a predicate and its arguments
abbrev pub required_said : NamesSeen → List Edn → Option (ℕ × Rule)
required_said names xs = then_said (place_said names kinds.Ref) (rule_said any) xs

-- a reference of a kind and a value
abbrev pub setting_said : NamesSeen → Kind → List Edn → Option (ℕ × Edn)
setting_said names kind xs = two_said (place_said names kind) (value_said any) xs

-- an atom and two values
abbrev pub swaps_said : NamesSeen → List Edn → Option (ℕ × (Edn × Edn))
swaps_said names xs = then_said (place_said names kinds.Atom) (two_said (value_said any) (value_said any)) xs

-- an agent and a state, and whether what waits is dropped
abbrev pub restart_said : NamesSeen → List Edn → Option (ℕ × (Edn × Bool))
restart_said names xs = then_said (place_said names kinds.Agent) (state_said any) xs

-- any reference and the key of a watch
abbrev pub watch_said : NamesSeen → List Edn → Option (Who × Edn)
watch_said names xs = two_said (who_said names) (value_said any) xs

-- ---- makings

-- a value, a rule or nil that may be left out, and what stands behind them
abbrev pub made_said : List Edn → Option (Edn × Option Rule × List Edn)
made_said [] = None
made_said (v ∷ []) = Some (v, None, [])
made_said (v ∷ rule ∷ rest) = option_map (λ r. (v, r, rest)) (rule_of any rule)

-- the mode that a mark says, `:fail` where it is left out
abbrev pub mode_mark_said : List Edn → Option ErrorMode
mode_mark_said [] = Some modes.Fail
mode_mark_said parts = one_said mode_said parts

-- ---- acts

abbrev pub tx_said : NamesSeen → Stamp → TxWord → List Edn → Option Act
tx_said names stamp txs.Begin parts = alone_said acts.Begin parts
tx_said names stamp txs.Deref parts = option_map acts.Deref (one_said (place_said names kinds.Ref) parts)
tx_said names stamp txs.RefSet parts = option_map (λ p. acts.RefSet p.0 p.1) (setting_said names kinds.Ref parts)
tx_said names stamp txs.Alter parts = option_map (λ c. acts.Alter c.0 c.1.code c.1.args) (call_said names kinds.Ref parts)
tx_said names stamp txs.Commute parts = option_map (λ c. acts.Commute c.0 c.1.code c.1.args) (call_said names kinds.Ref parts)
tx_said names stamp txs.Ensure parts = option_map acts.Ensure (one_said (place_said names kinds.Ref) parts)
tx_said names stamp txs.SendInTx parts = option_map (λ c. acts.SendInTx c.0 c.1) (call_said names kinds.Agent parts)
tx_said names stamp txs.SendCarryInTx parts = option_map (λ c. acts.SendInTx c.0 c.1) (carried_said names parts)
tx_said names stamp txs.Require parts = option_map (λ p. acts.Require p.0 p.1) (required_said names parts)
tx_said names stamp txs.ReadPoint parts = alone_said acts.ReadPoint parts
tx_said names stamp txs.Commit parts = alone_said (acts.Commit stamp) parts
tx_said names stamp txs.Abort parts = alone_said acts.Abort parts

abbrev pub job_said : JobWord → List Edn → Option Act
job_said jobs.Take parts = alone_said acts.Take parts
job_said jobs.Run parts = alone_said acts.Run parts
job_said jobs.PutBack parts = alone_said acts.PutBack parts
job_said jobs.Finish parts = alone_said acts.Finish parts

abbrev pub atom_said : NamesSeen → AtomWord → List Edn → Option Act
atom_said names atoms.Swap parts = option_map (λ c. acts.Swap c.0 c.1.code c.1.args) (call_said names kinds.Atom parts)
atom_said names atoms.Reset parts = option_map (λ p. acts.Reset p.0 p.1) (setting_said names kinds.Atom parts)
atom_said names atoms.CompareAndSet parts = option_map (λ p. acts.CompareAndSet p.0 p.1.0 p.1.1) (swaps_said names parts)

abbrev pub agent_said : NamesSeen → AgentWord → List Edn → Option Act
agent_said names agents.Send parts = option_map (λ c. acts.Send c.0 c.1) (call_said names kinds.Agent parts)
agent_said names agents.SendCarry parts = option_map (λ c. acts.Send c.0 c.1) (carried_said names parts)
agent_said names agents.ReleaseCarried parts = option_map acts.ReleaseCarried (one_said (place_said names kinds.Agent) parts)
agent_said names agents.Restart parts = option_map (λ p. acts.Restart p.0 p.1.0 p.1.1) (restart_said names parts)
agent_said names agents.SetErrorMode parts = option_map (λ p. acts.SetErrorMode p.0 p.1) (two_said (place_said names kinds.Agent) mode_said parts)
agent_said names agents.ErrorOf parts = option_map acts.ErrorOf (one_said (place_said names kinds.Agent) parts)
agent_said names agents.Fold parts = option_map acts.Fold (one_said (place_said names kinds.Agent) parts)

abbrev pub reference_said : NamesSeen → ReferenceWord → List Edn → Option Act
reference_said names references.SetValidator parts = option_map (λ p. acts.SetValidator p.0 p.1) (two_said (who_said names) (rule_of any) parts)
reference_said names references.AddWatch parts = option_map (λ p. acts.AddWatch p.0 p.1) (watch_said names parts)
reference_said names references.RemoveWatch parts = option_map (λ p. acts.RemoveWatch p.0 p.1) (watch_said names parts)
reference_said names references.ValueOf parts = option_map acts.ValueOf (one_said (who_said names) parts)
reference_said names references.RuleOf parts = option_map acts.RuleOf (one_said (who_said names) parts)

abbrev pub world_said : WorldWord → List Edn → Option Act
world_said worlds.Release parts = option_map acts.Release (point_said parts)
world_said worlds.Checkpoint parts = option_map acts.Checkpoint (point_said parts)

abbrev pub marked_said : MakingWord → Edn → Option Rule → List Edn → Option Act
marked_said makings.MakeRef v rule rest = option_map (acts.MakeRef v rule) (mark_said tally_word rest)
marked_said makings.MakeAtom v rule rest = alone_said (acts.MakeAtom v rule) rest
marked_said makings.MakeAgent v rule rest = option_map (acts.MakeAgent v rule) (mode_mark_said rest)

abbrev pub making_said : MakingWord → List Edn → Option Act
making_said word parts = option_and_then (λ m. marked_said word m.0 m.1 m.2) (made_said parts)

abbrev pub act_said : NamesSeen → Stamp → ActWord → List Edn → Option Act
act_said names stamp (words.Tx word) parts = tx_said names stamp word parts
act_said names stamp (words.Job word) parts = job_said word parts
act_said names stamp (words.Atom word) parts = atom_said names word parts
act_said names stamp (words.Agent word) parts = agent_said names word parts
act_said names stamp (words.Reference word) parts = reference_said names word parts
act_said names stamp (words.World word) parts = world_said word parts
act_said names stamp (words.Making word) parts = making_said word parts

-- ---- events

-- how deep an event may be nested, so that a value in it is nested no deeper than a workload's
abbrev pub most_nested_event : ℕ
most_nested_event = most_nested_result + 1

abbrev pub word_said : Edn → Option ActWord
word_said x = option_and_then act_named (keyword_of x)

-- The stamp of a commit is the number of its actor and that of the event.
abbrev pub with_word : NamesSeen → ℕ → Option ℕ → Option ActWord → List Edn → Option Event
with_word names n (Some actor) (Some word) parts = option_map (λ act. record { actor = actor; act = act }) (act_said names (record { worker = actor; step = n }) word parts)
with_word names n actor word parts = None

abbrev pub parts_said : NamesSeen → ℕ → List Edn → Option Event
parts_said names n (actor ∷ word ∷ parts) = with_word names n (stamp_number actor) (word_said word) parts
parts_said names n parts = None

-- what a form says as the event of this number
abbrev pub event_said : NamesSeen → ℕ → Edn → Option Event
event_said names n x = option_and_then (λ y. option_and_then (parts_said names n) (elements_of y)) (only_if (nat_le (nesting x) most_nested_event) x)

-- what these forms say, the first as the event of this number, where all of them say something
abbrev pub events_said : NamesSeen → ℕ → List Edn → Option (List Event)
events_said names n [] = Some []
events_said names n (x ∷ xs) = and_said (event_said names n x) (events_said names (n + 1) xs)
