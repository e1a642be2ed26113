-- What an agent was given since its last restart or fold: the actions that it handled, and those that wait, with who sent them. A fold
-- leaves of the handled ones the one that failed it.
use Rattle.std.specs.Prelude.{ℕ, ◌+◌, ◌==◌, Bool, true, false, List, [], ◌∷◌, ◌++◌, map, if◌then◌else◌, Option, None, Some, Ok, slice_get}
use Rattle.ref_fun.specs.declared.actions.Action.{Action}
use Rattle.ref_fun.specs.declared.carries.Carry.{Carry}
use Rattle.ref_agents.specs.Account.{AccountSeen, failing, released}
use Rattle.ref_agents.specs.Agents.{carried, is_carrying_at}
use Rattle.ref_agents.specs.Ends.{has_carry}
use Rattle.ref_agents.specs.declared.accounts.Queued.{Queued}
use Rattle.ref_agents.specs.declared.accounts.SentBy.TheVariants.{Outside, Commit, Carried}
use Rattle.ref_agents.specs.declared.agents.Agent.{Agent}
use Rattle.ref_agents.specs.declared.ends.Finished.{Finished}
use Rattle.ref_agents.specs.declared.ends.Finished.TheVariants.{Changed, Failed, Continued}
use Rattle.ref_tx.specs.Seen.{TxSeen}
use Rattle.ref_play.specs.Present.{HeldSeen, Present}
use Rattle.ref_play.specs.declared.events.Act.{Act}
use Rattle.ref_play.specs.declared.events.Act.TheVariants as acts
use Rattle.ref_play.specs.declared.events.Reply.{Reply}
use Rattle.ref_play.specs.declared.events.Reply.TheVariants as replies

abbrev pub queue_if_here : Option Agent → List Queued
queue_if_here None = []
queue_if_here (Some agent) = agent.account.queue

-- what waits for an agent, in order
abbrev pub queue_at : List Agent → ℕ → List Queued
queue_at agents g = queue_if_here (slice_get agents g)

abbrev pub waiting : List Queued → List Action
waiting queue = map (λ q. q.action) queue

-- the actions that wait for an agent
abbrev pub waiting_at : List Agent → ℕ → List Action
waiting_at agents g = waiting (queue_at agents g)

abbrev pub handled_if_here : Option Agent → List Action
handled_if_here None = []
handled_if_here (Some agent) = map (λ h. h.action) agent.account.handled

-- those that it handled since its last restart or fold
abbrev pub handled_at : List Agent → ℕ → List Action
handled_at agents g = handled_if_here (slice_get agents g)

abbrev pub failed_if_here : Option Agent → List Action
failed_if_here None = []
failed_if_here (Some agent) = map (λ h. h.action) (failing agent.account.handled)

-- those of them by which it failed: one where it is failed, the last, and else none
abbrev pub failed_at : List Agent → ℕ → List Action
failed_at agents g = failed_if_here (slice_get agents g)

-- The handled ones are a prefix, by definition.
abbrev pub given : AccountSeen → List Action
given account = map (λ h. h.action) account.handled ++ waiting account.queue

abbrev pub given_if_here : Option Agent → List Action
given_if_here None = []
given_if_here (Some agent) = given agent.account

abbrev pub given_at : List Agent → ℕ → List Action
given_at agents g = given_if_here (slice_get agents g)

-- ---- what is sent

-- what there is of those that go to an agent, in order
abbrev pub those_to : {X Y : Type 0} → (X → ℕ) → (X → Y) → ℕ → List X → List Y
those_to to of g [] = []
those_to to of g (x ∷ xs) = if to x == g then of x ∷ those_to to of g xs else those_to to of g xs

-- what a transaction gives an agent where it is committed
abbrev pub sent_by : Option TxSeen → ℕ → List Action
sent_by None g = []
sent_by (Some tx) g = those_to (λ s. s.agent) (λ s. s.action) g tx.sends

-- What goes out where a job was answered so: all that its action carries where its state changed, and else nothing.
abbrev pub goes_out : Finished → List Carry → List Carry
goes_out (Changed notices) carries = carries
goes_out (Failed error) carries = []
goes_out (Continued error) carries = []

-- what the end of a job gives an agent
abbrev pub carried_by : Option HeldSeen → Finished → ℕ → List Action
carried_by None finished g = []
carried_by (Some held) finished g = those_to (λ c. c.g) carried g (goes_out finished held.job.action.carries)

-- What an agent was given after an act: a send adds its action, an answered commit its sends, and the end of a job what goes out then;
-- a restart begins anew, with the actions that wait or, with clear, with none; a fold that was made leaves those that wait, behind the one
-- by which the agent failed; and nothing else changes it.
abbrev pub accepted : Present → Option TxSeen → Option HeldSeen → Act → Reply → ℕ → List Action
accepted old tx held (acts.Commit stamp) (replies.Commit (Ok receipt)) g = given_at old.agents.agents g ++ sent_by tx g
accepted old tx held (acts.Send h action) (replies.Send (Ok u)) g = given_at old.agents.agents g ++ (if h == g then action ∷ [] else [])
accepted old tx held acts.Finish (replies.Finish (Ok finished)) g = given_at old.agents.agents g ++ carried_by held finished g
accepted old tx held (acts.Restart h state clear) (replies.Restart (Ok u)) g =
    if h == g then (if clear then [] else waiting_at old.agents.agents g) else given_at old.agents.agents g
accepted old tx held (acts.Fold h) (replies.Fold (Ok true)) g =
    if h == g then failed_at old.agents.agents g ++ waiting_at old.agents.agents g else given_at old.agents.agents g
accepted old tx held act reply g = given_at old.agents.agents g

-- the action of a job, if it is one of this agent
abbrev pub action_of : Option HeldSeen → ℕ → List Action
action_of None g = []
action_of (Some held) g = if held.job.agent == g then held.job.action ∷ [] else []

-- What it handled after an act: an answered finish adds the action of the job that the actor had; a restart begins anew; a fold that was
-- made leaves the action by which it failed, if it is failed; and nothing else changes it.
abbrev pub ended_by : Present → Option HeldSeen → Act → Reply → ℕ → List Action
ended_by old held acts.Finish (replies.Finish (Ok finished)) g = handled_at old.agents.agents g ++ action_of held g
ended_by old held (acts.Restart h state clear) (replies.Restart (Ok u)) g = if h == g then [] else handled_at old.agents.agents g
ended_by old held (acts.Fold h) (replies.Fold (Ok true)) g = if h == g then failed_at old.agents.agents g else handled_at old.agents.agents g
ended_by old held act reply g = handled_at old.agents.agents g

-- ---- what is held

-- what a commit at a point adds to the queue of an agent
abbrev pub queued_by : Option TxSeen → ℕ → ℕ → List Queued
queued_by None point g = []
queued_by (Some tx) point g = those_to (λ s. s.agent) (λ s. record { action = s.action; by = Commit point }) g tx.sends

-- and the end of a job
abbrev pub carried_out : Option HeldSeen → Finished → ℕ → List Queued
carried_out None finished g = []
carried_out (Some held) finished g =
    those_to (λ c. c.g) (λ c. record { action = carried c; by = Carried held.job.agent }) g (goes_out finished held.job.action.carries)

-- without the first, where it is the job of this agent
abbrev pub without_first : List Queued → List Queued
without_first [] = []
without_first (q ∷ qs) = qs

abbrev pub without_job : Option HeldSeen → ℕ → List Queued → List Queued
without_job None g queue = queue
without_job (Some held) g queue = if held.job.agent == g then without_first queue else queue

-- What waits for an agent after an act, and by whom it was sent. What goes out at the end of a job is held in the name of the job's
-- agent, from that event on; only a release of what that agent carried frees it, and nothing holds it again.
abbrev pub queue_after : Present → Option TxSeen → Option HeldSeen → Act → Reply → ℕ → List Queued
queue_after old tx held (acts.Commit stamp) (replies.Commit (Ok receipt)) g = queue_at old.agents.agents g ++ queued_by tx (old.point + 1) g
queue_after old tx held (acts.Send h action) (replies.Send (Ok u)) g =
    queue_at old.agents.agents g ++ (if h == g then record { action = action; by = Outside } ∷ [] else [])
queue_after old tx held acts.Finish (replies.Finish (Ok finished)) g = without_job held g (queue_at old.agents.agents g) ++ carried_out held finished g
queue_after old tx held (acts.ReleaseCarried h) (replies.ReleaseCarried was) g = map (released h) (queue_at old.agents.agents g)
queue_after old tx held (acts.Restart h state clear) (replies.Restart (Ok u)) g =
    if h == g then (if clear then [] else queue_at old.agents.agents g) else queue_at old.agents.agents g
queue_after old tx held act reply g = queue_at old.agents.agents g

abbrev pub carrying_by : Option HeldSeen → Finished → ℕ → Bool → Bool
carrying_by None finished g was = was
carrying_by (Some held) finished g was = if held.job.agent == g then has_carry (goes_out finished held.job.action.carries) else was

-- Whether an agent, after an act, waits for the release of what its last action carried: from the end of a job with which something
-- goes out up to the release.
abbrev pub carrying_after : Present → Option HeldSeen → Act → Reply → ℕ → Bool
carrying_after old held acts.Finish (replies.Finish (Ok finished)) g = carrying_by held finished g (is_carrying_at old.agents.agents g)
carrying_after old held (acts.ReleaseCarried h) (replies.ReleaseCarried was) g = if h == g then false else is_carrying_at old.agents.agents g
carrying_after old held act reply g = is_carrying_at old.agents.agents g
