-- An agent's account: its start, the actions that it handled since then with their marks, its queue, and how many actions were folded
-- into the start.
--
-- Clojure's page on agents: actions are queued, and at most one of an agent runs at a time; where one fails the agent holds
-- its state, and takes no more or goes on, by its error mode.
use Rattle.std.specs.Prelude.{ℕ, ◌==◌, ◌+◌, ◌-◌, filter, length, take, Bool, true, false, not, ◌&&◌, if◌then◌else◌, List, [], ◌∷◌, ◌++◌, Result, Ok, Err}
use Rattle.std.specs.BTreeMap.{is_at}
use Rattle.std.specs.List.{list_any}
use Rattle.std.specs.Ordering.{nat_cmp}
use Rattle.ref_value.specs.Edn.{Edn}
use Rattle.ref_fun.specs.declared.actions.Action.{Action}
use Rattle.ref_fun.specs.declared.carries.Carry.{Carry}
use Rattle.ref_fun.specs.declared.faults.Cause.{Cause}
use Rattle.ref_fun.specs.Meaning.{Means}
use Rattle.ref_agents.specs.declared.accounts.Handled.{Handled}
use Rattle.ref_agents.specs.declared.accounts.Mark.{Mark}
use Rattle.ref_agents.specs.declared.accounts.Mark.TheVariants.{Done, Failed, Passed}
use Rattle.ref_agents.specs.declared.accounts.Queued.{Queued}
use Rattle.ref_agents.specs.declared.accounts.SentBy.{SentBy}
use Rattle.ref_agents.specs.declared.accounts.SentBy.TheVariants.{Outside, Commit, Carried}

pub record AccountSeen : Type 0 where
  -- the state at the last restart, fold or making
  pub start : Edn
  -- how many of the actions that ended since the last restart, or the making, were folded into it
  pub past : ℕ
  -- the others, in order
  pub handled : List Handled
  -- those that wait, in order; the first may be on its way
  pub queue : List Queued

-- ---- the state

-- the state after an action by its mark: only one that was done changed it
abbrev pub after_marked : Means → Mark → Action → Edn → Result Edn Cause
after_marked means Done action v = means action.code action.args v
after_marked means Failed action v = Ok v
after_marked means Passed action v = Ok v

abbrev pub and_handled : Means → Handled → Result Edn Cause → Result Edn Cause
and_handled means h (Ok v) = after_marked means h.mark h.action v
and_handled means h (Err cause) = Err cause

abbrev pub after_handled : Means → List Handled → Result Edn Cause → Result Edn Cause
after_handled means [] v = v
after_handled means (h ∷ hs) v = after_handled means hs (and_handled means h v)

-- The state after the done actions, none of them refusing: the start folded over them in order.
abbrev pub fold_of : Means → AccountSeen → Result Edn Cause
fold_of means account = after_handled means account.handled (Ok account.start)

-- ---- the marks

abbrev pub is_failed_mark : Mark → Bool
is_failed_mark Done = false
is_failed_mark Failed = true
is_failed_mark Passed = false

-- Whether an agent is failed exactly where a handled action is marked failed, and that one is the last.
abbrev pub fit_marks : Bool → List Handled → Bool
fit_marks failed [] = not failed
fit_marks true (h ∷ []) = is_failed_mark h.mark
fit_marks false (h ∷ []) = not (is_failed_mark h.mark)
fit_marks failed (h ∷ next ∷ hs) = not (is_failed_mark h.mark) && fit_marks failed (next ∷ hs)

-- ---- the queue

-- whether a point is one of these
abbrev pub has_point : List ℕ → ℕ → Bool
has_point points point = list_any (is_at (nat_cmp point)) points

-- Whether an action may be taken, by what sent it. A commit's sends may be taken once that commit is released. The mark Carried
-- stands only until what its agent's action carried is released, and is Outside from then on.
abbrev pub is_released_by : List ℕ → SentBy → Bool
is_released_by unreleased Outside = true
is_released_by unreleased (Commit point) = not (has_point unreleased point)
is_released_by unreleased (Carried g) = false

abbrev pub is_released : List ℕ → Queued → Bool
is_released unreleased queued = is_released_by unreleased queued.by

-- whether there is a first action in a queue
abbrev pub has_head : List Queued → Bool
has_head [] = false
has_head (q ∷ qs) = true

-- whether there is one, and it may be taken
abbrev pub has_released : List ℕ → List Queued → Bool
has_released unreleased [] = false
has_released unreleased (q ∷ qs) = is_released unreleased q

-- ---- an account after an event

-- with one more action that waits
abbrev pub with_queued : AccountSeen → Queued → AccountSeen
with_queued account queued = record account { queue = account.queue ++ queued ∷ [] }

-- without the last action that waits
abbrev pub without_last : AccountSeen → AccountSeen
without_last account = record account { queue = take (length account.queue - 1) account.queue }

abbrev pub with_head_ended : AccountSeen → Mark → List Queued → AccountSeen
with_head_ended account mark [] = account
with_head_ended account mark (q ∷ qs) =
    record account { handled = account.handled ++ record { action = q.action; mark = mark } ∷ []; queue = qs }

-- what the last of these actions carried
abbrev pub last_carries : List Handled → List Carry
last_carries [] = []
last_carries (h ∷ []) = h.action.carries
last_carries (h ∷ next ∷ hs) = last_carries (next ∷ hs)

-- what an action of g carried, once it is released, is as if it was sent from outside
abbrev pub released_by : ℕ → SentBy → SentBy
released_by g Outside = Outside
released_by g (Commit point) = Commit point
released_by g (Carried by) = if by == g then Outside else Carried by

abbrev pub released : ℕ → Queued → Queued
released g queued = record queued { by = released_by g queued.by }

abbrev pub is_carried_by : ℕ → SentBy → Bool
is_carried_by g Outside = false
is_carried_by g (Commit point) = false
is_carried_by g (Carried by) = by == g

-- whether one of these was carried by an action of g, and isn't released
abbrev pub has_carried : ℕ → List Queued → Bool
has_carried g queue = list_any (λ q. is_carried_by g q.by) queue

-- the last of them is released
abbrev pub last_released : ℕ → List Queued → List Queued
last_released g [] = []
last_released g (q ∷ qs) = if has_carried g qs then q ∷ last_released g qs else released g q ∷ qs

abbrev pub with_released : ℕ → AccountSeen → AccountSeen
with_released g account = record account { queue = last_released g account.queue }

-- after its first action ended with a mark: it moved to the end of the handled ones
abbrev pub with_ended : AccountSeen → Mark → AccountSeen
with_ended account mark = with_head_ended account mark account.queue

abbrev pub kept_queue : Bool → List Queued → List Queued
kept_queue true queue = []
kept_queue false queue = queue

-- after a restart with this state, which clears the queue or leaves it
abbrev pub restarted : AccountSeen → Edn → Bool → AccountSeen
restarted account state clear = record { start = state; past = 0; handled = []; queue = kept_queue clear account.queue }

-- ---- a fold

-- how many actions ended since the last restart, or the making
abbrev pub number_of : AccountSeen → ℕ
number_of account = account.past + length account.handled

-- An account is folded while fewer actions than these ended: 2^62.
abbrev pub most_folded : ℕ
most_folded = 4611686018427387904

-- those that are marked failed
abbrev pub failing : List Handled → List Handled
failing handled = filter (λ h. is_failed_mark h.mark) handled

-- After a fold at this state, which is its start from then on. Of the actions that ended the one that failed the agent stays.
abbrev pub folded : AccountSeen → Edn → AccountSeen
folded account state = record account {
  start = state;
  past = account.past + (length account.handled - length (failing account.handled));
  handled = failing account.handled;
}
