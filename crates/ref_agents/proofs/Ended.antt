-- Agents whose job has ended.
use Rattle.std.proofs.Common.{◌≡◌, ◌∙◌, Bool, true, false, ◌&&◌, List, [], ◌∷◌, ◌++◌, Option, None, Some, Result, Ok, Err, ℕ, is_some, slice_get, slice_set, if◌then◌else◌, refl, sym, ap, subst}
use Rattle.ref_value.specs.Edn.{Edn}
use Rattle.ref_fun.specs.Meaning.{Means}
use Rattle.ref_fun.specs.Rule.{Accepts, passes}
use Rattle.ref_fun.specs.declared.actions.Action.{Action}
use Rattle.ref_fun.specs.declared.carries.Carry.{Carry}
use Rattle.ref_fun.specs.declared.faults.Cause.{Cause}
use Rattle.ref_fun.specs.declared.rules.Rule.{Rule}
use Rattle.ref_agents.specs.Account.{AccountSeen, after_marked, and_handled, fit_marks, fold_of, is_failed_mark, with_head_ended}
use Rattle.ref_log.specs.Guards.{AreAccepted, keys_at, rule_at}
use Rattle.ref_log.specs.declared.guards.Guard.{Guard}
use Rattle.ref_agents.specs.Agents.{AgentsSeen, IsAgent, carrying, ended, head_job, job_out, out_if_here, queuing, values_of, with_agents, with_each, with_send}
use Rattle.ref_agents.specs.Ends.{CanHave, IsAnswer, IsAnswerIfHere, IsAnswerOf, after_end, has_carry, judged}
use Rattle.ref_agents.specs.Indexed.{IsEnd}
use Rattle.ref_agents.specs.Jobs.{JobSeen, RanSeen}
use Rattle.ref_agents.specs.declared.accounts.Handled.{Handled}
use Rattle.ref_agents.specs.declared.accounts.Mark.{Mark}
use Rattle.ref_agents.specs.declared.accounts.Mark.TheVariants as marks
use Rattle.ref_agents.specs.declared.accounts.Queued.{Queued}
use Rattle.ref_agents.specs.declared.accounts.SentBy.{SentBy}
use Rattle.ref_agents.specs.declared.agents.Agent.{Agent}
use Rattle.ref_agents.specs.declared.agents.ErrorMode.{ErrorMode}
use Rattle.ref_agents.specs.declared.agents.ErrorMode.TheVariants.{Fail, Continue}
use Rattle.ref_agents.specs.declared.ends.Finished.{Finished}
use Rattle.ref_agents.specs.declared.faults.AgentError.{AgentError}
use Rattle.ref_agents.specs.declared.faults.AgentError.TheVariants.{Invalid}
use Rattle.ref_agents.proofs.Changed.{after_handled-append, fit_marks-append, relate_change, values_same, values_set}
use Rattle.ref_agents.proofs.JobsOut.{made, some_of}

-- ---- what a job says of its agent

pub state_is : (g : ℕ) (x : Agent) (job : JobSeen) (queue : List Queued) → head_job g x queue ≡ Some job → job.state ≡ x.value
state_is g x job [] is = cc
state_is g x job (q ∷ qs) is = sym (ap (λ j. j.state) (some_of (made g x q) job is))

-- ---- the account

fold_ended : (means : Means) (account : AccountSeen) (g : ℕ) (x : Agent) (job : JobSeen) (mark : Mark) (v : Edn) (queue : List Queued)
    → fold_of means account ≡ Ok x.value → head_job g x queue ≡ Some job → after_marked means mark job.action job.state ≡ Ok v
    → fold_of means (with_head_ended account mark queue) ≡ Ok v
fold_ended means account g x job mark v [] folded is marked = cc
fold_ended means account g x job mark v (q ∷ qs) folded is marked =
    let h : Handled = record { action = q.action; mark = mark } in
    after_handled-append means account.handled h (Ok account.start)
    ∙ ap (λ r. and_handled means h r) folded
    ∙ ap (λ j. after_marked means mark j.action j.state) (some_of (made g x q) job is)
    ∙ marked

marks_ended : (account : AccountSeen) (g : ℕ) (x : Agent) (job : JobSeen) (mark : Mark) (failed : Bool) (queue : List Queued)
    → fit_marks false account.handled ≡ true → head_job g x queue ≡ Some job → failed ≡ is_failed_mark mark
    → fit_marks failed ((with_head_ended account mark queue).handled) ≡ true
marks_ended account g x job mark failed [] fit is same = cc
marks_ended account g x job mark failed (q ∷ qs) fit is same = fit_marks-append account.handled (record { action = q.action; mark = mark }) failed same fit

-- ---- the agent

ended_agent : (means : Means) (g : ℕ) (x : Agent) (job : JobSeen) (mark : Mark) (v : Edn) (error : Option AgentError)
    → IsAgent means x → is_some x.error ≡ false → head_job g x x.account.queue ≡ Some job
    → after_marked means mark job.action job.state ≡ Ok v → is_some error ≡ is_failed_mark mark
    → IsAgent means (ended mark v error x)
ended_agent means g x job mark v error ok fine is marked failed = record {
  folded = fold_ended means x.account g x job mark v x.account.queue ok.folded is marked;
  marked = marks_ended x.account g x job mark (is_some error) x.account.queue (sym (ap (λ b. fit_marks b x.account.handled) fine) ∙ ok.marked) is failed;
  single = refl;
  idle = refl;
}

and_first : (a b : Bool) → a ≡ false → (a && b) ≡ false
and_first a b is = rw is refl

-- one of which no action is on its way may carry anything
carrying_agent : (means : Means) (b : Bool) (x : Agent) → x.is_out ≡ false → IsAgent means x → IsAgent means (carrying b x)
carrying_agent means b x out ok = record { folded = ok.folded; marked = ok.marked; single = ok.single; idle = and_first x.is_out b out }

abbrev value_or_error : Edn → Result Edn AgentError
value_or_error v = Ok v

ok_of : (w v : Edn) → value_or_error w ≡ value_or_error v → w ≡ v
ok_of w v is = cc

is_pass : (b : Bool) (w v : Edn) (e : AgentError) → (if b then Ok w else Err e) ≡ Ok v → w ≡ v
is_pass true w v e is = ok_of w v is
is_pass false w v e is = cc

judged_ok : (accepts : Accepts) (rule : Option Rule) (outcome : Result Edn Cause) (v : Edn) → judged accepts rule outcome ≡ Ok v → outcome ≡ Ok v
judged_ok accepts rule (Ok w) v is = ap Ok (is_pass (passes accepts rule w) w v Invalid is)
judged_ok accepts rule (Err cause) v is = cc

end_agent : (means : Means) (g : ℕ) (x : Agent) (job : JobSeen) (mode : ErrorMode) (judgement : Result Edn AgentError) (cs : List Carry)
    → IsAgent means x → is_some x.error ≡ false → head_job g x x.account.queue ≡ Some job
    → ((v : Edn) → judgement ≡ Ok v → means job.action.code job.action.args job.state ≡ Ok v)
    → IsAgent means (after_end mode judgement cs x)
end_agent means g x job mode (Ok v) cs ok fine is gives = carrying_agent means (has_carry cs) (ended marks.Done v None x) refl (ended_agent means g x job marks.Done v None ok fine is (gives v refl) refl)
end_agent means g x job Fail (Err e) cs ok fine is gives = ended_agent means g x job marks.Failed x.value (Some e) ok fine is (ap Ok (state_is g x job x.account.queue is)) refl
end_agent means g x job Continue (Err e) cs ok fine is gives = ended_agent means g x job marks.Passed x.value None ok fine is (ap Ok (state_is g x job x.account.queue is)) refl

-- what was so of an agent is so of it after its job
pub agent_after : (means : Means) (accepts : Accepts) (rule : Option Rule) (g : ℕ) (x : Agent) (job : JobSeen) (outcome : Result Edn Cause) (judgement : Result Edn AgentError) (cs : List Carry)
    → IsAgent means x → is_some x.error ≡ false → head_job g x x.account.queue ≡ Some job
    → means job.action.code job.action.args job.state ≡ outcome → judgement ≡ judged accepts rule outcome
    → IsAgent means (after_end x.mode judgement cs x)
agent_after means accepts rule g x job outcome judgement cs ok fine is meant same =
    end_agent means g x job x.mode judgement cs ok fine is (λ v gave. meant ∙ judged_ok accepts rule outcome v (sym same ∙ gave))

-- and all rules accept
pub accepted_after : (accepts : Accepts) (guards : List Guard) (agents : List Agent) (g : ℕ) (x : Agent) (mode : ErrorMode) (judgement : Result Edn AgentError) (cs : List Carry)
    → slice_get agents g ≡ Some x → CanHave accepts guards g judgement → AreAccepted accepts guards (values_of agents)
    → AreAccepted accepts guards (values_of (slice_set agents g (after_end mode judgement cs x)))
accepted_after accepts guards agents g x mode (Ok v) cs is can accepted =
    subst (AreAccepted accepts guards) (sym (values_set agents g (after_end mode (Ok v) cs x))) (can (values_of agents) accepted)
accepted_after accepts guards agents g x Fail (Err e) cs is can accepted =
    subst (AreAccepted accepts guards) (sym (values_same agents g x (after_end Fail (Err e) cs x) is refl)) accepted
accepted_after accepts guards agents g x Continue (Err e) cs is can accepted =
    subst (AreAccepted accepts guards) (sym (values_same agents g x (after_end Continue (Err e) cs x) is refl)) accepted

-- ---- the store

is_answer : (accepts : Accepts) (guards : List Guard) (ran : RanSeen) (i : ℕ) (judgement : Result Edn AgentError) (answer : Finished) (there : Option Agent)
    → i ≡ ran.job.agent → judgement ≡ judged accepts (rule_at guards ran.job.agent) ran.outcome → IsEnd i (keys_at guards i) judgement answer there → IsAnswerIfHere accepts guards ran answer there
is_answer accepts guards ran i judgement answer None at same told = told
is_answer accepts guards ran i judgement answer (Some x) at same told =
    subst (λ j. IsAnswer x.mode ran.job.agent (keys_at guards ran.job.agent) x.value j answer) same
    (subst (λ n. IsAnswer x.mode n (keys_at guards n) x.value judgement answer) at told)

pub answered : (accepts : Accepts) (store : AgentsSeen) (ran : RanSeen) (i : ℕ) (judgement : Result Edn AgentError) (answer : Finished)
    → i ≡ ran.job.agent → judgement ≡ judged accepts (rule_at store.guards ran.job.agent) ran.outcome
    → IsEnd i (keys_at store.guards i) judgement answer (slice_get store.agents ran.job.agent) → IsAnswerOf accepts store ran answer
answered accepts store ran i judgement answer at same told = is_answer accepts store.guards ran i judgement answer (slice_get store.agents ran.job.agent) at same told

-- ---- what goes out with an action

module _ {X : Type 0} (to : X → ℕ) (of : X → Action) (by : SentBy) where
  -- what is so of an agent is so of it with more actions that wait
  each_keeps : (P : Option Agent → Type 0) → ((x : Agent) (q : Queued) → P (Some x) → P (Some (queuing q x)))
      → (xs : List X) (agents : List Agent) (g : ℕ) → P (slice_get agents g) → P (slice_get (with_each to of by xs agents) g)
  each_keeps P more [] agents g is = is
  each_keeps P more (x ∷ xs) agents g is =
      let q : Queued = record { action = of x; by = by } in
      each_keeps P more xs (with_send agents (to x) q) g (relate_change (λ o p. P o → P p) (queuing q) (λ o h. h) (λ y. more y q) agents (to x) g is)

  -- and the other way round
  each_back : (P : Option Agent → Type 0) → ((x : Agent) (q : Queued) → P (Some (queuing q x)) → P (Some x))
      → (xs : List X) (agents : List Agent) (g : ℕ) → P (slice_get (with_each to of by xs agents) g) → P (slice_get agents g)
  each_back P less [] agents g is = is
  each_back P less (x ∷ xs) agents g is =
      let q : Queued = record { action = of x; by = by } in
      relate_change (λ o p. P p → P o) (queuing q) (λ o h. h) (λ y. less y q) agents (to x) g (each_back P less xs (with_send agents (to x) q) g is)

  -- a job that is on its way stays so
  pub out_each : (xs : List X) (agents : List Agent) (g : ℕ) (job : JobSeen) → job_out agents g ≡ Some job → job_out (with_each to of by xs agents) g ≡ Some job
  out_each xs agents g job = each_keeps (λ o. out_if_here g o ≡ Some job) (λ x q. still g x q job) xs agents g where
    head : (g : ℕ) (x : Agent) (q : Queued) (job : JobSeen) (queue : List Queued) → head_job g x queue ≡ Some job → head_job g (queuing q x) (queue ++ q ∷ []) ≡ Some job
    head g x q job [] is = cc
    head g x q job (p ∷ ps) is = is

    if_out : (b : Bool) (o p : Option JobSeen) (job : JobSeen) → (o ≡ Some job → p ≡ Some job) → (if b then o else None) ≡ Some job → (if b then p else None) ≡ Some job
    if_out true o p job f is = f is
    if_out false o p job f is = is

    still : (g : ℕ) (x : Agent) (q : Queued) (job : JobSeen) → out_if_here g (Some x) ≡ Some job → out_if_here g (Some (queuing q x)) ≡ Some job
    still g x q job = if_out x.is_out (head_job g x x.account.queue) (head_job g (queuing q x) (x.account.queue ++ q ∷ [])) job (head g x q job x.account.queue)

  -- and so does what is answered
  pub answer_each : (accepts : Accepts) (store : AgentsSeen) (ran : RanSeen) (answer : Finished) (xs : List X)
      → IsAnswerOf accepts (with_agents store (with_each to of by xs store.agents)) ran answer → IsAnswerOf accepts store ran answer
  answer_each accepts store ran answer xs = each_back (IsAnswerIfHere accepts store.guards ran answer) (λ x q is. is) xs store.agents ran.job.agent
