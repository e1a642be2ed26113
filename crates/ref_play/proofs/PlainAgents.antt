-- What definitions of agents and jobs say, in plain words.
use Rattle.std.proofs.Common.{◌≡◌, ◌≢◌, ◌↔◌, ℕ, zero, suc, cond, ◌<◌, ◌≤◌, ◌&&◌, not, nat_lt, is_some, Bool, true, false, List, [], ◌∷◌, ◌++◌, length, Option, None, Some, Result, Ok, Err, slice_get, slice_set, refl, sym, ap, subst, ◌∙◌, arith}
use Rattle.std.specs.Global.{Vec}
use Rattle.std.specs.List.{AllByRecursion}
use Rattle.std.specs.BTreeMap.{is_at}
use Rattle.std.specs.Ordering.{is_eq, nat_cmp}
use Rattle.std.specs.FinMap.{nat_cmp-IsAntisymmetric}
use Rattle.std.proofs.lemmas.Bool.{and_from, and_parts, false_from_ne_true, le-ltb, lt-ltb, ltb-false, ltb-true, not-true, or_from, or_parts}
use Rattle.std.proofs.lemmas.Cmp.{nat_cmp_total, tied_itself}
use Rattle.std.specs.Cmp.{Equal-is}
use Rattle.ref_value.specs.Edn.{Edn}
use Rattle.ref_fun.specs.Actions.{absent_agent}
use Rattle.ref_fun.specs.Rule.{Accepts, is_accepted, passes, unknown}
use Rattle.ref_fun.specs.declared.actions.Action.{Action}
use Rattle.ref_fun.specs.declared.carries.Carry.{Carry}
use Rattle.ref_fun.specs.declared.faults.Cause.{Cause}
use Rattle.ref_fun.specs.declared.rules.Rule.{Rule}
use Rattle.ref_log.specs.Guards.{keys_at, keys_if_here, rule_at}
use Rattle.ref_log.specs.Watches.{notices_of}
use Rattle.ref_log.specs.declared.guards.Guard.{Guard}
use Rattle.ref_log.specs.declared.notices.Notice.{Notice}
use Rattle.ref_log.specs.declared.notices.Who.TheVariants as who
use Rattle.ref_agents.specs.Account.{AccountSeen, has_point, has_released, is_released_by, kept_queue, with_ended, with_head_ended}
use Rattle.ref_agents.specs.Agents.{AgentsSeen, carried, carrying, change_agent, ended, head_job, is_ready_at, is_ready_if_here, job_out, next_job, out_if_here, put_agent, revived, send_refusal, send_refusal_if_here, with_agents, with_carries}
use Rattle.ref_agents.specs.Ends as ends
use Rattle.ref_agents.specs.Ends.{IsAnswer, IsAnswerIfHere, after_end, ending, has_carry, judged, restart_refusal, restart_refusal_if_here, with_end}
use Rattle.ref_agents.specs.Jobs.{JobSeen, RanSeen}
use Rattle.ref_agents.specs.declared.accounts.Mark.{Mark}
use Rattle.ref_agents.specs.declared.accounts.Mark.TheVariants as marks
use Rattle.ref_agents.specs.declared.accounts.Queued.{Queued}
use Rattle.ref_agents.specs.declared.accounts.SentBy.{SentBy}
use Rattle.ref_agents.specs.declared.accounts.SentBy.TheVariants.{Outside, Commit, Carried}
use Rattle.ref_agents.specs.declared.agents.Agent.{Agent}
use Rattle.ref_agents.specs.declared.agents.ErrorMode.{ErrorMode}
use Rattle.ref_agents.specs.declared.agents.ErrorMode.TheVariants as modes
use Rattle.ref_agents.specs.declared.ends.Finished.{Finished}
use Rattle.ref_agents.specs.declared.ends.Finished.TheVariants.{Changed, Failed, Continued}
use Rattle.ref_agents.specs.declared.faults.AgentError.{AgentError}
use Rattle.ref_agents.specs.declared.faults.AgentError.TheVariants.{Invalid}
use Rattle.ref_agents.specs.declared.faults.RestartFault.{RestartFault}
use Rattle.ref_agents.specs.declared.faults.RestartFault.TheVariants as restarts
use Rattle.ref_agents.specs.declared.faults.SendFault.{SendFault}
use Rattle.ref_agents.specs.declared.faults.SendFault.TheVariants as send_faults
use Rattle.std.specs.Option.{option_map, option_or}
use Rattle.ref_play.specs.Plain.{HasRule, KnowsRuleOf, RuleAccepts, agents_of}
use Rattle.ref_play.specs.Given.{goes_out}
use Rattle.ref_play.specs.PlainAgents.{EndsAs, FailedFor, FinishMeans, HasEnded, HasFinished, HasReceivers, IsNext, IsOut, IsReady, IsReleased, JobOutMeans, NextJobMeans, OnlyAgent, ReadyMeans, RestartMeans, RestartRefusals, RestartsSo, SendRefusals, SendsSo, carried_to, notices, queued}
use Rattle.ref_play.proofs.PlainCommits.{has_rule, rule_is}
use Rattle.ref_play.proofs.PlainLists.{all_map, any_found, found_any, found_none, none_found}
use Rattle.ref_play.proofs.PlainQueues.{each_here, each_none, set_here, set_other}
use Rattle.ref_play.proofs.Taken.{answered_out}
use Rattle.ref_play.proofs.PlainRules.{code_lacked, lacked_code, lacked_none, none_lacked, passes_rule, rule_passes, rule_refuses}

-- ---- ready

pub at_itself : (n : ℕ) → is_at (nat_cmp n) n ≡ true
at_itself n = ap is_eq (tied_itself nat_cmp_total n)

pub at_same : (n m : ℕ) → is_at (nat_cmp n) m ≡ true → n ≡ m
at_same n m is = nat_cmp-IsAntisymmetric n m ((Equal-is (nat_cmp n m)).0 is)

points_other : (points : List ℕ) (point : ℕ) → has_point points point ≡ false → AllByRecursion (λ p. p ≢ point) points
points_other [] point none = tt
points_other (p ∷ ps) point none =
    let parts = or_parts (is_at (nat_cmp point) p) (has_point ps point) none in
    let other : p ≢ point = λ same. let here = ap (is_at (nat_cmp point)) same ∙ at_itself point in absurd cc in
    (other, points_other ps point parts.1)

other_points : (points : List ℕ) (point : ℕ) → AllByRecursion (λ p. p ≢ point) points → has_point points point ≡ false
other_points [] point others = refl
other_points (p ∷ ps) point others =
    or_from (is_at (nat_cmp point) p) (has_point ps point) (false_from_ne_true (is_at (nat_cmp point) p) (λ is. others.0 (sym (at_same point p is)))) (other_points ps point others.1)

released_by : (points : List ℕ) (by : SentBy) → is_released_by points by ≡ true → IsReleased points by
released_by points Outside is = tt
released_by points (Commit point) is = points_other points point (not-true (has_point points point) is)
released_by points (Carried g) is = absurd cc

by_released : (points : List ℕ) (by : SentBy) → IsReleased points by → is_released_by points by ≡ true
by_released points Outside is = refl
by_released points (Commit point) is = ap not (other_points points point is)
by_released points (Carried g) is = absurd is

no_error : (error : Option AgentError) → not (is_some error) ≡ true → error ≡ None
no_error None is = refl
no_error (Some error) is = absurd cc

is_ready_by : (store : AgentsSeen) (g : ℕ) → is_ready_at store g ≡ true → IsReady store g
is_ready_by store g is = by (slice_get store.agents g) refl is where
  by : (there : Option Agent) → slice_get store.agents g ≡ there → is_ready_if_here store.unreleased there ≡ true → IsReady store g
  by None here is = absurd cc
  by (Some agent) here is = queued agent.account.queue refl parts.1 where
    parts : ((not (is_some agent.error) && not agent.is_out && not agent.is_carrying) ≡ true) × (has_released store.unreleased agent.account.queue ≡ true)
    parts = and_parts (not (is_some agent.error) && not agent.is_out && not agent.is_carrying) (has_released store.unreleased agent.account.queue) is

    three : ((not (is_some agent.error) && not agent.is_out) ≡ true) × (not agent.is_carrying ≡ true)
    three = and_parts (not (is_some agent.error) && not agent.is_out) (not agent.is_carrying) parts.0

    two : (not (is_some agent.error) ≡ true) × (not agent.is_out ≡ true)
    two = and_parts (not (is_some agent.error)) (not agent.is_out) three.0

    queued : (queue : List Queued) → agent.account.queue ≡ queue → has_released store.unreleased queue ≡ true → IsReady store g
    queued [] waits released = absurd cc
    queued (q ∷ qs) waits released = record {
      agent = agent;
      here = here;
      sound = no_error agent.error two.0;
      idle = not-true agent.is_out two.1;
      quiet = not-true agent.is_carrying three.1;
      first = q;
      rest = qs;
      queue = waits;
      released = released_by store.unreleased q.by released;
    }

by_ready : (store : AgentsSeen) (g : ℕ) → IsReady store g → is_ready_at store g ≡ true
by_ready store g is =
    ap (is_ready_if_here store.unreleased) is.here
    ∙ and_from (not (is_some is.agent.error) && not is.agent.is_out && not is.agent.is_carrying) (has_released store.unreleased is.agent.account.queue)
    (and_from (not (is_some is.agent.error) && not is.agent.is_out) (not is.agent.is_carrying)
    (and_from (not (is_some is.agent.error)) (not is.agent.is_out) (ap (λ e. not (is_some e)) is.sound) (ap not is.idle)) (ap not is.quiet))
    (ap (has_released store.unreleased) is.queue ∙ by_released store.unreleased is.first.by is.released)

pub ready_means : ReadyMeans
ready_means store g = (is_ready_by store g, by_ready store g)

-- ---- jobs

next_by : (agents : List Agent) (g : ℕ) (job : JobSeen) → next_job g (slice_get agents g) ≡ Some job → IsNext agents g job
next_by agents g job is = by (slice_get agents g) refl is where
  by : (there : Option Agent) → slice_get agents g ≡ there → next_job g there ≡ Some job → IsNext agents g job
  by None here is = absurd cc
  by (Some agent) here is = queued agent.account.queue refl is where
    queued : (queue : List Queued) → agent.account.queue ≡ queue → head_job g agent queue ≡ Some job → IsNext agents g job
    queued [] waits is = absurd cc
    queued (q ∷ qs) waits is = record { agent = agent; here = here; first = q; rest = qs; queue = waits; is = cc }

by_next : (agents : List Agent) (g : ℕ) (job : JobSeen) → IsNext agents g job → next_job g (slice_get agents g) ≡ Some job
by_next agents g job is = ap (next_job g) is.here ∙ (ap (head_job g is.agent) is.queue ∙ ap Some (sym is.is))

pub next_job_means : NextJobMeans
next_job_means agents g job = (next_by agents g job, by_next agents g job)

out_by : (agents : List Agent) (g : ℕ) (job : JobSeen) → job_out agents g ≡ Some job → IsOut agents g job
out_by agents g job is = by (slice_get agents g) refl is where
  by : (there : Option Agent) → slice_get agents g ≡ there → out_if_here g there ≡ Some job → IsOut agents g job
  by None here is = absurd cc
  by (Some agent) here is = queued agent.is_out refl agent.account.queue refl is where
    queued : (b : Bool) → agent.is_out ≡ b → (queue : List Queued) → agent.account.queue ≡ queue → cond b (head_job g agent queue) None ≡ Some job → IsOut agents g job
    queued false out queue waits is = absurd cc
    queued true out [] waits is = absurd cc
    queued true out (q ∷ qs) waits is = record { next = record { agent = agent; here = here; first = q; rest = qs; queue = waits; is = cc }; out = out }

by_out : (agents : List Agent) (g : ℕ) (job : JobSeen) → IsOut agents g job → job_out agents g ≡ Some job
by_out agents g job is =
    ap (out_if_here g) is.next.here
    ∙ (ap (λ b. cond b (head_job g is.next.agent is.next.agent.account.queue) None) is.out
    ∙ (ap (head_job g is.next.agent) is.next.queue ∙ ap Some (sym is.next.is)))

pub job_out_means : JobOutMeans
job_out_means agents g job = (out_by agents g job, by_out agents g job)

-- ---- one agent changes

pub only_changed : (store : AgentsSeen) (g : ℕ) (change : Agent → Agent) (before : Agent) → slice_get store.agents g ≡ Some before → OnlyAgent g (change before) store (with_agents store (change_agent store.agents g change))
only_changed store g change before here =
    let changed : change_agent store.agents g change ≡ slice_set store.agents g (change before) = ap (put_agent store.agents g change) here in
    record {
      here = ap (λ l. slice_get l g) changed ∙ set_here store.agents g before (change before) here;
      others = λ h other. ap (λ l. slice_get l h) changed ∙ set_other store.agents g h (change before) other;
      guards = refl;
      unreleased = refl;
    }

queue_kept : (clear : Bool) (queue : List Queued) → clear ≡ false → kept_queue clear queue ≡ queue
queue_kept true queue is = absurd cc
queue_kept false queue is = refl

queue_cleared : (clear : Bool) (queue : List Queued) → clear ≡ true → kept_queue clear queue ≡ []
queue_cleared true queue is = refl
queue_cleared false queue is = absurd cc

pub restart_means : RestartMeans
restart_means store g state clear before here = (
  revived state clear before,
  only_changed store g (revived state clear) before here,
  record {
    value = refl;
    error = refl;
    start = refl;
    past = refl;
    handled = refl;
    kept = queue_kept clear before.account.queue;
    cleared = queue_cleared clear before.account.queue;
    mode = refl;
    out = refl;
    carrying = refl;
  },
)

-- ---- how a job ends

-- an agent to which so much was added, and whose first action ended then
has_ended : (before after : Agent) (mark : Mark) (value : Edn) (error : Option AgentError) (more : List Queued) → before.account.queue ≢ [] → after.value ≡ value → after.error ≡ error → after.is_out ≡ false → after.mode ≡ before.mode
    → after.account ≡ with_ended (queued before more).account mark → HasEnded before after mark value error more
has_ended before after mark value error more waiting value_is error_is idle mode account_is = by before.account.queue refl where
  by : (queue : List Queued) → before.account.queue ≡ queue → HasEnded before after mark value error more
  by [] waits = absurd (waiting waits)
  by (q ∷ qs) waits =
      let account : after.account ≡ with_head_ended (queued before more).account mark (q ∷ (qs ++ more)) = account_is ∙ ap (λ l. with_head_ended (queued before more).account mark (l ++ more)) waits in
      record {
        value_is = value_is;
        error_is = error_is;
        idle = idle;
        mode = mode;
        start = ap (λ (a : AccountSeen). a.start) account;
        past = ap (λ (a : AccountSeen). a.past) account;
        first = q;
        rest = qs;
        waited = waits;
        wait = ap (λ (a : AccountSeen). a.queue) account;
        handled = ap (λ (a : AccountSeen). a.handled) account;
      }

carries_some : (cs : List Carry) → has_carry cs ≡ true ↔ cs ≢ []
carries_some [] = ((λ is. absurd cc), λ some. absurd (some refl))
carries_some (c ∷ cs) = ((λ is none. absurd cc), λ some. refl)

module _ (accepts : Accepts) (guards : List Guard) (g : ℕ) where
  abbrev Gives : Result Edn Cause → Edn → Type 0
  Gives outcome v = (outcome ≡ Ok v) × RuleAccepts accepts guards g v

  accepted_value : (outcome : Result Edn Cause) (v : Edn) → judged accepts (rule_at guards g) outcome ≡ Ok v → Gives outcome v
  accepted_value (Ok w) v is = by (passes accepts (rule_at guards g) w) refl is where
    by : (b : Bool) → passes accepts (rule_at guards g) w ≡ b → cond b (Ok w) (Err Invalid) ≡ Ok v → Gives (Ok w) v
    by true passed is = (
      cc,
      λ rule has.
          let same : w ≡ v = cc in
          ap (λ x. is_accepted accepts rule x) (sym same) ∙ (ap (λ o. passes accepts o w) (sym (rule_is guards g rule has)) ∙ passed),
    )
    by false failed is = absurd cc
  accepted_value (Err cause) v is = absurd cc

  failed_for : (outcome : Result Edn Cause) (error : AgentError) → judged accepts (rule_at guards g) outcome ≡ Err error → FailedFor accepts guards g outcome error
  failed_for (Ok w) error is = by (passes accepts (rule_at guards g) w) refl is where
    ruled : (rule : Option Rule) → rule_at guards g ≡ rule → passes accepts rule w ≡ false → (r : Rule) × HasRule guards g r × (accepts r.code r.args w ≡ false)
    ruled None has failed = absurd cc
    ruled (Some rule) has failed = (rule, has_rule guards g rule has, failed)

    by : (b : Bool) → passes accepts (rule_at guards g) w ≡ b → cond b (Ok w) (Err Invalid) ≡ Err error → FailedFor accepts guards g (Ok w) error
    by true passed is = absurd cc
    by false failed is = (cc, ruled (rule_at guards g) refl failed)
  failed_for (Err cause) error is = cc

  value_judged : (outcome : Result Edn Cause) (v : Edn) → outcome ≡ Ok v → RuleAccepts accepts guards g v → judged accepts (rule_at guards g) outcome ≡ Ok v
  value_judged outcome v is accepted = ap (judged accepts (rule_at guards g)) is ∙ by (rule_at guards g) refl where
    by : (rule : Option Rule) → rule_at guards g ≡ rule → cond (passes accepts rule v) (Ok v) (Err Invalid) ≡ Ok v
    by None has = refl
    by (Some rule) has = ap (λ b. cond b (Ok v) (Err Invalid)) (accepted rule (has_rule guards g rule has))

  error_judged : (outcome : Result Edn Cause) (error : AgentError) → FailedFor accepts guards g outcome error → judged accepts (rule_at guards g) outcome ≡ Err error
  error_judged (Ok v) error (is, (rule, has, refuses)) =
      ap (λ o. cond (passes accepts o v) (Ok v) (Err Invalid)) (rule_is guards g rule has) ∙ (ap (λ b. cond b (Ok v) (Err Invalid)) refuses ∙ ap Err (sym is))
  error_judged (Err cause) error is = ap Err (sym is)

module _ (accepts : Accepts) (guards : List Guard) (guard : Guard) (ran : RanSeen) (here : slice_get guards ran.job.agent ≡ Some guard) (before : Agent) where
  abbrev Judged : Result Edn AgentError
  Judged = judged accepts (rule_at guards ran.job.agent) ran.outcome

  abbrev Answers : ErrorMode → Result Edn AgentError → Finished → Type 0
  Answers mode judgement answer = IsAnswer mode ran.job.agent (keys_at guards ran.job.agent) before.value judgement answer

  watches_are : (v : Edn) → notices_of (who.Agent ran.job.agent) (keys_at guards ran.job.agent) before.value v ≡ notices ran.job.agent guard.watches before.value v
  watches_are v = ap (λ keys. notices_of (who.Agent ran.job.agent) keys before.value v) (ap keys_if_here here)

  abbrev Then : Result Edn AgentError → Agent
  Then judgement = queued before (carried_to ran.job.agent (ends.goes_out judgement ran.job.action.carries) ran.job.agent)

  changed : (told : Vec Notice) (v : Edn) → Judged ≡ Ok v → told.items ≡ notices_of (who.Agent ran.job.agent) (keys_at guards ran.job.agent) before.value v → before.account.queue ≢ []
      → EndsAs accepts guards guard ran before (carrying (has_carry ran.job.action.carries) (ended marks.Done v None (queued before (carried_to ran.job.agent ran.job.action.carries ran.job.agent)))) (Changed told)
  changed told v is says waiting =
      let value = accepted_value accepts guards ran.job.agent ran.outcome v is in
      (v, value.0, value.1, says ∙ watches_are v, has_ended before _ marks.Done v None (carried_to ran.job.agent ran.job.action.carries ran.job.agent) waiting refl refl refl refl refl, carries_some ran.job.action.carries)

  ends_as : (answer : Finished) → before.account.queue ≢ [] → (mode : ErrorMode) → before.mode ≡ mode → (judgement : Result Edn AgentError) → Judged ≡ judgement → Answers mode judgement answer
      → EndsAs accepts guards guard ran before (after_end mode judgement ran.job.action.carries (Then judgement)) answer
  ends_as (Changed told) waiting modes.Fail mode (Ok v) is answers = changed told v is answers waiting
  ends_as (Changed told) waiting modes.Continue mode (Ok v) is answers = changed told v is answers waiting
  ends_as (Failed told) waiting modes.Fail mode (Err error) is answers = (
    mode,
    failed_for accepts guards ran.job.agent ran.outcome told (is ∙ ap Err (sym answers)),
    has_ended before _ marks.Failed before.value (Some told) [] waiting refl (ap Some (sym answers)) refl refl refl,
    refl,
  )
  ends_as (Continued told) waiting modes.Continue mode (Err error) is answers =
      (mode, failed_for accepts guards ran.job.agent ran.outcome told (is ∙ ap Err (sym answers)), has_ended before _ marks.Passed before.value None [] waiting refl refl refl refl refl, refl)
  ends_as (Changed told) waiting modes.Fail mode (Err error) is answers = absurd answers
  ends_as (Changed told) waiting modes.Continue mode (Err error) is answers = absurd answers
  ends_as (Failed told) waiting modes.Fail mode (Ok v) is answers = absurd answers
  ends_as (Failed told) waiting modes.Continue mode (Ok v) is answers = absurd answers
  ends_as (Failed told) waiting modes.Continue mode (Err error) is answers = absurd answers
  ends_as (Continued told) waiting modes.Fail mode (Ok v) is answers = absurd answers
  ends_as (Continued told) waiting modes.Continue mode (Ok v) is answers = absurd answers
  ends_as (Continued told) waiting modes.Fail mode (Err error) is answers = absurd answers

  answered_by : (answer : Finished) (after : Agent) → EndsAs accepts guards guard ran before after answer → Answers before.mode Judged answer
  answered_by (Changed told) after (v, is, accepted, says, ended_so, carries) = subst (λ j. Answers before.mode j (Changed told)) (sym (value_judged accepts guards ran.job.agent ran.outcome v is accepted)) (any before.mode) where
    any : (mode : ErrorMode) → Answers mode (Ok v) (Changed told)
    any modes.Fail = says ∙ sym (watches_are v)
    any modes.Continue = says ∙ sym (watches_are v)
  answered_by (Failed error) after (mode, failed, ended_so, stays) =
      subst (λ m. Answers m Judged (Failed error)) (sym mode) (subst (λ j. Answers modes.Fail j (Failed error)) (sym (error_judged accepts guards ran.job.agent ran.outcome error failed)) refl)
  answered_by (Continued error) after (mode, failed, ended_so, stays) =
      subst (λ m. Answers m Judged (Continued error)) (sym mode) (subst (λ j. Answers modes.Continue j (Continued error)) (sym (error_judged accepts guards ran.job.agent ran.outcome error failed)) refl)

-- what goes out, to the agent and to all others
finished : (store : AgentsSeen) (g : ℕ) (judgement : Result Edn AgentError) (cs out : List Carry) (before : Agent) → slice_get store.agents g ≡ Some before → ends.goes_out judgement cs ≡ out
    → HasFinished g (ending judgement cs (queued before (carried_to g (ends.goes_out judgement cs) g))) out store (with_end store g judgement cs)
finished store g judgement cs out before here goes = subst (λ l. HasFinished g (ending judgement cs (queued before (carried_to g (ends.goes_out judgement cs) g))) l store (with_end store g judgement cs)) goes (record {
  here = ap (λ o. slice_get (put_agent (with_carries g (ends.goes_out judgement cs) store.agents) g (ending judgement cs) o) g) mine ∙ set_here (with_carries g (ends.goes_out judgement cs) store.agents) g (queued before (carried_to g (ends.goes_out judgement cs) g)) (ending judgement cs (queued before (carried_to g (ends.goes_out judgement cs) g))) mine;
  others = λ h agent other there. ap (λ o. slice_get (put_agent (with_carries g (ends.goes_out judgement cs) store.agents) g (ending judgement cs) o) h) mine
      ∙ (set_other (with_carries g (ends.goes_out judgement cs) store.agents) g h (ending judgement cs (queued before (carried_to g (ends.goes_out judgement cs) g))) other ∙ each_here (λ (c : Carry). c.g) carried (Carried g) (ends.goes_out judgement cs) store.agents h agent there);
  none = λ h none. ap (λ o. slice_get (put_agent (with_carries g (ends.goes_out judgement cs) store.agents) g (ending judgement cs) o) h) mine
      ∙ (set_other (with_carries g (ends.goes_out judgement cs) store.agents) g h (ending judgement cs (queued before (carried_to g (ends.goes_out judgement cs) g))) (λ same. let both = sym none ∙ (ap (slice_get store.agents) same ∙ here) in absurd cc)
      ∙ each_none (λ (c : Carry). c.g) carried (Carried g) (ends.goes_out judgement cs) store.agents h none);
  guards = refl;
  unreleased = refl;
}) where
  mine : slice_get (with_carries g (ends.goes_out judgement cs) store.agents) g ≡ Some (queued before (carried_to g (ends.goes_out judgement cs) g))
  mine = each_here (λ (c : Carry). c.g) carried (Carried g) (ends.goes_out judgement cs) store.agents g before here

pub finish_means : (accepts : Accepts) → FinishMeans accepts
finish_means accepts store ran before guard answer here guarded waiting = (
  λ answers. (
    ending (judged accepts (rule_at store.guards ran.job.agent) ran.outcome) ran.job.action.carries (queued before (carried_to ran.job.agent (ends.goes_out (judged accepts (rule_at store.guards ran.job.agent) ran.outcome) ran.job.action.carries) ran.job.agent)),
    finished store ran.job.agent (judged accepts (rule_at store.guards ran.job.agent) ran.outcome) ran.job.action.carries (goes_out answer ran.job.action.carries) before here (answered_out accepts store ran answer ran.job.action.carries answers),
    ends_as accepts store.guards guard ran guarded before answer waiting before.mode refl (judged accepts (rule_at store.guards ran.job.agent) ran.outcome) refl (subst (IsAnswerIfHere accepts store.guards ran answer) here answers),
  ),
  λ left. subst (IsAnswerIfHere accepts store.guards ran answer) (sym here) (answered_by accepts store.guards guard ran guarded before answer left.0 left.2),
)

-- ---- when a failed agent can be restarted

has_error : (error : Option AgentError) → error ≢ None → is_some error ≡ true
has_error None failed = absurd (failed refl)
has_error (Some error) failed = refl

module _ (accepts : Accepts) (knows : ℕ → Bool) (store : AgentsSeen) (g : ℕ) (state : Edn) where
  -- the refusal of an agent that is here, by the code that the table lacks, its error, and whether its rule accepts
  abbrev asked : Option ℕ → Bool → Bool → Option RestartFault
  asked lacked failed accepted = option_or (option_map restarts.NoSuchFun lacked) (cond (not failed) (Some restarts.NotFailed) (cond (not accepted) (Some restarts.Invalid) None))

  abbrev So : Option RestartFault → Type 0
  So refusal = RestartsSo accepts knows store g state refusal

  restarts_so : So (restart_refusal accepts knows store g state)
  restarts_so = by (slice_get store.agents g) refl where
    failed : (agent : Agent) → slice_get store.agents g ≡ Some agent → KnowsRuleOf knows store.guards g → (error : AgentError) → agent.error ≡ Some error → (b : Bool) → passes accepts (rule_at store.guards g) state ≡ b → So (asked None true b)
    failed agent here known error is true accepted = (agent, here, known, (λ none. absurd cc), rule_passes accepts store.guards g state accepted)
    failed agent here known error is false refused = (agent, here, known, (λ none. absurd cc), rule_refuses accepts store.guards g state refused)

    known : (agent : Agent) → slice_get store.agents g ≡ Some agent → (error : Option AgentError) → agent.error ≡ error → KnowsRuleOf knows store.guards g → So (asked None (is_some error) (passes accepts (rule_at store.guards g) state))
    known agent here None is knowing = (agent, here, knowing, is)
    known agent here (Some error) is knowing = failed agent here knowing error is (passes accepts (rule_at store.guards g) state) refl

    coded : (agent : Agent) → slice_get store.agents g ≡ Some agent → (lacked : Option ℕ) → unknown knows (rule_at store.guards g) ≡ lacked → So (asked lacked (is_some agent.error) (passes accepts (rule_at store.guards g) state))
    coded agent here None is = known agent here agent.error refl (none_lacked knows store.guards g is)
    coded agent here (Some code) is =
        let one = lacked_code knows store.guards g code is in
        ((λ none. absurd cc), one.0, one.1)

    by : (found : Option Agent) → slice_get store.agents g ≡ found → So (restart_refusal_if_here accepts knows (rule_at store.guards g) state found)
    by None here = here
    by (Some agent) here = coded agent here (unknown knows (rule_at store.guards g)) refl

  by_asked : (agent : Agent) → slice_get store.agents g ≡ Some agent → (lacked : Option ℕ) → unknown knows (rule_at store.guards g) ≡ lacked → (failed : Bool) → is_some agent.error ≡ failed → (accepted : Bool) → passes accepts (rule_at store.guards g) state ≡ accepted
      → restart_refusal accepts knows store g state ≡ asked lacked failed accepted
  by_asked agent here lacked a failed b accepted c =
      ap (restart_refusal_if_here accepts knows (rule_at store.guards g) state) here
      ∙ (ap (λ x. asked x (is_some agent.error) (passes accepts (rule_at store.guards g) state)) a
      ∙ (ap (λ x. asked lacked x (passes accepts (rule_at store.guards g) state)) b
      ∙ ap (λ x. asked lacked failed x) c))

  back : (refusal : Option RestartFault) → So refusal → restart_refusal accepts knows store g state ≡ refusal
  back None (agent, here, known, failed, accepted) = by_asked agent here None (lacked_none knows store.guards g known) true (has_error agent.error failed) true (passes_rule accepts store.guards g state accepted)
  back (Some restarts.NoSuchAgent) none = ap (restart_refusal_if_here accepts knows (rule_at store.guards g) state) none
  back (Some (restarts.NoSuchFun code)) (here, ruled, never) = by (slice_get store.agents g) refl where
    by : (found : Option Agent) → slice_get store.agents g ≡ found → restart_refusal accepts knows store g state ≡ Some (restarts.NoSuchFun code)
    by None none = absurd (here none)
    by (Some agent) is = by_asked agent is (Some code) (code_lacked knows store.guards g code ruled never) (is_some agent.error) refl (passes accepts (rule_at store.guards g) state) refl
  back (Some restarts.NotFailed) (agent, here, known, sound) = by_asked agent here None (lacked_none knows store.guards g known) false (ap is_some sound) (passes accepts (rule_at store.guards g) state) refl
  back (Some restarts.Invalid) (agent, here, known, failed, (rule, has, refuses)) =
      by_asked agent here None (lacked_none knows store.guards g known) true (has_error agent.error failed) false (ap (λ o. passes accepts o state) (rule_is store.guards g rule has) ∙ refuses)
  back (Some restarts.Memory) never = absurd never

pub restart_refusals : (accepts : Accepts) → RestartRefusals accepts
restart_refusals accepts knows store g state refusal = (λ is. subst (RestartsSo accepts knows store g state) is (restarts_so accepts knows store g state), back accepts knows store g state refusal)

-- ---- when an action can be sent

module _ (agents : List Agent) (g : ℕ) (action : Action) where
  abbrev asked_to_send : Bool → Option SendFault
  asked_to_send failed = cond failed (Some send_faults.Failed) None

  abbrev refusal_of : Option ℕ → Option SendFault → Option SendFault
  refusal_of absent later = option_or (option_map (λ h. send_faults.NoSuchAgent) absent) later

  sends_so : SendsSo agents g action (send_refusal agents g action)
  sends_so = by (absent_agent (length agents) g action) refl where
    judged : HasReceivers agents g action → (agent : Agent) → slice_get agents g ≡ Some agent → (error : Option AgentError) → agent.error ≡ error → SendsSo agents g action (asked_to_send (is_some error))
    judged all agent here None sound = (all, (agent, here, sound))
    judged all agent here (Some error) failed = (all, (agent, here, λ sound. let both = sym failed ∙ sound in absurd cc))

    found : HasReceivers agents g action → (there : Option Agent) → slice_get agents g ≡ there → SendsSo agents g action (send_refusal_if_here there)
    found all None here = absurd (within agents g all.0 here) where
      within : (xs : List Agent) (i : ℕ) → i < length xs → slice_get xs i ≡ None → ⊥
      within [] i below none = omega (arith, below)
      within (x ∷ xs) zero below none = cc
      within (x ∷ xs) (suc i) below none = within xs i (omega (arith, below)) none
    found all (Some agent) here = judged all agent here agent.error refl

    by : (absent : Option ℕ) → absent_agent (length agents) g action ≡ absent → SendsSo agents g action (refusal_of absent (send_refusal_if_here (slice_get agents g)))
    by None is = found (all_map (λ h. nat_lt h (length agents) ≡ true) (λ h. h < length agents) (λ h below. ltb-true h (length agents) below) (agents_of g action) (found_none (λ h. nat_lt h (length agents)) (agents_of g action) is)) (slice_get agents g) refl
    by (Some h) is = any_found (λ n. nat_lt n (length agents)) (λ n. length agents ≤ n) (λ n past. ltb-false n (length agents) past) (agents_of g action) h is

  none_absent : HasReceivers agents g action → absent_agent (length agents) g action ≡ None
  none_absent all = none_found (λ h. nat_lt h (length agents)) (agents_of g action) (all_map (λ h. h < length agents) (λ h. nat_lt h (length agents) ≡ true) (λ h below. lt-ltb h (length agents) below) (agents_of g action) all)

  sends_back : (refusal : Option SendFault) → SendsSo agents g action refusal → send_refusal agents g action ≡ refusal
  sends_back None (all, (agent, here, sound)) = ap (λ o. refusal_of o (send_refusal_if_here (slice_get agents g))) (none_absent all) ∙ (ap send_refusal_if_here here ∙ ap (λ e. asked_to_send (is_some e)) sound)
  sends_back (Some send_faults.NoSuchAgent) any =
      let one = found_any (λ n. nat_lt n (length agents)) (λ n. length agents ≤ n) (λ n past. le-ltb n (length agents) past) (agents_of g action) any in
      ap (λ o. refusal_of o (send_refusal_if_here (slice_get agents g))) one.1
  sends_back (Some send_faults.Failed) (all, (agent, here, failed)) = ap (λ o. refusal_of o (send_refusal_if_here (slice_get agents g))) (none_absent all) ∙ (ap send_refusal_if_here here ∙ ap asked_to_send (has_error agent.error failed))
  sends_back (Some send_faults.Memory) never = absurd never

pub send_refusals : SendRefusals
send_refusals agents g action refusal = (λ so. subst (SendsSo agents g action) so (sends_so agents g action), sends_back agents g action refusal)
