-- What goes out at the end of a job.
use Rattle.std.proofs.Common.{◌≡◌, ℕ, ◌+◌, ◌==◌, ◌≤◌, cond, Bool, true, false, ◌⊎◌, inl, inr, List, [], ◌∷◌, ◌++◌, length, Option, None, Some, Result, Ok, Err, slice_get, refl, sym, ap, subst, ◌∙◌, arith}
use Rattle.std.specs.List.{AllByRecursion}
use Rattle.std.proofs.lemmas.Bool.{cases_eq, eq-eqb, ne_eqb}
use Rattle.ref_value.specs.Edn.{Edn}
use Rattle.ref_fun.specs.declared.carries.Carry.{Carry}
use Rattle.ref_agents.specs.Account.{AccountSeen, last_carries, number_of, with_ended, with_head_ended}
use Rattle.ref_agents.specs.Agents.{carried, carries_at, carries_if_here, change_agent, error_at, error_if_here, head_job, is_carrying_at, is_carrying_if_here, job_out, out_if_here, with_carries}
use Rattle.ref_agents.specs.Ends as ends
use Rattle.ref_agents.specs.Ends.{after_end, ending, has_carry}
use Rattle.ref_agents.specs.Jobs.{JobSeen}
use Rattle.ref_agents.specs.declared.accounts.Handled.{Handled}
use Rattle.ref_agents.specs.declared.accounts.Mark.{Mark}
use Rattle.ref_agents.specs.declared.accounts.Queued.{Queued}
use Rattle.ref_agents.specs.declared.accounts.SentBy.TheVariants.{Carried}
use Rattle.ref_agents.specs.declared.agents.Agent.{Agent}
use Rattle.ref_agents.specs.declared.agents.ErrorMode.{ErrorMode}
use Rattle.ref_agents.specs.declared.agents.ErrorMode.TheVariants.{Fail, Continue}
use Rattle.ref_agents.specs.declared.faults.AgentError.{AgentError}
use Rattle.ref_play.specs.Given.{queue_at, queue_if_here, those_to, without_first}
use Rattle.ref_play.specs.Runs.{AreCarried, IsWaiting, held_by, may_hold, sends_to}
use Rattle.ref_play.proofs.Carried.{all_append, carrying_sends, queue_sends, those_all, waits_on}
use Rattle.ref_play.proofs.Given.{put_elsewhere, seen_changed, seen_each}
use Rattle.ref_play.proofs.Held.{held_all, held_append, held_none, held_rest, sent_as}
use Rattle.ref_play.proofs.Receivers.{AreHere}

no_way : (b : Bool) → b ≡ true → b ≡ false → ⊥
no_way b is isnt = cc

-- ---- the first that waits, where it is on its way

record First (agents : List Agent) (g : ℕ) (job : JobSeen) : Type 0 where
  agent : Agent
  here : slice_get agents g ≡ Some agent
  first : Queued
  rest : List Queued
  queue : agent.account.queue ≡ first ∷ rest
  action : first.action ≡ job.action

first_out : (agents : List Agent) (g : ℕ) (job : JobSeen) → job_out agents g ≡ Some job → First agents g job
first_out agents g job is = by (slice_get agents g) refl is where
  by : (there : Option Agent) → slice_get agents g ≡ there → out_if_here g there ≡ Some job → First agents g job
  by None here is = absurd cc
  by (Some agent) here is = queued agent.is_out agent.account.queue refl is where
    queued : (b : Bool) (queue : List Queued) → agent.account.queue ≡ queue → cond b (head_job g agent queue) None ≡ Some job → First agents g job
    queued false queue waits is = absurd cc
    queued true [] waits is = absurd cc
    queued true (q ∷ qs) waits is =
        let same : job ≡ record { agent = g; number = number_of agent.account; action = q.action; state = agent.value } = cc in
        record { agent = agent; here = here; first = q; rest = qs; queue = waits; action = sym (ap (λ (j : JobSeen). j.action) same) }

-- ---- an agent whose first action ended

pub last_push : (hs : List Handled) (h : Handled) → last_carries (hs ++ h ∷ []) ≡ h.action.carries
last_push [] h = refl
last_push (x ∷ []) h = refl
last_push (x ∷ y ∷ hs) h = last_push (y ∷ hs) h

queue_head : (account : AccountSeen) (mark : Mark) (queue : List Queued) → account.queue ≡ queue → (with_head_ended account mark queue).queue ≡ without_first account.queue
queue_head account mark [] is = is ∙ sym (ap without_first is)
queue_head account mark (q ∷ qs) is = sym (ap without_first is)

carries_head : (account : AccountSeen) (mark : Mark) (first : Queued) (rest : List Queued) → account.queue ≡ first ∷ rest → last_carries (with_ended account mark).handled ≡ first.action.carries
carries_head account mark first rest is =
    ap (λ l. last_carries (with_head_ended account mark l).handled) is ∙ last_push account.handled (record { action = first.action; mark = mark })

queue_ended : (mode : ErrorMode) (judgement : Result Edn AgentError) (cs : List Carry) (agent : Agent) → (after_end mode judgement cs agent).account.queue ≡ without_first agent.account.queue
queue_ended mode (Ok v) cs agent = queue_head agent.account _ agent.account.queue refl
queue_ended Fail (Err error) cs agent = queue_head agent.account _ agent.account.queue refl
queue_ended Continue (Err error) cs agent = queue_head agent.account _ agent.account.queue refl

carries_ended : (mode : ErrorMode) (judgement : Result Edn AgentError) (cs : List Carry) (agent : Agent) (first : Queued) (rest : List Queued) → agent.account.queue ≡ first ∷ rest → last_carries (after_end mode judgement cs agent).account.handled ≡ first.action.carries
carries_ended mode (Ok v) cs agent first rest is = carries_head agent.account _ first rest is
carries_ended Fail (Err error) cs agent first rest is = carries_head agent.account _ first rest is
carries_ended Continue (Err error) cs agent first rest is = carries_head agent.account _ first rest is

carrying_ended : (mode : ErrorMode) (judgement : Result Edn AgentError) (cs : List Carry) (agent : Agent) → agent.is_carrying ≡ false → (after_end mode judgement cs agent).is_carrying ≡ has_carry (ends.goes_out judgement cs)
carrying_ended mode (Ok v) cs agent idle = refl
carrying_ended Fail (Err error) cs agent idle = idle
carrying_ended Continue (Err error) cs agent idle = idle

pub out_here : (judgement : Result Edn AgentError) (n : ℕ) (cs : List Carry) → AreHere n cs → AreHere n (ends.goes_out judgement cs)
out_here (Ok v) n cs here = here
out_here (Err error) n cs here = tt

all_rest : (P : Queued → Type 0) (qs : List Queued) → AllByRecursion P qs → AllByRecursion P (without_first qs)
all_rest P [] all = tt
all_rest P (q ∷ qs) all = all.1

module _ (agents : List Agent) (job : JobSeen) (judgement : Result Edn AgentError) (out : job_out agents job.agent ≡ Some job) (idle : is_carrying_at agents job.agent ≡ false) (here : AreHere (length agents) job.action.carries) where
  abbrev pub sent_out : List Agent
  sent_out = with_carries job.agent (ends.goes_out judgement job.action.carries) agents

  abbrev pub finished : List Agent
  finished = change_agent (with_carries job.agent (ends.goes_out judgement job.action.carries) agents) job.agent (ending judgement job.action.carries)

  module _ (still : job_out (with_carries job.agent (ends.goes_out judgement job.action.carries) agents) job.agent ≡ Some job) where
    went : (g : ℕ) → queue_at sent_out g ≡ queue_at agents g ++ those_to (λ c. c.g) (λ c. record { action = carried c; by = Carried job.agent }) g (ends.goes_out judgement job.action.carries)
    went g = queue_sends (λ c. c.g) carried (Carried job.agent) (ends.goes_out judgement job.action.carries) agents g (out_here judgement (length agents) job.action.carries here)

    pub queue_finish : (g : ℕ) → queue_at finished g ≡ cond (job.agent == g) (without_first (queue_at agents g)) (queue_at agents g)
        ++ those_to (λ c. c.g) (λ c. record { action = carried c; by = Carried job.agent }) g (ends.goes_out judgement job.action.carries)
    queue_finish g =
        let f = first_out agents job.agent job out in
        let o = first_out sent_out job.agent job still in
        let added = those_to (λ c. c.g) (λ c. record { action = carried c; by = Carried job.agent }) g (ends.goes_out judgement job.action.carries) in
        seen_changed queue_if_here sent_out job.agent g (ending judgement job.action.carries) o.agent o.here ∙ by f o added (cases_eq job.agent g) where
          rest : (q : Queued) (qs queue added : List Queued) → queue ≡ q ∷ qs → without_first (queue ++ added) ≡ without_first queue ++ added
          rest q qs queue added is = ap (λ l. without_first (l ++ added)) is ∙ sym (ap (λ l. without_first l ++ added) is)

          by : (f : First agents job.agent job) (o : First sent_out job.agent job) (added : List Queued) → (job.agent ≡ g) ⊎ (job.agent ≡ g → ⊥)
              → cond (job.agent == g) (ending judgement job.action.carries o.agent).account.queue (queue_at sent_out g) ≡ cond (job.agent == g) (without_first (queue_at agents g)) (queue_at agents g)
              ++ those_to (λ c. c.g) (λ c. record { action = carried c; by = Carried job.agent }) g (ends.goes_out judgement job.action.carries)
          by f o added (inl same) = rw (eq-eqb job.agent g same)
              (queue_ended o.agent.mode judgement job.action.carries o.agent
              ∙ (ap without_first (sym (ap queue_if_here o.here) ∙ (ap (queue_at sent_out) same ∙ went g))
              ∙ rest f.first f.rest (queue_at agents g) _ (ap (queue_at agents) (sym same) ∙ (ap queue_if_here f.here ∙ f.queue))))
          by f o added (inr other) = rw (ne_eqb job.agent g other) (went g)

    is_idle : First sent_out job.agent job → is_carrying_at sent_out job.agent ≡ false
    is_idle o = carrying_sends (λ c. c.g) carried (Carried job.agent) (ends.goes_out judgement job.action.carries) agents job.agent ∙ idle

    pub carrying_finish : (g : ℕ) → is_carrying_at finished g ≡ cond (job.agent == g) (has_carry (ends.goes_out judgement job.action.carries)) (is_carrying_at agents g)
    carrying_finish g =
        let o = first_out sent_out job.agent job still in
        seen_changed is_carrying_if_here sent_out job.agent g (ending judgement job.action.carries) o.agent o.here
        ∙ (ap (λ b. cond (job.agent == g) b (is_carrying_at sent_out g)) (carrying_ended o.agent.mode judgement job.action.carries o.agent (sym (ap is_carrying_if_here o.here) ∙ is_idle o))
        ∙ ap (cond (job.agent == g) (has_carry (ends.goes_out judgement job.action.carries))) (carrying_sends (λ c. c.g) carried (Carried job.agent) (ends.goes_out judgement job.action.carries) agents g))

    carrying_own : is_carrying_at finished job.agent ≡ has_carry (ends.goes_out judgement job.action.carries)
    carrying_own = carrying_finish job.agent ∙ ap (λ b. cond b (has_carry (ends.goes_out judgement job.action.carries)) (is_carrying_at agents job.agent)) (eq-eqb job.agent job.agent refl)

    carrying_other : (g : ℕ) → (job.agent ≡ g → ⊥) → is_carrying_at finished g ≡ is_carrying_at agents g
    carrying_other g other = carrying_finish g ∙ ap (λ b. cond b (has_carry (ends.goes_out judgement job.action.carries)) (is_carrying_at agents g)) (ne_eqb job.agent g other)

    carries_own : carries_at finished job.agent ≡ job.action.carries
    carries_own =
        let o = first_out sent_out job.agent job still in
        seen_changed carries_if_here sent_out job.agent job.agent (ending judgement job.action.carries) o.agent o.here
        ∙ (ap (λ b. cond b (carries_if_here (Some (ending judgement job.action.carries o.agent))) (carries_at sent_out job.agent)) (eq-eqb job.agent job.agent refl)
        ∙ (carries_ended o.agent.mode judgement job.action.carries o.agent o.first o.rest o.queue ∙ ap (λ a. a.carries) o.action))

    carries_other : (g : ℕ) → (job.agent ≡ g → ⊥) → carries_at finished g ≡ carries_at agents g
    carries_other g other =
        ap carries_if_here (put_elsewhere sent_out job.agent g (ending judgement job.action.carries) (slice_get sent_out job.agent) other)
        ∙ seen_each carries_if_here (λ c. c.g) carried (Carried job.agent) (λ q agent. refl) (ends.goes_out judgement job.action.carries) agents g

    error_other : (g : ℕ) → (job.agent ≡ g → ⊥) → error_at finished g ≡ error_at agents g
    error_other g other =
        ap error_if_here (put_elsewhere sent_out job.agent g (ending judgement job.action.carries) (slice_get sent_out job.agent) other)
        ∙ seen_each error_if_here (λ c. c.g) carried (Carried job.agent) (λ q agent. refl) (ends.goes_out judgement job.action.carries) agents g

    error_own : (v : Edn) → judgement ≡ Ok v → error_at finished job.agent ≡ None
    error_own v is =
        let o = first_out sent_out job.agent job still in
        seen_changed error_if_here sent_out job.agent job.agent (ending judgement job.action.carries) o.agent o.here
        ∙ (ap (λ b. cond b (error_if_here (Some (ending judgement job.action.carries o.agent))) (error_at sent_out job.agent)) (eq-eqb job.agent job.agent refl)
        ∙ ap (λ j. (after_end o.agent.mode j job.action.carries o.agent).error) is)

    pub carried_finish : length agents ≤ length finished → AreCarried agents → AreCarried finished
    carried_finish count are = record {
      waits = λ g. subst (AllByRecursion (IsWaiting finished)) (sym (queue_finish g))
          (all_append (IsWaiting finished) (cond (job.agent == g) (without_first (queue_at agents g)) (queue_at agents g)) (those_to (λ c. c.g) (sent_as carried (Carried job.agent)) g (ends.goes_out judgement job.action.carries))
          (old g (job.agent == g)) (those_all (IsWaiting finished) (λ c. c.g) (sent_as carried (Carried job.agent)) g (ends.goes_out judgement job.action.carries) (each g (ends.goes_out judgement job.action.carries))));
      holds = λ h g.
          let before = cond (job.agent == g) (without_first (queue_at agents g)) (queue_at agents g) in
          let out = those_to (λ c. c.g) (sent_as carried (Carried job.agent)) g (ends.goes_out judgement job.action.carries) in
          let is : held_by h (queue_at finished g) ≡ held_by h before + held_by h out = ap (held_by h) (queue_finish g) ∙ held_append h before out in
          omega (arith, is, fewer h g (job.agent == g), are.holds h g, more h g (cases_eq job.agent h));
      sound = λ g is. sound g is (cases_eq job.agent g);
    } where
      old : (g : ℕ) (b : Bool) → AllByRecursion (IsWaiting finished) (cond b (without_first (queue_at agents g)) (queue_at agents g))
      old g true = all_rest (IsWaiting finished) (queue_at agents g) (waits_on agents finished count (queue_at agents g) (are.waits g))
      old g false = waits_on agents finished count (queue_at agents g) (are.waits g)

      -- it carries nothing itself
      each : (g : ℕ) (cs : List Carry) → AllByRecursion (λ c. (c.g == g) ≡ true → IsWaiting finished (sent_as carried (Carried job.agent) c)) cs
      each g [] = tt
      each g (c ∷ cs) = ((λ is. tt), each g cs)

      fewer : (h g : ℕ) (b : Bool) → held_by h (cond b (without_first (queue_at agents g)) (queue_at agents g)) ≤ held_by h (queue_at agents g)
      fewer h g true = held_rest h (queue_at agents g)
      fewer h g false = omega arith

      -- its agent held nothing before, and holds now what went out
      own : (g : ℕ) (j : Result Edn AgentError) → is_carrying_at finished job.agent ≡ has_carry (ends.goes_out j job.action.carries)
          → held_by job.agent (those_to (λ c. c.g) (sent_as carried (Carried job.agent)) g (ends.goes_out j job.action.carries)) ≤ may_hold finished job.agent g
      own g (Err error) is = omega arith
      own g (Ok v) is = some job.action.carries carries_own is where
        some : (cs : List Carry) → carries_at finished job.agent ≡ cs → is_carrying_at finished job.agent ≡ has_carry cs
            → held_by job.agent (those_to (λ c. c.g) (sent_as carried (Carried job.agent)) g cs) ≤ may_hold finished job.agent g
        some [] carries is = omega arith
        some (c ∷ cs) carries is =
            let may : may_hold finished job.agent g ≡ sends_to (c ∷ cs) g = ap (λ b. cond b (sends_to (carries_at finished job.agent) g) 0) is ∙ ap (λ l. sends_to l g) carries in
            omega (arith, may, held_all job.agent g (c ∷ cs))

      nothing : may_hold agents job.agent ≡ (λ g. 0)
      nothing = ap (λ b. λ (g : ℕ). cond b (sends_to (carries_at agents job.agent) g) 0) idle

      more : (h g : ℕ) → (job.agent ≡ h) ⊎ (job.agent ≡ h → ⊥)
          → may_hold agents h g + held_by h (those_to (λ c. c.g) (sent_as carried (Carried job.agent)) g (ends.goes_out judgement job.action.carries)) ≤ may_hold finished h g
      more h g (inl same) = subst (λ n. may_hold agents n g + held_by n (those_to (λ c. c.g) (sent_as carried (Carried job.agent)) g (ends.goes_out judgement job.action.carries)) ≤ may_hold finished n g) same
          (omega (arith, ap (λ f. f g) nothing, own g judgement carrying_own))
      more h g (inr other) =
          let may : may_hold finished h g ≡ may_hold agents h g = ap (λ b. cond b (sends_to (carries_at finished h) g) 0) (carrying_other h other) ∙ ap (λ l. cond (is_carrying_at agents h) (sends_to l g) 0) (carries_other h other) in
          omega (arith, may, held_none h (λ (c : Carry). c.g) carried (Carried job.agent) (ne_eqb job.agent h other) g (ends.goes_out judgement job.action.carries))

      sound : (g : ℕ) → is_carrying_at finished g ≡ true → (job.agent ≡ g) ⊎ (job.agent ≡ g → ⊥) → error_at finished g ≡ None
      sound g is (inr other) = error_other g other ∙ are.sound g (sym (carrying_other g other) ∙ is)
      sound g is (inl same) = ap (error_at finished) (sym same) ∙ kept judgement refl where
        kept : (j : Result Edn AgentError) → judgement ≡ j → error_at finished job.agent ≡ None
        kept (Ok v) says = error_own v says
        kept (Err error) says = absurd (no_way (is_carrying_at finished g) is (ap (is_carrying_at finished) (sym same) ∙ (carrying_own ∙ ap (λ j. has_carry (ends.goes_out j job.action.carries)) says)))
