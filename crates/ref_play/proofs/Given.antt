-- What each call on agents leaves of what they were given.
use Rattle.std.proofs.Common.{◌≡◌, ℕ, zero, suc, ◌==◌, ◌<◌, cond, Bool, true, false, ◌⊎◌, inl, inr, List, [], ◌∷◌, ◌++◌, length, map, Option, None, Some, Result, Ok, Err, slice_get, slice_set, refl, sym, ap, subst, ◌∙◌, arith}
use Rattle.std.specs.List.{AllByRecursion}
use Rattle.std.proofs.lemmas.Bool.{cases_eq, eq-eqb, ne_eqb}
use Rattle.std.proofs.lemmas.List.{append_assoc, append-nil, length-set, map_push}
use Rattle.std.proofs.lemmas.Option.{slice_get_within}
use Rattle.ref_value.specs.Edn.{Edn}
use Rattle.ref_fun.specs.declared.actions.Action.{Action}
use Rattle.ref_fun.specs.declared.carries.Carry.{Carry}
use Rattle.ref_agents.specs.Account.{AccountSeen, has_carried, kept_queue, last_released, released, with_head_ended}
use Rattle.ref_agents.specs.Agents.{AgentsSeen, change_agent, head_job, is_carrying_at, job_out, moded, out_if_here, outed, put_agent, queuing, releasing, revived, with_carried_released, with_each, with_each_released, with_send}
use Rattle.ref_agents.specs.Agents as agents_in
use Rattle.ref_agents.specs.Ends.{after_end, ending}
use Rattle.ref_agents.specs.declared.accounts.Handled.{Handled}
use Rattle.ref_agents.specs.declared.accounts.Mark.{Mark}
use Rattle.ref_agents.specs.declared.accounts.Queued.{Queued}
use Rattle.ref_agents.specs.declared.accounts.SentBy.{SentBy}
use Rattle.ref_agents.specs.declared.agents.Agent.{Agent}
use Rattle.ref_agents.specs.declared.agents.ErrorMode.{ErrorMode}
use Rattle.ref_agents.specs.declared.agents.ErrorMode.TheVariants.{Fail, Continue}
use Rattle.ref_agents.specs.declared.faults.AgentError.{AgentError}
use Rattle.ref_agents.specs.Jobs.{JobSeen}
use Rattle.ref_play.specs.Given.{given, given_at, given_if_here, handled_at, handled_if_here, queue_if_here, those_to, waiting, waiting_at}

pub set-here : {X : Type 0} (xs : List X) (i : ℕ) (v : X) → i < length xs → slice_get (slice_set xs i v) i ≡ Some v
set-here [] i v below = absurd (omega (arith, below))
set-here (x ∷ xs) zero v below = refl
set-here (x ∷ xs) (suc i) v below = set-here xs i v (omega (arith, below))

set-other : {X : Type 0} (xs : List X) (i r : ℕ) (v : X) → (i ≡ r → ⊥) → slice_get (slice_set xs i v) r ≡ slice_get xs r
set-other [] i r v other = refl
set-other (x ∷ xs) zero zero v other = absurd (other refl)
set-other (x ∷ xs) zero (suc r) v other = refl
set-other (x ∷ xs) (suc i) zero v other = refl
set-other (x ∷ xs) (suc i) (suc r) v other = set-other xs i r v (λ same. other (ap suc same))

-- ---- an agent that is changed

pub put_elsewhere : (agents : List Agent) (g h : ℕ) (f : Agent → Agent) (there : Option Agent) → (g ≡ h → ⊥) → slice_get (put_agent agents g f there) h ≡ slice_get agents h
put_elsewhere agents g h f None other = refl
put_elsewhere agents g h f (Some agent) other = set-other agents g h (f agent) other

pub given_elsewhere : (agents : List Agent) (g h : ℕ) (f : Agent → Agent) → (g ≡ h → ⊥) → given_at (change_agent agents g f) h ≡ given_at agents h
given_elsewhere agents g h f other = ap given_if_here (put_elsewhere agents g h f (slice_get agents g) other)

put_here : (agents : List Agent) (g : ℕ) (f : Agent → Agent) (there : Option Agent) (agent : Agent) → slice_get agents g ≡ Some agent → there ≡ Some agent → slice_get (put_agent agents g f there) g ≡ Some (f agent)
put_here agents g f there agent here is = ap (λ o. slice_get (put_agent agents g f o) g) is ∙ set-here agents g (f agent) (slice_get_within agents g agent here)

pub given_here : (agents : List Agent) (g : ℕ) (f : Agent → Agent) (agent : Agent) → slice_get agents g ≡ Some agent → given_at (change_agent agents g f) g ≡ given (f agent).account
given_here agents g f agent here = ap given_if_here (put_here agents g f (slice_get agents g) agent here here)

-- what is seen of an agent, where it is the same of one that is changed
pub seen_same : {X : Type 0} (see : Option Agent → X) (agents : List Agent) (g h : ℕ) (f : Agent → Agent) → ((agent : Agent) → slice_get agents g ≡ Some agent → see (Some (f agent)) ≡ see (Some agent)) → see (slice_get (change_agent agents g f) h) ≡ see (slice_get agents h)
seen_same see agents g h f same = by (cases_eq g h) where
  none : (there : Option Agent) → slice_get agents g ≡ there → see (slice_get (change_agent agents g f) g) ≡ see (slice_get agents g)
  none None is = ap (λ o. see (slice_get (put_agent agents g f o) g)) is
  none (Some agent) is = ap see (put_here agents g f (slice_get agents g) agent is is) ∙ (same agent is ∙ ap see (sym is))

  by : (g ≡ h) ⊎ (g ≡ h → ⊥) → see (slice_get (change_agent agents g f) h) ≡ see (slice_get agents h)
  by (inl eq) = ap (λ n. see (slice_get (change_agent agents g f) n)) (sym eq) ∙ (none (slice_get agents g) refl ∙ ap (λ n. see (slice_get agents n)) eq)
  by (inr other) = ap see (put_elsewhere agents g h f (slice_get agents g) other)

-- what is seen of an agent that is changed, and of all others
pub seen_changed : {X : Type 0} (see : Option Agent → X) (agents : List Agent) (g h : ℕ) (f : Agent → Agent) (agent : Agent) → slice_get agents g ≡ Some agent
    → see (slice_get (change_agent agents g f) h) ≡ cond (g == h) (see (Some (f agent))) (see (slice_get agents h))
seen_changed see agents g h f agent here = by (cases_eq g h) where
  by : (g ≡ h) ⊎ (g ≡ h → ⊥) → see (slice_get (change_agent agents g f) h) ≡ cond (g == h) (see (Some (f agent))) (see (slice_get agents h))
  by (inl same) = rw (eq-eqb g h same) (ap (λ n. see (slice_get (change_agent agents g f) n)) (sym same) ∙ ap see (put_here agents g f (slice_get agents g) agent here here))
  by (inr other) = rw (ne_eqb g h other) (ap see (put_elsewhere agents g h f (slice_get agents g) other))

-- one that was given the same
pub given_same : (agents : List Agent) (g h : ℕ) (f : Agent → Agent) → ((agent : Agent) → given (f agent).account ≡ given agent.account) → given_at (change_agent agents g f) h ≡ given_at agents h
given_same agents g h f same = by (cases_eq g h) where
  none : (there : Option Agent) → slice_get agents g ≡ there → given_at (change_agent agents g f) g ≡ given_at agents g
  none None is = ap (λ o. given_at (put_agent agents g f o) g) is
  none (Some agent) is = given_here agents g f agent is ∙ (same agent ∙ ap given_if_here (sym is))

  by : (g ≡ h) ⊎ (g ≡ h → ⊥) → given_at (change_agent agents g f) h ≡ given_at agents h
  by (inl eq) = ap (given_at (change_agent agents g f)) (sym eq) ∙ (none (slice_get agents g) refl ∙ ap (given_at agents) eq)
  by (inr other) = given_elsewhere agents g h f other

-- ---- take and put back, and the mode

pub given_out : (agents : List Agent) (g h : ℕ) (is_out : Bool) → given_at (change_agent agents g (outed is_out)) h ≡ given_at agents h
given_out agents g h is_out = given_same agents g h (outed is_out) (λ agent. refl)

pub given_mode : (agents : List Agent) (g h : ℕ) (mode : ErrorMode) → given_at (change_agent agents g (moded mode)) h ≡ given_at agents h
given_mode agents g h mode = given_same agents g h (moded mode) (λ agent. refl)

-- ---- finish: the head moves to the end of the handled ones

head_ended : (account : AccountSeen) (mark : Mark) (queue : List Queued) → account.queue ≡ queue → given (with_head_ended account mark queue) ≡ given account
head_ended account mark [] is = refl
head_ended account mark (q ∷ qs) is =
    let hs = map (λ (h : Handled). h.action) account.handled in
    ap (λ l. l ++ waiting qs) (map_push (λ (h : Handled). h.action) account.handled (record { action = q.action; mark = mark }))
    ∙ (append_assoc hs (q.action ∷ []) (waiting qs) ∙ ap (λ l. hs ++ waiting l) (sym is))

end_same : (mode : ErrorMode) (judgement : Result Edn AgentError) (cs : List Carry) (agent : Agent) → given (after_end mode judgement cs agent).account ≡ given agent.account
end_same mode (Ok v) cs agent = head_ended agent.account _ agent.account.queue refl
end_same Fail (Err error) cs agent = head_ended agent.account _ agent.account.queue refl
end_same Continue (Err error) cs agent = head_ended agent.account _ agent.account.queue refl

pub given_finish : (agents : List Agent) (g h : ℕ) (judgement : Result Edn AgentError) (cs : List Carry) → given_at (change_agent agents g (ending judgement cs)) h ≡ given_at agents h
given_finish agents g h judgement cs = given_same agents g h (ending judgement cs) (λ agent. end_same agent.mode judgement cs agent)

-- ---- restart: what waits is counted first

pub given_restart : (agents : List Agent) (g : ℕ) (state : Edn) (clear : Bool) (agent : Agent) → slice_get agents g ≡ Some agent → given_at (change_agent agents g (revived state clear)) g ≡ waiting (kept_queue clear agent.account.queue)
given_restart agents g state clear agent here = given_here agents g (revived state clear) agent here

-- ---- sends

queued_more : (queued : Queued) (agent : Agent) → given (queuing queued agent).account ≡ given agent.account ++ queued.action ∷ []
queued_more queued agent =
    let hs = map (λ (h : Handled). h.action) agent.account.handled in
    ap (λ l. hs ++ l) (map_push (λ (q : Queued). q.action) agent.account.queue queued)
    ∙ sym (append_assoc hs (waiting agent.account.queue) (queued.action ∷ []))

send_length : (agents : List Agent) (g : ℕ) (f : Agent → Agent) (there : Option Agent) → length (put_agent agents g f there) ≡ length agents
send_length agents g f None = refl
send_length agents g f (Some agent) = length-set agents g (f agent)

pub each-length : {X : Type 0} (to : X → ℕ) (of : X → Action) (by : SentBy) (xs : List X) (agents : List Agent) → length (with_each to of by xs agents) ≡ length agents
each-length to of by [] agents = refl
each-length to of by (x ∷ xs) agents =
    each-length to of by xs (with_send agents (to x) (record { action = of x; by = by }))
    ∙ send_length agents (to x) (queuing (record { action = of x; by = by })) (slice_get agents (to x))

-- what is seen of an agent, to which whatever is sent adds what is seen of it
module _ {Y : Type 0} (see : Option Agent → List Y) (one : Queued → Y) (more : (q : Queued) (agent : Agent) → see (Some (queuing q agent)) ≡ see (Some agent) ++ one q ∷ []) where
  see_here : (agents : List Agent) (g : ℕ) (q : Queued) → g < length agents → see (slice_get (with_send agents g q) g) ≡ see (slice_get agents g) ++ one q ∷ []
  see_here agents g q below = by (slice_get agents g) refl where
    by : (there : Option Agent) → slice_get agents g ≡ there → see (slice_get (with_send agents g q) g) ≡ see (slice_get agents g) ++ one q ∷ []
    by None is = absurd (past agents g below is) where
      past : (xs : List Agent) (i : ℕ) → i < length xs → slice_get xs i ≡ None → ⊥
      past [] i below is = omega (arith, below)
      past (x ∷ xs) zero below is = cc
      past (x ∷ xs) (suc i) below is = past xs i (omega (arith, below)) is
    by (Some agent) is = ap see (put_here agents g (queuing q) (slice_get agents g) agent is is) ∙ (more q agent ∙ ap (λ o. see o ++ one q ∷ []) (sym is))

  pub see_send : (agents : List Agent) (h g : ℕ) (q : Queued) → h < length agents → see (slice_get (with_send agents h q) g) ≡ see (slice_get agents g) ++ cond (h == g) (one q ∷ []) []
  see_send agents h g q below = by (cases_eq h g) where
    by : (h ≡ g) ⊎ (h ≡ g → ⊥) → see (slice_get (with_send agents h q) g) ≡ see (slice_get agents g) ++ cond (h == g) (one q ∷ []) []
    by (inl same) = rw (eq-eqb h g same) (subst (λ n. see (slice_get (with_send agents h q) n) ≡ see (slice_get agents n) ++ one q ∷ []) same (see_here agents h q below))
    by (inr other) = rw (ne_eqb h g other) (ap see (put_elsewhere agents h g (queuing q) (slice_get agents h) other) ∙ sym (append-nil (see (slice_get agents g))))

  pub see_each : {X : Type 0} (to : X → ℕ) (of : X → Action) (by : SentBy) (xs : List X) (agents : List Agent) (g : ℕ) → AllByRecursion (λ x. to x < length agents) xs
      → see (slice_get (with_each to of by xs agents) g) ≡ see (slice_get agents g) ++ those_to to (λ x. one (record { action = of x; by = by })) g xs
  see_each to of by [] agents g below = sym (append-nil (see (slice_get agents g)))
  see_each {X} to of by (x ∷ xs) agents g below =
      let q : Queued = record { action = of x; by = by } in
      let rest = those_to to (λ y. one (record { action = of y; by = by })) g xs in
      see_each to of by xs (with_send agents (to x) q) g (still q xs below.1)
      ∙ (ap (λ l. l ++ rest) (see_send agents (to x) g q below.0)
      ∙ (append_assoc (see (slice_get agents g)) (cond (to x == g) (one q ∷ []) []) rest
      ∙ ap (λ l. see (slice_get agents g) ++ l) (joined (to x == g) (one q) rest))) where
        still : (q : Queued) (ys : List X) → AllByRecursion (λ y. to y < length agents) ys → AllByRecursion (λ y. to y < length (with_send agents (to x) q)) ys
        still q [] all = tt
        still q (y ∷ ys) all = (omega (arith, all.0, send_length agents (to x) (queuing q) (slice_get agents (to x))), still q ys all.1)

        joined : (b : Bool) (y : Y) (rest : List Y) → cond b (y ∷ []) [] ++ rest ≡ cond b (y ∷ rest) rest
        joined true y rest = refl
        joined false y rest = refl

-- what is seen of an agent, where it is the same of one to which something is sent
pub seen_each : {X Y : Type 0} (see : Option Agent → Y) (to : X → ℕ) (of : X → Action) (by : SentBy) → ((q : Queued) (agent : Agent) → see (Some (queuing q agent)) ≡ see (Some agent)) → (xs : List X) (agents : List Agent) (g : ℕ)
    → see (slice_get (with_each to of by xs agents) g) ≡ see (slice_get agents g)
seen_each see to of by same [] agents g = refl
seen_each see to of by same (x ∷ xs) agents g =
    seen_each see to of by same xs (with_send agents (to x) (record { action = of x; by = by })) g
    ∙ seen_same see agents (to x) g (queuing (record { action = of x; by = by })) (λ agent here. same (record { action = of x; by = by }) agent)

-- what is seen of an agent, where it is the same of one for which something is released
pub seen_released : {Y : Type 0} (see : Option Agent → Y) (h : ℕ) → ((agent : Agent) → see (Some (releasing h agent)) ≡ see (Some agent)) → (cs : List Carry) (agents : List Agent) (g : ℕ)
    → see (slice_get (with_each_released h cs agents) g) ≡ see (slice_get agents g)
seen_released see h same [] agents g = refl
seen_released see h same (c ∷ cs) agents g =
    seen_released see h same cs (change_agent agents c.g (releasing h)) g
    ∙ seen_same see agents c.g g (releasing h) (λ agent here. same agent)

-- and that has nothing to be released any more
pub seen_freed : {Y : Type 0} (see : Option Agent → Y) (store : AgentsSeen) (h g : ℕ) → ((agent : Agent) → see (Some (releasing h agent)) ≡ see (Some agent)) → ((agent : Agent) → see (Some (agents_in.carrying false agent)) ≡ see (Some agent))
    → see (slice_get (with_carried_released store h).agents g) ≡ see (slice_get store.agents g)
seen_freed see store h g same fixed = by (is_carrying_at store.agents h) where
  by : (b : Bool) → see (slice_get (cond b (agents_in.with_agents store (change_agent (with_each_released h (agents_in.carries_at store.agents h) store.agents) h (agents_in.carrying false))) store).agents g) ≡ see (slice_get store.agents g)
  by true = seen_same see (with_each_released h (agents_in.carries_at store.agents h) store.agents) h g (agents_in.carrying false) (λ agent here. fixed agent)
      ∙ seen_released see h same (agents_in.carries_at store.agents h) store.agents g
  by false = refl

released_waiting : (h : ℕ) (queue : List Queued) → waiting (last_released h queue) ≡ waiting queue
released_waiting h [] = refl
released_waiting h (q ∷ qs) = at (released_waiting h qs) (has_carried h qs) where
  at : waiting (last_released h qs) ≡ waiting qs → (b : Bool) → waiting (cond b (q ∷ last_released h qs) (released h q ∷ qs)) ≡ q.action ∷ waiting qs
  at rest true = ap (λ l. q.action ∷ l) rest
  at rest false = refl

pub given_freed : (store : AgentsSeen) (h g : ℕ) → given_at (with_carried_released store h).agents g ≡ given_at store.agents g
given_freed store h g = seen_freed given_if_here store h g (λ agent. ap (λ l. map (λ (x : Handled). x.action) agent.account.handled ++ l) (released_waiting h agent.account.queue)) (λ agent. refl)

pub given_sends : {X : Type 0} (to : X → ℕ) (of : X → Action) (by : SentBy) (xs : List X) (agents : List Agent) (g : ℕ) → AllByRecursion (λ x. to x < length agents) xs
    → given_at (with_each to of by xs agents) g ≡ given_at agents g ++ those_to to of g xs
given_sends to of by xs agents g below = see_each given_if_here (λ q. q.action) queued_more to of by xs agents g below

-- outside of a transaction
pub given_outside : (agents : List Agent) (h g : ℕ) (queued : Queued) → h < length agents → given_at (with_send agents h queued) g ≡ given_at agents g ++ cond (h == g) (queued.action ∷ []) []
given_outside agents h g queued below = see_send given_if_here (λ q. q.action) queued_more agents h g queued below

-- one agent more, which was given nothing
pub see_more : {X : Type 0} (see : Option Agent → X) (more : Agent) → see (Some more) ≡ see None → (agents : List Agent) (g : ℕ) → see (slice_get (agents ++ more ∷ []) g) ≡ see (slice_get agents g)
see_more see more none [] zero = none
see_more see more none [] (suc g) = refl
see_more see more none (x ∷ xs) zero = refl
see_more see more none (x ∷ xs) (suc g) = see_more see more none xs g

pub given_made : (agents : List Agent) (more : Agent) (g : ℕ) → given more.account ≡ [] → given_at (agents ++ more ∷ []) g ≡ given_at agents g
given_made agents more g none = see_more given_if_here more none agents g

kept_waiting : (clear : Bool) (there : Option Agent) (agent : Agent) → there ≡ Some agent → waiting (kept_queue clear agent.account.queue) ≡ cond clear [] (waiting (queue_if_here there))
kept_waiting true there agent is = refl
kept_waiting false there agent is = ap (λ o. waiting (queue_if_here o)) (sym is)

pub given_restarted : (agents : List Agent) (h g : ℕ) (state : Edn) (clear : Bool) (agent : Agent) → slice_get agents h ≡ Some agent → given_at (change_agent agents h (revived state clear)) g ≡ cond (h == g) (cond clear [] (waiting_at agents g)) (given_at agents g)
given_restarted agents h g state clear agent here = by (cases_eq h g) where
  by : (h ≡ g) ⊎ (h ≡ g → ⊥) → given_at (change_agent agents h (revived state clear)) g ≡ cond (h == g) (cond clear [] (waiting_at agents g)) (given_at agents g)
  by (inl same) = rw (eq-eqb h g same) (subst (λ n. given_at (change_agent agents h (revived state clear)) n ≡ cond clear [] (waiting_at agents n)) same (given_restart agents h state clear agent here ∙ kept_waiting clear (slice_get agents h) agent here))
  by (inr other) = rw (ne_eqb h g other) (given_elsewhere agents h g (revived state clear) other)

-- ---- what they handled

pub handled_same : (agents : List Agent) (g h : ℕ) (f : Agent → Agent) → ((agent : Agent) → handled_if_here (Some (f agent)) ≡ handled_if_here (Some agent)) → handled_at (change_agent agents g f) h ≡ handled_at agents h
handled_same agents g h f same = seen_same handled_if_here agents g h f (λ agent here. same agent)

pub handled_sends : {X : Type 0} (to : X → ℕ) (of : X → Action) (by : SentBy) (xs : List X) (agents : List Agent) (g : ℕ) → handled_at (with_each to of by xs agents) g ≡ handled_at agents g
handled_sends to of by xs agents g = seen_each handled_if_here to of by (λ q agent. refl) xs agents g

pub handled_made : (agents : List Agent) (more : Agent) (g : ℕ) → more.account.handled ≡ [] → handled_at (agents ++ more ∷ []) g ≡ handled_at agents g
handled_made agents more g none = see_more handled_if_here more (ap (λ l. map (λ (h : Handled). h.action) l) none) agents g

pub handled_restarted : (agents : List Agent) (h g : ℕ) (state : Edn) (clear : Bool) (agent : Agent) → slice_get agents h ≡ Some agent → handled_at (change_agent agents h (revived state clear)) g ≡ cond (h == g) [] (handled_at agents g)
handled_restarted agents h g state clear agent here = by (cases_eq h g) where
  by : (h ≡ g) ⊎ (h ≡ g → ⊥) → handled_at (change_agent agents h (revived state clear)) g ≡ cond (h == g) [] (handled_at agents g)
  by (inl same) = rw (eq-eqb h g same) (subst (λ n. handled_at (change_agent agents h (revived state clear)) n ≡ []) same (ap handled_if_here (put_here agents h (revived state clear) (slice_get agents h) agent here here)))
  by (inr other) = rw (ne_eqb h g other) (ap handled_if_here (put_elsewhere agents h g (revived state clear) (slice_get agents h) other))

action_or : Action → Option JobSeen → Action
action_or action None = action
action_or action (Some job) = job.action

handled_head : (account : AccountSeen) (mark : Mark) (queue : List Queued) (g : ℕ) (agent : Agent) (job : JobSeen) → head_job g agent queue ≡ Some job → map (λ (h : Handled). h.action) (with_head_ended account mark queue).handled ≡ map (λ (h : Handled). h.action) account.handled ++ job.action ∷ []
unfolding action_or
handled_head account mark [] g agent job is = absurd cc
handled_head account mark (q ∷ qs) g agent job is =
    map_push (λ (h : Handled). h.action) account.handled (record { action = q.action; mark = mark })
    ∙ ap (λ x. map (λ (h : Handled). h.action) account.handled ++ x ∷ []) (ap (action_or q.action) is)

handled_end : (mode : ErrorMode) (judgement : Result Edn AgentError) (cs : List Carry) (agent : Agent) (g : ℕ) (job : JobSeen) → head_job g agent agent.account.queue ≡ Some job → handled_if_here (Some (after_end mode judgement cs agent)) ≡ handled_if_here (Some agent) ++ job.action ∷ []
handled_end mode (Ok v) cs agent g job is = handled_head agent.account _ agent.account.queue g agent job is
handled_end Fail (Err error) cs agent g job is = handled_head agent.account _ agent.account.queue g agent job is
handled_end Continue (Err error) cs agent g job is = handled_head agent.account _ agent.account.queue g agent job is

out_head : (b : Bool) (x : Option JobSeen) (job : JobSeen) → cond b x None ≡ Some job → x ≡ Some job
out_head true x job is = is
out_head false x job is = absurd cc

pub handled_finish : (agents : List Agent) (job : JobSeen) (g : ℕ) (judgement : Result Edn AgentError) (cs : List Carry) → job_out agents job.agent ≡ Some job → handled_at (change_agent agents job.agent (ending judgement cs)) g ≡ handled_at agents g ++ cond (job.agent == g) (job.action ∷ []) []
handled_finish agents job g judgement cs out = by (cases_eq job.agent g) where
  here : (there : Option Agent) → slice_get agents job.agent ≡ there → out_if_here job.agent there ≡ Some job → handled_at (change_agent agents job.agent (ending judgement cs)) job.agent ≡ handled_at agents job.agent ++ job.action ∷ []
  here None is out = absurd cc
  here (Some agent) is out = ap handled_if_here (put_here agents job.agent (ending judgement cs) (slice_get agents job.agent) agent is is)
      ∙ (handled_end agent.mode judgement cs agent job.agent job (out_head agent.is_out (head_job job.agent agent agent.account.queue) job out)
      ∙ ap (λ o. handled_if_here o ++ job.action ∷ []) (sym is))

  by : (job.agent ≡ g) ⊎ (job.agent ≡ g → ⊥) → handled_at (change_agent agents job.agent (ending judgement cs)) g ≡ handled_at agents g ++ cond (job.agent == g) (job.action ∷ []) []
  by (inl same) = rw (eq-eqb job.agent g same) (subst (λ n. handled_at (change_agent agents job.agent (ending judgement cs)) n ≡ handled_at agents n ++ job.action ∷ []) same (here (slice_get agents job.agent) refl out))
  by (inr other) = rw (ne_eqb job.agent g other) (ap handled_if_here (put_elsewhere agents job.agent g (ending judgement cs) (slice_get agents job.agent) other) ∙ sym (append-nil (handled_at agents g)))
