-- What each call on agents leaves of what waits for them and of what they carried.
use Rattle.std.proofs.Common.{◌≡◌, ℕ, ◌+◌, ◌==◌, ◌<◌, ◌≤◌, cond, Bool, true, false, ◌⊎◌, inl, inr, is_some, List, [], ◌∷◌, ◌++◌, length, Option, None, Some, slice_get, refl, sym, ap, subst, ◌∙◌, arith}
use Rattle.std.specs.List.{AllByRecursion}
use Rattle.std.proofs.lemmas.Bool.{cases_eq, ne_eqb}
use Rattle.std.proofs.lemmas.List.{append-nil}
use Rattle.ref_value.specs.Edn.{Edn}
use Rattle.ref_fun.specs.declared.actions.Action.{Action}
use Rattle.ref_fun.specs.declared.carries.Carry.{Carry}
use Rattle.ref_agents.specs.Account.{kept_queue, last_carries}
use Rattle.ref_agents.specs.Agents.{AgentsSeen, carried, carries_at, carries_if_here, change_agent, error_at, error_if_here, head_job, is_carrying_at, is_carrying_if_here, job_out, out_if_here, put_agent, queuing, releasing, revived, with_carried_released, with_carries, with_each, with_each_released, with_send}
use Rattle.ref_agents.specs.Agents as agents_in
use Rattle.ref_agents.specs.declared.accounts.Queued.{Queued}
use Rattle.ref_agents.specs.declared.accounts.SentBy.{SentBy}
use Rattle.ref_agents.specs.declared.accounts.SentBy.TheVariants.{Commit}
use Rattle.ref_agents.specs.declared.agents.Agent.{Agent}
use Rattle.ref_agents.specs.declared.faults.AgentError.{AgentError}
use Rattle.ref_play.specs.Given.{queue_at, queue_if_here, those_to}
use Rattle.ref_play.specs.Runs.{AreCarried, IsWaiting, held_by, may_hold, sends_to}
use Rattle.ref_play.proofs.Given.{each-length, put_elsewhere, see_each, see_more, see_send, seen_changed, seen_each, seen_same}
use Rattle.ref_play.proofs.Held.{held_append, held_none}
use Rattle.ref_play.proofs.Receivers.{AreHere}

pub all_append : {X : Type 0} (P : X → Type 0) (xs ys : List X) → AllByRecursion P xs → AllByRecursion P ys → AllByRecursion P (xs ++ ys)
all_append P [] ys a b = b
all_append P (x ∷ xs) ys a b = (a.0, all_append P xs ys a.1 b)

-- of those that go to an agent
pub those_all : {X Y : Type 0} (P : Y → Type 0) (to : X → ℕ) (of : X → Y) (g : ℕ) (xs : List X) → AllByRecursion (λ x. (to x == g) ≡ true → P (of x)) xs → AllByRecursion P (those_to to of g xs)
those_all P to of g [] all = tt
those_all P to of g (x ∷ xs) all = by (to x == g) refl (those_all P to of g xs all.1) where
  by : (b : Bool) → (to x == g) ≡ b → AllByRecursion P (those_to to of g xs) → AllByRecursion P (cond b (of x ∷ those_to to of g xs) (those_to to of g xs))
  by true is rest = (all.0 is, rest)
  by false is rest = rest

-- ---- what is so of what waits stays so

module _ (agents new : List Agent) (count : length agents ≤ length new) where
  -- of each agent that carried what isn't released that stays, and what it was
  abbrev pub On : Type 0
  On = (f : ℕ) → is_carrying_at agents f ≡ true → (is_carrying_at new f ≡ true) × (carries_at new f ≡ carries_at agents f)

  here_on : (cs : List Carry) → AreHere (length agents) cs → AreHere (length new) cs
  here_on [] all = tt
  here_on (c ∷ cs) all = (omega (arith, all.0, count), here_on cs all.1)

  pub waits_on : (qs : List Queued) → AllByRecursion (IsWaiting agents) qs → AllByRecursion (IsWaiting new) qs
  waits_on [] all = tt
  waits_on (q ∷ qs) all = (here_on q.action.carries all.0, waits_on qs all.1)

  pub may_on : On → (h g : ℕ) → may_hold agents h g ≤ may_hold new h g
  may_on on h g = by (is_carrying_at agents h) refl where
    by : (b : Bool) → is_carrying_at agents h ≡ b → cond b (sends_to (carries_at agents h) g) 0 ≤ may_hold new h g
    by false is = omega arith
    by true is =
        let there = on h is in
        let same : may_hold new h g ≡ sends_to (carries_at agents h) g = ap (λ b. cond b (sends_to (carries_at new h) g) 0) there.0 ∙ ap (λ cs. sends_to cs g) there.1 in
        omega (arith, same)

  pub carried_more : On → (more : ℕ → List Queued) → ((g : ℕ) → queue_at new g ≡ queue_at agents g ++ more g) → ((g : ℕ) → AllByRecursion (IsWaiting new) (more g))
      → ((h g : ℕ) → held_by h (more g) ≡ 0) → ((g : ℕ) → is_carrying_at new g ≡ true → error_at new g ≡ None) → AreCarried agents → AreCarried new
  carried_more on more queues all none sound are = record {
    waits = λ g. subst (AllByRecursion (IsWaiting new)) (sym (queues g)) (all_append (IsWaiting new) (queue_at agents g) (more g) (waits_on (queue_at agents g) (are.waits g)) (all g));
    holds = λ h g.
        let is : held_by h (queue_at new g) ≡ held_by h (queue_at agents g) + held_by h (more g) = ap (held_by h) (queues g) ∙ held_append h (queue_at agents g) (more g) in
        omega (arith, is, none h g, are.holds h g, may_on on h g);
    sound = sound;
  }

  same_on : ((g : ℕ) → is_carrying_at new g ≡ is_carrying_at agents g) → ((g : ℕ) → carries_at new g ≡ carries_at agents g) → On
  same_on carrying carries f is = (carrying f ∙ is, carries f)

  same_sound : ((g : ℕ) → is_carrying_at new g ≡ is_carrying_at agents g) → ((g : ℕ) → error_at new g ≡ error_at agents g) → AreCarried agents → (g : ℕ) → is_carrying_at new g ≡ true → error_at new g ≡ None
  same_sound carrying errors are g is = errors g ∙ are.sound g (sym (carrying g) ∙ is)

  -- where they carry what they carried, and are failed where they were
  pub carried_sent : ((g : ℕ) → is_carrying_at new g ≡ is_carrying_at agents g) → ((g : ℕ) → carries_at new g ≡ carries_at agents g) → ((g : ℕ) → error_at new g ≡ error_at agents g) → (more : ℕ → List Queued)
      → ((g : ℕ) → queue_at new g ≡ queue_at agents g ++ more g) → ((g : ℕ) → AllByRecursion (IsWaiting new) (more g)) → ((h g : ℕ) → held_by h (more g) ≡ 0) → AreCarried agents → AreCarried new
  carried_sent carrying carries errors more queues all none are = carried_more (same_on carrying carries) more queues all none (same_sound carrying errors are) are

  pub carried_same : ((g : ℕ) → is_carrying_at new g ≡ is_carrying_at agents g) → ((g : ℕ) → carries_at new g ≡ carries_at agents g) → ((g : ℕ) → error_at new g ≡ error_at agents g)
      → ((g : ℕ) → queue_at new g ≡ queue_at agents g) → AreCarried agents → AreCarried new
  carried_same carrying carries errors queues are = carried_sent carrying carries errors (λ g. []) (λ g. queues g ∙ sym (append-nil (queue_at agents g))) (λ g. tt) (λ h g. refl) are

-- where an agent is changed in nothing of that
pub carried_changed : (agents : List Agent) (g : ℕ) (f : Agent → Agent) → length agents ≤ length (change_agent agents g f) → ((agent : Agent) → is_carrying_if_here (Some (f agent)) ≡ is_carrying_if_here (Some agent))
    → ((agent : Agent) → carries_if_here (Some (f agent)) ≡ carries_if_here (Some agent)) → ((agent : Agent) → error_if_here (Some (f agent)) ≡ error_if_here (Some agent)) → ((agent : Agent) → queue_if_here (Some (f agent)) ≡ queue_if_here (Some agent))
    → AreCarried agents → AreCarried (change_agent agents g f)
carried_changed agents g f count carrying carries errors queues are =
    carried_same agents (change_agent agents g f) count
    (λ h. seen_same is_carrying_if_here agents g h f (λ agent here. carrying agent))
    (λ h. seen_same carries_if_here agents g h f (λ agent here. carries agent))
    (λ h. seen_same error_if_here agents g h f (λ agent here. errors agent))
    (λ h. seen_same queue_if_here agents g h f (λ agent here. queues agent)) are

-- ---- sends

pub queue_outside : (agents : List Agent) (h g : ℕ) (q : Queued) → h < length agents → queue_at (with_send agents h q) g ≡ queue_at agents g ++ cond (h == g) (q ∷ []) []
queue_outside agents h g q below = see_send queue_if_here (λ x. x) (λ x agent. refl) agents h g q below

pub queue_sends : {X : Type 0} (to : X → ℕ) (of : X → Action) (by : SentBy) (xs : List X) (agents : List Agent) (g : ℕ) → AllByRecursion (λ x. to x < length agents) xs
    → queue_at (with_each to of by xs agents) g ≡ queue_at agents g ++ those_to to (λ x. record { action = of x; by = by }) g xs
queue_sends to of by xs agents g below = see_each queue_if_here (λ x. x) (λ x agent. refl) to of by xs agents g below

pub carrying_sends : {X : Type 0} (to : X → ℕ) (of : X → Action) (by : SentBy) (xs : List X) (agents : List Agent) (g : ℕ) → is_carrying_at (with_each to of by xs agents) g ≡ is_carrying_at agents g
carrying_sends to of by xs agents g = seen_each is_carrying_if_here to of by (λ q agent. refl) xs agents g

pub carried_outside : (agents : List Agent) (h : ℕ) (action : Action) → h < length agents → AreHere (length agents) action.carries → length agents ≡ length (with_send agents h (agents_in.outside action)) → AreCarried agents → AreCarried (with_send agents h (agents_in.outside action))
carried_outside agents h action below here count are =
    let q = agents_in.outside action in
    carried_sent agents (with_send agents h q) (omega (arith, count))
    (λ g. seen_same is_carrying_if_here agents h g (queuing q) (λ agent there. refl))
    (λ g. seen_same carries_if_here agents h g (queuing q) (λ agent there. refl))
    (λ g. seen_same error_if_here agents h g (queuing q) (λ agent there. refl))
    (λ g. cond (h == g) (q ∷ []) []) (λ g. queue_outside agents h g q below) (λ g. by (h == g)) (λ f g. none f (h == g)) are where
      by : (b : Bool) → AllByRecursion (IsWaiting (with_send agents h (agents_in.outside action))) (cond b (agents_in.outside action ∷ []) [])
      by true = (subst (λ n. AreHere n action.carries) count here, tt)
      by false = tt

      none : (f : ℕ) (b : Bool) → held_by f (cond b (agents_in.outside action ∷ []) []) ≡ 0
      none f true = refl
      none f false = refl

-- what is sent, where each carries what is here
all_waiting : {X : Type 0} (of : X → Action) (n : ℕ) (P : Queued → Type 0) (by : SentBy) (each : (x : X) → AreHere n (of x).carries → P (record { action = of x; by = by })) (Q : X → Type 0) (xs : List X) → AllByRecursion (λ x. AreHere n (of x).carries) xs → AllByRecursion (λ x. Q x → P (record { action = of x; by = by })) xs
all_waiting of n P by each Q [] all = tt
all_waiting of n P by each Q (x ∷ xs) all = ((λ q. each x all.0), all_waiting of n P by each Q xs all.1)

pub carried_commit : {X : Type 0} (to : X → ℕ) (of : X → Action) (point : ℕ) (xs : List X) (agents : List Agent) → AllByRecursion (λ x. to x < length agents) xs → AllByRecursion (λ x. AreHere (length agents) (of x).carries) xs
    → AreCarried agents → AreCarried (with_each to of (Commit point) xs agents)
carried_commit {X} to of point xs agents below here are =
    let by = Commit point in
    let new = with_each to of by xs agents in
    let count = each-length to of by xs agents in
    carried_sent agents new (omega (arith, count))
    (λ g. carrying_sends to of by xs agents g)
    (λ g. seen_each carries_if_here to of by (λ q agent. refl) xs agents g)
    (λ g. seen_each error_if_here to of by (λ q agent. refl) xs agents g)
    (λ g. those_to to (λ x. record { action = of x; by = Commit point }) g xs) (λ g. queue_sends to of by xs agents g below)
    (λ g. those_all (IsWaiting new) to (λ x. record { action = of x; by = Commit point }) g xs
    (all_waiting of (length agents) (IsWaiting new) (Commit point) (λ x are_here. subst (λ n. AreHere n (of x).carries) (sym count) are_here) (λ x. (to x == g) ≡ true) xs here))
    (λ h g. held_none h to of (Commit point) refl g xs) are

-- ---- one agent more

pub carried_made : (agents : List Agent) (more : Agent) → length agents ≤ length (agents ++ more ∷ []) → more.is_carrying ≡ false → more.account.handled ≡ [] → more.error ≡ None → more.account.queue ≡ [] → AreCarried agents → AreCarried (agents ++ more ∷ [])
carried_made agents more count idle fresh sound none are =
    carried_same agents (agents ++ more ∷ []) count
    (λ g. see_more is_carrying_if_here more idle agents g)
    (λ g. see_more carries_if_here more (ap last_carries fresh) agents g)
    (λ g. see_more error_if_here more sound agents g)
    (λ g. see_more queue_if_here more none agents g) are

-- ---- a restart: a failed agent carries nothing

failed_none : (e : Option AgentError) → is_some e ≡ true → e ≡ None → ⊥
failed_none None failed none = cc
failed_none (Some error) failed none = cc

both_ways : (b : Bool) → b ≡ true → b ≡ false → ⊥
both_ways b is isnt = cc

pub queue_restarted : (agents : List Agent) (h g : ℕ) (state : Edn) (clear : Bool) (agent : Agent) → slice_get agents h ≡ Some agent → queue_at (change_agent agents h (revived state clear)) g ≡ cond (h == g) (cond clear [] (queue_at agents g)) (queue_at agents g)
queue_restarted agents h g state clear agent here = seen_changed queue_if_here agents h g (revived state clear) agent here ∙ by (cases_eq h g) where
  kept : (clear : Bool) → kept_queue clear agent.account.queue ≡ cond clear [] (queue_at agents h)
  kept true = refl
  kept false = ap queue_if_here (sym here)

  by : (h ≡ g) ⊎ (h ≡ g → ⊥) → cond (h == g) (kept_queue clear agent.account.queue) (queue_at agents g) ≡ cond (h == g) (cond clear [] (queue_at agents g)) (queue_at agents g)
  by (inl same) = ap (λ l. cond (h == g) l (queue_at agents g)) (kept clear ∙ ap (λ n. cond clear [] (queue_at agents n)) same)
  by (inr other) = rw (ne_eqb h g other) refl

pub carried_restarted : (agents : List Agent) (h : ℕ) (state : Edn) (clear : Bool) (agent : Agent) → slice_get agents h ≡ Some agent → is_some agent.error ≡ true → length agents ≤ length (change_agent agents h (revived state clear))
    → AreCarried agents → AreCarried (change_agent agents h (revived state clear))
carried_restarted agents h state clear agent here failed count are = record {
  waits = λ g. subst (AllByRecursion (IsWaiting (change_agent agents h (revived state clear)))) (sym (queue_restarted agents h g state clear agent here)) (kept g (h == g) clear);
  holds = λ f g.
      let is = ap (held_by f) (queue_restarted agents h g state clear agent here) in
      omega (arith, is, fewer f g (h == g) clear, are.holds f g, may_on agents (change_agent agents h (revived state clear)) count on f g);
  sound = λ g is. sound g is (cases_eq h g);
} where
  carrying : (g : ℕ) → is_carrying_at (change_agent agents h (revived state clear)) g ≡ is_carrying_at agents g
  carrying g = seen_same is_carrying_if_here agents h g (revived state clear) (λ a there. refl)

  idle : is_carrying_at agents h ≡ true → ⊥
  idle is = failed_none agent.error failed (sym (ap error_if_here here) ∙ are.sound h is)

  on : On agents (change_agent agents h (revived state clear)) count
  on f is = (carrying f ∙ is, ap carries_if_here (put_elsewhere agents h f (revived state clear) (slice_get agents h) (λ same. idle (ap (is_carrying_at agents) same ∙ is))))

  kept : (g : ℕ) (b clear_all : Bool) → AllByRecursion (IsWaiting (change_agent agents h (revived state clear))) (cond b (cond clear_all [] (queue_at agents g)) (queue_at agents g))
  kept g true true = tt
  kept g true false = waits_on agents (change_agent agents h (revived state clear)) count (queue_at agents g) (are.waits g)
  kept g false clear_all = waits_on agents (change_agent agents h (revived state clear)) count (queue_at agents g) (are.waits g)

  fewer : (f g : ℕ) (b clear_all : Bool) → held_by f (cond b (cond clear_all [] (queue_at agents g)) (queue_at agents g)) ≤ held_by f (queue_at agents g)
  fewer f g true true = omega arith
  fewer f g true false = omega arith
  fewer f g false clear_all = omega arith

  sound : (g : ℕ) → is_carrying_at (change_agent agents h (revived state clear)) g ≡ true → (h ≡ g) ⊎ (h ≡ g → ⊥) → error_at (change_agent agents h (revived state clear)) g ≡ None
  sound g is (inl same) = absurd (idle (ap (is_carrying_at agents) same ∙ (sym (carrying g) ∙ is)))
  sound g is (inr other) = ap error_if_here (put_elsewhere agents h g (revived state clear) (slice_get agents h) other) ∙ are.sound g (sym (carrying g) ∙ is)
