-- A job that is on its way stays so while others are sent, taken, finished or put back, and no two are of one agent.
use Rattle.std.proofs.Common.{zero, suc, ◌≡◌, ℕ, ◌&&◌, not, cond, Bool, true, false, ◌⊎◌, inl, inr, is_some, List, [], ◌∷◌, ◌++◌, Option, None, Some, Result, Ok, Err, slice_get, refl, sym, ap, subst, ◌∙◌}
use Rattle.std.proofs.lemmas.Bool.{cases_eq}
use Rattle.std.proofs.lemmas.Option.{slice_get_within}
use Rattle.ref_value.specs.Edn.{Edn}
use Rattle.ref_fun.specs.Meaning.{Means}
use Rattle.ref_log.specs.declared.entries.Entry.{Entry}
use Rattle.ref_fun.specs.declared.actions.Action.{Action}
use Rattle.ref_fun.specs.declared.carries.Carry.{Carry}
use Rattle.ref_agents.specs.Account.{has_carried, has_released, last_released, number_of, released}
use Rattle.ref_agents.specs.Agents.{AgentsSeen, change_agent, error_if_here, head_job, is_carrying_at, is_carrying_if_here, is_ready_if_here, job_out, moded, next_job, out_if_here, outed, put_agent, queuing, releasing, revived, with_agents, with_carried_released, with_each, with_each_released, with_out, with_send}
use Rattle.ref_agents.specs.Agents as agents_in
use Rattle.ref_agents.specs.Jobs.{JobSeen}
use Rattle.ref_agents.specs.declared.accounts.Queued.{Queued}
use Rattle.ref_agents.specs.declared.accounts.SentBy.{SentBy}
use Rattle.ref_agents.specs.declared.agents.Agent.{Agent}
use Rattle.ref_agents.specs.Ends.{after_end}
use Rattle.ref_agents.specs.declared.agents.ErrorMode.{ErrorMode}
use Rattle.ref_agents.specs.declared.agents.ErrorMode.TheVariants.{Fail, Continue}
use Rattle.ref_agents.specs.declared.faults.AgentError.{AgentError}
use Rattle.ref_play.specs.Present.{HeldSeen, IsTaken, Present, WithJob, put, run, with_job}
use Rattle.ref_play.specs.Runs.{Apart, AreJobs, IsHeld, IsOwned, is_out_at, out_of}
use Rattle.ref_play.proofs.Given.{put_elsewhere, see_more, seen_each, seen_freed, seen_same, set-here}
use Rattle.ref_play.proofs.Puts.{put_here, put_other}

-- what is so of an agent stays so where it does in the one that is changed
module _ (P : ℕ → Option Agent → Type 0) (agents : List Agent) (g : ℕ) (f : Agent → Agent) where
  here : (there : Option Agent) → slice_get agents g ≡ there → ((agent : Agent) → slice_get agents g ≡ Some agent → P g (Some agent) → P g (Some (f agent))) → P g there → P g (slice_get (put_agent agents g f there) g)
  here None is each p = subst (P g) (sym is) p
  here (Some agent) is each p = subst (P g) (sym (set-here agents g (f agent) (slice_get_within agents g agent is))) (each agent is p)

  pub stays : (h : ℕ) → ((agent : Agent) → slice_get agents g ≡ Some agent → P g (Some agent) → P g (Some (f agent))) → P h (slice_get agents h) → P h (slice_get (change_agent agents g f) h)
  stays h each p = by (cases_eq g h) where
    by : (g ≡ h) ⊎ (g ≡ h → ⊥) → P h (slice_get (change_agent agents g f) h)
    by (inl same) = subst (λ n. P n (slice_get (change_agent agents g f) n)) same (here (slice_get agents g) refl each (subst (λ n. P n (slice_get agents n)) (sym same) p))
    by (inr other) = subst (P h) (sym (put_elsewhere agents g h f (slice_get agents g) other)) p

-- a job is on its way, its agent isn't failed, and nothing that it carried is held
abbrev pub IsOut : JobSeen → ℕ → Option Agent → Type 0
IsOut job h there = (out_if_here h there ≡ Some job) × (error_if_here there ≡ None) × (is_carrying_if_here there ≡ false)

head_more : (g : ℕ) (agent then : Agent) (queue : List Queued) (q : Queued) (job : JobSeen) → number_of then.account ≡ number_of agent.account → then.value ≡ agent.value → head_job g agent queue ≡ Some job → head_job g then (queue ++ q ∷ []) ≡ Some job
head_more g agent then [] q job count value is = absurd cc
head_more g agent then (x ∷ xs) q job count value is = rw (count, value) is

cond_more : (b : Bool) (x y : Option JobSeen) (job : JobSeen) → (x ≡ Some job → y ≡ Some job) → cond b x None ≡ Some job → cond b y None ≡ Some job
cond_more true x y job more is = more is
cond_more false x y job more is = absurd cc

pub cond_some : (b : Bool) (x : Option JobSeen) (job : JobSeen) → cond b x None ≡ Some job → x ≡ Some job
cond_some true x job is = is
cond_some false x job is = absurd cc

pub out_send : (agents : List Agent) (g : ℕ) (queued : Queued) (h : ℕ) (job : JobSeen) → IsOut job h (slice_get agents h) → IsOut job h (slice_get (with_send agents g queued) h)
out_send agents g queued h job is = stays (IsOut job) agents g (queuing queued) h (λ agent here out. (cond_more agent.is_out (head_job g agent agent.account.queue) _ job (head_more g agent (queuing queued agent) agent.account.queue queued job refl refl) out.0, out.1, out.2)) is

pub out_sends : {X : Type 0} (to : X → ℕ) (of : X → Action) (by : SentBy) (xs : List X) (agents : List Agent) (h : ℕ) (job : JobSeen) → IsOut job h (slice_get agents h) → IsOut job h (slice_get (with_each to of by xs agents) h)
out_sends to of by [] agents h job is = is
out_sends to of by (x ∷ xs) agents h job is =
    out_sends to of by xs (with_send agents (to x) (record { action = of x; by = by })) h job (out_send agents (to x) (record { action = of x; by = by }) h job is)

-- what is released is the same action
head_released : (g h : ℕ) (agent : Agent) (queue : List Queued) → head_job g (releasing h agent) (last_released h queue) ≡ head_job g agent queue
head_released g h agent [] = refl
head_released g h agent (q ∷ qs) = at (has_carried h qs) where
  at : (b : Bool) → head_job g (releasing h agent) (cond b (q ∷ last_released h qs) (released h q ∷ qs)) ≡ head_job g agent (q ∷ qs)
  at true = refl
  at false = refl

out_each_released : (h : ℕ) (cs : List Carry) (agents : List Agent) (g : ℕ) (job : JobSeen) → IsOut job g (slice_get agents g) → IsOut job g (slice_get (with_each_released h cs agents) g)
out_each_released h [] agents g job is = is
out_each_released h (c ∷ cs) agents g job is = out_each_released h cs (change_agent agents c.g (releasing h)) g job
    (stays (IsOut job) agents c.g (releasing h) g (λ agent here out. (ap (λ x. cond agent.is_out x None) (head_released c.g h agent agent.account.queue) ∙ out.0, out.1, out.2)) is)

head_carrying : (g : ℕ) (agent : Agent) (queue : List Queued) → head_job g (agents_in.carrying false agent) queue ≡ head_job g agent queue
head_carrying g agent [] = refl
head_carrying g agent (q ∷ qs) = refl

pub out_freed : (store : AgentsSeen) (h g : ℕ) (job : JobSeen) → IsOut job g (slice_get store.agents g) → IsOut job g (slice_get (with_carried_released store h).agents g)
out_freed store h g job is = by (is_carrying_at store.agents h) where
  by : (b : Bool) → IsOut job g (slice_get (cond b (with_agents store (change_agent (with_each_released h (agents_in.carries_at store.agents h) store.agents) h (agents_in.carrying false))) store).agents g)
  by true = stays (IsOut job) (with_each_released h (agents_in.carries_at store.agents h) store.agents) h (agents_in.carrying false) g
      (λ agent here out. (ap (λ x. cond agent.is_out x None) (head_carrying h agent agent.account.queue) ∙ out.0, out.1, refl))
      (out_each_released h (agents_in.carries_at store.agents h) store.agents g job is)
  by false = is

head_moded : (g : ℕ) (mode : ErrorMode) (agent : Agent) (queue : List Queued) → head_job g (moded mode agent) queue ≡ head_job g agent queue
head_moded g mode agent [] = refl
head_moded g mode agent (q ∷ qs) = refl

pub out_mode : (agents : List Agent) (g : ℕ) (mode : ErrorMode) (h : ℕ) (job : JobSeen) → IsOut job h (slice_get agents h) → IsOut job h (slice_get (change_agent agents g (moded mode)) h)
out_mode agents g mode h job is = stays (IsOut job) agents g (moded mode) h (λ agent here out. (ap (λ x. cond agent.is_out x None) (head_moded g mode agent agent.account.queue) ∙ out.0, out.1, out.2)) is

-- of another agent
pub out_elsewhere : (agents : List Agent) (g : ℕ) (f : Agent → Agent) (h : ℕ) (job : JobSeen) → (g ≡ h → ⊥) → IsOut job h (slice_get agents h) → IsOut job h (slice_get (change_agent agents g f) h)
out_elsewhere agents g f h job other is = subst (IsOut job h) (sym (put_elsewhere agents g h f (slice_get agents g) other)) is

-- no action of a failed agent is on its way, so a restart leaves those that are
none_failed : (e : Option AgentError) → is_some e ≡ true → e ≡ None → ⊥
none_failed None failed none = cc
none_failed (Some error) failed none = cc

pub out_restart : (agents : List Agent) (g : ℕ) (state : Edn) (clear : Bool) (h : ℕ) (job : JobSeen) → ((agent : Agent) → slice_get agents g ≡ Some agent → is_some agent.error ≡ true)
    → IsOut job h (slice_get agents h) → IsOut job h (slice_get (change_agent agents g (revived state clear)) h)
out_restart agents g state clear h job failed is = stays (IsOut job) agents g (revived state clear) h (λ agent here out. absurd (none_failed agent.error (failed agent here) out.1)) is

-- one agent more
get-append : (agents : List Agent) (more : Agent) (h : ℕ) (P : Option Agent → Type 0) → (P None → ⊥) → P (slice_get agents h) → P (slice_get (agents ++ more ∷ []) h)
get-append [] more h P never is = absurd (never is)
get-append (x ∷ xs) more zero P never is = is
get-append (x ∷ xs) more (suc h) P never is = get-append xs more h P never is

pub out_made : (agents : List Agent) (more : Agent) (h : ℕ) (job : JobSeen) → IsOut job h (slice_get agents h) → IsOut job h (slice_get (agents ++ more ∷ []) h)
out_made agents more h job is = get-append agents more h (IsOut job h) (λ none. never none.0) is where
  never : None ≡ Some job → ⊥
  never none = cc

-- ---- whose action is on its way

pub away_same : (agents : List Agent) (g h : ℕ) (f : Agent → Agent) → ((agent : Agent) → (f agent).is_out ≡ agent.is_out) → is_out_at (change_agent agents g f) h ≡ is_out_at agents h
away_same agents g h f same = seen_same out_of agents g h f (λ agent here. same agent)

pub away_sends : {X : Type 0} (to : X → ℕ) (of : X → Action) (by : SentBy) (xs : List X) (agents : List Agent) (g : ℕ) → is_out_at (with_each to of by xs agents) g ≡ is_out_at agents g
away_sends to of by xs agents g = seen_each out_of to of by (λ q agent. refl) xs agents g

pub away_freed : (store : AgentsSeen) (h g : ℕ) → is_out_at (with_carried_released store h).agents g ≡ is_out_at store.agents g
away_freed store h g = seen_freed out_of store h g (λ agent. refl) (λ agent. refl)

pub away_made : (agents : List Agent) (more : Agent) (g : ℕ) → more.is_out ≡ false → is_out_at (agents ++ more ∷ []) g ≡ is_out_at agents g
away_made agents more g none = see_more out_of more none agents g

pub ended_in : (mode : ErrorMode) (judgement : Result Edn AgentError) (cs : List Carry) (agent : Agent) → (after_end mode judgement cs agent).is_out ≡ false
ended_in mode (Ok v) cs agent = refl
ended_in Fail (Err error) cs agent = refl
ended_in Continue (Err error) cs agent = refl

-- where an agent isn't out any more
not_here : (agents : List Agent) (g : ℕ) (f : Agent → Agent) (there : Option Agent) → slice_get agents g ≡ there → ((agent : Agent) → (f agent).is_out ≡ false) → is_out_at (put_agent agents g f there) g ≡ false
not_here agents g f None is none = ap out_of is
not_here agents g f (Some agent) is none = ap out_of (set-here agents g (f agent) (slice_get_within agents g agent is)) ∙ none agent

pub away_ended : (agents : List Agent) (g h : ℕ) (f : Agent → Agent) → ((agent : Agent) → (f agent).is_out ≡ false) → is_out_at (change_agent agents g f) h ≡ true → (g ≡ h → ⊥) × (is_out_at agents h ≡ true)
away_ended agents g h f none is = by (cases_eq g h) where
  no_both : (b : Bool) → b ≡ true → b ≡ false → ⊥
  no_both b is isnt = cc

  by : (g ≡ h) ⊎ (g ≡ h → ⊥) → (g ≡ h → ⊥) × (is_out_at agents h ≡ true)
  by (inl same) = absurd (no_both (is_out_at (change_agent agents g f) h) is (subst (λ n. is_out_at (change_agent agents g f) n ≡ false) same (not_here agents g f (slice_get agents g) refl none)))
  by (inr other) = (other, ap out_of (sym (put_elsewhere agents g h f (slice_get agents g) other)) ∙ is)

-- where another agent is out
pub away_taken : (agents : List Agent) (g h : ℕ) (f : Agent → Agent) → (g ≡ h → ⊥) → is_out_at (change_agent agents g f) h ≡ true → is_out_at agents h ≡ true
away_taken agents g h f other is = ap out_of (sym (put_elsewhere agents g h f (slice_get agents g) other)) ∙ is

-- an owner, where the job of one actor changes
pub owned_put : (jobs : ℕ → Option HeldSeen) (a : ℕ) (held : Option HeldSeen) (g : ℕ) → (WithJob (jobs a) (λ h. h.job.agent ≡ g) ⊥ → IsOwned (put jobs a held) g) → IsOwned jobs g → IsOwned (put jobs a held) g
owned_put jobs a held g mine owner = by (cases_eq owner.0 a) where
  by : (owner.0 ≡ a) ⊎ (owner.0 ≡ a → ⊥) → IsOwned (put jobs a held) g
  by (inl same) = mine (subst (λ n. WithJob (jobs n) (λ (h : HeldSeen). h.job.agent ≡ g) ⊥) same owner.1)
  by (inr other) = (owner.0, subst (λ o. WithJob o (λ (h : HeldSeen). h.job.agent ≡ g) ⊥) (sym (put_other jobs a held owner.0 other)) owner.1)

-- ---- the jobs of all actors

held_as : (means : Means) (old new : List Agent) (held : HeldSeen) → IsHeld means old held → IsOut held.job held.job.agent (slice_get new held.job.agent) → IsHeld means new held
held_as means old new held is out = record { out = out.0; sound = out.1; released = out.2; meant = is.meant }

-- where they stay
pub kept_all : (means : Means) (old new : Present) → new.jobs ≡ old.jobs → ((h : ℕ) (job : JobSeen) → IsOut job h (slice_get old.agents.agents h) → IsOut job h (slice_get new.agents.agents h))
    → ((g : ℕ) → is_out_at new.agents.agents g ≡ true → is_out_at old.agents.agents g ≡ true) → AreJobs means old → AreJobs means new
kept_all means old new same each away are = record {
  held = λ a. subst (λ o. WithJob o (IsHeld means new.agents.agents) (Unit {0})) (sym (ap (λ f. f a) same)) (on (old.jobs a) (are.held a));
  apart = λ a b other. subst (λ f. Apart (f a) (f b)) (sym same) (are.apart a b other);
  owned = λ g is_out. subst (λ f. IsOwned f g) (sym same) (are.owned g (away g is_out));
} where
  on : (o : Option HeldSeen) → WithJob o (IsHeld means old.agents.agents) (Unit {0}) → WithJob o (IsHeld means new.agents.agents) (Unit {0})
  on None is = tt
  on (Some held) is = held_as means old.agents.agents new.agents.agents held is (each held.job.agent held.job (is.out, is.sound, is.released))

pub jobs_same : (means : Means) (old new : Present) → new.jobs ≡ old.jobs → new.agents.agents ≡ old.agents.agents → AreJobs means old → AreJobs means new
jobs_same means old new same agents are = kept_all means old new same (λ h job out. subst (λ l. IsOut job h (slice_get l h)) (sym agents) out) (λ g is_out. ap (λ l. is_out_at l g) (sym agents) ∙ is_out) are

-- where that of one actor changes, while those of the others stay out, and are of other agents
module _ (means : Means) (old : Present) (store : AgentsSeen) (a : ℕ) (held : Option HeldSeen) where
  new : Present
  new = with_job old store a held

  flip : (x y : Option HeldSeen) → Apart x y → Apart y x
  flip None None apart = tt
  flip None (Some y) apart = tt
  flip (Some x) None apart = tt
  flip (Some x) (Some y) apart = λ same. apart (sym same)

  pub put_all : WithJob held (IsHeld means store.agents) (Unit {0})
      → ((b : ℕ) → (b ≡ a → ⊥) → WithJob (old.jobs b) (λ other. IsOut other.job other.job.agent (slice_get store.agents other.job.agent)) (Unit {0}))
      → ((b : ℕ) → (b ≡ a → ⊥) → Apart held (old.jobs b)) → ((g : ℕ) → is_out_at store.agents g ≡ true → IsOwned (put old.jobs a held) g) → AreJobs means old → AreJobs means (with_job old store a held)
  put_all mine out away owners are = record { held = λ b. held_by b (cases_eq b a); apart = λ x y other. apart_by x y other (cases_eq x a) (cases_eq y a); owned = owners } where
    on : (o : Option HeldSeen) → WithJob o (IsHeld means old.agents.agents) (Unit {0}) → WithJob o (λ other. IsOut other.job other.job.agent (slice_get store.agents other.job.agent)) (Unit {0}) → WithJob o (IsHeld means store.agents) (Unit {0})
    on None is out = tt
    on (Some other) is out = held_as means old.agents.agents store.agents other is out

    held_by : (b : ℕ) → (b ≡ a) ⊎ (b ≡ a → ⊥) → WithJob (put old.jobs a held b) (IsHeld means store.agents) (Unit {0})
    held_by b (inl same) = subst (λ o. WithJob o (IsHeld means store.agents) (Unit {0})) (sym (ap (put old.jobs a held) same ∙ put_here old.jobs a held)) mine
    held_by b (inr other) = subst (λ o. WithJob o (IsHeld means store.agents) (Unit {0})) (sym (put_other old.jobs a held b other)) (on (old.jobs b) (are.held b) (out b other))

    apart_by : (x y : ℕ) → (x ≡ y → ⊥) → (x ≡ a) ⊎ (x ≡ a → ⊥) → (y ≡ a) ⊎ (y ≡ a → ⊥) → Apart (put old.jobs a held x) (put old.jobs a held y)
    apart_by x y other (inl sx) (inl sy) = absurd (other (sx ∙ sym sy))
    apart_by x y other (inl sx) (inr oy) = subst (λ o. Apart o (put old.jobs a held y)) (sym (ap (put old.jobs a held) sx ∙ put_here old.jobs a held)) (subst (λ o. Apart held o) (sym (put_other old.jobs a held y oy)) (away y oy))
    apart_by x y other (inr ox) (inl sy) = subst (λ o. Apart (put old.jobs a held x) o) (sym (ap (put old.jobs a held) sy ∙ put_here old.jobs a held)) (subst (λ o. Apart o held) (sym (put_other old.jobs a held x ox)) (flip held (old.jobs x) (away x ox)))
    apart_by x y other (inr ox) (inr oy) = subst (λ o. Apart o (put old.jobs a held y)) (sym (put_other old.jobs a held x ox)) (subst (λ o. Apart (old.jobs x) o) (sym (put_other old.jobs a held y oy)) (are.apart x y other))

-- ---- take

ready_parts : (e : Option AgentError) (out carrying free : Bool) → (not (is_some e) && not out && not carrying && free) ≡ true → (e ≡ None) × (out ≡ false) × (carrying ≡ false)
ready_parts None false false free is = (refl, refl, refl)
ready_parts None false true free is = absurd cc
ready_parts None true carrying free is = absurd cc
ready_parts (Some error) out carrying free is = absurd cc

head_outed : (g : ℕ) (agent : Agent) (queue : List Queued) → head_job g (outed true agent) queue ≡ head_job g agent queue
head_outed g agent [] = refl
head_outed g agent (q ∷ qs) = refl

not_out : (b : Bool) (x : Option JobSeen) (job : JobSeen) → b ≡ false → cond b x None ≡ Some job → ⊥
not_out true x job none is = cc
not_out false x job none is = cc

pub jobs_taken : (means : Means) (old : Present) (a : ℕ) (told : ℕ × ℕ) (added : List Entry) (after : Present) (taken : IsTaken old a told added after) → old.jobs a ≡ None → AreJobs means old
    → AreJobs means (with_job old (with_out old.agents taken.job.agent true) a (Some (record { job = taken.job; outcome = None })))
jobs_taken means old a told added after taken free_hands are = by (slice_get old.agents.agents taken.job.agent) refl taken.ready taken.first where
  g : ℕ
  g = taken.job.agent

  fresh : HeldSeen
  fresh = record { job = taken.job; outcome = None }

  by : (there : Option Agent) → slice_get old.agents.agents taken.job.agent ≡ there → is_ready_if_here old.agents.unreleased there ≡ true → next_job taken.job.agent there ≡ Some taken.job
      → AreJobs means (with_job old (with_out old.agents taken.job.agent true) a (Some (record { job = taken.job; outcome = None })))
  by None is ready first = absurd cc
  by (Some agent) is ready first =
      let parts = ready_parts agent.error agent.is_out agent.is_carrying (has_released old.agents.unreleased agent.account.queue) ready in
      let there = ap (λ o. slice_get (put_agent old.agents.agents taken.job.agent (outed true) o) taken.job.agent) is ∙ set-here old.agents.agents taken.job.agent (outed true agent) (slice_get_within old.agents.agents taken.job.agent agent is) in
      put_all means old (with_out old.agents taken.job.agent true) a (Some (record { job = taken.job; outcome = None }))
      (record {
        out = ap (out_if_here taken.job.agent) there ∙ (head_outed taken.job.agent agent agent.account.queue ∙ first);
        sound = ap error_if_here there ∙ parts.0;
        released = ap is_carrying_if_here there ∙ parts.2;
        meant = tt;
      })
      (λ b other. outs (old.jobs b) (are.held b) (λ job out. free agent is parts.1 job out))
      (λ b other. aways (old.jobs b) (are.held b) (λ job out. free agent is parts.1 job out))
      owners
      are where
        owners : (h : ℕ) → is_out_at (change_agent old.agents.agents taken.job.agent (outed true)) h ≡ true → IsOwned (put old.jobs a (Some (record { job = taken.job; outcome = None }))) h
        owners h is_out = by_agent (cases_eq taken.job.agent h) where
          none_mine : (o : Option HeldSeen) → o ≡ None → WithJob o (λ x. x.job.agent ≡ h) ⊥ → ⊥
          none_mine None none mine = mine
          none_mine (Some x) none mine = cc

          by_agent : (taken.job.agent ≡ h) ⊎ (taken.job.agent ≡ h → ⊥) → IsOwned (put old.jobs a (Some (record { job = taken.job; outcome = None }))) h
          by_agent (inl same) = (a, subst (λ o. WithJob o (λ (x : HeldSeen). x.job.agent ≡ h) ⊥) (sym (put_here old.jobs a (Some (record { job = taken.job; outcome = None })))) same)
          by_agent (inr other) = owned_put old.jobs a (Some (record { job = taken.job; outcome = None })) h (λ mine. absurd (none_mine (old.jobs a) free_hands mine)) (are.owned h (away_taken old.agents.agents taken.job.agent h (outed true) other is_out))

        free : (agent : Agent) → slice_get old.agents.agents taken.job.agent ≡ Some agent → agent.is_out ≡ false → (job : JobSeen) → job_out old.agents.agents job.agent ≡ Some job → taken.job.agent ≡ job.agent → ⊥
        free agent is out job held same = not_out agent.is_out _ job out (subst (λ o. out_if_here taken.job.agent o ≡ Some job) is (subst (λ n. job_out old.agents.agents n ≡ Some job) (sym same) held))

        outs : (o : Option HeldSeen) → WithJob o (IsHeld means old.agents.agents) (Unit {0}) → ((job : JobSeen) → job_out old.agents.agents job.agent ≡ Some job → taken.job.agent ≡ job.agent → ⊥)
            → WithJob o (λ other. IsOut other.job other.job.agent (slice_get (change_agent old.agents.agents taken.job.agent (outed true)) other.job.agent)) (Unit {0})
        outs None is free = tt
        outs (Some other) is free = out_elsewhere old.agents.agents taken.job.agent (outed true) other.job.agent other.job (free other.job is.out) (is.out, is.sound, is.released)

        aways : (o : Option HeldSeen) → WithJob o (IsHeld means old.agents.agents) (Unit {0}) → ((job : JobSeen) → job_out old.agents.agents job.agent ≡ Some job → taken.job.agent ≡ job.agent → ⊥) → Apart (Some (record { job = taken.job; outcome = None })) o
        aways None is free = tt
        aways (Some other) is free = free other.job is.out

-- ---- run

away_from : (x : Option HeldSeen) (held now : HeldSeen) (y : Option HeldSeen) → x ≡ Some held → now.job ≡ held.job → Apart x y → Apart (Some now) y
away_from x held now None is same apart = tt
away_from x held now (Some other) is same apart = subst (λ (j : JobSeen). j.agent ≡ other.job.agent → ⊥) (sym same) (subst (λ o. Apart o (Some other)) is apart)

pub jobs_run : (means : Means) (old : Present) (a : ℕ) (held : HeldSeen) → old.jobs a ≡ Some held → AreJobs means old → AreJobs means (with_job old old.agents a (Some (run means held.job)))
jobs_run means old a held is are =
    let mine : IsHeld means old.agents.agents held = subst (λ o. WithJob o (IsHeld means old.agents.agents) (Unit {0})) is (are.held a) in
    put_all means old old.agents a (Some (run means held.job)) (record { out = mine.out; sound = mine.sound; released = mine.released; meant = refl })
    (λ b other. outs (old.jobs b) (are.held b))
    (λ b other. away_from (old.jobs a) held (run means held.job) (old.jobs b) is refl (are.apart a b (λ same. other (sym same))))
    (λ g is_out. owned_put old.jobs a (Some (run means held.job)) g (λ own. (a, subst (λ o. WithJob o (λ (x : HeldSeen). x.job.agent ≡ g) ⊥) (sym (put_here old.jobs a (Some (run means held.job)))) (subst (λ o. WithJob o (λ (x : HeldSeen). x.job.agent ≡ g) ⊥) is own))) (are.owned g is_out))
    are where
      outs : (o : Option HeldSeen) → WithJob o (IsHeld means old.agents.agents) (Unit {0}) → WithJob o (λ other. IsOut other.job other.job.agent (slice_get old.agents.agents other.job.agent)) (Unit {0})
      outs None is = tt
      outs (Some other) is = (is.out, is.sound, is.released)

-- ---- a job that is given up, whatever becomes of its agent

pub jobs_gone : (means : Means) (old : Present) (a : ℕ) (held : HeldSeen) (f : Agent → Agent) → ((agent : Agent) → (f agent).is_out ≡ false) → old.jobs a ≡ Some held → AreJobs means old → AreJobs means (with_job old (with_agents old.agents (change_agent old.agents.agents held.job.agent f)) a None)
jobs_gone means old a held f none is are =
    put_all means old (with_agents old.agents (change_agent old.agents.agents held.job.agent f)) a None tt
    (λ b other. outs (old.jobs b) (are.held b) (subst (λ o. Apart o (old.jobs b)) is (are.apart a b (λ same. other (sym same)))))
    (λ b other. tt)
    (λ g is_out.
    let away = away_ended old.agents.agents held.job.agent g f none is_out in
    owned_put old.jobs a None g (λ own. absurd (away.0 (subst (λ o. WithJob o (λ (x : HeldSeen). x.job.agent ≡ g) ⊥) is own))) (are.owned g away.1))
    are where
      outs : (o : Option HeldSeen) → WithJob o (IsHeld means old.agents.agents) (Unit {0}) → Apart (Some held) o → WithJob o (λ other. IsOut other.job other.job.agent (slice_get (change_agent old.agents.agents held.job.agent f) other.job.agent)) (Unit {0})
      outs None is apart = tt
      outs (Some other) is apart = out_elsewhere old.agents.agents held.job.agent f other.job.agent other.job apart (is.out, is.sound, is.released)
