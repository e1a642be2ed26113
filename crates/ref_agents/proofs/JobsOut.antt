-- Jobs that are handed out and come back.
use Rattle.std.proofs.Common.{◌≡◌, ◌∙◌, ℕ, Bool, true, false, ◌&&◌, List, [], ◌∷◌, Option, None, Some, IsTrue, is_some, slice_get, if◌then◌else◌, refl, sym, ap}
use Rattle.std.specs.Ordering.{eq_by_cmp}
use Rattle.ref_value.specs.Order.{edn_cmp}
use Rattle.ref_value.specs.OrderLaws.{edn_eq}
use Rattle.ref_agents.specs.Account.{number_of}
use Rattle.ref_fun.specs.Meaning.{Means}
use Rattle.ref_agents.specs.Agents.{AreAgents, head_job, job_out, out_if_here}
use Rattle.ref_agents.specs.Jobs.{JobSeen}
use Rattle.ref_agents.specs.declared.accounts.Queued.{Queued}
use Rattle.ref_agents.specs.declared.agents.Agent.{Agent}
use Rattle.ref_agents.proofs.Changed.{agent_at, not_both}

-- ---- the job that is on its way

abbrev pub made : ℕ → Agent → Queued → JobSeen
made g x q = record { agent = g; number = number_of x.account; action = q.action; state = x.value }

abbrev head_of : ℕ → Agent → Option Queued → Option JobSeen
head_of g x None = None
head_of g x (Some q) = Some (made g x q)

head : (g : ℕ) (x : Agent) (queue : List Queued) (q : Queued) → slice_get queue 0 ≡ Some q → head_job g x queue ≡ Some (made g x q)
head g x [] q is = cc
head g x (p ∷ ps) q is = ap (λ o. head_of g x o) is

pub out_here : (agents : List Agent) (g : ℕ) (x : Agent) (q : Queued) → slice_get agents g ≡ Some x → x.is_out ≡ true → slice_get x.account.queue 0 ≡ Some q → job_out agents g ≡ Some (made g x q)
out_here agents g x q is out first = rw (is, out) (head g x x.account.queue q first)

same_job : (a b : JobSeen) → a.agent ≡ b.agent → a.number ≡ b.number → a.action ≡ b.action → a.state ≡ b.state → a ≡ b
same_job a b agents numbers actions states = λ i. record { agent = agents i; number = numbers i; action = actions i; state = states i }

pub some_of : {T : Type 0} (a b : T) → Some a ≡ Some b → a ≡ b
some_of a b is = cc

-- where all but the states are equal
pub is_job : (agents : List Agent) (x : Agent) (q : Queued) (job : JobSeen) (r : Bool) → job_out agents job.agent ≡ Some (made job.agent x q)
    → job.number ≡ number_of x.account → job.action ≡ q.action → r ≡ eq_by_cmp edn_cmp job.state x.value
    → (IsTrue r → job_out agents job.agent ≡ Some job) × (job_out agents job.agent ≡ Some job → IsTrue r)
is_job agents x q job r out number action is =
    let states = edn_eq job.state x.value r is in (
      (λ t. out ∙ ap Some (same_job (made job.agent x q) job refl (sym number) (sym action) (sym (states.0 t)))),
      (λ same. states.1 (sym (ap (λ j. j.state) (some_of (made job.agent x q) job (sym out ∙ same))))),
    )

pub never : {P : Type 0} → (P → ⊥) → (IsTrue false → P) × (P → IsTrue false)
never isnt = (λ t. absurd (not_both refl t), λ p. absurd (isnt p))

is_then : (b : Bool) (o : Option JobSeen) (job : JobSeen) → (if b then o else None) ≡ Some job → b ≡ true
is_then true o job is = refl
is_then false o job is = cc

no_error : (out failed : Bool) → (out && failed) ≡ false → out ≡ true → failed ≡ false
no_error true failed single is = single
no_error false failed single is = absurd (not_both refl is)

pub flag_out : (agents : List Agent) (g : ℕ) (job : JobSeen) (x : Agent) → slice_get agents g ≡ Some x → job_out agents g ≡ Some job → x.is_out ≡ true
flag_out agents g job x is out = is_then x.is_out (head_job g x x.account.queue) job (sym (ap (λ o. out_if_here g o) is) ∙ out)

then_is : (b : Bool) (o : Option JobSeen) (job : JobSeen) → (if b then o else None) ≡ Some job → o ≡ Some job
then_is true o job is = is
then_is false o job is = cc

pub head_out : (agents : List Agent) (g : ℕ) (job : JobSeen) (x : Agent) → slice_get agents g ≡ Some x → job_out agents g ≡ Some job → head_job g x x.account.queue ≡ Some job
head_out agents g job x is out = then_is x.is_out (head_job g x x.account.queue) job (sym (ap (λ o. out_if_here g o) is) ∙ out)

-- and what its last action carried is released
pub out_idle : (means : Means) (agents : List Agent) (g : ℕ) (job : JobSeen) (x : Agent) → AreAgents means agents → job_out agents g ≡ Some job → slice_get agents g ≡ Some x → x.is_carrying ≡ false
out_idle means agents g job x are out is =
    no_error x.is_out x.is_carrying ((agent_at means agents g x are is).idle) (flag_out agents g job x is out)

-- an agent of which a job is on its way isn't failed
pub out_fine : (means : Means) (agents : List Agent) (g : ℕ) (job : JobSeen) (x : Agent) → AreAgents means agents → job_out agents g ≡ Some job → slice_get agents g ≡ Some x → is_some x.error ≡ false
out_fine means agents g job x are out is =
    no_error x.is_out (is_some x.error) ((agent_at means agents g x are is).single) (flag_out agents g job x is out)
