-- What each act on a job does, from what its calls tell.
use Rattle.std.proofs.Common.{true, false, ◌≡◌, ◌≢◌, ℕ, [], Option, None, Some, Result, Ok, Err, IfOk, OnOk, OnErr, refl, sym, ap, subst, ◌∙◌}
use Rattle.ref_value.specs.Edn.{Edn}
use Rattle.ref_fun.specs.Calls.{Known}
use Rattle.ref_fun.specs.declared.actions.Action.{Action}
use Rattle.ref_fun.specs.Meaning.{Means}
use Rattle.ref_fun.specs.Rule.{Accepts}
use Rattle.ref_fun.specs.declared.faults.Cause.{Cause}
use Rattle.ref_log.specs.Told.{TellsOrMemory}
use Rattle.ref_agents.specs.Agents.{job_out}
use Rattle.ref_agents.specs.Ends.{lacking}
use Rattle.ref_agents.specs.Jobs.{JobSeen}
use Rattle.ref_agents.specs.declared.faults.FinishFault.{FinishFault}
use Rattle.ref_agents.specs.declared.faults.FinishFault.TheVariants as finishes
use Rattle.ref_agents.specs.declared.faults.JobFault.{JobFault}
use Rattle.ref_agents.specs.declared.faults.JobFault.TheVariants as job_faults
use Rattle.ref_tx.specs.Inner.{send_refusal, with_sent}
use Rattle.ref_tx.specs.Seen.{TxSeen}
use Rattle.ref_tx.specs.declared.faults.TxFault.{TxFault}
use Rattle.ref_tx.specs.declared.faults.TxFault.TheVariants as txs
use Rattle.ref_play.specs.Present.{Becomes, Finishes, HeldSeen, Present, Runs, SendsInTx, WithJob, WithTx, put, run, run_refusal, with_tx}
use Rattle.ref_play.specs.declared.events.Reply.TheVariants as replies
use Rattle.ref_play.proofs.Puts.{put_here}
use Rattle.ref_play.proofs.Slots.{put_again, put_same}

-- ---- what is so where an actor has a job, and where one has run

pub job_some : (o : Option HeldSeen) (held : HeldSeen) (P : HeldSeen → Type 0) (Q : Type 0) → o ≡ Some held → P held → WithJob o P Q
job_some o held P Q is p = subst (λ x. WithJob x P Q) (sym is) p

-- an actor whose job was taken out has none
pub left_none : (old new : ℕ → Option HeldSeen) (a : ℕ) → new ≡ put old a None → new a ≡ None
left_none old new a is = ap (λ f. f a) is ∙ put_here old a None

pub still_none : (old new : ℕ → Option HeldSeen) (a : ℕ) → new ≡ old → old a ≡ None → new a ≡ None
still_none old new a is none = ap (λ f. f a) is ∙ none

-- what was taken out and is put back
back_as : (old left new : ℕ → Option HeldSeen) (a : ℕ) (now : HeldSeen) → left ≡ put old a None → new ≡ put left a (Some now) → new ≡ put old a (Some now)
back_as old left new a now took back = back ∙ (ap (λ f. put f a (Some now)) took ∙ put_again old a None (Some now))

pub back_same : (old left new : ℕ → Option HeldSeen) (a : ℕ) (held : HeldSeen) → old a ≡ Some held → left ≡ put old a None → new ≡ put left a (Some held) → new ≡ old
back_same old left new a held was took back = back_as old left new a held took back ∙ put_same old a (Some held) was

-- ---- run

module _ (means : Means) (knows : Known) (now : Present) (old left new : ℕ → Option HeldSeen) (a : ℕ) (is : now.jobs ≡ old) (took : left ≡ put old a None) where
  same : new ≡ old → record now { jobs = new } ≡ now
  same back = ap (λ f. record now { jobs = f }) (back ∙ sym is)

  pub run_busy : (job : JobSeen) (outcome : Result Edn Cause) → old a ≡ Some (record { job = job; outcome = Some outcome }) → new ≡ put left a (Some (record { job = job; outcome = Some outcome })) → Runs means knows now a replies.Busy [] (record now { jobs = new })
  run_busy job outcome was back = job_some (now.jobs a) (record { job = job; outcome = Some outcome }) _ _ (ap (λ f. f a) is ∙ was) (refl, (refl, same (back_same old left new a _ was took back)))

  pub run_done : (job : JobSeen) (outcome : Result Edn Cause) → old a ≡ Some (record { job = job; outcome = None }) → knows.funs job.action.code ≡ true → means job.action.code job.action.args job.state ≡ outcome
      → new ≡ put left a (Some (record { job = job; outcome = Some outcome })) → Runs means knows now a (replies.Run (Ok tt)) [] (record now { jobs = new })
  run_done job outcome was known meant back = job_some (now.jobs a) (record { job = job; outcome = None }) _ _ (ap (λ f. f a) is ∙ was)
      (Ok tt, refl, none, (refl, ap (λ f. record now { jobs = f }) jobs), tt) where
        none : run_refusal knows.funs job ≡ None
        none = rw known refl

        jobs : new ≡ put now.jobs a (Some (run means job))
        jobs = back_as old left new a _ took back ∙ (ap (λ o. put old a (Some (record { job = job; outcome = Some o }))) (sym meant) ∙ ap (λ f. put f a (Some (run means job))) (sym is))

  pub run_refused : (job : JobSeen) (f : JobFault) → old a ≡ Some (record { job = job; outcome = None }) → (f ≢ job_faults.Memory → f ≡ job_faults.NoSuchFun job.action.code) → (f ≢ job_faults.Memory → knows.funs job.action.code ≡ false) → (f ≡ job_faults.Memory → knows.funs job.action.code ≡ true)
      → new ≡ put left a (Some (record { job = job; outcome = None })) → Runs means knows now a (replies.Run (Err f)) [] (record now { jobs = new })
  run_refused job f was fault lacks grows back = job_some (now.jobs a) (record { job = job; outcome = None }) _ _ (ap (λ g. g a) is ∙ was)
      (Err f, refl, (told, memory), tt, (refl, same (back_same old left new a _ was took back))) where
        told : f ≢ job_faults.Memory → run_refusal knows.funs job ≡ Some f
        told other = rw (lacks other) (ap Some (sym (fault other)))

        memory : f ≡ job_faults.Memory → run_refusal knows.funs job ≡ None
        memory is = rw (grows is) refl

-- ---- finish

module _ (accepts : Accepts) (knows : Known) (now then : Present) (old left new : ℕ → Option HeldSeen) (a : ℕ) (is : now.jobs ≡ old) (took : left ≡ put old a None) where
  pub finish_busy : (job : JobSeen) → old a ≡ Some (record { job = job; outcome = None }) → new ≡ put left a (Some (record { job = job; outcome = None })) → then ≡ record now { jobs = new } → Finishes accepts knows now a replies.Busy [] then
  finish_busy job was back eq = job_some (now.jobs a) (record { job = job; outcome = None }) _ _ (ap (λ f. f a) is ∙ was)
      (refl, (refl, eq ∙ ap (λ f. record now { jobs = f }) (back_same old left new a _ was took back ∙ sym is)))

  pub finish_refused : (job : JobSeen) (outcome : Result Edn Cause) (f : FinishFault) → old a ≡ Some (record { job = job; outcome = Some outcome }) → new ≡ put left a (Some (record { job = job; outcome = Some outcome })) → then ≡ record now { jobs = new }
      → job_out now.agents.agents job.agent ≡ Some job → (f ≡ finishes.Foreign → job_out now.agents.agents job.agent ≢ Some job)
      → (f ≢ finishes.Foreign → f ≢ finishes.Memory → lacking knows.preds now.agents job ≡ Some f) → (f ≡ finishes.Memory → lacking knows.preds now.agents job ≡ None) → Finishes accepts knows now a (replies.Finish (Err f)) [] then
  finish_refused job outcome f was back eq out foreign lacks grows = job_some (now.jobs a) (record { job = job; outcome = Some outcome }) _ _ (ap (λ g. g a) is ∙ was)
      (Err f, refl, (λ other. lacks (λ stranger. foreign stranger out) other, grows), tt, (refl, eq ∙ ap (λ g. record now { jobs = g }) (back_same old left new a _ was took back ∙ sym is)))

-- ---- a send of a transaction

tx_some : (o : Option TxSeen) (tx : TxSeen) (P : TxSeen → Type 0) (Q : Type 0) → o ≡ Some tx → P tx → WithTx o P Q
tx_some o tx P Q is p = subst (λ x. WithTx x P Q) (sym is) p

tells_late : {T Fault : Type 0} (memory : Fault) (early reason : Option Fault) (told : Result T Fault) → TellsOrMemory memory early reason told → TellsOrMemory memory None reason told
tells_late memory early reason (Ok x) is = is
tells_late memory early reason (Err f) is = (is.0, λ want. refl)

module _ (knows : Known) (now : Present) (old left new : ℕ → Option TxSeen) (a : ℕ) (is : now.txs ≡ old) (took : left ≡ put old a None) where
  pub sent_in_tx : (tx after : TxSeen) (g : ℕ) (action : Action) (told : Result (Unit {0}) TxFault) (early : Option TxFault) → Some tx ≡ old a → TellsOrMemory txs.Memory early (send_refusal knows.funs tx g action) told
      → OnOk told (after ≡ with_sent tx g action) → OnErr told (after ≡ tx) → new ≡ put left a (Some after) → SendsInTx knows now a g action (replies.SendInTx told) [] (record now { txs = new })
  sent_in_tx tx after g action told early was tells adds stays back = tx_some (now.txs a) tx _ _ (ap (λ f. f a) is ∙ sym was)
      (told, refl, tells_late txs.Memory early (send_refusal knows.funs tx g action) told tells, more told adds, same_tx told stays) where
        slots : new ≡ put old a (Some after)
        slots = back ∙ (ap (λ f. put f a (Some after)) took ∙ put_again old a None (Some after))

        more : (x : Result (Unit {0}) TxFault) → OnOk x (after ≡ with_sent tx g action) → IfOk x (λ u. Becomes (with_tx now a (Some (with_sent tx g action))) [] (record now { txs = new }))
        more (Ok u) adds = (refl, ap (λ f. record now { txs = f }) (slots ∙ (ap (λ t. put old a (Some t)) adds ∙ ap (λ f. put f a (Some (with_sent tx g action))) (sym is))))
        more (Err f) adds = tt

        same_tx : (x : Result (Unit {0}) TxFault) → OnErr x (after ≡ tx) → OnErr x (Becomes now [] (record now { txs = new }))
        same_tx (Ok u) stays = tt
        same_tx (Err f) stays = (refl, ap (λ f. record now { txs = f }) (slots ∙ (ap (λ t. put old a (Some t)) stays ∙ (put_same old a (Some tx) (sym was) ∙ sym is))))
