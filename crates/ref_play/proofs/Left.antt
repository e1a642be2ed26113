-- What an act leaves its actor: its transaction and its job.
use Rattle.std.proofs.Common.{◌≡◌, ◌≢◌, ℕ, List, Option, None, Some, Result, Ok, Err, IfOk, OnErr, refl, sym, ap, subst, ◌∙◌}
use Rattle.ref_value.specs.Edn.{Edn}
use Rattle.ref_fun.specs.Calls.{Known}
use Rattle.ref_fun.specs.Meaning.{Means}
use Rattle.ref_fun.specs.Rule.{Accepts}
use Rattle.ref_fun.specs.declared.actions.Action.{Action}
use Rattle.ref_fun.specs.declared.faults.Cause.{Cause}
use Rattle.ref_log.specs.declared.entries.Entry.{Entry}
use Rattle.ref_log.specs.declared.notices.Who.{Who}
use Rattle.ref_log.specs.declared.notices.Who.TheVariants as who
use Rattle.ref_log.specs.declared.guards.Guard.{Guard}
use Rattle.ref_log.specs.declared.operations.Op.{Op}
use Rattle.ref_log.specs.declared.operations.Op.TheVariants.{Set, Alter, Commute, Ensure}
use Rattle.ref_tx.specs.Seen.{TxSeen}
use Rattle.ref_tx.specs.declared.faults.TxFault.{TxFault}
use Rattle.ref_atoms.specs.declared.changes.Cas.{Cas}
use Rattle.ref_atoms.specs.declared.changes.Swapped.{Swapped}
use Rattle.ref_atoms.specs.declared.faults.AtomFault.{AtomFault}
use Rattle.std.proofs.Common.{Bool, true, false}
use Rattle.ref_play.specs.Laws.{IsLeft, and_done, and_sent, left_open}
use Rattle.ref_play.specs.Present.{Acts, Anything, Becomes, Calls, HeldSeen, IsCompared, Operates, Present, Swaps, TakesAny, WithJob, WithRun, WithTx, begun, put, ran_of, run, run_refusal, with_atom, with_guards, with_job, with_tx}
use Rattle.ref_play.specs.declared.events.Act.{Act}
use Rattle.ref_play.specs.declared.events.Act.TheVariants as acts
use Rattle.ref_play.specs.declared.events.Reply.{Reply}
use Rattle.ref_play.specs.declared.events.Reply.TheVariants as replies
use Rattle.ref_agents.specs.Agents.{with_out}
use Rattle.ref_agents.specs.Ends.{IsAnswerOf, lacking, with_finish}
use Rattle.ref_agents.specs.declared.faults.FinishFault.TheVariants as finishes
use Rattle.ref_agents.specs.declared.faults.JobFault.TheVariants as job_faults
use Rattle.ref_log.specs.Told.{TellsThenMemory}
use Rattle.ref_log.specs.declared.entries.Stamp.{Stamp}
use Rattle.ref_tx.specs.Inner.{with_done, with_sent}
use Rattle.ref_play.proofs.Puts.{put_here}

module _ (means : Means) (accepts : Accepts) (knows : Known) (old : Present) (a : ℕ) where
  abbrev Left : Act → Reply → Present → Type 0
  Left act reply new = (new.txs a ≡ left_open old (old.txs a) act reply) × IsLeft means (old.jobs a) act reply (new.jobs a)

  -- by equations
  by_equations : (act : Act) (reply told : Reply) (new now : Present) → reply ≡ told → new ≡ now → Left act told now → Left act reply new
  by_equations act reply told new now r is left = subst (λ x. Left act x new) (sym r) (subst (λ x. Left act told x) (sym is) left)

  -- where both stay
  stays : (act : Act) (reply told : Reply) (new now : Present) → reply ≡ told → new ≡ now → now.txs ≡ old.txs → now.jobs ≡ old.jobs → left_open old (old.txs a) act told ≡ old.txs a → (old.jobs a ≡ old.jobs a → IsLeft means (old.jobs a) act told (old.jobs a)) → Left act reply new
  stays act reply told new now r is txs jobs fixed held = by_equations act reply told new now r is
      (ap (λ f. f a) txs ∙ sym fixed, subst (λ f. IsLeft means (old.jobs a) act told (f a)) (sym jobs) (held refl))

  -- a call
  calls : {T Fault : Type 0} (act : Act) (tell : Result T Fault → Reply) (Fits : Result T Fault → Type 0) (done : T → Type 0) (reply : Reply) (added : List Entry) (new : Present)
      → ((f : Fault) → left_open old (old.txs a) act (tell (Err f)) ≡ old.txs a) → ((f : Fault) → IsLeft means (old.jobs a) act (tell (Err f)) (old.jobs a)) → ((x : T) → done x → Left act (tell (Ok x)) new) → Calls tell Fits done old reply added new → Left act reply new
  calls {T} {Fault} act tell Fits done reply added new fixed held each did = by did.0 did.1 did.3 did.4 where
    by : (told : Result T Fault) → reply ≡ tell told → IfOk told done → OnErr told (Becomes old added new) → Left act reply new
    by (Ok x) t ok err = subst (λ y. Left act y new) (sym t) (each x ok)
    by (Err f) t ok err = stays act reply (tell (Err f)) new old t err.1 refl refl (fixed f) (λ e. held f)

  on_tx : (act : Act) (reply : Reply) (added : List Entry) (new : Present) (P : TxSeen → Type 0) (tx : Option TxSeen) → old.txs a ≡ tx → left_open old (old.txs a) act replies.NoTx ≡ old.txs a → IsLeft means (old.jobs a) act replies.NoTx (old.jobs a)
      → ((t : TxSeen) → old.txs a ≡ Some t → P t → Left act reply new) → WithTx tx P ((reply ≡ replies.NoTx) × Becomes old added new) → Left act reply new
  on_tx act reply added new P None is fixed held each h = stays act reply replies.NoTx new old h.0 h.1.1 refl refl fixed (λ e. held)
  on_tx act reply added new P (Some tx) is fixed held each h = each tx is h

  on_job : (act : Act) (reply : Reply) (added : List Entry) (new : Present) (P : HeldSeen → Type 0) (o : Option HeldSeen) → old.jobs a ≡ o → left_open old (old.txs a) act replies.NoJob ≡ old.txs a → IsLeft means (old.jobs a) act replies.NoJob (old.jobs a)
      → ((held : HeldSeen) → old.jobs a ≡ Some held → P held → Left act reply new) → WithJob o P ((reply ≡ replies.NoJob) × Becomes old added new) → Left act reply new
  on_job act reply added new P None is fixed held each h = stays act reply replies.NoJob new old h.0 h.1.1 refl refl fixed (λ e. held)
  on_job act reply added new P (Some held) is fixed none each h = each held is h

  left_operate : (act : Act) (r : ℕ) (op : Op) (tell : Result Edn TxFault → Reply) (reply : Reply) (added : List Entry) (new : Present) → left_open old (old.txs a) act replies.NoTx ≡ old.txs a → IsLeft means (old.jobs a) act replies.NoTx (old.jobs a)
      → ((f : TxFault) → left_open old (old.txs a) act (tell (Err f)) ≡ old.txs a) → ((f : TxFault) → IsLeft means (old.jobs a) act (tell (Err f)) (old.jobs a)) → ((v : Edn) → left_open old (old.txs a) act (tell (Ok v)) ≡ and_done (old.txs a) r op v)
      → ((v : Edn) → IsLeft means (old.jobs a) act (tell (Ok v)) (old.jobs a)) → Operates means knows old a r op tell reply added new → Left act reply new
  left_operate act r op tell reply added new fixed held err_open err_held ok_open ok_held did = on_tx act reply added new _ (old.txs a) refl fixed held
      (λ tx is h. calls act tell _ _ reply added new err_open err_held (λ v done. by_equations act (tell (Ok v)) (tell (Ok v)) new (with_tx old a (Some (with_done tx r op v))) refl done.1
      (put_here old.txs a (Some (with_done tx r op v)) ∙ (ap (λ o. and_done o r op v) (sym is) ∙ sym (ok_open v)), ok_held v)) h) did

  left_begin : (reply : Reply) (added : List Entry) (new : Present) → Acts means accepts knows old a acts.Begin reply added new → Left acts.Begin reply new
  left_begin reply added new did = by (old.txs a) refl did where
    by : (tx : Option TxSeen) → old.txs a ≡ tx → WithTx tx (λ tx. (reply ≡ replies.Busy) × Becomes old added new)
        (Calls replies.Begin Anything (λ p. (p ≡ old.point) × Becomes (with_tx old a (Some (begun old))) added new) old reply added new) → Left acts.Begin reply new
    by (Some tx) is h = stays acts.Begin reply replies.Busy new old h.0 h.1.1 refl refl refl (λ e. e)
    by None is h = calls acts.Begin replies.Begin Anything _ reply added new (λ f. refl) (λ f. refl)
        (λ p ok. by_equations acts.Begin (replies.Begin (Ok p)) (replies.Begin (Ok p)) new (with_tx old a (Some (begun old))) refl ok.1.1 (put_here old.txs a (Some (begun old)), refl)) h

  left_send_in_tx : (g : ℕ) (action : Action) (reply : Reply) (added : List Entry) (new : Present) → Acts means accepts knows old a (acts.SendInTx g action) reply added new → Left (acts.SendInTx g action) reply new
  left_send_in_tx g action reply added new did =
      let act = acts.SendInTx g action in
      on_tx act reply added new _ (old.txs a) refl refl refl
      (λ tx is h. calls act replies.SendInTx _ _ reply added new (λ f. refl) (λ f. refl) (λ u done. by_equations act (replies.SendInTx (Ok u)) (replies.SendInTx (Ok u)) new (with_tx old a (Some (with_sent tx g action))) refl done.1
      (put_here old.txs a (Some (with_sent tx g action)) ∙ ap (λ o. and_sent o g action) (sym is), refl)) h) did

  left_abort : (reply : Reply) (added : List Entry) (new : Present) → Acts means accepts knows old a acts.Abort reply added new → Left acts.Abort reply new
  left_abort reply added new did = on_tx acts.Abort reply added new _ (old.txs a) refl refl refl
      (λ tx is h. by_equations acts.Abort reply replies.Abort new (with_tx old a None) h.0 h.1.1 (put_here old.txs a None, refl)) did

  left_commit : (stamp : Stamp) (reply : Reply) (added : List Entry) (new : Present) → Acts means accepts knows old a (acts.Commit stamp) reply added new → Left (acts.Commit stamp) reply new
  left_commit stamp reply added new did = on_tx (acts.Commit stamp) reply added new _ (old.txs a) refl refl refl
      (λ tx is h. calls (acts.Commit stamp) replies.Commit _ _ reply added new (λ f. refl) (λ f. refl)
      (λ receipt ok. (ap (λ f. f a) ok.closed ∙ put_here old.txs a None, ap (λ f. f a) ok.jobs)) h) did

  left_swap : (act : Act) (n : ℕ) (op : Op) (tell : Result Swapped AtomFault → Reply) (reply : Reply) (added : List Entry) (new : Present) → ((told : Result Swapped AtomFault) → left_open old (old.txs a) act (tell told) ≡ old.txs a)
      → ((told : Result Swapped AtomFault) → IsLeft means (old.jobs a) act (tell told) (old.jobs a)) → Swaps means accepts knows old n op tell reply added new → Left act reply new
  left_swap act n op tell reply added new fixed held did = calls act tell _ _ reply added new (λ f. fixed (Err f)) (λ f. held (Err f))
      (λ s ok. stays act (tell (Ok s)) (tell (Ok s)) new (with_atom old n op s.new) refl ok.after.1 refl refl (fixed (Ok s)) (λ e. held (Ok s))) did

  left_compare : (n : ℕ) (was v : Edn) (reply : Reply) (added : List Entry) (new : Present) → Acts means accepts knows old a (acts.CompareAndSet n was v) reply added new → Left (acts.CompareAndSet n was v) reply new
  left_compare n was v reply added new did =
      let act = acts.CompareAndSet n was v in
      calls act replies.CompareAndSet _ _ reply added new (λ f. refl) (λ f. refl) (λ cas ok. by cas cas.done refl ok) did where
        by : (cas : Cas) (b : Bool) → cas.done ≡ b → IsCompared old n was v cas added new → Left (acts.CompareAndSet n was v) (replies.CompareAndSet (Ok cas)) new
        by cas true done ok = stays (acts.CompareAndSet n was v) (replies.CompareAndSet (Ok cas)) (replies.CompareAndSet (Ok cas)) new (with_atom old n (Set v) v) refl (ok.sets done).0.1 refl refl refl (λ e. e)
        by cas false done ok = stays (acts.CompareAndSet n was v) (replies.CompareAndSet (Ok cas)) (replies.CompareAndSet (Ok cas)) new old refl (ok.leaves done).0.1 refl refl refl (λ e. e)

  guards_txs : (w : Who) (gs : List Guard) → (with_guards old w gs).txs ≡ old.txs
  guards_txs (who.Ref r) gs = refl
  guards_txs (who.Atom n) gs = refl
  guards_txs (who.Agent g) gs = refl

  guards_jobs : (w : Who) (gs : List Guard) → (with_guards old w gs).jobs ≡ old.jobs
  guards_jobs (who.Ref r) gs = refl
  guards_jobs (who.Atom n) gs = refl
  guards_jobs (who.Agent g) gs = refl

  left_take : (reply : Reply) (added : List Entry) (new : Present) → Acts means accepts knows old a acts.Take reply added new → Left acts.Take reply new
  left_take reply added new did = by (old.jobs a) refl did where
    found : (told : Option (ℕ × ℕ)) → old.jobs a ≡ None → TakesAny old a added new told → Left acts.Take (replies.Take (Ok told)) new
    found None free ok = stays acts.Take (replies.Take (Ok None)) (replies.Take (Ok None)) new old refl ok.1.1 refl refl refl (λ e. e)
    found (Some told) free ok =
        let fresh : HeldSeen = record { job = ok.job; outcome = None } in
        by_equations acts.Take (replies.Take (Ok (Some told))) (replies.Take (Ok (Some told))) new (with_job old (with_out old.agents ok.job.agent true) a (Some fresh)) refl ok.after.1
        (refl, (free, subst (λ o. WithJob o (λ held. (told ≡ (held.job.agent, held.job.number)) × (held.outcome ≡ None)) ⊥) (sym (put_here old.jobs a (Some fresh))) (ok.named, refl)))

    by : (o : Option HeldSeen) → old.jobs a ≡ o → WithJob o (λ held. (reply ≡ replies.Busy) × Becomes old added new) (Calls replies.Take Anything (TakesAny old a added new) old reply added new) → Left acts.Take reply new
    by (Some held) is h = stays acts.Take reply replies.Busy new old h.0 h.1.1 refl refl refl (λ e. e)
    by None is h = calls acts.Take replies.Take Anything (TakesAny old a added new) reply added new (λ f. refl) (λ f. refl) (λ told ok. found told is ok) h

  left_run : (reply : Reply) (added : List Entry) (new : Present) → Acts means accepts knows old a acts.Run reply added new → Left acts.Run reply new
  left_run reply added new did = on_job acts.Run reply added new _ (old.jobs a) refl refl refl (λ held is h. by held is held.outcome refl h) did where
    by : (held : HeldSeen) → old.jobs a ≡ Some held → (o : Option (Result Edn Cause)) → held.outcome ≡ o → WithRun o
        (Calls replies.Run (TellsThenMemory job_faults.Memory (run_refusal knows.funs held.job)) (λ u. Becomes (with_job old old.agents a (Some (run means held.job))) added new) old reply added new)
        (λ outcome. (reply ≡ replies.Busy) × Becomes old added new) → Left acts.Run reply new
    by held is None fresh h = calls acts.Run replies.Run _ _ reply added new (λ f. refl) (λ f. refl)
        (λ u ok. by_equations acts.Run (replies.Run (Ok u)) (replies.Run (Ok u)) new (with_job old old.agents a (Some (run means held.job))) refl ok.1
        (refl, subst (λ o. WithJob o (λ h. (h.outcome ≡ None) × (put old.jobs a (Some (run means held.job)) a ≡ Some (record h { outcome = Some (means h.job.action.code h.job.action.args h.job.state) }))) ⊥) (sym is) (fresh, put_here old.jobs a (Some (run means held.job))))) h
    by held is (Some outcome) ran h = stays acts.Run reply replies.Busy new old h.0 h.1.1 refl refl refl (λ e. e)

  left_put_back : (reply : Reply) (added : List Entry) (new : Present) → Acts means accepts knows old a acts.PutBack reply added new → Left acts.PutBack reply new
  left_put_back reply added new did = on_job acts.PutBack reply added new _ (old.jobs a) refl refl refl
      (λ held is h. by_equations acts.PutBack reply replies.PutBack new (with_job old (with_out old.agents held.job.agent false) a None) h.0 h.1.1
      (refl, subst (λ o. WithJob o (λ h. put old.jobs a None a ≡ None) ⊥) (sym is) (put_here old.jobs a None))) did

  left_finish : (reply : Reply) (added : List Entry) (new : Present) → Acts means accepts knows old a acts.Finish reply added new → Left acts.Finish reply new
  left_finish reply added new did = on_job acts.Finish reply added new _ (old.jobs a) refl refl refl (λ held is h. by held is held.outcome refl h) did where
    by : (held : HeldSeen) → old.jobs a ≡ Some held → (o : Option (Result Edn Cause)) → held.outcome ≡ o → WithRun o ((reply ≡ replies.Busy) × Becomes old added new)
        (λ outcome. Calls replies.Finish (TellsThenMemory finishes.Memory (lacking knows.preds old.agents held.job))
        (λ finished. IsAnswerOf accepts old.agents (ran_of held outcome) finished × Becomes (with_job old (with_finish accepts old.agents (ran_of held outcome)) a None) added new) old reply added new) → Left acts.Finish reply new
    by held is None fresh h = stays acts.Finish reply replies.Busy new old h.0 h.1.1 refl refl refl (λ e. e)
    by held is (Some outcome) ran h = calls acts.Finish replies.Finish _ _ reply added new (λ f. refl) (λ f. refl)
        (λ f ok. by_equations acts.Finish (replies.Finish (Ok f)) (replies.Finish (Ok f)) new (with_job old (with_finish accepts old.agents (ran_of held outcome)) a None) refl ok.1.1
        (refl, subst (λ o. WithJob o (λ h. (h.outcome ≢ None) × (put old.jobs a None a ≡ None)) ⊥) (sym is) (some_ran held.outcome outcome ran, put_here old.jobs a None))) h where
          some_ran : (o : Option (Result Edn Cause)) (outcome : Result Edn Cause) → o ≡ Some outcome → o ≡ None → ⊥
          some_ran o outcome is none = absurd (no outcome (sym is ∙ none)) where
            no : (outcome : Result Edn Cause) → Some outcome ≡ None → ⊥
            no outcome is = cc

  pub left : (act : Act) (reply : Reply) (added : List Entry) (new : Present) → Acts means accepts knows old a act reply added new → Left act reply new
  left acts.Begin reply added new did = left_begin reply added new did
  left (acts.Deref r) reply added new did = on_tx (acts.Deref r) reply added new _ (old.txs a) refl refl refl
      (λ tx is h. calls (acts.Deref r) replies.Deref _ _ reply added new (λ f. refl) (λ f. refl) (λ v ok. stays (acts.Deref r) (replies.Deref (Ok v)) (replies.Deref (Ok v)) new old refl ok.1 refl refl refl (λ e. e)) h) did
  left (acts.RefSet r v) reply added new did = left_operate (acts.RefSet r v) r (Set v) replies.RefSet reply added new refl refl (λ f. refl) (λ f. refl) (λ w. refl) (λ w. refl) did
  left (acts.Alter r code args) reply added new did = left_operate (acts.Alter r code args) r (Alter code args) replies.Alter reply added new refl refl (λ f. refl) (λ f. refl) (λ w. refl) (λ w. refl) did
  left (acts.Commute r code args) reply added new did = left_operate (acts.Commute r code args) r (Commute code args) replies.Commute reply added new refl refl (λ f. refl) (λ f. refl) (λ w. refl) (λ w. refl) did
  left (acts.Ensure r) reply added new did = left_operate (acts.Ensure r) r Ensure replies.Ensure reply added new refl refl (λ f. refl) (λ f. refl) (λ w. refl) (λ w. refl) did
  left (acts.SendInTx g action) reply added new did = left_send_in_tx g action reply added new did
  left (acts.Require r rule) reply added new did = on_tx (acts.Require r rule) reply added new _ (old.txs a) refl refl refl
      (λ tx is h. calls (acts.Require r rule) replies.Require _ _ reply added new (λ f. refl) (λ f. refl) (λ u ok. stays (acts.Require r rule) (replies.Require (Ok u)) (replies.Require (Ok u)) new old refl ok.1 refl refl refl (λ e. e)) h) did
  left acts.ReadPoint reply added new did = on_tx acts.ReadPoint reply added new _ (old.txs a) refl refl refl (λ tx is h. stays acts.ReadPoint reply (replies.ReadPoint tx.read_point) new old h.0 h.1.1 refl refl refl (λ e. e)) did
  left (acts.Commit stamp) reply added new did = left_commit stamp reply added new did
  left acts.Abort reply added new did = left_abort reply added new did
  left (acts.Release point) reply added new did = stays (acts.Release point) reply _ new _ did.0 did.1.1 refl refl refl (λ e. e)
  left (acts.ReleaseCarried g) reply added new did = stays (acts.ReleaseCarried g) reply _ new _ did.0 did.1.1 refl refl refl (λ e. e)
  left (acts.Swap n code args) reply added new did = left_swap (acts.Swap n code args) n (Alter code args) replies.Swap reply added new (λ t. refl) (λ t. refl) did
  left (acts.Reset n v) reply added new did = left_swap (acts.Reset n v) n (Set v) replies.Reset reply added new (λ t. refl) (λ t. refl) did
  left (acts.CompareAndSet n was v) reply added new did = left_compare n was v reply added new did
  left (acts.Send g action) reply added new did = calls (acts.Send g action) replies.Send _ _ reply added new (λ f. refl) (λ f. refl) (λ u ok. stays (acts.Send g action) (replies.Send (Ok u)) (replies.Send (Ok u)) new _ refl ok.1 refl refl refl (λ e. e)) did
  left acts.Take reply added new did = left_take reply added new did
  left acts.Run reply added new did = left_run reply added new did
  left acts.PutBack reply added new did = left_put_back reply added new did
  left acts.Finish reply added new did = left_finish reply added new did
  left (acts.Restart g state clear) reply added new did = calls (acts.Restart g state clear) replies.Restart _ _ reply added new (λ f. refl) (λ f. refl) (λ u ok. stays (acts.Restart g state clear) (replies.Restart (Ok u)) (replies.Restart (Ok u)) new _ refl ok.1 refl refl refl (λ e. e)) did
  left (acts.SetErrorMode g mode) reply added new did = calls (acts.SetErrorMode g mode) replies.SetErrorMode _ _ reply added new (λ f. refl) (λ f. refl) (λ u ok. stays (acts.SetErrorMode g mode) (replies.SetErrorMode (Ok u)) (replies.SetErrorMode (Ok u)) new _ refl ok.1 refl refl refl (λ e. e)) did
  left (acts.Fold g) reply added new did = calls (acts.Fold g) replies.Fold _ _ reply added new (λ f. refl) (λ f. refl) (λ done ok. stays (acts.Fold g) (replies.Fold (Ok done)) (replies.Fold (Ok done)) new _ refl ok.1 refl refl refl (λ e. e)) did
  left (acts.SetValidator w rule) reply added new did = calls (acts.SetValidator w rule) replies.SetValidator _ _ reply added new (λ f. refl) (λ f. refl) (λ u ok. stays (acts.SetValidator w rule) (replies.SetValidator (Ok u)) (replies.SetValidator (Ok u)) new _ refl ok.1 (guards_txs w _) (guards_jobs w _) refl (λ e. e)) did
  left (acts.AddWatch w key) reply added new did = calls (acts.AddWatch w key) replies.AddWatch _ _ reply added new (λ f. refl) (λ f. refl) (λ is_new ok. stays (acts.AddWatch w key) (replies.AddWatch (Ok is_new)) (replies.AddWatch (Ok is_new)) new _ refl ok.1 (guards_txs w _) (guards_jobs w _) refl (λ e. e)) did
  left (acts.RemoveWatch w key) reply added new did = stays (acts.RemoveWatch w key) reply _ new _ did.0 did.1.1 (guards_txs w _) (guards_jobs w _) refl (λ e. e)
  left (acts.MakeRef value rule tally) reply added new did = calls (acts.MakeRef value rule tally) replies.MakeRef _ _ reply added new (λ f. refl) (λ f. refl) (λ r ok. stays (acts.MakeRef value rule tally) (replies.MakeRef (Ok r)) (replies.MakeRef (Ok r)) new _ refl ok.1.1 refl refl refl (λ e. e)) did
  left (acts.MakeAtom value rule) reply added new did = calls (acts.MakeAtom value rule) replies.MakeAtom _ _ reply added new (λ f. refl) (λ f. refl) (λ n ok. stays (acts.MakeAtom value rule) (replies.MakeAtom (Ok n)) (replies.MakeAtom (Ok n)) new _ refl ok.1.1 refl refl refl (λ e. e)) did
  left (acts.MakeAgent value rule mode) reply added new did = calls (acts.MakeAgent value rule mode) replies.MakeAgent _ _ reply added new (λ f. refl) (λ f. refl) (λ g ok. stays (acts.MakeAgent value rule mode) (replies.MakeAgent (Ok g)) (replies.MakeAgent (Ok g)) new _ refl ok.1.1 refl refl refl (λ e. e)) did
  left (acts.Checkpoint p) reply added new did = stays (acts.Checkpoint p) reply (replies.Checkpoint did.0) new old did.1 did.2.1 refl refl refl (λ e. e)
  left (acts.ValueOf w) reply added new did = calls (acts.ValueOf w) replies.ValueOf _ _ reply added new (λ f. refl) (λ f. refl) (λ v ok. stays (acts.ValueOf w) (replies.ValueOf (Ok v)) (replies.ValueOf (Ok v)) new old refl ok.1 refl refl refl (λ e. e)) did
  left (acts.RuleOf w) reply added new did = calls (acts.RuleOf w) replies.RuleOf _ _ reply added new (λ f. refl) (λ f. refl) (λ rule ok. stays (acts.RuleOf w) (replies.RuleOf (Ok rule)) (replies.RuleOf (Ok rule)) new old refl ok.1 refl refl refl (λ e. e)) did
  left (acts.ErrorOf g) reply added new did = stays (acts.ErrorOf g) reply _ new old did.0 did.1.1 refl refl refl (λ e. e)
