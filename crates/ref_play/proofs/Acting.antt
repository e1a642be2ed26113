-- What an act leaves of what is always so.
use Rattle.std.proofs.Common.{◌≡◌, ◌≢◌, ℕ, zero, suc, cond, ◌+◌, ◌≤◌, ◌^◌, ◌&&◌, ◌||◌, not, nat_lt, Bool, true, false, if◌then◌else◌, is_some, List, [], ◌∷◌, ◌++◌, length, length-append, Option, None, Some, Result, Ok, Err, IfOk, OnErr, slice_get, slice_set, take, refl, sym, ap, subst, ◌∙◌, arith, inl}
use Rattle.std.specs.List.{AllByRecursion}
use Rattle.std.specs.Option.{option_map, option_or}
use Rattle.std.proofs.lemmas.Bool.{and_from, and_parts, ltb-false}
use Rattle.std.proofs.lemmas.List.{append-nil}
use Rattle.std.proofs.lemmas.List.Folds.{list_all-append}
use Rattle.std.specs.declared.alloc.AllocError.{AllocError}
use Rattle.ref_value.specs.Edn.{Edn}
use Rattle.ref_fun.specs.Calls.{Known}
use Rattle.ref_fun.specs.Meaning.{Means}
use Rattle.ref_fun.specs.Rule.{Accepts, is_known, passes, unknown}
use Rattle.ref_fun.specs.declared.rules.Rule.{Rule}
use Rattle.ref_log.specs.Guards.{are_known, change_if_here, rule_at, rule_fault, rule_refusal, with_rule}
use Rattle.ref_log.specs.declared.notices.Who.{Who}
use Rattle.ref_log.specs.declared.notices.Who.TheVariants as who
use Rattle.ref_atoms.specs.Change.{change_refusal, late_refusal, past_points, refusal_if_here}
use Rattle.ref_atoms.specs.Change as atom_changes
use Rattle.ref_atoms.specs.declared.changes.Swapped.{Swapped}
use Rattle.ref_atoms.specs.declared.faults.AtomFault.{AtomFault}
use Rattle.ref_atoms.specs.declared.faults.AtomFault.TheVariants as atoms
use Rattle.ref_log.specs.Replay.{after_dones, is_protected, is_set, place, point_after}
use Rattle.ref_log.specs.Laws.{refs_of}
use Rattle.ref_log.specs.Told.{AnswersOrMemory, TellsOrMemory}
use Rattle.ref_log.specs.declared.entries.Entry.{Entry}
use Rattle.ref_log.specs.declared.entries.Entry.TheVariants.{Atom, MadeAtom, MadeRef}
use Rattle.ref_log.specs.declared.entries.Stamp.{Stamp}
use Rattle.ref_log.specs.declared.guards.Guard.{Guard}
use Rattle.ref_log.specs.Tally.{is_count}
use Rattle.ref_log.specs.declared.faults.MakeFault.{MakeFault}
use Rattle.ref_log.specs.declared.faults.MakeFault.TheVariants as make_faults
use Rattle.ref_log.specs.declared.operations.Op.{Op}
use Rattle.ref_log.specs.declared.operations.Op.TheVariants.{Set, Alter, Commute, Ensure}
use Rattle.ref_log.specs.declared.states.Base.{Base}
use Rattle.ref_tx.specs.Inner.{answer_of, value_after, with_done}
use Rattle.ref_tx.specs.Seen.{TxSeen}
use Rattle.ref_tx.specs.declared.faults.TxFault.{TxFault}
use Rattle.ref_tx.specs.declared.faults.TxFault.TheVariants as txs
use Rattle.ref_refs.specs.Commit.{commit_refusal, entry_of, lacking}
use Rattle.ref_refs.specs.Make as refs
use Rattle.ref_refs.specs.declared.faults.CommitFault.{CommitFault}
use Rattle.ref_refs.specs.declared.faults.CommitFault.TheVariants as commits
use Rattle.ref_agents.specs.Agents.{AgentsSeen}
use Rattle.ref_log.specs.declared.sends.Sent.{Sent}
use Rattle.ref_fun.specs.Actions.{absent_agent, missing_fun}
use Rattle.ref_fun.specs.declared.carries.Carry.{Carry}
use Rattle.ref_agents.specs.Agents.{carried, is_carrying_at, is_carrying_if_here, job_out, with_carried_released, with_carries}
use Rattle.ref_agents.specs.declared.accounts.SentBy.TheVariants.{Carried, Commit}
use Rattle.ref_agents.specs.declared.faults.SendFault.TheVariants as send_faults
use Rattle.ref_play.specs.Given.{accepted, action_of, carried_by, carried_out, carrying_after, carrying_by, ended_by, given_at, handled_at, handled_if_here, queue_after, queue_at, queue_if_here, queued_by, sent_by, those_to, without_first, without_job}
use Rattle.ref_play.proofs.Given.{each-length, given_freed, given_sends, see_more, seen_freed, seen_same}
use Rattle.ref_play.proofs.Carried.{carried_changed, carried_commit, carried_made, carried_outside, carried_restarted, carrying_sends, queue_outside, queue_restarted, queue_sends}
use Rattle.ref_play.proofs.CarriedOut.{carried_finish, carrying_finish, out_here, queue_finish}
use Rattle.ref_play.proofs.Folded.{away_folded, carried_folded, carrying_folded, given_folded, handled_folded, not_folded, out_folded, queue_folded}
use Rattle.ref_play.proofs.Freed.{carried_freed, carrying_freed, freed-length, queue_freed}
use Rattle.ref_play.proofs.PlainLists.{all_map}
use Rattle.ref_play.proofs.Receivers.{AreHere, all_here, here_by, none_later, or_parts}
use Rattle.ref_play.proofs.Taken.{answered_out, carried_here, may_be_taken}
use Rattle.std.proofs.Common.{◌<◌}
use Rattle.std.proofs.Common.{◌==◌}
use Rattle.ref_play.specs.Machine.{Look, look_at, looked}
use Rattle.ref_play.specs.Present.{AddsWatch, Anything, Becomes, Enters, Calls, Compares, IsCompared, MakesAtom, ReadsPoint, ReadsRule, ReadsValue, RemovesWatch, value_at, watches_of, with_atom, with_made_atom, with_made_ref, found, unfound, Aborts, Acts, Begins, Commits, Derefs, IsCommitted, IsSwapped, IsTaken, Finishes, FoldsAgent, HeldSeen, MakesAgent, MakesRef, Operates, Present, PutsBack, Releases, ReleasesCarried, Requires, Restarts, Runs, Sends, SendsInTx, SetsMode, Takes, TakesAny, WithJob, WithRun, ran_of, run, run_refusal, with_job, with_store, SetsRule, Swaps, WithTx, begun, guards_of, with_guards, with_tx}
use Rattle.ref_play.specs.Runs.{AreCarried, AreJobs, IsHeld, IsLook, IsOpen, IsServed, is_out_at}
use Rattle.ref_play.specs.Laws.{IsFrom, IsInner, IsJudged, IsNativeReply, IsPlaced, IsStateAt, IsTold, MayTake, Of, PlacedAt, committed, entered, is_refused, placed_value, with_all_counted}
use Rattle.ref_world.specs.Seen.{ShareSeen}
use Rattle.ref_log.specs.Make as makes
use Rattle.ref_tx.specs.Inner as inner_tx
use Rattle.ref_tx.specs.Inner.{and_place, called, inner_value, unmet}
use Rattle.ref_fun.specs.Rule.{is_accepted}
use Rattle.ref_log.specs.Replay.{codes_of, missing}
use Rattle.ref_log.specs.Guards.{with_watch, without_watch}
use Rattle.ref_log.specs.Watches.{has_key, with_key, without_key}
use Rattle.ref_log.specs.Told.{Tells, TellsThenMemory}
use Rattle.ref_refs.specs.Commit.{early_refusal}
use Rattle.ref_atoms.specs.Change.{compare_refusal, compare_refusal_if_here, is_same, is_same_if_here}
use Rattle.ref_atoms.specs.declared.changes.Cas.{Cas}
use Rattle.ref_agents.specs.Ends.{judged}
use Rattle.ref_play.proofs.Grows.{answer-Ok, called-Ok}
use Rattle.ref_play.proofs.KeptJobs.{away_freed, away_made, away_same, away_sends, ended_in, out_freed}
use Rattle.ref_world.specs.World.{IsWorld, room, values_now, with_tally}
use Rattle.ref_world.specs.declared.commits.Receipt.{Receipt}
use Rattle.ref_world.specs.References.{number_of}
use Rattle.ref_play.specs.declared.events.Act.{Act}
use Rattle.ref_play.specs.declared.events.Act.TheVariants as acts
use Rattle.ref_play.specs.declared.events.Reply.{Reply}
use Rattle.ref_play.specs.declared.events.Reply.TheVariants as replies
use Rattle.ref_play.proofs.Kept.{kept_atom, kept_commit, kept_guards, kept_made, kept_made_atom}
use Rattle.ref_play.proofs.Later.{IsLater, later_commit, later_made, later_refs}
use Rattle.ref_play.proofs.Native.{agrees_first, native_refusal, native_told, no_conflict, within_points}
use Rattle.ref_play.proofs.Placed.{answers_at, placed}
use Rattle.ref_play.proofs.Puts.{put_here, put_other}
use Rattle.ref_play.proofs.KeptJobs.{IsOut, jobs_gone, jobs_run, jobs_same, jobs_taken, kept_all, out_made, out_mode, out_restart, out_send, out_sends}
use Rattle.ref_world.specs.Entered.{held_as, held_fewer}
use Rattle.ref_play.proofs.Given.{given_finish, given_made, given_mode, given_out, given_outside, given_restarted, handled_finish, handled_made, handled_restarted, handled_same, handled_sends}
use Rattle.std.specs.BTreeMap.{is_at}
use Rattle.std.specs.Ordering.{nat_cmp}
use Rattle.std.proofs.lemmas.List.{length-set}
use Rattle.ref_tx.specs.Inner.{with_sent}
use Rattle.ref_fun.specs.declared.actions.Action.{Action}
use Rattle.ref_fun.specs.declared.faults.Cause.{Cause}
use Rattle.ref_log.specs.Guards.{rule_at}
use Rattle.ref_agents.specs.Agents as agents
use Rattle.ref_agents.specs.Agents.{can_fold_at, change_agent, folding, moded, outed, outside, put_agent, queuing, revived, with_agents, with_out, with_send}
use Rattle.ref_agents.specs.Ends as ends
use Rattle.ref_agents.specs.Ends.{IsAnswerOf, ending, has_carry, restart_refusal, restart_refusal_if_here, with_finish}
use Rattle.ref_agents.specs.Make as agent_makes
use Rattle.ref_agents.specs.declared.agents.Agent.{Agent}
use Rattle.ref_agents.specs.declared.agents.ErrorMode.{ErrorMode}
use Rattle.ref_agents.specs.declared.ends.Finished.{Finished}
use Rattle.ref_agents.specs.declared.faults.FinishFault.TheVariants as finishes
use Rattle.ref_agents.specs.declared.faults.JobFault.TheVariants as job_faults
use Rattle.ref_agents.specs.declared.faults.RestartFault.{RestartFault}
use Rattle.ref_agents.specs.declared.faults.RestartFault.TheVariants as restart_faults
use Rattle.ref_world.specs.World.{are_past}

-- What becomes of the transaction of an actor, and of what it was told.
pub data Goes (means : Means) (knows : Known) (old : Present) (a : ℕ) (tx : Option TxSeen) (looks new : List Look) : Type 0 where
  stays : tx ≡ old.txs a → new ≡ looks → Goes means knows old a tx looks new
  closes : tx ≡ None → Goes means knows old a tx looks new
  opens : tx ≡ Some (begun old) → new ≡ [] → Goes means knows old a tx looks new
  grows : (was : TxSeen) (r : ℕ) (op : Op) (v : Edn) → old.txs a ≡ Some was → answer_of means knows.funs was r op ≡ Ok v → tx ≡ Some (with_done was r op v) → new ≡ looks → Goes means knows old a tx looks new
  adds : (was : TxSeen) (g : ℕ) (action : Action) → old.txs a ≡ Some was → absent_agent was.agents g action ≡ None → tx ≡ Some (with_sent was g action) → new ≡ looks → Goes means knows old a tx looks new
  hears : (was : TxSeen) (r : ℕ) → old.txs a ≡ Some was → tx ≡ Some was → new ≡ look_at means was r ∷ looks → Goes means knows old a tx looks new

found_some : (there : Option Edn) (v : Edn) → found there ≡ Ok v → there ≡ Some v
found_some None v is = absurd cc
found_some (Some w) v is = ap Some cc

true_false : true ≡ false → ⊥
true_false is = cc

module _ (means : Means) (accepts : Accepts) (knows : Known) (base : Base) (log : List Entry) (old : Present) (a : ℕ) (looks : List Look) where
  -- the world is lawful
  abbrev pub Was : Type 0
  Was = IsWorld means (with_tally old.refs.tally base) log old.refs old.atoms old.agents.unreleased × (old.point ≡ point_after base log) × (length old.refs.lasts ≡ length old.refs.values)

  -- what is always so of its transaction, of jobs, and of what is carried
  abbrev pub Sound : Type 0
  Sound = WithTx (old.txs a) (IsOpen means old) (Unit {0}) × AreJobs means old × AreCarried old.agents.agents

  -- a transaction of the actor began where it did
  abbrev From : Act → Reply → Option TxSeen → Type 0
  From act reply tx = WithTx tx (IsFrom means base log old (old.txs a) act reply) (Unit {0})

  pub record Acted (act : Act) (reply : Reply) (added : List Entry) (new : Present) : Type 0 where
    pub later : IsLater old new
    pub world : IsWorld means (with_tally new.refs.tally base) (log ++ added) new.refs new.atoms new.agents.unreleased
    pub point : new.point ≡ old.point + length added
    pub count : length new.refs.lasts ≡ length new.refs.values
    pub parts : new.share.parts ≡ old.share.parts
    pub counted : new.share ≡ with_all_counted old.refs.tally old.point old.share added
    pub goes : Goes means knows old a (new.txs a) looks (looked means act reply (old.txs a) looks)
    pub others : (b : ℕ) → (b ≡ a → ⊥) → (new.txs b ≡ old.txs b) × (new.jobs b ≡ old.jobs b)
    pub refs_known : are_known knows.preds old.refs.guards ≡ true → are_known knows.preds new.refs.guards ≡ true
    pub atoms_known : are_known knows.preds old.atoms.guards ≡ true → are_known knows.preds new.atoms.guards ≡ true
    pub agents_known : are_known knows.preds old.agents.guards ≡ true → are_known knows.preds new.agents.guards ≡ true
    pub native : IsServed knows old → WithTx (old.txs a) (IsOpen means old) (Unit {0}) → IsNativeReply reply
    pub told : IsTold means accepts old (old.txs a) act reply
    pub began : WithTx (new.txs a) (IsFrom means base log old (old.txs a) act reply) (Unit {0})
    pub placed : WithTx (old.txs a) (IsOpen means old) (Unit {0}) → WithTx (old.txs a) (λ tx. AllByRecursion (IsLook means tx) looks) (Unit {0}) → PlacedAt means old looks (old.txs a) act reply
    pub given : Sound → (g : ℕ) → given_at new.agents.agents g ≡ accepted old (old.txs a) (old.jobs a) act reply g
    pub queues : Sound → (g : ℕ) → queue_at new.agents.agents g ≡ queue_after old (old.txs a) (old.jobs a) act reply g
    pub carrying : Sound → (g : ℕ) → is_carrying_at new.agents.agents g ≡ carrying_after old (old.jobs a) act reply g
    pub carried : Sound → AreCarried new.agents.agents
    pub handled : AreJobs means old → (g : ℕ) → handled_at new.agents.agents g ≡ ended_by old (old.jobs a) act reply g
    pub jobs : AreJobs means old → AreJobs means new
    pub adds_all : added ≡ entered (old.txs a) act reply
    pub refused : is_refused reply ≡ true → Becomes old added new

  -- of agents nothing is accepted, and nothing ends or is released
  abbrev Quiet : Act → Reply → Type 0
  Quiet act reply = (g : ℕ) → (accepted old (old.txs a) (old.jobs a) act reply g ≡ given_at old.agents.agents g) × (ended_by old (old.jobs a) act reply g ≡ handled_at old.agents.agents g)
      × (queue_after old (old.txs a) (old.jobs a) act reply g ≡ queue_at old.agents.agents g) × (carrying_after old (old.jobs a) act reply g ≡ is_carrying_at old.agents.agents g)

  -- what is so of an act and its reply by their form
  record Formal (act : Act) (reply : Reply) : Type 0 where
    silent : looked means act reply (old.txs a) looks ≡ looks
    native : IsNativeReply reply
    told : IsTold means accepts old (old.txs a) act reply
    placed : PlacedAt means old looks (old.txs a) act reply
    quiet : Quiet act reply
    began : From act reply (old.txs a)
    none : entered (old.txs a) act reply ≡ []

  kept_from : (o : Option TxSeen) → WithTx o (λ tx. Of o (λ before. (tx.read_point ≡ before.read_point) × (tx.began ≡ before.began))) (Unit {0})
  kept_from None = tt
  kept_from (Some t) = (refl, refl)

  of_tx : (P : TxSeen → Type 0) (tx : TxSeen) → old.txs a ≡ Some tx → P tx → Of (old.txs a) P
  of_tx P tx is p = subst (λ o. WithTx o P ⊥) (sym is) p

  -- where only the transaction of the actor changes
  only_tx : (act : Act) (reply : Reply) (tx : Option TxSeen) → Was → Goes means knows old a tx looks (looked means act reply (old.txs a) looks) → IsNativeReply reply → IsTold means accepts old (old.txs a) act reply → PlacedAt means old looks (old.txs a) act reply → Quiet act reply → From act reply tx
      → entered (old.txs a) act reply ≡ [] → is_refused reply ≡ false → Acted act reply [] (with_tx old a tx)
  only_tx act reply tx was goes native told placed quiet from none isnt = record {
    later = later_refs old (with_tx old a tx) (omega arith) refl refl refl refl;
    world = subst (λ l. IsWorld means (with_tally old.refs.tally base) l old.refs old.atoms old.agents.unreleased) (sym (append-nil log)) was.0;
    point = omega arith;
    count = was.2;
    parts = refl;
    counted = refl;
    goes = subst (λ t. Goes means knows old a t looks (looked means act reply (old.txs a) looks)) (sym (put_here old.txs a tx)) goes;
    others = λ b other. (put_other old.txs a tx b other, refl);
    refs_known = λ known. known;
    atoms_known = λ known. known;
    agents_known = λ known. known;
    native = λ served had. native;
    told = told;
    began = subst (λ t. WithTx t (IsFrom means base log old (old.txs a) act reply) (Unit {0})) (sym (put_here old.txs a tx)) from;
    placed = λ had heard. placed;
    given = λ is g. sym (quiet g).0;
    queues = λ is g. sym (quiet g).2;
    carrying = λ is g. sym (quiet g).3;
    carried = λ is. is.2;
    handled = λ are g. sym (quiet g).1;
    jobs = jobs_same means old (with_tx old a tx) refl refl;
    adds_all = sym none;
    refused = λ is. absurd (true_false (sym is ∙ isnt));
  }

  -- where nothing does
  nothing : (act : Act) (reply : Reply) → Was → Goes means knows old a (old.txs a) looks (looked means act reply (old.txs a) looks) → (IsServed knows old → WithTx (old.txs a) (IsOpen means old) (Unit {0}) → IsNativeReply reply)
      → IsTold means accepts old (old.txs a) act reply → PlacedAt means old looks (old.txs a) act reply → Quiet act reply → From act reply (old.txs a) → entered (old.txs a) act reply ≡ [] → Acted act reply [] old
  nothing act reply was goes native told placed quiet from none = record {
    later = later_refs old old (omega arith) refl refl refl refl;
    world = subst (λ l. IsWorld means (with_tally old.refs.tally base) l old.refs old.atoms old.agents.unreleased) (sym (append-nil log)) was.0;
    point = omega arith;
    count = was.2;
    parts = refl;
    counted = refl;
    goes = goes;
    others = λ b other. (refl, refl);
    refs_known = λ known. known;
    atoms_known = λ known. known;
    agents_known = λ known. known;
    native = native;
    told = told;
    began = from;
    placed = λ had heard. placed;
    given = λ is g. sym (quiet g).0;
    queues = λ is g. sym (quiet g).2;
    carrying = λ is g. sym (quiet g).3;
    carried = λ is. is.2;
    handled = λ are g. sym (quiet g).1;
    jobs = λ are. are;
    adds_all = sym none;
    refused = λ is. (refl, refl);
  }

  -- the same, of a reply, entries and a state that are given by equations
  by_equations : (act : Act) (reply told : Reply) (added entries : List Entry) (new now : Present) → reply ≡ told → added ≡ entries → new ≡ now → Acted act told entries now → Acted act reply added new
  by_equations act reply told added entries new now r e n is =
      subst (λ x. Acted act x added new) (sym r) (subst (λ x. Acted act told x new) (sym e) (subst (λ x. Acted act told entries x) (sym n) is))

  formal : (act : Act) (reply : Reply) → looked means act reply (old.txs a) looks ≡ looks → IsNativeReply reply → IsTold means accepts old (old.txs a) act reply → PlacedAt means old looks (old.txs a) act reply → Quiet act reply → From act reply (old.txs a) → entered (old.txs a) act reply ≡ [] → Formal act reply
  formal act reply silent native told placed quiet from none = record { silent = silent; native = native; told = told; placed = placed; quiet = quiet; began = from; none = none }

  -- where nothing was done, and the reply says nothing of what the actor has open
  undone : (act : Act) (reply told : Reply) (added : List Entry) (new : Present) → Was → Formal act told → reply ≡ told → Becomes old added new → Acted act reply added new
  undone act reply told added new was form r stays_all = by_equations act reply told added [] new old r stays_all.0 stays_all.1
      (nothing act told was (stays refl form.silent) (λ served had. form.native) form.told form.placed form.quiet form.began form.none)

  -- a call: each refusal leaves all as it was
  acted_call : {T Fault : Type 0} (act : Act) (tell : Result T Fault → Reply) (Fits : Result T Fault → Type 0) (done : T → Type 0) (reply : Reply) (added : List Entry) (new : Present) → Was
      → ((f : Fault) → Fits (Err f) → Formal act (tell (Err f))) → ((x : T) → Fits (Ok x) → done x → Acted act (tell (Ok x)) added new) → Calls tell Fits done old reply added new → Acted act reply added new
  acted_call {T} {Fault} act tell Fits done reply added new was form each did = by did.0 did.1 did.2 did.3 did.4 where
    by : (told : Result T Fault) → reply ≡ tell told → Fits told → IfOk told done → OnErr told (Becomes old added new) → Acted act reply added new
    by (Ok x) t fits ok err = subst (λ y. Acted act y added new) (sym t) (each x fits ok)
    by (Err f) t fits ok err = undone act reply (tell (Err f)) added new was (form f fits) t err

  -- ---- begin

  state_here : Was → (p : ℕ) → p ≡ old.point → IsStateAt means base log p old.refs.values
  state_here was p is = (log, [], values_now old.refs old.atoms, sym (append-nil log), sym (is ∙ was.1), was.0.replayed, refl)

  acted_begin : (reply : Reply) (added : List Entry) (new : Present) → Was → Begins old a reply added new → Acted acts.Begin reply added new
  acted_begin reply added new was did = by (old.txs a) refl did where
    fresh : (told : Result ℕ AllocError) → old.txs a ≡ None → reply ≡ replies.Begin told → IfOk told (λ p. (p ≡ old.point) × Becomes (with_tx old a (Some (begun old))) added new) → OnErr told (Becomes old added new) → Acted acts.Begin reply added new
    fresh (Ok p) is r ok err = by_equations acts.Begin reply (replies.Begin (Ok p)) added [] new (with_tx old a (Some (begun old))) r ok.1.0 ok.1.1
        (only_tx acts.Begin (replies.Begin (Ok p)) (Some (begun old)) was (opens refl refl) tt tt tt (λ g. (refl, refl, refl, refl)) (ok.0, sym ok.0, state_here was p ok.0, refl, refl) refl refl)
    fresh (Err f) is r ok err = by_equations acts.Begin reply (replies.Begin (Err f)) added [] new old r err.0 err.1
        (nothing acts.Begin (replies.Begin (Err f)) was (closes is) (λ served had. tt) tt tt (λ g. (refl, refl, refl, refl)) (kept_from (old.txs a)) refl)

    by : (tx : Option TxSeen) → old.txs a ≡ tx → WithTx tx (λ tx. (reply ≡ replies.Busy) × Becomes old added new)
        (Calls replies.Begin Anything (λ p. (p ≡ old.point) × Becomes (with_tx old a (Some (begun old))) added new) old reply added new) → Acted acts.Begin reply added new
    by (Some tx) is h = undone acts.Begin reply replies.Busy added new was (formal acts.Begin replies.Busy refl tt tt tt (λ g. (refl, refl, refl, refl)) (kept_from (old.txs a)) refl) h.0 h.1
    by None is h = fresh h.0 is h.1 h.3 h.4

  -- ---- acts that need an open transaction

  on_tx : (act : Act) (reply : Reply) (added : List Entry) (new : Present) (P : TxSeen → Type 0) (tx : Option TxSeen) → Was → (old.txs a ≡ None → Formal act replies.NoTx) → old.txs a ≡ tx
      → ((t : TxSeen) → old.txs a ≡ Some t → P t → Acted act reply added new) → WithTx tx P ((reply ≡ replies.NoTx) × Becomes old added new) → Acted act reply added new
  on_tx act reply added new P None was form is each h = undone act reply replies.NoTx added new was (form is) h.0 h.1
  on_tx act reply added new P (Some tx) was form is each h = each tx is h

  acted_deref : (r : ℕ) (reply : Reply) (added : List Entry) (new : Present) → Was → Derefs means old a r reply added new → Acted (acts.Deref r) reply added new
  acted_deref r reply added new was did = on_tx (acts.Deref r) reply added new _ (old.txs a) was
      (λ none. formal (acts.Deref r) replies.NoTx (ap (λ o. looked means (acts.Deref r) replies.NoTx o looks) none) tt tt tt (λ g. (refl, refl, refl, refl)) (kept_from (old.txs a)) refl) refl
      (λ tx is h. by tx is h.0 h.1 h.2 h.3 h.4) did where
        by : (tx : TxSeen) → old.txs a ≡ Some tx → (told : Result Edn TxFault) → reply ≡ replies.Deref told → AnswersOrMemory txs.Memory (unfound (inner_value means tx r)) (found (inner_value means tx r)) told
            → IfOk told (λ v. Becomes old added new) → OnErr told (Becomes old added new) → Acted (acts.Deref r) reply added new
        by tx is (Ok v) t answers ok err = by_equations (acts.Deref r) reply (replies.Deref (Ok v)) added [] new old t ok.0 ok.1
            (nothing (acts.Deref r) (replies.Deref (Ok v)) was (hears tx r is is (ap (λ o. looked means (acts.Deref r) (replies.Deref (Ok v)) o looks) is)) (λ served had. tt)
            (of_tx (λ t. inner_value means t r ≡ Some v) tx is (found_some (inner_value means tx r) v answers)) tt (λ g. (refl, refl, refl, refl)) (kept_from (old.txs a)) refl)
        by tx is (Err f) t answers ok err = by_equations (acts.Deref r) reply (replies.Deref (Err f)) added [] new old t err.0 err.1
            (nothing (acts.Deref r) (replies.Deref (Err f)) was (hears tx r is is (ap (λ o. looked means (acts.Deref r) (replies.Deref (Err f)) o looks) is)) (λ served had. tt) tt tt (λ g. (refl, refl, refl, refl)) (kept_from (old.txs a)) refl)

  -- an operation answers its place at the in-transaction value
  inner_answer : (tx : TxSeen) (r : ℕ) (op : Op) (v : Edn) → answer_of means knows.funs tx r op ≡ Ok v → and_place means op (inner_value means tx r) ≡ Some v
  inner_answer tx r op v answers =
      let parts = answer-Ok (inner_tx.refusal tx r op) (called means op (inner_value means tx r) (missing knows.funs (codes_of op))) v answers in
      (called-Ok means op (inner_value means tx r) (missing knows.funs (codes_of op)) v parts.1).1

  acted_operate : (act : Act) (r : ℕ) (op : Op) (tell : Result Edn TxFault → Reply) (reply : Reply) (added : List Entry) (new : Present) → Was → Formal act replies.NoTx → ((f : TxFault) → Formal act (tell (Err f)))
      → ((v : Edn) → looked means act (tell (Ok v)) (old.txs a) looks ≡ looks) → ((v : Edn) → IsNativeReply (tell (Ok v))) → ((v : Edn) → Of (old.txs a) (IsInner means op r v) → IsTold means accepts old (old.txs a) act (tell (Ok v)))
      → ((v : Edn) → PlacedAt means old looks (old.txs a) act (tell (Ok v))) → ((v : Edn) → Quiet act (tell (Ok v)))
      → ((v : Edn) (tx : TxSeen) → Of (old.txs a) (λ before. (tx.read_point ≡ before.read_point) × (tx.began ≡ before.began)) → IsFrom means base log old (old.txs a) act (tell (Ok v)) tx)
      → ((v : Edn) → entered (old.txs a) act (tell (Ok v)) ≡ []) → ((v : Edn) → is_refused (tell (Ok v)) ≡ false) → Operates means knows old a r op tell reply added new → Acted act reply added new
  acted_operate act r op tell reply added new was no_tx form silent native told placed quiet from none isnt did = on_tx act reply added new _ (old.txs a) was (λ is. no_tx) refl
      (λ tx is h. acted_call act tell _ _ reply added new was (λ f fits. form f) (λ v answers done. by_equations act (tell (Ok v)) (tell (Ok v)) added [] new (with_tx old a (Some (with_done tx r op v))) refl done.0 done.1
      (only_tx act (tell (Ok v)) (Some (with_done tx r op v)) was (grows tx r op v is answers refl (silent v)) (native v) (told v (of_tx (IsInner means op r v) tx is (inner_answer tx r op v answers))) (placed v) (quiet v)
      (from v (with_done tx r op v) (of_tx (λ before. (tx.read_point ≡ before.read_point) × (tx.began ≡ before.began)) tx is (refl, refl))) (none v) (isnt v))) h) did

  -- a send of a transaction
  mapped_away : {X Y : Type 0} (y : Y) (o : Option X) → option_map (λ x. y) o ≡ None → o ≡ None
  mapped_away y None none = refl
  mapped_away y (Some x) none = absurd cc

  acted_send_in_tx : (g : ℕ) (action : Action) (reply : Reply) (added : List Entry) (new : Present) → Was → SendsInTx knows old a g action reply added new → Acted (acts.SendInTx g action) reply added new
  acted_send_in_tx g action reply added new was did =
      let act = acts.SendInTx g action in
      on_tx act reply added new _ (old.txs a) was (λ is. formal act replies.NoTx refl tt tt tt (λ h. (refl, refl, refl, refl)) (kept_from (old.txs a)) refl) refl
      (λ tx is h. acted_call act replies.SendInTx _ _ reply added new was (λ f fits. formal act (replies.SendInTx (Err f)) refl tt tt tt (λ h. (refl, refl, refl, refl)) (kept_from (old.txs a)) refl)
      (λ u none done. by_equations act (replies.SendInTx (Ok u)) (replies.SendInTx (Ok u)) added [] new (with_tx old a (Some (with_sent tx g action))) refl done.0 done.1
      (only_tx act (replies.SendInTx (Ok u)) (Some (with_sent tx g action)) was (adds tx g action is (mapped_away txs.NoSuchAgent (absent_agent tx.agents g action) (or_parts (option_map txs.NoSuchFun (missing_fun knows.funs action)) _ none).1) refl refl) tt tt tt (λ h. (refl, refl, refl, refl))
      (of_tx (λ before. (tx.read_point ≡ before.read_point) × (tx.began ≡ before.began)) tx is (refl, refl)) refl refl)) h) did

  -- what a rule says of the in-transaction value
  met : (rule : Rule) (there : Option Edn) → unmet accepts knows.preds rule there ≡ None → (v : Edn) × (there ≡ Some v) × (is_accepted accepts rule v ≡ true)
  met rule None none = absurd cc
  met rule (Some v) none = (v, refl, by (knows.preds rule.code) (is_accepted accepts rule v) _ _ none) where
    by : (known passing : Bool) (x y : TxFault) → cond (not known) (Some x) (cond passing None (Some y)) ≡ None → passing ≡ true
    by true true x y none = refl
    by true false x y none = absurd cc
    by false passing x y none = absurd cc

  not_met : (rule : Rule) (there : Option Edn) → unmet accepts knows.preds rule there ≡ Some txs.NotMet → (v : Edn) × (there ≡ Some v) × (is_accepted accepts rule v ≡ false)
  not_met rule None none = absurd cc
  not_met rule (Some v) none = (v, refl, by (knows.preds rule.code) (is_accepted accepts rule v) none) where
    by : (known passing : Bool) → cond (not known) (Some (txs.NoSuchFun rule.code)) (cond passing None (Some txs.NotMet)) ≡ Some txs.NotMet → passing ≡ false
    by true true none = absurd cc
    by true false none = refl
    by false passing none = absurd cc

  told_required : (r : ℕ) (rule : Rule) (tx : TxSeen) (f : TxFault) → old.txs a ≡ Some tx → unmet accepts knows.preds rule (inner_value means tx r) ≡ Some f → IsTold means accepts old (old.txs a) (acts.Require r rule) (replies.Require (Err f))
  told_required r rule tx txs.NoSuchRef is reason = tt
  told_required r rule tx txs.SetAfterCommute is reason = tt
  told_required r rule tx txs.TallyOnly is reason = tt
  told_required r rule tx (txs.Refused cause) is reason = tt
  told_required r rule tx (txs.NoSuchFun code) is reason = tt
  told_required r rule tx txs.NoSuchAgent is reason = tt
  told_required r rule tx txs.NotMet is reason = of_tx (IsJudged means accepts rule r false) tx is (not_met rule (inner_value means tx r) reason)
  told_required r rule tx txs.Memory is reason = tt

  acted_require : (r : ℕ) (rule : Rule) (reply : Reply) (added : List Entry) (new : Present) → Was → Requires means accepts knows old a r rule reply added new → Acted (acts.Require r rule) reply added new
  acted_require r rule reply added new was did = on_tx (acts.Require r rule) reply added new _ (old.txs a) was
      (λ none. formal (acts.Require r rule) replies.NoTx (ap (λ o. looked means (acts.Require r rule) replies.NoTx o looks) none) tt tt tt (λ g. (refl, refl, refl, refl)) (kept_from (old.txs a)) refl) refl
      (λ tx is h. by tx is h.0 h.1 h.2 h.3 h.4) did where
        by : (tx : TxSeen) → old.txs a ≡ Some tx → (told : Result (Unit {0}) TxFault) → reply ≡ replies.Require told → Tells (unmet accepts knows.preds rule (inner_value means tx r)) told
            → IfOk told (λ u. Becomes old added new) → OnErr told (Becomes old added new) → Acted (acts.Require r rule) reply added new
        by tx is (Ok u) t reason ok err = by_equations (acts.Require r rule) reply (replies.Require (Ok u)) added [] new old t ok.0 ok.1
            (nothing (acts.Require r rule) (replies.Require (Ok u)) was (hears tx r is is (ap (λ o. looked means (acts.Require r rule) (replies.Require (Ok u)) o looks) is)) (λ served had. tt)
            (of_tx (IsJudged means accepts rule r true) tx is (met rule (inner_value means tx r) reason)) tt (λ g. (refl, refl, refl, refl)) (kept_from (old.txs a)) refl)
        by tx is (Err f) t reason ok err = by_equations (acts.Require r rule) reply (replies.Require (Err f)) added [] new old t err.0 err.1
            (nothing (acts.Require r rule) (replies.Require (Err f)) was (hears tx r is is (ap (λ o. looked means (acts.Require r rule) (replies.Require (Err f)) o looks) is)) (λ served had. tt)
            (told_required r rule tx f is reason) tt (λ g. (refl, refl, refl, refl)) (kept_from (old.txs a)) refl)

  acted_read_point : (reply : Reply) (added : List Entry) (new : Present) → Was → ReadsPoint old a reply added new → Acted acts.ReadPoint reply added new
  acted_read_point reply added new was did = on_tx acts.ReadPoint reply added new _ (old.txs a) was (λ is. formal acts.ReadPoint replies.NoTx refl tt tt tt (λ g. (refl, refl, refl, refl)) (kept_from (old.txs a)) refl) refl
      (λ tx is h. undone acts.ReadPoint reply (replies.ReadPoint tx.read_point) added new was
      (formal acts.ReadPoint (replies.ReadPoint tx.read_point) refl tt (of_tx (λ t. tx.read_point ≡ t.read_point) tx is refl) tt (λ g. (refl, refl, refl, refl)) (kept_from (old.txs a)) refl) h.0 h.1) did

  acted_abort : (reply : Reply) (added : List Entry) (new : Present) → Was → Aborts old a reply added new → Acted acts.Abort reply added new
  acted_abort reply added new was did = on_tx acts.Abort reply added new _ (old.txs a) was (λ is. formal acts.Abort replies.NoTx refl tt tt tt (λ g. (refl, refl, refl, refl)) (kept_from (old.txs a)) refl) refl
      (λ tx is h. by_equations acts.Abort reply replies.Abort added [] new (with_tx old a None) h.0 h.1.0 h.1.1 (only_tx acts.Abort replies.Abort None was (closes refl) tt tt tt (λ g. (refl, refl, refl, refl)) tt refl refl)) did

  -- ---- commit

  abbrev refusal : TxSeen → Option CommitFault
  refusal tx = commit_refusal means accepts knows old.refs (old.point + 1) (length old.agents.agents) (room old.books.added) (room old.books.taken) tx

  looks_placed : (tx : TxSeen) (after : List Edn) (rest : List Look) → ((n r : ℕ) → is_protected tx.dones r ≡ true → placed_value means tx.dones (old.point + 1) old.refs.values n r ≡ value_after means tx.began (take n tx.dones) r) → AllByRecursion (IsLook means tx) rest
      → AllByRecursion (λ look. is_protected tx.dones look.r ≡ true → placed_value means tx.dones (old.point + 1) old.refs.values look.after look.r ≡ look.value) rest
  looks_placed tx after [] each heard = tt
  looks_placed tx after (look ∷ rest) each heard = (λ protected. each look.after look.r protected ∙ heard.0.1, looks_placed tx after rest each heard.1)

  commit_placed : (new : Present) (stamp : Stamp) (tx : TxSeen) (receipt : Receipt) (added : List Entry) → IsCommitted means old a stamp tx receipt added new → refusal tx ≡ None → IsOpen means old tx → AllByRecursion (IsLook means tx) looks → IsPlaced means old tx looks
  commit_placed new stamp tx receipt added did none had heard =
      let agree = agrees_first means old tx had (no_conflict means accepts knows old.refs (old.point + 1) (length old.agents.agents) (room old.books.added) (room old.books.taken) tx none) in
      let made = refs_of (values_now old.refs old.atoms) (values_now new.refs new.atoms) (after_dones means tx.dones (old.point + 1) tx.dones (Ok old.refs.values)) did.values in
      let each = placed means tx.began tx.dones (old.point + 1) old.refs.values new.refs.values agree made in
      record {
        answers = λ n d here protected. each (n + 1) d.r protected ∙ answers_at means tx.began [] tx.dones n d had.is.answered here;
        heard = looks_placed tx new.refs.values looks each heard;
      }

  -- what it sends goes to agents that are here, and carries what does
  goes_here : (tx : TxSeen) → old.txs a ≡ Some tx → WithTx (old.txs a) (IsOpen means old) (Unit {0}) → AllByRecursion (λ (s : Sent). (s.agent < length old.agents.agents) × AreHere (length old.agents.agents) s.action.carries) tx.sends
  goes_here tx is had =
      let opened : IsOpen means old tx = subst (λ o. WithTx o (IsOpen means old) (Unit {0})) is had in
      all_here (length old.agents.agents) tx.sends (none_later tx.agents (length old.agents.agents) tx.sends opened.agents opened.sends)

  agents_here : (n : ℕ) (ss : List Sent) → AllByRecursion (λ (s : Sent). (s.agent < n) × AreHere n s.action.carries) ss → AllByRecursion (λ (s : Sent). s.agent < n) ss
  agents_here n ss all = all_map (λ (s : Sent). (s.agent < n) × AreHere n s.action.carries) (λ (s : Sent). s.agent < n) (λ s is. is.0) ss all

  carries_here : (n : ℕ) (ss : List Sent) → AllByRecursion (λ (s : Sent). (s.agent < n) × AreHere n s.action.carries) ss → AllByRecursion (λ (s : Sent). AreHere n s.action.carries) ss
  carries_here n ss all = all_map (λ (s : Sent). (s.agent < n) × AreHere n s.action.carries) (λ (s : Sent). AreHere n s.action.carries) (λ s is. is.1) ss all

  acted_commit : (stamp : Stamp) (reply : Reply) (added : List Entry) (new : Present) → Was → Commits means accepts knows old a stamp reply added new → Acted (acts.Commit stamp) reply added new
  acted_commit stamp reply added new was did = on_tx (acts.Commit stamp) reply added new _ (old.txs a) was (λ is. formal (acts.Commit stamp) replies.NoTx refl tt tt tt (λ g. (refl, refl, refl, refl)) (kept_from (old.txs a)) refl) refl
      (λ tx is h. by tx is h.0 h.1 h.2 h.3 h.4) did where
        native : (tx : TxSeen) (f : CommitFault) → old.txs a ≡ Some tx → (f ≢ commits.Memory → refusal tx ≡ Some f) → IsServed knows old → WithTx (old.txs a) (IsOpen means old) (Unit {0}) → IsNativeReply (replies.Commit (Err f))
        native tx f is told served had =
            let opened : IsOpen means old tx = subst (λ o. WithTx o (IsOpen means old) (Unit {0})) is had in
            let funs : lacking knows.funs tx.dones ≡ None = subst (λ o. WithTx o (λ t. lacking knows.funs t.dones ≡ None) (Unit {0})) is (served.3 a) in
            native_told (refusal tx) f (native_refusal means accepts knows old tx opened served.0 funs) told

        by : (tx : TxSeen) → old.txs a ≡ Some tx → (told : Result Receipt CommitFault) → reply ≡ replies.Commit told → TellsOrMemory commits.Memory (early_refusal knows old.refs (old.point + 1) (length old.agents.agents) tx) (refusal tx) told
            → IfOk told (λ receipt. IsCommitted means old a stamp tx receipt added new) → OnErr told (Becomes old added new) → Acted (acts.Commit stamp) reply added new
        by tx is (Ok receipt) t tells ok err = subst (λ x. Acted (acts.Commit stamp) x added new) (sym t) (record {
          later = later_commit means old new a stamp tx receipt added ok;
          world = subst (λ l. IsWorld means (with_tally new.refs.tally base) (log ++ l) new.refs new.atoms new.agents.unreleased) (sym ok.entry)
              (subst (λ y. IsWorld means (with_tally y base) (log ++ entry_of stamp tx ∷ []) new.refs new.atoms new.agents.unreleased) (sym ok.tally)
              (kept_commit means (with_tally old.refs.tally base) log old was.0 was.1 new a stamp tx receipt added ok (within_points means accepts knows old.refs (old.point + 1) (length old.agents.agents) (room old.books.added) (room old.books.taken) tx tells)));
          point = ok.point ∙ ap (λ l. old.point + length l) (sym ok.entry);
          count = ok.count;
          parts = ap (λ (s : ShareSeen). s.parts) ok.share;
          counted = ok.share ∙ ap (with_all_counted old.refs.tally old.point old.share) (sym ok.entry);
          goes = closes (ap (λ f. f a) ok.closed ∙ put_here old.txs a None);
          others = λ b other. (ap (λ f. f b) ok.closed ∙ put_other old.txs a None b other, ap (λ f. f b) ok.jobs);
          refs_known = λ known. ap (are_known knows.preds) ok.guards ∙ known;
          atoms_known = λ known. ap (λ s. are_known knows.preds s.guards) ok.atoms ∙ known;
          agents_known = λ known. ap (λ s. are_known knows.preds s.guards) ok.agents ∙ known;
          native = λ served had. tt;
          told = tt;
          began = subst (λ o. WithTx o (IsFrom means base log old (old.txs a) (acts.Commit stamp) (replies.Commit (Ok receipt))) (Unit {0})) (sym (ap (λ f. f a) ok.closed ∙ put_here old.txs a None)) tt;
          given = λ so g. ap (λ (x : AgentsSeen). given_at x.agents g) ok.agents
              ∙ (given_sends (λ (s : Sent). s.agent) (λ (s : Sent). s.action) (Commit (old.point + 1)) tx.sends old.agents.agents g (agents_here (length old.agents.agents) tx.sends (goes_here tx is so.0))
              ∙ ap (λ o. given_at old.agents.agents g ++ sent_by o g) (sym is));
          queues = λ so g. ap (λ (x : AgentsSeen). queue_at x.agents g) ok.agents
              ∙ (queue_sends (λ (s : Sent). s.agent) (λ (s : Sent). s.action) (Commit (old.point + 1)) tx.sends old.agents.agents g (agents_here (length old.agents.agents) tx.sends (goes_here tx is so.0))
              ∙ ap (λ o. queue_at old.agents.agents g ++ queued_by o (old.point + 1) g) (sym is));
          carrying = λ so g. ap (λ (x : AgentsSeen). is_carrying_at x.agents g) ok.agents ∙ carrying_sends (λ (s : Sent). s.agent) (λ (s : Sent). s.action) (Commit (old.point + 1)) tx.sends old.agents.agents g;
          carried = λ so. subst (λ (x : AgentsSeen). AreCarried x.agents) (sym ok.agents)
              (carried_commit (λ (s : Sent). s.agent) (λ (s : Sent). s.action) (old.point + 1) tx.sends old.agents.agents (agents_here (length old.agents.agents) tx.sends (goes_here tx is so.0))
              (carries_here (length old.agents.agents) tx.sends (goes_here tx is so.0)) so.2);
          handled = λ are g. ap (λ (x : AgentsSeen). handled_at x.agents g) ok.agents ∙ handled_sends (λ (s : Sent). s.agent) (λ (s : Sent). s.action) (Commit (old.point + 1)) tx.sends old.agents.agents g;
          jobs = kept_all means old new ok.jobs (λ h job out. subst (λ (x : AgentsSeen). IsOut job h (slice_get x.agents h)) (sym ok.agents) (out_sends (λ (s : Sent). s.agent) (λ (s : Sent). s.action) (Commit (old.point + 1)) tx.sends old.agents.agents h job out))
              (λ g is_out. sym (away_sends (λ (s : Sent). s.agent) (λ (s : Sent). s.action) (Commit (old.point + 1)) tx.sends old.agents.agents g) ∙ (ap (λ (x : AgentsSeen). is_out_at x.agents g) (sym ok.agents) ∙ is_out));
          placed = λ had heard. of_tx (λ t. IsPlaced means old t looks) tx is
              (commit_placed new stamp tx receipt added ok tells (subst (λ o. WithTx o (IsOpen means old) (Unit {0})) is had) (subst (λ o. WithTx o (λ tx. AllByRecursion (IsLook means tx) looks) (Unit {0})) is heard));
          adds_all = ok.entry ∙ ap (λ o. committed o stamp) (sym is);
          refused = λ refused. absurd (true_false (sym refused));
        })
        by tx is (Err f) t tells ok err = by_equations (acts.Commit stamp) reply (replies.Commit (Err f)) added [] new old t err.0 err.1
            (nothing (acts.Commit stamp) (replies.Commit (Err f)) was (stays refl refl) (native tx f is tells.0) tt tt (λ g. (refl, refl, refl, refl)) (kept_from (old.txs a)) refl)

  -- ---- acts that need none

  -- where transactions, jobs and agents stay
  acted_world : (act : Act) (reply : Reply) (added : List Entry) (new : Present) → Was → looked means act reply (old.txs a) looks ≡ looks → new.txs ≡ old.txs → new.jobs ≡ old.jobs → new.agents.agents ≡ old.agents.agents → IsLater old new
      → IsWorld means (with_tally new.refs.tally base) (log ++ added) new.refs new.atoms new.agents.unreleased → new.point ≡ old.point + length added → length new.refs.lasts ≡ length new.refs.values
      → new.share.parts ≡ old.share.parts → new.share ≡ with_all_counted old.refs.tally old.point old.share added
      → (are_known knows.preds old.refs.guards ≡ true → are_known knows.preds new.refs.guards ≡ true)
      → (are_known knows.preds old.atoms.guards ≡ true → are_known knows.preds new.atoms.guards ≡ true)
      → (are_known knows.preds old.agents.guards ≡ true → are_known knows.preds new.agents.guards ≡ true)
      → IsNativeReply reply → IsTold means accepts old (old.txs a) act reply → PlacedAt means old looks (old.txs a) act reply → Quiet act reply → From act reply (old.txs a) → added ≡ entered (old.txs a) act reply → is_refused reply ≡ false → Acted act reply added new
  acted_world act reply added new was silent txs_same jobs_stay same later world point count parts counted refs_known atoms_known agents_known native told placed quiet from adds_all isnt = record {
    later = later;
    world = world;
    point = point;
    count = count;
    parts = parts;
    counted = counted;
    goes = stays (ap (λ f. f a) txs_same) silent;
    others = λ b other. (ap (λ f. f b) txs_same, ap (λ f. f b) jobs_stay);
    refs_known = refs_known;
    atoms_known = atoms_known;
    agents_known = agents_known;
    native = λ served had. native;
    told = told;
    began = subst (λ o. WithTx o (IsFrom means base log old (old.txs a) act reply) (Unit {0})) (sym (ap (λ f. f a) txs_same)) from;
    placed = λ had heard. placed;
    given = λ is g. ap (λ l. given_at l g) same ∙ sym (quiet g).0;
    queues = λ is g. ap (λ l. queue_at l g) same ∙ sym (quiet g).2;
    carrying = λ is g. ap (λ l. is_carrying_at l g) same ∙ sym (quiet g).3;
    carried = λ is. subst AreCarried (sym same) is.2;
    handled = λ are g. ap (λ l. handled_at l g) same ∙ sym (quiet g).1;
    jobs = jobs_same means old new jobs_stay same;
    adds_all = adds_all;
    refused = λ is. absurd (true_false (sym is ∙ isnt));
  }

  known_from_none : (rule : Option Rule) → unknown knows.preds rule ≡ None → is_known knows.preds rule ≡ true
  known_from_none None none = refl
  known_from_none (Some rule) none = by (knows.preds rule.code) refl none where
    by : (b : Bool) → knows.preds rule.code ≡ b → cond b None (Some rule.code) ≡ None → knows.preds rule.code ≡ true
    by true is none = is
    by false is none = absurd cc

  first_none : {X : Type 0} (first later : Option X) → option_or first later ≡ None → (first ≡ None) × (later ≡ None)
  first_none None later none = (refl, none)
  first_none (Some x) later none = absurd cc

  mapped_none : {X Y : Type 0} (f : X → Y) (o : Option X) → option_map f o ≡ None → o ≡ None
  mapped_none f None is = refl
  mapped_none f (Some x) is = absurd cc

  -- what a making that isn't refused has met
  made_by : (few bad passes past : Bool) (x y z w : MakeFault) → (if few then Some x else if bad then Some y else if passes then Some z else if past then Some w else None) ≡ None → (bad ≡ false) × (past ≡ false)
  made_by true bad passes past x y z w none = absurd cc
  made_by false true passes past x y z w none = absurd cc
  made_by false false true past x y z w none = absurd cc
  made_by false false false true x y z w none = absurd cc
  made_by false false false false x y z w none = (refl, refl)

  no_tally_before : (tally : Bool) (there : Option ℕ) (count : Bool) → (tally && (is_some there || not count)) ≡ false → tally ≡ true → there ≡ None
  no_tally_before true None count none is = refl
  no_tally_before true (Some t) count none is = absurd cc
  no_tally_before false there count none is = absurd cc

  acted_make_ref : (value : Edn) (rule : Option Rule) (tally : Bool) (reply : Reply) (added : List Entry) (new : Present) → Was → MakesRef accepts knows old value rule tally reply added new → Acted (acts.MakeRef value rule tally) reply added new
  acted_make_ref value rule tally reply added new was did =
      let act = acts.MakeRef value rule tally in
      acted_call act replies.MakeRef _ _ reply added new was (λ f fits. formal act (replies.MakeRef (Err f)) refl tt tt tt (λ g. (refl, refl, refl, refl)) (kept_from (old.txs a)) refl) by did where
        by : (r : ℕ) → refs.make_refusal accepts knows.preds old.refs (old.point + 1) value rule tally ≡ None → (r ≡ length old.refs.values) × Enters (MadeRef value) (with_made_ref old value rule tally) added new → Acted (acts.MakeRef value rule tally) (replies.MakeRef (Ok r)) added new
        by r none ok =
            let at = old.point + 1 in
            let parts = first_none (option_map make_faults.NoSuchFun (unknown knows.preds rule)) _ none in
            let known = known_from_none rule (mapped_none make_faults.NoSuchFun (unknown knows.preds rule) parts.0) in
            let met = made_by (not (nat_lt (length old.refs.values) (2 ^ 20))) (refs.is_bad_tally old.refs value tally) (not (passes accepts rule value)) (nat_lt (2 ^ 62) at) make_faults.Full make_faults.BadTally make_faults.Invalid make_faults.PointLimit parts.1 in
            let after : Present = with_made_ref old value rule tally in
            by_equations (acts.MakeRef value rule tally) (replies.MakeRef (Ok r)) (replies.MakeRef (Ok r)) added (MadeRef value ∷ []) new after refl ok.1.0 ok.1.1
            (acted_world (acts.MakeRef value rule tally) (replies.MakeRef (Ok r)) (MadeRef value ∷ []) after was refl refl refl refl
            (later_made old after value rule tally was.2 (no_tally_before tally old.refs.tally (is_count (value ∷ [])) met.0) refl)
            (kept_made means (with_tally old.refs.tally base) log old was.0 was.1 after value rule tally was.2 (ltb-false (2 ^ 62) at met.1) refl)
            (omega arith)
            (omega (arith, was.2, length-append old.refs.lasts (at ∷ []), length-append old.refs.values (value ∷ [])))
            refl refl
            (λ all. list_all-append (λ (g : Guard). is_known knows.preds g.rule) old.refs.guards (record { rule = rule; watches = [] } ∷ []) ∙ and_from (are_known knows.preds old.refs.guards) (is_known knows.preds rule && true) all (and_from (is_known knows.preds rule) true known refl))
            (λ all. all) (λ all. all) tt tt tt (λ g. (refl, refl, refl, refl)) (kept_from (old.txs a)) refl refl)

  acted_make_atom : (value : Edn) (rule : Option Rule) (reply : Reply) (added : List Entry) (new : Present) → Was → MakesAtom accepts knows old value rule reply added new → Acted (acts.MakeAtom value rule) reply added new
  acted_make_atom value rule reply added new was did =
      let act = acts.MakeAtom value rule in
      acted_call act replies.MakeAtom _ _ reply added new was (λ f fits. formal act (replies.MakeAtom (Err f)) refl tt tt tt (λ g. (refl, refl, refl, refl)) (kept_from (old.txs a)) refl) by did where
        by : (n : ℕ) → makes.make_refusal accepts knows.preds (length old.atoms.values) false (old.point + 1) value rule ≡ None → (n ≡ length old.atoms.values) × Enters (MadeAtom value) (with_made_atom old value rule) added new → Acted (acts.MakeAtom value rule) (replies.MakeAtom (Ok n)) added new
        by n none ok =
            let at = old.point + 1 in
            let parts = first_none (option_map make_faults.NoSuchFun (unknown knows.preds rule)) _ none in
            let known = known_from_none rule (mapped_none make_faults.NoSuchFun (unknown knows.preds rule) parts.0) in
            let met = made_by (not (nat_lt (length old.atoms.values) (2 ^ 20))) false (not (passes accepts rule value)) (nat_lt (2 ^ 62) at) make_faults.Full make_faults.BadTally make_faults.Invalid make_faults.PointLimit parts.1 in
            let after : Present = with_made_atom old value rule in
            by_equations (acts.MakeAtom value rule) (replies.MakeAtom (Ok n)) (replies.MakeAtom (Ok n)) added (MadeAtom value ∷ []) new after refl ok.1.0 ok.1.1
            (acted_world (acts.MakeAtom value rule) (replies.MakeAtom (Ok n)) (MadeAtom value ∷ []) after was refl refl refl refl
            (later_refs old after (omega arith) refl refl refl refl)
            (kept_made_atom means (with_tally old.refs.tally base) log old was.0 was.1 value rule (ltb-false (2 ^ 62) at met.1))
            (omega arith) was.2 refl refl (λ all. all)
            (λ all. list_all-append (λ (g : Guard). is_known knows.preds g.rule) old.atoms.guards (record { rule = rule; watches = [] } ∷ []) ∙ and_from (are_known knows.preds old.atoms.guards) (is_known knows.preds rule && true) all (and_from (is_known knows.preds rule) true known refl))
            (λ all. all) tt tt tt (λ g. (refl, refl, refl, refl)) (kept_from (old.txs a)) refl refl)

  -- ---- a change of an atom

  atom_points : (guard : Option Rule) (op : Op) (v w : Edn) (there : Option Edn) → there ≡ Some v → place means op v ≡ Ok w → refusal_if_here means accepts knows guard (old.point + 1) op there ≡ None → old.point + 1 ≤ 2 ^ 62
  atom_points guard op v w there here gives none =
      let parts = first_none (atom_changes.lacking knows guard op) (late_refusal accepts guard (old.point + 1) (place means op v)) (ap (refusal_if_here means accepts knows guard (old.point + 1) op) (sym here) ∙ none) in
      let late : late_refusal accepts guard (old.point + 1) (Ok w) ≡ None = ap (late_refusal accepts guard (old.point + 1)) (sym gives) ∙ parts.1 in
      within (nat_lt (2 ^ 62) (old.point + 1)) refl (first_none (atom_changes.invalid accepts guard w) (past_points (old.point + 1)) late).1 where
        within : (b : Bool) → nat_lt (2 ^ 62) (old.point + 1) ≡ b → cond b (Some atoms.PointLimit) None ≡ None → old.point + 1 ≤ 2 ^ 62
        within true is none = absurd cc
        within false is none = ltb-false (2 ^ 62) (old.point + 1) is

  -- an atom with another value, by an entry
  acted_atom : (act : Act) (reply : Reply) (n : ℕ) (op : Op) (v w : Edn) → Was → is_set op ≡ true → slice_get old.atoms.values n ≡ Some v → place means op v ≡ Ok w → old.point + 1 ≤ 2 ^ 62 → looked means act reply (old.txs a) looks ≡ looks
      → IsNativeReply reply → IsTold means accepts old (old.txs a) act reply → PlacedAt means old looks (old.txs a) act reply → Quiet act reply → From act reply (old.txs a) → Atom n op w ∷ [] ≡ entered (old.txs a) act reply → is_refused reply ≡ false
      → Acted act reply (Atom n op w ∷ []) (with_atom old n op w)
  acted_atom act reply n op v w was sets here gives limit silent native told placed quiet from adds_all isnt =
      acted_world act reply (Atom n op w ∷ []) (with_atom old n op w) was silent refl refl refl (later_refs old (with_atom old n op w) (omega arith) refl refl refl refl)
      (kept_atom means (with_tally old.refs.tally base) log old was.0 was.1 n op v w sets here gives limit)
      (omega arith) was.2 refl refl (λ all. all) (λ all. all) (λ all. all) native told placed quiet from adds_all isnt

  acted_swap : (act : Act) (n : ℕ) (op : Op) (tell : Result Swapped AtomFault → Reply) (reply : Reply) (added : List Entry) (new : Present) → Was → is_set op ≡ true → ((f : AtomFault) → Formal act (tell (Err f)))
      → ((s : Swapped) → looked means act (tell (Ok s)) (old.txs a) looks ≡ looks) → ((s : Swapped) → IsNativeReply (tell (Ok s)))
      → ((s : Swapped) → slice_get old.atoms.values n ≡ Some s.old → place means op s.old ≡ Ok s.new → IsTold means accepts old (old.txs a) act (tell (Ok s)))
      → ((s : Swapped) → PlacedAt means old looks (old.txs a) act (tell (Ok s))) → ((s : Swapped) → Quiet act (tell (Ok s))) → ((s : Swapped) → From act (tell (Ok s)) (old.txs a))
      → ((s : Swapped) → Atom n op s.new ∷ [] ≡ entered (old.txs a) act (tell (Ok s))) → ((s : Swapped) → is_refused (tell (Ok s)) ≡ false)
      → Swaps means accepts knows old n op tell reply added new → Acted act reply added new
  acted_swap act n op tell reply added new was sets form silent native told placed quiet from adds_all isnt did = acted_call act tell _ _ reply added new was (λ f fits. form f) by did where
    by : (s : Swapped) → change_refusal means accepts knows old.atoms (old.point + 1) n op ≡ None → IsSwapped means old n op s added new → Acted act (tell (Ok s)) added new
    by s none ok =
        let limit = atom_points (rule_at old.atoms.guards n) op s.old s.new (slice_get old.atoms.values n) ok.old_value ok.new_value none in
        by_equations act (tell (Ok s)) (tell (Ok s)) added (Atom n op s.new ∷ []) new (with_atom old n op s.new) refl ok.after.0 ok.after.1
        (acted_atom act (tell (Ok s)) n op s.old s.new was sets ok.old_value ok.new_value limit (silent s) (native s) (told s ok.old_value ok.new_value) (placed s) (quiet s) (from s) (adds_all s) (isnt s))

  reset_value : (v w x : Edn) → place means (Set v) x ≡ Ok w → v ≡ w
  reset_value v w x is = cc

  -- a comparison that finds the old value
  same_here : (there : Option Edn) (was : Edn) → is_same_if_here there was ≡ true → (v : Edn) × (there ≡ Some v)
  same_here None was is = absurd cc
  same_here (Some v) was is = (v, refl)

  compare_points : (rule : Option Rule) (was v : Edn) (there : Option Edn) → is_same_if_here there was ≡ true → compare_refusal_if_here accepts knows.preds rule (old.point + 1) was v there ≡ None → old.point + 1 ≤ 2 ^ 62
  compare_points rule was v None same none = absurd cc
  compare_points rule was v (Some w) same none =
      let rest = (first_none (option_map atoms.NoSuchFun (unknown knows.preds rule)) _ none).1 in
      let last = (first_none (atom_changes.invalid accepts rule v) _ rest).1 in
      within (is_same was w) (nat_lt (2 ^ 62) (old.point + 1)) same refl last where
        within : (same b : Bool) → same ≡ true → nat_lt (2 ^ 62) (old.point + 1) ≡ b → cond same (cond b (Some atoms.PointLimit) None) None ≡ None → old.point + 1 ≤ 2 ^ 62
        within true true same is none = absurd cc
        within true false same is none = ltb-false (2 ^ 62) (old.point + 1) is
        within false b same is none = absurd cc

  acted_compare : (n : ℕ) (first v : Edn) (reply : Reply) (added : List Entry) (new : Present) → Was → Compares accepts knows old n first v reply added new → Acted (acts.CompareAndSet n first v) reply added new
  acted_compare n first v reply added new was did =
      let act = acts.CompareAndSet n first v in
      acted_call act replies.CompareAndSet _ _ reply added new was (λ f fits. formal act (replies.CompareAndSet (Err f)) refl tt tt tt (λ g. (refl, refl, refl, refl)) (kept_from (old.txs a)) refl)
      (λ cas none ok. by cas cas.done refl none ok) did where
        by : (cas : Cas) (b : Bool) → cas.done ≡ b → compare_refusal accepts knows.preds old.atoms (old.point + 1) n first v ≡ None → IsCompared old n first v cas added new → Acted (acts.CompareAndSet n first v) (replies.CompareAndSet (Ok cas)) added new
        by cas true done none ok =
            let same : is_same_if_here (slice_get old.atoms.values n) first ≡ true = sym ok.done ∙ done in
            let here = same_here (slice_get old.atoms.values n) first same in
            let sets = ok.sets done in
            by_equations (acts.CompareAndSet n first v) (replies.CompareAndSet (Ok cas)) (replies.CompareAndSet (Ok cas)) added (Atom n (Set v) v ∷ []) new (with_atom old n (Set v) v) refl sets.0.0 sets.0.1
            (acted_atom (acts.CompareAndSet n first v) (replies.CompareAndSet (Ok cas)) n (Set v) here.0 v was refl here.1 refl (compare_points (rule_at old.atoms.guards n) first v (slice_get old.atoms.values n) same none) refl tt tt tt (λ g. (refl, refl, refl, refl)) (kept_from (old.txs a))
            (ap (λ b. cond b (Atom n (Set v) v ∷ []) []) (sym done)) refl)
        by cas false done none ok =
            let stays_all = ok.leaves done in
            undone (acts.CompareAndSet n first v) (replies.CompareAndSet (Ok cas)) (replies.CompareAndSet (Ok cas)) added new was
            (formal (acts.CompareAndSet n first v) (replies.CompareAndSet (Ok cas)) refl tt tt tt (λ g. (refl, refl, refl, refl)) (kept_from (old.txs a)) (ap (λ b. cond b (Atom n (Set v) v ∷ []) []) done)) refl stays_all.0

  -- ---- rules and watches

  known_set : (gs : List Guard) (n : ℕ) (g : Guard) → is_known knows.preds g.rule ≡ true → are_known knows.preds gs ≡ true → are_known knows.preds (slice_set gs n g) ≡ true
  known_set [] n g one all = all
  known_set (x ∷ xs) zero g one all = and_from (is_known knows.preds g.rule) (are_known knows.preds xs) one (and_parts (is_known knows.preds x.rule) (are_known knows.preds xs) all).1
  known_set (x ∷ xs) (suc n) g one all =
      let parts = and_parts (is_known knows.preds x.rule) (are_known knows.preds xs) all in
      and_from (is_known knows.preds x.rule) (are_known knows.preds (slice_set xs n g)) parts.0 (known_set xs n g one parts.1)

  known_change : (gs : List Guard) (n : ℕ) (f : Guard → Guard) (there : Option Guard) → ((g : Guard) → is_known knows.preds g.rule ≡ true → is_known knows.preds (f g).rule ≡ true) → slice_get gs n ≡ there → are_known knows.preds gs ≡ true → are_known knows.preds (change_if_here gs n f there) ≡ true
  known_change gs n f None each is all = all
  known_change gs n f (Some g) each is all = known_set gs n (f g) (each g (known_get gs n g is all)) all where
    known_get : (xs : List Guard) (i : ℕ) (x : Guard) → slice_get xs i ≡ Some x → are_known knows.preds xs ≡ true → is_known knows.preds x.rule ≡ true
    known_get [] i x is all = absurd cc
    known_get (y ∷ ys) zero x is all =
        let same : y ≡ x = cc in
        subst (λ (z : Guard). is_known knows.preds z.rule ≡ true) same (and_parts (is_known knows.preds y.rule) (are_known knows.preds ys) all).0
    known_get (y ∷ ys) (suc i) x is all = known_get ys i x is (and_parts (is_known knows.preds y.rule) (are_known knows.preds ys) all).1

  rule_known : (rule : Option Rule) (there : Option Edn) → rule_refusal accepts knows.preds there rule ≡ None → is_known knows.preds rule ≡ true
  rule_known rule None none = absurd cc
  rule_known rule (Some v) none = known_from_none rule (by (unknown knows.preds rule) (passes accepts rule v) none) where
    by : (code : Option ℕ) (ok : Bool) → rule_fault code ok ≡ None → code ≡ None
    by None ok none = refl
    by (Some code) ok none = absurd cc

  guards_later : (w : Who) (gs : List Guard) → IsLater old (with_guards old w gs)
  guards_later (who.Ref r) gs = later_refs old (with_guards old (who.Ref r) gs) (omega arith) refl refl refl refl
  guards_later (who.Atom n) gs = later_refs old (with_guards old (who.Atom n) gs) (omega arith) refl refl refl refl
  guards_later (who.Agent g) gs = later_refs old (with_guards old (who.Agent g) gs) (omega arith) refl refl refl refl

  acted_guards : (act : Act) (reply : Reply) (w : Who) (gs : List Guard) → Was → looked means act reply (old.txs a) looks ≡ looks → (are_known knows.preds (guards_of old w) ≡ true → are_known knows.preds gs ≡ true)
      → IsNativeReply reply → IsTold means accepts old (old.txs a) act reply → PlacedAt means old looks (old.txs a) act reply → Quiet act reply → From act reply (old.txs a) → [] ≡ entered (old.txs a) act reply → is_refused reply ≡ false
      → Acted act reply [] (with_guards old w gs)
  acted_guards act reply w gs was silent known native told placed quiet from adds_all isnt = by w known where
    kept : (w : Who) → IsWorld means (with_tally old.refs.tally base) (log ++ []) (with_guards old w gs).refs (with_guards old w gs).atoms (with_guards old w gs).agents.unreleased
    kept w = subst (λ l. IsWorld means (with_tally old.refs.tally base) l (with_guards old w gs).refs (with_guards old w gs).atoms (with_guards old w gs).agents.unreleased) (sym (append-nil log)) (kept_guards means (with_tally old.refs.tally base) log old w gs was.0)

    by : (w : Who) → (are_known knows.preds (guards_of old w) ≡ true → are_known knows.preds gs ≡ true) → Acted act reply [] (with_guards old w gs)
    by (who.Ref r) known = acted_world act reply [] (with_guards old (who.Ref r) gs) was silent refl refl refl (guards_later (who.Ref r) gs) (kept (who.Ref r)) (omega arith) was.2 refl refl known (λ all. all) (λ all. all) native told placed quiet from adds_all isnt
    by (who.Atom n) known = acted_world act reply [] (with_guards old (who.Atom n) gs) was silent refl refl refl (guards_later (who.Atom n) gs) (kept (who.Atom n)) (omega arith) was.2 refl refl (λ all. all) known (λ all. all) native told placed quiet from adds_all isnt
    by (who.Agent g) known = acted_world act reply [] (with_guards old (who.Agent g) gs) was silent refl refl refl (guards_later (who.Agent g) gs) (kept (who.Agent g)) (omega arith) was.2 refl refl (λ all. all) (λ all. all) known native told placed quiet from adds_all isnt

  acted_rule : (w : Who) (rule : Option Rule) (reply : Reply) (added : List Entry) (new : Present) → Was → SetsRule accepts knows old w rule reply added new → Acted (acts.SetValidator w rule) reply added new
  acted_rule w rule reply added new was did =
      let act = acts.SetValidator w rule in
      acted_call act replies.SetValidator _ _ reply added new was (λ f fits. formal act (replies.SetValidator (Err f)) refl tt tt tt (λ g. (refl, refl, refl, refl)) (kept_from (old.txs a)) refl)
      (λ u fits ok. by_equations act (replies.SetValidator (Ok u)) (replies.SetValidator (Ok u)) added [] new (with_guards old w (with_rule (guards_of old w) (number_of w) rule)) refl ok.0 ok.1
      (acted_guards act (replies.SetValidator (Ok u)) w (with_rule (guards_of old w) (number_of w) rule) was refl
      (known_change (guards_of old w) (number_of w) (λ guard. record guard { rule = rule }) (slice_get (guards_of old w) (number_of w)) (λ g known. rule_known rule (value_at old w) fits.0) refl)
      tt tt tt (λ g. (refl, refl, refl, refl)) (kept_from (old.txs a)) refl refl)) did

  acted_add_watch : (w : Who) (key : Edn) (reply : Reply) (added : List Entry) (new : Present) → Was → AddsWatch old w key reply added new → Acted (acts.AddWatch w key) reply added new
  acted_add_watch w key reply added new was did =
      let act = acts.AddWatch w key in
      acted_call act replies.AddWatch _ _ reply added new was (λ f fits. formal act (replies.AddWatch (Err f)) refl tt tt tt (λ g. (refl, refl, refl, refl)) (kept_from (old.txs a)) refl)
      (λ is_new fits ok. by_equations act (replies.AddWatch (Ok is_new)) (replies.AddWatch (Ok is_new)) added [] new (with_guards old w (with_watch (guards_of old w) (number_of w) key)) refl ok.0 ok.1
      (acted_guards act (replies.AddWatch (Ok is_new)) w (with_watch (guards_of old w) (number_of w) key) was refl
      (known_change (guards_of old w) (number_of w) (λ guard. record guard { watches = with_key guard.watches key }) (slice_get (guards_of old w) (number_of w)) (λ g known. known) refl)
      tt tt tt (λ g. (refl, refl, refl, refl)) (kept_from (old.txs a)) refl refl)) did

  acted_remove_watch : (w : Who) (key : Edn) (reply : Reply) (added : List Entry) (new : Present) → Was → RemovesWatch old w key reply added new → Acted (acts.RemoveWatch w key) reply added new
  acted_remove_watch w key reply added new was did =
      let act = acts.RemoveWatch w key in
      let told = replies.RemoveWatch (has_key (watches_of old w) key) in
      by_equations act reply told added [] new (with_guards old w (without_watch (guards_of old w) (number_of w) key)) did.0 did.1.0 did.1.1
      (acted_guards act told w (without_watch (guards_of old w) (number_of w) key) was refl
      (known_change (guards_of old w) (number_of w) (λ guard. record guard { watches = without_key guard.watches key }) (slice_get (guards_of old w) (number_of w)) (λ g known. known) refl)
      tt tt tt (λ g. (refl, refl, refl, refl)) (kept_from (old.txs a)) refl refl)

  -- ---- reads

  acted_value : (w : Who) (reply : Reply) (added : List Entry) (new : Present) → Was → ReadsValue old w reply added new → Acted (acts.ValueOf w) reply added new
  acted_value w reply added new was did =
      let act = acts.ValueOf w in
      acted_call act replies.ValueOf _ _ reply added new was (λ f fits. formal act (replies.ValueOf (Err f)) refl tt tt tt (λ g. (refl, refl, refl, refl)) (kept_from (old.txs a)) refl)
      (λ v fits ok. undone act (replies.ValueOf (Ok v)) (replies.ValueOf (Ok v)) added new was (formal act (replies.ValueOf (Ok v)) refl tt fits.0 tt (λ g. (refl, refl, refl, refl)) (kept_from (old.txs a)) refl) refl ok) did

  acted_rule_of : (w : Who) (reply : Reply) (added : List Entry) (new : Present) → Was → ReadsRule old w reply added new → Acted (acts.RuleOf w) reply added new
  acted_rule_of w reply added new was did =
      let act = acts.RuleOf w in
      acted_call act replies.RuleOf _ _ reply added new was (λ f fits. formal act (replies.RuleOf (Err f)) refl tt tt tt (λ g. (refl, refl, refl, refl)) (kept_from (old.txs a)) refl)
      (λ rule fits ok. undone act (replies.RuleOf (Ok rule)) (replies.RuleOf (Ok rule)) added new was (formal act (replies.RuleOf (Ok rule)) refl tt fits.0 tt (λ g. (refl, refl, refl, refl)) (kept_from (old.txs a)) refl) refl ok) did

  -- ---- acts on agents

  -- where only agents and jobs change
  acted_agents : (act : Act) (reply : Reply) (store : AgentsSeen) (js : ℕ → Option HeldSeen) → Was → looked means act reply (old.txs a) looks ≡ looks → length old.agents.agents ≤ length store.agents
      → are_past (point_after base log) store.unreleased ≡ true → (are_known knows.preds old.agents.guards ≡ true → are_known knows.preds store.guards ≡ true) → ((b : ℕ) → (b ≡ a → ⊥) → js b ≡ old.jobs b)
      → IsNativeReply reply → IsTold means accepts old (old.txs a) act reply → PlacedAt means old looks (old.txs a) act reply → From act reply (old.txs a) → [] ≡ entered (old.txs a) act reply → is_refused reply ≡ false
      → (Sound → (g : ℕ) → given_at store.agents g ≡ accepted old (old.txs a) (old.jobs a) act reply g) → (Sound → (g : ℕ) → queue_at store.agents g ≡ queue_after old (old.txs a) (old.jobs a) act reply g)
      → (Sound → (g : ℕ) → is_carrying_at store.agents g ≡ carrying_after old (old.jobs a) act reply g) → (Sound → AreCarried store.agents)
      → (AreJobs means old → (g : ℕ) → handled_at store.agents g ≡ ended_by old (old.jobs a) act reply g) → (AreJobs means old → AreJobs means (record old { agents = store; jobs = js })) → Acted act reply [] (record old { agents = store; jobs = js })
  acted_agents act reply store js was silent count past known others native told placed from adds_all isnt given queues carrying carried handled jobs = record {
    later = record { point = omega arith; count = omega arith; same = λ r before. (refl, refl); tally = inl refl; agents = count };
    world = subst (λ l. IsWorld means (with_tally old.refs.tally base) l old.refs old.atoms store.unreleased) (sym (append-nil log)) (held_as means (with_tally old.refs.tally base) log old.refs old.atoms old.agents.unreleased was.0 store.unreleased past);
    point = omega arith;
    count = was.2;
    parts = refl;
    counted = refl;
    goes = stays refl silent;
    others = λ b other. (refl, others b other);
    refs_known = λ all. all;
    atoms_known = λ all. all;
    agents_known = known;
    native = λ served had. native;
    told = told;
    began = from;
    placed = λ had heard. placed;
    given = given;
    queues = queues;
    carrying = carrying;
    carried = carried;
    handled = handled;
    jobs = jobs;
    adds_all = adds_all;
    refused = λ is. absurd (true_false (sym is ∙ isnt));
  }

  past_still : Was → are_past (point_after base log) old.agents.unreleased ≡ true
  past_still was = was.0.held

  changed_length : (xs : List Agent) (g : ℕ) (f : Agent → Agent) (there : Option Agent) → length (put_agent xs g f there) ≡ length xs
  changed_length xs g f None = refl
  changed_length xs g f (Some agent) = length-set xs g (f agent)

  changed_count : (g : ℕ) (f : Agent → Agent) → length old.agents.agents ≤ length (change_agent old.agents.agents g f)
  changed_count g f = omega (arith, changed_length old.agents.agents g f (slice_get old.agents.agents g))

  acted_send : (h : ℕ) (action : Action) (reply : Reply) (added : List Entry) (new : Present) → Was → Sends old h action reply added new → Acted (acts.Send h action) reply added new
  acted_send h action reply added new was did =
      let act = acts.Send h action in
      acted_call act replies.Send _ _ reply added new was (λ f fits. formal act (replies.Send (Err f)) refl tt tt tt (λ g. (refl, refl, refl, refl)) (kept_from (old.txs a)) refl) by did where
        by : (u : Unit {0}) → agents.send_refusal old.agents.agents h action ≡ None → Becomes (with_store old (with_agents old.agents (with_send old.agents.agents h (outside action)))) added new → Acted (acts.Send h action) (replies.Send (Ok u)) added new
        by u none ok =
            let parts = or_parts (option_map (λ n. send_faults.NoSuchAgent) (absent_agent (length old.agents.agents) h action)) _ none in
            let goes = here_by (length old.agents.agents) h action (mapped_away send_faults.NoSuchAgent (absent_agent (length old.agents.agents) h action) parts.0) in
            let count = changed_length old.agents.agents h (queuing (outside action)) (slice_get old.agents.agents h) in
            by_equations (acts.Send h action) (replies.Send (Ok u)) (replies.Send (Ok u)) added [] new (with_store old (with_agents old.agents (with_send old.agents.agents h (outside action)))) refl ok.0 ok.1
            (acted_agents (acts.Send h action) (replies.Send (Ok u)) (with_agents old.agents (with_send old.agents.agents h (outside action))) old.jobs was refl (changed_count h (queuing (outside action))) (past_still was) (λ all. all) (λ b other. refl) tt tt tt (kept_from (old.txs a)) refl refl
            (λ so g. given_outside old.agents.agents h g (outside action) goes.0)
            (λ so g. queue_outside old.agents.agents h g (outside action) goes.0)
            (λ so g. seen_same is_carrying_if_here old.agents.agents h g (queuing (outside action)) (λ agent there. refl))
            (λ so. carried_outside old.agents.agents h action goes.0 goes.1 (sym count) so.2)
            (λ are g. handled_same old.agents.agents h g (queuing (outside action)) (λ agent. refl))
            (kept_all means old (with_store old (with_agents old.agents (with_send old.agents.agents h (outside action)))) refl (λ n job out. out_send old.agents.agents h (outside action) n job out)
            (λ n is_out. sym (away_same old.agents.agents h n (queuing (outside action)) (λ agent. refl)) ∙ is_out)))

  acted_release : (point : ℕ) (reply : Reply) (added : List Entry) (new : Present) → Was → Releases old point reply added new → Acted (acts.Release point) reply added new
  acted_release point reply added new was did = by_equations (acts.Release point) reply _ added [] new (with_store old (agents.with_release old.agents point)) did.0 did.1.0 did.1.1
      (acted_agents (acts.Release point) (replies.Release _) (agents.with_release old.agents point) old.jobs was refl (omega arith) (held_fewer (point_after base log) (is_at (nat_cmp point)) old.agents.unreleased (past_still was)) (λ all. all) (λ b other. refl) tt tt tt (kept_from (old.txs a)) refl refl (λ so g. refl) (λ so g. refl) (λ so g. refl) (λ so. so.2) (λ are g. refl)
      (jobs_same means old (with_store old (agents.with_release old.agents point)) refl refl))

  acted_release_carried : (h : ℕ) (reply : Reply) (added : List Entry) (new : Present) → Was → ReleasesCarried old h reply added new → Acted (acts.ReleaseCarried h) reply added new
  acted_release_carried h reply added new was did = by_equations (acts.ReleaseCarried h) reply _ added [] new (with_store old (with_carried_released old.agents h)) did.0 did.1.0 did.1.1
      (acted_agents (acts.ReleaseCarried h) (replies.ReleaseCarried _) (with_carried_released old.agents h) old.jobs was refl (omega (arith, freed-length old.agents h)) past (λ all. known all) (λ b other. refl) tt refl tt (kept_from (old.txs a)) refl refl
      (λ so g. given_freed old.agents h g)
      (λ so g. queue_freed old.agents h so.2 g)
      (λ so g. carrying_freed old.agents h g)
      (λ so. carried_freed old.agents h so.2)
      (λ are g. seen_freed handled_if_here old.agents h g (λ agent. refl) (λ agent. refl))
      (kept_all means old (with_store old (with_carried_released old.agents h)) refl (λ n job out. out_freed old.agents h n job out) (λ n is_out. sym (away_freed old.agents h n) ∙ is_out))) where
        same : {X : Type 0} (see : AgentsSeen → X) (b : Bool) (more : List Agent) → ((l : List Agent) → see (with_agents old.agents l) ≡ see old.agents) → see (cond b (with_agents old.agents more) old.agents) ≡ see old.agents
        same see true more is = is more
        same see false more is = refl

        past : are_past (point_after base log) (with_carried_released old.agents h).unreleased ≡ true
        past = ap (are_past (point_after base log)) (same (λ s. s.unreleased) (is_carrying_at old.agents.agents h) _ (λ l. refl)) ∙ past_still was

        known : are_known knows.preds old.agents.guards ≡ true → are_known knows.preds (with_carried_released old.agents h).guards ≡ true
        known all = ap (are_known knows.preds) (same (λ s. s.guards) (is_carrying_at old.agents.agents h) _ (λ l. refl)) ∙ all

  restart_here : (rule : Option Rule) (state : Edn) (there : Option Agent) → restart_refusal_if_here accepts knows.preds rule state there ≡ None → (agent : Agent) × (there ≡ Some agent) × (is_some agent.error ≡ true)
  restart_here rule state None none = absurd cc
  restart_here rule state (Some agent) none = (agent, refl, failed (is_some agent.error) _ (first_none _ _ none).1) where
    failed : (b : Bool) (rest : Option RestartFault) → cond (not b) (Some restart_faults.NotFailed) rest ≡ None → b ≡ true
    failed true rest none = refl
    failed false rest none = absurd cc

  the_same : (x y : Agent) (o : Option Agent) (P : Agent → Type 0) → o ≡ Some x → o ≡ Some y → P x → P y
  the_same x y o P one other p = subst (λ z. P (agent_or x z)) (sym one ∙ other) p where
    agent_or : Agent → Option Agent → Agent
    agent_or d None = d
    agent_or d (Some z) = z

  acted_restart : (h : ℕ) (state : Edn) (clear : Bool) (reply : Reply) (added : List Entry) (new : Present) → Was → Restarts accepts knows old h state clear reply added new → Acted (acts.Restart h state clear) reply added new
  acted_restart h state clear reply added new was did =
      let act = acts.Restart h state clear in
      acted_call act replies.Restart _ _ reply added new was (λ f fits. formal act (replies.Restart (Err f)) refl tt tt tt (λ g. (refl, refl, refl, refl)) (kept_from (old.txs a)) refl) by did where
        by : (u : Unit {0}) → restart_refusal accepts knows.preds old.agents h state ≡ None → Becomes (with_store old (agents.with_restart old.agents h state clear)) added new → Acted (acts.Restart h state clear) (replies.Restart (Ok u)) added new
        by u none ok =
            let here = restart_here (rule_at old.agents.guards h) state (slice_get old.agents.agents h) none in
            by_equations (acts.Restart h state clear) (replies.Restart (Ok u)) (replies.Restart (Ok u)) added [] new (with_store old (agents.with_restart old.agents h state clear)) refl ok.0 ok.1
            (acted_agents (acts.Restart h state clear) (replies.Restart (Ok u)) (agents.with_restart old.agents h state clear) old.jobs was refl (changed_count h (revived state clear)) (past_still was) (λ all. all) (λ b other. refl) tt tt tt (kept_from (old.txs a)) refl refl
            (λ so g. given_restarted old.agents.agents h g state clear here.0 here.1)
            (λ so g. queue_restarted old.agents.agents h g state clear here.0 here.1)
            (λ so g. seen_same is_carrying_if_here old.agents.agents h g (revived state clear) (λ agent there. refl))
            (λ so. carried_restarted old.agents.agents h state clear here.0 here.1 here.2 (changed_count h (revived state clear)) so.2)
            (λ are g. handled_restarted old.agents.agents h g state clear here.0 here.1)
            (kept_all means old (with_store old (agents.with_restart old.agents h state clear)) refl (λ n job out. out_restart old.agents.agents h state clear n job
            (λ agent there. the_same here.0 agent (slice_get old.agents.agents h) (λ x. is_some x.error ≡ true) here.1 there here.2) out)
            (λ n is_out. sym (away_same old.agents.agents h n (revived state clear) (λ agent. refl)) ∙ is_out)))

  acted_mode : (h : ℕ) (mode : ErrorMode) (reply : Reply) (added : List Entry) (new : Present) → Was → SetsMode old h mode reply added new → Acted (acts.SetErrorMode h mode) reply added new
  acted_mode h mode reply added new was did =
      let act = acts.SetErrorMode h mode in
      acted_call act replies.SetErrorMode _ _ reply added new was (λ f fits. formal act (replies.SetErrorMode (Err f)) refl tt tt tt (λ g. (refl, refl, refl, refl)) (kept_from (old.txs a)) refl)
      (λ u fits ok. by_equations act (replies.SetErrorMode (Ok u)) (replies.SetErrorMode (Ok u)) added [] new (with_store old (agents.with_mode old.agents h mode)) refl ok.0 ok.1
      (acted_agents act (replies.SetErrorMode (Ok u)) (agents.with_mode old.agents h mode) old.jobs was refl (changed_count h (moded mode)) (past_still was) (λ all. all) (λ b other. refl) tt tt tt (kept_from (old.txs a)) refl refl
      (λ so g. given_mode old.agents.agents h g mode)
      (λ so g. seen_same queue_if_here old.agents.agents h g (moded mode) (λ agent there. refl))
      (λ so g. seen_same is_carrying_if_here old.agents.agents h g (moded mode) (λ agent there. refl))
      (λ so. carried_changed old.agents.agents h (moded mode) (changed_count h (moded mode)) (λ agent. refl) (λ agent. refl) (λ agent. refl) (λ agent. refl) so.2)
      (λ are g. handled_same old.agents.agents h g (moded mode) (λ agent. refl))
      (kept_all means old (with_store old (agents.with_mode old.agents h mode)) refl (λ n job out. out_mode old.agents.agents h mode n job out)
      (λ n is_out. sym (away_same old.agents.agents h n (moded mode) (λ agent. refl)) ∙ is_out)))) did

  acted_fold : (h : ℕ) (reply : Reply) (added : List Entry) (new : Present) → Was → FoldsAgent old h reply added new → Acted (acts.Fold h) reply added new
  acted_fold h reply added new was did =
      let act = acts.Fold h in
      acted_call act replies.Fold _ _ reply added new was (λ f fits. formal act (replies.Fold (Err f)) refl tt tt tt (λ g. (refl, refl, refl, refl)) (kept_from (old.txs a)) refl) (λ done fits ok. by done fits.0 ok) did where
        by : (done : Bool) → done ≡ can_fold_at old.agents.agents h → Becomes (with_store old (agents.with_fold old.agents h)) added new → Acted (acts.Fold h) (replies.Fold (Ok done)) added new
        by false can ok = undone (acts.Fold h) (replies.Fold (Ok false)) (replies.Fold (Ok false)) added new was
            (formal (acts.Fold h) (replies.Fold (Ok false)) refl tt can tt (λ g. (refl, refl, refl, refl)) (kept_from (old.txs a)) refl) refl (ok.0, ok.1 ∙ ap (with_store old) (not_folded old.agents h (sym can)))
        by true can ok = by_equations (acts.Fold h) (replies.Fold (Ok true)) (replies.Fold (Ok true)) added [] new (with_store old (agents.with_fold old.agents h)) refl ok.0 ok.1
            (acted_agents (acts.Fold h) (replies.Fold (Ok true)) (agents.with_fold old.agents h) old.jobs was refl (changed_count h folding) (past_still was) (λ all. all) (λ b other. refl) tt can tt (kept_from (old.txs a)) refl refl
            (λ so g. given_folded old.agents.agents h g (sym can))
            (λ so g. queue_folded old.agents.agents h g)
            (λ so g. carrying_folded old.agents.agents h g)
            (λ so. carried_folded old.agents.agents h (sym can) (changed_count h folding) so.2)
            (λ are g. handled_folded old.agents.agents h g (sym can))
            (kept_all means old (with_store old (agents.with_fold old.agents h)) refl (λ n job out. out_folded old.agents.agents h n job out) (λ n is_out. sym (away_folded old.agents.agents h n) ∙ is_out)))

  acted_make_agent : (value : Edn) (rule : Option Rule) (mode : ErrorMode) (reply : Reply) (added : List Entry) (new : Present) → Was → MakesAgent accepts knows old value rule mode reply added new → Acted (acts.MakeAgent value rule mode) reply added new
  acted_make_agent value rule mode reply added new was did =
      let act = acts.MakeAgent value rule mode in
      acted_call act replies.MakeAgent _ _ reply added new was (λ f fits. formal act (replies.MakeAgent (Err f)) refl tt tt tt (λ g. (refl, refl, refl, refl)) (kept_from (old.txs a)) refl) by did where
        by : (r : ℕ) → agent_makes.agent_refusal accepts knows.preds old.agents value rule ≡ None → (r ≡ length old.agents.agents) × Becomes (with_store old (agent_makes.with_agent old.agents value rule mode)) added new → Acted (acts.MakeAgent value rule mode) (replies.MakeAgent (Ok r)) added new
        by r none ok =
            let parts = first_none (option_map make_faults.NoSuchFun (unknown knows.preds rule)) _ none in
            let known = known_from_none rule (mapped_none make_faults.NoSuchFun (unknown knows.preds rule) parts.0) in
            let more : Agent = agent_makes.new_agent value mode in
            by_equations (acts.MakeAgent value rule mode) (replies.MakeAgent (Ok r)) (replies.MakeAgent (Ok r)) added [] new (with_store old (agent_makes.with_agent old.agents value rule mode)) refl ok.1.0 ok.1.1
            (acted_agents (acts.MakeAgent value rule mode) (replies.MakeAgent (Ok r)) (agent_makes.with_agent old.agents value rule mode) old.jobs was refl (omega (arith, length-append old.agents.agents (more ∷ []))) (past_still was)
            (λ all. list_all-append (λ (g : Guard). is_known knows.preds g.rule) old.agents.guards (record { rule = rule; watches = [] } ∷ []) ∙ and_from (are_known knows.preds old.agents.guards) (is_known knows.preds rule && true) all (and_from (is_known knows.preds rule) true known refl))
            (λ b other. refl) tt tt tt (kept_from (old.txs a)) refl refl
            (λ so g. given_made old.agents.agents more g refl)
            (λ so g. see_more queue_if_here more refl old.agents.agents g)
            (λ so g. see_more is_carrying_if_here more refl old.agents.agents g)
            (λ so. carried_made old.agents.agents more (omega (arith, length-append old.agents.agents (more ∷ []))) refl refl refl refl so.2)
            (λ are g. handled_made old.agents.agents more g refl)
            (kept_all means old (with_store old (agent_makes.with_agent old.agents value rule mode)) refl (λ n job out. out_made old.agents.agents more n job out)
            (λ n is_out. sym (away_made old.agents.agents more n refl) ∙ is_out)))

  -- ---- jobs

  acted_take : (reply : Reply) (added : List Entry) (new : Present) → Was → Takes old a reply added new → Acted acts.Take reply added new
  acted_take reply added new was did = by (old.jobs a) refl did where
    may_take : (one : ℕ × ℕ) (ok : IsTaken old a one added new) → MayTake old.agents one.0
    may_take one ok = subst (λ (n : ℕ × ℕ). MayTake old.agents n.0) (sym ok.named) (may_be_taken old.agents ok.job.agent ok.ready)

    found_one : (told : Option (ℕ × ℕ)) → old.jobs a ≡ None → TakesAny old a added new told → Acted acts.Take (replies.Take (Ok told)) added new
    found_one None free ok = undone acts.Take (replies.Take (Ok None)) (replies.Take (Ok None)) added new was (formal acts.Take (replies.Take (Ok None)) refl tt tt tt (λ g. (refl, refl, refl, refl)) (kept_from (old.txs a)) refl) refl ok.1
    found_one (Some one) free ok =
        let store = with_out old.agents ok.job.agent true in
        by_equations acts.Take (replies.Take (Ok (Some one))) (replies.Take (Ok (Some one))) added [] new (with_job old store a (Some (record { job = ok.job; outcome = None }))) refl ok.after.0 ok.after.1
        (acted_agents acts.Take (replies.Take (Ok (Some one))) store _ was refl (changed_count ok.job.agent (outed true)) (past_still was) (λ all. all) (λ b other. put_other old.jobs a _ b other) tt (may_take one ok) tt (kept_from (old.txs a)) refl refl
        (λ so g. given_out old.agents.agents ok.job.agent g true)
        (λ so g. seen_same queue_if_here old.agents.agents ok.job.agent g (outed true) (λ agent there. refl))
        (λ so g. seen_same is_carrying_if_here old.agents.agents ok.job.agent g (outed true) (λ agent there. refl))
        (λ so. carried_changed old.agents.agents ok.job.agent (outed true) (changed_count ok.job.agent (outed true)) (λ agent. refl) (λ agent. refl) (λ agent. refl) (λ agent. refl) so.2)
        (λ are g. handled_same old.agents.agents ok.job.agent g (outed true) (λ agent. refl))
        (λ are. jobs_taken means old a one added new ok free are))

    by : (o : Option HeldSeen) → old.jobs a ≡ o → WithJob o (λ held. (reply ≡ replies.Busy) × Becomes old added new)
        (Calls replies.Take Anything (TakesAny old a added new) old reply added new) → Acted acts.Take reply added new
    by (Some held) is h = undone acts.Take reply replies.Busy added new was (formal acts.Take replies.Busy refl tt tt tt (λ g. (refl, refl, refl, refl)) (kept_from (old.txs a)) refl) h.0 h.1
    by None is h = acted_call acts.Take replies.Take Anything (TakesAny old a added new) reply added new was (λ f fits. formal acts.Take (replies.Take (Err f)) refl tt tt tt (λ g. (refl, refl, refl, refl)) (kept_from (old.txs a)) refl)
        (λ told fits ok. found_one told is ok) h

  on_job : (act : Act) (reply : Reply) (added : List Entry) (new : Present) (P : HeldSeen → Type 0) (o : Option HeldSeen) → Was → Formal act replies.NoJob → old.jobs a ≡ o
      → ((held : HeldSeen) → old.jobs a ≡ Some held → P held → Acted act reply added new) → WithJob o P ((reply ≡ replies.NoJob) × Becomes old added new) → Acted act reply added new
  on_job act reply added new P None was form is each h = undone act reply replies.NoJob added new was form h.0 h.1
  on_job act reply added new P (Some held) was form is each h = each held is h

  acted_run : (reply : Reply) (added : List Entry) (new : Present) → Was → Runs means knows old a reply added new → Acted acts.Run reply added new
  acted_run reply added new was did = on_job acts.Run reply added new _ (old.jobs a) was (formal acts.Run replies.NoJob refl tt tt tt (λ g. (refl, refl, refl, refl)) (kept_from (old.txs a)) refl) refl (λ held is h. by held is held.outcome h) did where
    by : (held : HeldSeen) → old.jobs a ≡ Some held → (o : Option (Result Edn Cause)) → WithRun o
        (Calls replies.Run (TellsThenMemory job_faults.Memory (run_refusal knows.funs held.job)) (λ u. Becomes (with_job old old.agents a (Some (run means held.job))) added new) old reply added new)
        (λ outcome. (reply ≡ replies.Busy) × Becomes old added new) → Acted acts.Run reply added new
    by held is None h = acted_call acts.Run replies.Run _ _ reply added new was (λ f fits. formal acts.Run (replies.Run (Err f)) refl tt tt tt (λ g. (refl, refl, refl, refl)) (kept_from (old.txs a)) refl)
        (λ u fits ok. by_equations acts.Run (replies.Run (Ok u)) (replies.Run (Ok u)) added [] new (with_job old old.agents a (Some (run means held.job))) refl ok.0 ok.1
        (acted_agents acts.Run (replies.Run (Ok u)) old.agents _ was refl (omega arith) (past_still was) (λ all. all) (λ b other. put_other old.jobs a _ b other) tt tt tt (kept_from (old.txs a)) refl refl (λ so g. refl) (λ so g. refl) (λ so g. refl) (λ so. so.2) (λ are g. refl) (jobs_run means old a held is))) h
    by held is (Some outcome) h = undone acts.Run reply replies.Busy added new was (formal acts.Run replies.Busy refl tt tt tt (λ g. (refl, refl, refl, refl)) (kept_from (old.txs a)) refl) h.0 h.1

  acted_put_back : (reply : Reply) (added : List Entry) (new : Present) → Was → PutsBack old a reply added new → Acted acts.PutBack reply added new
  acted_put_back reply added new was did = on_job acts.PutBack reply added new _ (old.jobs a) was (formal acts.PutBack replies.NoJob refl tt tt tt (λ g. (refl, refl, refl, refl)) (kept_from (old.txs a)) refl) refl (λ held is h.
      by_equations acts.PutBack reply replies.PutBack added [] new (with_job old (with_out old.agents held.job.agent false) a None) h.0 h.1.0 h.1.1
      (acted_agents acts.PutBack replies.PutBack (with_out old.agents held.job.agent false) _ was refl (changed_count held.job.agent (outed false)) (past_still was) (λ all. all) (λ b other. put_other old.jobs a _ b other) tt tt tt (kept_from (old.txs a)) refl refl
      (λ so g. given_out old.agents.agents held.job.agent g false)
      (λ so g. seen_same queue_if_here old.agents.agents held.job.agent g (outed false) (λ agent there. refl))
      (λ so g. seen_same is_carrying_if_here old.agents.agents held.job.agent g (outed false) (λ agent there. refl))
      (λ so. carried_changed old.agents.agents held.job.agent (outed false) (changed_count held.job.agent (outed false)) (λ agent. refl) (λ agent. refl) (λ agent. refl) (λ agent. refl) so.2)
      (λ are g. handled_same old.agents.agents held.job.agent g (outed false) (λ agent. refl))
      (jobs_gone means old a held (outed false) (λ agent. refl) is))) did

  acted_finish : (reply : Reply) (added : List Entry) (new : Present) → Was → Finishes accepts knows old a reply added new → Acted acts.Finish reply added new
  acted_finish reply added new was did = on_job acts.Finish reply added new _ (old.jobs a) was (formal acts.Finish replies.NoJob refl tt tt tt (λ g. (refl, refl, refl, refl)) (kept_from (old.txs a)) refl) refl (λ held is h. by held is held.outcome h) did where
    ended : (held : HeldSeen) → old.jobs a ≡ Some held → (outcome : Result Edn Cause) (f : Finished) → IsAnswerOf accepts old.agents (ran_of held outcome) f × Becomes (with_job old (with_finish accepts old.agents (ran_of held outcome)) a None) added new → Acted acts.Finish (replies.Finish (Ok f)) added new
    ended held is outcome f ok =
        let j = judged accepts (rule_at old.agents.guards held.job.agent) outcome in
        let cs = held.job.action.carries in
        let out = ends.goes_out j cs in
        let sent = with_carries held.job.agent out old.agents.agents in
        let goes = answered_out accepts old.agents (ran_of held outcome) f cs ok.0 in
        let mine : AreJobs means old → IsHeld means old.agents.agents held = λ are. subst (λ o. WithJob o (IsHeld means old.agents.agents) (Unit {0})) is (are.held a) in
        let still : AreJobs means old → job_out sent held.job.agent ≡ Some held.job = λ are.
        let my = mine are in
        (out_sends (λ (c : Carry). c.g) carried (Carried held.job.agent) out old.agents.agents held.job.agent held.job (my.out, my.sound, my.released)).0 in
        let here : Sound → AreHere (length old.agents.agents) cs = λ so. carried_here old.agents.agents held.job (mine so.1).out so.2 in
        let count = each-length (λ (c : Carry). c.g) carried (Carried held.job.agent) out old.agents.agents in
        let after : length old.agents.agents ≤ length (change_agent sent held.job.agent (ending j cs)) = omega (arith, count, changed_length sent held.job.agent (ending j cs) (slice_get sent held.job.agent)) in
        by_equations acts.Finish (replies.Finish (Ok f)) (replies.Finish (Ok f)) added [] new (with_job old (with_finish accepts old.agents (ran_of held outcome)) a None) refl ok.1.0 ok.1.1
        (acted_agents acts.Finish (replies.Finish (Ok f)) (with_finish accepts old.agents (ran_of held outcome)) _ was refl after (past_still was) (λ all. all) (λ b other. put_other old.jobs a _ b other) tt tt tt (kept_from (old.txs a)) refl refl
        (λ so g. given_finish sent held.job.agent g j cs
        ∙ (given_sends (λ (c : Carry). c.g) carried (Carried held.job.agent) out old.agents.agents g (out_here j (length old.agents.agents) cs (here so))
        ∙ (ap (λ l. given_at old.agents.agents g ++ those_to (λ (c : Carry). c.g) carried g l) goes ∙ ap (λ o. given_at old.agents.agents g ++ carried_by o f g) (sym is))))
        (λ so g. queue_finish old.agents.agents held.job j (mine so.1).out (mine so.1).released (here so) (still so.1) g
        ∙ (ap (λ l. cond (held.job.agent == g) (without_first (queue_at old.agents.agents g)) (queue_at old.agents.agents g) ++ those_to (λ (c : Carry). c.g) (λ c. record { action = carried c; by = Carried held.job.agent }) g l) goes
        ∙ ap (λ o. without_job o g (queue_at old.agents.agents g) ++ carried_out o f g) (sym is)))
        (λ so g. carrying_finish old.agents.agents held.job j (mine so.1).out (mine so.1).released (here so) (still so.1) g
        ∙ (ap (λ l. cond (held.job.agent == g) (has_carry l) (is_carrying_at old.agents.agents g)) goes ∙ ap (λ o. carrying_by o f g (is_carrying_at old.agents.agents g)) (sym is)))
        (λ so. carried_finish old.agents.agents held.job j (mine so.1).out (mine so.1).released (here so) (still so.1) after so.2)
        (λ are g. handled_finish sent held.job g j cs (still are)
        ∙ (ap (λ l. l ++ cond (held.job.agent == g) (held.job.action ∷ []) []) (handled_sends (λ (c : Carry). c.g) carried (Carried held.job.agent) out old.agents.agents g)
        ∙ ap (λ o. handled_at old.agents.agents g ++ action_of o g) (sym is)))
        (λ are. jobs_gone means (with_store old (with_agents old.agents sent)) a held (ending j cs) (λ agent. ended_in agent.mode j cs agent) is
        (kept_all means old (with_store old (with_agents old.agents sent)) refl (λ n job o. out_sends (λ (c : Carry). c.g) carried (Carried held.job.agent) out old.agents.agents n job o)
        (λ n is_out. sym (away_sends (λ (c : Carry). c.g) carried (Carried held.job.agent) out old.agents.agents n) ∙ is_out) are)))

    by : (held : HeldSeen) → old.jobs a ≡ Some held → (o : Option (Result Edn Cause)) → WithRun o ((reply ≡ replies.Busy) × Becomes old added new)
        (λ outcome. Calls replies.Finish (TellsThenMemory finishes.Memory (ends.lacking knows.preds old.agents held.job))
        (λ finished. IsAnswerOf accepts old.agents (ran_of held outcome) finished × Becomes (with_job old (with_finish accepts old.agents (ran_of held outcome)) a None) added new) old reply added new) → Acted acts.Finish reply added new
    by held is None h = undone acts.Finish reply replies.Busy added new was (formal acts.Finish replies.Busy refl tt tt tt (λ g. (refl, refl, refl, refl)) (kept_from (old.txs a)) refl) h.0 h.1
    by held is (Some outcome) h = acted_call acts.Finish replies.Finish _ _ reply added new was (λ f fits. formal acts.Finish (replies.Finish (Err f)) refl tt tt tt (λ g. (refl, refl, refl, refl)) (kept_from (old.txs a)) refl)
        (λ f fits ok. ended held is outcome f ok) h

  -- ---- any act

  pub acted : (act : Act) (reply : Reply) (added : List Entry) (new : Present) → Was → Acts means accepts knows old a act reply added new → Acted act reply added new
  acted acts.Begin reply added new was did = acted_begin reply added new was did
  acted (acts.Deref r) reply added new was did = acted_deref r reply added new was did
  acted (acts.RefSet r v) reply added new was did = acted_operate (acts.RefSet r v) r (Set v) replies.RefSet reply added new was
      (formal (acts.RefSet r v) replies.NoTx refl tt tt tt (λ g. (refl, refl, refl, refl)) (kept_from (old.txs a)) refl) (λ f. formal (acts.RefSet r v) (replies.RefSet (Err f)) refl tt tt tt (λ g. (refl, refl, refl, refl)) (kept_from (old.txs a)) refl)
      (λ w. refl) (λ w. tt) (λ w is. is) (λ w. tt) (λ w g. (refl, refl, refl, refl)) (λ w tx is. is) (λ w. refl) (λ w. refl) did
  acted (acts.Alter r code args) reply added new was did = acted_operate (acts.Alter r code args) r (Alter code args) replies.Alter reply added new was
      (formal (acts.Alter r code args) replies.NoTx refl tt tt tt (λ g. (refl, refl, refl, refl)) (kept_from (old.txs a)) refl) (λ f. formal (acts.Alter r code args) (replies.Alter (Err f)) refl tt tt tt (λ g. (refl, refl, refl, refl)) (kept_from (old.txs a)) refl)
      (λ w. refl) (λ w. tt) (λ w is. is) (λ w. tt) (λ w g. (refl, refl, refl, refl)) (λ w tx is. is) (λ w. refl) (λ w. refl) did
  acted (acts.Commute r code args) reply added new was did = acted_operate (acts.Commute r code args) r (Commute code args) replies.Commute reply added new was
      (formal (acts.Commute r code args) replies.NoTx refl tt tt tt (λ g. (refl, refl, refl, refl)) (kept_from (old.txs a)) refl) (λ f. formal (acts.Commute r code args) (replies.Commute (Err f)) refl tt tt tt (λ g. (refl, refl, refl, refl)) (kept_from (old.txs a)) refl)
      (λ w. refl) (λ w. tt) (λ w is. is) (λ w. tt) (λ w g. (refl, refl, refl, refl)) (λ w tx is. is) (λ w. refl) (λ w. refl) did
  acted (acts.Ensure r) reply added new was did = acted_operate (acts.Ensure r) r Ensure replies.Ensure reply added new was
      (formal (acts.Ensure r) replies.NoTx refl tt tt tt (λ g. (refl, refl, refl, refl)) (kept_from (old.txs a)) refl) (λ f. formal (acts.Ensure r) (replies.Ensure (Err f)) refl tt tt tt (λ g. (refl, refl, refl, refl)) (kept_from (old.txs a)) refl)
      (λ w. refl) (λ w. tt) (λ w is. is) (λ w. tt) (λ w g. (refl, refl, refl, refl)) (λ w tx is. is) (λ w. refl) (λ w. refl) did
  acted (acts.SendInTx g action) reply added new was did = acted_send_in_tx g action reply added new was did
  acted (acts.Require r rule) reply added new was did = acted_require r rule reply added new was did
  acted acts.ReadPoint reply added new was did = acted_read_point reply added new was did
  acted (acts.Commit stamp) reply added new was did = acted_commit stamp reply added new was did
  acted acts.Abort reply added new was did = acted_abort reply added new was did
  acted (acts.Release point) reply added new was did = acted_release point reply added new was did
  acted (acts.ReleaseCarried g) reply added new was did = acted_release_carried g reply added new was did
  acted (acts.Swap n code args) reply added new was did = acted_swap (acts.Swap n code args) n (Alter code args) replies.Swap reply added new was refl
      (λ f. formal (acts.Swap n code args) (replies.Swap (Err f)) refl tt tt tt (λ g. (refl, refl, refl, refl)) (kept_from (old.txs a)) refl)
      (λ s. refl) (λ s. tt) (λ s here gives. (here, gives)) (λ s. tt) (λ s g. (refl, refl, refl, refl)) (λ s. kept_from (old.txs a)) (λ s. refl) (λ s. refl) did
  acted (acts.Reset n v) reply added new was did = acted_swap (acts.Reset n v) n (Set v) replies.Reset reply added new was refl
      (λ f. formal (acts.Reset n v) (replies.Reset (Err f)) refl tt tt tt (λ g. (refl, refl, refl, refl)) (kept_from (old.txs a)) refl)
      (λ s. refl) (λ s. tt) (λ s here gives. (here, reset_value v s.new s.old gives)) (λ s. tt) (λ s g. (refl, refl, refl, refl)) (λ s. kept_from (old.txs a)) (λ s. refl) (λ s. refl) did
  acted (acts.CompareAndSet n first v) reply added new was did = acted_compare n first v reply added new was did
  acted (acts.Send g action) reply added new was did = acted_send g action reply added new was did
  acted acts.Take reply added new was did = acted_take reply added new was did
  acted acts.Run reply added new was did = acted_run reply added new was did
  acted acts.PutBack reply added new was did = acted_put_back reply added new was did
  acted acts.Finish reply added new was did = acted_finish reply added new was did
  acted (acts.Restart g state clear) reply added new was did = acted_restart g state clear reply added new was did
  acted (acts.SetErrorMode g mode) reply added new was did = acted_mode g mode reply added new was did
  acted (acts.Fold g) reply added new was did = acted_fold g reply added new was did
  acted (acts.SetValidator w rule) reply added new was did = acted_rule w rule reply added new was did
  acted (acts.AddWatch w key) reply added new was did = acted_add_watch w key reply added new was did
  acted (acts.RemoveWatch w key) reply added new was did = acted_remove_watch w key reply added new was did
  acted (acts.MakeRef value rule tally) reply added new was did = acted_make_ref value rule tally reply added new was did
  acted (acts.MakeAtom value rule) reply added new was did = acted_make_atom value rule reply added new was did
  acted (acts.MakeAgent value rule mode) reply added new was did = acted_make_agent value rule mode reply added new was did
  acted (acts.Checkpoint p) reply added new was did = undone (acts.Checkpoint p) reply (replies.Checkpoint did.0) added new was (formal (acts.Checkpoint p) (replies.Checkpoint did.0) refl tt tt tt (λ g. (refl, refl, refl, refl)) (kept_from (old.txs a)) refl) did.1 did.2
  acted (acts.ValueOf w) reply added new was did = acted_value w reply added new was did
  acted (acts.RuleOf w) reply added new was did = acted_rule_of w reply added new was did
  acted (acts.ErrorOf g) reply added new was did = undone (acts.ErrorOf g) reply _ added new was (formal (acts.ErrorOf g) (replies.ErrorOf _) refl tt tt tt (λ h. (refl, refl, refl, refl)) (kept_from (old.txs a)) refl) did.0 did.1
