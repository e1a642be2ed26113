-- What there is at one moment, and what one act makes of it.
use Rattle.std.specs.Prelude.{◌≡◌, ◌≢◌, ℕ, ◌+◌, ◌==◌, if◌then◌else◌, not, Bool, List, [], ◌∷◌, length, Option, None, Some, Result, Ok, Err, IfOk, IfErr, OnOk, OnErr, false, true, slice_get}
use Rattle.std.specs.declared.alloc.AllocError.{AllocError}
use Rattle.ref_value.specs.Edn.{Edn}
use Rattle.ref_fun.specs.Calls.{Known}
use Rattle.ref_fun.specs.Meaning.{Means}
use Rattle.ref_fun.specs.Rule.{Accepts}
use Rattle.ref_fun.specs.declared.actions.Action.{Action}
use Rattle.ref_fun.specs.declared.faults.Cause.{Cause}
use Rattle.ref_fun.specs.declared.rules.Rule.{Rule}
use Rattle.ref_log.specs.Guards as guards
use Rattle.ref_log.specs.Guards.{keys_at}
use Rattle.ref_log.specs.Make as makes_in
use Rattle.ref_log.specs.Replay.{place, step}
use Rattle.ref_log.specs.Tally.{moved_by_dones}
use Rattle.ref_log.specs.declared.counting.Side.TheVariants as sides
use Rattle.ref_log.specs.Told.{AnswersOrMemory, Tells, TellsOrMemory, TellsThenMemory}
use Rattle.ref_log.specs.Watches.{has_key, notices_of}
use Rattle.ref_log.specs.declared.entries.Entry.{Entry}
use Rattle.ref_log.specs.declared.entries.Entry.TheVariants as entries
use Rattle.ref_log.specs.declared.entries.Stamp.{Stamp}
use Rattle.ref_log.specs.declared.faults.MakeFault.TheVariants as makes
use Rattle.ref_log.specs.declared.faults.RuleFault.{RuleFault}
use Rattle.ref_log.specs.declared.faults.RuleFault.TheVariants as rules
use Rattle.ref_log.specs.declared.faults.WatchFault.{WatchFault}
use Rattle.ref_log.specs.declared.faults.WatchFault.TheVariants as watches
use Rattle.ref_log.specs.declared.guards.Guard.{Guard}
use Rattle.ref_log.specs.declared.notices.Who.{Who}
use Rattle.ref_log.specs.declared.notices.Who.TheVariants as who
use Rattle.ref_log.specs.declared.operations.Op.{Op}
use Rattle.ref_log.specs.declared.operations.Op.TheVariants.{Set, Alter, Commute, Ensure}
use Rattle.ref_tx.specs.Inner.{answer_of, inner_value, send_refusal, unmet, with_done, with_sent}
use Rattle.ref_tx.specs.Inner as inner
use Rattle.ref_tx.specs.Seen.{TxSeen}
use Rattle.ref_tx.specs.declared.faults.TxFault.{TxFault}
use Rattle.ref_tx.specs.declared.faults.TxFault.TheVariants as txs
use Rattle.ref_refs.specs.Commit.{changed_by, commit_refusal, early_refusal, entry_of}
use Rattle.ref_refs.specs.Make as refs
use Rattle.ref_refs.specs.Seen as seen
use Rattle.ref_refs.specs.Seen.{RefsSeen, changed_at}
use Rattle.ref_refs.specs.Watches.{notices, touched_refs}
use Rattle.ref_refs.specs.declared.faults.CommitFault.TheVariants as commits
use Rattle.ref_atoms.specs.Atoms as atoms_seen
use Rattle.ref_atoms.specs.Atoms.{AtomsSeen, with_value}
use Rattle.ref_atoms.specs.Change.{change_refusal, compare_refusal, is_same_at}
use Rattle.ref_atoms.specs.declared.changes.Cas.{Cas}
use Rattle.ref_atoms.specs.declared.changes.Swapped.{Swapped}
use Rattle.ref_atoms.specs.declared.faults.AtomFault.{AtomFault}
use Rattle.ref_atoms.specs.declared.faults.AtomFault.TheVariants as atoms
use Rattle.ref_agents.specs.Agents as agents
use Rattle.ref_agents.specs.Account.{has_point}
use Rattle.ref_agents.specs.Agents.{AgentsSeen, can_fold_at, error_at, is_carrying_at, is_ready_at, next_job, outside, with_out, with_send}
use Rattle.ref_agents.specs.Ends.{IsAnswerOf, lacking, restart_refusal, with_finish}
use Rattle.ref_agents.specs.Jobs.{JobSeen, RanSeen}
use Rattle.ref_agents.specs.Make as agent_makes
use Rattle.ref_agents.specs.declared.agents.ErrorMode.{ErrorMode}
use Rattle.ref_agents.specs.declared.faults.FinishFault.TheVariants as finishes
use Rattle.ref_agents.specs.declared.faults.JobFault.{JobFault}
use Rattle.ref_agents.specs.declared.faults.JobFault.TheVariants as job_faults
use Rattle.ref_agents.specs.declared.faults.ModeFault.{ModeFault}
use Rattle.ref_agents.specs.declared.faults.RestartFault.TheVariants as restarts
use Rattle.ref_agents.specs.declared.faults.SendFault.TheVariants as sends
use Rattle.ref_world.specs.References.{number_of}
use Rattle.ref_world.specs.Seen.{BooksSeen, ShareSeen}
use Rattle.ref_world.specs.Shares as shares
use Rattle.ref_world.specs.Shares.{with_receipt}
use Rattle.ref_world.specs.World.{booked, room, values_now, with_start}
use Rattle.ref_world.specs.declared.commits.Receipt.{Receipt}
use Rattle.ref_world.specs.declared.faults.CheckpointFault.{CheckpointFault}
use Rattle.ref_play.specs.declared.events.Act.{Act}
use Rattle.ref_play.specs.declared.events.Act.TheVariants as acts
use Rattle.ref_play.specs.declared.events.Reply.{Reply}
use Rattle.ref_play.specs.declared.events.Reply.TheVariants as replies

-- A job that an actor has, and what came of it, if it has run.
pub record HeldSeen : Type 0 where
  pub job : JobSeen
  pub outcome : Option (Result Edn Cause)

-- The present point, all refs, atoms and agents, the books, the share of the world, and of each actor the transaction that it has open
-- and the job that it has.
pub record Present : Type 0 where
  pub point : ℕ
  pub refs : RefsSeen
  pub atoms : AtomsSeen
  pub agents : AgentsSeen
  pub books : BooksSeen
  pub share : ShareSeen
  pub txs : ℕ → Option TxSeen
  pub jobs : ℕ → Option HeldSeen

-- a function with another value at one number
abbrev pub put : {X : Type 0} → (ℕ → X) → ℕ → X → ℕ → X
put f a x b = if a == b then x else f b

-- with this transaction of an actor, or none
abbrev pub with_tx : Present → ℕ → Option TxSeen → Present
with_tx now a tx = record now { txs = put now.txs a tx }

-- with other agents
abbrev pub with_store : Present → AgentsSeen → Present
with_store now store = record now { agents = store }

-- with other agents, and another job of an actor, or none
abbrev pub with_job : Present → AgentsSeen → ℕ → Option HeldSeen → Present
with_job now store a held = record now { agents = store; jobs = put now.jobs a held }

-- ---- what an act adds and leaves

-- No entry is added, and this is what there is then.
abbrev pub Becomes : Present → List Entry → Present → Type 0
Becomes after added new = (added ≡ []) × (new ≡ after)

-- One entry is added, and this is what there is then.
abbrev pub Enters : Entry → Present → List Entry → Present → Type 0
Enters e after added new = (added ≡ e ∷ []) × (new ≡ after)

-- A call: its result fits, the reply is it, and a fault changes nothing and adds no entry.
abbrev pub Calls : {T Fault : Type 0} → (Result T Fault → Reply) → (Result T Fault → Type 0) → (T → Type 0) → Present → Reply → List Entry → Present → Type 0
Calls {T} {Fault} tell Fits done old reply added new =
    (told : Result T Fault) × (reply ≡ tell told) × Fits told × IfOk told done × OnErr told (Becomes old added new)

-- Any result fits: it is a fault only where there is no memory.
abbrev pub Anything : {X : Type 0} → X → Type 0
Anything told = Unit {0}

-- ---- transactions

-- what is so where an actor has a transaction open, and where it has none
abbrev pub WithTx : Option TxSeen → (TxSeen → Type 0) → Type 0 → Type 0
WithTx None had none = none
WithTx (Some tx) had none = had tx

-- An act that needs an open transaction: where there is none the reply says so, and nothing changes.
abbrev pub OnTx : Present → ℕ → Reply → List Entry → Present → (TxSeen → Type 0) → Type 0
OnTx old a reply added new had = WithTx (old.txs a) had ((reply ≡ replies.NoTx) × Becomes old added new)

-- what a transaction begins with
abbrev pub begun : Present → TxSeen
begun now = record {
  read_point = now.point;
  began = now.refs.values;
  dones = [];
  sends = [];
  tally = now.refs.tally;
  agents = length now.agents.agents;
}

-- An actor has at most one transaction open.
abbrev pub Begins : Present → ℕ → Reply → List Entry → Present → Type 0
Begins old a reply added new = WithTx (old.txs a)
    (λ tx. (reply ≡ replies.Busy) × Becomes old added new)
    (Calls replies.Begin Anything (λ p. (p ≡ old.point) × Becomes (with_tx old a (Some (begun old))) added new) old reply added new)

-- the value that is found, or that there is no such ref
abbrev pub found : Option Edn → Result Edn TxFault
found (Some v) = Ok v
found None = Err txs.NoSuchRef

abbrev pub unfound : Option Edn → Option TxFault
unfound (Some v) = None
unfound None = Some txs.NoSuchRef

abbrev pub Derefs : Means → Present → ℕ → ℕ → Reply → List Entry → Present → Type 0
Derefs means old a r reply added new = OnTx old a reply added new (λ tx.
    Calls replies.Deref (AnswersOrMemory txs.Memory (unfound (inner_value means tx r)) (found (inner_value means tx r))) (λ v. Becomes old added new) old reply added new)

-- An operation on a ref. Where it is given a value or arguments, these are shared first, so that memory may be lacking at once.
abbrev pub early_of : Known → TxSeen → ℕ → Op → Option TxFault
early_of knows tx r (Set v) = None
early_of knows tx r (Alter code args) = None
early_of knows tx r (Commute code args) = None
early_of knows tx r Ensure = inner.early_refusal knows.funs tx r Ensure

abbrev pub Operates : Means → Known → Present → ℕ → ℕ → Op → (Result Edn TxFault → Reply) → Reply → List Entry → Present → Type 0
Operates means knows old a r op tell reply added new = OnTx old a reply added new (λ tx.
    Calls tell (AnswersOrMemory txs.Memory (early_of knows tx r op) (answer_of means knows.funs tx r op)) (λ v. Becomes (with_tx old a (Some (with_done tx r op v))) added new) old reply added new)

abbrev pub Requires : Means → Accepts → Known → Present → ℕ → ℕ → Rule → Reply → List Entry → Present → Type 0
Requires means accepts knows old a r rule reply added new = OnTx old a reply added new (λ tx.
    Calls replies.Require (Tells (unmet accepts knows.preds rule (inner_value means tx r))) (λ u. Becomes old added new) old reply added new)

abbrev pub ReadsPoint : Present → ℕ → Reply → List Entry → Present → Type 0
ReadsPoint old a reply added new = OnTx old a reply added new (λ tx. (reply ≡ replies.ReadPoint tx.read_point) × Becomes old added new)

-- The send waits with the transaction for its commit.
abbrev pub SendsInTx : Known → Present → ℕ → ℕ → Action → Reply → List Entry → Present → Type 0
SendsInTx knows old a g action reply added new = OnTx old a reply added new (λ tx.
    Calls replies.SendInTx (TellsOrMemory txs.Memory None (send_refusal knows.funs tx g action))
    (λ u. Becomes (with_tx old a (Some (with_sent tx g action))) added new) old reply added new)

abbrev pub Aborts : Present → ℕ → Reply → List Entry → Present → Type 0
Aborts old a reply added new = OnTx old a reply added new (λ tx. (reply ≡ replies.Abort) × Becomes (with_tx old a None) added new)

-- A commit at the next point: one entry, what it says of refs made on the latest values, its sends held in their queues, and the
-- commit in the share.
pub record IsCommitted (means : Means) (old : Present) (a : ℕ) (stamp : Stamp) (tx : TxSeen) (receipt : Receipt) (added : List Entry) (new : Present) : Type 0 where
  pub entry : added ≡ entry_of stamp tx ∷ []
  pub point : new.point ≡ old.point + 1
  pub values : step means (old.point + 1) (entry_of stamp tx) (values_now old.refs old.atoms) ≡ Ok (values_now new.refs new.atoms)
  pub lasts : (r : ℕ) → changed_at new.refs.lasts r ≡ changed_by old.refs.lasts (old.point + 1) tx.dones r
  pub count : length new.refs.lasts ≡ length new.refs.values
  pub tally : new.refs.tally ≡ old.refs.tally
  pub guards : new.refs.guards ≡ old.refs.guards
  pub atoms : new.atoms ≡ old.atoms
  pub agents : new.agents ≡ agents.with_commit old.agents (old.point + 1) tx.sends
  pub books : new.books ≡ booked old.books (moved_by_dones sides.Added old.refs.tally tx.dones) (moved_by_dones sides.Taken old.refs.tally tx.dones)
  pub share : new.share ≡ shares.with_commit old.share (old.point + 1) (moved_by_dones sides.Added old.refs.tally tx.dones) (moved_by_dones sides.Taken old.refs.tally tx.dones)
  pub closed : new.txs ≡ put old.txs a None
  pub jobs : new.jobs ≡ old.jobs
  pub told : (receipt.point ≡ old.point + 1) × (receipt.stamp ≡ stamp)
  pub notices : receipt.notices.items ≡ notices old.refs.guards old.refs.values new.refs.values (touched_refs tx.dones)

-- A refused commit leaves the transaction with its actor.
abbrev pub Commits : Means → Accepts → Known → Present → ℕ → Stamp → Reply → List Entry → Present → Type 0
Commits means accepts knows old a stamp reply added new = OnTx old a reply added new (λ tx.
    Calls replies.Commit
    (TellsOrMemory commits.Memory (early_refusal knows old.refs (old.point + 1) (length old.agents.agents) tx)
    (commit_refusal means accepts knows old.refs (old.point + 1) (length old.agents.agents) (room old.books.added) (room old.books.taken) tx))
    (λ receipt. IsCommitted means old a stamp tx receipt added new) old reply added new)

-- ---- atoms

-- with another value of an atom by an entry at the next point, whose receipt the share gets
abbrev pub with_atom : Present → ℕ → Op → Edn → Present
with_atom old n op v = record old {
  point = old.point + 1;
  atoms = with_value old.atoms n v;
  share = with_receipt old.share (old.point + 1);
}

pub record IsSwapped (means : Means) (old : Present) (n : ℕ) (op : Op) (swapped : Swapped) (added : List Entry) (new : Present) : Type 0 where
  pub old_value : slice_get old.atoms.values n ≡ Some swapped.old
  pub new_value : place means op swapped.old ≡ Ok swapped.new
  pub after : Enters (entries.Atom n op swapped.new) (with_atom old n op swapped.new) added new
  pub notices : swapped.notices.items ≡ notices_of (who.Atom n) (keys_at old.atoms.guards n) swapped.old swapped.new

abbrev pub Swaps : Means → Accepts → Known → Present → ℕ → Op → (Result Swapped AtomFault → Reply) → Reply → List Entry → Present → Type 0
Swaps means accepts knows old n op tell reply added new =
    Calls tell (TellsOrMemory atoms.Memory None (change_refusal means accepts knows old.atoms (old.point + 1) n op)) (λ swapped. IsSwapped means old n op swapped added new) old reply added new

-- A comparison: where the atom has the first value it gets the second one.
pub record IsCompared (old : Present) (n : ℕ) (was v : Edn) (cas : Cas) (added : List Entry) (new : Present) : Type 0 where
  pub done : cas.done ≡ is_same_at old.atoms n was
  pub sets : cas.done ≡ true → Enters (entries.Atom n (Set v) v) (with_atom old n (Set v) v) added new × (cas.notices.items ≡ notices_of (who.Atom n) (keys_at old.atoms.guards n) was v)
  pub leaves : cas.done ≡ false → Becomes old added new × (cas.notices.items ≡ [])

abbrev pub Compares : Accepts → Known → Present → ℕ → Edn → Edn → Reply → List Entry → Present → Type 0
Compares accepts knows old n was v reply added new =
    Calls replies.CompareAndSet (TellsOrMemory atoms.Memory None (compare_refusal accepts knows.preds old.atoms (old.point + 1) n was v)) (λ cas. IsCompared old n was v cas added new) old reply added new

-- ---- references of all kinds

abbrev pub values_of : Present → Who → List Edn
values_of now (who.Ref r) = now.refs.values
values_of now (who.Atom n) = now.atoms.values
values_of now (who.Agent g) = agents.values_of now.agents.agents

-- the value of a reference, if it is there
abbrev pub value_at : Present → Who → Option Edn
value_at now w = slice_get (values_of now w) (number_of w)

abbrev pub guards_of : Present → Who → List Guard
guards_of now (who.Ref r) = now.refs.guards
guards_of now (who.Atom n) = now.atoms.guards
guards_of now (who.Agent g) = now.agents.guards

abbrev pub with_guards : Present → Who → List Guard → Present
with_guards now (who.Ref r) gs = record now { refs = seen.with_guards now.refs gs }
with_guards now (who.Atom n) gs = record now { atoms = atoms_seen.with_guards now.atoms gs }
with_guards now (who.Agent g) gs = record now { agents = agents.with_guards now.agents gs }

abbrev pub watches_of : Present → Who → List Edn
watches_of now w = keys_at (guards_of now w) (number_of w)

-- Memory is asked for only to share the rule: where there is none it isn't lacking.
abbrev pub FitsRule : Option RuleFault → Option Rule → Result (Unit {0}) RuleFault → Type 0
FitsRule reason rule told = TellsOrMemory rules.Memory None reason told × IfErr told (λ f. f ≡ rules.Memory → rule ≢ None)

abbrev pub SetsRule : Accepts → Known → Present → Who → Option Rule → Reply → List Entry → Present → Type 0
SetsRule accepts knows old w rule reply added new =
    Calls replies.SetValidator (FitsRule (guards.rule_refusal accepts knows.preds (value_at old w) rule) rule)
    (λ u. Becomes (with_guards old w (guards.with_rule (guards_of old w) (number_of w) rule)) added new) old reply added new

-- whether the key is new, or that the reference isn't there
abbrev pub FitsWatch : Present → Who → Edn → Result Bool WatchFault → Type 0
FitsWatch old w key told =
    IfOk told (λ is_new. (is_new ≡ not (has_key (watches_of old w) key)) × (value_at old w ≢ None))
    × IfErr told (λ f. f ≡ watches.NoSuch → value_at old w ≡ None)

abbrev pub AddsWatch : Present → Who → Edn → Reply → List Entry → Present → Type 0
AddsWatch old w key reply added new =
    Calls replies.AddWatch (FitsWatch old w key) (λ is_new. Becomes (with_guards old w (guards.with_watch (guards_of old w) (number_of w) key)) added new) old reply added new

abbrev pub RemovesWatch : Present → Who → Edn → Reply → List Entry → Present → Type 0
RemovesWatch old w key reply added new =
    (reply ≡ replies.RemoveWatch (has_key (watches_of old w) key)) × Becomes (with_guards old w (guards.without_watch (guards_of old w) (number_of w) key)) added new

-- the value, if the reference is there
abbrev pub FitsValue : Present → Who → Result (Option Edn) AllocError → Type 0
FitsValue old w told = IfOk told (λ v. v ≡ value_at old w) × OnErr told (value_at old w ≢ None)

abbrev pub ReadsValue : Present → Who → Reply → List Entry → Present → Type 0
ReadsValue old w reply added new = Calls replies.ValueOf (FitsValue old w) (λ v. Becomes old added new) old reply added new

-- the rule of a reference, if it has one
abbrev pub rule_at : Present → Who → Option Rule
rule_at now w = guards.rule_at (guards_of now w) (number_of w)

abbrev pub TellsRule : Present → Who → Result (Option Rule) AllocError → Type 0
TellsRule old w told = IfOk told (λ rule. rule ≡ rule_at old w) × OnErr told (rule_at old w ≢ None)

abbrev pub ReadsRule : Present → Who → Reply → List Entry → Present → Type 0
ReadsRule old w reply added new = Calls replies.RuleOf (TellsRule old w) (λ rule. Becomes old added new) old reply added new

abbrev pub ReadsError : Present → ℕ → Reply → List Entry → Present → Type 0
ReadsError old g reply added new = (reply ≡ replies.ErrorOf (error_at old.agents.agents g)) × Becomes old added new

-- ---- makings

abbrev pub with_made_ref : Present → Edn → Option Rule → Bool → Present
with_made_ref old value rule tally = record old {
  point = old.point + 1;
  refs = refs.with_ref old.refs (old.point + 1) value rule tally;
  books = with_start tally value old.books;
}

abbrev pub with_made_atom : Present → Edn → Option Rule → Present
with_made_atom old value rule = record old { point = old.point + 1; atoms = atoms_seen.with_atom old.atoms value rule }

abbrev pub MakesRef : Accepts → Known → Present → Edn → Option Rule → Bool → Reply → List Entry → Present → Type 0
MakesRef accepts knows old value rule tally reply added new =
    Calls replies.MakeRef (TellsOrMemory makes.Memory None (refs.make_refusal accepts knows.preds old.refs (old.point + 1) value rule tally))
    (λ r. (r ≡ length old.refs.values) × Enters (entries.MadeRef value) (with_made_ref old value rule tally) added new) old reply added new

abbrev pub MakesAtom : Accepts → Known → Present → Edn → Option Rule → Reply → List Entry → Present → Type 0
MakesAtom accepts knows old value rule reply added new =
    Calls replies.MakeAtom (TellsOrMemory makes.Memory None (makes_in.make_refusal accepts knows.preds (length old.atoms.values) false (old.point + 1) value rule))
    (λ n. (n ≡ length old.atoms.values) × Enters (entries.MadeAtom value) (with_made_atom old value rule) added new) old reply added new

abbrev pub MakesAgent : Accepts → Known → Present → Edn → Option Rule → ErrorMode → Reply → List Entry → Present → Type 0
MakesAgent accepts knows old value rule mode reply added new =
    Calls replies.MakeAgent (TellsOrMemory makes.Memory None (agent_makes.agent_refusal accepts knows.preds old.agents value rule))
    (λ g. (g ≡ length old.agents.agents) × Becomes (with_store old (agent_makes.with_agent old.agents value rule mode)) added new) old reply added new

-- ---- agents

abbrev pub Sends : Present → ℕ → Action → Reply → List Entry → Present → Type 0
Sends old g action reply added new =
    Calls replies.Send (TellsOrMemory sends.Memory None (agents.send_refusal old.agents.agents g action))
    (λ u. Becomes (with_store old (agents.with_agents old.agents (with_send old.agents.agents g (outside action)))) added new) old reply added new

abbrev pub Releases : Present → ℕ → Reply → List Entry → Present → Type 0
Releases old point reply added new =
    (reply ≡ replies.Release (has_point old.agents.unreleased point)) × Becomes (with_store old (agents.with_release old.agents point)) added new

abbrev pub ReleasesCarried : Present → ℕ → Reply → List Entry → Present → Type 0
ReleasesCarried old g reply added new =
    (reply ≡ replies.ReleaseCarried (is_carrying_at old.agents.agents g)) × Becomes (with_store old (agents.with_carried_released old.agents g)) added new

abbrev pub Restarts : Accepts → Known → Present → ℕ → Edn → Bool → Reply → List Entry → Present → Type 0
Restarts accepts knows old g state clear reply added new =
    Calls replies.Restart (TellsOrMemory restarts.Memory None (restart_refusal accepts knows.preds old.agents g state))
    (λ u. Becomes (with_store old (agents.with_restart old.agents g state clear)) added new) old reply added new

-- the agent is there, or it isn't
abbrev pub FitsMode : Present → ℕ → Result (Unit {0}) ModeFault → Type 0
FitsMode old g told = OnOk told (slice_get old.agents.agents g ≢ None) × OnErr told (slice_get old.agents.agents g ≡ None)

abbrev pub SetsMode : Present → ℕ → ErrorMode → Reply → List Entry → Present → Type 0
SetsMode old g mode reply added new =
    Calls replies.SetErrorMode (FitsMode old g) (λ u. Becomes (with_store old (agents.with_mode old.agents g mode)) added new) old reply added new

-- whether the account can be folded; memory is asked for only where it can be
abbrev pub FitsFold : Present → ℕ → Result Bool AllocError → Type 0
FitsFold old g told = IfOk told (λ done. done ≡ can_fold_at old.agents.agents g) × OnErr told (can_fold_at old.agents.agents g ≡ true)

-- An account that can't be folded stays as it is.
abbrev pub FoldsAgent : Present → ℕ → Reply → List Entry → Present → Type 0
FoldsAgent old g reply added new =
    Calls replies.Fold (FitsFold old g) (λ done. Becomes (with_store old (agents.with_fold old.agents g)) added new) old reply added new

-- ---- jobs

-- what is so where an actor has a job, and where it has none
abbrev pub WithJob : Option HeldSeen → (HeldSeen → Type 0) → Type 0 → Type 0
WithJob None had none = none
WithJob (Some held) had none = had held

-- what is so where a job hasn't run, and where it has, with what came of it
abbrev pub WithRun : Option (Result Edn Cause) → Type 0 → (Result Edn Cause → Type 0) → Type 0
WithRun None fresh ran = fresh
WithRun (Some outcome) fresh ran = ran outcome

-- An act that needs a job: where there is none the reply says so, and nothing changes.
abbrev pub OnJob : Present → ℕ → Reply → List Entry → Present → (HeldSeen → Type 0) → Type 0
OnJob old a reply added new had = WithJob (old.jobs a) had ((reply ≡ replies.NoJob) × Becomes old added new)

-- An actor has a job that it took now, of any agent that is ready: its first action that waits.
pub record IsTaken (old : Present) (a : ℕ) (told : ℕ × ℕ) (added : List Entry) (new : Present) : Type 0 where
  pub job : JobSeen
  pub named : told ≡ (job.agent, job.number)
  pub ready : is_ready_at old.agents job.agent ≡ true
  pub first : next_job job.agent (slice_get old.agents.agents job.agent) ≡ Some job
  pub after : Becomes (with_job old (with_out old.agents job.agent true) a (Some (record { job = job; outcome = None }))) added new

abbrev pub TakesAny : Present → ℕ → List Entry → Present → Option (ℕ × ℕ) → Type 0
TakesAny old a added new None = ((g : ℕ) → is_ready_at old.agents g ≡ false) × Becomes old added new
TakesAny old a added new (Some told) = IsTaken old a told added new

-- An actor has at most one job.
abbrev pub Takes : Present → ℕ → Reply → List Entry → Present → Type 0
Takes old a reply added new = WithJob (old.jobs a)
    (λ held. (reply ≡ replies.Busy) × Becomes old added new)
    (Calls replies.Take Anything (TakesAny old a added new) old reply added new)

-- why a job isn't run
abbrev pub run_refusal : (ℕ → Bool) → JobSeen → Option JobFault
run_refusal knows job = if knows job.action.code then None else Some (job_faults.NoSuchFun job.action.code)

-- the job of an actor with what its action means
abbrev pub run : Means → JobSeen → HeldSeen
run means job = record { job = job; outcome = Some (means job.action.code job.action.args job.state) }

-- A job is run once.
abbrev pub Runs : Means → Known → Present → ℕ → Reply → List Entry → Present → Type 0
Runs means knows old a reply added new = OnJob old a reply added new (λ held. WithRun held.outcome
    (Calls replies.Run (TellsThenMemory job_faults.Memory (run_refusal knows.funs held.job)) (λ u. Becomes (with_job old old.agents a (Some (run means held.job))) added new) old reply added new)
    (λ outcome. (reply ≡ replies.Busy) × Becomes old added new))

-- A job is put back, whether it has run or not.
abbrev pub PutsBack : Present → ℕ → Reply → List Entry → Present → Type 0
PutsBack old a reply added new = OnJob old a reply added new (λ held.
    (reply ≡ replies.PutBack) × Becomes (with_job old (with_out old.agents held.job.agent false) a None) added new)

abbrev pub ran_of : HeldSeen → Result Edn Cause → RanSeen
ran_of held outcome = record { job = held.job; outcome = outcome }

-- Only a job that has run is finished, and none is foreign.
abbrev pub Finishes : Accepts → Known → Present → ℕ → Reply → List Entry → Present → Type 0
Finishes accepts knows old a reply added new = OnJob old a reply added new (λ held. WithRun held.outcome
    ((reply ≡ replies.Busy) × Becomes old added new)
    (λ outcome. Calls replies.Finish (TellsThenMemory finishes.Memory (lacking knows.preds old.agents held.job))
    (λ finished. IsAnswerOf accepts old.agents (ran_of held outcome) finished × Becomes (with_job old (with_finish accepts old.agents (ran_of held outcome)) a None) added new) old reply added new))

-- ---- any act

-- What comes of a checkpoint is said of the history: nothing changes here.
abbrev pub Checkpoints : Present → Reply → List Entry → Present → Type 0
Checkpoints old reply added new = (told : Result ℕ CheckpointFault) × (reply ≡ replies.Checkpoint told) × Becomes old added new

-- The replies that an act of an actor may get, the entries that it adds, and what there is then.
abbrev pub Acts : Means → Accepts → Known → Present → ℕ → Act → Reply → List Entry → Present → Type 0
Acts means accepts knows old a acts.Begin = Begins old a
Acts means accepts knows old a (acts.Deref r) = Derefs means old a r
Acts means accepts knows old a (acts.RefSet r v) = Operates means knows old a r (Set v) replies.RefSet
Acts means accepts knows old a (acts.Alter r code args) = Operates means knows old a r (Alter code args) replies.Alter
Acts means accepts knows old a (acts.Commute r code args) = Operates means knows old a r (Commute code args) replies.Commute
Acts means accepts knows old a (acts.Ensure r) = Operates means knows old a r Ensure replies.Ensure
Acts means accepts knows old a (acts.SendInTx g action) = SendsInTx knows old a g action
Acts means accepts knows old a (acts.Require r rule) = Requires means accepts knows old a r rule
Acts means accepts knows old a acts.ReadPoint = ReadsPoint old a
Acts means accepts knows old a (acts.Commit stamp) = Commits means accepts knows old a stamp
Acts means accepts knows old a acts.Abort = Aborts old a
Acts means accepts knows old a (acts.Release point) = Releases old point
Acts means accepts knows old a (acts.ReleaseCarried g) = ReleasesCarried old g
Acts means accepts knows old a (acts.Swap n code args) = Swaps means accepts knows old n (Alter code args) replies.Swap
Acts means accepts knows old a (acts.Reset n v) = Swaps means accepts knows old n (Set v) replies.Reset
Acts means accepts knows old a (acts.CompareAndSet n was v) = Compares accepts knows old n was v
Acts means accepts knows old a (acts.Send g action) = Sends old g action
Acts means accepts knows old a acts.Take = Takes old a
Acts means accepts knows old a acts.Run = Runs means knows old a
Acts means accepts knows old a acts.PutBack = PutsBack old a
Acts means accepts knows old a acts.Finish = Finishes accepts knows old a
Acts means accepts knows old a (acts.Restart g state clear) = Restarts accepts knows old g state clear
Acts means accepts knows old a (acts.SetErrorMode g mode) = SetsMode old g mode
Acts means accepts knows old a (acts.Fold g) = FoldsAgent old g
Acts means accepts knows old a (acts.SetValidator w rule) = SetsRule accepts knows old w rule
Acts means accepts knows old a (acts.AddWatch w key) = AddsWatch old w key
Acts means accepts knows old a (acts.RemoveWatch w key) = RemovesWatch old w key
Acts means accepts knows old a (acts.MakeRef value rule tally) = MakesRef accepts knows old value rule tally
Acts means accepts knows old a (acts.MakeAtom value rule) = MakesAtom accepts knows old value rule
Acts means accepts knows old a (acts.MakeAgent value rule mode) = MakesAgent accepts knows old value rule mode
Acts means accepts knows old a (acts.Checkpoint p) = Checkpoints old
Acts means accepts knows old a (acts.ValueOf w) = ReadsValue old w
Acts means accepts knows old a (acts.RuleOf w) = ReadsRule old w
Acts means accepts knows old a (acts.ErrorOf g) = ReadsError old g
