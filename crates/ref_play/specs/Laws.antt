-- The laws of every run.
use Rattle.std.specs.Prelude.{◌≢◌, ◌≡◌, ℕ, ◌+◌, true, false, Bool, List, [], ◌∷◌, ◌++◌, if◌then◌else◌, length, take, slice_get, Option, None, Some, Result, Ok, Err}
use Rattle.std.specs.List.{AllByRecursion}
use Rattle.ref_value.specs.Edn.{Edn}
use Rattle.ref_fun.specs.Calls.{Known}
use Rattle.ref_fun.specs.Meaning.{Means}
use Rattle.ref_fun.specs.Rule.{Accepts, is_accepted}
use Rattle.ref_fun.specs.declared.actions.Action.{Action}
use Rattle.ref_fun.specs.declared.rules.Rule.{Rule}
use Rattle.ref_log.specs.Replay.{after_dones, is_protected, point_after, replay}
use Rattle.ref_log.specs.Tally.{moved_by_dones}
use Rattle.ref_log.specs.declared.counting.Side.TheVariants as sides
use Rattle.ref_log.specs.declared.entries.Entry.{Entry}
use Rattle.ref_log.specs.declared.entries.Entry.TheVariants.{Trans, Atom, MadeRef, MadeAtom}
use Rattle.ref_log.specs.declared.entries.Stamp.{Stamp}
use Rattle.ref_log.specs.declared.faults.AuditFault.{AuditFault}
use Rattle.ref_log.specs.declared.operations.Done.{Done}
use Rattle.ref_log.specs.declared.operations.Op.{Op}
use Rattle.ref_log.specs.declared.operations.Op.TheVariants.{Set, Alter, Commute, Ensure}
use Rattle.ref_log.specs.declared.states.Base.{Base}
use Rattle.ref_log.specs.declared.states.PlainState.{PlainState}
use Rattle.ref_tx.specs.Inner.{and_place, inner_value}
use Rattle.ref_tx.specs.Seen.{TxSeen}
use Rattle.ref_tx.specs.declared.faults.TxFault.TheVariants as txs
use Rattle.ref_refs.specs.declared.faults.CommitFault.{CommitFault}
use Rattle.ref_refs.specs.declared.faults.CommitFault.TheVariants as commits
use Rattle.ref_world.specs.Seen.{ShareSeen}
use Rattle.ref_world.specs.World.{values_now}
use Rattle.ref_agents.specs.Account.{has_point}
use Rattle.ref_agents.specs.Agents.{AgentsSeen, can_fold_at, is_carrying_at}
use Rattle.ref_agents.specs.declared.accounts.Queued.{Queued}
use Rattle.ref_agents.specs.declared.accounts.SentBy.{SentBy}
use Rattle.ref_agents.specs.declared.accounts.SentBy.TheVariants.{Outside, Commit, Carried}
use Rattle.ref_play.specs.Given.{accepted, carrying_after, ended_by, given_at, handled_at, queue_after, queue_at}
use Rattle.ref_play.specs.Machine.{IsStep, Look, Machine, Run, history}
use Rattle.ref_play.specs.Present.{HeldSeen, Present, WithJob, WithTx, rule_at, value_at}
use Rattle.ref_play.specs.Runs.{AreJobs, AreOpen, IsLawful, IsServed}
use Rattle.ref_play.specs.declared.events.Act.{Act}
use Rattle.ref_play.specs.declared.events.Act.TheVariants as acts
use Rattle.ref_play.specs.declared.events.Event.{Event}
use Rattle.ref_play.specs.declared.events.Reply.{Reply}
use Rattle.ref_play.specs.declared.events.Reply.TheVariants as replies

-- ---- no stranger

-- No commit fails because its transaction is foreign, or because the table lacks a function.
abbrev pub IsNative : CommitFault → Type 0
IsNative (commits.Foreign alien) = ⊥
IsNative (commits.NoSuchFun code) = ⊥
IsNative fault = Unit {0}

abbrev pub IsNativeReply : Reply → Type 0
IsNativeReply (replies.Commit (Err fault)) = IsNative fault
IsNativeReply reply = Unit {0}

-- ---- what a reply says

-- whether a call was refused, or not made
abbrev pub is_fault : {T Fault : Type 0} → Result T Fault → Bool
is_fault (Ok x) = false
is_fault (Err f) = true

abbrev pub is_refused : Reply → Bool
is_refused replies.NoTx = true
is_refused replies.NoJob = true
is_refused replies.Busy = true
is_refused (replies.Begin told) = is_fault told
is_refused (replies.Deref told) = is_fault told
is_refused (replies.RefSet told) = is_fault told
is_refused (replies.Alter told) = is_fault told
is_refused (replies.Commute told) = is_fault told
is_refused (replies.Ensure told) = is_fault told
is_refused (replies.SendInTx told) = is_fault told
is_refused (replies.Require told) = is_fault told
is_refused (replies.ReadPoint p) = false
is_refused (replies.Commit told) = is_fault told
is_refused replies.Abort = false
is_refused (replies.Release freed) = false
is_refused (replies.ReleaseCarried freed) = false
is_refused (replies.Swap told) = is_fault told
is_refused (replies.Reset told) = is_fault told
is_refused (replies.CompareAndSet told) = is_fault told
is_refused (replies.Send told) = is_fault told
is_refused (replies.Take told) = is_fault told
is_refused (replies.Run told) = is_fault told
is_refused replies.PutBack = false
is_refused (replies.Finish told) = is_fault told
is_refused (replies.Restart told) = is_fault told
is_refused (replies.SetErrorMode told) = is_fault told
is_refused (replies.Fold told) = is_fault told
is_refused (replies.SetValidator told) = is_fault told
is_refused (replies.AddWatch told) = is_fault told
is_refused (replies.RemoveWatch was) = false
is_refused (replies.MakeRef told) = is_fault told
is_refused (replies.MakeAtom told) = is_fault told
is_refused (replies.MakeAgent told) = is_fault told
is_refused (replies.Checkpoint told) = is_fault told
is_refused (replies.ValueOf told) = is_fault told
is_refused (replies.RuleOf told) = is_fault told
is_refused (replies.ErrorOf error) = false

-- what is so of the transaction that an actor has open
abbrev pub Of : Option TxSeen → (TxSeen → Type 0) → Type 0
Of tx says = WithTx tx says ⊥

-- An operation answers its place at the in-transaction value.
abbrev pub IsInner : Means → Op → ℕ → Edn → TxSeen → Type 0
IsInner means op r v tx = and_place means op (inner_value means tx r) ≡ Some v

-- The in-transaction value is there, and the rule accepts it or not.
abbrev pub IsJudged : Means → Accepts → Rule → ℕ → Bool → TxSeen → Type 0
IsJudged means accepts rule r verdict tx = (v : Edn) × (inner_value means tx r ≡ Some v) × (is_accepted accepts rule v ≡ verdict)

-- An action may be taken, by what sent it: what came from outside, what a commit sent that is released, and nothing that is marked as
-- carried.
abbrev pub IsFree : List ℕ → SentBy → Type 0
IsFree unreleased Outside = Unit {0}
IsFree unreleased (Commit point) = has_point unreleased point ≡ false
IsFree unreleased (Carried g) = ⊥

-- A job of an agent may be taken: what its last action carried is released, and so is the first action that waits.
pub record MayTake (store : AgentsSeen) (g : ℕ) : Type 0 where
  pub released : is_carrying_at store.agents g ≡ false
  pub first : Queued
  pub rest : List Queued
  pub queue : queue_at store.agents g ≡ first ∷ rest
  pub is_free : IsFree store.unreleased first.by

-- What an actor is told: in a transaction the in-transaction value, outside of one the value or the rule now; the agent of a job that may
-- be taken; whether anything that an agent carried was held; and whether an account was one that can be folded.
abbrev pub IsTold : Means → Accepts → Present → Option TxSeen → Act → Reply → Type 0
IsTold means accepts now tx (acts.Deref r) (replies.Deref (Ok v)) = Of tx (λ t. inner_value means t r ≡ Some v)
IsTold means accepts now tx (acts.RefSet r w) (replies.RefSet (Ok v)) = Of tx (IsInner means (Set w) r v)
IsTold means accepts now tx (acts.Alter r code args) (replies.Alter (Ok v)) = Of tx (IsInner means (Alter code args) r v)
IsTold means accepts now tx (acts.Commute r code args) (replies.Commute (Ok v)) = Of tx (IsInner means (Commute code args) r v)
IsTold means accepts now tx (acts.Ensure r) (replies.Ensure (Ok v)) = Of tx (IsInner means Ensure r v)
IsTold means accepts now tx (acts.Require r rule) (replies.Require (Ok u)) = Of tx (IsJudged means accepts rule r true)
IsTold means accepts now tx (acts.Require r rule) (replies.Require (Err txs.NotMet)) = Of tx (IsJudged means accepts rule r false)
IsTold means accepts now tx acts.ReadPoint (replies.ReadPoint p) = Of tx (λ t. p ≡ t.read_point)
IsTold means accepts now tx (acts.Swap n code args) (replies.Swap (Ok s)) = (slice_get now.atoms.values n ≡ Some s.old) × (means code args s.old ≡ Ok s.new)
IsTold means accepts now tx (acts.Reset n v) (replies.Reset (Ok s)) = (slice_get now.atoms.values n ≡ Some s.old) × (v ≡ s.new)
IsTold means accepts now tx (acts.ValueOf w) (replies.ValueOf (Ok v)) = v ≡ value_at now w
IsTold means accepts now tx (acts.RuleOf w) (replies.RuleOf (Ok rule)) = rule ≡ rule_at now w
IsTold means accepts now tx acts.Take (replies.Take (Ok (Some told))) = MayTake now.agents told.0
IsTold means accepts now tx (acts.ReleaseCarried g) (replies.ReleaseCarried was) = was ≡ is_carrying_at now.agents.agents g
IsTold means accepts now tx (acts.Fold g) (replies.Fold (Ok done)) = done ≡ can_fold_at now.agents.agents g
IsTold means accepts now tx act reply = Unit {0}

-- ---- where a transaction begins

-- The state of all refs at a point of a history on a base.
abbrev pub IsStateAt : Means → Base → List Entry → ℕ → List Edn → Type 0
IsStateAt means base entries p values = (before after : List Entry) × (state : PlainState) × (entries ≡ before ++ after) × (point_after base before ≡ p)
    × (replay means base before ≡ Ok state) × (state.refs ≡ values)

-- A transaction begins, without an operation, on the state at the present point; no act changes where one began.
abbrev pub IsFrom : Means → Base → List Entry → Present → Option TxSeen → Act → Reply → TxSeen → Type 0
IsFrom means base entries now was acts.Begin (replies.Begin (Ok p)) tx =
    (p ≡ now.point) × (tx.read_point ≡ p) × IsStateAt means base entries p tx.began × (tx.dones ≡ []) × (tx.sends ≡ [])
IsFrom means base entries now was act reply tx = Of was (λ before. (tx.read_point ≡ before.read_point) × (tx.began ≡ before.began))

-- ---- what an actor has open, and which job it has

-- with an operation and its answer, or a send, more: the last
abbrev pub and_done : Option TxSeen → ℕ → Op → Edn → Option TxSeen
and_done None r op v = None
and_done (Some tx) r op v = Some (record tx { dones = tx.dones ++ (record { r = r; op = op; answer = v }) ∷ [] })

abbrev pub and_sent : Option TxSeen → ℕ → Action → Option TxSeen
and_sent None g action = None
and_sent (Some tx) g action = Some (record tx { sends = tx.sends ++ record { agent = g; action = action } ∷ [] })

-- The transaction that an actor has open after its act: an answered begin opens one on what there is now; an answered operation and an
-- answered send are in it, last; an answered commit and an abort close it; and nothing else changes it.
abbrev pub left_open : Present → Option TxSeen → Act → Reply → Option TxSeen
left_open now tx acts.Begin (replies.Begin (Ok p)) = Some (record {
  read_point = now.point;
  began = now.refs.values;
  dones = [];
  sends = [];
  tally = now.refs.tally;
  agents = length now.agents.agents;
})
left_open now tx (acts.RefSet r w) (replies.RefSet (Ok v)) = and_done tx r (Set w) v
left_open now tx (acts.Alter r code args) (replies.Alter (Ok v)) = and_done tx r (Alter code args) v
left_open now tx (acts.Commute r code args) (replies.Commute (Ok v)) = and_done tx r (Commute code args) v
left_open now tx (acts.Ensure r) (replies.Ensure (Ok v)) = and_done tx r Ensure v
left_open now tx (acts.SendInTx g action) (replies.SendInTx (Ok u)) = and_sent tx g action
left_open now tx (acts.Commit stamp) (replies.Commit (Ok receipt)) = None
left_open now tx acts.Abort replies.Abort = None
left_open now tx act reply = tx

-- The job that an actor has after its act: an answered take gives it the one in the reply, which hasn't run; an answered run leaves what
-- its action means; put back and an answered finish end it, the latter one that has run; and nothing else changes it.
abbrev pub IsLeft : Means → Option HeldSeen → Act → Reply → Option HeldSeen → Type 0
IsLeft means was acts.Take (replies.Take (Ok (Some told))) now =
    (was ≡ None) × WithJob now (λ held. (told ≡ (held.job.agent, held.job.number)) × (held.outcome ≡ None)) ⊥
IsLeft means was acts.Run (replies.Run (Ok u)) now = WithJob was (λ held. (held.outcome ≡ None)
    × (now ≡ Some (record held { outcome = Some (means held.job.action.code held.job.action.args held.job.state) }))) ⊥
IsLeft means was acts.PutBack replies.PutBack now = WithJob was (λ held. now ≡ None) ⊥
IsLeft means was acts.Finish (replies.Finish (Ok finished)) now = WithJob was (λ held. (held.outcome ≢ None) × (now ≡ None)) ⊥
IsLeft means was act reply now = now ≡ was

-- ---- replies to a committed transaction

-- the value of a ref after the first n operations of an entry at a point, on the values before it
abbrev pub value_in : Result (List Edn) AuditFault → ℕ → Option Edn
value_in (Ok values) r = slice_get values r
value_in (Err fault) r = None

abbrev pub placed_value : Means → List Done → ℕ → List Edn → ℕ → ℕ → Option Edn
placed_value means dones point values n r = value_in (after_dones means dones point (take n dones) (Ok values)) r

-- What a transaction learned of a ref that it protects is right at its place in the history: an answer of an operation is the value
-- after it, and `deref` and `require` gave the value there.
pub record IsPlaced (means : Means) (now : Present) (tx : TxSeen) (looks : List Look) : Type 0 where
  pub answers : (n : ℕ) (d : Done) → slice_get tx.dones n ≡ Some d → is_protected tx.dones d.r ≡ true
      → placed_value means tx.dones (now.point + 1) now.refs.values (n + 1) d.r ≡ Some d.answer
  pub heard : AllByRecursion (λ look. is_protected tx.dones look.r ≡ true
      → placed_value means tx.dones (now.point + 1) now.refs.values look.after look.r ≡ look.value) looks

abbrev pub PlacedAt : Means → Present → List Look → Option TxSeen → Act → Reply → Type 0
PlacedAt means now looks tx (acts.Commit stamp) (replies.Commit (Ok receipt)) = Of tx (λ t. IsPlaced means now t looks)
PlacedAt means now looks tx act reply = Unit {0}

-- What `deref` and `require` gave of a ref is stored, with the number of operations before it, until the actor begins anew.
abbrev pub IsHeard : Accepts → Option TxSeen → Act → Reply → List Look → List Look → Type 0
IsHeard accepts tx (acts.Deref r) (replies.Deref (Ok v)) before after = Of tx (λ t. after ≡ record { r = r; after = length t.dones; value = Some v } ∷ before)
IsHeard accepts tx (acts.Require r rule) (replies.Require (Ok u)) before after =
    Of tx (λ t. (v : Edn) × (is_accepted accepts rule v ≡ true) × (after ≡ record { r = r; after = length t.dones; value = Some v } ∷ before))
IsHeard accepts tx (acts.Require r rule) (replies.Require (Err txs.NotMet)) before after =
    Of tx (λ t. (v : Edn) × (is_accepted accepts rule v ≡ false) × (after ≡ record { r = r; after = length t.dones; value = Some v } ∷ before))
IsHeard accepts tx acts.Begin (replies.Begin told) before after = after ≡ []
IsHeard accepts tx act reply before after = (more : List Look) × (after ≡ more ++ before)

-- ---- what is added to the history

abbrev pub committed : Option TxSeen → Stamp → List Entry
committed None stamp = []
committed (Some tx) stamp = Trans (record { stamp = stamp; read_point = tx.read_point; dones = tx.dones; sends = tx.sends }) ∷ []

-- The entries that an act adds: an answered commit, a change of an atom and a making one each, and nothing else any.
abbrev pub entered : Option TxSeen → Act → Reply → List Entry
entered tx (acts.Commit stamp) (replies.Commit (Ok receipt)) = committed tx stamp
entered tx (acts.Swap n code args) (replies.Swap (Ok s)) = Atom n (Alter code args) s.new ∷ []
entered tx (acts.Reset n v) (replies.Reset (Ok s)) = Atom n (Set v) s.new ∷ []
entered tx (acts.CompareAndSet n was v) (replies.CompareAndSet (Ok cas)) = if cas.done then Atom n (Set v) v ∷ [] else []
entered tx (acts.MakeRef v rule tally) (replies.MakeRef (Ok r)) = MadeRef v ∷ []
entered tx (acts.MakeAtom v rule) (replies.MakeAtom (Ok n)) = MadeAtom v ∷ []
entered tx act reply = []

-- ---- what the share gets

-- with what an entry at a point gives it: the receipt of a commit or of a change of an atom, and of a commit what it counts
abbrev pub with_counted : Option ℕ → ℕ → ShareSeen → Entry → ShareSeen
with_counted tally point share (Trans t) = record {
  parts = share.parts;
  commits = share.commits + 1;
  added = share.added + moved_by_dones sides.Added tally t.dones;
  taken = share.taken + moved_by_dones sides.Taken tally t.dones;
  receipts = share.receipts ++ point ∷ [];
  history = share.history;
}
with_counted tally point share (Atom n op v) = record {
  parts = share.parts;
  commits = share.commits;
  added = share.added;
  taken = share.taken;
  receipts = share.receipts ++ point ∷ [];
  history = share.history;
}
with_counted tally point share (MadeRef v) = share
with_counted tally point share (MadeAtom v) = share

-- with what these entries give it, the first of them at the point after this one
abbrev pub with_all_counted : Option ℕ → ℕ → ShareSeen → List Entry → ShareSeen
with_all_counted tally point share [] = share
with_all_counted tally point share (e ∷ es) = with_all_counted tally (point + 1) (with_counted tally (point + 1) share e) es

-- ---- all laws of a step

pub record HasLaws (means : Means) (accepts : Accepts) (k : Machine) (e : Event) (r : Reply) (l : Machine) : Type 0 where
  -- No commit fails because its transaction is foreign, or because the table lacks a function.
  pub native : IsNativeReply r
  -- Every answer in a transaction is its in-transaction value over the state at its beginning, whatever came between.
  pub told : IsTold means accepts k.now (k.now.txs e.actor) e.act r
  pub opens : AreOpen means l.now
  pub begun : WithTx (l.now.txs e.actor) (IsFrom means k.base (history k) k.now (k.now.txs e.actor) e.act r) (Unit {0})
  -- What it has open has just the operations and sends that were answered since, and none when it was committed or aborted.
  pub kept : l.now.txs e.actor ≡ left_open k.now (k.now.txs e.actor) e.act r
  -- What a committed transaction learned of a ref that it protects is also right at its place in the history.
  pub heard : IsHeard accepts (k.now.txs e.actor) e.act r (k.looks e.actor) (l.looks e.actor)
  pub placed : PlacedAt means k.now (k.looks e.actor) (k.now.txs e.actor) e.act r
  -- The values are the replay of the whole history, to which each act adds its own entry: no update is lost.
  pub replayed : replay means l.base (history l) ≡ Ok (values_now l.now.refs l.now.atoms)
  pub base : l.base ≡ k.base
  pub later : history l ≡ history k ++ entered (k.now.txs e.actor) e.act r
  pub counted : l.now.share ≡ with_all_counted k.now.refs.tally k.now.point k.now.share (entered (k.now.txs e.actor) e.act r)
  -- At most one job of an agent is out, an actor has it, and actions are handled in the order in which they were accepted.
  pub jobs : AreJobs means l.now
  pub held : IsLeft means (k.now.jobs e.actor) e.act r (l.now.jobs e.actor)
  pub handled : (g : ℕ) → handled_at l.now.agents.agents g ≡ ended_by k.now (k.now.jobs e.actor) e.act r g
  -- Only an answered send or commit gives an agent something, and the end of a job whose state changed, with what its action carried:
  -- nothing of an aborted or refused transaction is in a queue, nor of a failed action.
  pub given : (g : ℕ) → given_at l.now.agents.agents g ≡ accepted k.now (k.now.txs e.actor) (k.now.jobs e.actor) e.act r g
  -- What an action carried stands at the ends of the queues, in order, from the very event in which its job ends. It is held until it
  -- is released, and until then its agent waits too.
  pub queues : (g : ℕ) → queue_at l.now.agents.agents g ≡ queue_after k.now (k.now.txs e.actor) (k.now.jobs e.actor) e.act r g
  pub carrying : (g : ℕ) → is_carrying_at l.now.agents.agents g ≡ carrying_after k.now (k.now.jobs e.actor) e.act r g
  -- A refusal changes nothing, and what an actor has open no other actor changes.
  pub refused : is_refused r ≡ true → (l.now ≡ k.now) × (l.gone ≡ k.gone) × (l.log ≡ k.log)
  pub others : (a : ℕ) → a ≢ e.actor → (l.now.txs a ≡ k.now.txs a) × (l.looks a ≡ k.looks a) × (l.now.jobs a ≡ k.now.jobs a)

-- A step of a lawful machine that the table serves has the laws, and what comes of it is lawful and served.
abbrev pub StepsHaveLaws : Means → Accepts → Type 0
StepsHaveLaws means accepts =
    (knows : Known) (k l : Machine) (e : Event) (r : Reply) → IsLawful means k → IsServed knows k.now
    → IsStep means accepts knows k e r l → HasLaws means accepts k e r l × IsLawful means l × IsServed knows l.now

-- The laws along a run, at each of its steps.
abbrev pub LawsAlong : (means : Means) (accepts : Accepts) (knows : Known) (k : Machine) (es : List Event) (rs : List Reply) (last : Machine) → Run means accepts knows k es rs last → Type 0
LawsAlong means accepts knows k [] [] last run = Unit {0}
LawsAlong means accepts knows k (e ∷ es) (r ∷ rs) last run = HasLaws means accepts k e r run.0 × LawsAlong means accepts knows run.0 es rs last run.2
LawsAlong means accepts knows k [] (r ∷ rs) last run = Unit {0}
LawsAlong means accepts knows k (e ∷ es) [] last run = Unit {0}

-- Every run of a lawful machine that the table serves has the laws at each of its steps, and ends so.
abbrev pub RunsHaveLaws : Means → Accepts → Type 0
RunsHaveLaws means accepts =
    (knows : Known) (first last : Machine) (es : List Event) (rs : List Reply) → IsLawful means first → IsServed knows first.now
    → (run : Run means accepts knows first es rs last) → LawsAlong means accepts knows first es rs last run × IsLawful means last × IsServed knows last.now
