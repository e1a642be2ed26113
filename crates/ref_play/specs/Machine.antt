-- The machine: what there is now, and the whole history, which no checkpoint folds.
use Rattle.std.specs.Prelude.{◌≡◌, ℕ, ◌+◌, ◌-◌, nat_lt, ◌||◌, if◌then◌else◌, List, [], ◌∷◌, ◌++◌, length, take, Option, None, Some, Result, IfOk, OnErr}
use Rattle.std.specs.Option.{option_or}
use Rattle.ref_value.specs.Edn.{Edn}
use Rattle.ref_fun.specs.Calls.{Known}
use Rattle.ref_fun.specs.Meaning.{Means}
use Rattle.ref_fun.specs.Rule.{Accepts}
use Rattle.ref_log.specs.Replay.{missing, needed_from, point_after, replay}
use Rattle.ref_log.specs.Told.{TellsThenMemory}
use Rattle.ref_log.specs.declared.entries.Entry.{Entry}
use Rattle.ref_log.specs.declared.faults.AuditFault.{AuditFault}
use Rattle.ref_log.specs.declared.states.Base.{Base}
use Rattle.ref_log.specs.declared.states.PlainState.{PlainState}
use Rattle.ref_tx.specs.Inner.{inner_value}
use Rattle.ref_tx.specs.Seen.{TxSeen}
use Rattle.ref_world.specs.Checkpoint.{lacks_fun}
use Rattle.ref_world.specs.declared.faults.CheckpointFault.{CheckpointFault}
use Rattle.ref_world.specs.declared.faults.CheckpointFault.TheVariants as checkpoints
use Rattle.ref_play.specs.Present.{Acts, Present, put}
use Rattle.ref_play.specs.declared.events.Act.{Act}
use Rattle.ref_play.specs.declared.events.Act.TheVariants as acts
use Rattle.ref_play.specs.declared.events.Event.{Event}
use Rattle.ref_play.specs.declared.events.Reply.{Reply}
use Rattle.ref_play.specs.declared.events.Reply.TheVariants as replies

-- What a transaction learned of a ref by `deref` or `require`: after so many of its operations, and by this value.
pub record Look : Type 0 where
  pub r : ℕ
  pub after : ℕ
  pub value : Option Edn

-- The base with which it began; the entries since then, those up to the present base's point and those after it; what there is
-- now; and of each actor what its open transaction learned without an operation.
pub record Machine : Type 0 where
  pub base : Base
  pub gone : List Entry
  pub log : List Entry
  pub now : Present
  pub looks : ℕ → List Look

-- all entries since it began
abbrev pub history : Machine → List Entry
history m = m.gone ++ m.log

-- ---- checkpoints

-- the point up to which an act folds
abbrev pub checkpoint_of : Act → Option ℕ
checkpoint_of (acts.Checkpoint p) = Some p
checkpoint_of act = None

abbrev pub no_such_point : ℕ → ℕ → ℕ → Option CheckpointFault
no_such_point present point p = if nat_lt p point || nat_lt present p then Some checkpoints.NoSuchPoint else None

-- why there is no checkpoint at a point, where the base stands at another with this state and these entries after it
abbrev pub checkpoint_refusal : Means → Known → ℕ → ℕ → Result PlainState AuditFault → List Entry → ℕ → Option CheckpointFault
checkpoint_refusal means knows present point state log p =
    option_or (no_such_point present point p) (lacks_fun (missing knows.funs (needed_from means point (take (p - point) log) state)))

-- The entries that go into the base: none, but for a checkpoint.
abbrev pub Folds : Means → Known → ℕ → ℕ → Result PlainState AuditFault → List Entry → Option ℕ → Reply → List Entry → Type 0
Folds means knows present point state log None reply went = went ≡ []
Folds means knows present point state log (Some p) reply went =
    (told : Result ℕ CheckpointFault) × (reply ≡ replies.Checkpoint told)
    × TellsThenMemory checkpoints.Memory (checkpoint_refusal means knows present point state log p) told
    × IfOk told (λ n. (n + point ≡ p) × (went ≡ take n log))
    × OnErr told (went ≡ [])

-- ---- what a transaction learned

abbrev pub look_at : Means → TxSeen → ℕ → Look
look_at means tx r = record { r = r; after = length tx.dones; value = inner_value means tx r }

abbrev pub looked : Means → Act → Reply → Option TxSeen → List Look → List Look
looked means acts.Begin (replies.Begin told) tx looks = []
looked means (acts.Deref r) reply (Some tx) looks = look_at means tx r ∷ looks
looked means (acts.Require r rule) reply (Some tx) looks = look_at means tx r ∷ looks
looked means act reply tx looks = looks

-- ---- steps and runs

-- From old, the machine may reply so to the actor, and go on to new.
pub record IsStep (means : Means) (accepts : Accepts) (knows : Known) (old : Machine) (event : Event) (reply : Reply) (new : Machine) : Type 0 where
  pub added : List Entry
  pub went : List Entry
  pub acts : Acts means accepts knows old.now event.actor event.act reply added new.now
  pub folds : Folds means knows old.now.point (point_after old.base old.gone) (replay means old.base old.gone) old.log (checkpoint_of event.act) reply went
  pub base : new.base ≡ old.base
  pub gone : new.gone ≡ old.gone ++ went
  pub log : old.log ++ added ≡ went ++ new.log
  pub looks : new.looks ≡ put old.looks event.actor (looked means event.act reply (old.now.txs event.actor) (old.looks event.actor))

-- A run along which each step is so.
abbrev pub Along : (Machine → Event → Reply → Machine → Type 0) → Machine → List Event → List Reply → Machine → Type 0
Along each old [] [] new = new ≡ old
Along each old (e ∷ es) (r ∷ rs) new = (mid : Machine) × each old e r mid × Along each mid es rs new
Along each old [] (r ∷ rs) new = ⊥
Along each old (e ∷ es) [] new = ⊥

-- The machine may give these replies to the actors, one after the other.
abbrev pub Run : Means → Accepts → Known → Machine → List Event → List Reply → Machine → Type 0
Run means accepts knows = Along (IsStep means accepts knows)
