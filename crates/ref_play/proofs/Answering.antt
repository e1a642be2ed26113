-- What each act does, from what its calls tell.
use Rattle.std.proofs.Common.{◌≡◌, ◌≢◌, ℕ, ◌+◌, ◌-◌, ◌++◌, ◌≤◌, ◌||◌, nat_lt, cond, not, Bool, true, false, List, [], ◌∷◌, length, length-append, take, Option, None, Some, Result, Ok, Err, IfOk, OnErr, slice_get, refl, sym, ap, subst, ◌∙◌, arith}
use Rattle.ref_log.specs.Guards.{rule_fault, rule_refusal}
use Rattle.ref_log.specs.declared.faults.RuleFault.TheVariants as rule_faults
use Rattle.ref_fun.specs.Rule.{passes, unknown}
use Rattle.std.specs.Option.{option_or}
use Rattle.std.proofs.lemmas.Bool.{ltb-false}
use Rattle.std.proofs.lemmas.List.{append-nil, take-append-drop}
use Rattle.ref_value.specs.Edn.{Edn}
use Rattle.ref_fun.specs.Calls.{Known}
use Rattle.ref_fun.specs.Meaning.{Means}
use Rattle.ref_fun.specs.Rule.{Accepts}
use Rattle.ref_fun.specs.declared.rules.Rule.{Rule}
use Rattle.ref_log.specs.Fold.{IsFolded}
use Rattle.ref_log.specs.Guards.{keys_at}
use Rattle.ref_log.specs.Make as makes_in
use Rattle.ref_log.specs.Replay.{place, state_of, step}
use Rattle.ref_log.specs.Tally.{moved_by_dones}
use Rattle.ref_log.specs.declared.counting.Side.TheVariants as sides
use Rattle.ref_log.specs.Told.{AnswersOrMemory, TellsFault}
use Rattle.ref_log.specs.Watches.{has_key, notices_of}
use Rattle.ref_log.specs.declared.entries.Entry.{Entry}
use Rattle.ref_log.specs.declared.entries.Entry.TheVariants.{Atom, MadeAtom, MadeRef}
use Rattle.ref_log.specs.declared.entries.Stamp.{Stamp}
use Rattle.ref_log.specs.declared.faults.RuleFault.{RuleFault}
use Rattle.ref_log.specs.declared.faults.WatchFault.{WatchFault}
use Rattle.ref_log.specs.declared.faults.WatchFault.TheVariants as watch_faults
use Rattle.ref_log.specs.declared.states.Base.{Base}
use Rattle.ref_log.specs.declared.notices.Who.{Who}
use Rattle.ref_log.specs.declared.notices.Who.TheVariants as who
use Rattle.ref_log.specs.declared.operations.Op.{Op}
use Rattle.ref_log.specs.declared.operations.Op.TheVariants.{Set, Alter}
use Rattle.ref_tx.specs.Inner.{answer_of, with_done}
use Rattle.ref_tx.specs.Seen.{TxSeen}
use Rattle.ref_tx.specs.declared.faults.TxFault.{TxFault}
use Rattle.ref_tx.specs.declared.faults.TxFault.TheVariants as txs
use Rattle.ref_refs.specs.Commit.{changed_by, commit_refusal, early_refusal, entry_of}
use Rattle.ref_refs.specs.Make as refs
use Rattle.ref_refs.specs.Seen.{changed_at}
use Rattle.ref_refs.specs.Watches.{notices, touched_refs}
use Rattle.ref_refs.specs.declared.faults.CommitFault.{CommitFault}
use Rattle.ref_refs.specs.declared.faults.CommitFault.TheVariants as commits
use Rattle.ref_atoms.specs.Atoms as atoms_seen
use Rattle.ref_atoms.specs.Atoms.{with_value}
use Rattle.ref_atoms.specs.Change.{change_refusal, compare_refusal, is_same_at}
use Rattle.ref_atoms.specs.declared.changes.Cas.{Cas}
use Rattle.ref_atoms.specs.declared.changes.Swapped.{Swapped}
use Rattle.ref_world.specs.Checkpoint as checks
use Rattle.ref_world.specs.Checkpoint.{folded_entries, with_checkpoint}
use Rattle.ref_world.specs.References as references
use Rattle.ref_world.specs.Seen.{HistorySeen, ShareSeen, WorldSeen}
use Rattle.ref_world.specs.Shares as shares
use Rattle.ref_world.specs.Shares.{with_receipt}
use Rattle.ref_world.specs.World as worlds
use Rattle.ref_world.specs.World.{point_of, room, values_now}
use Rattle.ref_world.specs.declared.commits.Receipt.{Receipt}
use Rattle.ref_world.specs.declared.faults.CheckpointFault.{CheckpointFault}
use Rattle.ref_world.specs.declared.faults.CheckpointFault.TheVariants as checkpoints
use Rattle.ref_play.specs.Machine.{Folds, checkpoint_of}
use Rattle.ref_play.specs.Present.{Acts, Becomes, Begins, IsSwapped, Operates, Present, WithTx, begun, early_of, put, with_atom, with_made_atom, with_made_ref, with_tx}
use Rattle.ref_play.specs.Sims.{Logs, Serves, SimSeen, Slots, counts_of, present, txs_of}
use Rattle.ref_play.specs.declared.events.Act.{Act}
use Rattle.ref_play.specs.declared.events.Act.TheVariants as acts
use Rattle.ref_play.specs.declared.events.Reply.{Reply}
use Rattle.ref_play.specs.declared.events.Reply.TheVariants as replies
use Rattle.ref_play.proofs.Slots.{put_again, put_same}

-- ---- what is so where an actor has a transaction open, and where it has none

pub with_none : (o : Option TxSeen) (P : TxSeen → Type 0) (Q : Type 0) → o ≡ None → Q → WithTx o P Q
with_none o P Q is q = subst (λ x. WithTx x P Q) (sym is) q

pub with_some : (o : Option TxSeen) (tx : TxSeen) (P : TxSeen → Type 0) (Q : Type 0) → o ≡ Some tx → P tx → WithTx o P Q
with_some o tx P Q is p = subst (λ x. WithTx x P Q) (sym is) p

-- ---- begin

pub begin_opens : (s : SimSeen) (new : Slots) (a p : ℕ) (tx : TxSeen) → txs_of s.slots a ≡ None → tx ≡ begun (present s) → p ≡ tx.read_point → txs_of new ≡ put (txs_of s.slots) a (Some tx) → Begins (present s) a (replies.Begin (Ok p)) [] (present (record s { slots = new }))
begin_opens s new a p tx none opens point slots = with_none (txs_of s.slots a) _ _ none (
  Ok p,
  refl,
  tt,
  (point ∙ ap (λ (t : TxSeen). t.read_point) opens, (refl, ap (λ f. record (present s) { txs = f }) (slots ∙ ap (λ t. put (txs_of s.slots) a (Some t)) opens))),
  tt,
)

-- ---- the calls of an open transaction

-- of answers that tell want of memory in the place of fewer reasons
pub answers_late : (early : Option TxFault) (meant told : Result Edn TxFault) → AnswersOrMemory txs.Memory early meant told → AnswersOrMemory txs.Memory None meant told
answers_late early meant (Ok v) is = is
answers_late early meant (Err f) is = (is.0, λ memory. refl)

module _ (means : Means) (knows : Known) (now : Present) (old : Slots) (a : ℕ) (is : now.txs ≡ txs_of old) where
  pub operates : (tx : TxSeen) (left new : Slots) (r : ℕ) (op : Op) (tell : Result Edn TxFault → Reply) (told : Result Edn TxFault) (after : TxSeen) → Some tx ≡ txs_of old a
      → AnswersOrMemory txs.Memory (early_of knows tx r op) (answer_of means knows.funs tx r op) told → IfOk told (λ v. after ≡ with_done tx r op v) → OnErr told (after ≡ tx)
      → txs_of left ≡ put (txs_of old) a None → txs_of new ≡ put (txs_of left) a (Some after)
      → Operates means knows now a r op tell (tell told) [] (record now { txs = txs_of new })
  operates tx left new r op tell told after was answers adds same took back = with_some (now.txs a) tx _ _ (ap (λ f. f a) is ∙ sym was)
      (told, refl, answers, by told adds, stays told same) where
        slots : txs_of new ≡ put (txs_of old) a (Some after)
        slots = back ∙ (ap (λ f. put f a (Some after)) took ∙ put_again (txs_of old) a None (Some after))

        by : (x : Result Edn TxFault) → IfOk x (λ v. after ≡ with_done tx r op v) → IfOk x (λ v. Becomes (with_tx now a (Some (with_done tx r op v))) [] (record now { txs = txs_of new }))
        by (Ok v) adds = (refl, ap (λ f. record now { txs = f }) (slots ∙ (ap (λ t. put (txs_of old) a (Some t)) adds ∙ ap (λ f. put f a (Some (with_done tx r op v))) (sym is))))
        by (Err f) adds = tt

        stays : (x : Result Edn TxFault) → OnErr x (after ≡ tx) → OnErr x (Becomes now [] (record now { txs = txs_of new }))
        stays (Ok v) same = tt
        stays (Err f) same = (refl, ap (λ f. record now { txs = f }) (slots ∙ (ap (λ t. put (txs_of old) a (Some t)) same ∙ (put_same (txs_of old) a (Some tx) (sym was) ∙ sym is))))

-- ---- an event

entry_point : (w : WorldSeen) (e : Entry) → w.base.point + length (w.log ++ e ∷ []) ≡ point_of w + 1
entry_point w e = omega (arith, length-append w.log (e ∷ []))

module _ (means : Means) (accepts : Accepts) (knows : Known) (old : SimSeen) (actor : ℕ) where
  -- one that folds nothing
  pub served : (new : SimSeen) (act : Act) (reply : Reply) (added : List Entry) → checkpoint_of act ≡ None → Acts means accepts knows (present old) actor act reply added (present new)
      → new.world.log ≡ old.world.log ++ added → new.world.base.point ≡ old.world.base.point → state_of new.world.base ≡ state_of old.world.base → Serves means accepts knows old actor act reply new
  served new act reply added none did log point state = record {
    added = added;
    went = [];
    acts = did;
    folds = subst (λ o. Folds means knows (point_of old.world) old.world.base.point (Ok (state_of old.world.base)) old.world.log o reply []) (sym none) refl;
    logs = record { log = sym log; point = omega (arith, point); base = ap Ok (sym state) };
  }

  -- one that leaves the world
  pub silent : (slots : Slots) (act : Act) (reply : Reply) → checkpoint_of act ≡ None → Acts means accepts knows (present old) actor act reply [] (present (record old { slots = slots })) → Serves means accepts knows old actor act reply (record old { slots = slots })
  silent slots act reply none did = served (record old { slots = slots }) act reply [] none did (sym (append-nil old.world.log)) refl refl

  -- one that changes agents alone, of the world
  pub of_agents : (new : SimSeen) (act : Act) (reply : Reply) → checkpoint_of act ≡ None → new.world ≡ worlds.with_agents old.world new.world.agents → Acts means accepts knows (present old) actor act reply [] (present new) → Serves means accepts knows old actor act reply new
  of_agents new act reply none same did = served new act reply [] none did (ap (λ (x : WorldSeen). x.log) same ∙ sym (append-nil old.world.log)) (ap (λ (x : WorldSeen). x.base.point) same) (ap (λ (x : WorldSeen). state_of x.base) same)

  -- one that is refused
  pub refused : (new : SimSeen) (act : Act) (reply : Reply) → checkpoint_of act ≡ None → new ≡ old → Acts means accepts knows (present old) actor act reply [] (present old) → Serves means accepts knows old actor act reply new
  refused new act reply none same did = subst (Serves means accepts knows old actor act reply) (sym same) (served old act reply [] none did (sym (append-nil old.world.log)) refl refl)

  -- one that is refused, where the world and the share come back as they were
  pub refused_world : (v : WorldSeen) (sh : ShareSeen) (act : Act) (reply : Reply) → checkpoint_of act ≡ None → v ≡ old.world → sh ≡ old.share → Acts means accepts knows (present old) actor act reply [] (present old)
      → Serves means accepts knows old actor act reply (record old { world = v; share = sh })
  refused_world v sh act reply none same same_share did = refused (record old { world = v; share = sh }) act reply none
      (ap (λ (x : WorldSeen). record old { world = x; share = sh }) same ∙ ap (λ (x : ShareSeen). record old { share = x }) same_share) did

-- want of memory at once, and in the place of any reason
pub at_once : {Fault : Type 0} (memory : Fault) (reason : Option Fault) → TellsFault memory None reason memory
at_once memory reason = (λ other. absurd (other refl), λ is. refl)

pub late_fault : {Fault : Type 0} (memory : Fault) (early reason : Option Fault) (f : Fault) → TellsFault memory early reason f → TellsFault memory None reason f
late_fault memory early reason f is = (is.0, λ want. refl)

-- ---- a commit

module _ (means : Means) (accepts : Accepts) (knows : Known) (s : SimSeen) (a : ℕ) (stamp : Stamp) where
  reason : TxSeen → Option CommitFault
  reason tx = commit_refusal means accepts knows s.world.refs (point_of s.world + 1) (length s.world.agents.agents) (room s.world.books.added) (room s.world.books.taken) tx

  pub commit_none : (left : Slots) → None ≡ txs_of s.slots a → txs_of left ≡ txs_of s.slots → Serves means accepts knows s a (acts.Commit stamp) replies.NoTx (record s { slots = left })
  commit_none left none same = silent means accepts knows s a left (acts.Commit stamp) replies.NoTx refl (with_none (txs_of s.slots a) _ _ (sym none) (refl, (refl, ap (λ f. record (present s) { txs = f }) same)))

  module _ (tx : TxSeen) (was : Some tx ≡ txs_of s.slots a) (left : Slots) (took : txs_of left ≡ put (txs_of s.slots) a None) where
    pub commit_refused : (new : Slots) (v : WorldSeen) (sh : ShareSeen) (f : CommitFault) → v ≡ s.world → sh ≡ s.share
        → TellsFault commits.Memory (early_refusal knows s.world.refs (point_of s.world + 1) (length s.world.agents.agents) tx) (commit_refusal means accepts knows s.world.refs (point_of s.world + 1) (length s.world.agents.agents) (room s.world.books.added) (room s.world.books.taken) tx) f
        → txs_of new ≡ put (txs_of left) a (Some tx) → Serves means accepts knows s a (acts.Commit stamp) (replies.Commit (Err f)) (record s { world = v; share = sh; slots = new })
    commit_refused new v sh f same same_share tells back =
        subst (λ (x : WorldSeen). Serves means accepts knows s a (acts.Commit stamp) (replies.Commit (Err f)) (record s { world = x; share = sh; slots = new })) (sym same)
        (subst (λ (x : ShareSeen). Serves means accepts knows s a (acts.Commit stamp) (replies.Commit (Err f)) (record s { share = x; slots = new })) (sym same_share)
        (silent means accepts knows s a new (acts.Commit stamp) (replies.Commit (Err f)) refl
        (with_some (txs_of s.slots a) tx _ _ (sym was) (Err f, refl, tells, tt, (refl, ap (λ g. record (present s) { txs = g }) slots))))) where
          slots : txs_of new ≡ txs_of s.slots
          slots = back ∙ (ap (λ f. put f a (Some tx)) took ∙ (put_again (txs_of s.slots) a None (Some tx) ∙ put_same (txs_of s.slots) a (Some tx) (sym was)))

    pub commit_made : (v : WorldSeen) (sh : ShareSeen) (h : HistorySeen) (receipt : Receipt) → commit_refusal means accepts knows s.world.refs (point_of s.world + 1) (length s.world.agents.agents) (room s.world.books.added) (room s.world.books.taken) tx ≡ None
        → v ≡ worlds.with_commit s.world (entry_of stamp tx) v.refs tx.sends
        → step means (point_of s.world + 1) (entry_of stamp tx) (values_now s.world.refs s.world.atoms) ≡ Ok (values_now v.refs v.atoms)
        → ((r : ℕ) → changed_at v.refs.lasts r ≡ changed_by s.world.refs.lasts (point_of s.world + 1) tx.dones r)
        → length v.refs.lasts ≡ length v.refs.values
        → (v.refs.tally ≡ s.world.refs.tally) × (v.refs.guards ≡ s.world.refs.guards)
        → (receipt.point ≡ point_of s.world + 1) × (receipt.stamp ≡ stamp)
        → receipt.notices.items ≡ notices s.world.refs.guards s.world.refs.values v.refs.values (touched_refs tx.dones)
        → sh ≡ shares.knowing (shares.with_commit s.share (point_of s.world + 1) (moved_by_dones sides.Added s.world.refs.tally tx.dones) (moved_by_dones sides.Taken s.world.refs.tally tx.dones)) h
        → Serves means accepts knows s a (acts.Commit stamp) (replies.Commit (Ok receipt)) (record s { world = v; share = sh; slots = left })
    commit_made v sh h receipt none is values lasts count rest told noticed shared = served means accepts knows s a (record s { world = v; share = sh; slots = left }) (acts.Commit stamp) (replies.Commit (Ok receipt)) (entry_of stamp tx ∷ []) refl
        (with_some (txs_of s.slots a) tx _ _ (sym was) (
          Ok receipt,
          refl,
          none,
          record {
            entry = refl;
            point = omega (arith, ap point_of is, length-append s.world.log (entry_of stamp tx ∷ []));
            values = values;
            lasts = lasts;
            count = count;
            tally = rest.0;
            guards = rest.1;
            atoms = ap (λ (x : WorldSeen). x.atoms) is;
            agents = ap (λ (x : WorldSeen). x.agents) is;
            books = ap (λ (x : WorldSeen). x.books) is;
            share = ap counts_of shared;
            closed = took;
            jobs = refl;
            told = told;
            notices = noticed;
          },
          tt,
        ))
        (ap (λ (x : WorldSeen). x.log) is) (ap (λ (x : WorldSeen). x.base.point) is) (ap (λ (x : WorldSeen). state_of x.base) is)

-- ---- atoms

module _ (means : Means) (accepts : Accepts) (knows : Known) (s : SimSeen) (actor n : ℕ) where
  -- the state with another value of an atom
  atom_present : (op : Op) (v : WorldSeen) (sh : ShareSeen) (h : HistorySeen) (value : Edn) → v ≡ worlds.with_entry s.world (Atom n op value) s.world.refs (with_value s.world.atoms n value) → sh ≡ shares.knowing (with_receipt s.share (point_of s.world + 1)) h
      → present (record s { world = v; share = sh }) ≡ with_atom (present s) n op value
  atom_present op v sh h value is shared =
      ap (λ (x : WorldSeen). present (record s { world = x; share = sh })) is
      ∙ (ap (λ (x : ShareSeen). present (record s { world = worlds.with_entry s.world (Atom n op value) s.world.refs (with_value s.world.atoms n value); share = x })) shared
      ∙ ap (λ p. record (with_atom (present s) n op value) { point = p }) (entry_point s.world (Atom n op value)))

  entered_atom : (act : Act) (reply : Reply) (op : Op) (v : WorldSeen) (sh : ShareSeen) (value : Edn) → checkpoint_of act ≡ None → v ≡ worlds.with_entry s.world (Atom n op value) s.world.refs (with_value s.world.atoms n value)
      → Acts means accepts knows (present s) actor act reply (Atom n op value ∷ []) (present (record s { world = v; share = sh })) → Serves means accepts knows s actor act reply (record s { world = v; share = sh })
  entered_atom act reply op v sh value none is did = served means accepts knows s actor (record s { world = v; share = sh }) act reply (Atom n op value ∷ []) none did
      (ap (λ (x : WorldSeen). x.log) is) (ap (λ (x : WorldSeen). x.base.point) is) (ap (λ (x : WorldSeen). state_of x.base) is)

  is_swapped : (op : Op) (v : WorldSeen) (sh : ShareSeen) (h : HistorySeen) (swapped : Swapped) → slice_get s.world.atoms.values n ≡ Some swapped.old → place means op swapped.old ≡ Ok swapped.new
      → v ≡ worlds.with_entry s.world (Atom n op swapped.new) s.world.refs (with_value s.world.atoms n swapped.new) → sh ≡ shares.knowing (with_receipt s.share (point_of s.world + 1)) h
      → swapped.notices.items ≡ notices_of (who.Atom n) (keys_at s.world.atoms.guards n) swapped.old swapped.new → IsSwapped means (present s) n op swapped (Atom n op swapped.new ∷ []) (present (record s { world = v; share = sh }))
  is_swapped op v sh h swapped here gives is shared noticed = record { old_value = here; new_value = gives; after = (refl, atom_present op v sh h swapped.new is shared); notices = noticed }

  pub swap_made : (code : ℕ) (args : List Edn) (v : WorldSeen) (sh : ShareSeen) (h : HistorySeen) (swapped : Swapped) → change_refusal means accepts knows s.world.atoms (point_of s.world + 1) n (Alter code args) ≡ None → slice_get s.world.atoms.values n ≡ Some swapped.old → place means (Alter code args) swapped.old ≡ Ok swapped.new
      → v ≡ worlds.with_entry s.world (Atom n (Alter code args) swapped.new) s.world.refs (with_value s.world.atoms n swapped.new) → sh ≡ shares.knowing (with_receipt s.share (point_of s.world + 1)) h
      → swapped.notices.items ≡ notices_of (who.Atom n) (keys_at s.world.atoms.guards n) swapped.old swapped.new
      → Serves means accepts knows s actor (acts.Swap n code args) (replies.Swap (Ok swapped)) (record s { world = v; share = sh })
  swap_made code args v sh h swapped none here gives is shared noticed = entered_atom (acts.Swap n code args) (replies.Swap (Ok swapped)) (Alter code args) v sh swapped.new refl is
      (Ok swapped, refl, none, is_swapped (Alter code args) v sh h swapped here gives is shared noticed, tt)

  pub reset_made : (value : Edn) (v : WorldSeen) (sh : ShareSeen) (h : HistorySeen) (swapped : Swapped) → change_refusal means accepts knows s.world.atoms (point_of s.world + 1) n (Set value) ≡ None → slice_get s.world.atoms.values n ≡ Some swapped.old → swapped.new ≡ value
      → v ≡ worlds.with_entry s.world (Atom n (Set value) value) s.world.refs (with_value s.world.atoms n value) → sh ≡ shares.knowing (with_receipt s.share (point_of s.world + 1)) h
      → swapped.notices.items ≡ notices_of (who.Atom n) (keys_at s.world.atoms.guards n) swapped.old value
      → Serves means accepts knows s actor (acts.Reset n value) (replies.Reset (Ok swapped)) (record s { world = v; share = sh })
  reset_made value v sh h swapped none here new is shared noticed =
      let is_new = is ∙ ap (λ x. worlds.with_entry s.world (Atom n (Set value) x) s.world.refs (with_value s.world.atoms n x)) (sym new) in
      entered_atom (acts.Reset n value) (replies.Reset (Ok swapped)) (Set value) v sh swapped.new refl is_new
      (Ok swapped, refl, none, is_swapped (Set value) v sh h swapped here (ap Ok (sym new)) is_new shared (noticed ∙ ap (notices_of (who.Atom n) (keys_at s.world.atoms.guards n) swapped.old) (sym new)), tt)

  pub compare_made : (first value : Edn) (v : WorldSeen) (sh : ShareSeen) (h : HistorySeen) (cas : Cas) → compare_refusal accepts knows.preds s.world.atoms (point_of s.world + 1) n first value ≡ None → cas.done ≡ is_same_at s.world.atoms n first
      → (cas.done ≡ true → v ≡ worlds.with_entry s.world (Atom n (Set value) value) s.world.refs (with_value s.world.atoms n value))
      → (cas.done ≡ true → cas.notices.items ≡ notices_of (who.Atom n) (keys_at s.world.atoms.guards n) first value)
      → (cas.done ≡ true → sh ≡ shares.knowing (with_receipt s.share (point_of s.world + 1)) h)
      → (cas.done ≡ false → v ≡ s.world) → (cas.done ≡ false → sh ≡ s.share) → (cas.done ≡ false → cas.notices.items ≡ [])
      → Serves means accepts knows s actor (acts.CompareAndSet n first value) (replies.CompareAndSet (Ok cas)) (record s { world = v; share = sh })
  compare_made first value v sh h cas none done sets noticed shared unset unshared untold = by cas.done refl where
    no_both : (b : Bool) → b ≡ true → b ≡ false → ⊥
    no_both b is isnt = cc

    by : (b : Bool) → cas.done ≡ b → Serves means accepts knows s actor (acts.CompareAndSet n first value) (replies.CompareAndSet (Ok cas)) (record s { world = v; share = sh })
    by true is = entered_atom (acts.CompareAndSet n first value) (replies.CompareAndSet (Ok cas)) (Set value) v sh value refl (sets is)
        (Ok cas, refl, none, record { done = done; sets = λ holds. ((refl, atom_present (Set value) v sh h value (sets is) (shared is)), noticed is); leaves = λ fails. absurd (no_both cas.done is fails) }, tt)
    by false is = refused means accepts knows s actor (record s { world = v; share = sh }) (acts.CompareAndSet n first value) (replies.CompareAndSet (Ok cas)) refl
        (ap (λ (x : WorldSeen). record s { world = x; share = sh }) (unset is) ∙ ap (λ (x : ShareSeen). record s { share = x }) (unshared is))
        (Ok cas, refl, none, record { done = done; sets = λ holds. absurd (no_both cas.done holds is); leaves = λ fails. ((refl, refl), untold is) }, tt)

-- ---- makings

module _ (means : Means) (accepts : Accepts) (knows : Known) (s : SimSeen) (actor : ℕ) where
  pub ref_made : (value : Edn) (rule : Option Rule) (tally : Bool) (v : WorldSeen) (r : ℕ) → refs.make_refusal accepts knows.preds s.world.refs (point_of s.world + 1) value rule tally ≡ None → r ≡ length s.world.refs.values
      → v ≡ worlds.with_made_ref s.world value tally (refs.with_ref s.world.refs (point_of s.world + 1) value rule tally)
      → Serves means accepts knows s actor (acts.MakeRef value rule tally) (replies.MakeRef (Ok r)) (record s { world = v })
  ref_made value rule tally v r none number is = served means accepts knows s actor (record s { world = v }) (acts.MakeRef value rule tally) (replies.MakeRef (Ok r)) (MadeRef value ∷ []) refl
      (Ok r, refl, none, (number, (refl, ap (λ (x : WorldSeen). present (record s { world = x })) is ∙ ap (λ p. record (with_made_ref (present s) value rule tally) { point = p }) (entry_point s.world (MadeRef value)))), tt)
      (ap (λ (x : WorldSeen). x.log) is) (ap (λ (x : WorldSeen). x.base.point) is) (ap (λ (x : WorldSeen). state_of x.base) is)

  pub atom_made : (value : Edn) (rule : Option Rule) (v : WorldSeen) (n : ℕ) → makes_in.make_refusal accepts knows.preds (length s.world.atoms.values) false (point_of s.world + 1) value rule ≡ None → n ≡ length s.world.atoms.values
      → v ≡ worlds.with_entry s.world (MadeAtom value) s.world.refs (atoms_seen.with_atom s.world.atoms value rule)
      → Serves means accepts knows s actor (acts.MakeAtom value rule) (replies.MakeAtom (Ok n)) (record s { world = v })
  atom_made value rule v n none number is = served means accepts knows s actor (record s { world = v }) (acts.MakeAtom value rule) (replies.MakeAtom (Ok n)) (MadeAtom value ∷ []) refl
      (Ok n, refl, none, (number, (refl, ap (λ (x : WorldSeen). present (record s { world = x })) is ∙ ap (λ p. record (with_made_atom (present s) value rule) { point = p }) (entry_point s.world (MadeAtom value)))), tt)
      (ap (λ (x : WorldSeen). x.log) is) (ap (λ (x : WorldSeen). x.base.point) is) (ap (λ (x : WorldSeen). state_of x.base) is)

-- ---- rules and watches

module _ (means : Means) (accepts : Accepts) (knows : Known) (s : SimSeen) (actor : ℕ) where
  guarded : (v w : WorldSeen) (act : Act) (reply : Reply) → checkpoint_of act ≡ None → v ≡ w → w.log ≡ s.world.log → w.base ≡ s.world.base → Acts means accepts knows (present s) actor act reply [] (present (record s { world = w })) → Serves means accepts knows s actor act reply (record s { world = v })
  guarded v w act reply none is log base did = subst (λ (x : WorldSeen). Serves means accepts knows s actor act reply (record s { world = x })) (sym is)
      (served means accepts knows s actor (record s { world = w }) act reply [] none did (log ∙ sym (append-nil s.world.log)) (ap (λ (b : Base). b.point) base) (ap state_of base))

  pub rule_set : (w : Who) (rule : Option Rule) (v : WorldSeen) → references.rule_refusal accepts knows.preds s.world w rule ≡ None → v ≡ references.with_rule s.world w rule → Serves means accepts knows s actor (acts.SetValidator w rule) (replies.SetValidator (Ok tt)) (record s { world = v })
  rule_set (who.Ref r) rule v none is = guarded v (references.with_rule s.world (who.Ref r) rule) (acts.SetValidator (who.Ref r) rule) (replies.SetValidator (Ok tt)) refl is refl refl (Ok tt, refl, (none, tt), (refl, refl), tt)
  rule_set (who.Atom n) rule v none is = guarded v (references.with_rule s.world (who.Atom n) rule) (acts.SetValidator (who.Atom n) rule) (replies.SetValidator (Ok tt)) refl is refl refl (Ok tt, refl, (none, tt), (refl, refl), tt)
  rule_set (who.Agent g) rule v none is = guarded v (references.with_rule s.world (who.Agent g) rule) (acts.SetValidator (who.Agent g) rule) (replies.SetValidator (Ok tt)) refl is refl refl (Ok tt, refl, (none, tt), (refl, refl), tt)

  never_memory : (rule : Option Rule) (there : Option Edn) → rule_refusal accepts knows.preds there rule ≡ Some rule_faults.Memory → ⊥
  never_memory rule None is = cc
  never_memory rule (Some v) is = by (unknown knows.preds rule) (passes accepts rule v) is where
    by : (code : Option ℕ) (ok : Bool) → rule_fault code ok ≡ Some rule_faults.Memory → ⊥
    by (Some code) ok is = cc
    by None true is = cc
    by None false is = cc

  pub rule_refused : (w : Who) (rule : Option Rule) (v : WorldSeen) (f : RuleFault) → references.rule_refusal accepts knows.preds s.world w rule ≡ Some f → v ≡ s.world → Serves means accepts knows s actor (acts.SetValidator w rule) (replies.SetValidator (Err f)) (record s { world = v })
  rule_refused (who.Ref r) rule v f reason is = guarded v s.world (acts.SetValidator (who.Ref r) rule) (replies.SetValidator (Err f)) refl is refl refl (Err f, refl, ((λ other. reason, λ memory. refl), λ memory. absurd (never_memory rule (references.value_at s.world (who.Ref r)) (reason ∙ ap Some memory))), tt, (refl, refl))
  rule_refused (who.Atom n) rule v f reason is = guarded v s.world (acts.SetValidator (who.Atom n) rule) (replies.SetValidator (Err f)) refl is refl refl (Err f, refl, ((λ other. reason, λ memory. refl), λ memory. absurd (never_memory rule (references.value_at s.world (who.Atom n)) (reason ∙ ap Some memory))), tt, (refl, refl))
  rule_refused (who.Agent g) rule v f reason is = guarded v s.world (acts.SetValidator (who.Agent g) rule) (replies.SetValidator (Err f)) refl is refl refl (Err f, refl, ((λ other. reason, λ memory. refl), λ memory. absurd (never_memory rule (references.value_at s.world (who.Agent g)) (reason ∙ ap Some memory))), tt, (refl, refl))

  pub watch_added : (w : Who) (key : Edn) (v : WorldSeen) (is_new : Bool) → is_new ≡ not (has_key (references.keys_at s.world w) key) → references.value_at s.world w ≢ None → v ≡ references.with_watch s.world w key
      → Serves means accepts knows s actor (acts.AddWatch w key) (replies.AddWatch (Ok is_new)) (record s { world = v })
  watch_added (who.Ref r) key v is_new new here is = guarded v (references.with_watch s.world (who.Ref r) key) (acts.AddWatch (who.Ref r) key) (replies.AddWatch (Ok is_new)) refl is refl refl (Ok is_new, refl, ((new, here), tt), (refl, refl), tt)
  watch_added (who.Atom n) key v is_new new here is = guarded v (references.with_watch s.world (who.Atom n) key) (acts.AddWatch (who.Atom n) key) (replies.AddWatch (Ok is_new)) refl is refl refl (Ok is_new, refl, ((new, here), tt), (refl, refl), tt)
  watch_added (who.Agent g) key v is_new new here is = guarded v (references.with_watch s.world (who.Agent g) key) (acts.AddWatch (who.Agent g) key) (replies.AddWatch (Ok is_new)) refl is refl refl (Ok is_new, refl, ((new, here), tt), (refl, refl), tt)

  pub watch_refused : (w : Who) (key : Edn) (v : WorldSeen) (f : WatchFault) → (f ≡ watch_faults.NoSuch → references.value_at s.world w ≡ None) → v ≡ s.world → Serves means accepts knows s actor (acts.AddWatch w key) (replies.AddWatch (Err f)) (record s { world = v })
  watch_refused (who.Ref r) key v f none is = guarded v s.world (acts.AddWatch (who.Ref r) key) (replies.AddWatch (Err f)) refl is refl refl (Err f, refl, (tt, none), tt, (refl, refl))
  watch_refused (who.Atom n) key v f none is = guarded v s.world (acts.AddWatch (who.Atom n) key) (replies.AddWatch (Err f)) refl is refl refl (Err f, refl, (tt, none), tt, (refl, refl))
  watch_refused (who.Agent g) key v f none is = guarded v s.world (acts.AddWatch (who.Agent g) key) (replies.AddWatch (Err f)) refl is refl refl (Err f, refl, (tt, none), tt, (refl, refl))

  pub watch_removed : (w : Who) (key : Edn) (v : WorldSeen) (was : Bool) → was ≡ has_key (references.keys_at s.world w) key → v ≡ references.without_watch s.world w key → Serves means accepts knows s actor (acts.RemoveWatch w key) (replies.RemoveWatch was) (record s { world = v })
  watch_removed (who.Ref r) key v was here is = guarded v (references.without_watch s.world (who.Ref r) key) (acts.RemoveWatch (who.Ref r) key) (replies.RemoveWatch was) refl is refl refl (ap replies.RemoveWatch here, (refl, refl))
  watch_removed (who.Atom n) key v was here is = guarded v (references.without_watch s.world (who.Atom n) key) (acts.RemoveWatch (who.Atom n) key) (replies.RemoveWatch was) refl is refl refl (ap replies.RemoveWatch here, (refl, refl))
  watch_removed (who.Agent g) key v was here is = guarded v (references.without_watch s.world (who.Agent g) key) (acts.RemoveWatch (who.Agent g) key) (replies.RemoveWatch was) refl is refl refl (ap replies.RemoveWatch here, (refl, refl))

-- ---- a checkpoint

pub folded_logs : (means : Means) (w v : WorldSeen) (p : ℕ) → p ≤ point_of w → w.base.point ≤ p → IsFolded means w.base (folded_entries w p) v.base → v ≡ with_checkpoint w p v.base → Logs means w v [] (folded_entries w p)
folded_logs means w v p below above is same = record {
  log = append-nil w.log ∙ (sym (take-append-drop (p - w.base.point) w.log) ∙ ap (λ l. folded_entries w p ++ l) (sym (ap (λ (x : WorldSeen). x.log) same)));
  point = is.point;
  base = is.replayed;
}

no_such : (a b : Bool) (c : Option CheckpointFault) → option_or (cond (a || b) (Some checkpoints.NoSuchPoint) None) c ≡ None → (a ≡ false) × (b ≡ false)
no_such true b c none = absurd cc
no_such false true c none = absurd cc
no_such false false c none = (refl, refl)

module _ (means : Means) (accepts : Accepts) (knows : Known) (s : SimSeen) (actor p : ℕ) where
  pub checkpointed : (v : WorldSeen) (n : ℕ) → checks.checkpoint_refusal means knows.funs s.world p ≡ None → n + s.world.base.point ≡ p → IsFolded means s.world.base (folded_entries s.world p) v.base → v ≡ with_checkpoint s.world p v.base
      → Serves means accepts knows s actor (acts.Checkpoint p) (replies.Checkpoint (Ok n)) (record s { world = v })
  checkpointed v n none count is same =
      let w = s.world in
      let parts = no_such (nat_lt p w.base.point) (nat_lt (point_of w) p) _ none in
      let logs = folded_logs means w v p (ltb-false (point_of w) p parts.1) (ltb-false p w.base.point parts.0) is same in
      let many : p - w.base.point ≡ n = omega (arith, count) in
      let lengths = ap length logs.log in
      let point : point_of v ≡ point_of w = omega (arith, logs.point, lengths, length-append w.log [], length-append (folded_entries w p) v.log) in
      record {
        added = [];
        went = folded_entries w p;
        acts = (Ok n, refl, (refl, rw (point, ap (λ (x : WorldSeen). x.refs) same, ap (λ (x : WorldSeen). x.atoms) same, ap (λ (x : WorldSeen). x.agents) same, ap (λ (x : WorldSeen). x.books) same) refl));
        folds = (Ok n, refl, none, (count, ap (λ k. take k w.log) many), tt);
        logs = logs;
      }

  pub not_checkpointed : (v : WorldSeen) (f : CheckpointFault) → TellsFault checkpoints.Memory (checks.checkpoint_refusal means knows.funs s.world p) (checks.checkpoint_refusal means knows.funs s.world p) f → v ≡ s.world
      → Serves means accepts knows s actor (acts.Checkpoint p) (replies.Checkpoint (Err f)) (record s { world = v })
  not_checkpointed v f tells same = subst (λ (x : WorldSeen). Serves means accepts knows s actor (acts.Checkpoint p) (replies.Checkpoint (Err f)) (record s { world = x })) (sym same)
      (record { added = []; went = []; acts = (Err f, refl, (refl, refl)); folds = (Err f, refl, tells, tt, refl); logs = record { log = append-nil s.world.log; point = omega arith; base = refl } })
