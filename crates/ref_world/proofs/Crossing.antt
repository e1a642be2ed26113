-- A world may go to another thread, and so may a share and a view.
--
-- `search` alone finds no proof of it: an enum of four variants and a struct of some fields are beyond its steps. So each type's fact
-- stands on those of its fields, in the order of the crates below.
use denote.RattleType.{RattleType}
use denote.Param.Send.{IsSend, IsSync, sendable, view_send, view_sync}
use denote.Param.SendFields.{declared_send, declared_sync, variants_send, variants_sync}
use Rattle.std.proofs.Crossing.{crosses, Arc-send}
use Rattle.std.proofs.MapsCrossingOver as over
use Rattle.ref_world.specs.declared.names.Books as Books
use Rattle.ref_value.proofs.data.Value.TheLaws.TheKnot as knot
use Rattle.ref_fun.proofs.lists.SharedVec.TheSendSync as lists
use Rattle.ref_pmap.proofs.Crossing.{numbered_send}
use Rattle.ref_pvec.proofs.Crossing.{vector_send}
use Rattle.ref_value.specs.contracts.data.Value as Value
use Rattle.ref_fun.specs.contracts.actions.Action as Action
use Rattle.ref_fun.specs.contracts.arguments.Args as Args
use Rattle.ref_fun.specs.contracts.arguments.Args.TheInside as InArgs
use Rattle.ref_fun.specs.contracts.carries.Carries as Carries
use Rattle.ref_fun.specs.contracts.carries.Carries.TheInside as InCarries
use Rattle.ref_fun.specs.contracts.carries.Carry as Carry
use Rattle.ref_fun.specs.declared.meanings.Meaning as Meaning
use Rattle.ref_log.specs.contracts.operations.Op as Op
use Rattle.ref_log.specs.contracts.operations.Done as Done
use Rattle.ref_log.specs.contracts.sends.Sent as Sent
use Rattle.ref_log.specs.contracts.entries.Stamp as Stamp
use Rattle.ref_log.specs.contracts.entries.Transaction as Transaction
use Rattle.ref_log.specs.contracts.entries.Entry as Entry
use Rattle.ref_log.specs.contracts.guards.Guards as Guards
use Rattle.ref_log.specs.contracts.guards.Guards.TheInside as InGuards
use Rattle.ref_log.specs.contracts.guards.Guard as Guard
use Rattle.ref_log.specs.contracts.watches.Watches as Watches
use Rattle.ref_log.specs.contracts.watches.Watches.TheInside as InWatches
use Rattle.ref_fun.specs.contracts.rules.Rule as Rule
use Rattle.ref_log.specs.contracts.states.Base as Base
use Rattle.ref_tx.specs.contracts.snapshots.Snapshot as Snapshot
use Rattle.ref_tx.specs.contracts.snapshots.Snapshot.TheInside as InSnapshot
use Rattle.ref_tx.specs.contracts.snapshots.Version as Version
use Rattle.ref_refs.proofs.Crossing as now
use Rattle.ref_refs.specs.contracts.store.RefStore as RefStore
use Rattle.ref_refs.specs.contracts.store.RefStore.TheInside as InRefStore
use Rattle.ref_atoms.specs.contracts.atoms.AtomStore as AtomStore
use Rattle.ref_atoms.specs.contracts.atoms.AtomStore.TheInside as InAtomStore
use Rattle.ref_agents.specs.contracts.agents.AgentStore as AgentStore
use Rattle.ref_agents.specs.contracts.agents.AgentStore.TheInside as InAgentStore
use Rattle.ref_agents.specs.contracts.agents.Agent as Agent
use Rattle.ref_agents.specs.contracts.accounts.Account as Account
use Rattle.ref_agents.specs.contracts.accounts.Queued as Queued
use Rattle.ref_agents.specs.contracts.accounts.Handled as Handled
use Rattle.ref_agents.specs.contracts.indexed.IndexedAgents as IndexedAgents
use Rattle.ref_agents.specs.contracts.indexed.IndexedAgents.TheInside as InIndexedAgents
use Rattle.ref_agents.specs.contracts.marks.Marks as Marks
use Rattle.ref_agents.specs.contracts.marks.Marks.TheInside as InMarks
use Rattle.ref_agents.specs.contracts.pairs.Pairs as Pairs
use Rattle.ref_agents.specs.contracts.pairs.Pairs.TheInside as InPairs
use Rattle.std.proofs.sync.ledger.Book.TheSendSync as book
use Rattle.std.proofs.sync.ledger.Share.TheSendSync as part
use Rattle.ref_world.specs.contracts.booked.Booked as Booked
use Rattle.ref_story.proofs.tokens.Seen.TheSendSync as seen
use Rattle.ref_story.proofs.tokens.Story.TheSendSync as story
use Rattle.ref_world.specs.contracts.counts.Counts as Counts
use Rattle.ref_world.specs.contracts.counts.Counts.TheInside as InCounts
use Rattle.ref_world.specs.contracts.histories.Front as Front
use Rattle.ref_world.specs.contracts.histories.Front.TheInside as InFront
use Rattle.ref_world.specs.contracts.histories.History as History
use Rattle.ref_world.specs.contracts.histories.History.TheInside as InHistory
use Rattle.ref_world.specs.contracts.ledgers.Ledgers as Ledgers
use Rattle.ref_world.specs.contracts.ledgers.Ledgers.TheInside as InLedgers
use Rattle.ref_world.specs.contracts.shares.Share as Share
use Rattle.ref_world.specs.contracts.shares.Share.TheInside as InShare
use Rattle.ref_world.specs.contracts.views.View as View
use Rattle.ref_world.specs.contracts.views.View.TheInside as InView
use Rattle.ref_world.specs.contracts.worlds.World as World
use Rattle.ref_world.specs.contracts.worlds.World.TheInside as InWorld

ruleset plain = (crosses, knot.crosses, sendable)

pub value_send : IsSend Value.the_row
value_send = search plain depth 60

pub value_sync : IsSync Value.the_row
value_sync = search plain depth 60

pub args_send : IsSend Args.the_row
args_send = view_send _ _ _ _ _ (declared_send InArgs.the_type (search (value_send, value_sync, lists.the_send, plain) depth 60, tt))

pub args_sync : IsSync Args.the_row
args_sync = view_sync _ _ _ _ _ (declared_sync InArgs.the_type (search (value_sync, value_send, lists.the_sync, plain) depth 60, tt))

carry_send : IsSend Carry.the_row
carry_send = declared_send Carry.the_type (search plain depth 60, (search plain depth 60, (args_send, tt)))

carry_sync : IsSync Carry.the_row
carry_sync = declared_sync Carry.the_type (search plain depth 60, (search plain depth 60, (args_sync, tt)))

carries_send : IsSend Carries.the_row
carries_send = view_send _ _ _ _ _ (declared_send InCarries.the_type (search (carry_send, carry_sync, lists.the_send, plain) depth 60, tt))

carries_sync : IsSync Carries.the_row
carries_sync = view_sync _ _ _ _ _ (declared_sync InCarries.the_type (search (carry_sync, carry_send, lists.the_sync, plain) depth 60, tt))

pub action_send : IsSend Action.the_row
action_send = declared_send Action.the_type (search plain depth 60, (args_send, (carries_send, tt)))

pub action_sync : IsSync Action.the_row
action_sync = declared_sync Action.the_type (search plain depth 60, (args_sync, (carries_sync, tt)))

pub op_send : IsSend Op.the_row
op_send = variants_send Op.enum (
  (value_send, tt),
  (
    (search plain depth 60, (args_send, tt)),
    (
      (
        search plain depth 60,
        (args_send, tt),
      ),
      (tt, tt),
    ),
  ),
)

pub op_sync : IsSync Op.the_row
op_sync = variants_sync Op.enum (
  (value_sync, tt),
  (
    (search plain depth 60, (args_sync, tt)),
    (
      (
        search plain depth 60,
        (args_sync, tt),
      ),
      (tt, tt),
    ),
  ),
)

done_send : IsSend Done.the_row
done_send = declared_send Done.the_type (search plain depth 60, (op_send, (value_send, tt)))

done_sync : IsSync Done.the_row
done_sync = declared_sync Done.the_type (search plain depth 60, (op_sync, (value_sync, tt)))

pub sent_send : IsSend Sent.the_row
sent_send = declared_send Sent.the_type (search plain depth 60, (action_send, tt))

pub sent_sync : IsSync Sent.the_row
sent_sync = declared_sync Sent.the_type (search plain depth 60, (action_sync, tt))

stamp_send : IsSend Stamp.the_row
stamp_send = search plain depth 60

stamp_sync : IsSync Stamp.the_row
stamp_sync = search plain depth 60

trans_sync : IsSync Transaction.the_row
trans_sync = declared_sync Transaction.the_type (
  stamp_sync,
  (
    search plain depth 60,
    (
      search (done_send, done_sync, lists.the_sync, plain) depth 60,
      (search (sent_send, sent_sync, lists.the_sync, plain) depth 60, tt),
    ),
  ),
)

entry_sync : IsSync Entry.the_row
entry_sync = variants_sync Entry.enum (
  (trans_sync, tt),
  (
    (search plain depth 60, (op_sync, (value_sync, tt))),
    (
      (value_sync, tt),
      ((value_sync, tt), tt),
    ),
  ),
)

trans_send : IsSend Transaction.the_row
trans_send = declared_send Transaction.the_type (
  stamp_send,
  (
    search plain depth 60,
    (
      search (done_send, done_sync, lists.the_send, plain) depth 60,
      (search (sent_send, sent_sync, lists.the_send, plain) depth 60, tt),
    ),
  ),
)

entry_send : IsSend Entry.the_row
entry_send = variants_send Entry.enum (
  (trans_send, tt),
  (
    (search plain depth 60, (op_send, (value_send, tt))),
    (
      (value_send, tt),
      ((value_send, tt), tt),
    ),
  ),
)

pub rule_send : IsSend Rule.the_row
rule_send = declared_send Rule.the_type (search plain depth 60, (args_send, tt))

pub rule_sync : IsSync Rule.the_row
rule_sync = declared_sync Rule.the_type (search plain depth 60, (args_sync, tt))

watches_send : IsSend Watches.the_row
watches_send = view_send _ _ _ _ _ (declared_send InWatches.the_type (search (value_send, plain) depth 60, tt))

guard_send : IsSend Guard.the_row
guard_send = declared_send Guard.the_type (search (rule_send, plain) depth 60, (watches_send, tt))

guards_send : IsSend Guards.the_row
guards_send = view_send _ _ _ _ _ (declared_send InGuards.the_type (search (guard_send, plain) depth 60, tt))

base_send : IsSend Base.the_row
base_send = declared_send Base.the_type (
  search plain depth 60,
  (
    search (value_send, value_sync, lists.the_send, plain) depth 60,
    (
      search (lists.the_send, plain) depth 60,
      (
        search (value_send, value_sync, lists.the_send, plain) depth 60,
        (search plain depth 60, (search plain depth 60, (search plain depth 60, (search plain depth 60, tt)))),
      ),
    ),
  ),
)

base_sync : IsSync Base.the_row
base_sync = declared_sync Base.the_type (
  search plain depth 60,
  (
    search (value_send, value_sync, lists.the_sync, plain) depth 60,
    (
      search (lists.the_sync, plain) depth 60,
      (
        search (value_send, value_sync, lists.the_sync, plain) depth 60,
        (search plain depth 60, (search plain depth 60, (search plain depth 60, (search plain depth 60, tt)))),
      ),
    ),
  ),
)

queued_send : IsSend Queued.the_row
queued_send = declared_send Queued.the_type (action_send, (search plain depth 60, tt))

handled_send : IsSend Handled.the_row
handled_send = declared_send Handled.the_type (action_send, (search plain depth 60, tt))

pairs_send : IsSend Pairs.the_row
pairs_send = view_send _ _ _ _ _ (declared_send InPairs.the_type (search (over.crosses, plain) depth 60, tt))

marks_send : IsSend Marks.the_row
marks_send = view_send _ _ _ _ _ (declared_send InMarks.the_type (search plain depth 60, (search plain depth 60, tt)))

account_send : IsSend Account.the_row
account_send = search (value_send, handled_send, queued_send, pairs_send, plain) depth 60

agent_send : IsSend Agent.the_row
agent_send = search (value_send, account_send, plain) depth 60

indexed_send : IsSend IndexedAgents.the_row
indexed_send = view_send _ _ _ _ _ (declared_send InIndexedAgents.the_type (
  search (agent_send, plain) depth 60,
  (search (over.crosses, plain) depth 60, (marks_send, (pairs_send, tt))),
))

version_send : IsSend Version.the_row
version_send = declared_send Version.the_type (value_send, (search plain depth 60, tt))

version_sync : IsSync Version.the_row
version_sync = declared_sync Version.the_type (value_sync, (search plain depth 60, tt))

snapshot_send : IsSend Snapshot.the_row
snapshot_send = view_send _ _ _ _ _ (declared_send InSnapshot.the_type (search (numbered_send, version_send, version_sync, plain) depth 60, tt))

counts_send : IsSend Counts.the_row
counts_send = view_send _ _ _ _ _ (declared_send InCounts.the_type (search plain depth 60, (search plain depth 60, (search plain depth 60, (search plain depth 60, tt)))))

module _ (M : RattleType) (g : Meaning.Ghosts M.Denot) where
  refs_send : IsSend (RefStore.the_row M g)
  refs_send = view_send _ _ _ _ _ (declared_send (InRefStore.the_type M g) (
    now.refs_send snapshot_send version_send,
    (
      search plain depth 60,
      (
        guards_send,
        (search plain depth 60, tt),
      ),
    ),
  ))

  atoms_send : IsSend (AtomStore.the_row M g)
  atoms_send = view_send _ _ _ _ _ (declared_send (InAtomStore.the_type M g) (
    search (value_send, plain) depth 60,
    (
      guards_send,
      (search plain depth 60, tt),
    ),
  ))

  agents_send : IsSend (AgentStore.the_row M g)
  agents_send = view_send _ _ _ _ _ (declared_send (InAgentStore.the_type M g) (
    indexed_send,
    (guards_send, (search plain depth 60, (search plain depth 60, tt))),
  ))

  pub world_send : IsSend (World.the_row M g)
  world_send = view_send _ _ _ _ _ (declared_send (InWorld.the_type M g) (
    Arc-send _ base_send base_sync,
    (
      vector_send _ entry_send entry_sync,
      (
        refs_send,
        (
          atoms_send,
          (
            agents_send,
            (counts_send, tt),
          ),
        ),
      ),
    ),
  ))

  pub seen_send : IsSend (View.the_row M g)
  seen_send = view_send _ _ _ _ _ (declared_send (InView.the_type M g) (
    Arc-send _ base_send base_sync,
    (vector_send _ entry_send entry_sync, (search plain depth 60, tt)),
  ))

module _ (L : RattleType) (gL : Books.Ghosts L.Denot) where
  pub front_send : IsSend (Front.the_row L gL)
  front_send = view_send _ _ _ _ _ (declared_send (InFront.the_type L gL) (search plain depth 60, (search (seen.the_send, plain) depth 60, (search plain depth 60, tt))))

  history_send : IsSend (History.the_row L gL)
  history_send = view_send _ _ _ _ _ (declared_send (InHistory.the_type L gL) (search (story.the_send, plain) depth 60, (search plain depth 60, tt)))

  pub share_send : IsSend (Share.the_row L gL)
  share_send = view_send _ _ _ _ _ (declared_send (InShare.the_type L gL) (
    search plain depth 60,
    (
      search (part.the_send, plain) depth 60,
      (
        search (part.the_send, plain) depth 60,
        (
          search (part.the_send, plain) depth 60,
          (search plain depth 60, (front_send, tt)),
        ),
      ),
    ),
  ))

  ledgers_send : IsSend (Ledgers.the_row L gL)
  ledgers_send = view_send _ _ _ _ _ (declared_send (InLedgers.the_type L gL) (
    search (book.the_send, plain) depth 60,
    (
      search (book.the_send, plain) depth 60,
      (search (book.the_send, plain) depth 60, tt),
    ),
  ))

  module _ (M : RattleType) (gM : Meaning.Ghosts M.Denot) where
    pub booked_send : IsSend (Booked.the_row M L gM gL)
    booked_send = declared_send (Booked.the_type M L gM gL) (world_send M gM, (ledgers_send, (history_send, tt)))
