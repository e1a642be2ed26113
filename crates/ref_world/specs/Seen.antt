-- What a world and a share of it show: plain data.
use Rattle.std.specs.Prelude.{ℕ, List}
use Rattle.ref_agents.specs.Agents.{AgentsSeen}
use Rattle.ref_atoms.specs.Atoms.{AtomsSeen}
use Rattle.ref_log.specs.declared.entries.Entry.{Entry}
use Rattle.ref_log.specs.declared.states.Base.{Base}
use Rattle.ref_refs.specs.Seen.{RefsSeen}

-- how many transactions were committed, how much they added to the tally and took from it, and what the tally began with: 0 where
-- there is none
pub record BooksSeen : Type 0 where
  pub commits : ℕ
  pub added : ℕ
  pub taken : ℕ
  pub start : ℕ

-- what stands in the three books of a world
pub record TotalsSeen : Type 0 where
  pub commits : ℕ
  pub added : ℕ
  pub taken : ℕ

-- the base, the log of the entries after it, all refs, atoms and agents as they are now, and the books
pub record WorldSeen : Type 0 where
  pub base : Base
  pub log : List Entry
  pub refs : RefsSeen
  pub atoms : AtomsSeen
  pub agents : AgentsSeen
  pub books : BooksSeen

-- Everything that changed refs and atoms since a world was made: what it began with, and its entries since then, whether they are folded
-- or not.
pub record HistorySeen : Type 0 where
  pub start : Base
  pub entries : List Entry

-- a base, and the log of the entries after it
pub record ViewSeen : Type 0 where
  pub base : Base
  pub log : List Entry

-- of 2^32 parts these, and what was done with them: so many commits, so much added to the tally and taken from it, and the points of the
-- entries that were added, in order; and the history as far as it is known to whoever has the share
pub record ShareSeen : Type 0 where
  pub parts : ℕ
  pub commits : ℕ
  pub added : ℕ
  pub taken : ℕ
  pub receipts : List ℕ
  pub history : HistorySeen
