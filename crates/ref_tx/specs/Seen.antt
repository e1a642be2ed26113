-- What a transaction shows.
use Rattle.std.specs.Prelude.{ℕ, List, Option}
use Rattle.ref_value.specs.Edn.{Edn}
use Rattle.ref_log.specs.declared.operations.Done.{Done}
use Rattle.ref_log.specs.declared.sends.Sent.{Sent}

-- All that it reads is as of its read point: the values of the refs at that point, by number, and how many agents there were.
-- Operations and sends stand in the order in which they were made, each operation with its answer. At most one ref is the tally.
pub record TxSeen : Type 0 where
  pub read_point : ℕ
  pub began : List Edn
  pub dones : List Done
  pub sends : List Sent
  pub tally : Option ℕ
  pub agents : ℕ
