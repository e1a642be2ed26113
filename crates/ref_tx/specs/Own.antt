-- How a transaction stores its in-transaction values: a table of the refs that it has operated on.
use Rattle.std.specs.Prelude.{ℕ, ◌==◌, ◌≤◌, Bool, false, if◌then◌else◌, Option, None, Some, List, [], ◌∷◌, length, take, ◌≡◌, slice_get}
use Rattle.std.specs.BTreeMap.{get}
use Rattle.std.specs.Option.{option_or}
use Rattle.std.specs.Ordering.{nat_cmp}
use Rattle.ref_value.specs.Edn.{Edn}
use Rattle.ref_fun.specs.Meaning.{Means}
use Rattle.ref_log.specs.Replay.{is_protected}
use Rattle.ref_log.specs.declared.operations.Done.{Done}
use Rattle.ref_tx.specs.declared.tables.Own.{Own}
use Rattle.ref_tx.specs.declared.tables.Table.{Table}
use Rattle.ref_tx.specs.Inner.{value_after, is_commuted}

-- The value in the table; that of the beginning where the table has none.
abbrev pub own_value : Option Own → Option Edn → Option Edn
own_value (Some own) began = Some own.value
own_value None began = began

abbrev pub own_commuted : Option Own → Bool
own_commuted (Some own) = own.commuted
own_commuted None = false

abbrev pub own_protected : Option Own → Bool
own_protected (Some own) = own.protected
own_protected None = false

-- The table, as a function, has the in-transaction values, and says which refs were commuted, and which are protected.
pub record IsTableOf (means : Means) (began : List Edn) (dones : List Done) (own : ℕ → Option Own) : Type 0 where
  pub values : (r : ℕ) → own_value (own r) (slice_get began r) ≡ value_after means began dones r
  pub commuted : (r : ℕ) → own_commuted (own r) ≡ is_commuted dones r
  pub protected : (r : ℕ) → own_protected (own r) ≡ is_protected dones r

-- The last answer of these operations on a ref.
abbrev pub last_on : ℕ → List Done → Option Edn
last_on r [] = None
last_on r (d ∷ ds) = option_or (last_on r ds) (if d.r == r then Some d.answer else None)

-- The table has the first operations, so many of them.
pub record IsTabled (means : Means) (began : List Edn) (dones : List Done) (table : Table) : Type 0 where
  pub within : table.first ≤ length dones
  pub has : IsTableOf means began (take table.first dones) (get nat_cmp table.own)
