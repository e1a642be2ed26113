-- The tally stays an integer.
use Rattle.std.proofs.Common.{◌≡◌, ℕ, true, List, Option, Ok}
use Rattle.ref_value.specs.Edn.{Edn}
use Rattle.ref_fun.specs.Meaning.{Means}
use Rattle.ref_log.specs.Replay.{after_dones}
use Rattle.ref_log.specs.Tally.{IsTally, fit_tally, moved, moved_by_dones, tally_value}
use Rattle.ref_log.specs.TallyLaws.{Adds, Takes, tally-itself, tally-moved, tally-value}
use Rattle.ref_log.specs.declared.counting.Side.TheVariants.{Added, Taken}
use Rattle.ref_log.specs.declared.operations.Done.{Done}

-- where it is one
abbrev Counts : Option ℕ → List Edn → Type 0
Counts tally values = IsTally tally values (tally_value tally values)

-- after a commit
pub counts_then : (means : Means) → Adds means → Takes means → (all : List Done) (point : ℕ) (ds : List Done) (tally : Option ℕ) (values after : List Edn)
    → after_dones means all point ds (Ok values) ≡ Ok after → fit_tally tally ds ≡ true → Counts tally values
    → (Counts tally after) × (tally_value tally after ≡ moved (tally_value tally values) (moved_by_dones Added tally ds) (moved_by_dones Taken tally ds))
counts_then means adds takes all point ds tally values after made fits is =
    let n = moved (tally_value tally values) (moved_by_dones Added tally ds) (moved_by_dones Taken tally ds) in
    let now = tally-moved means adds takes all point ds tally (tally_value tally values) values after made fits is in
    (tally-itself tally after n now, tally-value tally after n now)
