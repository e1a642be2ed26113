-- The notices of a commit for the watches of refs.
use Rattle.std.specs.Prelude.{◌≡◌, ℕ, if◌then◌else◌, List, [], ◌∷◌, Option, None, Some, slice_get}
use Rattle.std.specs.BTreeSet.{insert_key}
use Rattle.std.specs.List.{AllByRecursion, flat_map}
use Rattle.std.specs.Ordering.{nat_cmp}
use Rattle.ref_value.specs.Edn.{Edn}
use Rattle.ref_log.specs.Replay.{is_ensure}
use Rattle.ref_log.specs.declared.operations.Done.{Done}
use Rattle.ref_log.specs.declared.notices.Notice.{Notice}
use Rattle.ref_log.specs.declared.notices.Who.TheVariants.{Ref}
use Rattle.ref_log.specs.Guards.{keys_at, rule_at}
use Rattle.ref_log.specs.Watches.{notices_of}
use Rattle.ref_log.specs.declared.guards.Guard.{Guard}

abbrev pub touched_from : List ℕ → List Done → List ℕ
touched_from rs [] = rs
touched_from rs (d ∷ ds) = touched_from (if is_ensure d.op then rs else insert_key nat_cmp rs d.r) ds

-- The refs that these operations change, each once, in ascending order.
abbrev pub touched_refs : List Done → List ℕ
touched_refs ds = touched_from [] ds

abbrev pub notices_if_here : ℕ → List Edn → Option Edn → Option Edn → List Notice
notices_if_here r keys None after = []
notices_if_here r keys (Some before) None = []
notices_if_here r keys (Some before) (Some after) = notices_of (Ref r) keys before after

abbrev pub notices_at : List Guard → List Edn → List Edn → ℕ → List Notice
notices_at guards before after r = notices_if_here r (keys_at guards r) (slice_get before r) (slice_get after r)

-- Of each of these refs in turn, a notice for each of its watches in the order of adding.
abbrev pub notices : List Guard → List Edn → List Edn → List ℕ → List Notice
notices guards before after rs = flat_map (notices_at guards before after) rs

-- ---- refs without rule and watch

abbrev pub IsUnguarded : List Guard → ℕ → Type 0
IsUnguarded guards r = (rule_at guards r ≡ None) × (keys_at guards r ≡ [])

abbrev pub AreUnguarded : List Guard → List ℕ → Type 0
AreUnguarded guards rs = AllByRecursion (IsUnguarded guards) rs
