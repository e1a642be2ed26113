-- What a store of refs shows.
use Rattle.std.specs.Prelude.{ℕ, nat_lt, Bool, not, List, Option, slice_index_or}
use Rattle.std.specs.List.{list_all}
use Rattle.ref_value.specs.Edn.{Edn}
use Rattle.ref_log.specs.declared.guards.Guard.{Guard}

-- The values of the refs by number, and the point of each ref's last change: 0 where it was declared at the start and never
-- changed. At most one ref is the tally. Each has a rule or none, and watches.
pub record RefsSeen : Type 0 where
  pub values : List Edn
  pub lasts : List ℕ
  pub tally : Option ℕ
  pub guards : List Guard

-- with other rules or watches
abbrev pub with_guards : RefsSeen → List Guard → RefsSeen
with_guards store guards = record store { guards = guards }

-- the point of a ref's last change
abbrev pub changed_at : List ℕ → ℕ → ℕ
changed_at lasts r = slice_index_or lasts r 0

-- No ref has changed after this point.
abbrev pub are_unchanged_since : List ℕ → ℕ → Bool
are_unchanged_since lasts point = list_all (λ last. not (nat_lt point last)) lasts
