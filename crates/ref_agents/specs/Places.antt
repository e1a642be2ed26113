-- Where what is carried stands in a queue: for private types.
use Rattle.std.specs.Prelude.{◌≡◌, ◌<◌, ◌+◌, ℕ, Bool, false, List, Option, None, Some, slice_get}
use Rattle.std.specs.BTreeMap.{is_at}
use Rattle.std.specs.List.{list_any}
use Rattle.std.specs.Ordering.{nat_cmp, ordering_then}
use Rattle.std.specs.declared.cmp.Ordering.{Ordering}
use Rattle.ref_agents.specs.Account.{is_carried_by}
use Rattle.ref_agents.specs.declared.accounts.Queued.{Queued}

-- ---- pairs of numbers

-- their order: by the first numbers, and where these are equal by the second
abbrev pub pair_cmp : ℕ × ℕ → ℕ × ℕ → Ordering
pair_cmp p q = ordering_then (nat_cmp p.0 q.0) (nat_cmp p.1 q.1)

-- whether a pair of these numbers is among these
abbrev pub has_pair : List (ℕ × ℕ) → ℕ → ℕ → Bool
has_pair pairs x y = list_any (is_at (pair_cmp (x, y))) pairs

-- ---- places in a queue, of which the first has a number

abbrev pub is_carried_if_here : ℕ → Option Queued → Bool
is_carried_if_here g None = false
is_carried_if_here g (Some queued) = is_carried_by g queued.by

-- whether an action of g carried the action at an index, and isn't released
abbrev pub is_carried_at : ℕ → List Queued → ℕ → Bool
is_carried_at g queue i = is_carried_if_here g (slice_get queue i)

-- The pairs have the agent and the place of each such action, and nothing else.
pub record ArePlaced (queue : List Queued) (first : ℕ) (pairs : List (ℕ × ℕ)) : Type 0 where
  pub here : (g i : ℕ) → has_pair pairs g (first + i) ≡ is_carried_at g queue i
  pub before : (g place : ℕ) → place < first → has_pair pairs g place ≡ false
