-- What is stored of each worker's latest entry.
use Rattle.std.specs.Prelude.{◌<◌, ◌≤◌, ℕ, Option, None, Some}
use Rattle.ref_log.specs.declared.entries.Transaction.{Transaction}
use Rattle.ref_shared.specs.declared.order.Turn.{Turn}

-- A transaction may come after its worker's latest.
abbrev pub Follows : Option Turn → Transaction → Type 0
Follows None t = Unit {0}
Follows (Some turn) t = (turn.step < t.stamp.step) × (turn.point ≤ t.read_point)

abbrev pub turn_of : Transaction → ℕ → Turn
turn_of t point = record { step = t.stamp.step; point = point }
