use Rattle.std.proofs.Common.{◌≡◌, ◌≤◌, ◌+◌, drop}
use Rattle.ref_explain.specs.Places.{column_from, column_at}
use Rattle.ref_explain.proofs.places.column_at.Given as goal

-- The column is that behind the bytes so far, and no greater than their number and one.
abbrev pub invariant-loop-b : goal.invariant-loop-b
invariant-loop-b l = record { value : column_from l.column (drop l.b-index l.before) ≡ column_at l.before; bound : l.column ≤ l.b-index + 1 }
