use Rattle.std.proofs.Common.{◌≤◌}
use Rattle.tests_threads.specs.Seats.{HasSold}
use Rattle.tests_threads.proofs.seats.sell_seats.Given as goal

abbrev pub invariant-loop-step : goal.invariant-loop-step
invariant-loop-step g l = record { so_far : HasSold l.fn.worker l.step l.sold l.fn.share l.share; few : l.sold ≤ l.step }
