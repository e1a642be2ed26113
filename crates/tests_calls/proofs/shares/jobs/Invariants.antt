use Rattle.std.proofs.Common.{◌≡◌}
use Rattle.tests_calls.proofs.shares.jobs.Given as goal

-- A job that is taken leaves books, base and log as they are.
abbrev pub invariant-loop : goal.invariant-loop
invariant-loop l = (l.world.books ≡ l.fn.world.books) × (l.world.base ≡ l.fn.world.base) × (l.world.log ≡ l.fn.world.log)
