use Rattle.std.proofs.Common.{◌≡◌}
use Rattle.ref_program.proofs.running.add_watches.Given as goal

abbrev pub invariant-loop-watch : goal.invariant-loop-watch
invariant-loop-watch g l = (l.world.books ≡ l.fn.world.books) × (l.world.base ≡ l.fn.world.base) × (l.world.log ≡ l.fn.world.log)
