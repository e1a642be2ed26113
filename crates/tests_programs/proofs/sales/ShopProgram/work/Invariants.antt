use Rattle.std.proofs.Common.{◌≡◌}
use Rattle.tests_programs.proofs.sales.ShopProgram.work.Given as goal

abbrev pub invariant-loop-n : goal.invariant-loop-n
invariant-loop-n g l = l.worker.share.commits ≡ l.n

abbrev pub invariant-loop-till : goal.invariant-loop-till
invariant-loop-till g l = l.worker.share.commits ≡ 20
