use Rattle.std.proofs.Common.{◌≡◌, drop}
use Rattle.std.specs.List.{position_from}
use Rattle.ref_verdict.specs.Verdict.{breaks_fold}
use Rattle.ref_verdict.proofs.verdicts.folds.first_broken_fold.Given as goal

abbrev pub invariant-loop-n : goal.invariant-loop-n
invariant-loop-n g l = position_from breaks_fold l.n (drop l.n l.agents) ≡ position_from breaks_fold 0 l.agents
