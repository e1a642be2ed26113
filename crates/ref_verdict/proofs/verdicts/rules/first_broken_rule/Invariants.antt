use Rattle.std.proofs.Common.{◌≡◌, drop}
use Rattle.std.specs.List.{position_from}
use Rattle.ref_verdict.specs.Verdict.{breaks_rule}
use Rattle.ref_verdict.proofs.verdicts.rules.first_broken_rule.Given as goal

abbrev pub invariant-loop-n : goal.invariant-loop-n
invariant-loop-n g l = position_from breaks_rule l.n (drop l.n l.kept) ≡ position_from breaks_rule 0 l.kept
