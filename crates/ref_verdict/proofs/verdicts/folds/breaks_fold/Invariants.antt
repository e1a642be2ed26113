use Rattle.std.proofs.Common.{◌≡◌, Ok, drop}
use Rattle.ref_fun.specs.Core.{core_means}
use Rattle.ref_agents.specs.Account.{after_handled}
use Rattle.ref_verdict.proofs.verdicts.folds.breaks_fold.Given as goal

-- The state so far, and what is left, give what the start and all give.
abbrev pub invariant-loop-handled : goal.invariant-loop-handled
invariant-loop-handled g l = after_handled core_means (drop l.handled-index l.agent.handled) (Ok l.state) ≡ after_handled core_means l.agent.handled (Ok l.agent.start)
