use Rattle.std.proofs.Common.{◌≡◌, drop}
use Rattle.ref_log.specs.Guards.{are_known}
use Rattle.ref_log.proofs.guards.Guards.are_known.Given as goal

abbrev pub invariant-loop-guard : goal.invariant-loop-guard
invariant-loop-guard g l = are_known (g.F.Functions.knows l.funs).preds (drop l.guard-index l.guard-items) ≡ are_known (g.F.Functions.knows l.funs).preds l.guard-items
