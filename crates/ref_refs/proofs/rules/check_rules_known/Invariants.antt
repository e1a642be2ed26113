use Rattle.std.proofs.Common.{◌≡◌, drop}
use Rattle.ref_refs.specs.Commit.{lacking_rule}
use Rattle.ref_refs.proofs.rules.check_rules_known.Given as goal

abbrev pub invariant-loop-done : goal.invariant-loop-done
invariant-loop-done g l =
    let knows = (g.F.Functions.knows l.funs).preds in
    lacking_rule knows l.guards (drop l.done-index l.dones) ≡ lacking_rule knows l.guards l.dones
