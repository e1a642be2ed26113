use Rattle.std.proofs.Common.{◌≡◌, drop}
use Rattle.ref_refs.specs.Commit.{lacking}
use Rattle.ref_refs.proofs.checking.check_served.Given as goal

abbrev pub invariant-loop-done : goal.invariant-loop-done
invariant-loop-done g l =
    let knows = (g.F.Functions.knows l.funs).funs in
    lacking knows (drop l.done-index l.dones) ≡ lacking knows l.dones
