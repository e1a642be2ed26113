use Rattle.std.proofs.Common.{◌≡◌, drop}
use Rattle.ref_refs.specs.Commit.{alien_ref}
use Rattle.ref_refs.proofs.checking.check_refs.Given as goal

abbrev pub invariant-loop-done : goal.invariant-loop-done
invariant-loop-done l = alien_ref l.refs.values (drop l.done-index l.dones) ≡ alien_ref l.refs.values l.dones
