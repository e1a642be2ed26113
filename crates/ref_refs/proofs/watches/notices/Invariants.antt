use Rattle.std.proofs.Common.{◌≡◌, ◌++◌, drop}
use Rattle.ref_refs.specs.Watches.{notices}
use Rattle.ref_refs.proofs.watches.notices.Given as goal

abbrev pub invariant-loop-r : goal.invariant-loop-r
invariant-loop-r l = l.all.items ++ notices l.guards l.before.values l.after.values (drop l.r-index l.touched) ≡ notices l.guards l.before.values l.after.values l.touched
