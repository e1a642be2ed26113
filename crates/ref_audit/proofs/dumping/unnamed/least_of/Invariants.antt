use Rattle.std.proofs.Common.{◌≡◌, drop}
use Rattle.ref_audit.specs.Dumped.{least, lesser}
use Rattle.ref_audit.proofs.dumping.unnamed.least_of.Given as goal

-- What is found and the least of what is left make the least of all.
abbrev pub invariant-loop-item : goal.invariant-loop-item
invariant-loop-item g l = lesser l.found (least g.T.Naming.unnamed (drop l.item-index l.items)) ≡ least g.T.Naming.unnamed l.items
