use Rattle.std.proofs.Common.{◌≡◌, ◌++◌, map, drop}
use Rattle.ref_audit.proofs.dumping.forms.vector_of_all.Given as goal

-- The forms that are made and those that are left are all of them.
abbrev pub invariant-loop-item : goal.invariant-loop-item
invariant-loop-item g l = l.forms.items ++ map g.T.Form.form (drop l.item-index l.items) ≡ map g.T.Form.form l.items
