use Rattle.std.proofs.Common.{◌≡◌, ◌++◌, map, drop}
use Rattle.std.specs.List.{zip}
use Rattle.ref_audit.specs.Dumped.{base_ref_form}
use Rattle.ref_audit.proofs.dumping.references.base_refs.Given as goal

-- The forms that are made and those that are left are all of them.
abbrev pub invariant-loop-i : goal.invariant-loop-i
invariant-loop-i l = l.forms.items ++ map base_ref_form (zip (drop l.i l.refs) (drop l.i l.lasts)) ≡ map base_ref_form (zip l.refs l.lasts)
