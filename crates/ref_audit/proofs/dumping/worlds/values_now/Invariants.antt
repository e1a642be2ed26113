use Rattle.std.proofs.Common.{◌≡◌, ◌≤◌, ◌++◌, length, map, drop}
use Rattle.std.specs.List.{enumerate_from}
use Rattle.ref_world.specs.References.{guards_of, values_of}
use Rattle.ref_audit.specs.Dumped.{value_form}
use Rattle.ref_audit.specs.Made.{who_of}
use Rattle.ref_audit.proofs.dumping.worlds.values_now.Given as goal

-- The forms that are made and those that are left are all of them.
abbrev pub invariant-loop-n : goal.invariant-loop-n
invariant-loop-n l =
    let values = values_of l.world (who_of l.kind 0) in
    let form = value_form (guards_of l.world (who_of l.kind 0)) in
    record {
      left : l.forms.items ++ map form (enumerate_from l.n (drop l.n values)) ≡ map form (enumerate_from 0 values);
      within : l.n ≤ length values;
    }
