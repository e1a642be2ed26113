use Rattle.std.proofs.Common.{◌≡◌, ◌≤◌, ◌++◌, length, map, drop}
use Rattle.std.specs.List.{enumerate_from}
use Rattle.ref_world.specs.References.{guards_of, values_of}
use Rattle.ref_audit.specs.Made.{who_of}
use Rattle.ref_audit.specs.OwnDump.{kept_seen}
use Rattle.ref_audit.proofs.own_audit.seen.kepts_seen.Given as goal

-- Those that are taken and those that are left are all of them.
abbrev pub invariant-loop-n : goal.invariant-loop-n
invariant-loop-n l =
    let values = values_of l.world (who_of l.kind 0) in
    let kept = kept_seen (guards_of l.world (who_of l.kind 0)) in
    record {
      left : l.all.items ++ map kept (enumerate_from l.n (drop l.n values)) ≡ map kept (enumerate_from 0 values);
      within : l.n ≤ length values;
    }
