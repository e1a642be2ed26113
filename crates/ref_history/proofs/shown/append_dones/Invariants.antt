use Rattle.std.proofs.Common.{◌≡◌, ◌++◌, drop}
use Rattle.std.specs.List.{flat_map}
use Rattle.ref_history.specs.Shown.{done_text}
use Rattle.ref_history.proofs.shown.append_dones.Given as goal

-- What is written, and what is left to write, are all of it.
abbrev pub invariant-loop-done : goal.invariant-loop-done
invariant-loop-done l = l.out.items ++ flat_map (done_text l.names) (drop l.done-index l.dones) ≡ l.fn.out.items ++ flat_map (done_text l.names) l.dones
