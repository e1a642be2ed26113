use Rattle.std.proofs.Common.{◌≡◌, ◌++◌, drop}
use Rattle.std.specs.List.{flat_map}
use Rattle.ref_history.specs.Shown.{spaced}
use Rattle.ref_history.proofs.shown.append_args.Given as goal

-- What is written, and what is left to write, are all of it.
abbrev pub invariant-loop-value : goal.invariant-loop-value
invariant-loop-value l = l.out.items ++ flat_map spaced (drop l.value-index l.args) ≡ l.fn.out.items ++ flat_map spaced l.args
