use Rattle.std.proofs.Common.{◌≡◌, ◌++◌, drop}
use Rattle.ref_player.specs.Lines.{spaced}
use Rattle.ref_player.proofs.replies.append_args.Given as goal

-- What is written, and what is left to write, are all of the arguments.
abbrev pub invariant-loop-arg : goal.invariant-loop-arg
invariant-loop-arg l = l.out.items ++ spaced (drop l.arg-index l.args) ≡ l.fn.out.items ++ spaced l.args
