use Rattle.std.proofs.Common.{◌≡◌, length}
use Rattle.ref_refs.specs.Late.{all_taken}
use Rattle.ref_refs.proofs.current.Refs.settle.Given as goal

abbrev pub invariant-loop-alloc : goal.invariant-loop-alloc
invariant-loop-alloc l = all_taken l.self-inside.late l.self-inside.settled ≡ l.fn.self

abbrev pub decreases-loop-alloc : goal.decreases-loop-alloc
decreases-loop-alloc l = length l.self-inside.late
