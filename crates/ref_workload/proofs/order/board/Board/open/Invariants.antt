use Rattle.std.proofs.Common.{◌≡◌, take, map, length, replicate}
use Rattle.ref_workload.specs.declared.order.board.Mark.TheVariants.{Open}
use Rattle.ref_workload.proofs.order.board.Board.open.Given as goal

abbrev pub invariant-loop-steps : goal.invariant-loop-steps
invariant-loop-steps l = l.rows.items ≡ map (λ steps. replicate (length steps) Open) (take l.steps-index l.workers)
