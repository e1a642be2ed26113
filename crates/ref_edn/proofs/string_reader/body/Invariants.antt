use Rattle.std.proofs.Common.{◌≤◌, length}
use Rattle.ref_edn.specs.ReadTokens.{body_at}
use Rattle.ref_edn.proofs.Bodies.{Continues}
use Rattle.ref_edn.proofs.string_reader.body.Given as goal

abbrev pub invariant-loop-i : goal.invariant-loop-i
invariant-loop-i l = record { continues : Continues l.bytes.items l.rest (body_at l.text); shorter : length l.rest ≤ length l.text }

abbrev pub decreases-loop-i : goal.decreases-loop-i
decreases-loop-i l = length l.rest
