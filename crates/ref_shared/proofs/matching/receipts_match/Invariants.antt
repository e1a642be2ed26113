use Rattle.std.proofs.Common.{◌≡◌, length, take}
use Rattle.ref_shared.proofs.Marking.{SoFar}
use Rattle.ref_shared.proofs.matching.receipts_match.Given as goal

abbrev pub invariant-loop-receipt : goal.invariant-loop-receipt
invariant-loop-receipt l = SoFar l.fn.base_point l.fn.log l.met.items (take l.receipt-index l.fn.receipts) × (length l.met.items ≡ length l.fn.log)
