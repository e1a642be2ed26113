use Rattle.std.proofs.Common.{◌≤◌, length, arith}
use Rattle.ref_edn.proofs.Taken.{consumes_up_to, length-taken}
use Rattle.ref_edn.proofs.streams.read_to_end.Goals as goal

pub returns-in_err-extend_from_slice-clause-taken : goal.returns-in_err-extend_from_slice-clause-taken
returns-in_err-extend_from_slice-clause-taken g c =
    let short : length c.read.new.buf ≤ c.room_in_block-most.result = length-taken _ _ _ c.read.auto.buf in
    consumes_up_to _ _ _ _ _ _ _ c.loop-bytes.invariant.consumed c.in_ok-n.ensures.bytes.0 (omega arith)
