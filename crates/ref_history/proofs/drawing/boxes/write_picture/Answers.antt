use Rattle.ref_history.proofs.Looked.{draws_memory, draws_then, draws_told}
use Rattle.ref_history.proofs.drawing.boxes.write_picture.Goals as goal

pub returns-in_err-write_entries-2-clause-err : goal.returns-in_err-write_entries-2-clause-err
returns-in_err-write_entries-2-clause-err g c =
    draws_told c.from_residual-in_err-write_entries-2.result _ _ _ _ c.from_residual-in_err-write_entries-2.ensures.1 c.in_ok-write_entries.ensures.ok c.in_err-write_entries-2.ensures.err

pub returns-in_err-extend_from_slice-clause-err : goal.returns-in_err-extend_from_slice-clause-err
returns-in_err-extend_from_slice-clause-err g c =
    draws_memory c.from_residual-in_err-extend_from_slice.result _ _ c.from_residual-in_err-extend_from_slice.ensures.1
    (draws_then _ _ _ c.in_ok-write_entries.ensures.ok c.in_ok-write_entries-2.ensures.ok)

pub returns-clause-ok : goal.returns-clause-ok
returns-clause-ok g c = draws_then _ _ _ c.in_ok-write_entries.ensures.ok c.in_ok-write_entries-2.ensures.ok
