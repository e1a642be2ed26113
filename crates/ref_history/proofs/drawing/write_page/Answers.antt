use Rattle.ref_history.proofs.Looked.{draws_memory, draws_rest, draws_then, draws_told, draws_whole}
use Rattle.ref_history.proofs.drawing.write_page.Goals as goal

pub returns-in_err-extend_from_slice-clause-err : goal.returns-in_err-extend_from_slice-clause-err
returns-in_err-extend_from_slice-clause-err g c =
    draws_memory c.from_residual-in_err-extend_from_slice.result _ _ c.from_residual-in_err-extend_from_slice.ensures.1 c.in_ok-write_picture.ensures.ok

pub returns-in_err-write_table-clause-err : goal.returns-in_err-write_table-clause-err
returns-in_err-write_table-clause-err g c =
    draws_told c.from_residual-in_err-write_table.result _ _ _ _ c.from_residual-in_err-write_table.ensures.1 c.in_ok-write_picture.ensures.ok c.in_err-write_table.ensures.err

pub returns-in_err-extend_from_slice-2-clause-err : goal.returns-in_err-extend_from_slice-2-clause-err
returns-in_err-extend_from_slice-2-clause-err g c =
    draws_memory c.from_residual-in_err-extend_from_slice-2.result _ _ c.from_residual-in_err-extend_from_slice-2.ensures.1
    (draws_then _ _ _ c.in_ok-write_picture.ensures.ok c.in_ok-write_table.ensures.ok)

pub returns-clause-ok : goal.returns-clause-ok
returns-clause-ok g c =
    draws_whole c.write_rest.result _ _ _ _ (draws_then _ _ _ c.in_ok-write_picture.ensures.ok c.in_ok-write_table.ensures.ok) c.write_rest.ensures.ok

pub returns-clause-err : goal.returns-clause-err
returns-clause-err g c =
    draws_rest c.write_rest.result _ _ _ _ (draws_then _ _ _ c.in_ok-write_picture.ensures.ok c.in_ok-write_table.ensures.ok) c.write_rest.ensures.err
