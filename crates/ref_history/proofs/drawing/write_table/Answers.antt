use Rattle.std.proofs.Common.{rules}
use Rattle.ref_history.proofs.Looked.{draws_memory, draws_piece, draws_told}
use Rattle.ref_history.proofs.drawing.write_table.Goals as goal

pub returns-in_err-append_row-clause-err : goal.returns-in_err-append_row-clause-err
returns-in_err-append_row-clause-err g c =
    draws_memory c.from_residual-in_err-append_row.result _ _ c.from_residual-in_err-append_row.ensures.1 c.loop-r.invariant.drawn

pub returns-in_err-write_piece-clause-err : goal.returns-in_err-write_piece-clause-err
returns-in_err-write_piece-clause-err g c =
    draws_told c.from_residual-in_err-write_piece.result _ _ _ _ c.from_residual-in_err-write_piece.ensures.1 c.loop-r.invariant.drawn (_, c.in_err-write_piece.ensures.err)

pub loop-r-preserved : goal.loop-r-preserved
loop-r-preserved g c = record {
  drawn = draws_piece _ _ _ _ _ c.loop-r.invariant.drawn c.in_ok-write_piece.ensures.ok;
  uncounted = search rules;
}

pub returns-in_err-extend_from_slice-2-clause-err : goal.returns-in_err-extend_from_slice-2-clause-err
returns-in_err-extend_from_slice-2-clause-err g c =
    draws_memory c.from_residual-in_err-extend_from_slice-2.result _ _ c.from_residual-in_err-extend_from_slice-2.ensures.1 c.loop-r.invariant.drawn

pub returns-in_err-append_left_out-clause-err : goal.returns-in_err-append_left_out-clause-err
returns-in_err-append_left_out-clause-err g c =
    draws_memory c.from_residual-in_err-append_left_out.result _ _ c.from_residual-in_err-append_left_out.ensures.1 c.loop-r.invariant.drawn
