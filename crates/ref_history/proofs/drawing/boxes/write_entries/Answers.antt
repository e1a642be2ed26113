use Rattle.std.proofs.Common.{rules}
use Rattle.ref_history.proofs.Looked.{draws_memory, draws_piece, draws_told}
use Rattle.ref_history.proofs.drawing.boxes.write_entries.Goals as goal

pub returns-in_err-append_entry-clause-err : goal.returns-in_err-append_entry-clause-err
returns-in_err-append_entry-clause-err g c = draws_memory c.from_residual-in_err-append_entry.result _ _ c.from_residual-in_err-append_entry.ensures.1 c.loop-entry.invariant.drawn

pub returns-in_err-write_piece-clause-err : goal.returns-in_err-write_piece-clause-err
returns-in_err-write_piece-clause-err g c =
    draws_told c.from_residual-in_err-write_piece.result _ _ _ _ c.from_residual-in_err-write_piece.ensures.1 c.loop-entry.invariant.drawn (_, c.in_err-write_piece.ensures.err)

pub returns-in_err-place-2-clause-err : goal.returns-in_err-place-2-clause-err
returns-in_err-place-2-clause-err g c =
    draws_memory c.from_residual-in_err-place-2.result _ _ c.from_residual-in_err-place-2.ensures.1 (draws_piece _ _ _ _ _ c.loop-entry.invariant.drawn c.in_ok-write_piece.ensures.ok)

pub loop-entry-preserved : goal.loop-entry-preserved
loop-entry-preserved g c = record {
  drawn = draws_piece _ _ _ _ _ c.loop-entry.invariant.drawn c.in_ok-write_piece.ensures.ok;
  uncounted = search rules;
}
