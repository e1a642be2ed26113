use Rattle.ref_output.specs.Laws.{breaks_more, fault_told, memory_told, remains_more, remains_with, rest_told}
use Rattle.ref_player.proofs.plays.write_played.Goals as goal

pub returns-in_err-write_lines-clause-err : goal.returns-in_err-write_lines-clause-err
returns-in_err-write_lines-clause-err g c =
    fault_told c.from_residual.result _ _ _ _ c.from_residual.ensures.1
    (breaks_more _ _ _ _ _ (rw (c.new-waiting.ensures.items, c.as_slice.ensures.value) at c.in_err-write_lines.ensures.err))

pub returns-in_err-append_end-clause-err : goal.returns-in_err-append_end-clause-err
returns-in_err-append_end-clause-err g c =
    memory_told c.from_residual-in_err-append_end.result _ _ _ _ c.from_residual-in_err-append_end.ensures.1
    (remains_more _ _ _ _ _ (rw (c.new-waiting.ensures.items, c.as_slice.ensures.value) at c.in_ok-write_lines.ensures.ok))

pub returns-clause-err : goal.returns-clause-err
returns-clause-err g c =
    rest_told c.write_rest.result _ _ _ _ _
    (remains_with _ _ _ _ _ _ (rw (c.new-waiting.ensures.items, c.as_slice.ensures.value) at c.in_ok-write_lines.ensures.ok) c.in_ok-append_end.ensures)
    c.write_rest.ensures.err
