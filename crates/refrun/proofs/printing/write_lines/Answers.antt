use Rattle.std.proofs.Common.{rules}
use Rattle.std.proofs.lemmas.List.{at_drop_all}
use Rattle.ref_output.specs.Laws.{breaks_line, fault_told, memory_told, remains_end, remains_line, rest_told}
use Rattle.refrun.specs.Printing.{printed_lines}
use Rattle.refrun.proofs.PrintedLines.{printed_line_at}
use Rattle.refrun.proofs.printing.write_lines.Goals as goal

pub returns-in_err-append_line-clause-err : goal.returns-in_err-append_line-clause-err
returns-in_err-append_line-clause-err g c = memory_told c.from_residual.result _ _ _ _ c.from_residual.ensures.1 c.loop-value.invariant.lines

pub returns-in_err-write_piece-clause-err : goal.returns-in_err-write_piece-clause-err
returns-in_err-write_piece-clause-err g c =
    fault_told c.from_residual-in_err-write_piece.result _ _ _ _ c.from_residual-in_err-write_piece.ensures.1
    (breaks_line _ _ _ _ _ _ _ _ _ _ c.loop-value.invariant.lines (printed_line_at _ _ _ c.loop-value-test.true c.value-item.is) c.in_ok-append_line.ensures c.in_err-write_piece.ensures.err)

pub loop-value-preserved : goal.loop-value-preserved
loop-value-preserved g c = record {
  lines = remains_line _ _ _ _ _ _ _ _ _ _ c.loop-value.invariant.lines (printed_line_at _ _ _ c.loop-value-test.true c.value-item.is) c.in_ok-append_line.ensures c.in_ok-write_piece.ensures.ok;
  uncounted = search rules;
}

pub returns-clause-err : goal.returns-clause-err
returns-clause-err g c = rest_told c.write_rest.result _ _ _ _ _ (remains_end _ _ _ _ _ c.loop-value.invariant.lines (at_drop_all printed_lines _ _ c.loop-value-test.false)) c.write_rest.ensures.err
