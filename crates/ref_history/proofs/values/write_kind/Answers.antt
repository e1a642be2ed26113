use Rattle.std.proofs.Common.{rules}
use Rattle.std.proofs.lemmas.List.{at_drop_all}
use Rattle.ref_output.specs.Laws.{breaks_line, fault_told, memory_told, remains_end, remains_line}
use Rattle.ref_history.specs.Values.{value_lines}
use Rattle.ref_history.proofs.Lines.{value_line_at}
use Rattle.ref_history.proofs.values.write_kind.Goals as goal

pub returns-in_err-append_value-clause-err : goal.returns-in_err-append_value-clause-err
returns-in_err-append_value-clause-err g c = memory_told c.from_residual.result _ _ _ _ c.from_residual.ensures.1 c.loop-n.invariant.lines

pub returns-in_err-write_piece-clause-err : goal.returns-in_err-write_piece-clause-err
returns-in_err-write_piece-clause-err g c =
    fault_told c.from_residual-in_err-write_piece.result _ _ _ _ c.from_residual-in_err-write_piece.ensures.1
    (breaks_line _ _ _ _ _ _ _ _ _ _ c.loop-n.invariant.lines (value_line_at _ _ _ _ _ c.loop-n-test.true c.index-values-n.is) c.in_ok-append_value.ensures c.in_err-write_piece.ensures.err)

pub loop-n-preserved : goal.loop-n-preserved
loop-n-preserved g c = record {
  lines = remains_line _ _ _ _ _ _ _ _ _ _ c.loop-n.invariant.lines (value_line_at _ _ _ _ _ c.loop-n-test.true c.index-values-n.is) c.in_ok-append_value.ensures c.in_ok-write_piece.ensures.ok;
  uncounted = search rules;
}

pub returns-clause-ok : goal.returns-clause-ok
returns-clause-ok g c = remains_end _ _ _ _ _ c.loop-n.invariant.lines (at_drop_all (value_lines c.args.kind.now c.args.names.now c.loop-n.n) _ _ c.loop-n-test.false)
