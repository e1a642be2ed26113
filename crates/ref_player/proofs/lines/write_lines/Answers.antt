use Rattle.std.proofs.Common.{rules}
use Rattle.ref_output.specs.Laws.{breaks_line, fault_told, memory_told, remains_end, remains_line}
use Rattle.ref_player.proofs.Written.{line_at, no_line_at}
use Rattle.ref_player.proofs.lines.write_lines.Goals as goal

pub returns-in_err-append_line-in-Some-clause-err : goal.returns-in_err-append_line-in-Some-clause-err
returns-in_err-append_line-in-Some-clause-err g c = memory_told c.from_residual.result _ _ _ _ c.from_residual.ensures.1 c.loop-i.invariant.lines

pub returns-in_err-write_piece-clause-err : goal.returns-in_err-write_piece-clause-err
returns-in_err-write_piece-clause-err g c =
    fault_told c.from_residual-in_err-write_piece.result _ _ _ _ c.from_residual-in_err-write_piece.ensures.1
    (breaks_line _ _ _ _ _ _ _ _ _ _ c.loop-i.invariant.lines (line_at _ _ _ _ _ c.loop-i-test.true c.index-replies-i.is c.in-Some.ensures.item.3.0 (c.in-Some.ensures.item.3.1 _)) c.in_ok-append_line-in-Some.ensures c.in_err-write_piece.ensures.err)

pub loop-i-preserved : goal.loop-i-preserved
loop-i-preserved g c = record {
  lines = remains_line _ _ _ _ _ _ _ _ _ _ c.loop-i.invariant.lines (line_at _ _ _ _ _ c.loop-i-test.true c.index-replies-i.is c.in-Some.ensures.item.3.0 (c.in-Some.ensures.item.3.1 _)) c.in_ok-append_line-in-Some.ensures c.in_ok-write_piece.ensures.ok;
  uncounted = search rules;
}

pub returns-clause-ok : goal.returns-clause-ok
returns-clause-ok g c = remains_end _ _ _ _ _ c.loop-i.invariant.lines (no_line_at _ _ _ _ c.loop-i-test.false)
