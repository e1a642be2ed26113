use Rattle.std.proofs.Common.{◌∙◌, ◌++◌, ◌+◌, if◌then◌else◌, ℕ, Ok, length, rules, ap}
use Rattle.ref_output.specs.Laws.{breaks_line, breaks_more, fault_told, memory_told, remains_end, remains_line, remains_more, remains_with, rest_told}
use Rattle.ref_history.specs.Changes.{changes_from}
use Rattle.ref_history.specs.History.{count_line}
use Rattle.ref_history.proofs.Turns.{changes_turn, count_end, count_turn}
use Rattle.ref_history.proofs.change_lines.write_lines.Goals as goal

pub returns-in_err-append_step-clause-err : goal.returns-in_err-append_step-clause-err
returns-in_err-append_step-clause-err g c =
    memory_told c.from_residual-in_err-append_step.result _ _ _ _ c.from_residual-in_err-append_step.ensures.1 (remains_more _ _ _ _ _ c.loop-entry.invariant.lines)

pub returns-in_err-write_piece-clause-err : goal.returns-in_err-write_piece-clause-err
returns-in_err-write_piece-clause-err g c =
    fault_told c.from_residual-in_err-write_piece.result _ _ _ _ c.from_residual-in_err-write_piece.ensures.1
    (breaks_more _ _ _ _ _ (breaks_line _ _ _ _ _ _ _ _ _ _ c.loop-entry.invariant.lines (changes_turn _ _ _ _ _ _ _ _ _ c.in-Some.ensures.steps c.in_ok-append_step.ensures.step c.takes-is_chosen.ensures) c.in_ok-append_step.ensures.text c.in_err-write_piece.ensures.err))

pub returns-in_err-chosen-clause-err : goal.returns-in_err-chosen-clause-err
returns-in_err-chosen-clause-err g c =
    memory_told c.from_residual-in_err-chosen.result _ _ _ _ c.from_residual-in_err-chosen.ensures.1
    (remains_more _ _ _ _ _ (remains_line _ _ _ _ _ _ _ _ _ _ c.loop-entry.invariant.lines (changes_turn _ _ _ _ _ _ _ _ _ c.in-Some.ensures.steps c.in_ok-append_step.ensures.step c.takes-is_chosen.ensures) c.in_ok-append_step.ensures.text c.in_ok-write_piece.ensures.ok))

pub returns-in_err-place-2-clause-err : goal.returns-in_err-place-2-clause-err
returns-in_err-place-2-clause-err g c =
    memory_told c.from_residual-in_err-place-2.result _ _ _ _ c.from_residual-in_err-place-2.ensures.1
    (remains_more _ _ _ _ _ (remains_line _ _ _ _ _ _ _ _ _ _ c.loop-entry.invariant.lines (changes_turn _ _ _ _ _ _ _ _ _ c.in-Some.ensures.steps c.in_ok-append_step.ensures.step c.takes-is_chosen.ensures) c.in_ok-append_step.ensures.text c.in_ok-write_piece.ensures.ok))

pub loop-entry-preserved : goal.loop-entry-preserved
loop-entry-preserved g c = record {
  lines = rw c.in_ok-place-2.ensures (remains_line _ _ _ _ _ _ _ _ _ _ c.loop-entry.invariant.lines (changes_turn _ _ _ _ _ _ _ _ _ c.in-Some.ensures.steps c.in_ok-append_step.ensures.step c.takes-is_chosen.ensures) c.in_ok-append_step.ensures.text c.in_ok-write_piece.ensures.ok);
  count = rw c.in_ok-place-2.ensures (count_turn _ _ _ _ _ _ _ _ c.in-Some.ensures.steps c.loop-entry.invariant.count (c.in_ok-chosen.ensures ∙ ap (λ b. (if b then 1 else 0) + c.loop-entry.chosen) c.takes-is_chosen.ensures));
  uncounted = search rules;
}

pub returns-in_err-append_count-clause-err : goal.returns-in_err-append_count-clause-err
returns-in_err-append_count-clause-err g c =
    memory_told c.from_residual-in_err-append_count.result _ _ _ _ c.from_residual-in_err-append_count.ensures.1 (remains_more _ _ _ _ _ c.loop-entry.invariant.lines)

pub returns-clause-err : goal.returns-clause-err
returns-clause-err g c =
    let ended = count_end _ _ _ _ _ c.in-None.ensures.steps.0 c.loop-entry.invariant.count in
    rest_told c.write_rest.result _ _ _ _ _
    (remains_with _ _ _ _ _ _ (remains_end _ _ _ _ _ c.loop-entry.invariant.lines (ap (λ es. changes_from c.args.names.now c.args.choice.now c.loop-entry.place es (Ok c.loop-entry.values)) c.in-None.ensures.steps.0))
    ((rw c.len.ensures at c.in_ok-append_count.ensures) ∙ ap (λ (n : ℕ). c.loop-entry.text.items ++ count_line (length c.args.dump.now.entries) n) ended))
    c.write_rest.ensures.err
