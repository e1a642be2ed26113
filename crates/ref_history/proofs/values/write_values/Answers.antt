use Rattle.ref_output.specs.Laws.{breaks_more, breaks_rest, fault_told, memory_told, remains_more, remains_then, remains_with, rest_told}
use Rattle.ref_history.proofs.values.write_values.Goals as goal

pub returns-in_err-write_kind-clause-err : goal.returns-in_err-write_kind-clause-err
returns-in_err-write_kind-clause-err g c =
    fault_told c.from_residual.result _ _ _ _ c.from_residual.ensures.1
    (breaks_more _ _ _ _ _ (breaks_more _ _ _ _ _ (rw (c.new-text.ensures.items, c.refs.ensures, c.as_slice-refs.ensures) at c.in_err-write_kind.ensures.err)))

pub returns-in_err-write_kind-2-clause-err : goal.returns-in_err-write_kind-2-clause-err
returns-in_err-write_kind-2-clause-err g c =
    fault_told c.from_residual-in_err-write_kind-2.result _ _ _ _ c.from_residual-in_err-write_kind-2.ensures.1
    (breaks_more _ _ _ _ _ (breaks_rest _ _ _ _ _ _ (remains_more _ _ _ _ _ (rw (c.new-text.ensures.items, c.refs.ensures, c.as_slice-refs.ensures) at c.in_ok-write_kind.ensures.ok)) (rw (c.atoms.ensures, c.as_slice-atoms.ensures) at c.in_err-write_kind-2.ensures.err)))

pub returns-in_err-append_end-clause-err : goal.returns-in_err-append_end-clause-err
returns-in_err-append_end-clause-err g c =
    memory_told c.from_residual-in_err-append_end.result _ _ _ _ c.from_residual-in_err-append_end.ensures.1
    (remains_more _ _ _ _ _ (remains_then _ _ _ _ _ _ (remains_more _ _ _ _ _ (rw (c.new-text.ensures.items, c.refs.ensures, c.as_slice-refs.ensures) at c.in_ok-write_kind.ensures.ok)) (rw (c.atoms.ensures, c.as_slice-atoms.ensures) at c.in_ok-write_kind-2.ensures.ok)))

pub returns-clause-err : goal.returns-clause-err
returns-clause-err g c =
    rest_told c.write_rest.result _ _ _ _ _
    (remains_with _ _ _ _ _ _ (remains_then _ _ _ _ _ _ (remains_more _ _ _ _ _ (rw (c.new-text.ensures.items, c.refs.ensures, c.as_slice-refs.ensures) at c.in_ok-write_kind.ensures.ok)) (rw (c.atoms.ensures, c.as_slice-atoms.ensures) at c.in_ok-write_kind-2.ensures.ok)) c.in_ok-append_end.ensures)
    c.write_rest.ensures.err
