use Rattle.std.proofs.Common.{◌≡◌, ◌<◌, Some, length, slice_get, refl, sym, ap, subst, ◌∙◌, arith}
use Rattle.std.proofs.lemmas.Option.{slice_get_read}
use Rattle.ref_workload.specs.Marks.{IsDone}
use Rattle.ref_workload.proofs.Marking.{row_done, rows_done, rows_more}
use Rattle.ref_workload.proofs.order.entries.is_done.Goals as goal

pub returns-then-not-is_row_done-clause-no : goal.returns-then-not-is_row_done-clause-no
returns-then-not-is_row_done-clause-no c = λ over done.
    let workers = c.args.workers.now in
    let rows = c.rows-rows.result.now in
    let k = c.loop-k.k in
    let inside : k < length workers = omega arith in
    let steps : slice_get workers k ≡ Some c.index-workers-k.result = slice_get_read workers (length workers) k c.index-workers-k.result refl inside c.index-workers-k.is in
    let marks : slice_get rows k ≡ Some c.in-Some.row.now =
    slice_get_read rows (length rows) k c.in-Some.row.now refl c.in-Some.ensures.lookup.3.0 c.in-Some.ensures.lookup.1 in
    c.if-not-is_row_done.ensures.no refl
    (row_done workers rows k c.as_slice.result.now c.as_slice-in-loop-k.result.now (steps ∙ ap Some (sym c.as_slice.ensures)) (marks ∙ ap Some (sym c.as_slice-in-loop-k.ensures))
    (subst (IsDone workers) (sym c.rows-rows.ensures) done))

pub loop-k-preserved : goal.loop-k-preserved
loop-k-preserved c =
    let workers = c.args.workers.now in
    let rows = c.rows-rows.result.now in
    let k = c.loop-k.k in
    let inside : k < length workers = omega arith in
    let steps : slice_get workers k ≡ Some c.index-workers-k.result = slice_get_read workers (length workers) k c.index-workers-k.result refl inside c.index-workers-k.is in
    let marks : slice_get rows k ≡ Some c.in-Some.row.now =
    slice_get_read rows (length rows) k c.in-Some.row.now refl c.in-Some.ensures.lookup.3.0 c.in-Some.ensures.lookup.1 in
    rows_more workers rows k c.as_slice.result.now c.as_slice-in-loop-k.result.now (steps ∙ ap Some (sym c.as_slice.ensures)) (marks ∙ ap Some (sym c.as_slice-in-loop-k.ensures))
    c.loop-k.invariant (c.if-not-is_row_done.ensures.yes refl)

pub returns-clause-yes : goal.returns-clause-yes
returns-clause-yes c = λ over. rows_done c.args.workers.now c.args.board.now c.rows-rows.result.now c.loop-k.k c.rows-rows.ensures c.loop-k-test.false c.loop-k.invariant
