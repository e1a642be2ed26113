use Rattle.std.proofs.Common.{◌<◌, length, sym, arith}
use Rattle.ref_workload.proofs.Cells.{taken}
use Rattle.ref_workload.proofs.order.board.Board.take.Goals as goal

pub returns : goal.returns
returns c =
    let room : c.args.stamp.worker < length c.self.inside.rows.items = omega (arith, c.if-at-len.false, c.len.ensures, c.self.inside.rows.ok) in
    rw (sym c.self.view_is) (taken c.self.inside.rows.items c.args.stamp c.args.mark c.index_mut.result.now c.take.new.self c.take.result room c.index_mut.ensures.value c.take.ensures)
