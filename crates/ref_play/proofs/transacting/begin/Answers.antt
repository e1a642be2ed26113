use Rattle.std.proofs.Common.{sym}
use Rattle.ref_play.proofs.Answering.{begin_opens}
use Rattle.ref_play.proofs.transacting.begin.Goals as goal

pub returns : goal.returns
returns g c = λ s. begin_opens (record s { world = c.args.world.now; slots = c.args.actors.now }) c.open.new.self c.args.actor c.read_point-point.result c.in-Ok.tx (sym c.in_default.ensures) c.in-Ok.ensures c.read_point-point.ensures c.in_default-open.ensures.ok
