use Rattle.tests_threads.proofs.Sales.{tried}
use Rattle.tests_threads.proofs.seats.try_once.Goals as goal

pub returns-in-Ok : goal.returns-in-Ok
returns-in-Ok g c = tried _ _ _ c.in-Ok.sold c.args.stamp c.in-Ok._receipt.point c.args.share.now c.transact_body.new.share c.in-Ok.ensures.ok
