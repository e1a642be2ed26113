use Rattle.std.proofs.Common.{◌∙◌, sym}
use Rattle.tests_threads.proofs.Sales.{came_to}
use Rattle.tests_threads.proofs.seats.finish.Goals as goal

pub returns-in-Ok-clause-values : goal.returns-in-Ok-clause-values
returns-in-Ok-clause-values g c =
    let world = c.in-Ok.world in
    came_to c.args.share.history c.args.share.commits c.commits.result world.base world.log world.refs world.atoms c.in-Ok.ensures.history c.holds.ensures.replayed c.commits.ensures.books
    (c.commits.ensures.value ∙ (sym c.in-Ok.ensures.books.0 ∙ c.in-Ok.ensures.totals.0))
