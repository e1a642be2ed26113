use Rattle.tests_threads.specs.declared.seats.Sold.{Sold}
use Rattle.tests_threads.proofs.Sales.{if_sold_out}
use Rattle.tests_threads.proofs.seats.sell_in.Goals as goal

pub returns-in-Ok-sell_both : goal.returns-in-Ok-sell_both
returns-in-Ok-sell_both g c =
    let sold = c.in-Ok-sell_both in
    if_sold_out c.finish.result (λ (s : Sold). s.first) (λ (s : Sold). s.second) (λ (s : Sold). s.totals.commits) (λ (s : Sold). s.world.refs.values) c.args.seats c.args.tries sold.first sold.second c.in-Ok.share sold.share
    c.in-Ok.ensures sold.ensures c.finish.ensures.sold c.finish.ensures.commits c.finish.ensures.values
