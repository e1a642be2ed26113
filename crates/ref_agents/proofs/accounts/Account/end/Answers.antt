use Rattle.std.proofs.Common.{arith}
use Rattle.ref_agents.proofs.Placed.{placed_rest}
use Rattle.ref_agents.proofs.accounts.Account.end.Goals as goal

pub invariant_of-self-in-Some : goal.invariant_of-self-in-Some
invariant_of-self-in-Some c =
    let inside = c.self.inside in (
      c.self.invariant.0,
      omega (arith, c.if-self-ge-MOST_ENDED.false),
      placed_rest inside.ended inside.carried c.forget_place.new.carried inside.queue.items c.pop_front.new.self.items c.in-Some.field-0 c.in-Some.ensures.items c.forget_place.ensures c.self.invariant.2,
    )
