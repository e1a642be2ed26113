use denote.Param.Send.{sendable}
use Rattle.std.proofs.Common.{ℕ, Result, IfOk, subst}
use Rattle.std.proofs.Crossing as std
use Rattle.ref_world.specs.Seen.{ShareSeen}
use Rattle.tests_shared.specs.declared.worlds.Stop.{Stop}
use Rattle.tests_threads.specs.Seats.{HasSold}
use Rattle.tests_threads.proofs.Crossing.{shared_crosses}
use Rattle.tests_threads.proofs.Sales.{have_sold}
use Rattle.tests_threads.proofs.seats.sell_both.Goals as goal

pub join-one-requires-send-F : goal.join-one-requires-send-F
join-one-requires-send-F g c κs within = search (shared_crosses, std.crosses, sendable) depth 60

pub join-one-requires-send-A : goal.join-one-requires-send-A
join-one-requires-send-A g c κs within = search (shared_crosses, std.crosses, sendable) depth 60

pub returns-in-Ok : goal.returns-in-Ok
returns-in-Ok g c =
    let first : HasSold 0 c.args.tries c.in_ok-part.first c.in-Some.part c.in_ok-part.part = subst (λ (r : Result (ShareSeen × ℕ) Stop). IfOk r (λ r. HasSold 0 c.args.tries r.1 c.in-Some.part r.0)) c.in_ok-part.was c.join-one.ensures.first in
    let second : HasSold 1 c.args.tries c.in_ok-rest.second c.split.new.self c.in_ok-rest.rest = subst (λ (r : Result (ShareSeen × ℕ) Stop). IfOk r (λ r. HasSold 1 c.args.tries r.1 c.split.new.self r.0)) c.in_ok-rest.was c.join-one.ensures.second in
    have_sold c.args.tries c.in_ok-part.first c.in_ok-rest.second c.args.share c.in-Some.part c.split.new.self c.in_ok-part.part c.in_ok-rest.rest c.in-Ok.share c.requires c.in-Some.ensures.some c.in-Some.ensures.left
    c.split.ensures.same.0 c.split.ensures.same.4 first second c.in-Ok.ensures.all c.in-Ok.ensures.known.0 c.in-Ok.ensures.known.1
