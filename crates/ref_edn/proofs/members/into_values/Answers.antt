use Rattle.std.proofs.Common.{rules, map-id}
use Rattle.std.proofs.lemmas.Iterator.Consumers.{YieldsList-end}
use Rattle.std.proofs.lemmas.Iterator.Adapters.{YieldsList-from_vec}
use Rattle.ref_edn.proofs.members.into_values.Goals as goal

pub returns : goal.returns
returns c =
    let end = YieldsList-end (YieldsList-from_vec {s = c.into_iter-x-iterator.result} c.args.found.items (search rules) (search rules))
    c.loop-x.yielded c.loop-x.x-iterator c.loop-x.yielded_by c.next.result c.next.new.self c.in-None.is c.next.ensures.steps in
    rw (← end.0, map-id) c.loop-x.invariant
