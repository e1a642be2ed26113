use Rattle.std.proofs.Common.{◌≡◌, Some}
use Rattle.std.specs.List.{All}
use Rattle.ref_play.specs.Runs.{AreServed}
use Rattle.ref_play.specs.Sims.{slot_of, txs_of}
use Rattle.ref_play.proofs.actors.Actors.are_served.Given as goal

-- Where the table serves those that are left, it serves all; and each that is left is found under its number.
abbrev pub invariant-loop-actor : goal.invariant-loop-actor
invariant-loop-actor g l = record {
  all : AreServed (g.F.Functions.knows l.funs).funs (txs_of l._actor-iterator) → AreServed (g.F.Functions.knows l.funs).funs (txs_of l.self);
  found : All (λ e. slot_of l.self e.0 ≡ Some e.1) l._actor-iterator;
}
