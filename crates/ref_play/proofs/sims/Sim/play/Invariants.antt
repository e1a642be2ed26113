use Rattle.std.proofs.Common.{◌≤◌, ◌≡◌, length, take, vec_capacity, vec_len}
use Rattle.ref_play.specs.Machine.{Machine}
use Rattle.ref_play.specs.Runs.{IsServed}
use Rattle.ref_play.specs.Sims.{IsSim, Stands, present}
use Rattle.ref_play.proofs.Standing.{Reaches}
use Rattle.ref_play.proofs.sims.Sim.play.Given as goal

abbrev pub invariant-loop-event : goal.invariant-loop-event
invariant-loop-event g l = record {
  run : (m : Machine) → Stands g.M.Meaning.means m l.fn.self
      → Reaches g.M.Meaning.means g.M.Meaning.accepts (g.F.Functions.knows l.funs) m (take l.event-index l.events) l.replies.items (record { world = l.self-inside.booked.world; share = l.self-inside.share; slots = l.self-inside.actors; jobs = l.self-inside.jobs });
  is : IsSim g.M.Meaning.means (record { world = l.self-inside.booked.world; share = l.self-inside.share; slots = l.self-inside.actors; jobs = l.self-inside.jobs });
  served : IsServed (g.F.Functions.knows l.funs) (present (record { world = l.self-inside.booked.world; share = l.self-inside.share; slots = l.self-inside.actors; jobs = l.self-inside.jobs }));
  count : vec_len l.replies ≡ l.event-index;
  room : length l.events ≤ vec_capacity l.replies;
}
