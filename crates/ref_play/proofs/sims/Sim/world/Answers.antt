use Rattle.std.proofs.Common.{subst}
use Rattle.ref_play.specs.Sims.{SimSeen, Stands, machine_of}
use Rattle.ref_play.proofs.Standing.{stands_first}
use Rattle.ref_play.proofs.sims.Sim.world.Goals as goal

pub returns-clause-stands : goal.returns-clause-stands
returns-clause-stands g c = subst (λ (s : SimSeen). Stands g.M.Meaning.means (machine_of s) s) c.self.view_is
    (stands_first g.M.Meaning.means (record { world = c.self.inside.booked.world; share = c.self.inside.share; slots = c.self.inside.actors; jobs = c.self.inside.jobs }) c.always_so.ensures.world c.always_so.ensures.count c.self.invariant)
