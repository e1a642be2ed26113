use Rattle.std.proofs.Common.{◌≡◌, true, subst, sym}
use Rattle.ref_play.specs.Runs.{IsServed}
use Rattle.ref_play.specs.Sims.{SimSeen, present}
use Rattle.ref_play.proofs.Tables.{serves_all}
use Rattle.ref_play.proofs.sims.Sim.served_by.Goals as goal

pub returns-then-served_by : goal.returns-then-served_by
returns-then-served_by g c =
    let knows = g.F.Functions.knows c.args.funs.now in
    subst (λ (s : SimSeen). (c.are_served.result ≡ true → IsServed knows (present s)) × (IsServed knows (present s) → c.are_served.result ≡ true)) c.self.view_is
    (serves_all knows (record { world = c.self.inside.booked.world; share = c.self.inside.share; slots = c.self.inside.actors; jobs = c.self.inside.jobs }) c.are_served.result (sym c.if-served_by.ensures) c.are_served.ensures.yes c.are_served.ensures.no)
