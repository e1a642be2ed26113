use Rattle.std.proofs.Common.{subst, sym}
use Rattle.std.specs.BTreeMap.{is_at}
use Rattle.std.specs.Ordering.{nat_cmp}
use Rattle.ref_agents.proofs.Carried.{Stands}
use Rattle.ref_agents.proofs.Rising.{remove_rises}
use Rattle.ref_agents.proofs.agents.AgentStore.release.Goals as goal

pub invariant_of-self : goal.invariant_of-self
invariant_of-self g c =
    subst (Stands g.M.Meaning.means g.M.Meaning.accepts c.self.inside.guards) (sym c.release.ensures.releases) (
      c.self.invariant.0,
      c.self.invariant.1,
      remove_rises (is_at (nat_cmp c.args.point)) c.self.inside.agents.unreleased c.self.invariant.2,
    )
