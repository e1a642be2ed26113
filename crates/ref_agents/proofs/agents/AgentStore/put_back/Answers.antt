use Rattle.std.proofs.Common.{◌∙◌, sym, ap, slice_get}
use Rattle.ref_agents.proofs.JobsOut.{out_fine, out_idle}
use Rattle.ref_agents.proofs.agents.AgentStore.put_back.Goals as goal

pub set_out-requires-clause-fine : goal.set_out-requires-clause-fine
set_out-requires-clause-fine g c = λ x is.
    let agents = c.args.self.now.agents in
    out_fine g.M.Meaning.means agents c.args.job.agent c.args.job x c.is_out.ensures.agents (c.is_out.ensures.is.0 c.if-not-is_out.false)
    (ap (λ k. slice_get agents k) (sym c.agent.ensures) ∙ is)

pub set_out-requires-clause-idle : goal.set_out-requires-clause-idle
set_out-requires-clause-idle g c = λ x is.
    let agents = c.args.self.now.agents in
    out_idle g.M.Meaning.means agents c.args.job.agent c.args.job x c.is_out.ensures.agents (c.is_out.ensures.is.0 c.if-not-is_out.false)
    (ap (λ k. slice_get agents k) (sym c.agent.ensures) ∙ is)
