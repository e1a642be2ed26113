use Rattle.std.proofs.Common.{◌≡◌, ◌∙◌, Some, refl, sym, ap, slice_get}
use Rattle.ref_agents.specs.Account.{number_of}
use Rattle.ref_agents.specs.Agents.{AgentsSeen}
use Rattle.ref_agents.proofs.JobsOut.{is_job, out_here}
use Rattle.ref_agents.proofs.agents.AgentStore.is_out.Goals as goal

pub returns-clause-is : goal.returns-clause-is
returns-clause-is g c =
    let agents = c.args.self.now.agents in
    let job = c.args.job.now in
    let agent = c.in-Some.agent.now in
    let queued = c.in-Some-waiting_at.queued.now in
    let is : slice_get agents job.agent ≡ Some agent =
    ap (λ k. slice_get agents k) (sym c.agent.ensures) ∙ ap (λ (s : AgentsSeen). slice_get s.agents c.agent.result) (sym c.self.view_is) ∙ sym c.in-Some.ensures in
    let first : slice_get agent.account.queue 0 ≡ Some queued = sym c.in-Some-waiting_at.ensures in
    let number : job.number ≡ number_of agent.account = sym c.number.ensures ∙ c.if-number.false ∙ c.number-2.ensures in
    let action : job.action ≡ queued.action = sym c.action.ensures ∙ c.if-not-is_same.ensures.0 refl in
    is_job agents agent queued job c.eq.result (out_here agents job.agent agent queued is c.if-not-agent.false first) number action (rw (sym c.state.ensures) c.eq.ensures)
