use Rattle.std.proofs.Common.{◌≡◌, ◌∙◌, ◌-◌, ◌<◌, ℕ, drop, length, arith, ap, sym}
use Rattle.std.proofs.Math.Seq.{drop-length}
use Rattle.ref_agents.specs.Agents.{without_each, without_send}
use Rattle.ref_agents.specs.Indexed.{with_items}
use Rattle.ref_agents.proofs.SentBack.{without_next}
use Rattle.ref_agents.proofs.indexed.IndexedAgents.take_back.Goals as goal

pub loop-left-init : goal.loop-left-init
loop-left-init g c = record {
  bound = omega arith;
  back = sym (ap (λ l. with_items c.args.self.now (without_each g.T.ToAgent.to l c.args.self.now.items)) (drop-length c.args.sends.now));
}

pub loop-left-preserved : goal.loop-left-preserved
loop-left-preserved g c =
    let old = c.args.self.now in
    let left : ℕ = c.loop-left.left in
    let send = c.index-sends-left.result in
    let here : left - 1 < length c.args.sends.now = omega (arith, c.loop-left-test.true, c.loop-left.invariant.bound) in
    record {
      bound = omega (arith, c.loop-left.invariant.bound);
      back = c.take_last.ensures
          ∙ ap (λ k. with_items c.loop-left.self (without_send c.loop-left.self.items k)) c.agent.ensures
          ∙ ap (λ s. with_items s (without_send s.items (g.T.ToAgent.to send))) c.loop-left.invariant.back
          ∙ ap (λ l. with_items old l) (sym (without_next g.T.ToAgent.to c.args.sends.now left send old.items c.loop-left-test.true here c.index-sends-left.is));
    }

pub returns : goal.returns
returns g c =
    let old = c.args.self.now in
    let none : c.loop-left.left ≡ 0 = omega (arith, c.loop-left-test.false) in
    c.loop-left.invariant.back ∙ ap (λ n. with_items old (without_each g.T.ToAgent.to (drop n c.args.sends.now) old.items)) none
