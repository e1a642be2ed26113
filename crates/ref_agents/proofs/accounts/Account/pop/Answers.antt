use Rattle.std.proofs.Common.{◌≡◌, ◌∙◌, ◌+◌, ◌==◌, ◌&&◌, ℕ, cond, false, length, subst}
use Rattle.ref_agents.specs.Account.{is_carried_by}
use Rattle.ref_agents.specs.Places.{has_pair}
use Rattle.ref_agents.proofs.Placed.{placed_less}
use Rattle.ref_agents.proofs.accounts.Account.pop.Goals as goal

pub invariant_of-self : goal.invariant_of-self
invariant_of-self c =
    let inside = c.self.inside in
    let rest = c.pop_back.new.self.items in
    let queued = c.in-Some.queued in
    let count : c.len.result ≡ length rest = c.len.ensures ∙ c.pop_back.new.self.ok.0 in
    let is = subst (λ k. (g n : ℕ) → has_pair c.forget_place.new.carried g n ≡ cond (is_carried_by g queued.by && (inside.ended + k == n)) false (has_pair inside.carried g n)) count c.forget_place.ensures in (
      c.self.invariant.0,
      c.self.invariant.1,
      placed_less inside.ended inside.carried c.forget_place.new.carried inside.queue.items rest queued c.in-Some.ensures.items is c.self.invariant.2,
    )
