use Rattle.std.proofs.Common.{◌≡◌, ◌∙◌, ◌+◌, ◌==◌, ◌&&◌, ◌||◌, ◌++◌, ◌∷◌, [], ℕ, ap, length, subst, sym}
use Rattle.ref_agents.specs.Account.{is_carried_by}
use Rattle.ref_agents.specs.Places.{ArePlaced, has_pair}
use Rattle.ref_agents.proofs.Placed.{placed_more}
use Rattle.ref_agents.proofs.accounts.Account.push.Goals as goal

pub invariant_of-self-2 : goal.invariant_of-self-2
invariant_of-self-2 c =
    let inside = c.self.inside in
    let queue = inside.queue.items in
    let queued = c.args.queued in
    let count : c.len.result ≡ length queue = c.len.ensures ∙ c.reserve.new.self.ok.0 ∙ ap length c.reserve.ensures.items in
    let is = subst (λ k. (g n : ℕ) → has_pair c.add_place.new.carried g n ≡ ((is_carried_by g queued.by && (inside.ended + k == n)) || has_pair inside.carried g n)) count c.in_ok-add_place.ensures.ok in
    let items = c.push_back_reserved.ensures.items ∙ ap (λ l. l ++ queued ∷ []) c.reserve.ensures.items in (
      c.self.invariant.0,
      c.self.invariant.1,
      subst (λ l. ArePlaced l inside.ended c.add_place.new.carried) (sym items) (placed_more inside.ended inside.carried c.add_place.new.carried queue queued is c.self.invariant.2),
    )
