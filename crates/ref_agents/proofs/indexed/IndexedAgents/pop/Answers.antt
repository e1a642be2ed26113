use Rattle.std.proofs.Common.{◌≡◌, ◌-◌, ℕ, arith, length, subst, sym, take, vec_len}
use Rattle.std.specs.BTreeSet.{keys}
use Rattle.ref_agents.specs.Indexed.{AreMarked, HaveHeads}
use Rattle.ref_agents.proofs.Index.{heads_less, marked_less}
use Rattle.ref_agents.proofs.indexed.IndexedAgents.pop.Goals as goal

pub invariant_of-self : goal.invariant_of-self
invariant_of-self c =
    let inside = c.self.inside in
    let items = inside.agents.items in
    let unreleased = keys inside.unreleased in
    let n : ℕ = vec_len inside.agents - 1 in
    let m : ℕ = length inside.ready - 1 in
    let same : n ≡ m = omega (arith, inside.agents.ok.0, c.self.invariant.marked.0) in
    record {
      marked = subst (λ l. AreMarked l unreleased c.pop-2.new.self) (sym c.pop.ensures.rest)
          (subst (AreMarked (take n items) unreleased) (sym c.pop-2.ensures) (marked_less items unreleased inside.ready n m same c.self.invariant.marked));
      heads = subst (λ l. HaveHeads l inside.heads) (sym c.pop.ensures.rest) (heads_less items inside.heads n c.self.invariant.heads);
    }
