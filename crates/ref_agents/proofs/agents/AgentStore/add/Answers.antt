use Rattle.std.proofs.Common.{◌≡◌, ◌∙◌, ◌∷◌, ◌++◌, [], ◌<◌, ◌^◌, length, ap, sym, subst, refl}
use Rattle.ref_log.specs.Guards.{AreAccepted, with_guard}
use Rattle.ref_agents.specs.Account.{AccountSeen}
use Rattle.ref_agents.specs.Agents.{AgentsSeen, IsAgent, IsStore, values_of}
use Rattle.ref_agents.specs.Make.{new_agent}
use Rattle.ref_agents.specs.declared.agents.Agent.{Agent}
use Rattle.ref_agents.proofs.Carried.{Stands, carried_made}
use Rattle.ref_agents.proofs.Changed.{as_many, store_more}
use Rattle.ref_agents.proofs.SentBack.{on_ok}
use Rattle.ref_agents.proofs.agents.AgentStore.add.Goals as goal

pub invariant_of-self-else-is_err : goal.invariant_of-self-else-is_err
invariant_of-self-else-is_err g c =
    let means = g.M.Meaning.means in
    let accepts = g.M.Meaning.accepts in
    let items = c.self.inside.agents.items in
    let guards = c.self.inside.guards in
    let start = c.args.start in
    let new : Agent = record (new_agent c.in_ok-value.value c.args.mode) { account = c.new.result } in
    let ok : IsAgent means new = record { folded = rw (c.new.ensures, c.in_ok-value.ensures) refl; marked = rw c.new.ensures refl; single = refl; idle = refl } in
    let room : length items < 2 ^ 20 = subst (λ n. n < 2 ^ 20) (ap (λ (s : AgentsSeen). length s.agents) (sym c.self.view_is)) c.requires.room in
    let test = sym c.is_err.ensures.value ∙ c.if-is_err.false in
    let guarded : c.add.new.self ≡ with_guard guards c.args.rule = on_ok c.add.result _ c.add.ensures.adds test in
    let accepted : AreAccepted accepts c.add.new.self (values_of items ++ start ∷ []) =
    on_ok c.add.result _ c.add.ensures.accepted test accepts (values_of items) start (as_many items ∙ sym c.self.invariant.0.1) c.requires.accepted c.self.invariant.0.2 in
    let same : AreAccepted accepts (with_guard guards c.args.rule) (values_of items ++ new.value ∷ []) =
    subst (λ l. AreAccepted accepts l (values_of items ++ new.value ∷ [])) guarded (subst (λ v. AreAccepted accepts c.add.new.self (values_of items ++ v ∷ [])) (sym c.in_ok-value.ensures) accepted) in
    subst (Stands means accepts c.add.new.self) (sym c.in_ok-push.ensures.ok) (
      subst (IsStore means accepts (items ++ new ∷ [])) (sym guarded) (store_more means accepts items guards c.args.rule new ok same room c.self.invariant.0),
      carried_made items new refl (ap (λ (a : AccountSeen). a.queue) c.new.ensures) c.self.invariant.1,
      c.self.invariant.2,
    )
