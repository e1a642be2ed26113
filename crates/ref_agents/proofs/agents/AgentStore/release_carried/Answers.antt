use Rattle.std.proofs.Common.{◌≡◌, ◌∙◌, ◌<◌, ◌≤◌, ℕ, List, ap, arith, get_or, length, subst, sym, take, true}
use Rattle.std.proofs.lemmas.List.{take_all}
use Rattle.ref_fun.specs.declared.carries.Carry.{Carry}
use Rattle.ref_agents.specs.Agents.{AgentsSeen, carries_at, change_agent, is_carrying_at, releasing, with_agents, with_each_released}
use Rattle.ref_agents.specs.Carried.{AreCarried, held_by, queue_at}
use Rattle.ref_agents.proofs.Carried.{all_freed, same_queue}
use Rattle.ref_agents.proofs.Released.{carries_kept, released_next}
use Rattle.ref_agents.proofs.agents.AgentStore.release_carried.Goals as goal

pub bounds-carries-i : goal.bounds-carries-i
bounds-carries-i g c =
    let old = c.args.self.now in
    let n : ℕ = c.args.g in
    let same : c.carries.result.now ≡ carries_at old.agents n = c.carries.ensures
    ∙ ap (λ l. carries_at l n) (c.as_slice-in-loop-i.ensures ∙ ap (λ s. s.agents) (c.self-in-loop-i.view_is ∙ c.loop-i.invariant.released))
    ∙ carries_kept n n (take c.loop-i.i (carries_at old.agents n)) old.agents in
    subst (λ k. c.loop-i.i < k) (c.loop-i.invariant.all ∙ sym (ap length same)) c.loop-i-test.true

pub bounds-carries-i-in-loop-i : goal.bounds-carries-i-in-loop-i
bounds-carries-i-in-loop-i g c =
    let old = c.args.self.now in
    let n : ℕ = c.args.g in
    let same : c.carries.result.now ≡ carries_at old.agents n = c.carries.ensures
    ∙ ap (λ l. carries_at l n) (c.as_slice-in-loop-i.ensures ∙ ap (λ s. s.agents) (c.self-in-loop-i.view_is ∙ c.loop-i.invariant.released))
    ∙ carries_kept n n (take c.loop-i.i (carries_at old.agents n)) old.agents in
    subst (λ k. c.loop-i.i < k) (c.loop-i.invariant.all ∙ sym (ap length same)) c.loop-i-test.true

pub loop-i-preserved : goal.loop-i-preserved
loop-i-preserved g c =
    let old = c.args.self.now in
    let n : ℕ = c.args.g in
    let all : List Carry = carries_at old.agents n in
    let carry : Carry = c.index-carries-i.result in
    let same : c.carries.result.now ≡ all = c.carries.ensures
    ∙ ap (λ l. carries_at l n) (c.as_slice-in-loop-i.ensures ∙ ap (λ s. s.agents) (c.self-in-loop-i.view_is ∙ c.loop-i.invariant.released))
    ∙ carries_kept n n (take c.loop-i.i all) old.agents in
    let is = c.index-carries-i.is ∙ ap (λ l. get_or l c.loop-i.i carry) same in
    record {
      released = c.release_to.ensures
          ∙ ap (λ x. with_agents c.loop-i.self (change_agent c.loop-i.self.agents x.g (releasing n))) (sym c.index-carries-i.is)
          ∙ ap (λ s. with_agents s (change_agent s.agents carry.g (releasing n))) c.loop-i.invariant.released
          ∙ ap (λ l. with_agents old l) (released_next n all c.loop-i.i carry old.agents (subst (λ k. c.loop-i.i < k) c.loop-i.invariant.all c.loop-i-test.true) is);
      all = c.loop-i.invariant.all;
    }

pub put_down-requires : goal.put_down-requires
put_down-requires g c =
    let old = c.args.self.now in
    let n : ℕ = c.args.g in
    let all : List Carry = carries_at old.agents n in
    let are : AreCarried old.agents = subst (λ (s : AgentsSeen). AreCarried s.agents) c.self.view_is c.self.invariant.1 in
    let on : is_carrying_at old.agents n ≡ true = sym (c.is_carrying.ensures ∙ ap (λ l. is_carrying_at l n) (c.as_slice.ensures ∙ ap (λ (s : AgentsSeen). s.agents) c.self.view_is)) ∙ c.if-not-is_carrying.false in
    let end : length all ≤ c.loop-i.i = omega (arith, c.loop-i.invariant.all, c.loop-i-test.false) in
    let freed : (h : ℕ) → held_by n (queue_at c.loop-i.self.agents h) ≡ 0 = λ h. ap (λ (s : AgentsSeen). held_by n (queue_at s.agents h)) c.loop-i.invariant.released
    ∙ ap (λ l. held_by n (queue_at (with_each_released n l old.agents) h)) (take_all c.loop-i.i all end) ∙ all_freed old.agents n are on h in
    freed

pub returns-clause-free : goal.returns-clause-free
returns-clause-free g c h =
    let old = c.args.self.now in
    let n : ℕ = c.args.g in
    let all : List Carry = carries_at old.agents n in
    let are : AreCarried old.agents = subst (λ (s : AgentsSeen). AreCarried s.agents) c.self.view_is c.self.invariant.1 in
    let on : is_carrying_at old.agents n ≡ true = sym (c.is_carrying.ensures ∙ ap (λ l. is_carrying_at l n) (c.as_slice.ensures ∙ ap (λ (s : AgentsSeen). s.agents) c.self.view_is)) ∙ c.if-not-is_carrying.false in
    let end : length all ≤ c.loop-i.i = omega (arith, c.loop-i.invariant.all, c.loop-i-test.false) in
    let freed : (h : ℕ) → held_by n (queue_at c.loop-i.self.agents h) ≡ 0 = λ h. ap (λ (s : AgentsSeen). held_by n (queue_at s.agents h)) c.loop-i.invariant.released
    ∙ ap (λ l. held_by n (queue_at (with_each_released n l old.agents) h)) (take_all c.loop-i.i all end) ∙ all_freed old.agents n are on h in
    ap (λ (s : AgentsSeen). held_by n (queue_at s.agents h)) c.put_down.ensures ∙ ap (held_by n) (same_queue c.loop-i.self.agents n h) ∙ freed h
