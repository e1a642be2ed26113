use Rattle.std.proofs.Common.{◌≡◌, ◌∙◌, ◌<◌, ℕ, Err, IfOk, List, Ok, OnOk, Result, Some, ap, length, refl, slice_get, subst, sym}
use Rattle.std.specs.BTreeSet.{keys}
use Rattle.ref_agents.specs.Agents.{change_agent, is_ready_if_here}
use Rattle.ref_agents.specs.Ends.{ending}
use Rattle.ref_log.specs.Guards.{keys_at}
use Rattle.ref_agents.specs.Indexed.{HaveHeads, IndexedSeen, IsEnd, is_sent_at, sent_by_at, with_items}
use Rattle.ref_agents.specs.Marks.{is_set}
use Rattle.ref_agents.specs.declared.agents.Agent.{Agent}
use Rattle.ref_agents.proofs.Changed.{change_is, there}
use Rattle.ref_agents.proofs.Index.{heads_ended, others_marked}
use Rattle.ref_agents.proofs.indexed.IndexedAgents.end.Goals as goal

pub index-requires-clause-heads : goal.index-requires-clause-heads
index-requires-clause-heads c =
    let inside = c.self.inside in
    let items = inside.agents.items in
    let n : ℕ = c.args.g in
    let x = c.index_mut-agent.result.now in
    let here : n < length items = subst (λ (s : IndexedSeen). n < length s.items) (sym c.self.view_is) c.requires in
    let is : slice_get items n ≡ Some x = there items items n x refl here c.index_mut-agent.ensures.value in
    let second = c.sent_by_at-second.ensures ∙ ap (λ l. sent_by_at (slice_get l n) 1) c.deref-2.ensures.value ∙ ap (λ o. sent_by_at o 1) is in
    subst (λ l. HaveHeads l c.add_head.new.heads) (sym c.deref-3.ensures.value)
    (heads_ended c.end-ended.result items inside.heads c.add_head.new.heads n x c.end-ended.new.self c.args.judgement c.args.carries.now is c.end-ended.ensures.ends c.end-ended.ensures.err
    c.in_ok-add_head.ensures.kept (λ point sent. c.in_ok-add_head.ensures.here point (ap (is_sent_at point) second ∙ sent)) c.self.invariant.heads)

pub index-requires-clause-others : goal.index-requires-clause-others
index-requires-clause-others c =
    let inside = c.self.inside in
    let unreleased = keys inside.unreleased in
    subst (λ l. (n : ℕ) → (n ≡ c.args.g → ⊥) → is_set inside.ready n ≡ is_ready_if_here unreleased (slice_get l n)) (sym c.deref-3.ensures.value)
    (others_marked inside.agents.items unreleased inside.ready c.args.g c.end-ended.new.self c.self.invariant.marked)

abbrev seen_as : List Agent → List ℕ → IndexedSeen
seen_as items unreleased = record { items = items; unreleased = unreleased }

on_map : {T E : Type 0} (r : Result T E) (P Q : Type 0) → (P → Q) → OnOk r P → OnOk r Q
on_map (Ok x) P Q f is = f is
on_map (Err e) P Q f is = tt

pub returns-clause-ends : goal.returns-clause-ends
returns-clause-ends c =
    let items = c.self.inside.agents.items in
    let n : ℕ = c.args.g in
    let x = c.index_mut-agent.result.now in
    let here : n < length items = subst (λ (s : IndexedSeen). n < length s.items) (sym c.self.view_is) c.requires in
    let is : slice_get items n ≡ Some x = there items items n x refl here c.index_mut-agent.ensures.value in
    let end = ending c.args.judgement c.args.carries.now in
    on_map c.end-ended.result _ _
    (λ same. ap (with_items (seen_as items (keys c.self.inside.unreleased))) (change_is items n x c.end-ended.new.self end is same) ∙ ap (λ (s : IndexedSeen). with_items s (change_agent s.items n end)) c.self.view_is)
    c.end-ended.ensures.ends

pub returns-clause-answer : goal.returns-clause-answer
returns-clause-answer c =
    let items = c.self.inside.agents.items in
    let n : ℕ = c.args.g in
    let x = c.index_mut-agent.result.now in
    let here : n < length items = subst (λ (s : IndexedSeen). n < length s.items) (sym c.self.view_is) c.requires in
    let is : slice_get items n ≡ Some x = there items items n x refl here c.index_mut-agent.ensures.value in
    let at : slice_get c.args.self.now.items n ≡ Some x = ap (λ (s : IndexedSeen). slice_get s.items n) (sym c.self.view_is) ∙ is in
    subst (λ o. IfOk c.end-ended.result (λ finished. IsEnd n (keys_at c.args.guards.now n) c.args.judgement finished o)) (sym at) c.end-ended.ensures.answer
