use Rattle.std.proofs.Common.{◌≡◌, ◌∙◌, ◌<◌, ℕ, Some, ap, length, slice_get, subst, sym}
use Rattle.ref_fun.specs.declared.actions.Action.{Action}
use Rattle.ref_fun.specs.declared.carries.Carry.{Carry}
use Rattle.ref_log.specs.Guards.{keys_at, rule_at}
use Rattle.ref_agents.specs.Agents.{AgentsSeen, carried, change_agent, job_out, with_agents, with_carries, without_each}
use Rattle.ref_agents.specs.Ends.{IsAnswerOf, ending, goes_out, judged}
use Rattle.ref_agents.specs.Indexed.{IndexedSeen, IsEnd, with_items}
use Rattle.ref_agents.specs.Jobs.{JobSeen}
use Rattle.ref_agents.specs.declared.accounts.SentBy.TheVariants.{Carried}
use Rattle.ref_agents.proofs.Carried.{Stands}
use Rattle.ref_agents.proofs.Changed.{seen}
use Rattle.ref_agents.proofs.Ended.{answer_each, answered, out_each}
use Rattle.ref_agents.proofs.Finishes.{here_out, stands_end}
use Rattle.ref_agents.proofs.SentBack.{each_undone}
use Rattle.ref_agents.proofs.agents.AgentStore.end.Goals as goal

pub end-requires : goal.end-requires
end-requires g c =
    let inside = c.self.inside.agents in
    let items = inside.items in
    let guards = c.self.inside.guards in
    let ran = c.args.ran.now in
    let job = ran.job in
    let i : ℕ = c.agent-g.result in
    let went = c.goes_out-carries.result.now in
    let at : i ≡ job.agent = c.agent-g.ensures ∙ ap (λ (j : JobSeen). j.agent) c.job.ensures in
    let out : job_out items job.agent ≡ Some job = ap (λ (s : AgentsSeen). job_out s.agents job.agent) c.self.view_is ∙ c.requires.out in
    let still : job_out c.queue_all.new.self.items job.agent ≡ Some job = ap (λ (s : IndexedSeen). job_out s.items job.agent) c.in_ok-queue_all.ensures.ok
    ∙ out_each (λ (x : Carry). x.g) carried (Carried i) went items job.agent job out in
    subst (λ n. n < length c.queue_all.new.self.items) (sym at) (here_out c.queue_all.new.self.items job.agent job still)

pub invariant_of-self-in-Ok : goal.invariant_of-self-in-Ok
invariant_of-self-in-Ok g c =
    let inside = c.self.inside.agents in
    let items = inside.items in
    let guards = c.self.inside.guards in
    let ran = c.args.ran.now in
    let job = ran.job in
    let i : ℕ = c.agent-g.result in
    let went = c.goes_out-carries.result.now in
    let at : i ≡ job.agent = c.agent-g.ensures ∙ ap (λ (j : JobSeen). j.agent) c.job.ensures in
    let out : job_out items job.agent ≡ Some job = ap (λ (s : AgentsSeen). job_out s.agents job.agent) c.self.view_is ∙ c.requires.out in
    let accepts = g.M.Meaning.accepts in
    let judgement = c.in_ok-judgement.judgement in
    let carries = c.as_slice.result.now in
    let went_is : went ≡ goes_out judgement job.action.carries = c.goes_out-carries.ensures
    ∙ ap (λ (a : Action). goes_out judgement a.carries) (c.action.ensures ∙ ap (λ (j : JobSeen). j.action) c.job-2.ensures) in
    let carries_is : carries ≡ job.action.carries = c.as_slice.ensures.value ∙ ap (λ (a : Action). a.carries) (c.action-action.ensures ∙ ap (λ (j : JobSeen). j.action) c.job-3.ensures) in
    let is_judged : judgement ≡ judged accepts (rule_at guards i) ran.outcome = c.in_ok-judgement.ensures.is ∙ ap (judged accepts (rule_at guards i)) c.outcome.ensures.value in
    subst (Stands g.M.Meaning.means accepts guards)
    (sym (c.in-Ok.ensures.ends ∙ ap (λ (s : IndexedSeen). with_items s (change_agent s.items i (ending judgement carries))) c.in_ok-queue_all.ensures.ok))
    (stands_end g.M.Meaning.means accepts guards inside job ran.outcome judgement i went carries at went_is carries_is out is_judged c.outcome.ensures.meant c.in_ok-judgement.ensures.accepted c.self.invariant)

pub invariant_of-self-in-Err-end : goal.invariant_of-self-in-Err-end
invariant_of-self-in-Err-end g c =
    let inside = c.self.inside.agents in
    let items = inside.items in
    let guards = c.self.inside.guards in
    let ran = c.args.ran.now in
    let job = ran.job in
    let i : ℕ = c.agent-g.result in
    let went = c.goes_out-carries.result.now in
    let at : i ≡ job.agent = c.agent-g.ensures ∙ ap (λ (j : JobSeen). j.agent) c.job.ensures in
    let out : job_out items job.agent ≡ Some job = ap (λ (s : AgentsSeen). job_out s.agents job.agent) c.self.view_is ∙ c.requires.out in
    let undone : c.take_back.new.self ≡ inside = c.take_back.ensures
    ∙ ap (λ (s : IndexedSeen). with_items s (without_each (λ (x : Carry). x.g) went s.items)) (c.in-Err-end.ensures.err ∙ c.in_ok-queue_all.ensures.ok)
    ∙ ap (with_items inside) (each_undone (λ (x : Carry). x.g) carried (Carried i) went items) in
    subst (Stands g.M.Meaning.means g.M.Meaning.accepts guards) (sym undone) c.self.invariant

pub returns-in-Ok-clause-answer : goal.returns-in-Ok-clause-answer
returns-in-Ok-clause-answer g c =
    let inside = c.self.inside.agents in
    let items = inside.items in
    let guards = c.self.inside.guards in
    let ran = c.args.ran.now in
    let job = ran.job in
    let i : ℕ = c.agent-g.result in
    let went = c.goes_out-carries.result.now in
    let at : i ≡ job.agent = c.agent-g.ensures ∙ ap (λ (j : JobSeen). j.agent) c.job.ensures in
    let out : job_out items job.agent ≡ Some job = ap (λ (s : AgentsSeen). job_out s.agents job.agent) c.self.view_is ∙ c.requires.out in
    let accepts = g.M.Meaning.accepts in
    let judgement = c.in_ok-judgement.judgement in
    let finished = c.in-Ok.finished in
    let mid = with_carries i went items in
    let old : AgentsSeen = seen items guards inside.unreleased in
    let is_judged = c.in_ok-judgement.ensures.is ∙ ap (judged accepts (rule_at guards i)) c.outcome.ensures.value in
    let told : IsEnd i (keys_at guards i) judgement finished (slice_get mid job.agent) = subst (λ n. IsEnd i (keys_at guards i) judgement finished (slice_get mid n)) at
    (subst (λ (s : IndexedSeen). IsEnd i (keys_at guards i) judgement finished (slice_get s.items i)) c.in_ok-queue_all.ensures.ok c.in-Ok.ensures.answer) in
    let answer = answered accepts (with_agents old mid) ran i judgement finished at (subst (λ n. judgement ≡ judged accepts (rule_at guards n) ran.outcome) at is_judged) told in
    subst (λ (s : AgentsSeen). IsAnswerOf accepts s ran finished) c.self.view_is (answer_each (λ (x : Carry). x.g) carried (Carried i) accepts old ran finished went answer)

pub returns-in-Err-end-clause-err : goal.returns-in-Err-end-clause-err
returns-in-Err-end-clause-err g c =
    let inside = c.self.inside.agents in
    let items = inside.items in
    let guards = c.self.inside.guards in
    let ran = c.args.ran.now in
    let job = ran.job in
    let i : ℕ = c.agent-g.result in
    let went = c.goes_out-carries.result.now in
    let at : i ≡ job.agent = c.agent-g.ensures ∙ ap (λ (j : JobSeen). j.agent) c.job.ensures in
    let out : job_out items job.agent ≡ Some job = ap (λ (s : AgentsSeen). job_out s.agents job.agent) c.self.view_is ∙ c.requires.out in
    let undone : c.take_back.new.self ≡ inside = c.take_back.ensures
    ∙ ap (λ (s : IndexedSeen). with_items s (without_each (λ (x : Carry). x.g) went s.items)) (c.in-Err-end.ensures.err ∙ c.in_ok-queue_all.ensures.ok)
    ∙ ap (with_items inside) (each_undone (λ (x : Carry). x.g) carried (Carried i) went items) in
    ap (λ (s : IndexedSeen). seen s.items guards s.unreleased) undone ∙ c.self.view_is
