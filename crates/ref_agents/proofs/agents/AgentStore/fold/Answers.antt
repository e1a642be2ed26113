use Rattle.std.proofs.Common.{◌∙◌, ap, sym}
use Rattle.ref_agents.specs.Agents.{can_fold_at}
use Rattle.ref_agents.proofs.Folded.{not_folded}
use Rattle.ref_agents.proofs.agents.AgentStore.fold.Goals as goal

pub returns-then-not-can_fold-clause-folds : goal.returns-then-not-can_fold-clause-folds
returns-then-not-can_fold-clause-folds g c =
    let old = c.args.self.now in
    let same = c.as_slice.ensures ∙ ap (λ s. s.agents) c.self.view_is in
    sym (not_folded old c.args.g (ap (λ l. can_fold_at l c.args.g) (sym same) ∙ sym c.can_fold.ensures ∙ c.if-not-can_fold.true))
