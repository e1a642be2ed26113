use Rattle.std.proofs.Common.{rules, subst, sym}
use Rattle.ref_world.specs.History.{Begins}
use Rattle.ref_world.proofs.histories.Front.learn.Goals as goal

pub returns-then-self-other-clause-known : goal.returns-then-self-other-clause-known
returns-then-self-other-clause-known g c = subst (λ h. Begins c.args.self.now h × Begins c.args.other h) (sym (search rules)) c.in_line.ensures

pub returns-else-self-other-clause-known : goal.returns-else-self-other-clause-known
returns-else-self-other-clause-known g c = subst (λ h. Begins c.args.self.now h × Begins c.args.other h) (sym (search rules)) c.in_line.ensures
