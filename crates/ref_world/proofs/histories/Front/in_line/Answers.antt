use Rattle.std.proofs.Common.{subst}
use Rattle.ref_world.specs.History.{Begins, longer, told}
use Rattle.ref_world.proofs.Cut.{told_in_line}
use Rattle.ref_world.proofs.histories.Front.in_line.Goals as goal

pub returns : goal.returns
returns g c =
    let one = told c.self.inside.seen.log in
    subst (λ x. Begins x (longer x c.args.other.now) × Begins c.args.other.now (longer x c.args.other.now)) c.self.view_is
    (subst (λ y. Begins one (longer one y) × Begins y (longer one y)) c.other.view_is
    (told_in_line c.self.inside.seen.log c.other.inside.seen.log c.self.invariant.1 c.other.invariant.1 c.in_line.ensures))
