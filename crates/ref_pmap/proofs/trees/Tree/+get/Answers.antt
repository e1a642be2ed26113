use Rattle.std.proofs.Common.{sym, ap, ◌∙◌}
use Rattle.std.specs.Ordering.{nat_cmp}
use Rattle.std.specs.FinMap.{get, get-empty}
use Rattle.ref_pmap.specs.Nodes.{tree_of}
use Rattle.ref_pmap.proofs.Opened.{at_fork, get_in}
use Rattle.ref_pmap.proofs.trees.Tree.+get.Goals as goal

pub returns-in-Empty : goal.returns-in-Empty
returns-in-Empty g t c = sym (ap (λ d. get d.0 c.args.key) (sym c.self.view_is ∙ ap tree_of c.in-Empty.is) ∙ get-empty nat_cmp c.args.key)

pub returns-in-Some : goal.returns-in-Some
returns-in-Some g t c =
    let f = at_fork c.self.view_is c.self.invariant c.in-Fork.is c.deref-branch.ensures in
    let here = c.in-Some.ensures in
    c.get.ensures ∙ get_in f c.in-Some.side c.args.key _ here.0 here.1
