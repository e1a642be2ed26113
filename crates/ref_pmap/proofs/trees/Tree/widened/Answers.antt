use Rattle.std.proofs.Common.{arith}
use Rattle.ref_pmap.proofs.Sides.{two_fork, two_map}
use Rattle.ref_pmap.proofs.Opened.{joined_then}
use Rattle.ref_pmap.proofs.trees.Tree.widened.Goals as goal

pub fork-requires : goal.fork-requires
fork-requires g c = (
  omega arith,
  rw (c.bare-branch.ensures, c.in_ok-branch.ensures, c.in_ok-branch-2.ensures)
      (two_fork c.args.parting.block _ _ _ c.args.key c.args.value c.args.parting.old_within c.args.parting.new_within c.requires.old c.requires.new),
)

pub returns : goal.returns
returns g c = joined_then c.fork.result _ _ c.fork.ensures (rw (c.bare-branch.ensures, c.in_ok-branch.ensures, c.in_ok-branch-2.ensures)
    (two_map c.args.parting.block _ _ _ c.args.key c.args.value c.args.parting.old_within c.args.parting.new_within c.args.parting.apart c.requires.old c.requires.new))
