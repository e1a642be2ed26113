use Rattle.std.proofs.Common.{sym, arith}
use Rattle.std.specs.Ordering.{nat_cmp}
use Rattle.std.specs.FinMap.{empty, get-empty}
use Rattle.ref_pmap.proofs.Removals.{gone_already, gone_single, gone_other}
use Rattle.ref_pmap.proofs.Sides.{gone_fork}
use Rattle.ref_pmap.proofs.Opened.{at_fork, at_leaf, at_empty, gone_outside, gone_in, joined_then, map_then}
use Rattle.ref_pmap.proofs.trees.Tree.+without.Goals as goal

pub returns-in_default : goal.returns-in_default
returns-in_default g t c =
    let f = at_fork c.self.view_is c.self.invariant c.in-Fork.is c.deref-branch.ensures in
    joined_then c.share-in_default.result _ _ c.share-in_default.ensures (gone_outside f c.args.key c.in_default.ensures)

pub into_tree-requires : goal.into_tree-requires
into_tree-requires g t c =
    let f = at_fork c.self.view_is c.self.invariant c.in-Fork.is c.deref-branch.ensures in
    let here = c.in-Some.ensures in
    (omega arith, rw c.in_ok-copy-in-Fork.ensures (gone_fork _ _ c.in-Some.side c.args.key c.in_ok-rest-in-Fork.rest _ f.fork here.0 c.in_ok-rest-in-Fork.ensures))

pub returns-in-Empty : goal.returns-in-Empty
returns-in-Empty g t c = rw (c.empty.ensures, at_empty c.self.view_is c.in-Empty.is) (gone_already empty c.args.key (get-empty nat_cmp c.args.key))

pub returns-then-deref-key : goal.returns-then-deref-key
returns-then-deref-key g t c = rw (c.empty-then-deref-key.ensures, at_leaf c.self.view_is c.in-Leaf.is c.deref.ensures, c.if-deref-key.true) (sym (gone_single c.args.key _))

pub returns-else-deref-key : goal.returns-else-deref-key
returns-else-deref-key g t c = joined_then c.share.result _ _ c.share.ensures (rw (at_leaf c.self.view_is c.in-Leaf.is c.deref.ensures) (gone_other _ c.args.key _ c.if-deref-key.false))

pub returns-in_ok-copy-in-Fork : goal.returns-in_ok-copy-in-Fork
returns-in_ok-copy-in-Fork g t c =
    let f = at_fork c.self.view_is c.self.invariant c.in-Fork.is c.deref-branch.ensures in
    let here = c.in-Some.ensures in
    map_then c.into_tree.result _ _ c.into_tree.ensures (rw c.in_ok-copy-in-Fork.ensures (gone_in f c.in-Some.side c.args.key c.in_ok-rest-in-Fork.rest _ here.0 here.1 c.in_ok-rest-in-Fork.ensures))
