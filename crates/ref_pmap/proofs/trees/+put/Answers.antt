use Rattle.std.proofs.Common.{◌≡◌, None, Ok, refl, sym, ap, ◌∙◌, subst}
use Rattle.std.specs.declared.alloc.AllocError.{AllocError}
use Rattle.std.specs.FinMap.{get, insert}
use Rattle.ref_pmap.specs.Trees.{all_joined}
use Rattle.ref_pmap.proofs.HighBits.{whole}
use Rattle.ref_pmap.proofs.Joins.{single_none}
use Rattle.ref_pmap.proofs.Sides.{none_here}
use Rattle.ref_pmap.proofs.Opened.{at_fork, at_leaf, put_leaf, put_branch_fork, put_branch_map, kept}
use Rattle.ref_pmap.proofs.trees.+put.Goals as goal

pub Tree::put-widened-requires-clause-old : goal.Tree::put-widened-requires-clause-old
Tree::put-widened-requires-clause-old g t c = λ q away. single_none _ _ q (λ e. away (c.parting_of-parting.ensures.old q (whole q ∙ e ∙ ap (λ x. x.key) (sym c.deref.ensures))))

pub Tree::put-returns-in_err-self-inside-in-Leaf-clause-err : goal.Tree::put-returns-in_err-self-inside-in-Leaf-clause-err
Tree::put-returns-in_err-self-inside-in-Leaf-clause-err g t c = kept c.from_residual-in_err-self-inside-in-Leaf.result (sym (at_leaf c.self.view_is c.in-Leaf.is refl))

pub Tree::put-returns-then-old-key-clause-ok : goal.Tree::put-returns-then-old-key-clause-ok
Tree::put-returns-then-old-key-clause-ok g t c =
    ap (λ d. d.0) c.branch-then-old-key.view_is ∙ c.in_ok-self-inside-in-Leaf.ensures ∙ ap (λ d. insert d.0 c.args.key c.args.value) (sym (at_leaf c.self.view_is c.in-Leaf.is refl))

pub Tree::put-widened-requires-in_default-clause-old : goal.Tree::put-widened-requires-in_default-clause-old
Tree::put-widened-requires-in_default-clause-old g t c = λ q away.
    let f = at_fork c.self.view_is c.self.invariant c.in-Fork.is c.deref-in-Fork.ensures in
    subst (λ x. get (all_joined x.sides) q ≡ None) c.deref-in-Fork.ensures (none_here _ _ f.fork q (λ i low at. away (c.parting_from-parting.ensures.old q i low at)))

pub Tree::put-returns-in_ok-put_value-in-Leaf-clause-ok : goal.Tree::put-returns-in_ok-put_value-in-Leaf-clause-ok
Tree::put-returns-in_ok-put_value-in-Leaf-clause-ok g t c =
    put_leaf _ c.args.key c.args.value c.self.view_is c.in-Leaf.is c.in_ok-put_value-in-Leaf.ensures.ok (ap (λ x. x.key) (sym c.deref.ensures) ∙ c.if-old-key.false)

pub put_in_side-returns-in-Some-clause-fork : goal.put_in_side-returns-in-Some-clause-fork
put_in_side-returns-in-Some-clause-fork g t c =
    put_branch_fork _ _ c.args.side c.args.key c.args.value _ _ c.put.result c.in-Some.ensures.value c.requires.fork c.requires.within c.requires.place c.put.ensures.ok c.put.ensures.err

pub put_in_side-returns-in-Some-clause-ok : goal.put_in_side-returns-in-Some-clause-ok
put_in_side-returns-in-Some-clause-ok g t c =
    put_branch_map _ _ c.args.side c.args.key c.args.value _ _ c.put.result c.in-Some.ensures.value c.requires.fork c.requires.within c.requires.place c.put.ensures.ok

pub put_in_copy-returns-clause-fork : goal.put_in_copy-returns-clause-fork
put_in_copy-returns-clause-fork g t c = rw c.in_ok-copy-2.ensures.ok
    (put_branch_fork _ _ c.args.side c.args.key c.args.value _ _ c.put.result c.in_ok-copy.ensures c.requires.fork c.requires.within c.requires.place c.put.ensures.ok c.put.ensures.err)

pub put_in_copy-returns-clause-ok : goal.put_in_copy-returns-clause-ok
put_in_copy-returns-clause-ok g t c = rw c.in_ok-copy-2.ensures.ok
    (put_branch_map {E = AllocError} _ _ c.args.side c.args.key c.args.value _ _ (Ok c.in_ok-put.field-0) c.in_ok-copy.ensures c.requires.fork c.requires.within c.requires.place c.in_ok-put.ensures.ok)
