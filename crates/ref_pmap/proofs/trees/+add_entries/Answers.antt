use Rattle.std.proofs.Common.{◌++◌, sym, ap, ◌∙◌, arith}
use Rattle.std.specs.FinMap.{entries}
use Rattle.std.specs.List.{flat_map}
use Rattle.std.proofs.lemmas.List.{append-nil, take_all}
use Rattle.ref_pmap.specs.Whole.{shown}
use Rattle.ref_pmap.proofs.Rising.{entries_empty, entries_single, entries_all}
use Rattle.ref_pmap.proofs.WholeMaps.{shown_push}
use Rattle.ref_pmap.proofs.Opened.{at_empty, at_leaf, at_fork}
use Rattle.ref_pmap.proofs.trees.+add_entries.Goals as goal

pub returns-in-Empty : goal.returns-in-Empty
returns-in-Empty g t c =
    let out = shown c.args.out.now.items in
    sym (ap (λ es. out ++ es) (ap (λ d. entries d.0) (at_empty c.tree.view_is c.in-Empty.is) ∙ entries_empty) ∙ append-nil out)

pub returns-in_ok-push-in-Leaf : goal.returns-in_ok-push-in-Leaf
returns-in_ok-push-in-Leaf g t c =
    let pushed = rw c.in_ok-push-in-Leaf.was at c.push.ensures.items in
    shown_push _ _ _ _ pushed (ap (λ d. entries d.0) (at_leaf c.tree.view_is c.in-Leaf.is c.deref-entry.ensures) ∙ entries_single _ _)

pub returns-after-loop-side : goal.returns-after-loop-side
returns-after-loop-side g t c =
    let f = at_fork c.tree.view_is c.tree.invariant c.in-Fork.is c.deref-branch.ensures in
    let sides = c.deref-branch.result.now.sides in
    let block = c.deref-branch.result.now.block in
    c.loop-side.invariant
    ∙ ap (λ es. shown c.args.out.now.items ++ es)
    (ap (flat_map (λ d. entries d.0)) (take_all c.loop-side.side-index sides (omega (arith, f.fork.count)))
    ∙ sym (ap (λ d. entries d.0) f.is ∙ entries_all block.shift block.first sides f.fork.apart))
