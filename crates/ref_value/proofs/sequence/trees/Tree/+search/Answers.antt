use Rattle.std.proofs.Common.{◌≡◌, ◌+◌, ◌++◌, max, ap, sym, ◌∙◌, arith, rules, true, false}
use Rattle.ref_value.specs.Edn.{entries_of, entries_depth}
use Rattle.ref_value.specs.Most.{depth_both}
use Rattle.ref_value.specs.Sides.{are_behind}
use Rattle.ref_value.proofs.Searched.{left_ascends, right_ascends, left_all_missed, found_right, missed_right}
use Rattle.ref_value.proofs.sequence.trees.Tree.+search.Goals as goal

pub search-requires : goal.search-requires
search-requires t c =
    let l = c.in-Fork.left in
    let r = c.in-Fork.right in
    let same : l.0 ++ r.0 ≡ c.args.self.now.0 = search rules in
    let high : c.args.self.now.1 ≡ max l.1 r.1 + 1 = search rules in
    let deep = ap (λ es. entries_depth (entries_of es)) (sym same) ∙ depth_both l.0 r.0 in
    (omega (arith, high, deep), left_ascends l.0 r.0 (rw same c.requires))

pub search-requires-in-Fork : goal.search-requires-in-Fork
search-requires-in-Fork t c =
    let l = c.in-Fork.left in
    let r = c.in-Fork.right in
    let same : l.0 ++ r.0 ≡ c.args.self.now.0 = search rules in
    let high : c.args.self.now.1 ≡ max l.1 r.1 + 1 = search rules in
    let deep = ap (λ es. entries_depth (entries_of es)) (sym same) ∙ depth_both l.0 r.0 in
    (omega (arith, high, deep), right_ascends l.0 r.0 (rw same c.requires))

pub returns-then-is_behind-clause-absent : goal.returns-then-is_behind-clause-absent
returns-then-is_behind-clause-absent t c =
    let l = c.in-Fork.left in
    let r = c.in-Fork.right in
    let same : l.0 ++ r.0 ≡ c.args.self.now.0 = search rules in
    let behind : are_behind r.0 c.args.key.now ≡ true = search rules in
    rw same at (left_all_missed l.0 r.0 c.args.key.now c.search.result (rw same c.requires) behind c.search.ensures.absent)

pub returns-in-Ok-clause-found : goal.returns-in-Ok-clause-found
returns-in-Ok-clause-found t c =
    let l = c.in-Fork.left in
    let r = c.in-Fork.right in
    let same : l.0 ++ r.0 ≡ c.args.self.now.0 = search rules in
    rw c.len-before.ensures (rw same at (found_right l.0 r.0 c.args.key.now c.in-Ok.i c.in-Ok.ensures.found))

pub returns-in-Err-clause-absent : goal.returns-in-Err-clause-absent
returns-in-Err-clause-absent t c =
    let l = c.in-Fork.left in
    let r = c.in-Fork.right in
    let same : l.0 ++ r.0 ≡ c.args.self.now.0 = search rules in
    let reached : are_behind r.0 c.args.key.now ≡ false = search rules in
    rw c.len-before.ensures (rw same at (missed_right l.0 r.0 c.args.key.now c.in-Err.i (rw same c.requires) reached c.in-Err.ensures.absent))
