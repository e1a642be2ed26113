use Rattle.std.proofs.Common.{rules, arith, ◌≡◌, ◌≤◌, ◌+◌, length, take, drop, subst, sym}
use Rattle.ref_value.specs.Moves.{run_of}
use Rattle.ref_value.proofs.Passing.{run_behind}
use Rattle.ref_value.proofs.Pieces.{run_below}
use Rattle.ref_value.proofs.sequence.walks.Walk.pass_same.Goals as goal

pub invariant_of-self : goal.invariant_of-self
invariant_of-self c =
    let n = c.same_first-n.result in
    let all = c.self.inside.tree.now.0 in
    let run = run_of c.self.inside.run in
    let left = run_of c.behind-self-inside.result in
    let short = run_below run all c.self.inside.at c.self.invariant.2 in
    let inside : c.self.inside.at + n ≤ c.self.inside.end = omega (arith, short, c.self.invariant, c.same_first-n.ensures.there) in
    let rest = run_behind run left all c.self.inside.at n c.self.invariant.2 c.behind-self-inside.ensures in
    let is : c.in-Some.at ≡ c.self.inside.at + n = search rules in
    subst (λ at. (at ≤ c.self.inside.end) × (c.self.inside.end ≡ length all) × (left ≡ take (length left) (drop at all))) (sym is) (inside, c.self.invariant.1, rest)

pub invariant_of-other : goal.invariant_of-other
invariant_of-other c =
    let n = c.same_first-n.result in
    let all = c.other.inside.tree.now.0 in
    let run = run_of c.other.inside.run in
    let left = run_of c.behind-other-inside.result in
    let short = run_below run all c.other.inside.at c.other.invariant.2 in
    let inside : c.other.inside.at + n ≤ c.other.inside.end = omega (arith, short, c.other.invariant, c.same_first-n.ensures.there) in
    let rest = run_behind run left all c.other.inside.at n c.other.invariant.2 c.behind-other-inside.ensures in
    let is : c.in-Some-checked_add.other_at ≡ c.other.inside.at + n = search rules in
    subst (λ at. (at ≤ c.other.inside.end) × (c.other.inside.end ≡ length all) × (left ≡ take (length left) (drop at all))) (sym is) (inside, c.other.invariant.1, rest)
