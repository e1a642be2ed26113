use Rattle.std.proofs.Common.{◌≡◌, ◌≤◌, ◌<◌, sym, ◌∙◌, ap, Some, length, arith}
use Rattle.ref_verdict.proofs.Differences.{difference_behind}
use Rattle.ref_verdict.proofs.verdicts.values.first_difference.Goals as goal

pub returns-then-now-replayed : goal.returns-then-now-replayed
returns-then-now-replayed c =
    let past : length c.args.now.now ≤ c.loop-n.n = omega arith in
    let is : c.loop-n.n ≡ length c.args.now.now = omega arith in
    let below : c.loop-n.n < length c.args.replayed.now = omega arith in
    ap Some (sym is) ∙ sym (difference_behind c.args.now.now c.args.replayed.now c.loop-n.n past below) ∙ c.loop-n.invariant
