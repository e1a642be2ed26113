use Rattle.std.proofs.Common.{◌≡◌, ◌<◌, sym, ◌∙◌, ap, not, length, arith}
use Rattle.ref_fun.specs.Core.{core_means}
use Rattle.ref_verdict.specs.Verdict.{is_value}
use Rattle.ref_verdict.proofs.Folds.{refused_at}
use Rattle.ref_verdict.proofs.verdicts.folds.breaks_fold.Goals as goal

pub returns-in-Err-Refused : goal.returns-in-Err-Refused
returns-in-Err-Refused g c =
    let agent = c.args.agent.now in
    let items = c.as_slice-handled-items.result.now in
    let same : items ≡ agent.handled = c.as_slice-handled-items.ensures in
    let within : c.loop-handled.handled-index < length items = omega arith in
    let refuses = rw c.in-Err-Refused.field-0-is at c.in-Err-Refused.ensures in
    let here = refused_at core_means items c.loop-handled.handled-index c.handled-item.result c.loop-handled.state c.in-Err-Refused.field-0-0 within c.handled-item.is refuses in
    let whole = sym c.loop-handled.invariant ∙ (rw same at here) in
    sym (ap (λ r. not (is_value agent.value r)) whole)
