use Rattle.std.proofs.Common.{◌≡◌, ◌<◌, length, arith}
use Rattle.std.proofs.lemmas.Result.{err_from_is_err_and}
use Rattle.std.proofs.lemmas.Bool.Decides.{nat_tests}
use Rattle.ref_edn.specs.ReadParts.{series_at}
use Rattle.ref_edn.proofs.WholeTexts.{series_start, series_skip_fails, series_ends, series_fails, series_more}
use Rattle.ref_edn.proofs.reader.series.Goals as goal

pub loop-found-init : goal.loop-found-init
loop-found-init c = rw c.new-found.ensures.items (series_start c.args.text.now)

pub returns-in_err-start : goal.returns-in_err-start
returns-in_err-start c =
    let p = err_from_is_err_and c.from_residual.result c.from_residual.ensures.1 in
    rw (p.1, p.2) (series_skip_fails c.loop-found.found.items c.loop-found.rest.now (series_at c.args.text.now) c.loop-found.invariant c.in_err-start.field-0.0 c.in_err-start.ensures.value)

pub returns-then-is_empty : goal.returns-then-is_empty
returns-then-is_empty c =
    let none : length c.in_ok-start.start.now ≡ 0 = grind (arith, nat_tests) in
    series_ends c.loop-found.found.items c.loop-found.rest.now (series_at c.args.text.now) c.loop-found.invariant c.in_ok-start.start.now c.in_ok-start.ensures.value none

pub returns-in_err-value : goal.returns-in_err-value
returns-in_err-value c =
    let p = err_from_is_err_and c.from_residual-in_err-value.result c.from_residual-in_err-value.ensures.1 in
    let some : 0 < length c.in_ok-start.start.now = grind (arith, nat_tests) in
    rw (p.1, p.2) (series_fails c.loop-found.found.items c.loop-found.rest.now (series_at c.args.text.now) c.loop-found.invariant c.in_ok-start.start.now c.in_err-value.field-0.0 c.in_ok-start.ensures.value some
    c.in_err-value.ensures.value)

pub loop-found-preserved : goal.loop-found-preserved
loop-found-preserved c =
    let some : 0 < length c.in_ok-start.start.now = grind (arith, nat_tests) in
    let shorter : length c.in_ok-value.behind.now < length c.loop-found.rest.now = omega (arith, c.in_ok-start.ensures.shorter, c.in_ok-value.ensures.shorter) in
    rw c.in_ok-push.ensures.items (series_more c.loop-found.found.items c.loop-found.rest.now (series_at c.args.text.now) c.loop-found.invariant c.in_ok-start.start.now c.in_ok-value.value c.in_ok-value.behind.now c.in_ok-start.ensures.value some
    c.in_ok-value.ensures.value shorter)
