use Rattle.std.proofs.Common.{◌≡◌, ◌+◌, ap, arith, drop, suc, sym, ◌∙◌}
use Rattle.ref_refs.specs.Seen.{are_unchanged_since}
use Rattle.ref_refs.proofs.Since.{since_all, since_next}
use Rattle.ref_refs.proofs.checking.are_unchanged_since.Goals as goal

pub loop-r-preserved : goal.loop-r-preserved
loop-r-preserved c =
    let next : c.loop-r.r + 1 ≡ suc c.loop-r.r = omega arith in
    ap (λ n. are_unchanged_since (drop n c.args.refs.now.lasts) c.args.point) next
    ∙ since_next c.args.refs.now.lasts c.args.point c.loop-r.r (omega (arith, c.loop-r-test.true, c.len-r-end.ensures.value, c.len-r-end.ensures.lasts)) (sym c.is_changed.ensures ∙ c.if-is_changed.false)
    ∙ c.loop-r.invariant

pub returns : goal.returns
returns c = sym (since_all c.args.refs.now.lasts c.args.point c.loop-r.r (omega (arith, c.loop-r-test.false, c.len-r-end.ensures.value, c.len-r-end.ensures.lasts))) ∙ c.loop-r.invariant
