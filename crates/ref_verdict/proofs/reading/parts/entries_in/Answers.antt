use Rattle.std.proofs.Common.{◌<◌, sym, ◌∙◌, length, length-append, arith}
use Rattle.ref_verdict.proofs.Lists.{entries_more}
use Rattle.ref_verdict.proofs.reading.parts.entries_in.Goals as goal

pub loop-i-preserved : goal.loop-i-preserved
loop-i-preserved c =
    let so_far = c.loop-i.invariant in
    let within : c.loop-i.i < length c.args.forms.now = omega arith in
    let more = entries_more c.args.version c.args.forms.now c.loop-i.i c.at.result.now c.in-Ok.entry c.loop-i.entries within c.at.ensures c.in-Ok.ensures in
    record {
      all = rw c.in-Ok-push.ensures.ok (sym more ∙ so_far.all);
      count = rw c.in-Ok-push.ensures.ok (simp length-append (omega (arith, so_far.count)));
    }
