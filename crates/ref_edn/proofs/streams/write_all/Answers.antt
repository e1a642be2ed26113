use Rattle.std.proofs.Common.{◌<◌, ◌∙◌, arith, length}
use Rattle.std.proofs.lemmas.Grind.{common_steps}
use Rattle.ref_edn.proofs.Taken.{on_err, wrote_part, wrote_more}
use Rattle.ref_edn.proofs.streams.write_all.Goals as goal

pub returns-in_err-n-clause-err : goal.returns-in_err-n-clause-err
returns-in_err-n-clause-err g c =
    let some : 0 < length c.loop-rest.rest.now = grind (arith, common_steps) in
    on_err _ (wrote_part _ _ _ _ _ c.loop-rest.invariant.wrote c.in_err-n.ensures.bytes some)

pub loop-rest-preserved : goal.loop-rest-preserved
loop-rest-preserved g c = record {
  uncounted = c.in_ok-n.ensures.failures ∙ c.loop-rest.invariant.uncounted;
  wrote = wrote_more _ _ _ _ _ _ _ c.loop-rest.invariant.wrote c.in_ok-n.ensures.bytes c.after-rest.ensures;
}
