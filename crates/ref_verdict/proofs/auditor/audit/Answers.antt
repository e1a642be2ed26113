use Rattle.ref_verdict.proofs.Early.{verdict_told}
use Rattle.ref_verdict.proofs.auditor.audit.Goals as goal

pub returns-in-Ok : goal.returns-in-Ok
returns-in-Ok g c = verdict_told c.args.value.now c.in-Ok.dump c.verdict.result c.in-Ok.ensures.reads c.verdict.ensures.ok c.verdict.ensures.err
