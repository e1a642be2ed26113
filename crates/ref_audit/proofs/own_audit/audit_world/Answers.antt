use Rattle.std.proofs.Common.{◌≡◌, Ok, ap, sym, ◌∙◌}
use Rattle.ref_verdict.specs.Verdict.{verdict}
use Rattle.ref_verdict.specs.declared.reports.Verdict.TheVariants as verdicts
use Rattle.ref_audit.proofs.OwnVerdict.{seen_core, seen_ok}
use Rattle.ref_audit.proofs.ToldBack.{own_verdict}
use Rattle.ref_audit.proofs.own_audit.audit_world.Goals as goal

pub verdict-requires-clause-dump : goal.verdict-requires-clause-dump
verdict-requires-clause-dump g c =
    let none = sym c.unnamed_in.ensures ∙ c.in_default.is in
    rw c.in_ok-dump.ensures (seen_core c.args.world.now c.tell.ensures none)

pub returns-in-Ok-clause-verdict : goal.returns-in-Ok-clause-verdict
returns-in-Ok-clause-verdict g c =
    let none = sym c.unnamed_in.ensures ∙ c.in_default.is in
    let ok : c.in-Ok.verdict ≡ verdicts.Ok = c.in-Ok.ensures.ok ∙ (ap verdict c.in_ok-dump.ensures ∙ seen_ok c.args.world.now c.tell.ensures) in
    own_verdict c.args.world.now c.tell.ensures none ∙ ap Ok (sym ok)

pub returns-in-Ok-clause-ok : goal.returns-in-Ok-clause-ok
returns-in-Ok-clause-ok g c = c.in-Ok.ensures.ok ∙ (ap verdict c.in_ok-dump.ensures ∙ seen_ok c.args.world.now c.tell.ensures)
