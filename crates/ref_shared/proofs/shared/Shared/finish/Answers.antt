use Rattle.std.proofs.Common.{◌∙◌, ap, rules, sym}
use Rattle.ref_log.specs.declared.states.Base.{Base}
use Rattle.ref_world.specs.Seen.{WorldSeen}
use Rattle.ref_shared.proofs.Fitting.{fails_so, fits_so}
use Rattle.ref_shared.proofs.shared.Shared.finish.Goals as goal

pub returns-in-Ok-clause-ok : goal.returns-in-Ok-clause-ok
returns-in-Ok-clause-ok g c =
    fits_so _ _ _ _ _ _
    (ap (λ (b : Base). b.point) c.base.ensures.base
    ∙ ap (λ (w : WorldSeen). w.base.point) (sym c.totals-totals.ensures.world.0 ∙ sym c.into_world.ensures))
    (c.log.ensures.log ∙ ap (λ (w : WorldSeen). w.log) (sym c.into_world.ensures))
    (search rules)
    c.in-Ok.ensures.ok

pub returns-clause-fault : goal.returns-clause-fault
returns-clause-fault g c =
    fails_so _ _ _ _ _ _ _
    (ap (λ (b : Base). b.point) c.base.ensures.base ∙ ap (λ (w : WorldSeen). w.base.point) (sym c.totals-totals.ensures.world.0))
    c.log.ensures.log
    (search rules)
    c.in-Err.ensures.fault
