use Rattle.std.proofs.Common.{sym, ◌∙◌}
use Rattle.ref_log.proofs.EntriesCalled.{lacking_entry, next_entry}
use Rattle.ref_log.proofs.calling.lacking_fun.Goals as goal

pub returns-in-Some-lacking_in_entry : goal.returns-in-Some-lacking_in_entry
returns-in-Some-lacking_in_entry g c =
    let lacks = lacking_entry _ c.loop-entry.left _ _ _ c.in-Some-lacking_in_entry.code c.in-Some.ensures.steps c.if-left-eq0.false (sym c.in-Some-lacking_in_entry.ensures) in
    sym lacks ∙ c.loop-entry.invariant

pub loop-entry-preserved : goal.loop-entry-preserved
loop-entry-preserved g c =
    next_entry _ c.loop-entry.left _ _ _ c.in-Some.ensures.steps c.if-left-eq0.false (sym c.in_default.ensures) ∙ c.loop-entry.invariant
