use Rattle.std.proofs.Common.{◌∙◌, subst, sym}
use Rattle.ref_world.specs.History.{Begins}
use Rattle.ref_world.specs.HistoryLaws.{begins_more}
use Rattle.ref_shared.proofs.theorems.no_update_is_lost.Goals as goal

pub returns : goal.returns
returns g c = λ stamp tx point old new is r protects.
    let found = is.entered.found in
    let before : Begins found new.history = subst (Begins found) (sym is.entered.entered) (begins_more found _) in
    let legal = c.beginnings_are_legal.ensures found new.history before is.entered.legal in
    is.began r protects ∙ sym (c.unchanged_refs_stay.ensures found tx.read_point r legal (is.unchanged r protects))
