use Rattle.std.proofs.Common.{subst, sym, ap, ◌∙◌}
use Rattle.ref_pmap.specs.ByNumber.{IsByNumber, items_of}
use Rattle.ref_pmap.proofs.Listed.{none_by_number, none_listed}
use Rattle.ref_pmap.proofs.numbered.Numbered.empty.Goals as goal

pub invariant_of-result : goal.invariant_of-result
invariant_of-result g c = subst IsByNumber (sym c.empty.ensures) none_by_number

pub returns : goal.returns
returns g c = ap items_of c.empty.ensures ∙ none_listed
