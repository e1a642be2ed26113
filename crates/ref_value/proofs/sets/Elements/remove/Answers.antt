use Rattle.std.proofs.Common.{sym, subst, false}
use Rattle.std.specs.Prelude.{IsTrue}
use Rattle.ref_value.specs.Edn.{items_of}
use Rattle.ref_value.specs.Order.{elements_ascend}
use Rattle.ref_value.specs.Collections.{elements_without, ChangesElement}
use Rattle.ref_value.proofs.Compared.{went_on, either_way}
use Rattle.ref_value.proofs.SetMembers.{without_gap, without_found, without_ascends, without_changes}
use Rattle.ref_value.proofs.sets.Elements.remove.Goals as goal

pub remove_at-requires-clause-ascends : goal.remove_at-requires-clause-ascends
remove_at-requires-clause-ascends c =
    rw (← without_found c.args.self.now c.args.x.now c.in-Ok.i c.requires c.in-Ok.ensures.found) (without_ascends c.args.self.now c.args.x.now c.requires)

pub returns-in-Ok-clause-elements : goal.returns-in-Ok-clause-elements
returns-in-Ok-clause-elements c = rw (← without_found c.args.self.now c.args.x.now c.in-Ok.i c.requires c.in-Ok.ensures.found) at c.remove_at.ensures.ok

pub returns-in-Ok-clause-set : goal.returns-in-Ok-clause-set
returns-in-Ok-clause-set c =
    let old = c.args.self.now in
    let is = rw (← without_found old c.args.x.now c.in-Ok.i c.requires c.in-Ok.ensures.found) at c.remove_at.ensures.ok in
    went_on c.remove_at.result is (λ e. subst (λ xs. ChangesElement old xs c.args.x.now false) (sym e) (without_changes old c.args.x.now c.requires))

pub returns-in-Ok-clause-ascends : goal.returns-in-Ok-clause-ascends
returns-in-Ok-clause-ascends c =
    let old = c.args.self.now in
    let is = rw (← without_found old c.args.x.now c.in-Ok.i c.requires c.in-Ok.ensures.found) at c.remove_at.ensures.ok in
    either_way c.remove_at.result (λ xs. IsTrue (elements_ascend (items_of xs))) old (elements_without old c.args.x.now) c.remove_at.new.self is c.remove_at.ensures.err c.requires
    (without_ascends old c.args.x.now c.requires)

pub returns-in-Err-clause-elements : goal.returns-in-Err-clause-elements
returns-in-Err-clause-elements c = sym (without_gap c.args.self.now c.args.x.now c.in-Err.field-0 c.in-Err.ensures.absent)

pub returns-in-Err-clause-set : goal.returns-in-Err-clause-set
returns-in-Err-clause-set c =
    let old = c.args.self.now in
    let same = without_gap old c.args.x.now c.in-Err.field-0 c.in-Err.ensures.absent in
    subst (λ xs. ChangesElement old xs c.args.x.now false) same (without_changes old c.args.x.now c.requires)
