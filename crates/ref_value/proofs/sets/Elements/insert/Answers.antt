use Rattle.std.proofs.Common.{sym, subst, true}
use Rattle.std.specs.Prelude.{IsTrue}
use Rattle.ref_value.specs.Edn.{items_of}
use Rattle.ref_value.specs.Order.{elements_ascend}
use Rattle.ref_value.specs.Collections.{elements_with, ChangesElement}
use Rattle.ref_value.proofs.Compared.{went_on, either_way}
use Rattle.ref_value.proofs.SetMembers.{with_gap, with_found, with_ascends, with_changes}
use Rattle.ref_value.proofs.sets.Elements.insert.Goals as goal

pub insert_at-requires-clause-ascends : goal.insert_at-requires-clause-ascends
insert_at-requires-clause-ascends c = rw (← with_gap c.args.self.now c.args.x c.in-Err.i c.in-Err.ensures.absent) (with_ascends c.args.self.now c.args.x c.requires)

pub returns-in-Ok-clause-elements : goal.returns-in-Ok-clause-elements
returns-in-Ok-clause-elements c = sym (with_found c.args.self.now c.args.x c.in-Ok.field-0 c.requires c.in-Ok.ensures.found)

pub returns-in-Ok-clause-set : goal.returns-in-Ok-clause-set
returns-in-Ok-clause-set c =
    let old = c.args.self.now in
    let same = with_found old c.args.x c.in-Ok.field-0 c.requires c.in-Ok.ensures.found in
    subst (λ xs. ChangesElement old xs c.args.x true) same (with_changes old c.args.x)

pub returns-in-Err-clause-elements : goal.returns-in-Err-clause-elements
returns-in-Err-clause-elements c = rw (← with_gap c.args.self.now c.args.x c.in-Err.i c.in-Err.ensures.absent) at c.insert_at.ensures.ok

pub returns-in-Err-clause-set : goal.returns-in-Err-clause-set
returns-in-Err-clause-set c =
    let old = c.args.self.now in
    let is = rw (← with_gap old c.args.x c.in-Err.i c.in-Err.ensures.absent) at c.insert_at.ensures.ok in
    went_on c.insert_at.result is (λ e. subst (λ xs. ChangesElement old xs c.args.x true) (sym e) (with_changes old c.args.x))

pub returns-in-Err-clause-ascends : goal.returns-in-Err-clause-ascends
returns-in-Err-clause-ascends c =
    let old = c.args.self.now in
    let is = rw (← with_gap old c.args.x c.in-Err.i c.in-Err.ensures.absent) at c.insert_at.ensures.ok in
    either_way c.insert_at.result (λ xs. IsTrue (elements_ascend (items_of xs))) old (elements_with old c.args.x) c.insert_at.new.self is c.insert_at.ensures.err c.requires (with_ascends old c.args.x c.requires)
