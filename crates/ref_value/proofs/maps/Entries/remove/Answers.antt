use Rattle.std.proofs.Common.{sym, subst}
use Rattle.std.specs.Prelude.{IsTrue, None}
use Rattle.ref_value.specs.Edn.{entries_of}
use Rattle.ref_value.specs.Order.{keys_ascend}
use Rattle.ref_value.specs.Collections.{entries_without, ChangesKey}
use Rattle.ref_value.proofs.Compared.{went_on, either_way}
use Rattle.ref_value.proofs.MapKeys.{without_gap, without_found, without_ascends, without_changes}
use Rattle.ref_value.proofs.maps.Entries.remove.Goals as goal

pub remove_at-requires-clause-ascends : goal.remove_at-requires-clause-ascends
remove_at-requires-clause-ascends c =
    rw (← without_found c.args.self.now c.args.key.now c.in-Ok.i c.requires c.in-Ok.ensures.found) (without_ascends c.args.self.now c.args.key.now c.requires)

pub returns-in-Ok-clause-entries : goal.returns-in-Ok-clause-entries
returns-in-Ok-clause-entries c = rw (← without_found c.args.self.now c.args.key.now c.in-Ok.i c.requires c.in-Ok.ensures.found) at c.remove_at.ensures.ok

pub returns-in-Ok-clause-map : goal.returns-in-Ok-clause-map
returns-in-Ok-clause-map c =
    let old = c.args.self.now in
    let is = rw (← without_found old c.args.key.now c.in-Ok.i c.requires c.in-Ok.ensures.found) at c.remove_at.ensures.ok in
    went_on c.remove_at.result is (λ e. subst (λ es. ChangesKey old es c.args.key.now None) (sym e) (without_changes old c.args.key.now c.requires))

pub returns-in-Ok-clause-ascends : goal.returns-in-Ok-clause-ascends
returns-in-Ok-clause-ascends c =
    let old = c.args.self.now in
    let is = rw (← without_found old c.args.key.now c.in-Ok.i c.requires c.in-Ok.ensures.found) at c.remove_at.ensures.ok in
    either_way c.remove_at.result (λ es. IsTrue (keys_ascend (entries_of es))) old (entries_without old c.args.key.now) c.remove_at.new.self is c.remove_at.ensures.err c.requires
    (without_ascends old c.args.key.now c.requires)

pub returns-in-Err-clause-entries : goal.returns-in-Err-clause-entries
returns-in-Err-clause-entries c = sym (without_gap c.args.self.now c.args.key.now c.in-Err.field-0 c.in-Err.ensures.absent)

pub returns-in-Err-clause-map : goal.returns-in-Err-clause-map
returns-in-Err-clause-map c =
    let old = c.args.self.now in
    let same = without_gap old c.args.key.now c.in-Err.field-0 c.in-Err.ensures.absent in
    subst (λ es. ChangesKey old es c.args.key.now None) same (without_changes old c.args.key.now c.requires)
