use Rattle.std.proofs.Common.{sym, subst}
use Rattle.std.specs.Prelude.{IsTrue, Some}
use Rattle.ref_value.specs.Edn.{entries_of}
use Rattle.ref_value.specs.Order.{keys_ascend}
use Rattle.ref_value.specs.Collections.{entries_with, ChangesKey}
use Rattle.ref_value.proofs.Compared.{went_on, either_way}
use Rattle.ref_value.proofs.MapKeys.{with_gap, with_found, with_ascends, with_changes}
use Rattle.ref_value.proofs.maps.Entries.insert.Goals as goal

pub replace_at-requires-clause-ascends : goal.replace_at-requires-clause-ascends
replace_at-requires-clause-ascends c =
    rw (← with_found c.args.self.now c.args.key c.args.value c.in-Ok.i c.requires c.in-Ok.ensures.found) (with_ascends c.args.self.now c.args.key c.args.value c.requires)

pub insert_at-requires-clause-ascends : goal.insert_at-requires-clause-ascends
insert_at-requires-clause-ascends c =
    rw (← with_gap c.args.self.now c.args.key c.args.value c.in-Err.i c.in-Err.ensures.absent) (with_ascends c.args.self.now c.args.key c.args.value c.requires)

pub returns-in-Ok-clause-entries : goal.returns-in-Ok-clause-entries
returns-in-Ok-clause-entries c = rw (← with_found c.args.self.now c.args.key c.args.value c.in-Ok.i c.requires c.in-Ok.ensures.found) at c.replace_at.ensures.ok

pub returns-in-Ok-clause-map : goal.returns-in-Ok-clause-map
returns-in-Ok-clause-map c =
    let old = c.args.self.now in
    let is = rw (← with_found old c.args.key c.args.value c.in-Ok.i c.requires c.in-Ok.ensures.found) at c.replace_at.ensures.ok in
    went_on c.replace_at.result is (λ e. subst (λ es. ChangesKey old es c.args.key (Some c.args.value)) (sym e) (with_changes old c.args.key c.args.value))

pub returns-in-Ok-clause-ascends : goal.returns-in-Ok-clause-ascends
returns-in-Ok-clause-ascends c =
    let old = c.args.self.now in
    let is = rw (← with_found old c.args.key c.args.value c.in-Ok.i c.requires c.in-Ok.ensures.found) at c.replace_at.ensures.ok in
    either_way c.replace_at.result (λ es. IsTrue (keys_ascend (entries_of es))) old (entries_with old c.args.key c.args.value) c.replace_at.new.self is c.replace_at.ensures.err c.requires
    (with_ascends old c.args.key c.args.value c.requires)

pub returns-in-Err-clause-entries : goal.returns-in-Err-clause-entries
returns-in-Err-clause-entries c = rw (← with_gap c.args.self.now c.args.key c.args.value c.in-Err.i c.in-Err.ensures.absent) at c.insert_at.ensures.ok

pub returns-in-Err-clause-map : goal.returns-in-Err-clause-map
returns-in-Err-clause-map c =
    let old = c.args.self.now in
    let is = rw (← with_gap old c.args.key c.args.value c.in-Err.i c.in-Err.ensures.absent) at c.insert_at.ensures.ok in
    went_on c.insert_at.result is (λ e. subst (λ es. ChangesKey old es c.args.key (Some c.args.value)) (sym e) (with_changes old c.args.key c.args.value))

pub returns-in-Err-clause-ascends : goal.returns-in-Err-clause-ascends
returns-in-Err-clause-ascends c =
    let old = c.args.self.now in
    let is = rw (← with_gap old c.args.key c.args.value c.in-Err.i c.in-Err.ensures.absent) at c.insert_at.ensures.ok in
    either_way c.insert_at.result (λ es. IsTrue (keys_ascend (entries_of es))) old (entries_with old c.args.key c.args.value) c.insert_at.new.self is c.insert_at.ensures.err c.requires
    (with_ascends old c.args.key c.args.value c.requires)
