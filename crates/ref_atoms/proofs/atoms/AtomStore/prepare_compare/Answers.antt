use Rattle.std.proofs.Common.{◌≡◌, Some, Ok, ap, rules, slice_get, slice_set, sym}
use Rattle.ref_log.specs.declared.operations.Op.TheVariants.{Set}
use Rattle.ref_atoms.proofs.Changed.{stepped}
use Rattle.ref_atoms.proofs.atoms.AtomStore.prepare_compare.Goals as goal

pub returns-clause-step : goal.returns-clause-step
returns-clause-step g c =
    let values = c.args.self.now.values in
    let change = c.in_ok-change.change in
    let before = c.in-Some.before.now in
    let value = c.in_ok-value.value in
    let here : slice_get values c.args.a ≡ Some before = search rules in
    let sets : slice_set values c.args.a change.value ≡ slice_set values c.args.a value = search rules in
    stepped g.M.Meaning.means c.args.at c.args.a (Set c.args.new) values (slice_set values c.args.a change.value) change.entry before value here (ap Ok (sym c.in_ok-value.ensures)) c.in_ok-change.ensures.entry sets
