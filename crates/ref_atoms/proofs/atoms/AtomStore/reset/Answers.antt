use Rattle.std.proofs.Common.{◌≡◌, ◌∙◌, ap, refl, slice_set}
use Rattle.ref_log.specs.declared.entries.Entry.TheVariants as entries
use Rattle.ref_log.specs.declared.operations.Op.TheVariants.{Set}
use Rattle.ref_atoms.proofs.Changed.{stepped}
use Rattle.ref_atoms.proofs.atoms.AtomStore.reset.Goals as goal

pub returns-clause-step : goal.returns-clause-step
returns-clause-step g c =
    let values = c.args.self.now.values in
    let change = c.in_ok-change.change in
    let is = c.in_ok-change.ensures.change in
    let op = Set c.args.value in
    let sets : c.install.new.self.values ≡ slice_set values c.args.a change.swapped.new = ap (λ s. s.values) c.install.ensures ∙ ap (slice_set values c.args.a) is.5 in
    stepped g.M.Meaning.means c.args.at c.args.a op values c.install.new.self.values (entries.Atom c.args.a op change.swapped.new) change.swapped.old change.swapped.new is.0 is.1 refl sets
