use Rattle.std.proofs.Common.{◌≡◌, ◌∙◌, ap, refl, slice_set, sym}
use Rattle.ref_log.specs.declared.entries.Entry.TheVariants as entries
use Rattle.ref_log.specs.declared.operations.Op.TheVariants.{Set}
use Rattle.ref_atoms.specs.Change.{IsChangeOf}
use Rattle.ref_atoms.proofs.Changed.{set_to, stepped}
use Rattle.ref_atoms.proofs.atoms.AtomStore.compare_and_set.Goals as goal

pub returns-in-Some-clause-step : goal.returns-in-Some-clause-step
returns-in-Some-clause-step g c =
    let means = g.M.Meaning.means in
    let values = c.args.self.now.values in
    let change = c.in-Some.change in
    let op = Set c.args.new in
    let is : IsChangeOf means c.args.self.now c.args.a op change = rw c.in-Some.is at c.in_ok-change.ensures.change in
    let new : c.args.new ≡ change.swapped.new = set_to c.args.new change.swapped.new means change.swapped.old is.1 in
    let sets : c.install.new.self.values ≡ slice_set values c.args.a c.args.new = ap (λ s. s.values) c.install.ensures ∙ ap (slice_set values c.args.a) (is.5 ∙ sym new) in
    λ done. stepped means c.args.at c.args.a op values c.install.new.self.values (entries.Atom c.args.a op c.args.new) change.swapped.old c.args.new is.0 refl refl sets
