use Rattle.std.proofs.lemmas.Option.{slice_get_past}
use Rattle.std.specs.Prelude.{slice_get}
use Rattle.ref_history.proofs.Touched.{nothing_more}
use Rattle.ref_history.proofs.befores.push_before.Goals as goal

pub returns-in-None : goal.returns-in-None
returns-in-None c =
    nothing_more c.args.number (slice_get c.args.values.now c.args.number) c.args.befores.now.items
    (slice_get_past c.args.values.now c.args.number c.in-None.ensures.lookup.3)
