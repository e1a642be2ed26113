use Rattle.std.proofs.Common.{◌≡◌, None, Option, Ok, drop}
use Rattle.ref_log.specs.declared.faults.MakeFault.{MakeFault}
use Rattle.ref_log.specs.declared.notices.Who.{Who}
use Rattle.ref_world.specs.Starts.{declared_atoms, first_refused, made_all, no_atoms, with_atom}
use Rattle.ref_world.proofs.declared.declared_atoms.Given as goal

abbrev pub invariant-loop-start : goal.invariant-loop-start
invariant-loop-start g l =
    let accepts = g.M.Meaning.accepts in
    let knows = (g.F.Functions.knows l.funs).preds in
    record {
      made : made_all (with_atom accepts knows) (drop l.start-index l.starts) (Ok l.atoms) ≡ declared_atoms accepts knows l.starts;
      first : (next : Option (Who × MakeFault)) → first_refused (with_atom accepts knows) (drop l.start-index l.starts) l.atoms next ≡ None → first_refused (with_atom accepts knows) l.starts no_atoms next ≡ None;
    }
