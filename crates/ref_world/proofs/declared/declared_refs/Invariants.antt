use Rattle.std.proofs.Common.{◌≡◌, None, Option, true, Ok, drop}
use Rattle.ref_refs.specs.Seen.{are_unchanged_since}
use Rattle.ref_log.specs.Tally.{IsMoved, start_of}
use Rattle.ref_log.specs.declared.faults.MakeFault.{MakeFault}
use Rattle.ref_log.specs.declared.notices.Who.{Who}
use Rattle.ref_world.specs.Starts.{declared_refs, first_refused, made_all, no_refs, with_ref}
use Rattle.ref_world.proofs.declared.declared_refs.Given as goal

abbrev pub invariant-loop-start : goal.invariant-loop-start
invariant-loop-start g l =
    let accepts = g.M.Meaning.accepts in
    let knows = (g.F.Functions.knows l.funs).preds in
    record {
      made : made_all (with_ref accepts knows) (drop l.start-index l.starts) (Ok l.refs) ≡ declared_refs accepts knows l.starts;
      since : are_unchanged_since l.refs.lasts 0 ≡ true;
      counts : IsMoved l.refs.tally l.refs.values (start_of l.refs.tally l.refs.values) 0 0;
      first : (next : Option (Who × MakeFault)) → first_refused (with_ref accepts knows) (drop l.start-index l.starts) l.refs next ≡ None → first_refused (with_ref accepts knows) l.starts no_refs next ≡ None;
    }
