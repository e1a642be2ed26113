use Rattle.std.proofs.Common.{◌≡◌, length, map, ap, sym, arith}
use Rattle.std.proofs.lemmas.Result.{err_from_is_err_and}
use Rattle.ref_audit.specs.Dumped.{base_ref_form}
use Rattle.ref_audit.proofs.Left.{fault_of_next, number_at, there_at, zipped_at}
use Rattle.ref_audit.proofs.dumping.references.base_refs.Goals as goal

pub returns-in_err-base_ref-clause-fault : goal.returns-in_err-base_ref-clause-fault
returns-in_err-base_ref-clause-fault c =
    let p = err_from_is_err_and c.from_residual-in_err-base_ref.result c.from_residual-in_err-base_ref.ensures.1 in
    let refs = c.as_slice-refs.result.now in
    let lasts = c.as_slice-lasts.result.now in
    let as_long : length lasts ≡ length refs = rw (c.as_slice-refs.ensures, c.as_slice-lasts.ensures) c.requires in
    let left = zipped_at refs lasts c.loop-i.i _ _ (there_at refs c.loop-i.i c.index-refs-i.result c.loop-i-test.true c.index-refs-i.is) (number_at lasts c.loop-i.i (omega (arith, as_long, c.loop-i-test.true))) in
    rw (p.1, p.2, sym c.as_slice-refs.ensures, sym c.as_slice-lasts.ensures) (fault_of_next _ _ _ _ _ _ c.loop-i.invariant (ap (map base_ref_form) left) c.in_err-base_ref.ensures.fault)
