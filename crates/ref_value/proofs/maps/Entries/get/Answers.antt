use Rattle.std.proofs.Common.{sym}
use Rattle.ref_value.proofs.MapKeys.{value_found, value_gap}
use Rattle.ref_value.proofs.maps.Entries.get.Goals as goal

pub returns-in-Ok : goal.returns-in-Ok
returns-in-Ok c =
    let e = value_found c.args.self.now c.args.key.now c.in-Ok.i (c.at.result.0.now, c.at.result.1.now) c.requires c.in-Ok.ensures.found in
    sym (rw (← c.at.ensures) at e)

pub returns-in-Err : goal.returns-in-Err
returns-in-Err c = sym (value_gap c.args.self.now c.args.key.now c.in-Err.field-0 c.in-Err.ensures.absent)
