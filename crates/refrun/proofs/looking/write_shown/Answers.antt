use Rattle.ref_history.specs.Looks.{looked}
use Rattle.refrun.proofs.Outputs.{shown_left}
use Rattle.refrun.proofs.looking.write_shown.Goals as goal

pub returns-in-Err-Output-clause-left : goal.returns-in-Err-Output-clause-left
returns-in-Err-Output-clause-left g c =
    shown_left (looked c.args.names.now c.args.look c.args.dump.now) c.in-Err-Output.fault _ _ (rw c.in-Err-Output.field-0-is at c.in-Err-Output.ensures.err)
