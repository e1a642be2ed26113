use Rattle.ref_player.proofs.Told.{edn_told, script_told}
use Rattle.ref_player.proofs.texts.play_text.Goals as goal

pub returns-in_err-value-clause-fault : goal.returns-in_err-value-clause-fault
returns-in_err-value-clause-fault g c = edn_told c.from_residual.result c.args.text.now c.in_err-value.field-0.0 c.from_residual.ensures.1 c.in_err-value.ensures.none c.in_err-value.ensures.fault

pub returns-in_err-script-clause-fault : goal.returns-in_err-script-clause-fault
returns-in_err-script-clause-fault g c =
    script_told c.from_residual-in_err-script.result c.args.text.now _ c.in_err-script.field-0.0 c.from_residual-in_err-script.ensures.1 c.in_ok-value.ensures.found c.in_err-script.ensures.none
