use Rattle.std.proofs.Common.{◌∙◌}
use Rattle.clap.proofs.WalkLemmas.{one_text-rows}
use Rattle.clap.specs.Matches.{found_of}
use Rattle.clap.specs.Walk.{one_of, rows_of}
use Rattle.refrun.proofs.Options.{flag_is}
use Rattle.refrun.proofs.commands.has_flag.Goals as goal

pub returns : goal.returns
returns c =
    let found = found_of c.args.matches.now in
    let rows = one_text-rows found c.args.name.now in
    flag_is (one_of c.args.name.now (rows_of found)) c.get_flag.result
    (λ e. c.get_flag.ensures.none (rows ∙ e)) (λ e. c.get_flag.ensures.value (rows ∙ e)) (λ e. c.get_flag.ensures.other (rows ∙ e))
