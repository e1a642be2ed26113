use Rattle.std.proofs.Common.{◌∙◌}
use Rattle.clap.proofs.WalkLemmas.{one_text-rows}
use Rattle.clap.specs.Matches.{found_of}
use Rattle.clap.specs.Walk.{one_of, rows_of}
use Rattle.refrun.proofs.Options.{number_is}
use Rattle.refrun.proofs.commands.number_of.Goals as goal

pub returns : goal.returns
returns c =
    let found = found_of c.args.matches.now in
    let rows = one_text-rows found c.args.name.now in
    number_is (one_of c.args.name.now (rows_of found)) c.get_one.result
    (λ e. c.get_one.ensures.none (rows ∙ e)) (λ text e. c.get_one.ensures.value text (rows ∙ e))
