use Rattle.ref_play.proofs.Answering.{not_checkpointed}
use Rattle.ref_play.proofs.changing.checkpoint.Goals as goal

pub returns-in-Err : goal.returns-in-Err
returns-in-Err g c = record { serves = λ s actor. not_checkpointed g.M.Meaning.means g.M.Meaning.accepts (g.F.Functions.knows c.args.funs.now) (record s { world = c.args.booked.now.world }) actor c.args.point c.checkpoint.new.self.world c.in-Err.fault c.in-Err.ensures.refused c.in-Err.ensures.err }
