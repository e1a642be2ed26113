use Rattle.std.proofs.Common.{◌≡◌, None, Option, Some, ap}
use Rattle.ref_tx.specs.Seen.{TxSeen}
use Rattle.ref_world.specs.Seen.{ShareSeen}
use Rattle.ref_play.specs.Present.{WithTx}
use Rattle.ref_play.specs.Sims.{jobs_of}
use Rattle.ref_play.proofs.Starting.{declared_idle, held_by_nobody}
use Rattle.ref_play.proofs.sims.Sim.new.Goals as goal

no_tx : (P : TxSeen → Type 0) (o : Option TxSeen) → o ≡ None → WithTx o P (Unit {0})
no_tx P None none = tt
no_tx P (Some tx) none = absurd cc

pub invariant_of-result : goal.invariant_of-result
invariant_of-result g c = record {
  opens = λ a. no_tx _ _ (c.none.ensures a);
  jobs = held_by_nobody g.M.Meaning.means c.in_ok-booked.booked.world.agents (jobs_of c.none-2.result) c.none-2.ensures
      (declared_idle g.M.Meaning.accepts (g.F.Functions.knows c.args.funs.now).preds c.args.start.now.agents.items c.in_ok-booked.booked.world.agents c.in_ok-booked.ensures.agents).0;
  carried = (declared_idle g.M.Meaning.accepts (g.F.Functions.knows c.args.funs.now).preds c.args.start.now.agents.items c.in_ok-booked.booked.world.agents c.in_ok-booked.ensures.agents).1;
  share = ap (λ (s : ShareSeen). s.parts) c.in_ok-booked.ensures.share;
}
