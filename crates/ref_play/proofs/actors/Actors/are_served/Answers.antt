use Rattle.std.proofs.Common.{ℕ, Option, None, Some, subst, sym, ◌∙◌, ◌≡◌}
use Rattle.std.specs.List.{All}
use Rattle.ref_tx.specs.Seen.{TxSeen}
use Rattle.ref_refs.specs.Commit.{lacking}
use Rattle.ref_play.specs.Present.{WithTx}
use Rattle.ref_play.specs.Runs.{AreServed}
use Rattle.ref_play.specs.Sims.{Slots, slot_of, txs_of}
use Rattle.ref_play.proofs.Tables.{found_on, look_on, none_left, not_served, tells_err, tells_ok}
use Rattle.ref_play.proofs.actors.Actors.are_served.Goals as goal

pub loop-actor-init : goal.loop-actor-init
loop-actor-init g c =
    let rest = c.into_iter-actor-iterator.ensures.into_iter_gives ∙ (c.iter-actor-items.ensures.rest ∙ c.self.view_is) in
    record {
      all = λ served. subst (λ (l : Slots). AreServed (g.F.Functions.knows c.args.funs.now).funs (txs_of l)) rest served;
      found = subst (All (λ (e : ℕ × Option TxSeen). slot_of c.args.self.now e.0 ≡ Some e.1)) (sym rest)
          (subst (λ (s : Slots). All (λ (e : ℕ × Option TxSeen). slot_of s e.0 ≡ Some e.1) s) c.self.view_is c.iter-actor-items.ensures.found);
    }

pub returns-then-is_err-clause-no : goal.returns-then-is_err-clause-no
returns-then-is_err-clause-no g c = λ served.
    let knows = (g.F.Functions.knows c.args.funs.now).funs in
    not_served knows c.args.self.now c.loop-actor._actor-iterator c.next.new.self c.in-Some._actor.now c.in-Some.slot.now c.in-Some-slot.tx c.in-Some.ensures.steps c.in-Some-slot.is c.loop-actor.invariant.found
    (tells_err (lacking knows c.in-Some-slot.tx.dones) c.check_served.result (rw (← c.dones.ensures.value) c.check_served.ensures.refused) (sym c.if-is_err.ensures.value)) served

pub loop-actor-preserved-else-is_err : goal.loop-actor-preserved-else-is_err
loop-actor-preserved-else-is_err g c =
    let knows = (g.F.Functions.knows c.args.funs.now).funs in
    let served = tells_ok (lacking knows c.in-Some-slot.tx.dones) c.check_served.result (rw (← c.dones.ensures.value) c.check_served.ensures.refused) (sym c.if-is_err.ensures.value) in
    record {
      all = look_on knows c.args.self.now c.loop-actor._actor-iterator c.next.new.self c.in-Some._actor.now c.in-Some.slot.now c.in-Some.ensures.steps
          (subst (λ o. WithTx o (λ tx. lacking knows tx.dones ≡ None) (Unit {0})) (sym c.in-Some-slot.is) served) c.loop-actor.invariant.all;
      found = found_on knows c.args.self.now c.loop-actor._actor-iterator c.next.new.self c.in-Some._actor.now c.in-Some.slot.now c.in-Some.ensures.steps c.loop-actor.invariant.found;
    }

pub loop-actor-preserved : goal.loop-actor-preserved
loop-actor-preserved g c =
    let knows = (g.F.Functions.knows c.args.funs.now).funs in
    record {
      all = look_on knows c.args.self.now c.loop-actor._actor-iterator c.next.new.self c.in-Some._actor.now c.in-Some.slot.now c.in-Some.ensures.steps
          (subst (λ o. WithTx o (λ tx. lacking knows tx.dones ≡ None) (Unit {0})) (sym c.in_default.is) tt) c.loop-actor.invariant.all;
      found = found_on knows c.args.self.now c.loop-actor._actor-iterator c.next.new.self c.in-Some._actor.now c.in-Some.slot.now c.in-Some.ensures.steps c.loop-actor.invariant.found;
    }

pub returns-clause-yes : goal.returns-clause-yes
returns-clause-yes g c = none_left (g.F.Functions.knows c.args.funs.now).funs c.args.self.now c.loop-actor._actor-iterator c.in-None.ensures.steps.0 c.loop-actor.invariant.all
