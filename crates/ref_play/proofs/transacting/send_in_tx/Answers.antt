use Rattle.std.proofs.Common.{[], refl, subst}
use Rattle.ref_play.specs.Present.{SendsInTx}
use Rattle.ref_play.specs.Sims.{present, txs_of}
use Rattle.ref_play.specs.declared.events.Reply.TheVariants as replies
use Rattle.ref_play.proofs.WorkDone.{sent_in_tx}
use Rattle.ref_play.proofs.transacting.send_in_tx.Goals as goal

pub returns : goal.returns
returns g c = λ s.
    let knows = g.F.Functions.knows c.args.funs.now in
    let told = c.send-told.result in
    let did = c.send-told.ensures in
    let now = present (record s { slots = c.args.actors.now }) in
    subst (λ x. SendsInTx knows now c.args.actor c.args.g x (replies.SendInTx told) [] (present (record s { slots = c.put.new.self }))) c.in-Ok.ensures
    (sent_in_tx knows now (txs_of c.args.actors.now) (txs_of c.take.new.self) (txs_of c.put.new.self) c.args.actor refl (c.in-Some-take.ensures.takes refl)
    c.in-Some-take.tx c.send-told.new.self c.args.g c.in-Ok.action told _ c.in-Some-take.ensures.was did.refused did.adds did.err c.put.ensures)
