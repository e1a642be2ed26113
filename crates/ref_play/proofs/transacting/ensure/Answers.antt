use Rattle.std.proofs.Common.{refl}
use Rattle.ref_log.specs.declared.operations.Op.TheVariants.{Ensure}
use Rattle.ref_play.specs.Sims.{present}
use Rattle.ref_play.specs.declared.events.Reply.TheVariants as replies
use Rattle.ref_play.proofs.Answering.{operates}
use Rattle.ref_play.proofs.transacting.ensure.Goals as goal

pub returns : goal.returns
returns g c = λ s knows.
    let means = g.M.Meaning.means in
    let tx = c.in-Some.tx in
    let told = c.ensure-told.result in
    let did = c.ensure-told.ensures in
    let now = present (record s { slots = c.args.actors.now }) in
    operates means knows now c.args.actors.now c.args.actor refl tx c.take.new.self c.put.new.self c.args.r (Ensure) replies.Ensure told c.ensure-told.new.self
    c.in-Some.ensures.was (did.answers) did.adds did.err (c.in-Some.ensures.takes refl) c.put.ensures
