use Rattle.std.proofs.Common.{[], refl, subst}
use Rattle.ref_log.specs.declared.operations.Op.TheVariants.{Set}
use Rattle.ref_play.specs.Present.{Operates}
use Rattle.ref_play.specs.Sims.{present}
use Rattle.ref_play.specs.declared.events.Reply.TheVariants as replies
use Rattle.ref_play.proofs.Answering.{answers_late, operates}
use Rattle.ref_play.proofs.transacting.ref_set.Goals as goal

pub returns : goal.returns
returns g c = λ s knows.
    let means = g.M.Meaning.means in
    let tx = c.in-Some-take.tx in
    let told = c.ref_set-told.result in
    let did = c.ref_set-told.ensures in
    let now = present (record s { slots = c.args.actors.now }) in
    subst (λ x. Operates means knows now c.args.actor c.args.r (Set x) replies.RefSet (replies.RefSet told) [] (present (record s { slots = c.put.new.self }))) c.in-Ok.ensures
    (operates means knows now c.args.actors.now c.args.actor refl tx c.take.new.self c.put.new.self c.args.r (Set c.in-Ok.value) replies.RefSet told c.ref_set-told.new.self
    c.in-Some-take.ensures.was (answers_late _ _ told did.answers) did.adds did.err (c.in-Some-take.ensures.takes refl) c.put.ensures)
