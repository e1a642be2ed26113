use Rattle.std.proofs.Common.{[], refl, subst}
use Rattle.ref_log.specs.declared.operations.Op.TheVariants.{Alter}
use Rattle.ref_play.specs.Present.{Operates}
use Rattle.ref_play.specs.Sims.{present}
use Rattle.ref_play.specs.declared.events.Reply.TheVariants as replies
use Rattle.ref_play.proofs.Answering.{answers_late, operates}
use Rattle.ref_play.proofs.transacting.alter.Goals as goal

pub returns : goal.returns
returns g c = λ s.
    let means = g.M.Meaning.means in
    let knows = g.F.Functions.knows c.args.funs.now in
    let tx = c.in-Some-take.tx in
    let told = c.alter-told.result in
    let did = c.alter-told.ensures in
    let now = present (record s { slots = c.args.actors.now }) in
    subst (λ x. Operates means knows now c.args.actor c.args.r (Alter c.args.code x) replies.Alter (replies.Alter told) [] (present (record s { slots = c.put.new.self }))) c.in-Ok.ensures
    (operates means knows now c.args.actors.now c.args.actor refl tx c.take.new.self c.put.new.self c.args.r (Alter c.args.code c.in-Ok.args) replies.Alter told c.alter-told.new.self
    c.in-Some-take.ensures.was (answers_late _ _ told did.answers) did.adds did.err (c.in-Some-take.ensures.takes refl) c.put.ensures)
