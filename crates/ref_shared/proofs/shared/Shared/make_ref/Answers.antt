use Rattle.std.proofs.Common.{◌≡◌, ◌∙◌, Ok, ap, subst, sym}
use Rattle.ref_log.specs.declared.entries.Entry.TheVariants.{MadeRef}
use Rattle.ref_world.specs.History.{Begins, refs_in, refs_of, state_in}
use Rattle.ref_world.specs.Seen.{WorldSeen}
use Rattle.ref_world.specs.World.{values_now}
use Rattle.ref_shared.proofs.Learned.{was_made}
use Rattle.ref_shared.proofs.shared.Shared.make_ref.Goals as goal

pub returns-clause-made : goal.returns-clause-made
returns-clause-made g c =
    let means = g.M.Meaning.means in
    let first = c.args.front.now in
    let found = c.inform_front.new.self in
    let same = c.inform_front.ensures.same in
    let begins : Begins first found.history = subst (Begins first) (sym same.1) c.inform_front.ensures.known in
    let state : state_in means found.history ≡ Ok (values_now found.world.refs found.world.atoms) =
    ap (state_in means) same.1 ∙ (c.inform_front.ensures.values ∙ ap (λ (w : WorldSeen). Ok (values_now w.refs w.atoms)) (sym same.0)) in
    let made = c.make_ref-made in
    was_made made.result means (MadeRef c.args.value) (refs_in means) found.world.refs.values first c.inform_front-2.new.front found.history made.new.self.history
    begins (ap refs_of state) made.ensures.history made.ensures.number c.inform_front-2.ensures.all c.inform_front-2.ensures.legal
