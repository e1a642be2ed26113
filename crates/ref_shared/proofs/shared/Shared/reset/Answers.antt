use Rattle.std.proofs.Common.{◌≡◌, ◌∙◌, Ok, ap, subst, sym}
use Rattle.ref_log.specs.declared.operations.Op.TheVariants.{Alter}
use Rattle.ref_world.specs.History.{Begins, state_in}
use Rattle.ref_world.specs.Seen.{WorldSeen}
use Rattle.ref_world.specs.Shares.{knowing}
use Rattle.ref_world.specs.World.{values_now}
use Rattle.ref_shared.proofs.Learned.{was_reset}
use Rattle.ref_shared.proofs.shared.Shared.reset.Goals as goal

pub returns-clause-share : goal.returns-clause-share
returns-clause-share g c =
    let means = g.M.Meaning.means in
    let first = c.args.share.now in
    let found = c.inform.new.self in
    let same = c.inform.ensures.same in
    let informed : c.inform.new.share ≡ knowing first found.history = c.inform.ensures.share ∙ ap (knowing first) (sym same.1) in
    let begins : Begins first.history found.history = subst (Begins first.history) (sym same.1) c.inform.ensures.known in
    let state : state_in means found.history ≡ Ok (values_now found.world.refs found.world.atoms) =
    ap (state_in means) same.1 ∙ (c.inform.ensures.values ∙ ap (λ (w : WorldSeen). Ok (values_now w.refs w.atoms)) (sym same.0)) in
    let made = c.reset-swapped in
    was_reset made.result means c.args.a c.args.value first c.inform.new.share made.new.share c.inform-2.new.share found.world made.new.self.world found.history made.new.self.history
    informed begins state made.ensures.entry made.ensures.share made.ensures.history made.ensures.known made.ensures.old
    c.inform-2.ensures.share c.inform-2.ensures.legal c.inform-2.ensures.point
