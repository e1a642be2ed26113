use Rattle.std.proofs.Common.{◌≡◌, ap, sym, subst, true}
use Rattle.std.specs.BTreeMap.{is_at}
use Rattle.std.specs.Ordering.{nat_cmp}
use Rattle.ref_log.specs.Replay.{point_after}
use Rattle.ref_world.specs.World.{are_past}
use Rattle.ref_world.specs.Entered.{held_as, held_fewer}
use Rattle.ref_world.proofs.worlds.World.release.Goals as goal

pub invariant_of-self : goal.invariant_of-self
invariant_of-self g c =
    let w = c.self.inside in
    let log = w.log in
    let is = c.self.invariant.0 in
    let point = point_after w.base.value log in
    let after = c.release.new.self.unreleased in
    let fewer = ap (λ s. s.unreleased) c.release.ensures.releases in
    let held = subst (λ ps. are_past point ps ≡ true) (sym fewer) (held_fewer point (is_at (nat_cmp c.args.point)) w.agents.unreleased is.held) in
    (held_as g.M.Meaning.means w.base.value log w.refs w.atoms w.agents.unreleased is after held, c.self.invariant.1)
