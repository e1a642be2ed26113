use Rattle.std.proofs.Common.{rules, ◌≡◌, ◌-◌, take, drop, subst}
use Rattle.ref_log.specs.Fold.{IsFolded}
use Rattle.ref_log.specs.declared.states.Base.{Base}
use Rattle.ref_world.proofs.Folded.{books_folded, world_folded}
use Rattle.ref_world.proofs.worlds.World.checkpoint.Goals as goal

pub invariant_of-self : goal.invariant_of-self
invariant_of-self g c =
    let means = g.M.Meaning.means in
    let w = c.self.inside in
    let is = c.self.invariant in
    let after = c.in_ok-base.base.value in
    let count = c.args.point - w.base.value.point in
    let second : c.deref-2.result.now ≡ w.base.value = search rules in
    let third : c.deref-3.result.now ≡ w.base.value = search rules in
    let folded = subst (λ (b : Base). IsFolded means b (take count w.log) after) third (subst (λ (b : Base). IsFolded means c.deref-3.result.now (take (c.args.point - b.point) w.log) after) second c.in_ok-base.ensures.folded) in
    let rest : c.in_ok-base.log ≡ drop count w.log = subst (λ (b : Base). c.in_ok-base.log ≡ drop (c.args.point - b.point) w.log) second c.in_ok-base.ensures.rest in
    rw rest (
      world_folded means w.base.value w.log count after w.refs w.atoms w.agents.unreleased folded is.0,
      books_folded means w.base.value w.log count after w.refs.tally w.refs.values w.books folded is.0.tally is.1,
    )
