use Rattle.std.proofs.Common.{rules, ◌≡◌, ◌∙◌, ◌≤◌, ◌^◌, ◌+◌, ◌++◌, ◌∷◌, [], Ok, ap, refl, subst, sym}
use Rattle.ref_log.specs.Replay.{point_after}
use Rattle.ref_log.specs.declared.entries.Entry.TheVariants.{MadeAtom}
use Rattle.ref_world.specs.World.{AreBooks, IsWorld, point_of}
use Rattle.ref_world.proofs.Counted.{books_same}
use Rattle.ref_world.specs.Entered.{entered_same, held_still, since_later}
use Rattle.ref_world.proofs.worlds.World.make_atom.Goals as goal

pub invariant_of-self-2 : goal.invariant_of-self-2
invariant_of-self-2 g c =
    let w = c.self.inside in
    let log = w.log in
    let v = c.args.value in
    let is = c.self.invariant.0 in
    let items : c.in_ok-log.log ≡ log ++ MadeAtom v ∷ [] = search rules in
    let point : c.point-at.result ≡ point_after w.base.value log = c.point-at.ensures.value ∙ ap point_of (sym c.self.view_is) in
    let limit = subst (λ p. p + 1 ≤ 2 ^ 62) point c.in_ok-check_make.ensures.limit in
    subst (λ l. IsWorld g.M.Meaning.means w.base.value l w.refs c.add.new.self w.agents.unreleased × AreBooks w.base.value l w.refs.tally w.refs.values w.books) (sym items) (
      entered_same g.M.Meaning.means w.base.value log w.refs w.atoms w.agents.unreleased is (MadeAtom v) w.refs c.add.new.self w.agents.unreleased (ap (λ vs. Ok (record { refs = w.refs.values; atoms = vs })) (sym (ap (λ s. s.values) c.in_ok-a.ensures.adds))) (λ r. refl) (since_later w.refs.lasts (point_after w.base.value log) is.since) (held_still g.M.Meaning.means w.base.value log w.refs w.atoms w.agents.unreleased is) limit refl refl,
      books_same w.base.value log w.refs.tally w.refs.values w.books c.self.invariant.1 (MadeAtom v) w.refs.values (refl, refl, refl, refl) c.self.invariant.1.holds,
    )
