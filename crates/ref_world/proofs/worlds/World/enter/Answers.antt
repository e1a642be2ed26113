use Rattle.std.proofs.Common.{rules, ◌≡◌, ◌∙◌, ◌++◌, ◌∷◌, [], Ok, ap, subst, sym}
use Rattle.ref_world.specs.World.{AreBooks, IsWorld}
use Rattle.ref_world.proofs.Counted.{books_same}
use Rattle.ref_world.specs.Entered.{atom_entered}
use Rattle.ref_world.proofs.worlds.World.enter.Goals as goal

pub invariant_of-self-2 : goal.invariant_of-self-2
invariant_of-self-2 g c =
    let w = c.self.inside in
    let log = w.log in
    let change = c.args.change in
    let items : c.push.new.self ≡ log ++ change.entry ∷ [] = search rules in
    let next = rw (← c.self.view_is) at c.requires.step in
    let limit = rw (← c.self.view_is) at c.requires.limit in
    subst (λ l. IsWorld g.M.Meaning.means w.base.value l w.refs c.install.new.self w.agents.unreleased × AreBooks w.base.value l w.refs.tally w.refs.values w.books) (sym items) (
      atom_entered g.M.Meaning.means w.base.value log w.refs w.atoms w.agents.unreleased c.self.invariant.0 change.entry c.install.new.self c.args.a change.value next (ap (λ s. s.values) c.install.ensures) c.requires.leaves limit c.requires.sets,
      books_same w.base.value log w.refs.tally w.refs.values w.books c.self.invariant.1 change.entry w.refs.values (c.requires.uncounted w.refs.tally) c.self.invariant.1.holds,
    )

pub returns-clause-values : goal.returns-clause-values
returns-clause-values g c =
    let w = c.self.inside in
    let next = rw (← c.self.view_is) at c.requires.step in
    rw (← c.self.view_is) (next w.refs.values ∙ ap (λ vs. Ok (record { refs = w.refs.values; atoms = vs })) (sym (ap (λ s. s.values) c.install.ensures)))
