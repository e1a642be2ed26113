use Rattle.std.proofs.Common.{◌≡◌, None, refl, sym, ap, ◌∙◌}
use Rattle.ref_log.specs.Guards.{AreAccepted}
use Rattle.ref_refs.specs.Commit.{first_invalid}
use Rattle.ref_refs.specs.Seen.{RefsSeen}
use Rattle.ref_refs.specs.Watches.{touched_refs}
use Rattle.ref_refs.proofs.Accepted.{accepted_after, known_touched}
use Rattle.ref_refs.proofs.Unguarded.{invalid_none}
use Rattle.ref_refs.proofs.store.RefStore.check_rules.Goals as goal

pub first_invalid-requires : goal.first_invalid-requires
first_invalid-requires g c =
    let guards_are = ap (λ (s : RefsSeen). s.guards) c.self.view_is in
    rw (guards_are, c.deref.ensures.value, c.in_ok-touched.ensures) (known_touched (g.F.Functions.knows c.args.funs.now).preds c.args.self.now.guards c.args.dones.now c.requires.known)

pub returns-in-None-clause-accepted : goal.returns-in-None-clause-accepted
returns-in-None-clause-accepted g c =
    let accepts = g.M.Meaning.accepts in
    let store = c.args.self.now in
    let guards_are = ap (λ (s : RefsSeen). s.guards) c.self.view_is in
    let touched_are : c.deref.result.now ≡ touched_refs c.args.dones.now = c.deref.ensures.value ∙ c.in_ok-touched.ensures in
    let none : first_invalid accepts store.guards c.args.refs.now.values (touched_refs c.args.dones.now) ≡ None = rw (← guards_are, ← touched_are) (sym c.first_invalid.ensures ∙ c.in-None.is) in
    let before : AreAccepted accepts store.guards store.values = rw (← c.self.view_is) c.self.invariant.3 in
    accepted_after g.M.Meaning.means accepts store.guards c.args.dones.now 0 store.values c.args.refs.now.values (c.requires.made 0) before none

pub returns-then-are_unguarded-clause-accepted : goal.returns-then-are_unguarded-clause-accepted
returns-then-are_unguarded-clause-accepted g c =
    let accepts = g.M.Meaning.accepts in
    let store = c.args.self.now in
    let guards_are = ap (λ (s : RefsSeen). s.guards) c.self.view_is in
    let none : first_invalid accepts store.guards c.args.refs.now.values (touched_refs c.args.dones.now) ≡ None = rw (← guards_are) (invalid_none accepts c.self.inside.guards c.args.refs.now.values (touched_refs c.args.dones.now) (c.if-are_unguarded.ensures refl)) in
    let before : AreAccepted accepts store.guards store.values = rw (← c.self.view_is) c.self.invariant.3 in
    accepted_after g.M.Meaning.means accepts store.guards c.args.dones.now 0 store.values c.args.refs.now.values (c.requires.made 0) before none
