use Rattle.std.proofs.Common.{rules, ◌≡◌, ◌∙◌, ℕ, cond, true, ◌≤◌, ◌^◌, ◌+◌, ◌++◌, ◌∷◌, [], Ok, ap, refl, subst, sym}
use Rattle.ref_log.specs.Replay.{point_after}
use Rattle.ref_log.specs.Tally.{counted}
use Rattle.ref_log.specs.declared.entries.Entry.TheVariants.{MadeRef}
use Rattle.ref_log.specs.declared.states.Base.{Base}
use Rattle.ref_refs.specs.Make.{made_at}
use Rattle.ref_refs.specs.Seen.{RefsSeen, are_unchanged_since, changed_at}
use Rattle.ref_world.specs.World.{AreBooks, IsWorld, point_of, with_tally}
use Rattle.ref_world.proofs.Counted.{books_made}
use Rattle.ref_world.specs.Entered.{entered, held_still, since_later}
use Rattle.ref_world.proofs.worlds.World.make_ref.Goals as goal

pub add-requires-clause-last : goal.add-requires-clause-last
add-requires-clause-last g c =
    let w = c.self.inside in
    let point : c.point-at.result ≡ point_after w.base.value w.log = c.point-at.ensures.value ∙ ap point_of (sym c.self.view_is) in
    subst (λ p. are_unchanged_since w.refs.lasts (p + 1) ≡ true) (sym point) (since_later w.refs.lasts (point_after w.base.value w.log) c.self.invariant.0.since)

pub invariant_of-self-2 : goal.invariant_of-self-2
invariant_of-self-2 g c =
    let w = c.self.inside in
    let log = w.log in
    let v = c.args.value in
    let after = c.add.new.self in
    let items : c.in_ok-log.log ≡ log ++ MadeRef v ∷ [] = search rules in
    let point : c.point-at.result ≡ point_after w.base.value log = c.point-at.ensures.value ∙ ap point_of (sym c.self.view_is) in
    let limit = subst (λ p. p + 1 ≤ 2 ^ 62) point c.in_ok-check_make.ensures.limit in
    let moved = subst (λ p. (r : ℕ) → changed_at after.lasts r ≡ made_at w.refs (p + 1) r) point c.in_ok-r.ensures.lasts in
    let adds = c.in_ok-r.ensures.adds in
    let since = subst (λ p. are_unchanged_since after.lasts (p + 1) ≡ true) point c.add.ensures.since in
    let is = c.self.invariant in
    let entered = entered g.M.Meaning.means w.base.value log w.refs w.atoms w.agents.unreleased is.0 (MadeRef v) after w.atoms w.agents.unreleased (ap (λ (s : RefsSeen). Ok (record { refs = s.values; atoms = w.atoms.values })) (sym adds)) moved since (held_still g.M.Meaning.means w.base.value log w.refs w.atoms w.agents.unreleased is.0) limit refl in
    let began : c.start.new.self ≡ record w.books { start = cond c.args.tally (counted (v ∷ [])) w.books.start } =
    c.start.ensures ∙ ap (λ (n : ℕ). record w.books { start = cond c.args.tally n w.books.start }) c.count-start.ensures in
    let books = books_made g.M.Meaning.means w.base.value log w.refs.tally w.refs.values w.atoms.values w.books v c.args.tally after.tally after.values c.start.new.self is.1 is.0.replayed c.in_ok-check_make.ensures.tally (ap (λ (s : RefsSeen). s.tally) adds) (ap (λ (s : RefsSeen). s.values) adds) began in
    let tally : c.next_tally-next.result ≡ after.tally = c.next_tally-next.ensures ∙ sym (ap (λ (s : RefsSeen). s.tally) adds) in
    let named : c.in_ok-base.base.value ≡ with_tally after.tally w.base.value = c.in_ok-base.ensures ∙ ap (λ t. with_tally t w.base.value) tally in
    subst (λ (b : Base). IsWorld g.M.Meaning.means b c.in_ok-log.log after w.atoms w.agents.unreleased × AreBooks b c.in_ok-log.log after.tally after.values c.start.new.self) (sym named)
    (subst (λ l. IsWorld g.M.Meaning.means (with_tally after.tally w.base.value) l after w.atoms w.agents.unreleased × AreBooks (with_tally after.tally w.base.value) l after.tally after.values c.start.new.self) (sym items) (entered, books))
