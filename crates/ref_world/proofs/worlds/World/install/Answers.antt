use Rattle.std.proofs.Common.{rules, ◌≡◌, ◌∙◌, ℕ, ◌+◌, ◌++◌, ◌∷◌, [], true, Ok, ap, arith, refl, subst, sym}
use Rattle.ref_log.specs.Replay.{point_after, step}
use Rattle.ref_log.specs.Tally.{IsMoved, moved_by_dones}
use Rattle.ref_log.specs.declared.counting.Side.TheVariants.{Taken}
use Rattle.ref_log.specs.TallyLaws.{books-moved}
use Rattle.ref_refs.specs.Commit.{changed_by, entry_of}
use Rattle.ref_refs.specs.Seen.{are_unchanged_since, changed_at}
use Rattle.ref_world.specs.World.{AreBooks, IsWorld, are_past, point_of, values_now}
use Rattle.ref_agents.specs.Agents.{with_commit, with_unreleased}
use Rattle.ref_world.proofs.Counted.{books_committed}
use Rattle.ref_world.specs.Entered.{entered_same, held_commit, held_still}
use Rattle.ref_world.proofs.worlds.World.install.Goals as goal

pub invariant_of-self-2 : goal.invariant_of-self-2
invariant_of-self-2 g c =
    let means = g.M.Meaning.means in
    let w = c.self.inside in
    let log = w.log in
    let tx = c.args.tx in
    let p = c.args.prepared in
    let ready = rw (← c.self.view_is) at c.requires in
    let e = entry_of c.args.stamp tx in
    let after = c.install.new.self in
    let pushed : c.write-written.new.log ≡ log ++ p.landed.entry ∷ [] = search rules in
    let items : c.write-written.new.log ≡ log ++ e ∷ [] = pushed ∙ ap (λ x. log ++ x ∷ []) ready.entry in
    let point : c.point-at.result ≡ point_after w.base.value log = c.point-at.ensures.value ∙ ap point_of (sym c.self.view_is) in
    let next : step means (point_after w.base.value log + 1) e (values_now w.refs w.atoms) ≡ Ok (values_now after w.atoms) = ready.values w.atoms.values ∙ ap (λ vs. Ok (record { refs = vs; atoms = w.atoms.values })) (sym c.install.ensures.values) in
    let lasts = subst (λ ds. (r : ℕ) → changed_at after.lasts r ≡ changed_by w.refs.lasts (c.point-at.result + 1) ds r) (c.as_slice.ensures ∙ c.in-Ok.ensures ∙ c.shared_dones.ensures) c.install.ensures.lasts in
    let moved = subst (λ k. (r : ℕ) → changed_at after.lasts r ≡ changed_by w.refs.lasts (k + 1) tx.dones r) point lasts in
    let since = subst (λ k. are_unchanged_since after.lasts (k + 1) ≡ true) point c.install.ensures.since in
    let point_next = point_after w.base.value log + 1 in
    let sends = tx.sends in
    let sent : c.write-written.new.agents ≡ with_commit w.agents (c.point-at.result + 1) c.sends-sends.result.now = search rules in
    let unreleased : c.write-written.new.agents.unreleased ≡ with_unreleased point_next sends w.agents.unreleased =
    ap (λ s. s.unreleased) sent ∙ (ap (λ ss. with_unreleased (c.point-at.result + 1) ss w.agents.unreleased) c.sends-sends.ensures ∙ ap (λ k. with_unreleased (k + 1) sends w.agents.unreleased) point) in
    let held = subst (λ ps. are_past point_next ps ≡ true) (sym unreleased) (held_commit point_next sends w.agents.unreleased (held_still means w.base.value log w.refs w.atoms w.agents.unreleased c.self.invariant.0)) in
    let entered = entered_same means w.base.value log w.refs w.atoms w.agents.unreleased c.self.invariant.0 e after w.atoms c.write-written.new.agents.unreleased next moved since held ready.limit refl c.install.ensures.rest.0 in
    let is = c.self.invariant.1 in
    let by_dones = books-moved means g.met.M.Meaning.adds g.met.M.Meaning.takes tx.dones point_next tx.dones w.refs.tally w.refs.values p.refs.values w.books.start w.books.added w.books.taken ready.made ready.fits is.holds in
    let by_added = subst (λ k. IsMoved w.refs.tally p.refs.values w.books.start (w.books.added + k) (w.books.taken + moved_by_dones Taken w.refs.tally tx.dones)) (sym ready.added) by_dones in
    let by_taken = subst (λ k. IsMoved w.refs.tally p.refs.values w.books.start (w.books.added + p.added) (w.books.taken + k)) (sym ready.taken) by_added in
    let holds = subst (λ vs. IsMoved w.refs.tally vs w.books.start (w.books.added + p.added) (w.books.taken + p.taken)) (sym c.install.ensures.values) by_taken in
    let books = books_committed w.base.value log w.refs.tally w.refs.values w.books is e after.tally after.values p.added p.taken c.book.new.self ready.fits refl c.install.ensures.rest.0 ready.added ready.taken (omega (arith, ready.room_added, is.most_added)) (omega (arith, ready.room_taken, is.most_taken)) holds c.book.ensures in
    subst (λ l. IsWorld means w.base.value l after w.atoms c.write-written.new.agents.unreleased × AreBooks w.base.value l after.tally after.values c.book.new.self) (sym items) (entered, books)
