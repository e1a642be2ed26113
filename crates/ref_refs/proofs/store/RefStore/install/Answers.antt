use Rattle.std.proofs.Common.{◌≡◌, ap, arith, length, subst, ◌∙◌}
use Rattle.ref_log.specs.Laws.{after_dones-length}
use Rattle.ref_log.specs.Tally.{moved, moved_by_dones, tally_value}
use Rattle.ref_log.specs.declared.counting.Side.TheVariants.{Added, Taken}
use Rattle.ref_tx.specs.Snapshots.{SnapshotSeen}
use Rattle.ref_refs.specs.Seen.{RefsSeen, are_unchanged_since}
use Rattle.ref_refs.proofs.Since.{since_commit}
use Rattle.ref_refs.proofs.Tallies.{counts_then}
use Rattle.ref_refs.proofs.store.RefStore.install.Goals as goal

pub invariant_of-self : goal.invariant_of-self
invariant_of-self g c =
    let means = g.M.Meaning.means in
    let w = c.self.inside in
    let dones = c.args.dones.now in
    let made = rw (← c.self.view_is) at c.requires.made in
    let accepted = rw (← c.self.view_is) at c.requires.accepted in
    let fits = rw (← c.self.view_is) at c.requires.fits in
    let same : length c.args.refs.values ≡ length w.refs.values = after_dones-length means dones c.args.at dones w.refs.values c.args.refs.values made in
    let was = c.self.invariant in
    let counts = counts_then means g.met.M.Meaning.adds g.met.M.Meaning.takes dones c.args.at dones w.tally w.refs.values c.args.refs.values made fits was.4 in
    let all = rw (← c.self.view_is) at c.requires.all in
    let values_are : c.settle.new.self.values ≡ c.args.refs.values = ap (λ (s : SnapshotSeen). s.values) c.settle.ensures ∙ c.make.ensures.values in
    let lasts_are : c.settle.new.self.lasts ≡ c.args.refs.lasts = ap (λ (s : SnapshotSeen). s.lasts) c.settle.ensures ∙ c.make.ensures.lasts in
    rw (values_are, lasts_are) (omega (arith, same, was.0, all), omega (arith, same, was.1), omega (arith, same, was.2), accepted, counts.0)

pub returns-clause-since : goal.returns-clause-since
returns-clause-since g c =
    let last = rw (← c.self.view_is) at c.requires.last in
    let moved = rw (← c.self.view_is) at c.requires.moved in
    ap (λ (s : SnapshotSeen). are_unchanged_since s.lasts c.args.at) c.settle.ensures ∙ ap (λ l. are_unchanged_since l c.args.at) c.make.ensures.lasts
    ∙ since_commit c.self.inside.refs.lasts c.args.refs.lasts c.args.at c.args.dones.now last moved

pub returns-clause-tally : goal.returns-clause-tally
returns-clause-tally g c =
    let means = g.M.Meaning.means in
    let w = c.self.inside in
    let dones = c.args.dones.now in
    let made = rw (← c.self.view_is) at c.requires.made in
    let fits = rw (← c.self.view_is) at c.requires.fits in
    let counts = counts_then means g.met.M.Meaning.adds g.met.M.Meaning.takes dones c.args.at dones w.tally w.refs.values c.args.refs.values made fits c.self.invariant.4 in
    ap (λ (s : SnapshotSeen). tally_value w.tally s.values) c.settle.ensures ∙ ap (tally_value w.tally) c.make.ensures.values
    ∙ subst (λ (s : RefsSeen). tally_value w.tally c.args.refs.values ≡ moved (tally_value s.tally s.values) (moved_by_dones Added s.tally dones) (moved_by_dones Taken s.tally dones)) c.self.view_is counts.1
