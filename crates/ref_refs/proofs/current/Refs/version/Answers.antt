use Rattle.std.proofs.Common.{ap, slice_get, sym, ◌∙◌}
use Rattle.std.specs.Option.{option_map, option_or}
use Rattle.std.proofs.lemmas.Option.{slice_get_within}
use Rattle.ref_tx.specs.Snapshots.{SnapshotSeen}
use Rattle.ref_tx.specs.declared.snapshots.Version.{Version}
use Rattle.ref_refs.proofs.Taken.{last_at, last_none, value_at, value_none}
use Rattle.ref_refs.proofs.current.Refs.version.Goals as goal

pub returns-in-None-clause-value : goal.returns-in-None-clause-value
returns-in-None-clause-value c = value_none c.self.inside.late c.self.inside.settled c.args.r (sym c.in-None.ensures.value) ∙ ap (λ (s : SnapshotSeen). slice_get s.values c.args.r) c.self.view_is

pub returns-in-None-clause-last : goal.returns-in-None-clause-last
returns-in-None-clause-last c = last_none c.self.inside.late c.self.inside.settled c.args.r (sym c.in-None.ensures.last) ∙ ap (λ (s : SnapshotSeen). slice_get s.lasts c.args.r) c.self.view_is

pub returns-in-Some-latest-clause-value : goal.returns-in-Some-latest-clause-value
returns-in-Some-latest-clause-value c =
    let s = c.self.inside.settled in
    ap (λ o. option_or (option_map (λ (v : Version). v.value) o) (slice_get s.values c.args.r)) c.in-Some-latest.ensures
    ∙ sym (value_at c.self.inside.late s c.args.r (slice_get_within s.values c.args.r c.in-Some.settled.now.value (sym c.in-Some.ensures.value)))
    ∙ ap (λ (t : SnapshotSeen). slice_get t.values c.args.r) c.self.view_is

pub returns-in-Some-latest-clause-last : goal.returns-in-Some-latest-clause-last
returns-in-Some-latest-clause-last c =
    let s = c.self.inside.settled in
    ap (λ o. option_or (option_map (λ (v : Version). v.changed_at) o) (slice_get s.lasts c.args.r)) c.in-Some-latest.ensures
    ∙ sym (last_at c.self.inside.late s c.args.r (slice_get_within s.lasts c.args.r c.in-Some.settled.now.changed_at (sym c.in-Some.ensures.last)))
    ∙ ap (λ (t : SnapshotSeen). slice_get t.lasts c.args.r) c.self.view_is

pub returns-in-None-latest-clause-value : goal.returns-in-None-latest-clause-value
returns-in-None-latest-clause-value c =
    let s = c.self.inside.settled in
    c.in-Some.ensures.value
    ∙ ap (λ o. option_or (option_map (λ (v : Version). v.value) o) (slice_get s.values c.args.r)) c.in-None-latest.ensures
    ∙ sym (value_at c.self.inside.late s c.args.r (slice_get_within s.values c.args.r c.in-Some.settled.now.value (sym c.in-Some.ensures.value)))
    ∙ ap (λ (t : SnapshotSeen). slice_get t.values c.args.r) c.self.view_is

pub returns-in-None-latest-clause-last : goal.returns-in-None-latest-clause-last
returns-in-None-latest-clause-last c =
    let s = c.self.inside.settled in
    c.in-Some.ensures.last
    ∙ ap (λ o. option_or (option_map (λ (v : Version). v.changed_at) o) (slice_get s.lasts c.args.r)) c.in-None-latest.ensures
    ∙ sym (last_at c.self.inside.late s c.args.r (slice_get_within s.lasts c.args.r c.in-Some.settled.now.changed_at (sym c.in-Some.ensures.last)))
    ∙ ap (λ (t : SnapshotSeen). slice_get t.lasts c.args.r) c.self.view_is
