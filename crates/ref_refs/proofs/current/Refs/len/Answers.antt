use Rattle.std.proofs.Common.{ap, length, sym, ◌∙◌}
use Rattle.ref_tx.specs.Snapshots.{SnapshotSeen}
use Rattle.ref_refs.proofs.Taken.{all_lasts, all_values}
use Rattle.ref_refs.proofs.current.Refs.len.Goals as goal

pub returns-clause-value : goal.returns-clause-value
returns-clause-value c = c.len.ensures.value ∙ sym (all_values c.self.inside.late c.self.inside.settled) ∙ ap (λ (s : SnapshotSeen). length s.values) c.self.view_is

pub returns-clause-lasts : goal.returns-clause-lasts
returns-clause-lasts c =
    sym (ap (λ (s : SnapshotSeen). length s.lasts) c.self.view_is) ∙ all_lasts c.self.inside.late c.self.inside.settled ∙ c.len.ensures.lasts
    ∙ sym (all_values c.self.inside.late c.self.inside.settled) ∙ ap (λ (s : SnapshotSeen). length s.values) c.self.view_is
