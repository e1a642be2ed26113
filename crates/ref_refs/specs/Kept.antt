-- How a draft is stored.
use Rattle.ref_tx.specs.Snapshots.{SnapshotSeen}
use Rattle.ref_refs.specs.Drafts.{DraftSeen}
use Rattle.ref_refs.specs.Late.{all_taken}
use Rattle.ref_refs.specs.declared.drafts.Kept.{Kept}
use Rattle.ref_refs.specs.declared.drafts.Kept.TheVariants.{Few, Whole}

-- the refs after what is kept of the changes: few of them, or all refs
abbrev pub after_kept : Kept → SnapshotSeen → SnapshotSeen
after_kept (Few late) base = all_taken late base
after_kept (Whole refs) base = refs

abbrev pub drafted : SnapshotSeen → SnapshotSeen → DraftSeen
drafted base after = record { base = base; values = after.values; lasts = after.lasts }
