use Rattle.std.proofs.Common.{◌≡◌, take}
use Rattle.ref_pvec.specs.Chunks.{values}
use Rattle.ref_pvec.proofs.chunks.shared_items.Given as goal

-- the items so far are those that the owners so far own
abbrev pub invariant-loop-item : goal.invariant-loop-item
invariant-loop-item g l = values l.items.items ≡ values (take l.item-index l.owners)
