use Rattle.std.proofs.Common.{◌≡◌, ◌++◌, take}
use Rattle.std.specs.FinMap.{entries}
use Rattle.std.specs.List.{flat_map}
use Rattle.ref_pmap.specs.Whole.{shown}
use Rattle.ref_pmap.proofs.trees.+add_entries.Given as goal

abbrev pub invariant-loop-side : goal.invariant-loop-side
invariant-loop-side g l = shown l.out.items ≡ shown l.fn.out.items ++ flat_map (λ d. entries d.0) (take l.side-index l.side-items)
