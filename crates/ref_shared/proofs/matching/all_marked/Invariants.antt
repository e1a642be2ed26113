use Rattle.std.proofs.Common.{◌≡◌, ◌<◌, ℕ, Some, true, false, slice_get, slice_index_or}
use Rattle.ref_shared.specs.Gather.{has_receipt}
use Rattle.ref_shared.proofs.matching.all_marked.Given as goal

abbrev pub invariant-loop-i : goal.invariant-loop-i
invariant-loop-i l = (i : ℕ) (e : _) → i < l.i → slice_get l.fn.log i ≡ Some e → has_receipt e ≡ true → slice_index_or l.fn.met i false ≡ true
