use Rattle.std.proofs.Common.{◌≡◌, ◌==◌, drop}
use Rattle.std.specs.List.{list_any}
use Rattle.ref_history.proofs.places.has_ref.Given as goal

abbrev pub invariant-loop-done : goal.invariant-loop-done
invariant-loop-done l = list_any (λ d. d.r == l.r) (drop l.done-index l.dones) ≡ list_any (λ d. d.r == l.r) l.dones
