use Rattle.std.proofs.Common.{◌≡◌, ℕ, nat_lt, not, drop, find, map}
use Rattle.ref_fun.proofs.actions.absent_carried.Given as goal

abbrev pub invariant-loop-carry : goal.invariant-loop-carry
invariant-loop-carry l =
    let is_absent = λ (h : ℕ). not (nat_lt h l.agents) in
    find is_absent (map (λ c. c.g) (drop l.carry-index l.carries)) ≡ find is_absent (map (λ c. c.g) l.carries)
