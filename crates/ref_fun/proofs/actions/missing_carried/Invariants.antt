use Rattle.std.proofs.Common.{◌≡◌, ℕ, not, drop, find, map}
use Rattle.ref_fun.proofs.actions.missing_carried.Given as goal

abbrev pub invariant-loop-carry : goal.invariant-loop-carry
invariant-loop-carry g l =
    let lacks = λ (code : ℕ). not ((g.F.Functions.knows l.fn.funs).funs code) in
    find lacks (map (λ c. c.code) (drop l.carry-index l.carries)) ≡ find lacks (map (λ c. c.code) l.fn.carries)
