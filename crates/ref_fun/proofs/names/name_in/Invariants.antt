use Rattle.std.proofs.Common.{◌≡◌, map, drop}
use Rattle.ref_fun.specs.Names.{name_in}
use Rattle.ref_fun.proofs.names.name_in.Given as goal

abbrev pub invariant-loop-other : goal.invariant-loop-other
invariant-loop-other l =
    name_in (map (λ e. (e.0, e.1.now)) (drop l.other-index l.names)) l.code ≡ name_in (map (λ e. (e.0, e.1.now)) l.names) l.code
