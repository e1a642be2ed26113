use Rattle.std.proofs.Common.{◌≡◌, map, drop}
use Rattle.ref_fun.specs.Names.{code_in}
use Rattle.ref_fun.proofs.names.code_in.Given as goal

abbrev pub invariant-loop-code : goal.invariant-loop-code
invariant-loop-code l =
    code_in (map (λ e. (e.0, e.1.now)) (drop l.code-index l.names)) l.name ≡ code_in (map (λ e. (e.0, e.1.now)) l.names) l.name
