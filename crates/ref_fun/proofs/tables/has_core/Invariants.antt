use Rattle.std.proofs.Common.{◌≡◌, ℕ, ◌<◌, ◌≤◌, true}
use Rattle.ref_fun.proofs.tables.has_core.Given as goal

abbrev pub invariant-loop-code : goal.invariant-loop-code
invariant-loop-code g l = (code : ℕ) → 1 ≤ code → code < l.code → (g.F.Functions.knows l.funs).funs code ≡ true

abbrev pub invariant-loop-code-2 : goal.invariant-loop-code-2
invariant-loop-code-2 g l = record {
  funs : (code : ℕ) → 1 ≤ code → code ≤ 10 → (g.F.Functions.knows l.funs).funs code ≡ true;
  preds : (code : ℕ) → 101 ≤ code → code < l.code → (g.F.Functions.knows l.funs).preds code ≡ true;
}
