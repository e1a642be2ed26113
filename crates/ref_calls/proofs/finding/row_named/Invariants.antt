use Rattle.std.proofs.Common.{◌≡◌, map, drop}
use Rattle.ref_calls.specs.Words.{row_named}
use Rattle.ref_calls.proofs.finding.row_named.Given as goal

abbrev pub invariant-loop-row : goal.invariant-loop-row
invariant-loop-row l =
    row_named (map (λ w. (w.word.now, w.stands, w.since)) (drop l.row-index l.rows)) l.name ≡ row_named (map (λ w. (w.word.now, w.stands, w.since)) l.rows) l.name
