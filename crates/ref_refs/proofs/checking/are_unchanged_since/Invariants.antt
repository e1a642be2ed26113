use Rattle.std.proofs.Common.{◌≡◌, drop}
use Rattle.ref_refs.specs.Seen.{are_unchanged_since}
use Rattle.ref_refs.proofs.checking.are_unchanged_since.Given as goal

abbrev pub invariant-loop-r : goal.invariant-loop-r
invariant-loop-r l = are_unchanged_since (drop l.r l.refs.lasts) l.point ≡ are_unchanged_since l.refs.lasts l.point
