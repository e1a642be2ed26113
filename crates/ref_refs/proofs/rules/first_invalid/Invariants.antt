use Rattle.std.proofs.Common.{◌≡◌, drop}
use Rattle.ref_refs.specs.Commit.{first_invalid}
use Rattle.ref_refs.proofs.rules.first_invalid.Given as goal

abbrev pub invariant-loop-r : goal.invariant-loop-r
invariant-loop-r g l =
    let accepts = g.M.Meaning.accepts in
    first_invalid accepts l.guards l.refs.values (drop l.r-index l.touched) ≡ first_invalid accepts l.guards l.refs.values l.touched
