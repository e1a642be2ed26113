use Rattle.std.proofs.Common.{◌≡◌, ◌<◌, length, List}
use Rattle.std.specs.List.{All}
use Rattle.ref_shared.specs.Commits.{IsLater}
use Rattle.ref_shared.specs.Bodies.{Call, Called, seeing}
use Rattle.ref_shared.specs.Waits.{IsCalledAgain, tried}
use Rattle.ref_shared.proofs.shared.Shared.transact_as_when.Given as goal

abbrev pub invariant-loop : goal.invariant-loop
invariant-loop g l = record {
  body : g.B.Body.may l.body;
  share : IsLater l.fn.share l.share;
  sink : l.sink ≡ l.fn.sink;
  called : (calls : List (Call _)) × Called (seeing g.M.Meaning.means l.share.history g.B.Body.does) l.fn.body calls l.body × (length (tried calls) ≡ l.conflicts) × All (IsCalledAgain l.share.history) calls;
  room : l.conflicts < l.tries;
}
