use Rattle.std.proofs.Common.{◌≡◌, ◌<◌, length, List}
use Rattle.std.specs.List.{All}
use Rattle.ref_shared.specs.Commits.{IsLater}
use Rattle.ref_shared.specs.Bodies.{Call, Called, IsRetried, seeing}
use Rattle.ref_shared.proofs.shared.Shared.transact_as.Given as goal

abbrev pub invariant-loop-attempt : goal.invariant-loop-attempt
invariant-loop-attempt g l = record {
  body : g.B.Body.may l.body;
  share : IsLater l.fn.share l.share;
  sink : l.sink ≡ l.fn.sink;
  called : (calls : List (Call _)) × Called (seeing g.M.Meaning.means l.share.history g.B.Body.does) l.fn.body calls l.body × (length calls ≡ l.attempt) × All (IsRetried l.share.history) calls;
  room : l.attempt < l.tries;
}
