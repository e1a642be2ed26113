use Rattle.std.proofs.Common.{◌≡◌, take}
use Rattle.ref_refs.specs.Commit.{differs_at}
use Rattle.ref_refs.proofs.Smallest.{IsFirst, IsKnown, protecting}
use Rattle.ref_refs.proofs.checking.first_differing.Given as goal

abbrev pub invariant-loop-done : goal.invariant-loop-done
invariant-loop-done g l = record {
  first : IsFirst (differs_at l.refs.values l.tx.began) (protecting (take l.done-index l.dones)) l.first;
  at : l.i ≡ l.done-index;
  known : IsKnown (protecting (take l.done-index l.dones)) l.known;
}
