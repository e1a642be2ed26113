use Rattle.std.proofs.Common.{◌≡◌, ◌||◌, None, take}
use Rattle.ref_refs.specs.Commit.{changed_after, differs_at}
use Rattle.ref_refs.proofs.Smallest.{IsFirst, IsKnown, protecting}
use Rattle.ref_refs.proofs.checking.is_any_other.Given as goal

abbrev pub invariant-loop-done : goal.invariant-loop-done
invariant-loop-done g l = record {
  first : IsFirst (λ r. changed_after l.refs.lasts l.tx.read_point r || differs_at l.refs.values l.tx.began r) (protecting (take l.done-index l.dones)) None;
  at : l.i ≡ l.done-index;
  known : IsKnown (protecting (take l.done-index l.dones)) l.known;
}
