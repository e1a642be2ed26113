use Rattle.ref_edn.proofs.SortKeys.{smaller_first, greater_last}
use Rattle.ref_edn.proofs.sort_keys.Keyed.compare.Goals as goal

pub returns-then-self-other : goal.returns-then-self-other
returns-then-self-other c = rw (← c.self.view_is, ← c.other.view_is) (smaller_first c.self.inside.value c.other.inside.value c.self.inside.key c.other.inside.key c.self.invariant c.other.invariant c.if-self-other.true)

pub returns-then-self-other-2 : goal.returns-then-self-other-2
returns-then-self-other-2 c = rw (← c.self.view_is, ← c.other.view_is) (greater_last c.self.inside.value c.other.inside.value c.self.inside.key c.other.inside.key c.self.invariant c.other.invariant c.if-self-other-2.true)
