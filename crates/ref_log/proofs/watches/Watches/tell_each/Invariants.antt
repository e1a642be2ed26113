use Rattle.std.proofs.Common.{◌≡◌, ◌++◌, drop, length, take}
use Rattle.ref_log.specs.Watches.{notices_of}
use Rattle.ref_log.proofs.watches.Watches.tell_each.Given as goal

abbrev pub invariant-loop-key : goal.invariant-loop-key
invariant-loop-key l =
    (l.all.items ++ notices_of l.who (drop l.key-index l.key-items) l.before l.after ≡ l.fn.all.items ++ notices_of l.who l.key-items l.before l.after)
    × (take (length l.fn.all.items) l.all.items ≡ l.fn.all.items)
