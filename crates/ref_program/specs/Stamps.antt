-- How the stamps of a worker follow one another.
use Rattle.std.specs.Prelude.{◌≡◌, ◌⊎◌, ◌+◌, ◌-◌, ◌≤◌, ◌^◌, ℕ}
use Rattle.ref_log.specs.declared.entries.Stamp.{Stamp}

-- The next stamp of a worker, of a crew of so many: the next step, or, after the last one, the first step of the worker whose number is by so
-- many greater. So no two of a crew come to the same stamp, and the steps of each number rise.
abbrev pub IsNext : ℕ → Stamp → Stamp → Type 0
IsNext workers stamp next =
    (next ≡ record stamp { step = stamp.step + 1 })
    ⊎ (stamp.step ≡ 2 ^ 32 - 1) × (next ≡ record { worker = stamp.worker + workers; step = 0 })

-- There is no stamp behind this one.
abbrev pub HasNoStamp : Stamp → ℕ → Type 0
HasNoStamp stamp workers = (stamp.step ≡ 2 ^ 32 - 1) × (2 ^ 32 ≤ stamp.worker + workers)

-- The stamp is still to be used, or the next one is.
abbrev pub IsNoEarlier : ℕ → Stamp → Stamp → Type 0
IsNoEarlier workers stamp next = (next ≡ stamp) ⊎ IsNext workers stamp next
