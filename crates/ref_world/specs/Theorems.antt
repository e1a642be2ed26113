-- Laws of every legal history.
use Rattle.std.specs.Prelude.{◌≡◌, ◌≤◌, ℕ, ◌+◌, List, Ok, slice_get}
use Rattle.ref_fun.specs.Meaning.{Means}
use Rattle.ref_log.specs.Replay.{replay, step}
use Rattle.ref_log.specs.Tally.{commits_of}
use Rattle.ref_log.specs.declared.entries.Entry.{Entry}
use Rattle.ref_log.specs.declared.states.Base.{Base}
use Rattle.ref_log.specs.declared.states.PlainState.{PlainState}
use Rattle.ref_world.specs.History.{Begins, IsCut, IsLegal, changed_in, point_in, refs_in, state_in, upto, with_entry}
use Rattle.ref_world.specs.Seen.{HistorySeen}

-- What begins a legal history is legal.
abbrev pub BeginningsAreLegal : Means → Type 0
BeginningsAreLegal means = (one h : HistorySeen) → Begins one h → IsLegal means h → IsLegal means one

-- Each entry was a legal step, at the next point, on the values that the entries before it left: its operations gave the answers that it has.
abbrev pub EntriesFollow : Means → Type 0
EntriesFollow means = (one h : HistorySeen) (e : Entry) → Begins (with_entry one e) h → IsLegal means h
    → (before after : PlainState) × (state_in means one ≡ Ok before) × (step means (point_in one + 1) e before ≡ Ok after) × (state_in means (with_entry one e) ≡ Ok after)

-- A ref that hasn't changed since a point has the value that it had there.
abbrev pub UnchangedStays : Means → Type 0
UnchangedStays means = (h : HistorySeen) (point r : ℕ) → IsLegal means h → changed_in h r ≤ point
    → slice_get (refs_in means h) r ≡ slice_get (refs_in means (upto h point)) r

-- Of a base and a log that are parts of a history, the values after the log are those after the history, and so are the commits.
pub record AddsUp (means : Means) (h : HistorySeen) (base : Base) (log : List Entry) : Type 0 where
  pub values : state_in means h ≡ replay means base log
  pub commits : h.start.commits + commits_of h.entries ≡ base.commits + commits_of log

abbrev pub PartsAddUp : Means → Type 0
PartsAddUp means = (h : HistorySeen) (base : Base) (log : List Entry) → IsCut means h base log → AddsUp means h base log
