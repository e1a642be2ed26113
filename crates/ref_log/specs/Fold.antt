-- What a base holds after entries are folded into it.
use Rattle.std.specs.Prelude.{◌≡◌, ℕ, ◌+◌, List, length, slice_index_or, Ok}
use Rattle.ref_fun.specs.Meaning.{Means}
use Rattle.ref_log.specs.Replay.{last_change, point_after, replay, state_of}
use Rattle.ref_log.specs.Tally.{commits_of, moved_of}
use Rattle.ref_log.specs.declared.counting.Side.TheVariants.{Added, Taken}
use Rattle.ref_log.specs.declared.entries.Entry.{Entry}
use Rattle.ref_log.specs.declared.states.Base.{Base}

-- It has the point of the last of them, the values that their replay gives, the last change of each ref, and the books up to there.
-- The tally stays.
pub record IsFolded (means : Means) (base : Base) (entries : List Entry) (after : Base) : Type 0 where
  pub point : after.point ≡ point_after base entries
  pub replayed : replay means base entries ≡ Ok (state_of after)
  pub changed : (r : ℕ) → slice_index_or after.last r 0 ≡ last_change base entries r
  pub lasts : length after.last ≡ length after.refs
  pub tally : after.tally ≡ base.tally
  pub commits : after.commits ≡ base.commits + commits_of entries
  pub added : after.added ≡ base.added + moved_of Added base.tally entries
  pub taken : after.taken ≡ base.taken + moved_of Taken base.tally entries
