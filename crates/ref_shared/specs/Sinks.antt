-- What the notices of a call do to a sink.
use Rattle.std.specs.Prelude.{◌≡◌, ℕ, List, [], ◌∷◌, Ok}
use Rattle.std.proofs.Common.{◌⊎◌}
use Rattle.ref_value.specs.Edn.{Edn}
use Rattle.ref_fun.specs.Meaning.{Means}
use Rattle.ref_fun.specs.declared.actions.Action.{Action}
use Rattle.ref_agents.specs.declared.ends.Finished.{Finished}
use Rattle.ref_agents.specs.declared.ends.Finished.TheVariants.{Changed, Failed, Continued}
use Rattle.ref_log.specs.declared.notices.Notice.{Notice}
use Rattle.ref_log.specs.declared.notices.Who.TheVariants as who
use Rattle.ref_shared.specs.Commits.{AreNotices}
use Rattle.ref_shared.specs.declared.working.Worked.{Worked}
use Rattle.ref_shared.specs.declared.working.Worked.TheVariants as works

-- A sink takes these notices, one after the other, each once, and nothing else.
abbrev pub TakesAll : {S : Type 0} → (S → Notice → S → Type 0) → S → List Notice → S → Type 0
TakesAll takes before [] after = after ≡ before
TakesAll {S} takes before (n ∷ notices) after = (between : S) × takes before n between × TakesAll takes between notices after

-- The notices of an action: the agent's state before, and what the function gave on it.
pub record AreOfAction (means : Means) (g : ℕ) (notices : List Notice) : Type 0 where
  pub action : Action
  pub before : Edn
  pub after : Edn
  pub gave : means action.code action.args before ≡ Ok after
  pub are : AreNotices (who.Agent g) before after notices

-- the notices of an action that ended: none if it didn't change the agent
abbrev pub notices_in : Finished → List Notice
notices_in (Changed notices) = notices.items
notices_in (Failed error) = []
notices_in (Continued error) = []

-- What `ended` does to a sink: nothing, as by default, or what its implementer says.
abbrev pub Ends : {S : Type 0} → (S → ℕ → Finished → S → Type 0) → S → ℕ → Finished → S → Type 0
Ends ends before g finished after = (after ≡ before) ⊎ ends before g finished after

-- The end of an action of g: the sink takes its notices, and then how it ended.
abbrev pub TakesEnd : {S : Type 0} → (S → Notice → S → Type 0) → (S → ℕ → Finished → S → Type 0) → S → ℕ → Finished → S → Type 0
TakesEnd {S} takes ends before g finished after =
    (between : S) × TakesAll takes before (notices_in finished) between × Ends ends between g finished after

-- What work does to a sink: it takes the end of the action that was run, with the notices of that action, or none if the action didn't
-- change the agent.
abbrev pub Tells : {S : Type 0} → (S → Notice → S → Type 0) → (S → ℕ → Finished → S → Type 0) → Means → S → S → Worked → Type 0
Tells takes ends means before after (works.Did g) =
    (finished : Finished) × TakesEnd takes ends before g finished after
    × ((notices_in finished ≡ []) ⊎ AreOfAction means g (notices_in finished))
Tells takes ends means before after works.Closed = after ≡ before
