-- A job: an action of an agent on its way.
use Rattle.std.specs.Prelude.{ℕ, Result}
use Rattle.ref_value.specs.Edn.{Edn}
use Rattle.ref_fun.specs.declared.actions.Action.{Action}
use Rattle.ref_fun.specs.declared.faults.Cause.{Cause}

pub record JobSeen : Type 0 where
  pub agent : ℕ
  -- how many actions of the agent ended before it, since its last restart or its making
  pub number : ℕ
  pub action : Action
  -- the state that it begins with
  pub state : Edn

-- a job whose action has run, with the value that the function gave, or the cause for which it refused
pub record RanSeen : Type 0 where
  pub job : JobSeen
  pub outcome : Result Edn Cause
