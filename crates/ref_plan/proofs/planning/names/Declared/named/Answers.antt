use Rattle.std.proofs.Common.{◌∙◌}
use Rattle.ref_plan.proofs.Named.{found_is_named}
use Rattle.ref_plan.proofs.planning.names.Declared.named.Goals as goal

pub returns-in-Some : goal.returns-in-Some
returns-in-Some c = found_is_named _ _ _ c.find.ensures.named c.find.ensures.only ∙ c.in-Some.is

pub returns-in-None : goal.returns-in-None
returns-in-None c = λ _. found_is_named _ _ _ c.find.ensures.named c.find.ensures.only ∙ c.in-None.is
