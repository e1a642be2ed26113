-- What is printed of a text: each of its elements on a line.
use Rattle.std.specs.Prelude.{◌≡◌, ◌<◌, List, ℕ, [], ◌∷◌, ◌++◌, length}
use Rattle.ref_value.specs.Edn.{Edn}
use Rattle.ref_edn.specs.Grammar.{AreTexts}
use Rattle.ref_edn.specs.Printed.{printed}
use Rattle.ref_workload.specs.Streams.{IsFaultOfAll, IsInputAtFault}
use Rattle.ref_workload.specs.declared.faults.RunFault.{RunFault}
use Rattle.ref_workload.specs.declared.faults.RunFault.TheVariants as faults

abbrev pub newline : List ℕ
newline = 10 ∷ []

-- Each value stands on a line of its own.
abbrev pub printed_lines : List Edn → List ℕ
printed_lines [] = []
printed_lines (value ∷ values) = printed value ++ newline ++ printed_lines values

-- The text is these elements, one after another, and the output is what is printed of them.
pub record IsPrintOf (text output : List ℕ) : Type 0 where
  pub values : List Edn
  pub belongs : AreTexts text values
  pub output_is : output ≡ printed_lines values

-- what a fault says of the text that was there to read, of which so many bytes are allowed
abbrev pub IsAtFault : ℕ → List ℕ → RunFault → Type 0
IsAtFault most text faults.InputTooLong = most < length text
IsAtFault most text fault = IsInputAtFault AreTexts IsFaultOfAll text fault

-- faults that come from a text whose elements are printed and from its output, and those of printing it in addition: nothing is planned or
-- run
abbrev pub IsOfElements : RunFault → Type 0
IsOfElements (faults.NotEdn fault) = Unit {0}
IsOfElements faults.Write = Unit {0}
IsOfElements faults.Memory = Unit {0}
IsOfElements fault = ⊥

abbrev pub IsOfPrinting : RunFault → Type 0
IsOfPrinting (faults.Plan fault) = ⊥
IsOfPrinting faults.Internal = ⊥
IsOfPrinting fault = Unit {0}
