-- The words that steps, operations and acts begin with, each a keyword. Those of marks stand in ref_forms and ref_plan.
use Rattle.std.specs.Prelude.{ℕ, if◌then◌else◌, Bool, true, false, List, [], ◌∷◌, Option, None, Some, option_and_then, codes}
use Rattle.ref_value.specs.Names.{bytes_eq}
use Rattle.ref_calls.specs.declared.rows.Stands.{Stands}
use Rattle.ref_calls.specs.declared.rows.Stands.TheVariants.{Step, Operation, Act, StepAndAct, OperationAndAct, Anywhere}
use Rattle.ref_calls.specs.declared.words.Version.{Version}
use Rattle.ref_calls.specs.declared.words.Version.TheVariants.{One, Two}
use Rattle.ref_calls.specs.declared.words.StepWord.{StepWord}
use Rattle.ref_calls.specs.declared.words.StepWord.TheVariants as steps
use Rattle.ref_calls.specs.declared.words.OperationWord.{OperationWord}
use Rattle.ref_calls.specs.declared.words.OperationWord.TheVariants as operations
use Rattle.ref_calls.specs.declared.words.ActWord.{ActWord}
use Rattle.ref_calls.specs.declared.words.ActWord.TheVariants.{Tx, Job, Atom, Agent, Reference, World, Making}
use Rattle.ref_calls.specs.declared.words.TxWord.TheVariants as txs
use Rattle.ref_calls.specs.declared.words.JobWord.TheVariants as jobs
use Rattle.ref_calls.specs.declared.words.AtomWord.TheVariants as atoms
use Rattle.ref_calls.specs.declared.words.AgentWord.TheVariants as agents
use Rattle.ref_calls.specs.declared.words.ReferenceWord.TheVariants as references
use Rattle.ref_calls.specs.declared.words.WorldWord.TheVariants as worlds
use Rattle.ref_calls.specs.declared.words.MakingWord.TheVariants as makings

-- each word with what it is the word of, and the first version of workloads that has it
unfoldable pub words : List (List ℕ × Stands × Version)
words =
    (codes "tx", Step steps.Tx, One)
    ∷ (codes "begin", Act (Tx txs.Begin), One)
    ∷ (codes "deref", Act (Tx txs.Deref), One)
    ∷ (codes "set", Operation operations.Set, One)
    ∷ (codes "ref-set", Act (Tx txs.RefSet), One)
    ∷ (codes "alter", OperationAndAct operations.Alter (Tx txs.Alter), One)
    ∷ (codes "commute", OperationAndAct operations.Commute (Tx txs.Commute), One)
    ∷ (codes "ensure", OperationAndAct operations.Ensure (Tx txs.Ensure), One)
    ∷ (codes "send-in-tx", Act (Tx txs.SendInTx), One)
    ∷ (codes "send-carry-in-tx", Act (Tx txs.SendCarryInTx), One)
    ∷ (codes "require", OperationAndAct operations.Require (Tx txs.Require), One)
    ∷ (codes "read-point", Act (Tx txs.ReadPoint), One)
    ∷ (codes "commit", Act (Tx txs.Commit), One)
    ∷ (codes "abort", Act (Tx txs.Abort), One)
    ∷ (codes "take", Act (Job jobs.Take), One)
    ∷ (codes "run", Act (Job jobs.Run), One)
    ∷ (codes "put-back", Act (Job jobs.PutBack), One)
    ∷ (codes "finish", Act (Job jobs.Finish), One)
    ∷ (codes "swap", StepAndAct steps.Swap (Atom atoms.Swap), One)
    ∷ (codes "reset", StepAndAct steps.Reset (Atom atoms.Reset), One)
    ∷ (codes "cas", StepAndAct steps.CompareAndSet (Atom atoms.CompareAndSet), One)
    ∷ (codes "send", Anywhere steps.Send operations.Send (Agent agents.Send), One)
    ∷ (codes "send-carry", Anywhere steps.SendCarry operations.SendCarry (Agent agents.SendCarry), Two)
    ∷ (codes "release-carried", Act (Agent agents.ReleaseCarried), One)
    ∷ (codes "restart", StepAndAct steps.Restart (Agent agents.Restart), One)
    ∷ (codes "mode", Step steps.Mode, One)
    ∷ (codes "set-error-mode", Act (Agent agents.SetErrorMode), One)
    ∷ (codes "error-of", Act (Agent agents.ErrorOf), One)
    ∷ (codes "fold", Act (Agent agents.Fold), One)
    ∷ (codes "validator", Step steps.Validator, One)
    ∷ (codes "set-validator", Act (Reference references.SetValidator), One)
    ∷ (codes "add-watch", Act (Reference references.AddWatch), One)
    ∷ (codes "remove-watch", Act (Reference references.RemoveWatch), One)
    ∷ (codes "value-of", Act (Reference references.ValueOf), One)
    ∷ (codes "rule-of", Act (Reference references.RuleOf), One)
    ∷ (codes "release", Act (World worlds.Release), One)
    ∷ (codes "checkpoint", Act (World worlds.Checkpoint), One)
    ∷ (codes "make-ref", Act (Making makings.MakeRef), One)
    ∷ (codes "make-atom", Act (Making makings.MakeAtom), One)
    ∷ (codes "make-agent", Act (Making makings.MakeAgent), One) ∷ []

-- what is said of a word
abbrev pub row_named : List (List ℕ × Stands × Version) → List ℕ → Option (Stands × Version)
row_named [] name = None
row_named (w ∷ ws) name = if bytes_eq w.0 name then Some (w.1, w.2) else row_named ws name

-- the step, the operation and the act of a word
abbrev pub step_at : Stands → Option StepWord
step_at (Step word) = Some word
step_at (StepAndAct word act) = Some word
step_at (Anywhere word operation act) = Some word
step_at stands = None

abbrev pub operation_at : Stands → Option OperationWord
operation_at (Operation word) = Some word
operation_at (OperationAndAct word act) = Some word
operation_at (Anywhere step word act) = Some word
operation_at stands = None

abbrev pub act_at : Stands → Option ActWord
act_at (Act word) = Some word
act_at (StepAndAct step word) = Some word
act_at (OperationAndAct operation word) = Some word
act_at (Anywhere step operation word) = Some word
act_at stands = None

-- Version 1 of workloads lacks the words of version 2.
abbrev pub has_word : Version → Version → Bool
has_word One Two = false
has_word version since = true

-- the step, the operation and the act that begin with this word
abbrev pub step_named : Version → List ℕ → Option StepWord
step_named version name = option_and_then (λ w. if has_word version w.1 then step_at w.0 else None) (row_named words name)

abbrev pub operation_named : Version → List ℕ → Option OperationWord
operation_named version name = option_and_then (λ w. if has_word version w.1 then operation_at w.0 else None) (row_named words name)

abbrev pub act_named : List ℕ → Option ActWord
act_named name = option_and_then (λ w. act_at w.0) (row_named words name)
