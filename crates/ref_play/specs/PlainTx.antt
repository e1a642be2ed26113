-- What an operation in a transaction answers, in plain words.
use Rattle.std.specs.Prelude.{◌≡◌, ◌≢◌, ◌↔◌, ◌⊎◌, ℕ, ◌<◌, ◌≤◌, Bool, true, false, List, [], ◌∷◌, length, slice_get, Option, None, Some, Result, Ok, Err, ◌++◌}
use Rattle.std.specs.List.{AllByRecursion}
use Rattle.ref_value.specs.Edn.{Edn}
use Rattle.ref_fun.specs.Meaning.{Means}
use Rattle.ref_fun.specs.Rule.{Accepts}
use Rattle.ref_fun.specs.declared.actions.Action.{Action}
use Rattle.ref_fun.specs.declared.rules.Rule.{Rule}
use Rattle.ref_log.specs.declared.operations.Done.{Done}
use Rattle.ref_log.specs.declared.operations.Op.{Op}
use Rattle.ref_log.specs.declared.operations.Op.TheVariants.{Set, Alter, Commute, Ensure}
use Rattle.ref_tx.specs.Inner.{IsTx, answer_of, inner_value, send_refusal, unmet}
use Rattle.ref_tx.specs.Seen.{TxSeen}
use Rattle.ref_tx.specs.declared.faults.TxFault.{TxFault}
use Rattle.ref_tx.specs.declared.faults.TxFault.TheVariants as txs
use Rattle.ref_play.specs.Plain.{AnyByRecursion, Counts, FirstWithout, Makes, RefusesValue, agents_of, functions_of}

-- ---- in-transaction values

-- Those of these operations that are on a ref lead, one after the other, from one value to another.
abbrev pub LeadsAt : Means → ℕ → List Done → Edn → Edn → Type 0
LeadsAt means r [] old new = old ≡ new
LeadsAt means r (d ∷ ds) old new =
    ((d.r ≡ r) × ((next : Edn) × Makes means d.op old next × LeadsAt means r ds next new)) ⊎ ((d.r ≢ r) × LeadsAt means r ds old new)

-- The value of a ref in a transaction: the transaction's operations on the ref lead to it from the value with which it began.
abbrev pub IsValueIn : Means → TxSeen → ℕ → Edn → Type 0
IsValueIn means tx r v = (old : Edn) × (slice_get tx.began r ≡ Some old) × LeadsAt means r tx.dones old v

abbrev pub InnerMeans : Means → Type 0
InnerMeans means = (tx : TxSeen) (r : ℕ) (v : Edn) → inner_value means tx r ≡ Some v ↔ IsValueIn means tx r v

-- ---- what a transaction is

-- Each operation answered the value of its ref after it, which the operations on the ref up to it lead to.
abbrev pub AreAnswered : Means → List Edn → List Done → Type 0
AreAnswered means began dones =
    (before after : List Done) (d : Done) → dones ≡ before ++ d ∷ after → (old : Edn) × (slice_get began d.r ≡ Some old) × LeadsAt means d.r (before ++ d ∷ []) old d.answer

-- Of a transaction it is always so that its operations answered that, and only count the tally that it knows.
abbrev pub TxMeans : Means → Type 0
TxMeans means =
    (began : List Edn) (dones : List Done) (tally : Option ℕ)
    → IsTx means began dones tally ↔ (AreAnswered means began dones × AllByRecursion (λ d. tally ≡ Some d.r → Counts d.op) dones)

-- ---- what an operation asks

-- `ref-set` and `alter` set a ref, which was not commuted before in the transaction.
abbrev pub Sets : Op → Type 0
Sets (Set w) = Unit {0}
Sets (Alter code args) = Unit {0}
Sets (Commute code args) = ⊥
Sets Ensure = ⊥

abbrev pub Commutes : Op → Type 0
Commutes (Set w) = ⊥
Commutes (Alter code args) = ⊥
Commutes (Commute code args) = Unit {0}
Commutes Ensure = ⊥

abbrev pub IsCommuted : TxSeen → ℕ → Type 0
IsCommuted tx r = AnyByRecursion (λ d. (d.r ≡ r) × Commutes d.op) tx.dones

abbrev pub MaySet : TxSeen → ℕ → Op → Type 0
MaySet tx r op = Sets op → IsCommuted tx r → ⊥

-- The tally is only counted up and down.
abbrev pub MayCount : TxSeen → ℕ → Op → Type 0
MayCount tx r op = tx.tally ≡ Some r → Counts op

-- `alter` and `commute` call the function of their code, which the table has.
abbrev pub Calls : ℕ → Op → Type 0
Calls code (Set w) = ⊥
Calls code (Alter c args) = c ≡ code
Calls code (Commute c args) = c ≡ code
Calls code Ensure = ⊥

abbrev pub HasCalled : (ℕ → Bool) → Op → Type 0
HasCalled knows op = (code : ℕ) → Calls code op → knows code ≡ true

-- ---- what it answers

module _ (means : Means) (knows : ℕ → Bool) (tx : TxSeen) (r : ℕ) (op : Op) where
  abbrev pub IsAllowed : Type 0
  IsAllowed = (r < length tx.began) × MaySet tx r op × MayCount tx r op

  -- The value that it makes of the in-transaction value, or what stands against it, where nothing does that is asked before.
  abbrev pub AnswersSo : Result Edn TxFault → Type 0
  AnswersSo (Ok v) = IsAllowed × HasCalled knows op × ((old : Edn) × IsValueIn means tx r old × Makes means op old v)
  AnswersSo (Err txs.NoSuchRef) = length tx.began ≤ r
  AnswersSo (Err txs.SetAfterCommute) = (r < length tx.began) × Sets op × IsCommuted tx r
  AnswersSo (Err txs.TallyOnly) = (r < length tx.began) × MaySet tx r op × (tx.tally ≡ Some r) × (Counts op → ⊥)
  AnswersSo (Err (txs.NoSuchFun code)) = IsAllowed × Calls code op × (knows code ≡ false)
  AnswersSo (Err (txs.Refused cause)) = IsAllowed × HasCalled knows op × ((old : Edn) × IsValueIn means tx r old × RefusesValue means op old cause)
  AnswersSo (Err txs.NoSuchAgent) = ⊥
  AnswersSo (Err txs.NotMet) = ⊥
  AnswersSo (Err txs.Memory) = ⊥

-- An operation in a transaction, whose answers are its in-transaction values, answers exactly so.
abbrev pub OperationsMean : Means → Type 0
OperationsMean means =
    (knows : ℕ → Bool) (tx : TxSeen) (r : ℕ) (op : Op) (answer : Result Edn TxFault) → IsTx means tx.began tx.dones tx.tally
    → answer_of means knows tx r op ≡ answer ↔ AnswersSo means knows tx r op answer

-- ---- what is required, and what is sent

module _ (means : Means) (accepts : Accepts) (knows : ℕ → Bool) (tx : TxSeen) (r : ℕ) (rule : Rule) where
  -- The rule accepts the in-transaction value; or what stands against it, where nothing does that is asked before.
  abbrev pub RequiresSo : Option TxFault → Type 0
  RequiresSo None = (v : Edn) × IsValueIn means tx r v × (knows rule.code ≡ true) × (accepts rule.code rule.args v ≡ true)
  RequiresSo (Some txs.NoSuchRef) = length tx.began ≤ r
  RequiresSo (Some (txs.NoSuchFun code)) = (r < length tx.began) × (rule.code ≡ code) × (knows code ≡ false)
  RequiresSo (Some txs.NotMet) = (v : Edn) × IsValueIn means tx r v × (knows rule.code ≡ true) × (accepts rule.code rule.args v ≡ false)
  RequiresSo (Some txs.SetAfterCommute) = ⊥
  RequiresSo (Some txs.TallyOnly) = ⊥
  RequiresSo (Some (txs.Refused cause)) = ⊥
  RequiresSo (Some txs.NoSuchAgent) = ⊥
  RequiresSo (Some txs.Memory) = ⊥

abbrev pub RequirementsMean : Means → Accepts → Type 0
RequirementsMean means accepts =
    (knows : ℕ → Bool) (tx : TxSeen) (r : ℕ) (rule : Rule) (refusal : Option TxFault) → IsTx means tx.began tx.dones tx.tally
    → unmet accepts knows rule (inner_value means tx r) ≡ refusal ↔ RequiresSo means accepts knows tx r rule refusal

module _ (knows : ℕ → Bool) (tx : TxSeen) (g : ℕ) (action : Action) where
  -- The table has the functions, none of which is called, and the agents were there at the beginning. Of several functions that the
  -- table lacks the first is named.
  abbrev HasFunctions : Type 0
  HasFunctions = AllByRecursion (λ code. knows code ≡ true) (functions_of action)

  abbrev pub SendsSo : Option TxFault → Type 0
  SendsSo None = HasFunctions × AllByRecursion (λ h. h < tx.agents) (agents_of g action)
  SendsSo (Some (txs.NoSuchFun lacked)) = FirstWithout (λ code. knows code ≡ true) (λ code. code ≡ lacked) (functions_of action)
  SendsSo (Some txs.NoSuchAgent) = HasFunctions × AnyByRecursion (λ h. tx.agents ≤ h) (agents_of g action)
  SendsSo (Some txs.NoSuchRef) = ⊥
  SendsSo (Some txs.SetAfterCommute) = ⊥
  SendsSo (Some txs.TallyOnly) = ⊥
  SendsSo (Some (txs.Refused cause)) = ⊥
  SendsSo (Some txs.NotMet) = ⊥
  SendsSo (Some txs.Memory) = ⊥

abbrev pub SendsInTxMean : Type 0
SendsInTxMean = (knows : ℕ → Bool) (tx : TxSeen) (g : ℕ) (action : Action) (refusal : Option TxFault) → send_refusal knows tx g action ≡ refusal ↔ SendsSo knows tx g action refusal
