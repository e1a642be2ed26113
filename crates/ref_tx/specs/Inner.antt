-- In-transaction values, and what a transaction answers.
use Rattle.std.specs.Prelude.{ℕ, ◌==◌, Bool, true, not, ◌&&◌, if◌then◌else◌, nat_lt, List, [], ◌∷◌, ◌++◌, length, Option, None, Some, Result, Ok, Err, slice_get, ◌≡◌}
use Rattle.std.specs.List.{list_any}
use Rattle.std.specs.Option.{option_map, option_or}
use Rattle.ref_value.specs.Edn.{Edn}
use Rattle.ref_fun.specs.declared.faults.Cause.{Cause}
use Rattle.ref_fun.specs.Actions.{absent_agent, missing_fun}
use Rattle.ref_fun.specs.Meaning.{Means}
use Rattle.ref_fun.specs.Rule.{is_accepted}
use Rattle.ref_fun.specs.declared.actions.Action.{Action}
use Rattle.ref_fun.specs.declared.rules.Rule.{Rule}
use Rattle.ref_log.specs.Replay.{codes_of, is_commute, is_set, missing, place}
use Rattle.ref_log.specs.Tally.{fit_tally, fits_tally, is_tally}
use Rattle.ref_log.specs.declared.operations.Done.{Done}
use Rattle.ref_log.specs.declared.operations.Op.{Op}
use Rattle.ref_tx.specs.Seen.{TxSeen}
use Rattle.ref_tx.specs.declared.faults.TxFault.{TxFault}
use Rattle.ref_tx.specs.declared.faults.TxFault.TheVariants.{NoSuchRef, SetAfterCommute, TallyOnly, Refused, NoSuchFun, NoSuchAgent, NotMet}

-- ---- in-transaction values

-- The operations on a ref, in order.
abbrev pub ops_on : ℕ → List Done → List Op
ops_on r [] = []
ops_on r (d ∷ ds) = if d.r == r then d.op ∷ ops_on r ds else ops_on r ds

abbrev pub given : Result Edn Cause → Option Edn
given (Ok v) = Some v
given (Err c) = None

abbrev pub and_place : Means → Op → Option Edn → Option Edn
and_place means op (Some v) = given (place means op v)
and_place means op None = None

-- A value after these operations, one at a time.
abbrev pub after_ops : Means → List Op → Option Edn → Option Edn
after_ops means [] v = v
after_ops means (op ∷ ops) v = after_ops means ops (and_place means op v)

abbrev pub value_after : Means → List Edn → List Done → ℕ → Option Edn
value_after means began dones r = after_ops means (ops_on r dones) (slice_get began r)

-- The in-transaction value of a ref: the value as of the read point, after the transaction's own operations on it.
-- There is none where there was no such ref.
abbrev pub inner_value : Means → TxSeen → ℕ → Option Edn
inner_value means tx r = value_after means tx.began tx.dones r

-- Each of these operations, which come after the former ones, answered the in-transaction value.
abbrev pub AreAnswers : Means → List Edn → List Done → List Done → Type 0
AreAnswers means began former [] = Unit {0}
AreAnswers means began former (d ∷ ds) = (value_after means began (former ++ d ∷ []) d.r ≡ Some d.answer) × AreAnswers means began (former ++ d ∷ []) ds

-- ---- what an operation meets

abbrev pub has_ref : TxSeen → ℕ → Bool
has_ref tx r = nat_lt r (length tx.began)

abbrev pub is_commuted : List Done → ℕ → Bool
is_commuted ds r = list_any (λ d. d.r == r && is_commute d.op) ds

abbrev pub told : Result Edn Cause → Result Edn TxFault
told (Ok v) = Ok v
told (Err c) = Err (Refused c)

abbrev pub placed : Means → Op → Option Edn → Result Edn TxFault
placed means op (Some v) = told (place means op v)
placed means op None = Err NoSuchRef

abbrev pub called : Means → Op → Option Edn → Option ℕ → Result Edn TxFault
called means op v (Some code) = Err (NoSuchFun code)
called means op v None = placed means op v

-- The first fault of an operation that sets its ref or not, and that the tally would take or not.
abbrev pub refusal_by : TxSeen → ℕ → Bool → Bool → Option TxFault
refusal_by tx r sets fits =
    if not (has_ref tx r) then Some NoSuchRef else
    if sets && is_commuted tx.dones r then Some SetAfterCommute else
    if is_tally tx.tally r && not fits then Some TallyOnly else
    None

-- The first fault of an operation before its function is asked for. Clojure's page on refs: a ref that was commuted
-- can't be set in the same transaction.
abbrev pub refusal : TxSeen → ℕ → Op → Option TxFault
refusal tx r op = refusal_by tx r (is_set op) (fits_tally op)

-- The first fault that is known before any memory is taken and any function called.
abbrev pub early_refusal : (ℕ → Bool) → TxSeen → ℕ → Op → Option TxFault
early_refusal knows tx r op = option_or (refusal tx r op) (option_map NoSuchFun (missing knows (codes_of op)))

abbrev pub or_refusal : Option TxFault → Result Edn TxFault → Result Edn TxFault
or_refusal (Some fault) answer = Err fault
or_refusal None answer = answer

-- What an operation answers: its first fault, or what it makes of the in-transaction value.
abbrev pub answer_of : Means → (ℕ → Bool) → TxSeen → ℕ → Op → Result Edn TxFault
answer_of means knows tx r op = or_refusal (refusal tx r op) (called means op (inner_value means tx r) (missing knows (codes_of op)))

-- ---- what is required

-- Why a rule isn't met by a value, if it isn't there or isn't accepted.
abbrev pub unmet : (ℕ → List Edn → Edn → Bool) → (ℕ → Bool) → Rule → Option Edn → Option TxFault
unmet accepts knows rule None = Some NoSuchRef
unmet accepts knows rule (Some v) =
    if not (knows rule.code) then Some (NoSuchFun rule.code) else
    if is_accepted accepts rule v then None else
    Some NotMet

-- ---- what is sent

-- The first fault of sending an action to an agent. Functions come before agents; none is called.
abbrev pub send_refusal : (ℕ → Bool) → TxSeen → ℕ → Action → Option TxFault
send_refusal knows tx g action =
    option_or (option_map NoSuchFun (missing_fun knows action))
    (option_map (λ h. NoSuchAgent) (absent_agent tx.agents g action))

-- The transaction with one send more, the last.
abbrev pub with_sent : TxSeen → ℕ → Action → TxSeen
with_sent tx g action = record tx { sends = tx.sends ++ record { agent = g; action = action } ∷ [] }

-- ---- one operation more

-- The transaction with one operation more.
abbrev pub with_done : TxSeen → ℕ → Op → Edn → TxSeen
with_done tx r op v = record tx { dones = tx.dones ++ (record { r = r; op = op; answer = v }) ∷ [] }

-- ---- what the type guarantees

-- What a transaction is: each operation answered the in-transaction value, and those on the tally fit it.
pub record IsTx (means : Means) (began : List Edn) (dones : List Done) (tally : Option ℕ) : Type 0 where
  pub answered : AreAnswers means began [] dones
  pub tallied : fit_tally tally dones ≡ true
