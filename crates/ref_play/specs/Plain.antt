-- What definitions say that the machine and the calls of a world share, in plain words: each is met exactly where what stands here is
-- so. The functions of src/theorems.rt have these laws as contracts.
use Rattle.std.specs.Prelude.{◌≡◌, ◌≢◌, ◌↔◌, ◌⊎◌, ℕ, pos, ◌<◌, ◌≤◌, Bool, true, false, List, [], ◌∷◌, ◌++◌, length, slice_get, slice_set, Option, None, Some, Ok, Err, ◌+◌, slice_index_or, map}
use Rattle.std.specs.List.{AllByRecursion}
use Rattle.ref_value.specs.Edn.{Edn, int}
use Rattle.ref_fun.specs.Calls.{Known}
use Rattle.ref_fun.specs.Meaning.{Means}
use Rattle.ref_fun.specs.Rule.{Accepts}
use Rattle.ref_fun.specs.declared.actions.Action.{Action}
use Rattle.ref_fun.specs.declared.rules.Rule.{Rule}
use Rattle.ref_log.specs.Replay.{last_change, replay}
use Rattle.ref_log.specs.declared.entries.Entry.{Entry}
use Rattle.ref_log.specs.declared.entries.Entry.TheVariants as entries
use Rattle.ref_log.specs.declared.guards.Guard.{Guard}
use Rattle.ref_log.specs.declared.notices.Notice.{Notice}
use Rattle.ref_log.specs.declared.notices.Who.TheVariants as who
use Rattle.ref_log.specs.declared.operations.Done.{Done}
use Rattle.ref_log.specs.declared.sends.Sent.{Sent}
use Rattle.ref_log.specs.declared.operations.Op.{Op}
use Rattle.ref_log.specs.declared.operations.Op.TheVariants.{Set, Alter, Commute, Ensure}
use Rattle.ref_log.specs.declared.states.Base.{Base}
use Rattle.ref_log.specs.declared.states.PlainState.{PlainState}
use Rattle.ref_fun.specs.declared.faults.Cause.{Cause}
use Rattle.ref_tx.specs.Inner.{IsTx}
use Rattle.ref_tx.specs.Seen.{TxSeen}
use Rattle.ref_refs.specs.Commit.{changed_by, commit_refusal}
use Rattle.ref_refs.specs.Seen.{RefsSeen}
use Rattle.ref_refs.specs.Watches.{notices, touched_refs}
use Rattle.ref_refs.specs.declared.faults.Alien.TheVariants as aliens
use Rattle.ref_refs.specs.declared.faults.CommitFault.{CommitFault}
use Rattle.ref_refs.specs.declared.faults.CommitFault.TheVariants as commits
use Rattle.ref_refs.specs.declared.faults.Conflict as told
use Rattle.ref_log.specs.Limits.{last_point}

-- ---- operations

-- `ref-set`, `alter` and `ensure` protect a ref from the changes of others.
abbrev pub Protects : Op → Type 0
Protects (Set w) = Unit {0}
Protects (Alter code args) = Unit {0}
Protects (Commute code args) = ⊥
Protects Ensure = Unit {0}

-- `ref-set`, `alter` and `commute` change a ref.
abbrev pub Changes : Op → Type 0
Changes (Set w) = Unit {0}
Changes (Alter code args) = Unit {0}
Changes (Commute code args) = Unit {0}
Changes Ensure = ⊥

-- What an operation makes of a value: `ref-set` the value that is set, `alter` and `commute` what the function gives, `ensure` the
-- same value.
abbrev pub Makes : Means → Op → Edn → Edn → Type 0
Makes means (Set w) old new = new ≡ w
Makes means (Alter code args) old new = means code args old ≡ Ok new
Makes means (Commute code args) old new = means code args old ≡ Ok new
Makes means Ensure old new = new ≡ old

-- The tally is counted up and down: by `commute` of `+` and of `-`, which have the codes 1 and 2, with one integer of 0 or more. It can
-- be ensured.
abbrev pub Counts : Op → Type 0
Counts (Set w) = ⊥
Counts (Alter code args) = ⊥
Counts (Commute code args) = ((code ≡ 1) ⊎ (code ≡ 2)) × ((n : ℕ) × (args ≡ int (pos n) ∷ []))
Counts Ensure = Unit {0}

-- A table has the function of a `commute`.
abbrev pub HasCommuted : (ℕ → Bool) → Op → Type 0
HasCommuted has (Set w) = Unit {0}
HasCommuted has (Alter code args) = Unit {0}
HasCommuted has (Commute code args) = has code ≡ true
HasCommuted has Ensure = Unit {0}

-- ---- refs of a transaction

-- P holds of some element.
abbrev pub AnyByRecursion : {X : Type 0} → (X → Type 0) → List X → Type 0
AnyByRecursion P [] = ⊥
AnyByRecursion P (x ∷ xs) = P x ⊎ AnyByRecursion P xs

-- Some operation protects the ref, or changes it.
abbrev pub IsProtected : List Done → ℕ → Type 0
IsProtected dones r = AnyByRecursion (λ d. (d.r ≡ r) × Protects d.op) dones

abbrev pub IsChanged : List Done → ℕ → Type 0
IsChanged dones r = AnyByRecursion (λ d. (d.r ≡ r) × Changes d.op) dones

-- ---- rules

-- A reference has this rule.
abbrev pub HasRule : List Guard → ℕ → Rule → Type 0
HasRule guards n rule = (guard : Guard) × (slice_get guards n ≡ Some guard) × (guard.rule ≡ Some rule)

-- The rule of a reference, if it has one, accepts a value.
abbrev pub RuleAccepts : Accepts → List Guard → ℕ → Edn → Type 0
RuleAccepts accepts guards n v = (rule : Rule) → HasRule guards n rule → accepts rule.code rule.args v ≡ true

-- The table has the predicate of the rule of a reference, if it has one.
abbrev pub KnowsRuleOf : (ℕ → Bool) → List Guard → ℕ → Type 0
KnowsRuleOf knows guards n = (rule : Rule) → HasRule guards n rule → knows rule.code ≡ true

-- A reference has a rule by the predicate of this code.
abbrev pub RuledBy : List Guard → ℕ → ℕ → Type 0
RuledBy guards code n = (rule : Rule) × HasRule guards n rule × (rule.code ≡ code)

-- ---- operations over values

-- These operations lead from these values to those, one after the other: the ref of each is there, it gets what the operation makes
-- of its value, and where the transaction, whose operations are all of `all`, protects the ref, that is the answer.
abbrev pub Leads : Means → List Done → List Done → List Edn → List Edn → Type 0
Leads means all [] values after = values ≡ after
Leads means all (d ∷ ds) values after =
    (old new : Edn) × (slice_get values d.r ≡ Some old) × Makes means d.op old new × (IsProtected all d.r → new ≡ d.answer)
    × Leads means all ds (slice_set values d.r new) after

-- What an entry makes of all refs and atoms: a transaction's operations lead on; the operation on an atom makes the kept answer
-- of the atom's value; and a reference that is made is the last of its kind.
abbrev pub StepsTo : Means → Entry → PlainState → PlainState → Type 0
StepsTo means (entries.Trans t) old new = Leads means t.dones t.dones old.refs new.refs × (new.atoms ≡ old.atoms)
StepsTo means (entries.Atom a op answer) old new =
    (new.refs ≡ old.refs) × ((v : Edn) × (slice_get old.atoms a ≡ Some v) × Makes means op v answer × (new.atoms ≡ slice_set old.atoms a answer))
StepsTo means (entries.MadeRef v) old new = (new.refs ≡ old.refs ++ v ∷ []) × (new.atoms ≡ old.atoms)
StepsTo means (entries.MadeAtom v) old new = (new.refs ≡ old.refs) × (new.atoms ≡ old.atoms ++ v ∷ [])

-- These entries do so, one after the other.
abbrev pub RunsTo : Means → List Entry → PlainState → PlainState → Type 0
RunsTo means [] old new = old ≡ new
RunsTo means (e ∷ es) old new = (next : PlainState) × StepsTo means e old next × RunsTo means es next new

-- The replay of entries on a base has a value exactly where they lead to it from the base's values.
abbrev pub ReplayMeans : Means → Type 0
ReplayMeans means = (base : Base) (es : List Entry) (after : PlainState) → replay means base es ≡ Ok after ↔ RunsTo means es (record { refs = base.refs; atoms = base.atoms }) after

-- ---- last changes

-- An entry changes a ref, where there are so many refs before it: its transaction does, or it makes the ref.
abbrev pub ChangesRef : ℕ → Entry → ℕ → Type 0
ChangesRef refs (entries.Trans t) r = IsChanged t.dones r
ChangesRef refs (entries.Atom a op answer) r = ⊥
ChangesRef refs (entries.MadeRef v) r = refs ≡ r
ChangesRef refs (entries.MadeAtom v) r = ⊥

-- how many refs there are after it
abbrev pub refs_with : ℕ → Entry → ℕ
refs_with refs (entries.Trans t) = refs
refs_with refs (entries.Atom a op answer) = refs
refs_with refs (entries.MadeRef v) = refs + 1
refs_with refs (entries.MadeAtom v) = refs

-- None of these entries changes a ref.
abbrev pub NoneChanges : ℕ → List Entry → ℕ → Type 0
NoneChanges refs [] r = Unit {0}
NoneChanges refs (e ∷ es) r = (ChangesRef refs e r → ⊥) × NoneChanges (refs_with refs e) es r

-- The last of these entries that changes a ref has this point, where the first of them comes right after another.
abbrev pub LastAt : ℕ → ℕ → List Entry → ℕ → ℕ → Type 0
LastAt point refs [] r p = ⊥
LastAt point refs (e ∷ es) r p = (ChangesRef refs e r × NoneChanges (refs_with refs e) es r × (p ≡ point + 1)) ⊎ LastAt (point + 1) (refs_with refs e) es r p

-- The point of the last change of a ref in a history on a base, which has it where no entry changes the ref; and after a commit.
pub record LastsMean : Type 0 where
  pub history : (base : Base) (es : List Entry) (r p : ℕ)
      → last_change base es r ≡ p ↔ (LastAt base.point (length base.refs) es r p ⊎ (NoneChanges (length base.refs) es r × (slice_index_or base.last r 0 ≡ p)))
  pub changed : (lasts : List ℕ) (at : ℕ) (dones : List Done) (r : ℕ) → IsChanged dones r → changed_by lasts at dones r ≡ at
  pub kept : (lasts : List ℕ) (at : ℕ) (dones : List Done) (r : ℕ) → (IsChanged dones r → ⊥) → changed_by lasts at dones r ≡ slice_index_or lasts r 0

-- ---- commits

-- The functions that an action needs, its own first, and then those of what it carries, in order; and the agents that get something
-- where it is sent to g, g first.
abbrev pub functions_of : Action → List ℕ
functions_of action = action.code ∷ map (λ c. c.code) action.carries

abbrev pub agents_of : ℕ → Action → List ℕ
agents_of g action = g ∷ map (λ c. c.g) action.carries

-- the agents that get something of these sends, in order
abbrev pub all_agents_of : List Sent → List ℕ
all_agents_of [] = []
all_agents_of (s ∷ ss) = agents_of s.agent s.action ++ all_agents_of ss

-- The refs of its operations are here; so are the agents that get something of what it sends.
abbrev pub HasRefs : RefsSeen → TxSeen → Type 0
HasRefs store tx = AllByRecursion (λ d. d.r < length store.values) tx.dones

abbrev pub HasAgents : ℕ → TxSeen → Type 0
HasAgents agents tx = AllByRecursion (λ g. g < agents) (all_agents_of tx.sends)

-- The tally here is only counted up and down.
abbrev pub OnlyCounts : RefsSeen → TxSeen → Type 0
OnlyCounts store tx = AllByRecursion (λ d. store.tally ≡ Some d.r → Counts d.op) tx.dones

-- The table has the functions that it commutes by, and the predicate of each rule of a ref that it changes.
abbrev pub HasFuns : Known → TxSeen → Type 0
HasFuns knows tx = AllByRecursion (λ d. HasCommuted knows.funs d.op) tx.dones

abbrev pub HasPreds : Known → RefsSeen → TxSeen → Type 0
HasPreds knows store tx = (r : ℕ) → IsChanged tx.dones r → KnowsRuleOf knows.preds store.guards r

-- No ref that it protects has changed since it read, and each has the value with which it began.
abbrev pub AreUnchanged : RefsSeen → TxSeen → Type 0
AreUnchanged store tx = (r last : ℕ) → IsProtected tx.dones r → slice_get store.lasts r ≡ Some last → last ≤ tx.read_point

abbrev pub AreSame : RefsSeen → TxSeen → Type 0
AreSame store tx = (r : ℕ) → IsProtected tx.dones r → slice_get store.values r ≡ slice_get tx.began r

-- The rules of the refs that it changes accept these values.
abbrev pub KeepsRules : Accepts → RefsSeen → TxSeen → List Edn → Type 0
KeepsRules accepts store tx after = (r : ℕ) (v : Edn) → IsChanged tx.dones r → slice_get after r ≡ Some v → RuleAccepts accepts store.guards r v

-- Of these operations, those on the tally that commute by the function of this code have arguments with this sum.
abbrev pub SumsTo : Option ℕ → ℕ → List Done → ℕ → Type 0
SumsTo tally code [] sum = sum ≡ 0
SumsTo tally code (d ∷ ds) sum =
    ((n rest : ℕ) × (tally ≡ Some d.r) × (d.op ≡ Commute code (int (pos n) ∷ [])) × SumsTo tally code ds rest × (sum ≡ n + rest))
    ⊎ ((tally ≡ Some d.r → (args : List Edn) → d.op ≡ Commute code args → ⊥) × SumsTo tally code ds sum)

-- All that a transaction needs to be committed at a point, where there are so many agents and so much may still be added to the tally and
-- taken from it: its operations lead from the latest values to others, whose rules stay. Points end at 2^62.
pub record CanCommit (means : Means) (accepts : Accepts) (knows : Known) (store : RefsSeen) (at agents most_added most_taken : ℕ) (tx : TxSeen) : Type 0 where
  pub refs : HasRefs store tx
  pub agents_here : HasAgents agents tx
  pub tally : OnlyCounts store tx
  pub read : tx.read_point < at
  pub funs : HasFuns knows tx
  pub preds : HasPreds knows store tx
  pub unchanged : AreUnchanged store tx
  pub same : AreSame store tx
  pub after : List Edn
  pub leads : Leads means tx.dones tx.dones store.values after
  pub rules : KeepsRules accepts store tx after
  pub within : at ≤ last_point
  pub added : (sum : ℕ) → SumsTo store.tally 1 tx.dones sum → sum ≤ most_added
  pub taken : (sum : ℕ) → SumsTo store.tally 2 tx.dones sum → sum ≤ most_taken

-- A transaction, whose answers are its in-transaction values, is committed exactly where it can be.
abbrev pub CommitsWhereItCan : Means → Accepts → Type 0
CommitsWhereItCan means accepts =
    (knows : Known) (store : RefsSeen) (at agents most_added most_taken : ℕ) (tx : TxSeen) → IsTx means tx.began tx.dones tx.tally
    → commit_refusal means accepts knows store at agents most_added most_taken tx ≡ None ↔ CanCommit means accepts knows store at agents most_added most_taken tx

-- ---- why a commit is refused

-- Q holds of the first element of which P doesn't.
abbrev pub FirstWithout : {X : Type 0} → (X → Type 0) → (X → Type 0) → List X → Type 0
FirstWithout P Q [] = ⊥
FirstWithout P Q (x ∷ xs) = ((P x → ⊥) × Q x) ⊎ (P x × FirstWithout P Q xs)

-- A `commute` by the function of this code.
abbrev pub CommutesBy : ℕ → Op → Type 0
CommutesBy code (Set w) = ⊥
CommutesBy code (Alter c args) = ⊥
CommutesBy code (Commute c args) = c ≡ code
CommutesBy code Ensure = ⊥

-- The first `commute` whose function the table lacks is by this code, or, where it has them all, the first operation on a ref with a
-- rule whose predicate the table lacks.
abbrev pub LacksFun : Known → TxSeen → ℕ → Type 0
LacksFun knows tx code = FirstWithout (λ d. HasCommuted knows.funs d.op) (λ d. CommutesBy code d.op) tx.dones

abbrev pub LacksPred : Known → RefsSeen → TxSeen → ℕ → Type 0
LacksPred knows store tx code =
    FirstWithout (λ d. Changes d.op → KnowsRuleOf knows.preds store.guards d.r) (λ d. RuledBy store.guards code d.r) tx.dones

-- A conflict names the smallest protected ref that has changed after the read point, with the point of its last change.
pub record NamesSmallest (store : RefsSeen) (tx : TxSeen) (c : told.Conflict) : Type 0 where
  pub protected : IsProtected tx.dones c.r
  pub read : c.read_point ≡ tx.read_point
  pub changed : slice_get store.lasts c.r ≡ Some c.changed_at
  pub later : tx.read_point < c.changed_at
  pub smallest : (r last : ℕ) → r < c.r → IsProtected tx.dones r → slice_get store.lasts r ≡ Some last → last ≤ tx.read_point

-- The smallest protected ref that has another value than the one with which the transaction began.
pub record IsSmallestOther (store : RefsSeen) (tx : TxSeen) (r : ℕ) : Type 0 where
  pub protected : IsProtected tx.dones r
  pub other : slice_get store.values r ≢ slice_get tx.began r
  pub smallest : (q : ℕ) → q < r → IsProtected tx.dones q → slice_get store.values q ≡ slice_get tx.began q

-- The function of an operation refuses a value for a cause.
abbrev pub RefusesValue : Means → Op → Edn → Cause → Type 0
RefusesValue means (Set w) old cause = ⊥
RefusesValue means (Alter code args) old cause = means code args old ≡ Err cause
RefusesValue means (Commute code args) old cause = means code args old ≡ Err cause
RefusesValue means Ensure old cause = ⊥

-- Of these operations, made one after the other, the first that is refused is on this ref, for this cause.
abbrev pub RefusedOn : Means → ℕ → Cause → List Done → List Edn → Type 0
RefusedOn means r cause [] values = ⊥
RefusedOn means r cause (d ∷ ds) values =
    (old : Edn) × (slice_get values d.r ≡ Some old)
    × (((d.r ≡ r) × RefusesValue means d.op old cause) ⊎ ((new : Edn) × Makes means d.op old new × RefusedOn means r cause ds (slice_set values d.r new)))

-- The smallest ref that the transaction changes whose rule doesn't accept its value.
pub record IsSmallestInvalid (accepts : Accepts) (store : RefsSeen) (tx : TxSeen) (after : List Edn) (r : ℕ) : Type 0 where
  pub changed : IsChanged tx.dones r
  pub rule : Rule
  pub has : HasRule store.guards r rule
  pub value : Edn
  pub here : slice_get after r ≡ Some value
  pub refuses : accepts rule.code rule.args value ≡ false
  pub smallest : (q : ℕ) (v : Edn) → q < r → IsChanged tx.dones q → slice_get after q ≡ Some v → RuleAccepts accepts store.guards q v

-- Each fault of a commit: what it says, and that no fault before it holds.
module _ (means : Means) (accepts : Accepts) (knows : Known) (store : RefsSeen) (at agents : ℕ) (tx : TxSeen) where
  -- Nothing is foreign but a value, perhaps; and also the table has what is called; and also nothing that is protected has changed.
  abbrev pub IsHere : Type 0
  IsHere = HasRefs store tx × HasAgents agents tx × OnlyCounts store tx × (tx.read_point < at)

  abbrev pub IsKnown : Type 0
  IsKnown = IsHere × HasFuns knows tx × HasPreds knows store tx

  abbrev pub IsCurrent : Type 0
  IsCurrent = IsKnown × AreUnchanged store tx × AreSame store tx

  -- Also all its operations can be made, and the rules accept what comes of them.
  abbrev pub IsMade : Type 0
  IsMade = IsCurrent × ((after : List Edn) × Leads means tx.dones tx.dones store.values after × KeepsRules accepts store tx after)

  -- where so much may still be added to the tally and taken from it
  abbrev pub Why : ℕ → ℕ → CommitFault → Type 0
  Why most_added most_taken (commits.Foreign (aliens.Ref r)) = FirstWithout (λ d. d.r < length store.values) (λ d. d.r ≡ r) tx.dones
  Why most_added most_taken (commits.Foreign (aliens.Agent g)) = HasRefs store tx × FirstWithout (λ h. h < agents) (λ h. h ≡ g) (all_agents_of tx.sends)
  Why most_added most_taken (commits.Foreign aliens.Tally) = HasRefs store tx × HasAgents agents tx × AnyByRecursion (λ d. (store.tally ≡ Some d.r) × (Counts d.op → ⊥)) tx.dones
  Why most_added most_taken (commits.Foreign (aliens.Point p)) = HasRefs store tx × HasAgents agents tx × OnlyCounts store tx × (p ≡ tx.read_point) × (at ≤ p)
  Why most_added most_taken (commits.NoSuchFun code) = IsHere × (LacksFun knows tx code ⊎ (HasFuns knows tx × LacksPred knows store tx code))
  Why most_added most_taken (commits.Conflict c) = IsKnown × NamesSmallest store tx c
  Why most_added most_taken (commits.Foreign (aliens.Value r)) = IsKnown × AreUnchanged store tx × IsSmallestOther store tx r
  Why most_added most_taken (commits.Refused r cause) = IsCurrent × RefusedOn means r cause tx.dones store.values
  Why most_added most_taken (commits.Invalid r) = IsCurrent × ((after : List Edn) × Leads means tx.dones tx.dones store.values after × IsSmallestInvalid accepts store tx after r)
  Why most_added most_taken commits.PointLimit = IsMade × (last_point < at)
  Why most_added most_taken commits.BookFull = IsMade × (at ≤ last_point)
      × (((sum : ℕ) × SumsTo store.tally 1 tx.dones sum × (most_added < sum)) ⊎ ((sum : ℕ) × SumsTo store.tally 2 tx.dones sum × (most_taken < sum)))
  Why most_added most_taken commits.Memory = ⊥

abbrev pub RefusalsSayWhy : Means → Accepts → Type 0
RefusalsSayWhy means accepts =
    (knows : Known) (store : RefsSeen) (at agents most_added most_taken : ℕ) (tx : TxSeen) (fault : CommitFault) → IsTx means tx.began tx.dones tx.tally
    → commit_refusal means accepts knows store at agents most_added most_taken tx ≡ Some fault ↔ Why means accepts knows store at agents tx most_added most_taken fault

-- ---- the notices of a commit

-- Each is smaller than all later ones.
abbrev pub AreRising : List ℕ → Type 0
AreRising [] = Unit {0}
AreRising (n ∷ ns) = AllByRecursion (λ m. n < m) ns × AreRising ns

-- Of each of these refs in turn there is a notice for each of its watches in the order of adding, with the values before and after.
abbrev pub Tell : List Guard → List Edn → List Edn → List ℕ → List Notice → Type 0
Tell guards before after [] told = told ≡ []
Tell guards before after (r ∷ rs) told =
    (guard : Guard) × (old new : Edn) × (rest : List Notice) × (slice_get guards r ≡ Some guard) × (slice_get before r ≡ Some old) × (slice_get after r ≡ Some new)
    × (told ≡ map (λ key. record { who = who.Ref r; key = key; before = old; after = new }) guard.watches ++ rest) × Tell guards before after rs rest

-- The refs that a commit has notices of are those that it changes, each once, in ascending order; of those that are here there is a notice.
pub record NoticesMean : Type 0 where
  pub rising : (dones : List Done) → AreRising (touched_refs dones)
  pub changed : (dones : List Done) (r : ℕ) → AnyByRecursion (λ q. q ≡ r) (touched_refs dones) ↔ IsChanged dones r
  pub told : (guards : List Guard) (before after : List Edn) (rs : List ℕ)
      → AllByRecursion (λ r. (r < length guards) × (r < length before) × (r < length after)) rs → Tell guards before after rs (notices guards before after rs)
