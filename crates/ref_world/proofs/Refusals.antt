-- What a commit returns where it is refused.
use Rattle.std.proofs.Common.{◌≡◌, ℕ, Option, None, Some, Result, Ok, Err, IfErr, refl, subst}
use Rattle.ref_fun.specs.Calls.{Known}
use Rattle.ref_fun.specs.Meaning.{Means}
use Rattle.ref_fun.specs.Rule.{Accepts}
use Rattle.ref_log.specs.Told.{TellsFault, TellsOrMemory}
use Rattle.ref_refs.specs.Commit.{or_fault}
use Rattle.ref_refs.specs.Conflicts.{ConflictFits}
use Rattle.ref_refs.specs.declared.faults.CommitFault.{CommitFault}
use Rattle.ref_refs.specs.declared.faults.CommitFault.TheVariants.{Memory}
use Rattle.ref_tx.specs.Seen.{TxSeen}
use Rattle.ref_world.specs.Seen.{WorldSeen}
use Rattle.ref_world.specs.World.{commit_refusal, early_refusal}

first_none : (first later : Option CommitFault) → or_fault first later ≡ None → first ≡ None
first_none None later none = refl
first_none (Some fault) later none = none

-- Where nothing else refuses, there was no memory.
pub memory_told : (means : Means) (accepts : Accepts) (knows : Known) (world : WorldSeen) (tx : TxSeen)
    → commit_refusal means accepts knows world tx ≡ None
    → TellsFault Memory (early_refusal knows world tx) (commit_refusal means accepts knows world tx) Memory
memory_told means accepts knows world tx none = (λ other. absurd (other refl), λ memory. first_none (early_refusal knows world tx) _ none)

-- A conflict that is returned is one of the transaction.
pub conflict_told : {T : Type 0} (tx : TxSeen) (changed : ℕ → ℕ) (early reason : Option CommitFault) (r : Result T CommitFault)
    → TellsOrMemory Memory early reason r → ((fault : CommitFault) → TellsFault Memory early reason fault → ConflictFits tx changed fault) → IfErr r (ConflictFits tx changed)
conflict_told tx changed early reason (Ok x) told fits = tt
conflict_told tx changed early reason (Err fault) told fits = fits fault told

-- what holds at what the calls found, at what the world has
pub same_at : {p p' n n' a a' t t' : ℕ} (P : ℕ → ℕ → ℕ → ℕ → Type 0) → p ≡ p' → n ≡ n' → a ≡ a' → t ≡ t' → P p n a t → P p' n' a' t'
same_at {p = p} {p' = p'} {n = n} {n' = n'} {a = a} {a' = a'} {t = t} {t' = t'} P at agents added taken is =
    subst (λ x. P p' n' a' x) taken (subst (λ x. P p' n' x t) added (subst (λ x. P p' x a t) agents (subst (λ x. P x n a t) at is)))
