-- When an atom is changed, in plain words.
use Rattle.std.proofs.Common.{◌≡◌, ◌≢◌, ◌^◌, ℕ, cond, nat_lt, Bool, true, false, ◌⊎◌, inl, inr, Option, None, Some, Result, Ok, Err, slice_get, refl, sym, ap, subst, ◌∙◌}
use Rattle.std.specs.Option.{option_map, option_or}
use Rattle.std.specs.Ordering.{is_eq}
use Rattle.std.proofs.lemmas.Bool.{le-ltb, lt-ltb, ltb-false, ltb-true}
use Rattle.std.proofs.lemmas.Cmp.{tied_itself}
use Rattle.ref_value.specs.Edn.{Edn}
use Rattle.ref_value.specs.OrderLaws.{edn_cmp_total}
use Rattle.ref_fun.specs.Calls.{Known}
use Rattle.ref_fun.specs.Meaning.{Means}
use Rattle.ref_fun.specs.Rule.{Accepts, passes, unknown}
use Rattle.ref_fun.specs.declared.faults.Cause.{Cause}
use Rattle.ref_log.specs.Guards.{rule_at}
use Rattle.ref_log.specs.Laws.{same_value}
use Rattle.ref_log.specs.Replay.{codes_of, missing, place}
use Rattle.ref_log.specs.declared.operations.Op.{Op}
use Rattle.ref_atoms.specs.Atoms.{AtomsSeen}
use Rattle.ref_atoms.specs.Change.{change_refusal, compare_refusal, compare_refusal_if_here, is_same, is_same_if_here, late_refusal, refusal_if_here}
use Rattle.ref_atoms.specs.declared.faults.AtomFault.{AtomFault}
use Rattle.ref_atoms.specs.declared.faults.AtomFault.TheVariants as atom_faults
use Rattle.ref_play.specs.Plain.{KnowsRuleOf, Makes, RuledBy}
use Rattle.ref_play.specs.PlainAtoms.{ChangesMean, ChangesSo, ComparesMean, ComparesSo, IsCallable, IsUnacceptable}
use Rattle.ref_play.specs.PlainTx.{Calls, HasCalled}
use Rattle.ref_play.proofs.PlainCommits.{makes_place, place_makes, rule_is}
use Rattle.ref_play.proofs.PlainFaults.{place_refuses, refuses_place}
use Rattle.ref_play.proofs.PlainOperations.{called_has, has_called, lacking, lacks}
use Rattle.ref_play.proofs.PlainRules.{code_lacked, lacked_code, lacked_none, none_lacked, passes_rule, rule_passes, rule_refuses}

refuses_rule : (accepts : Accepts) (atoms : AtomsSeen) (a : ℕ) (v : Edn) → IsUnacceptable accepts atoms a v → passes accepts (rule_at atoms.guards a) v ≡ false
refuses_rule accepts atoms a v (rule, has, refuses) = ap (λ o. passes accepts o v) (rule_is atoms.guards a rule has) ∙ refuses

-- the refusal by what the rule says, and whether no point is left
abbrev judged : Bool → Bool → Option AtomFault
judged accepted past = option_or (cond accepted None (Some atom_faults.Invalid)) (cond past (Some atom_faults.PointLimit) None)

-- ---- swap and reset

module _ (means : Means) (accepts : Accepts) (knows : Known) (atoms : AtomsSeen) (at a : ℕ) (op : Op) where
  abbrev So : Option AtomFault → Type 0
  So refusal = ChangesSo means accepts knows atoms at a op refusal

  abbrev asked : Option ℕ → Option ℕ → Option AtomFault → Option AtomFault
  asked fun pred late = option_or (option_or (option_map atom_faults.NoSuchFun fun) (option_map atom_faults.NoSuchFun pred)) late

  so : So (change_refusal means accepts knows atoms at a op)
  so = by (slice_get atoms.values a) refl where
    ends : (old new : Edn) → IsCallable means accepts knows atoms at a op old → place means op old ≡ Ok new → (accepted : Bool) → passes accepts (rule_at atoms.guards a) new ≡ accepted → (past : Bool) → nat_lt (2 ^ 62) at ≡ past → So (judged accepted past)
    ends old new callable gives false refused past is = (old, new, callable, place_makes means op old new gives, rule_refuses accepts atoms.guards a new refused)
    ends old new callable gives true accepted true past = (old, new, callable, place_makes means op old new gives, rule_passes accepts atoms.guards a new accepted, ltb-true (2 ^ 62) at past)
    ends old new callable gives true accepted false within = (old, new, callable, place_makes means op old new gives, rule_passes accepts atoms.guards a new accepted, ltb-false (2 ^ 62) at within)

    called : (old : Edn) → IsCallable means accepts knows atoms at a op old → (gives : Result Edn Cause) → place means op old ≡ gives → So (late_refusal accepts (rule_at atoms.guards a) at gives)
    called old callable (Ok new) gives = ends old new callable gives (passes accepts (rule_at atoms.guards a) new) refl (nat_lt (2 ^ 62) at) refl
    called old callable (Err cause) gives = (old, callable, place_refuses means op old cause gives)

    pred : (old : Edn) → slice_get atoms.values a ≡ Some old → HasCalled knows.funs op → (lacked : Option ℕ) → unknown knows.preds (rule_at atoms.guards a) ≡ lacked → So (asked None lacked (late_refusal accepts (rule_at atoms.guards a) at (place means op old)))
    pred old here has None is = called old (here, has, none_lacked knows.preds atoms.guards a is) (place means op old) refl
    pred old here has (Some code) is =
        let one = lacked_code knows.preds atoms.guards a code is in
        ((λ none. absurd cc), inr (has, one.0, one.1))

    fun : (old : Edn) → slice_get atoms.values a ≡ Some old → (lacked : Option ℕ) → missing knows.funs (codes_of op) ≡ lacked → So (asked lacked (unknown knows.preds (rule_at atoms.guards a)) (late_refusal accepts (rule_at atoms.guards a) at (place means op old)))
    fun old here None is = pred old here (has_called knows.funs op is) (unknown knows.preds (rule_at atoms.guards a)) refl
    fun old here (Some code) is = ((λ none. absurd cc), inl (lacks knows.funs op code is))

    by : (found : Option Edn) → slice_get atoms.values a ≡ found → So (refusal_if_here means accepts knows (rule_at atoms.guards a) at op found)
    by None here = here
    by (Some old) here = fun old here (missing knows.funs (codes_of op)) refl

  by_asked : (old : Edn) → slice_get atoms.values a ≡ Some old → (fun : Option ℕ) → missing knows.funs (codes_of op) ≡ fun → (pred : Option ℕ) → unknown knows.preds (rule_at atoms.guards a) ≡ pred
      → change_refusal means accepts knows atoms at a op ≡ asked fun pred (late_refusal accepts (rule_at atoms.guards a) at (place means op old))
  by_asked old here fun f pred p =
      ap (refusal_if_here means accepts knows (rule_at atoms.guards a) at op) here
      ∙ (ap (λ x. asked x (unknown knows.preds (rule_at atoms.guards a)) (late_refusal accepts (rule_at atoms.guards a) at (place means op old))) f
      ∙ ap (λ x. asked fun x (late_refusal accepts (rule_at atoms.guards a) at (place means op old))) p)

  by_called : (old : Edn) → IsCallable means accepts knows atoms at a op old → (gives : Result Edn Cause) → place means op old ≡ gives → change_refusal means accepts knows atoms at a op ≡ late_refusal accepts (rule_at atoms.guards a) at gives
  by_called old (here, has, known) gives is =
      by_asked old here None (called_has knows.funs op has) None (lacked_none knows.preds atoms.guards a known)
      ∙ ap (late_refusal accepts (rule_at atoms.guards a) at) is

  by_judged : (old new : Edn) → IsCallable means accepts knows atoms at a op old → Makes means op old new → (accepted : Bool) → passes accepts (rule_at atoms.guards a) new ≡ accepted → (past : Bool) → nat_lt (2 ^ 62) at ≡ past → change_refusal means accepts knows atoms at a op ≡ judged accepted past
  by_judged old new callable makes accepted p past l =
      by_called old callable (Ok new) (makes_place means op old new makes)
      ∙ (ap (λ b. judged b (nat_lt (2 ^ 62) at)) p ∙ ap (judged accepted) l)

  back : (refusal : Option AtomFault) → So refusal → change_refusal means accepts knows atoms at a op ≡ refusal
  back None (old, new, callable, makes, accepted, within) = by_judged old new callable makes true (passes_rule accepts atoms.guards a new accepted) false (le-ltb (2 ^ 62) at within)
  back (Some atom_faults.NoSuchAtom) none = ap (refusal_if_here means accepts knows (rule_at atoms.guards a) at op) none
  back (Some (atom_faults.NoSuchFun code)) (here, why) = by (slice_get atoms.values a) refl why where
    by : (found : Option Edn) → slice_get atoms.values a ≡ found → (Calls code op × (knows.funs code ≡ false)) ⊎ (HasCalled knows.funs op × RuledBy atoms.guards code a × (knows.preds code ≡ false)) → change_refusal means accepts knows atoms at a op ≡ Some (atom_faults.NoSuchFun code)
    by None none why = absurd (here none)
    by (Some old) is (inl (calls, never)) = by_asked old is (Some code) (lacking knows.funs op code calls never) (unknown knows.preds (rule_at atoms.guards a)) refl
    by (Some old) is (inr (has, ruled, never)) = by_asked old is None (called_has knows.funs op has) (Some code) (code_lacked knows.preds atoms.guards a code ruled never)
  back (Some (atom_faults.Refused cause)) (old, callable, refuses) = by_called old callable (Err cause) (refuses_place means op old cause refuses)
  back (Some atom_faults.Invalid) (old, new, callable, makes, refuses) = by_judged old new callable makes false (refuses_rule accepts atoms a new refuses) (nat_lt (2 ^ 62) at) refl
  back (Some atom_faults.PointLimit) (old, new, callable, makes, accepted, past) = by_judged old new callable makes true (passes_rule accepts atoms.guards a new accepted) true (lt-ltb (2 ^ 62) at past)
  back (Some atom_faults.Memory) never = absurd never

pub changes_mean : (means : Means) (accepts : Accepts) → ChangesMean means accepts
changes_mean means accepts knows atoms at a op refusal = (λ is. subst (ChangesSo means accepts knows atoms at a op) is (so means accepts knows atoms at a op), back means accepts knows atoms at a op refusal)

-- ---- compare and set

same_by : (old : Edn) (found : Option Edn) → is_same_if_here found old ≡ true → found ≡ Some old
same_by old None is = absurd cc
same_by old (Some v) is = ap Some (same_value v old is)

by_same : (old : Edn) (found : Option Edn) → found ≡ Some old → is_same_if_here found old ≡ true
by_same old found is = ap (λ o. is_same_if_here o old) is ∙ ap is_eq (tied_itself edn_cmp_total old)

module _ (accepts : Accepts) (knows : ℕ → Bool) (atoms : AtomsSeen) (at a : ℕ) (old new : Edn) where
  abbrev SoFar : Option AtomFault → Type 0
  SoFar refusal = ComparesSo accepts knows atoms at a old new refusal

  -- the refusal by the code that the table lacks, what the rule says, whether the atom has the old value, and whether no point is left
  abbrev compared : Option ℕ → Bool → Bool → Bool → Option AtomFault
  compared lacked accepted same past =
      option_or (option_map atom_faults.NoSuchFun lacked) (option_or (cond accepted None (Some atom_faults.Invalid)) (cond same (cond past (Some atom_faults.PointLimit) None) None))

  compares_so : SoFar (compare_refusal accepts knows atoms at a old new)
  compares_so = by (slice_get atoms.values a) refl where
    there : (v : Edn) → slice_get atoms.values a ≡ Some v → slice_get atoms.values a ≢ None
    there v here none = absurd cc

    same_here : (v : Edn) → slice_get atoms.values a ≡ Some v → (b : Bool) → is_same old v ≡ b → slice_get atoms.values a ≡ Some old → b ≡ true
    same_here v here b is equal = sym is ∙ by_same old (Some v) (sym here ∙ equal)

    ends : (v : Edn) → slice_get atoms.values a ≡ Some v → KnowsRuleOf knows atoms.guards a → (accepted : Bool) → passes accepts (rule_at atoms.guards a) new ≡ accepted → (same : Bool) → is_same old v ≡ same → (past : Bool) → nat_lt (2 ^ 62) at ≡ past → SoFar (compared None accepted same past)
    ends v here known false refused same s past l = (there v here, known, rule_refuses accepts atoms.guards a new refused)
    ends v here known true accepted true s true past = (here ∙ same_by old (Some v) s, known, rule_passes accepts atoms.guards a new accepted, ltb-true (2 ^ 62) at past)
    ends v here known true accepted true s false within = (there v here, known, rule_passes accepts atoms.guards a new accepted, λ equal. ltb-false (2 ^ 62) at within)
    ends v here known true accepted false s past l = (there v here, known, rule_passes accepts atoms.guards a new accepted, λ equal. let is = same_here v here false s equal in absurd cc)

    coded : (v : Edn) → slice_get atoms.values a ≡ Some v → (lacked : Option ℕ) → unknown knows (rule_at atoms.guards a) ≡ lacked → SoFar (compared lacked (passes accepts (rule_at atoms.guards a) new) (is_same old v) (nat_lt (2 ^ 62) at))
    coded v here None is = ends v here (none_lacked knows atoms.guards a is) (passes accepts (rule_at atoms.guards a) new) refl (is_same old v) refl (nat_lt (2 ^ 62) at) refl
    coded v here (Some code) is =
        let one = lacked_code knows atoms.guards a code is in
        (there v here, one.0, one.1)

    by : (found : Option Edn) → slice_get atoms.values a ≡ found → SoFar (compare_refusal_if_here accepts knows (rule_at atoms.guards a) at old new found)
    by None here = here
    by (Some v) here = coded v here (unknown knows (rule_at atoms.guards a)) refl

  by_compared : (v : Edn) → slice_get atoms.values a ≡ Some v → (lacked : Option ℕ) → unknown knows (rule_at atoms.guards a) ≡ lacked → (accepted : Bool) → passes accepts (rule_at atoms.guards a) new ≡ accepted → (same : Bool) → is_same old v ≡ same → (past : Bool) → nat_lt (2 ^ 62) at ≡ past
      → compare_refusal accepts knows atoms at a old new ≡ compared lacked accepted same past
  by_compared v here lacked u accepted p same s past l =
      ap (compare_refusal_if_here accepts knows (rule_at atoms.guards a) at old new) here
      ∙ (ap (λ x. compared x (passes accepts (rule_at atoms.guards a) new) (is_same old v) (nat_lt (2 ^ 62) at)) u
      ∙ (ap (λ x. compared lacked x (is_same old v) (nat_lt (2 ^ 62) at)) p
      ∙ (ap (λ x. compared lacked accepted x (nat_lt (2 ^ 62) at)) s
      ∙ ap (λ x. compared lacked accepted same x) l)))

  -- the value that an atom has which is here
  with_value : (Result : Type 0) → slice_get atoms.values a ≢ None → ((v : Edn) → slice_get atoms.values a ≡ Some v → Result) → Result
  with_value Result here on = by (slice_get atoms.values a) refl where
    by : (found : Option Edn) → slice_get atoms.values a ≡ found → Result
    by None none = absurd (here none)
    by (Some v) is = on v is

  compares_back : (refusal : Option AtomFault) → SoFar refusal → compare_refusal accepts knows atoms at a old new ≡ refusal
  compares_back None (here, known, accepted, within) = with_value (compare_refusal accepts knows atoms at a old new ≡ None) here (λ v is. by v is (is_same old v) refl) where
    by : (v : Edn) → slice_get atoms.values a ≡ Some v → (same : Bool) → is_same old v ≡ same → compare_refusal accepts knows atoms at a old new ≡ None
    by v is true s = by_compared v is None (lacked_none knows atoms.guards a known) true (passes_rule accepts atoms.guards a new accepted) true s false (le-ltb (2 ^ 62) at (within (is ∙ same_by old (Some v) s)))
    by v is false s = by_compared v is None (lacked_none knows atoms.guards a known) true (passes_rule accepts atoms.guards a new accepted) false s (nat_lt (2 ^ 62) at) refl
  compares_back (Some atom_faults.NoSuchAtom) none = ap (compare_refusal_if_here accepts knows (rule_at atoms.guards a) at old new) none
  compares_back (Some (atom_faults.NoSuchFun code)) (here, ruled, never) =
      with_value (compare_refusal accepts knows atoms at a old new ≡ Some (atom_faults.NoSuchFun code)) here
      (λ v is. by_compared v is (Some code) (code_lacked knows atoms.guards a code ruled never) (passes accepts (rule_at atoms.guards a) new) refl (is_same old v) refl (nat_lt (2 ^ 62) at) refl)
  compares_back (Some atom_faults.Invalid) (here, known, refuses) =
      with_value (compare_refusal accepts knows atoms at a old new ≡ Some atom_faults.Invalid) here
      (λ v is. by_compared v is None (lacked_none knows atoms.guards a known) false (refuses_rule accepts atoms a new refuses) (is_same old v) refl (nat_lt (2 ^ 62) at) refl)
  compares_back (Some atom_faults.PointLimit) (here, known, accepted, past) =
      by_compared old here None (lacked_none knows atoms.guards a known) true (passes_rule accepts atoms.guards a new accepted) true (by_same old (Some old) refl) true (lt-ltb (2 ^ 62) at past)
  compares_back (Some (atom_faults.Refused cause)) never = absurd never
  compares_back (Some atom_faults.Memory) never = absurd never

pub compares_mean : (accepts : Accepts) → ComparesMean accepts
compares_mean accepts = record {
  refused = λ knows atoms at a old new refusal. (λ is. subst (ComparesSo accepts knows atoms at a old new) is (compares_so accepts knows atoms at a old new), compares_back accepts knows atoms at a old new refusal);
  done = λ atoms a old. (same_by old (slice_get atoms.values a), by_same old (slice_get atoms.values a));
}
