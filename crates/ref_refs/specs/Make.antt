-- Making a ref.
use Rattle.std.specs.Prelude.{ℕ, Bool, not, ◌&&◌, ◌||◌, ◌==◌, if◌then◌else◌, [], ◌∷◌, ◌++◌, length, Option, Some, is_some}
use Rattle.ref_value.specs.Edn.{Edn}
use Rattle.ref_fun.specs.declared.rules.Rule.{Rule}
use Rattle.ref_fun.specs.Rule.{Accepts}
use Rattle.ref_log.specs.Guards.{with_guard}
use Rattle.ref_log.specs.Make as makes
use Rattle.ref_log.specs.Tally.{is_count}
use Rattle.ref_log.specs.declared.faults.MakeFault.{MakeFault}
use Rattle.ref_refs.specs.Seen.{RefsSeen, changed_at}

-- Whether a ref would be the tally and can't be: there is one already, or the value is no integer of 0 or more.
abbrev pub is_bad_tally : RefsSeen → Edn → Bool → Bool
is_bad_tally store start tally = tally && (is_some store.tally || not (is_count (start ∷ [])))

-- the first fault of making a ref at this point with this value and this rule, if any, as the tally or not
abbrev pub make_refusal : Accepts → (ℕ → Bool) → RefsSeen → ℕ → Edn → Option Rule → Bool → Option MakeFault
make_refusal accepts knows store at start rule tally = makes.make_refusal accepts knows (length store.values) (is_bad_tally store start tally) at start rule

-- The store with a ref more, whose number is the next one.
abbrev pub with_ref : RefsSeen → ℕ → Edn → Option Rule → Bool → RefsSeen
with_ref store at start rule tally = record {
  values = store.values ++ start ∷ [];
  lasts = store.lasts ++ at ∷ [];
  tally = if tally then Some (length store.values) else store.tally;
  guards = with_guard store.guards rule;
}

-- the last change of a ref after that
abbrev pub made_at : RefsSeen → ℕ → ℕ → ℕ
made_at store at r = if length store.values == r then at else changed_at store.lasts r
