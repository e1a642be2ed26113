-- When a reference is made, and when it can get another rule, in plain words.
use Rattle.std.proofs.Common.{◌≡◌, ◌≢◌, ◌↔◌, ◌^◌, ◌||◌, ℕ, pos, cond, not, nat_lt, is_some, length, Bool, true, false, ◌⊎◌, inl, inr, [], ◌∷◌, Option, None, Some, refl, sym, ap, subst, ◌∙◌}
use Rattle.std.specs.Option.{option_map, option_or}
use Rattle.std.proofs.lemmas.Bool.{and_from, and_parts, false_from_ne_true, le-ltb, lt-ltb, ltb-false, ltb-true, not-true, or_cases, or_left, or_right}
use Rattle.ref_value.specs.Edn.{Edn, int}
use Rattle.ref_fun.specs.Rule.{Accepts, passes, unknown}
use Rattle.ref_fun.specs.declared.rules.Rule.{Rule}
use Rattle.ref_log.specs.Guards.{rule_fault, rule_refusal}
use Rattle.ref_log.specs.Make.{make_refusal}
use Rattle.ref_log.specs.Tally.{is_count}
use Rattle.ref_log.specs.declared.faults.MakeFault.{MakeFault}
use Rattle.ref_log.specs.declared.faults.MakeFault.TheVariants as make_faults
use Rattle.ref_log.specs.declared.faults.RuleFault.{RuleFault}
use Rattle.ref_log.specs.declared.faults.RuleFault.TheVariants as rule_faults
use Rattle.ref_refs.specs.Make.{is_bad_tally}
use Rattle.ref_refs.specs.Seen.{RefsSeen}
use Rattle.ref_play.specs.PlainMakes.{HasRoom, IsBadTally, IsKnownRule, LacksRule, MakesSo, MakingsMean, RefusesIt, RuleMeans, RulesMean, SetsSo, TakesValue}
use Rattle.ref_play.proofs.PlainCommits.{has_rule, rule_is}

-- ---- a rule, or none

module _ (knows : ℕ → Bool) where
  lacks_rule : (rule : Option Rule) (code : ℕ) → unknown knows rule ≡ Some code → LacksRule knows rule code
  lacks_rule None code is = absurd cc
  lacks_rule (Some it) code is = by (knows it.code) refl is where
    by : (b : Bool) → knows it.code ≡ b → cond b None (Some it.code) ≡ Some code → LacksRule knows (Some it) code
    by true has is = absurd cc
    by false lacks is =
        let same : it.code ≡ code = cc in
        (it, refl, same, ap knows (sym same) ∙ lacks)

  rule_lacks : (rule : Option Rule) (code : ℕ) → LacksRule knows rule code → unknown knows rule ≡ Some code
  rule_lacks rule code (it, is, same, lacks) = ap (unknown knows) is ∙ (ap (λ b. cond b None (Some it.code)) (ap knows same ∙ lacks) ∙ ap Some same)

  known_rule : (rule : Option Rule) → unknown knows rule ≡ None → IsKnownRule knows rule
  known_rule rule none it is = one (knows it.code) (ap (unknown knows) (sym is) ∙ none) where
    one : (b : Bool) → cond b None (Some it.code) ≡ None → b ≡ true
    one true is = refl
    one false is = absurd cc

  rule_known : (rule : Option Rule) → IsKnownRule knows rule → unknown knows rule ≡ None
  rule_known None known = refl
  rule_known (Some it) known = ap (λ b. cond b None (Some it.code)) (known it refl)

module _ (accepts : Accepts) where
  takes_value : (rule : Option Rule) (v : Edn) → passes accepts rule v ≡ true → TakesValue accepts rule v
  takes_value rule v passed it is = ap (λ o. passes accepts o v) (sym is) ∙ passed

  value_taken : (rule : Option Rule) (v : Edn) → TakesValue accepts rule v → passes accepts rule v ≡ true
  value_taken None v takes = refl
  value_taken (Some it) v takes = takes it refl

  refuses_it : (rule : Option Rule) (v : Edn) → passes accepts rule v ≡ false → RefusesIt accepts rule v
  refuses_it None v refused = absurd cc
  refuses_it (Some it) v refused = (it, refl, refused)

  it_refused : (rule : Option Rule) (v : Edn) → RefusesIt accepts rule v → passes accepts rule v ≡ false
  it_refused rule v (it, is, refused) = ap (λ o. passes accepts o v) is ∙ refused

-- ---- making a reference

module _ (accepts : Accepts) (knows : ℕ → Bool) (count : ℕ) (bad : Bool) (Bad : Type 0) (to : bad ≡ true → Bad) (from : Bad → bad ≡ true) (at : ℕ) (start : Edn) (rule : Option Rule) where
  abbrev So : Option MakeFault → Type 0
  So refusal = MakesSo accepts knows count Bad at start rule refusal

  -- the refusal by the code that the table lacks, and the four tests
  abbrev asked : Option ℕ → Bool → Bool → Bool → Bool → Option MakeFault
  asked lacked room is_bad passed past =
      option_or (option_map make_faults.NoSuchFun lacked) (cond (not room) (Some make_faults.Full) (cond is_bad (Some make_faults.BadTally) (cond (not passed) (Some make_faults.Invalid) (cond past (Some make_faults.PointLimit) None))))

  never_bad : bad ≡ false → Bad → ⊥
  never_bad not_bad is = let yes = from is in cc

  so : So (make_refusal accepts knows count bad at start rule)
  so = coded (unknown knows rule) refl where
    tests : IsKnownRule knows rule → (room : Bool) → nat_lt count (2 ^ 20) ≡ room → (is_bad : Bool) → bad ≡ is_bad → (passed : Bool) → passes accepts rule start ≡ passed → (past : Bool) → nat_lt (2 ^ 62) at ≡ past → So (asked None room is_bad passed past)
    tests known false full is_bad b passed p past l = (known, ltb-false count (2 ^ 20) full)
    tests known true room true b passed p past l = (known, ltb-true count (2 ^ 20) room, to b)
    tests known true room false b false p past l = ((known, ltb-true count (2 ^ 20) room, never_bad b), refuses_it accepts rule start p)
    tests known true room false b true p true l = ((known, ltb-true count (2 ^ 20) room, never_bad b), takes_value accepts rule start p, ltb-true (2 ^ 62) at l)
    tests known true room false b true p false l = ((known, ltb-true count (2 ^ 20) room, never_bad b), takes_value accepts rule start p, ltb-false (2 ^ 62) at l)

    coded : (lacked : Option ℕ) → unknown knows rule ≡ lacked → So (asked lacked (nat_lt count (2 ^ 20)) bad (passes accepts rule start) (nat_lt (2 ^ 62) at))
    coded None is = tests (known_rule knows rule is) (nat_lt count (2 ^ 20)) refl bad refl (passes accepts rule start) refl (nat_lt (2 ^ 62) at) refl
    coded (Some code) is = lacks_rule knows rule code is

  by_asked : (lacked : Option ℕ) → unknown knows rule ≡ lacked → (room : Bool) → nat_lt count (2 ^ 20) ≡ room → (is_bad : Bool) → bad ≡ is_bad → (passed : Bool) → passes accepts rule start ≡ passed → (past : Bool) → nat_lt (2 ^ 62) at ≡ past
      → make_refusal accepts knows count bad at start rule ≡ asked lacked room is_bad passed past
  by_asked lacked u room r is_bad b passed p past l =
      ap (λ x. asked x (nat_lt count (2 ^ 20)) bad (passes accepts rule start) (nat_lt (2 ^ 62) at)) u
      ∙ (ap (λ x. asked lacked x bad (passes accepts rule start) (nat_lt (2 ^ 62) at)) r
      ∙ (ap (λ x. asked lacked room x (passes accepts rule start) (nat_lt (2 ^ 62) at)) b
      ∙ (ap (λ x. asked lacked room is_bad x (nat_lt (2 ^ 62) at)) p
      ∙ ap (λ x. asked lacked room is_bad passed x) l)))

  by_room : HasRoom accepts knows count Bad at start rule → (passed : Bool) → passes accepts rule start ≡ passed → (past : Bool) → nat_lt (2 ^ 62) at ≡ past → make_refusal accepts knows count bad at start rule ≡ asked None true false passed past
  by_room (known, room, good) passed p past l = by_asked None (rule_known knows rule known) true (lt-ltb count (2 ^ 20) room) false (false_from_ne_true bad (λ is. good (to is))) passed p past l

  back : (refusal : Option MakeFault) → So refusal → make_refusal accepts knows count bad at start rule ≡ refusal
  back None (room, takes, within) = by_room room true (value_taken accepts rule start takes) false (le-ltb (2 ^ 62) at within)
  back (Some (make_faults.NoSuchFun code)) lacks = by_asked (Some code) (rule_lacks knows rule code lacks) (nat_lt count (2 ^ 20)) refl bad refl (passes accepts rule start) refl (nat_lt (2 ^ 62) at) refl
  back (Some make_faults.Full) (known, full) = by_asked None (rule_known knows rule known) false (le-ltb count (2 ^ 20) full) bad refl (passes accepts rule start) refl (nat_lt (2 ^ 62) at) refl
  back (Some make_faults.BadTally) (known, room, is_bad) = by_asked None (rule_known knows rule known) true (lt-ltb count (2 ^ 20) room) true (from is_bad) (passes accepts rule start) refl (nat_lt (2 ^ 62) at) refl
  back (Some make_faults.Invalid) (room, refuses) = by_room room false (it_refused accepts rule start refuses) (nat_lt (2 ^ 62) at) refl
  back (Some make_faults.PointLimit) (room, takes, past) = by_room room true (value_taken accepts rule start takes) true (lt-ltb (2 ^ 62) at past)
  back (Some make_faults.Memory) never = absurd never

  makes_so : (refusal : Option MakeFault) → make_refusal accepts knows count bad at start rule ≡ refusal ↔ So refusal
  makes_so refusal = (λ is. subst So is so, back refusal)

count_of : (start : Edn) → is_count (start ∷ []) ≡ true → (n : ℕ) × (start ≡ int (pos n))
count_of (int (pos n)) is = (n, refl)
count_of start is = absurd cc

bad_tally : (store : RefsSeen) (start : Edn) (tally : Bool) → is_bad_tally store start tally ≡ true → IsBadTally store start tally
bad_tally store start tally is = (parts.0, by (or_cases (is_some store.tally) (not (is_count (start ∷ []))) parts.1)) where
  parts : (tally ≡ true) × ((is_some store.tally || not (is_count (start ∷ []))) ≡ true)
  parts = and_parts tally (is_some store.tally || not (is_count (start ∷ []))) is

  by : (is_some store.tally ≡ true) ⊎ (not (is_count (start ∷ [])) ≡ true) → (store.tally ≢ None) ⊎ ((n : ℕ) → start ≢ int (pos n))
  by (inl there) = inl (λ none. let same = sym there ∙ ap is_some none in absurd cc)
  by (inr is) = inr (λ n same. let both = sym (not-true (is_count (start ∷ [])) is) ∙ ap (λ v. is_count (v ∷ [])) same in absurd cc)

tally_bad : (store : RefsSeen) (start : Edn) (tally : Bool) → IsBadTally store start tally → is_bad_tally store start tally ≡ true
tally_bad store start tally (is, why) = and_from tally (is_some store.tally || not (is_count (start ∷ []))) is (by why) where
  there : (t : Option ℕ) → t ≢ None → is_some t ≡ true
  there None here = absurd (here refl)
  there (Some t) here = refl

  by : (store.tally ≢ None) ⊎ ((n : ℕ) → start ≢ int (pos n)) → (is_some store.tally || not (is_count (start ∷ []))) ≡ true
  by (inl here) = or_left (is_some store.tally) (not (is_count (start ∷ []))) (there store.tally here)
  by (inr none) = or_right (is_some store.tally) (not (is_count (start ∷ []))) (ap not (false_from_ne_true (is_count (start ∷ [])) (λ is. let n = count_of start is in none n.0 n.1)))

pub makings_mean : (accepts : Accepts) → MakingsMean accepts
makings_mean accepts = record {
  refs = λ knows store at start rule tally refusal. makes_so accepts knows (length store.values) (is_bad_tally store start tally) (IsBadTally store start tally) (bad_tally store start tally) (tally_bad store start tally) at start rule refusal;
  atoms = λ knows count at start rule refusal. makes_so accepts knows count false ⊥ (λ is. absurd cc) (λ never. absurd never) at start rule refusal;
  agents = λ knows store start rule refusal. makes_so accepts knows (length store.agents) false ⊥ (λ is. absurd cc) (λ never. absurd never) 0 start rule refusal;
}

-- ---- another rule

module _ (accepts : Accepts) (knows : ℕ → Bool) (rule : Option Rule) where
  sets_so : (value : Option Edn) → SetsSo accepts knows value rule (rule_refusal accepts knows value rule)
  sets_so None = refl
  sets_so (Some v) = coded (unknown knows rule) refl where
    judged : IsKnownRule knows rule → (passed : Bool) → passes accepts rule v ≡ passed → SetsSo accepts knows (Some v) rule (rule_fault None passed)
    judged known true p = (v, refl, known, takes_value accepts rule v p)
    judged known false p = (v, refl, known, refuses_it accepts rule v p)

    coded : (lacked : Option ℕ) → unknown knows rule ≡ lacked → SetsSo accepts knows (Some v) rule (rule_fault lacked (passes accepts rule v))
    coded None is = judged (known_rule knows rule is) (passes accepts rule v) refl
    coded (Some code) is = ((λ none. absurd cc), lacks_rule knows rule code is)

  by_value : (value : Option Edn) (v : Edn) → value ≡ Some v → IsKnownRule knows rule → (passed : Bool) → passes accepts rule v ≡ passed → rule_refusal accepts knows value rule ≡ rule_fault None passed
  by_value value v is known passed p =
      ap (λ o. rule_refusal accepts knows o rule) is
      ∙ (ap (λ o. rule_fault o (passes accepts rule v)) (rule_known knows rule known) ∙ ap (rule_fault None) p)

  sets_back : (value : Option Edn) (refusal : Option RuleFault) → SetsSo accepts knows value rule refusal → rule_refusal accepts knows value rule ≡ refusal
  sets_back value None (v, is, known, takes) = by_value value v is known true (value_taken accepts rule v takes)
  sets_back value (Some rule_faults.NoSuch) none = ap (λ o. rule_refusal accepts knows o rule) none
  sets_back None (Some (rule_faults.NoSuchFun code)) (here, lacks) = absurd (here refl)
  sets_back (Some v) (Some (rule_faults.NoSuchFun code)) (here, lacks) = ap (λ o. rule_fault o (passes accepts rule v)) (rule_lacks knows rule code lacks)
  sets_back value (Some rule_faults.Invalid) (v, is, known, refuses) = by_value value v is known false (it_refused accepts rule v refuses)
  sets_back value (Some rule_faults.Memory) never = absurd never

pub rules_mean : (accepts : Accepts) → RulesMean accepts
rules_mean accepts knows value rule refusal = (λ is. subst (SetsSo accepts knows value rule) is (sets_so accepts knows rule value), sets_back accepts knows rule value refusal)

pub rule_means : RuleMeans
rule_means guards n rule = (has_rule guards n rule, rule_is guards n rule)
