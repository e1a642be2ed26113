-- What is said of a reference's rule, in plain words.
use Rattle.std.proofs.Common.{◌≡◌, ℕ, cond, Bool, true, false, List, Option, None, Some, refl, sym, ap, ◌∙◌}
use Rattle.ref_value.specs.Edn.{Edn}
use Rattle.ref_fun.specs.Rule.{Accepts, passes, unknown}
use Rattle.ref_fun.specs.declared.rules.Rule.{Rule}
use Rattle.ref_log.specs.Guards.{rule_at}
use Rattle.ref_log.specs.declared.guards.Guard.{Guard}
use Rattle.ref_play.specs.Plain.{HasRule, KnowsRuleOf, RuleAccepts, RuledBy}
use Rattle.ref_play.proofs.PlainCommits.{has_rule, rule_is}

-- the predicate that the table lacks, if it does
module _ (knows : ℕ → Bool) (guards : List Guard) (n : ℕ) where
  pub lacked_code : (code : ℕ) → unknown knows (rule_at guards n) ≡ Some code → RuledBy guards code n × (knows code ≡ false)
  lacked_code code is = by (rule_at guards n) refl is where
    one : (rule : Rule) → HasRule guards n rule → (b : Bool) → knows rule.code ≡ b → cond b None (Some rule.code) ≡ Some code → RuledBy guards code n × (knows code ≡ false)
    one rule has true e is = absurd cc
    one rule has false e is =
        let same : rule.code ≡ code = cc in
        ((rule, has, same), ap knows (sym same) ∙ e)

    by : (rule : Option Rule) → rule_at guards n ≡ rule → unknown knows rule ≡ Some code → RuledBy guards code n × (knows code ≡ false)
    by None has is = absurd cc
    by (Some rule) has is = one rule (has_rule guards n rule has) (knows rule.code) refl is

  pub code_lacked : (code : ℕ) → RuledBy guards code n → knows code ≡ false → unknown knows (rule_at guards n) ≡ Some code
  code_lacked code (rule, has, same) never =
      ap (unknown knows) (rule_is guards n rule has) ∙ (ap (λ b. cond b None (Some rule.code)) (ap knows same ∙ never) ∙ ap Some same)

  pub none_lacked : unknown knows (rule_at guards n) ≡ None → KnowsRuleOf knows guards n
  none_lacked none rule has = one (knows rule.code) (ap (unknown knows) (sym (rule_is guards n rule has)) ∙ none) where
    one : (b : Bool) → cond b None (Some rule.code) ≡ None → b ≡ true
    one true is = refl
    one false is = absurd cc

  pub lacked_none : KnowsRuleOf knows guards n → unknown knows (rule_at guards n) ≡ None
  lacked_none known = by (rule_at guards n) refl where
    by : (rule : Option Rule) → rule_at guards n ≡ rule → unknown knows rule ≡ None
    by None has = refl
    by (Some rule) has = ap (λ b. cond b None (Some rule.code)) (known rule (has_rule guards n rule has))

-- what the rule says of a value
module _ (accepts : Accepts) (guards : List Guard) (n : ℕ) (v : Edn) where
  pub rule_passes : passes accepts (rule_at guards n) v ≡ true → RuleAccepts accepts guards n v
  rule_passes is rule has = ap (λ o. passes accepts o v) (sym (rule_is guards n rule has)) ∙ is

  pub passes_rule : RuleAccepts accepts guards n v → passes accepts (rule_at guards n) v ≡ true
  passes_rule accepted = by (rule_at guards n) refl where
    by : (rule : Option Rule) → rule_at guards n ≡ rule → passes accepts rule v ≡ true
    by None has = refl
    by (Some rule) has = accepted rule (has_rule guards n rule has)

  pub rule_refuses : passes accepts (rule_at guards n) v ≡ false → (rule : Rule) × HasRule guards n rule × (accepts rule.code rule.args v ≡ false)
  rule_refuses is = by (rule_at guards n) refl is where
    by : (rule : Option Rule) → rule_at guards n ≡ rule → passes accepts rule v ≡ false → (r : Rule) × HasRule guards n r × (accepts r.code r.args v ≡ false)
    by None has is = absurd cc
    by (Some rule) has is = (rule, has_rule guards n rule has, is)
