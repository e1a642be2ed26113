-- A table with all of Core has what a dump of Core names.
use Rattle.std.proofs.Common.{◌≡◌, ℕ, zero, suc, ◌<◌, ◌≤◌, ◌&&◌, Bool, true, false, cond, nat_le, List, [], ◌∷◌, length, get_or, Option, None, Some, refl, ap, ◌∙◌, arith}
use Rattle.std.specs.List.{list_all}
use Rattle.std.proofs.lemmas.Bool.Decides.{nat_tests}
use Rattle.ref_fun.specs.Calls.{HasCore, Known}
use Rattle.ref_fun.specs.Rule.{unknown}
use Rattle.ref_fun.specs.declared.rules.Rule.{Rule}
use Rattle.ref_fun.specs.Names.{is_function, is_predicate}
use Rattle.ref_verdict.specs.OfCore.{is_rule_of_core}

both : (a b : Bool) → (a && b) ≡ true → (a ≡ true) × (b ≡ true)
both true b e = (refl, e)
both false b e = absurd cc

pub knows_function : (knows : Known) (code : ℕ) → HasCore knows → is_function code ≡ true → knows.funs code ≡ true
knows_function knows code core is =
    let p = both (nat_le 1 code) (nat_le code 10) is in
    let low : nat_le 1 code ≡ true = p.0 in
    let high : nat_le code 10 ≡ true = p.1 in
    let least : 1 ≤ code = grind (arith, nat_tests) in
    let most : code ≤ 10 = grind (arith, nat_tests) in
    core.funs code least most

knows_predicate : (knows : Known) (code : ℕ) → HasCore knows → is_predicate code ≡ true → knows.preds code ≡ true
knows_predicate knows code core is =
    let p = both (nat_le 101 code) (nat_le code 109) is in
    let low : nat_le 101 code ≡ true = p.0 in
    let high : nat_le code 109 ≡ true = p.1 in
    let least : 101 ≤ code = grind (arith, nat_tests) in
    let most : code ≤ 109 = grind (arith, nat_tests) in
    core.preds code least most

pub knows_rule : (knows : Known) (rule : Option Rule) → HasCore knows → is_rule_of_core rule ≡ true → unknown knows.preds rule ≡ None
knows_rule knows None core is = refl
knows_rule knows (Some rule) core is = ap (λ b. cond b None (Some rule.code)) (knows_predicate knows rule.code core is)

-- what all of a list pass, each of them passes
pub all_at : {X : Type 0} (test : X → Bool) (xs : List X) (i : ℕ) (x : X) → list_all test xs ≡ true → i < length xs → x ≡ get_or xs i x → test x ≡ true
all_at test [] i x all h is = absurd (omega arith)
all_at test (y ∷ ys) zero x all h is = ap test is ∙ (both (test y) (list_all test ys) all).0
all_at test (y ∷ ys) (suc i) x all h is = all_at test ys i x (both (test y) (list_all test ys) all).1 (omega arith) is
