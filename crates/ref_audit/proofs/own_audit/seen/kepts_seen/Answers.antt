use Rattle.std.proofs.Common.{◌≡◌, None, Option, ap, sym, ◌∙◌, refl, option_copied}
use Rattle.ref_value.specs.Edn.{Edn}
use Rattle.ref_fun.specs.declared.rules.Rule.{Rule}
use Rattle.ref_world.specs.References.{guards_of, value_at, values_of}
use Rattle.ref_audit.specs.Made.{who_of}
use Rattle.ref_audit.specs.OwnDump.{kept_seen}
use Rattle.ref_verdict.specs.declared.reading.dumps.Kept.{Kept}
use Rattle.ref_audit.proofs.Left.{one_more}
use Rattle.ref_audit.proofs.Numbered.{below_of, numbered_all, value_left, value_there}
use Rattle.ref_audit.proofs.own_audit.seen.kepts_seen.Goals as goal

abbrev kept_parts : Edn → Option Rule → Kept
kept_parts v rule = record { value = v; rule = rule }

same_kept : (v w : Edn) (r s : Option Rule) → v ≡ w → r ≡ s → kept_parts v r ≡ kept_parts w s
same_kept v w r s p q = rw (p, q) refl

pub returns-in_default : goal.returns-in_default
returns-in_default c =
    let values = values_of c.args.world.now (who_of c.args.kind 0) in
    let told : None ≡ value_at c.args.world.now c.who-who.result = ap option_copied (sym c.in_default.is) ∙ c.value_of.ensures.value in
    let none = value_there c.args.world.now c.args.kind c.loop-n.n c.who-who.result None c.who-who.ensures told in
    let all = numbered_all (kept_seen (guards_of c.args.world.now (who_of c.args.kind 0))) values c.loop-n.n c.loop-n.all.items none c.loop-n.invariant.left in
    rw all at c.of.ensures.value

pub loop-n-preserved : goal.loop-n-preserved
loop-n-preserved c =
    let there = value_there c.args.world.now c.args.kind c.loop-n.n c.who-who.result _ c.who-who.ensures c.in-Some.ensures.value in
    let left = value_left kept_parts c.args.world.now c.args.kind c.loop-n.n c.who-who.result c.in-Some.value.now _ c.who-who.ensures c.in-Some.ensures.value c.rule_of.ensures.rule in
    record {
      left = one_more _ _ _ _ _ _ _ c.loop-n.invariant.left left (same_kept _ _ _ _ c.in_ok-share.ensures c.in_ok-share_lent_rule.ensures) c.in_ok-push.ensures.items;
      within = below_of _ _ _ there;
    }
