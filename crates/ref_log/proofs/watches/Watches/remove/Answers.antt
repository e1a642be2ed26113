use Rattle.std.proofs.Common.{not, rules, subst, sym}
use Rattle.std.proofs.lemmas.Fn.{filter_same}
use Rattle.ref_log.specs.Watches.{AreDistinct, is_key}
use Rattle.ref_log.proofs.Guarded.{distinct_left}
use Rattle.ref_log.proofs.watches.Watches.remove.Goals as goal

pub returns : goal.returns
returns c = record {
  was = search rules;
  removes = rw (← c.self.view_is) (filter_same _ _ _ (λ x b f' k. search rules) _ _ c.retain.ensures.filtered);
}

pub invariant_of-self : goal.invariant_of-self
invariant_of-self c =
    subst AreDistinct (sym (filter_same _ (λ k. not (is_key c.args.key.now k)) _ (λ x b f' k. search rules) _ _ c.retain.ensures.filtered)) (distinct_left _ _ c.self.invariant)
