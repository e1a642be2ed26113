use Rattle.std.proofs.Common.{◌≡◌, false, true, arith, subst}
use Rattle.ref_agents.specs.Places.{has_pair}
use Rattle.ref_agents.proofs.PairLaws.{first_here, first_least, none_here}
use Rattle.ref_agents.proofs.pairs.Pairs.first_from.Goals as goal

pub returns-in_err-y-clause-none : goal.returns-in_err-y-clause-none
returns-in_err-y-clause-none c none b from below =
    subst (λ l. has_pair l c.args.x b ≡ false) c.self.view_is
    (none_here c.self.inside.pairs c.args.x c.args.from 18446744073709551615 _ _ c.range.result c.new.ensures.start c.new.ensures.end (c.range.ensures.in_range c.new.ensures.exhausted) c.in_err-y.ensures.steps.0 b from (omega (arith, below)))

pub returns-clause-here : goal.returns-clause-here
returns-clause-here c =
    subst (λ l. has_pair l c.args.x c.in_ok-y.field-0.now.1 ≡ true) c.self.view_is
    (first_here c.self.inside.pairs c.args.x c.args.from 18446744073709551615 _ _ c.range.result c.new.ensures.start c.new.ensures.end (c.range.ensures.in_range c.new.ensures.exhausted) c.in_ok-y.field-0.now c.next.new.self c.in_ok-y.ensures.steps).1

pub returns-clause-from : goal.returns-clause-from
returns-clause-from c =
    (first_here c.self.inside.pairs c.args.x c.args.from 18446744073709551615 _ _ c.range.result c.new.ensures.start c.new.ensures.end (c.range.ensures.in_range c.new.ensures.exhausted) c.in_ok-y.field-0.now c.next.new.self c.in_ok-y.ensures.steps).0

pub returns-clause-first : goal.returns-clause-first
returns-clause-first c b from below =
    subst (λ l. has_pair l c.args.x b ≡ false) c.self.view_is
    (first_least c.self.inside.pairs c.args.x c.args.from 18446744073709551615 _ _ c.range.result c.new.ensures.start c.new.ensures.end (c.range.ensures.in_range c.new.ensures.exhausted) c.in_ok-y.field-0.now c.next.new.self c.in_ok-y.ensures.steps b from below)
