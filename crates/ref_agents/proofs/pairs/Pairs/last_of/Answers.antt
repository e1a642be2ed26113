use Rattle.std.proofs.Common.{◌≡◌, false, true, arith, subst}
use Rattle.ref_agents.specs.Places.{has_pair}
use Rattle.ref_agents.proofs.PairLaws.{last_here, last_greatest, none_here}
use Rattle.ref_agents.proofs.pairs.Pairs.last_of.Goals as goal

pub returns-in_err-y-clause-none : goal.returns-in_err-y-clause-none
returns-in_err-y-clause-none c none b below =
    subst (λ l. has_pair l c.args.x b ≡ false) c.self.view_is
    (none_here c.self.inside.pairs c.args.x 0 18446744073709551615 _ _ c.range.result c.new.ensures.start c.new.ensures.end (c.range.ensures.in_range c.new.ensures.exhausted) c.in_err-y.ensures.steps.0 b (omega arith) (omega (arith, below)))

pub returns-clause-here : goal.returns-clause-here
returns-clause-here c =
    subst (λ l. has_pair l c.args.x c.in_ok-y.field-0.now.1 ≡ true) c.self.view_is
    (last_here c.self.inside.pairs c.args.x 0 18446744073709551615 _ _ c.range.result c.new.ensures.start c.new.ensures.end (c.range.ensures.in_range c.new.ensures.exhausted) c.in_ok-y.field-0.now c.next_back.new.self c.in_ok-y.ensures.steps)

pub returns-clause-last : goal.returns-clause-last
returns-clause-last c b above below =
    subst (λ l. has_pair l c.args.x b ≡ false) c.self.view_is
    (last_greatest c.self.inside.pairs c.args.x 0 18446744073709551615 _ _ c.range.result c.new.ensures.start c.new.ensures.end (c.range.ensures.in_range c.new.ensures.exhausted) c.in_ok-y.field-0.now c.next_back.new.self c.in_ok-y.ensures.steps b (omega arith) (omega (arith, below)) above)
