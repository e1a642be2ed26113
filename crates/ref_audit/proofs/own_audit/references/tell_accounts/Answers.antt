use Rattle.std.proofs.Common.{◌≡◌, false, is_some, below_more, arith, rules}
use Rattle.ref_agents.specs.Agents.{account_at}
use Rattle.ref_audit.proofs.OwnFacts.{accounts_here, accounts_past}
use Rattle.ref_audit.proofs.own_audit.references.tell_accounts.Goals as goal

pub loop-g-preserved : goal.loop-g-preserved
loop-g-preserved c = below_more _ _ c.loop-g.invariant c.tell_account_of.ensures.fact

pub returns-then-not-tell_account_of : goal.returns-then-not-tell_account_of
returns-then-not-tell_account_of c =
    let agents = c.args.world.now.agents.agents in
    let none : is_some (account_at agents c.loop-g.g) ≡ false = search rules in
    accounts_here agents c.loop-g.g c.loop-g.invariant none

pub returns : goal.returns
returns c = accounts_past c.args.world.now.agents.agents c.loop-g.g c.loop-g.invariant (omega arith)
